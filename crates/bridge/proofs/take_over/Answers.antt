use native.Mathlib.Omega.{arith}
use mathlib.Core.Path.{◌≡◌, subst}
use Rattle.after.specs.After.{Fades}
use Rattle.base.proofs.KeyedLaws.{long}
use lib.ListN.{length}
use Rattle.session.proofs.SessionLaws.{line_room}
use Rattle.bridge.proofs.Fit.{bank_low, line_is, line_few}
use Rattle.bridge.proofs.HandLaws.{asked_undone, asked_done}
use Rattle.bridge.proofs.take_over.Goals as goal

pub faded-requires : goal.faded-requires
faded-requires c =
    let p = c.args.profile.now in
    let s = c.args.session.now in
    record {
      k_bound = omega (arith, c.place-k.ensures, bank_low p s c.requires.session_value c.requires.profile_value, c.requires.channel_bound);
      count_bound = line_few p s c.requires.session_value;
      line_value = line_room _ c.args.channel (line_is p s c.requires.session_value) c.requires.channel_bound;
    }

pub returns-then-changed : goal.returns-then-changed
returns-then-changed c =
    let s = c.args.session.now in
    let opened_long : length s.opened ≡ 16 = search long in
    rw c.if-changed.true
    (asked_done c.args.profile.now s c.args.channel c.args.value _ _ _ _ _ _ c.ask-a.ensures c.requires.profile_value c.requires.session_value opened_long
    c.requires.channel_bound _ c.is_done-changed.ensures c.if-changed.true _
    (subst (λ k. Fades s c.ask-a.result.verdict k c.args.channel c.args.value c.ask-a.result.opened c.faded.new.session) c.place-k.ensures c.faded.ensures.fades)
    c.faded.ensures.keeps_places)

pub returns-else-changed : goal.returns-else-changed
returns-else-changed c =
    let opened_long : length c.args.session.now.opened ≡ 16 = search long in
    rw c.if-changed.false
    (asked_undone c.args.profile.now c.args.session.now _ _ _ _ _ _ _ _ c.ask-a.ensures c.requires.profile_value c.requires.session_value opened_long
    c.requires.channel_bound _ c.is_done-changed.ensures c.if-changed.false)
