use native.Mathlib.Omega.{arith}
use mathlib.Core.Path.{refl, subst}
use Rattle.after.specs.After.{Fades}
use borrow.Author.Rules.{rules}
use Rattle.session.proofs.SessionLaws.{line_room}
use Rattle.bridge.proofs.Fit.{bank_low, line_is, line_few, live_is}
use Rattle.bridge.proofs.HandLaws.{in_control}
use Rattle.bridge.proofs.in_control.Goals as goal

pub current-here-requires : goal.current-here-requires
current-here-requires c =
    let s = c.args.session.now in
    record { bank_bound = bank_low c.args.profile.now s c.requires.session_value c.requires.profile_value; banks_value = live_is c.args.profile.now s c.requires.session_value }

pub faded-requires : goal.faded-requires
faded-requires c =
    let p = c.args.profile.now in
    let s = c.args.session.now in
    record { k_bound = omega (arith, c.place-k.ensures, bank_low p s c.requires.session_value c.requires.profile_value, c.requires.channel_bound); count_bound = line_few p s c.requires.session_value; line_value = line_room _ c.args.channel (line_is p s c.requires.session_value) c.requires.channel_bound }

pub returns : goal.returns
returns c answers ms cs =
    let p = c.args.profile.now in
    let s = c.args.session.now in
    rw c.silent.ensures
    (in_control p s c.args.channel c.args.value answers c.current-here.result c.current-here.ensures c.in_control-verdict.result c.in_control-verdict.ensures
    c.requires.marks_value c.requires.profile_value c.requires.session_value (search rules) c.requires.channel_bound _ refl c.faded.new.session
    (subst (λ k. Fades s c.in_control-verdict.result k c.args.channel c.args.value s.opened c.faded.new.session) c.place-k.ensures c.faded.ensures.fades) c.faded.ensures.keeps_places ms cs)
