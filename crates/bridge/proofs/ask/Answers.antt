use mathlib.Core.Path.{refl, sym, ap, ◌∙◌}
use mathlib.Core.Bool.{false}
use borrow.Author.Rules.{rules}
use Rattle.drivers.specs.Talk.{Talk, Got}
use Rattle.definition.specs.Faders.{Desk}
use Rattle.session.specs.Session.{last_move}
use Rattle.delivery.specs.Delivery.{outcome_of, messages_after, calls_after, end_of}
use Rattle.bridge.proofs.Fit.{bank_low, live_is}
use Rattle.bridge.proofs.HandLaws.{asked, fader-is, move_room}
use Rattle.bridge.proofs.TalkLaws.{opened-shown}
use Rattle.bridge.proofs.ask.Goals as goal

pub current-here-requires : goal.current-here-requires
current-here-requires c =
    let s = c.args.session.now in
    record { bank_bound = bank_low c.args.profile.now s c.requires.session_value c.requires.profile_value; banks_value = live_is c.args.profile.now s c.requires.session_value }

pub ending-outcome-requires : goal.ending-outcome-requires
ending-outcome-requires c =
    let p = c.args.profile.now in
    let s = c.args.session.now in
    let ran = asked p s c.args.channel c.args.value c.args.answers.now c.current-here.result c.fader-verdict.result _ _ _ c.fresh-io.ensures c.fader-verdict.ensures
    c.requires.marks_value (c.last-last.ensures ∙ ap (λ k. last_move k s.moves) c.place.ensures) in
    let is = fader-is p s c.args.channel c.args.value c.args.answers.now c.current-here.result c.current-here.ensures c.fader-verdict.result _ ran in
    record {
      in_bounds = c.requires.in_bounds;
      in_bounds_2 = c.requires.in_bounds_2;
      has_room = move_room p s c.args.channel c.args.value c.args.answers.now c.fader-verdict.result _ is c.requires.profile_value c.requires.session_value (search rules) c.requires.channel_bound _ refl;
    }

pub returns : goal.returns
returns c =
    let p = c.args.profile.now in
    let s = c.args.session.now in
    let ran = asked p s c.args.channel c.args.value c.args.answers.now c.current-here.result c.fader-verdict.result _ _ _ c.fresh-io.ensures c.fader-verdict.ensures
    c.requires.marks_value (c.last-last.ensures ∙ ap (λ k. last_move k s.moves) c.place.ensures) in
    let is = fader-is p s c.args.channel c.args.value c.args.answers.now c.current-here.result c.current-here.ensures c.fader-verdict.result _ ran in
    let line = sym (ap (λ (g : Got Desk). g.talk) is) in
    record {
      outcome = c.ending-outcome.ensures.outcome ∙ ap (λ (t : Talk). outcome_of (end_of t false)) line;
      opened = opened-shown _ ∙ ap (λ (t : Talk). t.opened) line;
      left = sym (ap (λ (g : Got Desk). g.value) is);
      messages = c.ending-outcome.ensures.messages ∙ ap (λ (t : Talk). messages_after (end_of t false) c.args.messages.now) line;
      calls = c.ending-outcome.ensures.calls ∙ ap (λ (t : Talk). calls_after (end_of t false) c.args.calls.now) line;
    }
