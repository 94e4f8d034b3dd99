use mathlib.Core.Path.{refl, sym, ap, ◌∙◌}
use borrow.Author.Rules.{rules}
use Rattle.lookup.specs.View.{view_of}
use Rattle.definition.specs.Step.{seen}
use Rattle.bounds.proofs.Offered.{well_seen}
use Rattle.bridge.proofs.Fit.{bank_low, line_few, places}
use Rattle.bridge.proofs.StepLaws.{declines, step_declines}
use Rattle.bridge.proofs.TalkLaws.{eleven_if, talked_undone, talked_done}
use Rattle.bridge.proofs.on_other.Goals as goal

pub returns-then-overfull : goal.returns-then-overfull
returns-then-overfull c =
    let p = c.args.profile.now in
    let s = c.args.session.now in
    rw c.refused.ensures
    (declines _ 11 p s _ _ _ refl
    (step_declines (view_of p) (seen p s) c.args.e c.args.answers.now 10 (sym c.overfull.ensures.eleven ∙ ap eleven_if c.if-overfull.true)))

pub setting_of-at-requires : goal.setting_of-at-requires
setting_of-at-requires c = bank_low c.args.profile.now c.args.session.now c.requires.session_value c.requires.profile_value

pub talk-t-requires : goal.talk-t-requires
talk-t-requires c =
    record { profile_value = c.requires.profile_value; session_value = c.requires.session_value; in_bounds = c.requires.in_bounds; in_bounds_2 = c.requires.in_bounds_2; what_value = c.requires.what_value; time_value = sym c.overfull.ensures.eleven ∙ ap eleven_if c.if-overfull.false; at_value = c.setting_of-at.ensures; lamps_value = refl; silenced_value = refl; few_value = c.overfull.ensures.few }

pub after-requires : goal.after-requires
after-requires c =
    let p = c.args.profile.now in
    let s = c.args.session.now in
    record { bank_bound = bank_low p s c.requires.session_value c.requires.profile_value; count_bound = line_few p s c.requires.session_value; count_bound_2 = c.talk-t.ensures.silenced_bound; known_if = c.talk-t.ensures.talks.known }

pub returns-then-changed : goal.returns-then-changed
returns-then-changed c =
    let p = c.args.profile.now in
    let s = c.args.session.now in
    rw c.if-changed.true
    (talked_done p c.requires.profile_value s (well_seen p s (search rules) c.requires.session_value) c.args.e c.args.answers.now
    (sym c.overfull.ensures.eleven ∙ ap eleven_if c.if-overfull.false) _ _ c.talk-t.result _ _ _ _ c.talk-t.ensures.talks _ c.is_done-changed.ensures c.requires.what_value c.if-changed.true _
    c.setting_of-at.ensures _ c.after.ensures.lasts c.after.ensures.keeps_places (places p s c.requires.session_value))

pub returns-else-changed : goal.returns-else-changed
returns-else-changed c =
    let p = c.args.profile.now in
    let s = c.args.session.now in
    rw c.if-changed.false
    (talked_undone p c.requires.profile_value s (well_seen p s (search rules) c.requires.session_value) c.args.e c.args.answers.now
    (sym c.overfull.ensures.eleven ∙ ap eleven_if c.if-overfull.false) _ _ c.talk-t.result _ _ _ _ c.talk-t.ensures.talks _ c.is_done-changed.ensures c.if-changed.false)
