use mathlib.Core.Path.{◌≡◌, ap, ◌∙◌}
use native.Mathlib.Omega.{arith}
use Prim.Native.Nat.{ℕ, ◌≤◌}
use mathlib.Core.List.{List}
use lib.ListN.{length, take, length-take}
use Rattle.session.specs.Session.{seen_silenced, targets_of}
use Rattle.session.specs.declared.Silenced.{Silenced}
use Rattle.bridge.specs.Which.{adds_by}
use Rattle.bridge.proofs.Fit.{bank_low, live_is, silenced_few}
use Rattle.bridge.proofs.HandLaws.{rig_is}
use Rattle.bridge.proofs.TalkLaws.{adds_few, rig_now_lem, targets_long, over_so}
use Rattle.bridge.proofs.overfull.Goals as goal

pub current-here-requires : goal.current-here-requires
current-here-requires c =
    let s = c.args.session.now in
    record { bank_bound = bank_low c.args.profile.now s c.requires.session_value c.requires.profile_value; banks_value = live_is c.args.profile.now s c.requires.session_value }

pub targets-silenced_targets-requires : goal.targets-silenced_targets-requires
targets-silenced_targets-requires c = silenced_few c.args.profile.now c.args.session.now c.requires.session_value

-- at most as many targets as the count says
fewer : (z : Silenced) (ts : List ℕ) → z.count ≤ 256 → ts ≡ take z.count z.targets → ts ≡ targets_of (seen_silenced z) → length (seen_silenced z) ≤ 256
fewer z ts few kept shown =
    let same : length ts ≡ length (seen_silenced z) = ap length shown ∙ targets_long (seen_silenced z) in
    let short : length ts ≤ z.count = rw kept (omega (arith, length-take z.count z.targets)) in
    omega arith

pub overflow_add-result : goal.overflow_add-result
overflow_add-result c =
    let s = c.args.session.now in
    let few = fewer s.silenced _ (silenced_few c.args.profile.now s c.requires.session_value) c.targets-silenced_targets.ensures.kept c.targets-silenced_targets.ensures.seen in
    let same = ap length c.targets-silenced_targets.ensures.seen ∙ targets_long (seen_silenced s.silenced) in
    omega (arith, few, same, c.added_by-added.ensures, adds_few c.current-here.result s.lamps c.press_of.result c.targets-silenced_targets.result.now)

pub returns : goal.returns
returns c =
    let p = c.args.profile.now in
    let s = c.args.session.now in
    let few = fewer s.silenced _ (silenced_few p s c.requires.session_value) c.targets-silenced_targets.ensures.kept c.targets-silenced_targets.ensures.seen in
    let same = ap length c.targets-silenced_targets.ensures.seen ∙ targets_long (seen_silenced s.silenced) in
    let added = c.added_by-added.ensures ∙ ap (λ l. length (adds_by c.current-here.result s.lamps c.press_of.result l)) c.targets-silenced_targets.ensures.seen in
    record {
      eleven =
          over_so p s c.current-here.result c.args.e.time (rig_now_lem p s ∙ rig_is p s s.bank _ c.current-here.ensures) few c.args.e.what
          c.requires.what_value c.press_of.result c.press_of.ensures _ (omega (arith, same, added));
      few = few;
    }
