-- A press of which number 11 says that it fits leaves at most 256 silenced targets, none twice. Assumes nothing.
use Rattle.std.specs.Prelude.{ℕ, ◌+◌, ◌≤◌, ◌≡◌, Bool, ◌||◌, length}
use Rattle.std.proofs.Common.{sym, ◌∙◌, arith, length-append}
use Rattle.std.proofs.Math.Bool.{true, false}
use mathlib.Core.List.{List, [], ◌++◌}
use Rattle.std.proofs.Math.Dec.{eqb}
use Rattle.std.proofs.lemmas.List.{length-map}
use Rattle.base.specs.Choice.{pick}
use Rattle.base.specs.Keyed.{no_twice}
use Rattle.protocol.specs.Protocol.{kind_of, channel_of}
use Rattle.drivers.specs.Talk.{Talk, Act, next}
use Rattle.session.specs.Session.{targets_of}
use Rattle.session.specs.WellLists.{same_silenced}
use Rattle.definition.specs.Muting.{added_by_solo, added_by_mute}
use Rattle.definition.specs.Buttons.{Press, Pressed, page, walk, command, rec_loads, rec_as, rec, select_as, mute_as, solo_as, or_first, press_of, button, added_by}
use Rattle.definition.proofs.SilencingLaws.{fits, once_keys, Within, held, mute_so, solo_so}

-- ── any press ──

module _ (p : Press) (o : no_twice same_silenced p.silenced ≡ true) where
  abbrev Adds : List ℕ → Act Pressed → Type 0
  Adds adds f = (t : Talk) → Within (targets_of p.silenced ++ adds) (f t).value.silenced

  module _ (adds : List ℕ) where
    page_adds : (right : Bool) → Adds adds (page right p)
    unfolding next
    page_adds right t = held p.silenced adds o

    walk_adds : (right : Bool) → Adds adds (walk right p)
    unfolding next
    walk_adds right t = held p.silenced adds o

    rec_as_adds : (b : Bool) (ch : ℕ) → Adds adds (rec_as b ch p)
    unfolding next
    rec_as_adds true ch t = held p.silenced adds o
    rec_as_adds false ch t = held p.silenced adds o

    rec_adds : (ch : ℕ) → Adds adds (rec ch p)
    unfolding next
    rec_adds ch t = let u = rec_loads p.rig t in rec_as_adds u.value ch u.talk

    select_adds : (b : Bool) (ch : ℕ) → Adds adds (select_as b ch p)
    unfolding next
    select_adds true ch t = held p.silenced adds o
    select_adds false ch t = held p.silenced adds o

    either : (b : Bool) (f g : Act Pressed) → Adds adds f → Adds adds g → Adds adds (pick b f g)
    either true f g x y = x
    either false f g x y = y

  -- mute and solo, and else what adds nothing
  mute-solo : (a b : Bool) (n : ℕ) (f : Act Pressed) → Adds [] f →
      Adds (pick a (added_by_mute p.rig n (targets_of p.silenced)) (pick b (added_by_solo p.rig n p.lamps (targets_of p.silenced)) []))
      (pick a (mute_as n p) (pick b (solo_as n p) f))
  unfolding next
  mute-solo true b n f h t = mute_so p.silenced o p.rig n p.lamps t
  mute-solo false true n f h t = solo_so p.silenced o p.rig n p.lamps t
  mute-solo false false n f h t = h t

  button_adds : (note : ℕ) → Adds (added_by note p) (button note p)
  unfolding button press_of added_by
  button_adds note =
      let kind = kind_of note in
      let ch = or_first (channel_of note) in
      let adds = added_by note p in
      either adds (eqb kind 7) (page true p) _ (page_adds adds true)
      (either adds (eqb kind 6) (page false p) _ (page_adds adds false)
      (either adds (eqb kind 5 || eqb kind 9) (walk true p) _ (walk_adds adds true)
      (either adds (eqb kind 4 || eqb kind 8) (walk false p) _ (walk_adds adds false)
      (mute-solo (eqb kind 2) (eqb kind 1) (ch + 1) _
      (either [] (eqb kind 0) (rec ch p) _ (rec_adds [] ch)
      (either [] (eqb kind 3) (select_as p.rig.here.part.select ch p) (command kind p) (select_adds [] p.rig.here.part.select ch)
      (λ t. held p.silenced [] o)))))))

-- a press that fits leaves at most 256 silenced targets, none twice
pub press_silenced : (p : Press) (note : ℕ) (t : Talk) → no_twice eqb (targets_of p.silenced) ≡ true →
    length p.silenced + length (added_by note p) ≤ 256 →
    (length (button note p t).value.silenced ≤ 256) × (no_twice eqb (targets_of (button note p t).value.silenced) ≡ true)
press_silenced p note t o few =
    let s = p.silenced in
    let after = (button note p t).value.silenced in
    let m = targets_of s ++ added_by note p in
    let w : Within m after = button_adds p (sym (once_keys (λ e. e.target) s) ∙ o) note t in
    let long : length m ≡ length (targets_of s) + length (added_by note p) = length-append (targets_of s) (added_by note p) in
    let same : length (targets_of s) ≡ length s = length-map s (λ e. e.target) in
    let short : length after ≤ length m = fits (λ e. e.target) after m w.once w.all in
    (omega arith, once_keys (λ e. e.target) after ∙ w.once)
