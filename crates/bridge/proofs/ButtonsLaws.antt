-- What a pressed button leaves, from what its calls promise, whatever the silenced levels are. Assumes nothing.
use Prim.Native.Nat.{ℕ, zero, suc, ◌+◌, ◌≤◌, ◌<◌}
use mathlib.Core.Path.{◌≡◌, refl, sym, subst, ◌∙◌}
use mathlib.Core.Bool.{Bool, true, false}
use mathlib.Core.List.{List, [], ◌++◌}
use native.Mathlib.Omega.{arith}
use lib.Dec.{eqb, ltb}
use lib.ListN.{length, length-map, length-append}
use borrow.Author.Tests.{ltb-true, lt-leb}
use Rattle.std.proofs.Common.{Float, None, Option, Some}
use Rattle.base.specs.Choice.{pick}
use Rattle.base.specs.Keyed.{no_twice}
use Rattle.profile.specs.Profile.{bank_count}
use Rattle.lookup.specs.Lookup.{select_of}
use Rattle.lookup.specs.declared.Destination.{Destination}
use Rattle.drivers.specs.Talk.{Talk, got, next}
use Rattle.session.specs.Session.{SilencedLevel, targets_of, has_room}
use Rattle.session.specs.WellLists.{same_silenced}
use Rattle.definition.specs.Rig.{Rig, destination}
use Rattle.definition.specs.Levels.{kept_by, has_mute}
use Rattle.definition.specs.Lamps.{push_state}
use Rattle.definition.specs.Flash.{flash_bank}
use Rattle.definition.specs.Banks.{selected_as, next_bank, step_left, select_if, select_bank, step_if, step_bank}
use Rattle.definition.specs.Muting.{adding, added_by_mute}
use Rattle.definition.specs.Buttons.{walk, select_as}
use Rattle.definition.proofs.SilencingLaws.{held, adding_covers, room_within, once_keys}
use Rattle.session.specs.declared.Lamps.{Lamps}
use Rattle.session.specs.declared.Moves.{Moves}
use Rattle.rig.specs.Seen.{rig_in}
use Rattle.rig.specs.declared.current.Current.{Current}
use Rattle.surface.specs.declared.panel.Panel.{Panel}
use Rattle.mutes.specs.Held.{room_at}
use Rattle.bridge.specs.Presses.{selected_by, PressesThere}
use Rattle.bridge.specs.declared.buttons.Pressed.{Pressed}

-- ── the bank that is reached ──

left_low : (banks bank : ℕ) → bank < banks → step_left bank < banks
left_low banks zero h = h
left_low banks (suc b) h = omega arith

-- the next bank is one of the profile's, as the current one is
pub next_low : (right : Bool) (banks bank : ℕ) → bank < banks → next_bank right banks bank < banks
unfolding next_bank
next_low false banks bank h = left_low banks bank h
next_low true banks bank h = go (ltb (bank + 1) banks) refl
  where
    go : (b : Bool) → ltb (bank + 1) banks ≡ b → pick b (bank + 1) bank < banks
    go true e = ltb-true (bank + 1) banks e
    go false e = h

-- one bank on is to select the bank that is reached, unless it is the current one
step_is : (right : Bool) (rig_at : ℕ → Rig) (r : Rig) (banks bank i : ℕ) (s : List ℕ) (m : Moves) (now : Float) (l : Lamps) (t : Talk) →
    next_bank right banks bank ≡ i → rig_at i ≡ r → i < banks → step_bank right rig_at banks bank s m now l t ≡ select_if (eqb i bank) (λ n. r) bank i s m now l t
unfolding step_bank select_bank
step_is right rig_at r banks bank i s m now l t e a b = rw e (go (eqb i bank))
  where
    go : (c : Bool) → step_if c rig_at banks bank i s m now l t ≡ select_if c (λ n. r) bank i s m now l t
    go true = refl
    go false = rw (lt-leb banks i b, a) refl

-- ── presses that leave the silenced levels alone ──

abbrev moved : ℕ → Bool → Pressed
moved bank done = record { bank = bank; moved = done; saved = done }

module _ (here there : Current) (a b : Panel) (t u : Talk) where
  pub selects_bank : (ch : ℕ) → select_of here.profile.now here.bank ≡ true → ltb ch (bank_count here.profile.now) ≡ true →
      there.bank ≡ selected_by here.profile.now here.bank ch →
      got b.lamps u ≡ flash_bank (rig_in there) a.silenced_targets.now a.moves.now a.time a.lamps (push_state (rig_in there) a.lamps a.silenced_targets.now t) →
      PressesThere (select_as (select_of here.profile.now here.bank) ch) here there a b t (moved there.bank true) u
  unfolding next select_bank selected_by
  selects_bank ch c d to f rig_at s q i j =
      let reached : there.bank ≡ ch = to ∙ rw (c, d) in
      let r : rig_at ch ≡ rig_in there = subst (λ n. rig_at n ≡ rig_in there) reached j in
      let low : ch < bank_count here.profile.now = ltb-true ch (bank_count here.profile.now) d in
      rw (c, q, lt-leb (bank_count here.profile.now) ch low, r, ← f, ← reached)

  pub walks : (right done : Bool) → there.profile.now ≡ here.profile.now → here.bank < bank_count here.profile.now →
      there.bank ≡ next_bank right (bank_count here.profile.now) here.bank →
      got (selected_as there.bank b.lamps done) u
      ≡ select_if (eqb there.bank here.bank) (λ n. rig_in there) here.bank there.bank a.silenced_targets.now a.moves.now a.time a.lamps t →
      PressesThere (walk right) here there a b t (moved there.bank done) u
  unfolding next
  walks right done same low to f rig_at s q i j =
      let banks : ℕ = bank_count here.profile.now in
      let in-profile : there.bank < banks = subst (λ n. n < banks) (sym to) (next_low right banks here.bank low) in
      let g = f ∙ sym (step_is right rig_at (rig_in there) banks here.bank there.bank a.silenced_targets.now a.moves.now a.time a.lamps t (sym to) j in-profile) in
      rw (q, ← g)

-- ── mute ──

-- what number 11 counts leaves a mute its place
module _ (r : Rig) (fader : ℕ) (s : List SilencedLevel) (once : no_twice eqb (targets_of s) ≡ true) where
  same_once : no_twice same_silenced s ≡ true
  same_once = sym (once_keys (λ x. x.target) s) ∙ once

  room_to : (f : Option Destination) → length s + length (adding f (targets_of s) []) ≤ 256 → room_at f (targets_of s) ≡ true
  room_to None h = refl
  room_to (Some d) h = at (has_mute d) refl
    where
      ts : List ℕ
      ts = targets_of s

      adds : List ℕ
      adds = adding (Some d) ts []

      at : (c : Bool) → has_mute d ≡ c → pick c true (has_room (kept_by d) ts) ≡ true
      at true e = refl
      at false e =
          let a : length (ts ++ adds) ≡ length ts + length adds = length-append ts adds in
          let same : length ts ≡ length s = length-map s (λ x. x.target) in
          room_within (ts ++ adds) s (kept_by d) (held s adds same_once) (adding_covers ts [] (Some d) e) (omega arith)

  pub mute_room : length s + length (added_by_mute r fader (targets_of s)) ≤ 256 → room_at (destination r fader) (targets_of s) ≡ true
  unfolding added_by_mute
  mute_room h = room_to (destination r fader) h
