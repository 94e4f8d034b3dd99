-- What number 8 lets pass is what the handlers ask for, and what an event leaves passes it again. Assumes nothing.
use Rattle.std.proofs.Common.{None}
use Prim.Native.Nat.{ℕ, suc, ◌+◌, ◌≤◌, ◌<◌}
use mathlib.Core.Path.{◌≡◌, refl}
use mathlib.Core.Bool.{Bool, true, false, ◌||◌, not, true≢false}
use mathlib.Core.List.{List, [], ◌∷◌, map}
use native.Mathlib.Omega.{arith}
use lib.Dec.{eqb, leb}
use lib.ListN.{get_or, take}
use borrow.Author.Tests.{leb-true, ltb-true, le-leb, lt-ltb, eqb-true}
use Rattle.base.specs.Choice.{pick}
use Rattle.base.specs.Range.{every}
use Rattle.base.proofs.RangeLaws.{and_left, and_right, every-at}
use Rattle.base.specs.Keyed.{all_of, no_twice}
use Rattle.base.proofs.Pigeon.{left_of_lem, right_of}
use Rattle.profile.specs.Profile.{bank_count, verdict}
use Rattle.profile.proofs.Accepted.{few_banks}
use Rattle.session.specs.Session.{seen_line, seen_turns, is_encoder, seen_silenced, targets_of, seen_strips, strips_or, strips_if, good_strip, same_number}
use Rattle.session.specs.WellLists.{WellLine, WellStrips}
use Rattle.session.specs.declared.Session.{Session}
use Rattle.session.specs.declared.Flash.{Flash}
use Rattle.session.specs.declared.Strips.{Strips}
use Rattle.definition.specs.Shape.{shaped_line, shaped_strips, good_turn, shaped_turns, shaped_silenced, shaped_flash, well_shaped}
use Rattle.definition.specs.Step.{seen}
use Rattle.surface.specs.Note.{has_note}
use Rattle.bounds.specs.Well.{Well}
use Rattle.bounds.proofs.Offered.{line_well}
use Rattle.after.specs.After.{few_strips, Places}

-- ── the flash ──

flash_tests : (f : Flash) → shaped_flash f ≡ true → f.on ≡ true → f.base + f.column ≤ 255
unfolding shaped_flash
flash_tests f e on = at f.on on e
  where
    tests : List Bool
    tests = leb f.row 7 ∷ leb f.column 7 ∷ (eqb f.base 0 || eqb f.base 8) ∷ leb 1 f.sent ∷ leb f.sent 6 ∷ []

    base_at : (b : Bool) → eqb f.base 0 ≡ b → (b || eqb f.base 8) ≡ true → f.base ≤ 8
    base_at true q h = omega (arith, eqb-true f.base 0 q)
    base_at false q h = omega (arith, eqb-true f.base 8 h)

    at : (b : Bool) → b ≡ true → (not b || every tests) ≡ true → f.base + f.column ≤ 255
    at true q h =
        let column : f.column ≤ 7 = leb-true f.column 7 (every-at tests 1 h) in
        let base : f.base ≤ 8 = base_at (eqb f.base 0) refl (every-at tests 2 h) in
        omega arith
    at false q h = absurd (true≢false (rw q))

flash_note : (f : Flash) → shaped_flash f ≡ true → has_note f ≡ true
flash_note f e = at f.on refl
  where
    at : (b : Bool) → f.on ≡ b → pick b (leb (f.base + f.column) 255) true ≡ true
    at true q = le-leb (f.base + f.column) 255 (flash_tests f e q)
    at false q = refl

-- ── the session ──

module _ (p : List ℕ) (s : Session) (e : well_shaped p s ≡ true) where
  pub bank_below : s.bank < bank_count p
  unfolding well_shaped
  bank_below = ltb-true s.bank (bank_count p) (every-at _ 0 e)

  pub bank_low : verdict p ≡ 0 → s.bank < 16
  bank_low accepted = omega (arith, bank_below, few_banks p accepted)

  pub line_is : WellLine (seen_line s.line)
  unfolding well_shaped
  line_is = line_well s.line (every-at _ 1 e)

  pub line_few : s.line.count ≤ 16
  unfolding well_shaped shaped_line
  line_few = leb-true s.line.count 16 (every-at _ 0 (every-at _ 1 e))

  pub live_is : all_of shaped_strips s.live.banks ≡ true
  unfolding well_shaped
  live_is = every-at _ 2 e

  pub turns_few : s.turns.count ≤ 136
  unfolding well_shaped shaped_turns
  turns_few = leb-true s.turns.count 136 (every-at _ 0 (every-at _ 3 e))

  pub turns_wired : all_of (is_encoder p) (take s.turns.count s.turns.records) ≡ true
  unfolding well_shaped shaped_turns
  turns_wired = every-at _ 1 (every-at _ 3 e)

  pub sums_low : all_of good_turn (seen_turns p s.turns) ≡ true
  unfolding well_shaped shaped_turns
  sums_low = every-at _ 2 (every-at _ 3 e)

  pub silenced_few : s.silenced.count ≤ 256
  unfolding well_shaped shaped_silenced
  silenced_few = leb-true s.silenced.count 256 (and_left (leb s.silenced.count 256) _ (every-at _ 4 e))

  pub silenced_once : no_twice eqb (targets_of (seen_silenced s.silenced)) ≡ true
  unfolding well_shaped shaped_silenced
  silenced_once = and_right (leb s.silenced.count 256) _ (every-at _ 4 e)

  flash-is : shaped_flash s.lamps.flash ≡ true
  unfolding well_shaped
  flash-is = every-at _ 5 e

  pub note_is : has_note s.lamps.flash ≡ true
  note_is = flash_note s.lamps.flash flash-is

  live_few : (l : List Strips) → all_of shaped_strips l ≡ true → all_of few_strips l ≡ true
  unfolding all_of shaped_strips
  live_few [] h = refl
  live_few (x ∷ l) h =
      rw (few_at x.known (left_of_lem (shaped_strips x) (all_of shaped_strips l) h)) (live_few l (right_of (shaped_strips x) (all_of shaped_strips l) h))
    where
      few_at : (b : Bool) →
          (not b || every (leb x.count 8 ∷ all_of good_strip (take x.count x.list) ∷ no_twice same_number (take x.count x.list) ∷ [])) ≡ true →
          (not b || leb x.count 8) ≡ true
      few_at true q = every-at _ 0 q
      few_at false q = refl

  -- its lists are within their places
  pub places : Places p s
  places =
      record {
        line = line_few;
        turns = turns_few;
        encoders = turns_wired;
        silenced = silenced_few;
        live = live_few s.live.banks live_is;
      }

-- ── and back: a session within its places that is seen well shaped is so ──

strips_again : (s : Strips) → few_strips s ≡ true → WellStrips (strips_or (seen_strips s)) → shaped_strips s ≡ true
unfolding shaped_strips seen_strips every
strips_again s h w = at s.known h w
  where
    at : (b : Bool) → (not b || leb s.count 8) ≡ true → WellStrips (strips_or (strips_if b (take s.count s.list))) →
        (not b || every (leb s.count 8 ∷ all_of good_strip (take s.count s.list) ∷ no_twice same_number (take s.count s.list) ∷ [])) ≡ true
    at true q v = rw (q, v.good, v.once)
    at false q v = refl

lives_again : (l : List Strips) → all_of few_strips l ≡ true → ((b : ℕ) → WellStrips (strips_or (get_or (map seen_strips l) b None))) → all_of shaped_strips l ≡ true
unfolding all_of
lives_again [] h w = refl
lives_again (x ∷ l) h w =
    rw (strips_again x (left_of_lem (few_strips x) (all_of few_strips l) h) (w 0)) (lives_again l (right_of (few_strips x) (all_of few_strips l) h) (λ b. w (suc b)))

pub shaped-again : (p : List ℕ) (s : Session) → Well p (seen p s) → Places p s → well_shaped p s ≡ true
unfolding well_shaped shaped_line shaped_turns shaped_silenced seen every
shaped-again p s w f =
    rw (
      lt-ltb s.bank (bank_count p) w.bank,
      le-leb s.line.count 16 f.line,
      w.line.low,
      w.line.once,
      lives_again s.live.banks f.live w.lives,
      le-leb s.turns.count 136 f.turns,
      f.encoders,
      w.sums,
      w.destinations,
      le-leb s.silenced.count 256 f.silenced,
      w.targets,
      w.flash,
    )
