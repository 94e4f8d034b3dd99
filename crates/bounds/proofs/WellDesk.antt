-- The line and the encoders' sums stay well shaped: a move takes its channel's place, a turn adds to its destination's sum.
use Prim.Native.Nat.{ℕ, suc, ◌+◌, ◌≤◌, ◌<◌}
use Rattle.std.proofs.Math.Path.{◌≡◌, refl}
use Rattle.std.specs.Prelude.{Bool, ◌&&◌, not, ℤ, ◌+ℤ◌, Float, None, Option, Some}
use Rattle.std.proofs.Math.Bool.{true, false}
use mathlib.Core.List.{List, [], ◌∷◌}
use native.Mathlib.Omega.{arith}
use Rattle.std.proofs.Math.Dec.{leb}
use Rattle.std.proofs.Math.ListN.{length}
use borrow.Author.Tests.{leb-false, eq-eqb}
use Rattle.base.specs.Choice.{pick}
use Rattle.base.specs.Keyed.{find, change, all_of, no_twice}
use Rattle.base.proofs.KeyedLaws.{change_long}
use Rattle.base.proofs.Pigeon.{left_of_lem, right_of}
use Rattle.profile.specs.Profile.{byte_at}
use Rattle.lookup.specs.Lookup.{entry, precede, found_at, control_of}
use Rattle.lookup.proofs.LookupLaws.{entry-is}
use Rattle.lookup.specs.View.{view_of}
use Rattle.lookup.specs.declared.Destination.{Destination}
use Rattle.drivers.specs.Talk.{Talk, next}
use Rattle.session.specs.Session.{Turn, is_marked, last_move, turn, add_to, first_turn, is_dest, same_turn}
use Rattle.session.specs.WellLists.{WellLine}
use Rattle.session.proofs.SessionLaws.{line_empty, line_place, turn_once}
use Rattle.definition.specs.Rig.{Lives, Rig, rig_of, destination, encoder_dest}
use Rattle.definition.specs.Levels.{read}
use Rattle.definition.specs.Faders.{Desk, is_held, key_of, hold_move, take_move, moved_if, fader_if, fader_to, fader, in_range, declined_by, turn_to, encoder, refusal_to, turn_refusal, drained}
use Rattle.definition.specs.Shape.{good_turn}
use Rattle.definition.specs.Step.{unmarked, unmarked_at}
use Rattle.bounds.specs.Drivers.{Each, no_more, one_more}
use Rattle.bounds.specs.Well.{Wired, WiredTurn}

-- ── sums ──

-- what document 01 asks of the sums that wait
pub record WellTurns (p : List ℕ) (l : List Turn) : Type 0 where
  pub few : length l ≤ 136
  pub wired : Each (WiredTurn p) l
  pub sums : all_of good_turn l ≡ true
  pub destinations : no_twice same_turn l ≡ true

-- a list in which one is changed, or that has one more
module _ {A : Type 0} (f : A → Bool) (g : A → A) (y : A) where
  change_found : (l : List A) (z : A) → find f l ≡ Some z → length (change f g y l) ≤ length l
  unfolding change find
  change_found [] z e = absurd (let q : ◌≡◌ {A = ℕ} 0 1 = cc in omega arith)
  change_found (x ∷ l) z e = go (f x) e (change_found l z)
    where
      go : (b : Bool) → pick b (Some x) (find f l) ≡ Some z → (find f l ≡ Some z → length (change f g y l) ≤ length l) →
          length (pick b (g x ∷ l) (x ∷ change f g y l)) ≤ suc (length l)
      go true q k = omega arith
      go false q k = omega (arith, k q)

  change_each : (P : A → Type 0) (l : List A) → ((x : A) → P x → P (g x)) → P y → Each P l → Each P (change f g y l)
  unfolding change
  change_each P [] i j h = one_more j no_more
  change_each P (x ∷ l) i j (one_more d h) = go (f x) (change_each P l i j h)
    where
      go : (b : Bool) → Each P (change f g y l) → Each P (pick b (g x ∷ l) (x ∷ change f g y l))
      go true k = one_more (i x d) h
      go false k = one_more d k

  -- the one that is found passes after its change; where none is, the new one passes
  abbrev Passes : (A → Bool) → Option A → Type 0
  Passes t None = t y ≡ true
  Passes t (Some z) = t (g z) ≡ true

  change-all : (t : A → Bool) (l : List A) → all_of t l ≡ true → Passes t (find f l) → all_of t (change f g y l) ≡ true
  unfolding change find all_of
  change-all t [] h k = rw k
  change-all t (x ∷ l) h k = go (f x) k (left_of_lem (t x) (all_of t l) h) (right_of (t x) (all_of t l) h) (change-all t l (right_of (t x) (all_of t l) h))
    where
      go : (b : Bool) → Passes t (pick b (Some x) (find f l)) → t x ≡ true → all_of t l ≡ true → (Passes t (find f l) → all_of t (change f g y l) ≡ true) →
          all_of t (pick b (g x ∷ l) (x ∷ change f g y l)) ≡ true
      go true q a r i = rw (q, r)
      go false q a r i = rw (a, i q)

-- a turn that is not declined
module _ (p : List ℕ) (e : Destination) (n : ℤ) (l : List Turn) (h : WellTurns p l) where
  turn_few : (o : Option Turn) → find (is_dest e) l ≡ o → declined_by o n l ≡ 0 → length (turn e n l) ≤ 136
  unfolding turn
  turn_few (Some z) q r = omega (arith, h.few, change_found (is_dest e) (add_to n) (first_turn e n) l z q)
  turn_few None q r = go (leb 136 (length l)) refl r
    where
      go : (b : Bool) → leb 136 (length l) ≡ b → pick {A = ℕ} b 13 0 ≡ 0 → length (change (is_dest e) (add_to n) (first_turn e n) l) ≤ 136
      go true i j = absurd (omega arith)
      go false i j = omega (arith, leb-false 136 (length l) i, change_long (is_dest e) (add_to n) (first_turn e n) l)

  in_range_lem : (b : Bool) → pick {A = ℕ} b 0 12 ≡ 0 → b ≡ true
  in_range_lem true q = refl
  in_range_lem false q = absurd (omega arith)

  sum_passes : (o : Option Turn) → in_range n ≡ true → declined_by o n l ≡ 0 → Passes (is_dest e) (add_to n) (first_turn e n) good_turn o
  sum_passes (Some z) low r = in_range_lem (in_range (z.sum +ℤ n)) r
  sum_passes None low r = low

  turn_well : Wired p e → in_range n ≡ true → declined_by (find (is_dest e) l) n l ≡ 0 → WellTurns p (turn e n l)
  unfolding turn
  turn_well w low r =
      record {
        few = turn_few (find (is_dest e) l) refl r;
        wired = change_each (is_dest e) (add_to n) (first_turn e n) (WiredTurn p) l (λ x i. i) w h.wired;
        sums = change-all (is_dest e) (add_to n) (first_turn e n) good_turn l h.sums (sum_passes (find (is_dest e) l) low r);
        destinations = turn_once l e n h.destinations;
      }

-- ── what an encoder is wired to ──

abbrev WiredTo : List ℕ → Option Destination → Type 0
WiredTo p (Some d) = Wired p d
WiredTo p None = Unit {0}

control_wired : (p : List ℕ) (part n : ℕ) → WiredTo p (control_of p 3 part n)
unfolding control_of
control_wired p part n = go (entry p 3 part n) refl
  where
    go : (f : Option ℕ) → entry p 3 part n ≡ f → WiredTo p (found_at p f)
    go (Some k) e =
        let w = entry-is p 3 part n k e in
        record { at = k; wires = record { in_file = w.in_file; encoder = eq-eqb (byte_at p k 0) 3 w.kind_is; to = refl } }
    go None e = tt

precede_wired : (p : List ℕ) (f g : Option Destination) → WiredTo p f → WiredTo p g → WiredTo p (precede f g)
precede_wired p (Some d) g h k = h
precede_wired p None g h k = k

turn_to_well : (p : List ℕ) (f : Option Destination) (n : ℤ) (l : List Turn) → WiredTo p f → in_range n ≡ true → refusal_to f n l ≡ 0 → WellTurns p l → WellTurns p (turn_to f n l)
turn_to_well p (Some e) n l w low r h = turn_well p e n l h w low r
turn_to_well p None n l w low r h = h

-- ── the line, and both ──

pub record WellDesk (p : List ℕ) (d : Desk) : Type 0 where
  pub line : WellLine d.line
  pub turns : WellTurns p d.turns

module _ (p : List ℕ) where
  module _ (k ch : ℕ) (x : Float) (d : Desk) (h : WellDesk p d) (low : ch < 16) where
    hold_well : WellDesk p (hold_move k x d)
    unfolding hold_move
    hold_well = record { line = h.line; turns = h.turns }

    take_well : WellDesk p (take_move k ch x d)
    unfolding take_move
    take_well = record { line = line_place d.line ch x h.line low; turns = h.turns }

    moved_well : (b : Bool) → WellDesk p (moved_if b k ch x d)
    moved_well true = hold_well
    moved_well false = take_well

    fader_if_well : (b : Bool) (e : Destination) (t : Talk) → WellDesk p (fader_if b e k ch x d t).value
    unfolding next
    fader_if_well true e t = moved_well (is_held (read e t).value (last_move k d.moves) x)
    fader_if_well false e t = take_well

    fader_to_well : (f : Option Destination) (t : Talk) → WellDesk p (fader_to f k ch x d t).value
    fader_to_well (Some e) t = fader_if_well (e.takeover && not (is_marked k d.marks)) e t
    fader_to_well None t = h

  pub fader_well : (r : Rig) (ch : ℕ) (x : Float) (d : Desk) (t : Talk) → WellDesk p d → ch < 16 → WellDesk p (fader r ch x d t).value
  unfolding fader
  fader_well r ch x d t h low = fader_to_well (key_of r ch) ch x d h low (destination r (ch + 1)) t

  pub encoder_well : (lives : Lives) (bank ch : ℕ) (n : ℤ) (d : Desk) → WellDesk p d → in_range n ≡ true →
      turn_refusal (rig_of (view_of p) lives bank) ch n d.turns ≡ 0 → WellDesk p (encoder (rig_of (view_of p) lives bank) ch n d)
  unfolding encoder turn_refusal encoder_dest
  encoder_well lives bank ch n d h low r =
      let f = encoder_dest (rig_of (view_of p) lives bank) (ch + 1) in
      let w = precede_wired p (control_of p 3 255 (ch + 1)) (control_of p 3 bank (ch + 1)) (control_wired p 255 (ch + 1)) (control_wired p bank (ch + 1)) in
      record { line = h.line; turns = turn_to_well p f n d.turns w low r h.turns }

  pub unmarked_well : (b : Bool) (d : Desk) → WellDesk p d → WellDesk p (unmarked b d)
  unmarked_well true d h = record { line = h.line; turns = h.turns }
  unmarked_well false d h = h

  pub unmarked_at_well : (b : Bool) (bank : ℕ) (d : Desk) → WellDesk p d → WellDesk p (unmarked_at b bank d)
  unmarked_at_well true bank d h = record { line = h.line; turns = h.turns }
  unmarked_at_well false bank d h = h

  pub no_turns_lem : WellTurns p []
  unfolding all_of no_twice
  no_turns_lem = record { few = omega arith; wired = no_more; sums = refl; destinations = refl }

  pub drained_well : (d : Desk) → WellDesk p (drained d)
  unfolding drained
  drained_well d = record { line = line_empty; turns = no_turns_lem }
