-- Laws of the session: no channel, target or destination waits twice, whatever is done to its list, and a line of channels below 16 has a place for
-- every channel. A driver's list without a number twice has at most eight faders on the surface. Assumes nothing.
use Rattle.std.specs.Prelude.{ℕ, zero, suc, ◌-◌, ◌≤◌, ◌<◌, ◌≡◌, Bool, eqb, leb, ltb, length, get_or, take, ℤ, Float, Some}
use Rattle.std.proofs.Math.Path.{refl}
use Rattle.std.proofs.Common.{ap, ◌∙◌, arith, length-take, take_all, lt-ltb, ltb-true, le-leb, leb-true, ne_eqb}
use Rattle.std.proofs.Math.Bool.{true, false}
use mathlib.Core.List.{List, [], ◌∷◌, map}
use Rattle.std.proofs.lemmas.List.{length-map}
use Rattle.std.specs.Float.{nan}
use Rattle.std.proofs.lemmas.Bool.{eqb-false}
use Rattle.base.specs.Choice.{pick}
use Rattle.base.specs.Range.{every}
use Rattle.base.specs.Keyed.{at, any_of, all_of, change, keep, no_twice, beside}
use Rattle.base.proofs.KeyedLaws.{each, other_none}
use Rattle.base.proofs.BesideLaws as side
use Rattle.base.proofs.RangeLaws.{and_left, and_right}
use Rattle.base.proofs.Pigeon.{pigeon, has_room_for, all_so, all-change, once_change, once_keep, left_of_lem, right_of, first_no, rest_no, no_left, no_right}
use Rattle.profile.specs.Profile.{records, is_kind}
use Rattle.lookup.specs.declared.Destination.{Destination}
use Rattle.session.specs.Session.{is_channel, move_of, place_move, has_place, Turn, turn_at, is_encoder, wires_to, is_dest, same_turn, add_to, first_turn, turn, SilencedLevel, silenced_at, silenced_up_to, targets_of, insert_level, other_target, remove_level, seen_strips, strips_if, good_strip, same_number, on_surface, strip_of, strips_of, low_channel}
use Rattle.drivers.specs.declared.LiveFader.{LiveFader}
use Rattle.session.specs.declared.Move.{Move}
use Rattle.session.specs.declared.Strip.{Strip}
use Rattle.session.specs.declared.Strips.{Strips}
use Rattle.session.specs.WellLists.{WellLine, WellStrips, same_silenced, same_fader, sums_in}

-- ── any list ──

-- keys below `top`, none twice: whichever of them is not there has room
key_room : {A : Type 0} (key : A → ℕ) (top : ℕ) (l : List A) (x : A) →
    all_of (λ y. ltb (key y) top) l ≡ true → no_twice (λ y z. eqb (key y) (key z)) l ≡ true → key x < top →
    pick (any_of (λ y. eqb (key y) (key x)) l) true (ltb (length l) top) ≡ true
key_room key top l x low once h = go (any_of (λ y. eqb (key y) (key x)) l) refl
  where
    go : (b : Bool) → any_of (λ y. eqb (key y) (key x)) l ≡ b → pick b true (ltb (length l) top) ≡ true
    go true e = refl
    go false e = lt-ltb (length l) top (has_room_for key top l x low once h e)

-- a change that leaves what is the same as what, where the new one is the same as just those that pass
module _ {A : Type 0} (same : A → A → Bool) (is : A → Bool) (g : A → A) (y : A) (new : (x : A) → same x y ≡ is x)
    (to : (x z : A) → same x (g z) ≡ same x z) (from : (x z : A) → same (g x) z ≡ same x z) where
  any-from : (x : A) (l : List A) → any_of (same x) l ≡ false → any_of (same (g x)) l ≡ false
  unfolding any_of
  any-from x [] e = refl
  any-from x (z ∷ l) e =
      rw (from x z, first_no (same x z) (any_of (same x) l) e) (any-from x l (rest_no (same x z) (any_of (same x) l) e))

  any-change : (x : A) (l : List A) → is x ≡ false → any_of (same x) l ≡ false → any_of (same x) (change is g y l) ≡ false
  unfolding any_of change
  any-change x [] h e = rw (new x, h)
  any-change x (z ∷ l) h e =
      go (is z) (first_no (same x z) (any_of (same x) l) e) (rest_no (same x z) (any_of (same x) l) e)
      (any-change x l h (rest_no (same x z) (any_of (same x) l) e))
    where
      go : (b : Bool) → same x z ≡ false → any_of (same x) l ≡ false → any_of (same x) (change is g y l) ≡ false →
          any_of (same x) (pick b (g z ∷ l) (z ∷ change is g y l)) ≡ false
      go true p q r = rw (to x z, p, q)
      go false p q r = rw (p, r)

  same-change : (l : List A) → no_twice same l ≡ true → no_twice same (change is g y l) ≡ true
  unfolding no_twice change any_of
  same-change [] e = refl
  same-change (x ∷ l) e =
      go (is x) refl (no_left (any_of (same x) l) (no_twice same l) e) (no_right (any_of (same x) l) (no_twice same l) e)
      (same-change l (no_right (any_of (same x) l) (no_twice same l) e))
    where
      go : (b : Bool) → is x ≡ b → any_of (same x) l ≡ false → no_twice same l ≡ true → no_twice same (change is g y l) ≡ true →
          no_twice same (pick b (g x ∷ l) (x ∷ change is g y l)) ≡ true
      go true q a n r = rw (any-from x l a, n)
      go false q a n r = rw (any-change x l q a, r)

-- what is kept passes
all_keep : {A : Type 0} (f : A → Bool) (l : List A) → all_of f (keep f l) ≡ true
unfolding all_of keep
all_keep f [] = refl
all_keep f (x ∷ l) = go (f x) refl (all_keep f l)
  where
    go : (b : Bool) → f x ≡ b → all_of f (keep f l) ≡ true → all_of f (pick b (x ∷ keep f l) (keep f l)) ≡ true
    go true q k = rw (q, k)
    go false q k = k

-- each made into another
module _ {A B : Type 0} (h : A → B) where
  all_map : (f : A → Bool) (g : B → Bool) → ((x : A) → f x ≡ true → g (h x) ≡ true) →
      (l : List A) → all_of f l ≡ true → all_of g (map h l) ≡ true
  unfolding all_of
  all_map f g r [] e = refl
  all_map f g r (x ∷ l) e = rw (r x (left_of_lem (f x) (all_of f l) e)) (all_map f g r l (right_of (f x) (all_of f l) e))

  any-map : (f : A → Bool) (g : B → Bool) → ((x : A) → g (h x) ≡ f x) → (l : List A) → any_of g (map h l) ≡ any_of f l
  unfolding any_of
  any-map f g r [] = refl
  any-map f g r (x ∷ l) = rw (r x, any-map f g r l)

  once_map : (s : A → A → Bool) (t : B → B → Bool) → ((x y : A) → t (h x) (h y) ≡ s x y) → (l : List A) → no_twice t (map h l) ≡ no_twice s l
  unfolding no_twice
  once_map s t r [] = refl
  once_map s t r (x ∷ l) = rw (any-map (s x) (t (h x)) (r x) l, once_map s t r l)

-- ── the line ──

pub line_empty : WellLine []
unfolding all_of no_twice
line_empty = record { low = refl; once = refl }

below_16 : (l : List Move) → WellLine l → all_of (λ m. ltb m.channel 16) l ≡ true
below_16 l w = all_so low_channel (λ m. ltb m.channel 16) (λ m h. lt-ltb m.channel 16 (omega (arith, leb-true m.channel 15 h))) l w.low

pub line_fits : (l : List Move) → WellLine l → length l ≤ 16
line_fits l w = pigeon (λ m. m.channel) 16 l (below_16 l w) w.once

-- there is a place for every channel
pub line_room : (l : List Move) (ch : ℕ) → WellLine l → ch < 16 → has_place ch l ≡ true
unfolding has_place
line_room l ch w h = key_room (λ m. m.channel) 16 l (move_of ch nan) (below_16 l w) w.once h

-- and a move that takes it leaves the line so
pub line_place : (l : List Move) (ch : ℕ) (v : Float) → WellLine l → ch < 16 → WellLine (place_move ch v l)
unfolding place_move
line_place l ch v w h =
    let k : leb ch 15 ≡ true = le-leb ch 15 (omega arith) in
    record {
      low = all-change low_channel (is_channel ch) (λ m. move_of ch v) (move_of ch v) k (λ m. k) l w.low;
      once = once_change (λ m. m.channel) ch (λ m. move_of ch v) (move_of ch v) (λ m. refl) refl l w.once;
    }

-- ── silenced levels ──

pub insert_level_once : (l : List SilencedLevel) (target : ℕ) (v : Float) → no_twice same_silenced l ≡ true → no_twice same_silenced (insert_level target v l) ≡ true
unfolding insert_level
insert_level_once l target v e = once_change (λ h. h.target) target (λ h. silenced_at target v) (silenced_at target v) (λ h. refl) refl l e

pub remove_level_once : (l : List SilencedLevel) (target : ℕ) → no_twice same_silenced l ≡ true → no_twice same_silenced (remove_level target l) ≡ true
unfolding remove_level
remove_level_once l target e = once_keep same_silenced (other_target target) l e

-- ── the encoders' sums ──

pub turn_once : (l : List Turn) (d : Destination) (n : ℤ) → no_twice same_turn l ≡ true → no_twice same_turn (turn d n l) ≡ true
unfolding turn
turn_once l d n e = same-change same_turn (is_dest d) (add_to n) (first_turn d n) (λ x. refl) (λ x z. refl) (λ x z. refl) l e

-- of the first n records, which are encoders', each is in the file
pub encoder_in_file : (p ks : List ℕ) (n i : ℕ) → n ≤ length ks → i < n → all_of (is_encoder p) (take n ks) ≡ true → get_or ks i 0 < records p
encoder_in_file p ks n i l h e =
    let k : ℕ = get_or ks i 0 in
    ltb-true k (records p) (and_left (ltb k (records p)) (is_kind p 3 k) (each (is_encoder p) 0 ks n i l h e))

-- so is each of records that are all encoders'
pub each_in_file : (p ks : List ℕ) → all_of (is_encoder p) ks ≡ true → (i d : ℕ) → i < length ks → get_or ks i d < records p
each_in_file p ks e i d h =
    rw (other_none ks i d 0 h)
    (encoder_in_file p ks (length ks) i (omega arith) h (rw (take_all (length ks) ks (omega arith)) e))

module _ (p ks : List ℕ) (ns : List ℤ) (lk : length ks ≡ 136) (ln : length ns ≡ 136) where
  pub sums_long : length (sums_in p ks ns) ≡ 136
  sums_long = side.beside-length (turn_at p) ks ns (omega arith) ∙ lk

  -- a search among the first n of the records is one among the sums
  pub same_sum : (n i : ℕ) (d : Destination) → n ≤ 136 → i ≡ at (wires_to p d) (take n ks) → i ≡ at (is_dest d) (take n (sums_in p ks ns))
  same_sum n i d h e = side.beside-place (turn_at p) (is_dest d) (wires_to p d) (λ x y. refl) ks ns (omega arith) n i (omega arith) e

-- ── live lists ──

-- numbers 1 to 8, counted from 0
abbrev place : LiveFader → ℕ
place f = f.number - 1

place_low : (f : LiveFader) → on_surface f ≡ true → ltb (place f) 8 ≡ true
place_low f e = let a : f.number ≤ 8 = leb-true _ _ (and_right (leb 1 f.number) (leb f.number 8) e) in lt-ltb (place f) 8 (omega arith)

place_free : (f : LiveFader) (l : List LiveFader) → 1 ≤ f.number → all_of on_surface l ≡ true → any_of (same_fader f) l ≡ false →
    any_of (λ g. eqb (place f) (place g)) l ≡ false
unfolding all_of any_of
place_free f [] h e a = refl
place_free f (g ∷ l) h e a =
    let k : 1 ≤ g.number = leb-true _ _ (and_left (leb 1 g.number) (leb g.number 8) (left_of_lem (on_surface g) (all_of on_surface l) e)) in
    let d : f.number ≡ g.number → ⊥ = eqb-false _ _ (first_no (same_fader f g) (any_of (same_fader f) l) a) in
    rw (ne_eqb (place f) (place g) (λ q. d (omega arith)))
    (place_free f l h (right_of (on_surface g) (all_of on_surface l) e) (rest_no (same_fader f g) (any_of (same_fader f) l) a))

places_once : (l : List LiveFader) → all_of on_surface l ≡ true → no_twice same_fader l ≡ true → no_twice (λ f g. eqb (place f) (place g)) l ≡ true
unfolding all_of no_twice
places_once [] e o = refl
places_once (f ∷ l) e o =
    let h : 1 ≤ f.number = leb-true _ _ (and_left (leb 1 f.number) (leb f.number 8) (left_of_lem (on_surface f) (all_of on_surface l) e)) in
    let k : all_of on_surface l ≡ true = right_of (on_surface f) (all_of on_surface l) e in
    rw (place_free f l h k (no_left (any_of (same_fader f) l) (no_twice same_fader l) o))
    (places_once l k (no_right (any_of (same_fader f) l) (no_twice same_fader l) o))

-- a list without a number twice has at most eight faders on the surface, so that each of them is a strip
pub all_strips : (driver : ℕ) (l : List LiveFader) → no_twice same_fader l ≡ true → strips_of driver l ≡ map (strip_of driver) (keep on_surface l)
unfolding strips_of
all_strips driver l o =
    let k : List LiveFader = keep on_surface l in
    let a : all_of on_surface k ≡ true = all_keep on_surface l in
    let n : length k ≤ 8 = pigeon place 8 k (all_so on_surface (λ f. ltb (place f) 8) place_low k a) (places_once k a (once_keep same_fader on_surface l o)) in
    take_all 8 (map (strip_of driver) k) (omega (arith, length-map k (strip_of driver)))

pub no_strips_lem : WellStrips []
unfolding all_of no_twice
no_strips_lem = record { few = omega arith; good = refl; once = refl }

strips_few : (driver : ℕ) (l : List LiveFader) → length (strips_of driver l) ≤ 8
unfolding strips_of
strips_few driver l = omega (arith, length-take 8 (map (strip_of driver) (keep on_surface l)))

strip_good : (driver : ℕ) (f : LiveFader) → driver < 16 → on_surface f ≡ true → good_strip (strip_of driver f) ≡ true
unfolding strip_of every
strip_good driver f h e =
    rw (and_left (leb 1 f.number) (leb f.number 8) e, and_right (leb 1 f.number) (leb f.number 8) e, le-leb driver 15 (omega arith))

pub strips_well : (driver : ℕ) (l : List LiveFader) → driver < 16 → no_twice same_fader l ≡ true → WellStrips (strips_of driver l)
unfolding strip_of
strips_well driver l h o =
    let k : List LiveFader = keep on_surface l in
    record {
      few = strips_few driver l;
      good = rw (all_strips driver l o) (all_map (strip_of driver) on_surface good_strip (λ f e. strip_good driver f h e) k (all_keep on_surface l));
      once = rw (all_strips driver l o) (once_map (strip_of driver) same_fader same_number (λ f g. refl) k ∙ once_keep same_fader on_surface l o);
    }

-- a live list that is seen is known
pub is_known : (s : Strips) (l : List Strip) → seen_strips s ≡ Some l → s.known ≡ true
unfolding seen_strips
is_known s l e = go s.known e
  where
    go : (b : Bool) → strips_if b (take s.count s.list) ≡ Some l → b ≡ true
    go true q = refl
    go false q = cc

-- the targets of what is silenced are the first of their array
pub targets_seen : (n : ℕ) (ts : List ℕ) (ls : List Float) → n ≤ length ls → targets_of (silenced_up_to n ts ls) ≡ take n ts
unfolding beside
targets_seen zero ts ls h = refl
targets_seen (suc n) [] ls h = refl
targets_seen (suc n) (t ∷ ts) [] h = absurd (omega arith)
targets_seen (suc n) (t ∷ ts) (l ∷ ls) h = ap (λ r. t ∷ r) (targets_seen n ts ls (omega arith))
