-- What the session's functions share: a list that is kept as the first n of an array of `top` places. Assumes nothing.
use Rattle.std.specs.Prelude.{find}
use Rattle.std.proofs.Common.{None, Some}
use mathlib.Core.Path.{◌≡◌, refl, sym, ap, ◌∙◌}
use mathlib.Core.Bool.{Bool, true, false, ◌&&◌}
use mathlib.Core.List.{List, [], ◌∷◌, ◌++◌, map, map-append, append-nil}
use Prim.Native.Nat.{ℕ, ◌+◌, ◌≤◌, ◌<◌, min}
use native.Mathlib.Numerals.{add-one}
use native.Mathlib.Omega.{arith}
use lib.Dec.{eqb, ltb}
use lib.Ieee.{Float, nan}
use lib.ListN.{length, get_or, take, set, length-append, length-take, length-set}
use lib.Seq.{take_all, take-append-le, take-suc-set, take-set-le, length-take-le, lt-length-set, set-get_or, get_or-set_same, get_or-set_other}
use lib.IntN.{ℤ, pos, ◌+ℤ◌}
use borrow.Author.Tests.{ltb-true, ltb-false}
use Rattle.base.specs.Choice.{pick}
use Rattle.base.specs.Keyed.{at, any_of, all_of, keep, beside}
use Rattle.base.proofs.BesideLaws as side
use Rattle.base.proofs.KeyedLaws as laws
use Rattle.base.proofs.StdLaws.{find-find}
use Rattle.lookup.specs.Lookup.{dest_at}
use Rattle.session.specs.Session.{Turn, turn_at, turns_up_to, is_encoder, wires_to, is_dest, add_to, first_turn, turn, RoomToTurn, SilencedLevel, silenced_at, silenced_up_to, level_before, insert_level, remove_level, has_room, same_target, is_target, other_target, is_strip, strip_at}
use Rattle.session.specs.declared.Strip.{Strip}
use Rattle.session.specs.WellLists.{sums_in}
use Rattle.session.proofs.SessionLaws.{sums_long, same_sum}

-- what stands past an array's end
abbrev pub none_silenced : SilencedLevel
none_silenced = record { target = 0; level = nan }

-- ── room for one more, where the search gave place i ──
module _ {A : Type 0} (f : A → Bool) (d : A) (xs : List A) (n i top : ℕ) (long : length xs ≡ top) (within : n ≤ top) (e : i ≡ at f (take n xs)) where
  -- it is not there, so that what says that it has a place says that there is one behind
  pub roomy : n ≤ i → pick (any_of f (take n xs)) true (ltb n top) ≡ true → n < top
  roomy h p = ltb-true n top (rw (laws.not_there f d xs n i e (omega arith) h) at p)

  -- the same, said of the list that is seen
  pub seen_roomy : n ≤ i → pick (any_of f (take n xs)) true (ltb (length (take n xs)) top) ≡ true → n < top
  seen_roomy h p = roomy h (rw (length-take-le n xs (omega arith)) at p)

-- ── the first `top` of those that pass, each made into another: k written to ts so far, of the first j of xs ──
module _ {A B : Type 0} (f : A → Bool) (h : A → B) (d : A) (top : ℕ) (ts : List B) (xs : List A) (k j : ℕ) (long : length ts ≡ top) (within : k ≤ top)
    (e : take k ts ≡ take top (map h (keep f (take j xs)))) where
  abbrev made : List B
  made = map h (keep f (take j xs))

  abbrev new : List B
  new = map h (pick (f (get_or xs j d)) (get_or xs j d ∷ []) [])

  how_many : k ≡ min top (length made)
  how_many = sym (length-take-le k ts (omega arith)) ∙ ap length e ∙ length-take top made

  one_more : j < length xs → map h (keep f (take (j + 1) xs)) ≡ made ++ new
  one_more l = rw (add-one, laws.keep-more f d xs j l, map-append)

  pub first_yes : k < top → j < length xs → f (get_or xs j d) ≡ true →
      take (k + 1) (set ts k (h (get_or xs j d))) ≡ take top (map h (keep f (take (j + 1) xs)))
  first_yes s l g =
      let x : List B = h (get_or xs j d) ∷ [] in
      let m : k < length ts = omega arith in
      let n : length made ≡ k = omega (arith, how_many) in
      let a : take top made ≡ made = take_all top made (omega arith) in
      let b : take top (made ++ x) ≡ made ++ x = take_all top (made ++ x) (omega (arith, length-append made x)) in
      rw (add-one k, take-suc-set, one_more l, g, e, a, b)

  pub first_no : j < length xs → (f (get_or xs j d) && ltb k top) ≡ false → take k ts ≡ take top (map h (keep f (take (j + 1) xs)))
  first_no l g = rw (one_more l) (go (f (get_or xs j d)) g)
    where
      go : (b : Bool) → (b && ltb k top) ≡ false → take k ts ≡ take top (made ++ map h (pick b (get_or xs j d ∷ []) []))
      go true q =
          let n : top ≤ k = ltb-false k top q in
          rw (take-append-le top made (h (get_or xs j d) ∷ []) (omega (arith, how_many))) e
      go false q = rw append-nil e

-- ── the strip of a number, as std finds it ──

pub strip_by_find : (number : ℕ) (l : List Strip) → find (is_strip number) l ≡ strip_at number l
unfolding strip_at
strip_by_find number l = find-find (is_strip number) l

-- ── targets and levels, side by side ──

-- what a search among the first n of the targets shows of both arrays
module _ (target : ℕ) (ts : List ℕ) (ls : List Float) (n i : ℕ) (lt : length ts ≡ 256) (ll : length ls ≡ 256) (within : n ≤ 256)
    (e : i ≡ at (same_target target) (take n ts)) where
  abbrev pairs : List SilencedLevel
  pairs = beside silenced_at ts ls

  pairs_long : length pairs ≡ 256
  pairs_long = side.beside-length silenced_at ts ls (omega arith) ∙ lt

  same_place : i ≡ at (is_target target) (take n pairs)
  same_place = side.beside-place silenced_at (is_target target) (same_target target) (λ x y. refl) ts ls (omega arith) n i (omega arith) e

  pub level_there : i < n → level_before target (silenced_up_to n ts ls) ≡ Some (get_or ls i nan)
  unfolding level_before
  level_there h = rw (side.beside-take silenced_at n ts ls, laws.found (is_target target) none_silenced pairs n i same_place (omega (arith, pairs_long)) h, side.beside-get_or silenced_at 0 nan ts ls i (omega arith))

  pub level_missing : n ≤ i → level_before target (silenced_up_to n ts ls) ≡ None
  unfolding level_before
  level_missing h = rw (side.beside-take silenced_at n ts ls, laws.not_found (is_target target) none_silenced pairs n i same_place (omega (arith, pairs_long)) h)

  -- the place that is written lies within the array
  pub place-within : has_room target (take n ts) ≡ true → i < 256
  unfolding has_room
  place-within r = go (ltb i n) refl
    where
      go : (b : Bool) → ltb i n ≡ b → i < 256
      go true q = let h : i < n = ltb-true i n q in omega arith
      go false q =
          let h : n ≤ i = ltb-false i n q in
          let m : n < 256 = seen_roomy (same_target target) 0 ts n i 256 lt within e h r in
          omega (arith, laws.found_le (same_target target) 0 ts n i e (omega arith))

  pub silenced_there : (v : Float) → i < n → silenced_up_to n (set ts i target) (set ls i v) ≡ insert_level target v (silenced_up_to n ts ls)
  unfolding insert_level
  silenced_there v h =
      rw (side.beside-take silenced_at n (set ts i target) (set ls i v), side.beside-set silenced_at ts ls i target v, side.beside-take silenced_at n ts ls)
      (laws.change_in (is_target target) none_silenced pairs n i same_place (λ z. silenced_at target v) (silenced_at target v) (omega (arith, pairs_long)) h)

  pub silenced_behind : (v : Float) → n ≤ i → i < 256 → silenced_up_to (n + 1) (set ts i target) (set ls i v) ≡ insert_level target v (silenced_up_to n ts ls)
  unfolding insert_level
  silenced_behind v h m =
      let q : i ≡ n = omega (arith, laws.found_le (same_target target) 0 ts n i e (omega arith)) in
      rw (q, side.beside-take silenced_at (n + 1) (set ts n target) (set ls n v), side.beside-set silenced_at ts ls n target v, side.beside-take silenced_at n ts ls)
      (laws.change_out (is_target target) none_silenced pairs n i same_place (λ z. silenced_at target v) (silenced_at target v) (omega (arith, pairs_long)) h)

-- one target goes: of the first j, those that stay are the first k, and what is behind is as it was
pub record Closing (target : ℕ) (ts₀ : List ℕ) (ls₀ : List Float) (ts : List ℕ) (ls : List Float) (k j : ℕ) : Type 0 where
  pub targets_were : length ts₀ ≡ 256
  pub levels_were : length ls₀ ≡ 256
  pub targets_long : length ts ≡ 256
  pub levels_long : length ls ≡ 256
  pub so_far : silenced_up_to k ts ls ≡ remove_level target (silenced_up_to j ts₀ ls₀)
  pub targets_left : (i : ℕ) → j ≤ i → get_or ts i 0 ≡ get_or ts₀ i 0
  pub levels_left : (i : ℕ) → j ≤ i → get_or ls i nan ≡ get_or ls₀ i nan

pub closing_none : (target : ℕ) (ts : List ℕ) (ls : List Float) → length ts ≡ 256 → length ls ≡ 256 → Closing target ts ls ts ls 0 0
unfolding remove_level
closing_none target ts ls lt ll =
    record {
      targets_were = lt;
      levels_were = ll;
      targets_long = lt;
      levels_long = ll;
      so_far = rw (side.beside-take silenced_at 0 ts ls) (laws.keep-none (other_target target) none_silenced (beside silenced_at ts ls));
      targets_left = λ i h. refl;
      levels_left = λ i h. refl;
    }

module _ (target : ℕ) (ts₀ : List ℕ) (ls₀ : List Float) (ts : List ℕ) (ls : List Float) (k j : ℕ) (s : Closing target ts₀ ls₀ ts ls k j)
    (inside : j < 256) (behind : k ≤ j) where
  abbrev was : List SilencedLevel
  was = beside silenced_at ts₀ ls₀

  abbrev are : List SilencedLevel
  are = beside silenced_at ts ls

  was_long : length was ≡ 256
  was_long = side.beside-length silenced_at ts₀ ls₀ (s.targets_were ∙ sym s.levels_were) ∙ s.targets_were

  are_long : length are ≡ 256
  are_long = side.beside-length silenced_at ts ls (s.targets_long ∙ sym s.levels_long) ∙ s.targets_long

  kept : take k are ≡ keep (other_target target) (take j was)
  unfolding remove_level
  kept = sym (side.beside-take silenced_at k ts ls) ∙ s.so_far ∙ ap (keep (other_target target)) (side.beside-take silenced_at j ts₀ ls₀)

  the_next : get_or was j none_silenced ≡ silenced_at (get_or ts j 0) (get_or ls j nan)
  the_next = rw (s.targets_left j (omega arith), s.levels_left j (omega arith)) (side.beside-get_or silenced_at 0 nan ts₀ ls₀ j (s.targets_were ∙ sym s.levels_were))

  pub closing_yes : eqb (get_or ts j 0) target ≡ false → Closing target ts₀ ls₀ (set ts k (get_or ts j 0)) (set ls k (get_or ls j nan)) (k + 1) (j + 1)
  unfolding remove_level
  closing_yes g =
      let o : other_target target (get_or was j none_silenced) ≡ true = rw (the_next, g) in
      record {
        targets_were = s.targets_were;
        levels_were = s.levels_were;
        targets_long = length-set ts k (get_or ts j 0) ∙ s.targets_long;
        levels_long = length-set ls k (get_or ls j nan) ∙ s.levels_long;
        so_far =
            rw (side.beside-take silenced_at (k + 1) (set ts k (get_or ts j 0)) (set ls k (get_or ls j nan)), side.beside-set silenced_at ts ls k (get_or ts j 0) (get_or ls j nan), ← the_next, side.beside-take silenced_at (j + 1) ts₀ ls₀)
            (laws.keep_yes (other_target target) none_silenced are was k j kept (omega (arith, are_long)) (omega (arith, was_long)) o);
        targets_left = λ i h. get_or-set_other ts k i (get_or ts j 0) 0 (λ q. omega arith) ∙ s.targets_left i (omega arith);
        levels_left = λ i h. get_or-set_other ls k i (get_or ls j nan) nan (λ q. omega arith) ∙ s.levels_left i (omega arith);
      }

  pub closing_no : eqb (get_or ts j 0) target ≡ true → Closing target ts₀ ls₀ ts ls k (j + 1)
  unfolding remove_level
  closing_no g =
      let o : other_target target (get_or was j none_silenced) ≡ false = rw (the_next, g) in
      record {
        targets_were = s.targets_were;
        levels_were = s.levels_were;
        targets_long = s.targets_long;
        levels_long = s.levels_long;
        so_far =
            rw (side.beside-take silenced_at k ts ls, side.beside-take silenced_at (j + 1) ts₀ ls₀)
            (laws.keep_no (other_target target) none_silenced are was k j kept (omega (arith, was_long)) o);
        targets_left = λ i h. s.targets_left i (omega arith);
        levels_left = λ i h. s.levels_left i (omega arith);
      }

-- ── the sums, side by side with the records of their encoders ──

-- what a search among the first n of the records shows of both arrays
module _ (p ks : List ℕ) (ns : List ℤ) (n k i : ℕ) (delta : ℤ) (lk : length ks ≡ 136) (ln : length ns ≡ 136) (room : RoomToTurn p ks ns n k delta)
    (e : i ≡ at (wires_to p (dest_at p k)) (take n ks)) where
  abbrev sums : List Turn
  sums = sums_in p ks ns

  same : i ≡ at (is_dest (dest_at p k)) (take n sums)
  same = same_sum p ks ns lk ln n i (dest_at p k) room.count e

  pub sum_there : i < n → turns_up_to p n ks (set ns i (get_or ns i (pos 0) +ℤ delta)) ≡ turn (dest_at p k) delta (turns_up_to p n ks ns)
  unfolding turn
  sum_there h =
      let v : ℤ = get_or ns i (pos 0) +ℤ delta in
      let q : beside (turn_at p) ks (set ns i v) ≡ set sums i (add_to delta (get_or sums i (turn_at p 0 (pos 0)))) =
      ap (λ l. beside (turn_at p) l (set ns i v)) (sym (set-get_or ks i 0))
      ∙ side.beside-set (turn_at p) ks ns i (get_or ks i 0) v
      ∙ ap (λ s. set sums i (add_to delta s)) (sym (side.beside-get_or (turn_at p) 0 (pos 0) ks ns i (omega arith))) in
      rw (side.beside-take (turn_at p) n ks (set ns i v), q, side.beside-take (turn_at p) n ks ns)
      (laws.change_in (is_dest (dest_at p k)) (turn_at p 0 (pos 0)) sums n i same (add_to delta) (first_turn (dest_at p k) delta) (omega (arith, sums_long p ks ns lk ln, room.count)) h)

  -- it is not there: its place is behind the others, within the array
  pub at-end : n ≤ i → (i ≡ n) × (n < 136)
  at-end h = (
    omega (arith, laws.found_le (wires_to p (dest_at p k)) 0 ks n i e (omega (arith, room.count))),
    roomy (wires_to p (dest_at p k)) 0 ks n i 136 lk room.count e h room.place,
  )

  pub sum_behind : n ≤ i → turns_up_to p (n + 1) (set ks i k) (set ns i delta) ≡ turn (dest_at p k) delta (turns_up_to p n ks ns)
  unfolding turn
  sum_behind h =
      rw ((at-end h).0, side.beside-take (turn_at p) (n + 1) (set ks n k) (set ns n delta), side.beside-set (turn_at p) ks ns n k delta, side.beside-take (turn_at p) n ks ns)
      (laws.change_out (is_dest (dest_at p k)) (turn_at p 0 (pos 0)) sums n i same (add_to delta) (first_turn (dest_at p k) delta) (omega (arith, sums_long p ks ns lk ln, (at-end h).1)) h)

  pub encoders_behind : n ≤ i → all_of (is_encoder p) (take (n + 1) (set ks i k)) ≡ true
  encoders_behind h =
      let m : n < length ks = omega (arith, (at-end h).1) in
      rw ((at-end h).0, add-one)
      (laws.every_more (is_encoder p) 0 (set ks n k) n (lt-length-set ks n k m) (rw (take-set-le n ks n k (omega arith)) room.encoders) (rw (get_or-set_same ks n k 0 m) room.encoder))
