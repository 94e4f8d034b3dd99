-- An answer that fits is read the same, whatever stands behind it.
use Prim.Native.Nat.{ℕ, zero, suc, ◌+◌, ◌*◌, ◌/◌, ◌≤◌, ◌<◌}
use Rattle.std.specs.Prelude.{◌≡◌, Bool, true, List, ◌++◌, eqb, length}
use Rattle.std.proofs.Math.Path.{refl}
use Rattle.std.proofs.Math.Bool.{false}
use Rattle.std.proofs.Common.{true≢false, arith}
use Rattle.std.proofs.Math.Dec.{ltb}
use Rattle.std.proofs.Math.ListN.{get_or, length-append, get_or-append}
use borrow.Author.Tests.{ltb-true, lt-ltb, le-ltb}
use Rattle.base.specs.Choice.{pick}
use Rattle.base.specs.Range.{all}
use Rattle.base.proofs.RangeLaws.{all_cong}
use Rattle.base.specs.Words.{le16, le32, le64}
use Rattle.drivers.specs.Answers.{count_at, item_at, items_of, item_fits, live_fits, list_if, scene_list, live_list, to_read, to_playing, to_scenes, to_current, to_live, answer_to, answer_of, item_count, is_unfit}
use Rattle.drivers.proofs.AnswersLaws.{part_long}
use Rattle.drivers.specs.declared.Answer.{Answer}
use Rattle.drivers.specs.declared.Answer.TheVariants as answer

-- the answer y, if it fits, is x
record Same (x y : Answer) : Type 0 where
  so : is_unfit y ≡ false → x ≡ y

same : {x y : Answer} → x ≡ y → Same x y
same e = record { so = λ u. e }

pick_same : (b : Bool) {x y v w : Answer} → Same x y → Same v w → Same (pick b x v) (pick b y w)
pick_same true h k = h
pick_same false h k = k

module _ (part more : List ℕ) where
  byte-same : (i : ℕ) → i < length part → get_or (part ++ more) i 0 ≡ get_or part i 0
  byte-same i h = get_or-append part more 0 i h

  word_same : (i : ℕ) → i + 1 < length part → le16 (part ++ more) i ≡ le16 part i
  word_same i h = cc (byte-same i (omega arith), byte-same (i + 1) h)

  long_same : (i : ℕ) → i + 3 < length part → le32 (part ++ more) i ≡ le32 part i
  long_same i h = cc (word_same i (omega arith), word_same (i + 2) (omega arith))

  level-same : (i : ℕ) → i + 7 < length part → le64 (part ++ more) i ≡ le64 part i
  unfolding le64
  level-same i h = cc (long_same i (omega arith), long_same (i + 4) (omega arith))

  -- ── a list's items ──
  item_same : (i : ℕ) → 32 + 16 * i ≤ length part → item_at (part ++ more) i ≡ item_at part i
  item_same i h =
      cc (
        byte-same (16 * i + 17) (omega arith),
        word_same (16 * i + 18) (omega arith),
        word_same (16 * i + 20) (omega arith),
        word_same (16 * i + 22) (omega arith),
        word_same (16 * i + 24) (omega arith),
      )

  pub items-same : (n : ℕ) → 16 + 16 * n ≤ length part → items_of n (part ++ more) ≡ items_of n part
  unfolding items_of
  items-same zero h = refl
  items-same (suc n) h = let a = items-same n (omega arith) in let b = item_same n (omega arith) in cc

  fits_same : (i : ℕ) → 32 + 16 * i ≤ length part → item_fits (part ++ more) i ≡ item_fits part i
  fits_same i h = cc (byte-same (16 * i + 16) (omega arith), word_same (16 * i + 18) (omega arith))

  live_same : (i : ℕ) → 32 + 16 * i ≤ length part → live_fits (part ++ more) i ≡ live_fits part i
  live_same i h =
      cc (
        fits_same i h,
        word_same (16 * i + 20) (omega arith),
        word_same (16 * i + 22) (omega arith),
        byte-same (16 * i + 1) (omega arith),
        byte-same (16 * i + 17) (omega arith),
      )

  module _ (whole : 16 ≤ length part) where
    count_same : count_at (part ++ more) ≡ count_at part
    count_same = word_same 2 (omega arith)

    list_same : (fits : List ℕ → ℕ → Bool) (most : ℕ) → ((i : ℕ) → 32 + 16 * i ≤ length part → fits (part ++ more) i ≡ fits part i) →
        Same (list_if fits most (part ++ more)) (list_if fits most part)
    list_same fits most h = record { so = λ u. go (ltb (count_at part) (length part / 16)) refl u }
      where
        -- a list that fits has all its items
        there : (a : Bool) (x : Answer) → is_unfit (pick a answer.Unfit (pick false x answer.Unfit)) ≡ false → ⊥
        there true x e = true≢false e
        there false x e = true≢false e

        go : (b : Bool) → ltb (count_at part) (length part / 16) ≡ b → is_unfit (list_if fits most part) ≡ false → list_if fits most (part ++ more) ≡ list_if fits most part
        go true e u =
            let n = count_at part in
            let l : n < length part / 16 = ltb-true n (length part / 16) e in
            let k : ltb n (length (part ++ more) / 16) ≡ true = lt-ltb n (length (part ++ more) / 16) (omega (arith, length-append part more)) in
            let a : all n (fits (part ++ more)) ≡ all n (fits part) = all_cong (fits (part ++ more)) (fits part) n (λ i lt. h i (omega arith)) in
            let c : count_at (part ++ more) ≡ n = count_same in
            rw (c, k, a, e)
        go false e u = absurd (there (ltb most (count_at part)) (pick (all (count_at part) (fits part)) answer.List answer.Unfit) (rw e at u))

    -- ── one record ──
    read_same : (k : ℕ) → to_read k (part ++ more) ≡ to_read k part
    unfolding to_read
    read_same k = cc (level-same 8 (omega arith))

    playing-same : (k : ℕ) → to_playing k (part ++ more) ≡ to_playing k part
    unfolding to_playing
    playing-same k = cc (byte-same 1 (omega arith))

    current_same : (k : ℕ) → to_current k (part ++ more) ≡ to_current k part
    unfolding to_current
    current_same k = cc (long_same 4 (omega arith))

    scenes-same : (k : ℕ) → Same (to_scenes k (part ++ more)) (to_scenes k part)
    unfolding to_scenes scene_list
    scenes-same k = pick_same (eqb k 6) (list_same item_fits 128 fits_same) (same refl)

    lives_same : (k : ℕ) → Same (to_live k (part ++ more)) (to_live k part)
    unfolding to_live live_list
    lives_same k = pick_same (eqb k 6) (list_same live_fits 32 live_same) (same refl)

    to_same : (kind k : ℕ) → Same (answer_to kind k (part ++ more)) (answer_to kind k part)
    to_same kind k =
        pick_same (eqb kind 1) (same (read_same k))
        (pick_same (eqb kind 5) (same (playing-same k))
        (pick_same (eqb kind 6) (scenes-same k)
        (pick_same (eqb kind 7) (same (current_same k)) (pick_same (eqb kind 9) (lives_same k) (same refl)))))

    first-same : (kind : ℕ) → Same (answer_of (part ++ more) kind) (answer_of part kind)
    unfolding answer_of
    first-same kind =
        let a : ltb (length part) 16 ≡ false = le-ltb (length part) 16 whole in
        let b : ltb (length (part ++ more)) 16 ≡ false = le-ltb (length (part ++ more)) 16 (omega (arith, length-append part more)) in
        let c : get_or (part ++ more) 0 0 ≡ get_or part 0 0 = byte-same 0 (omega arith) in
        rw (a, b, c) (pick_same (eqb (get_or part 0 0) 0) (same refl) (to_same kind (get_or part 0 0)))

  pub answer_same : (kind : ℕ) → is_unfit (answer_of part kind) ≡ false → answer_of (part ++ more) kind ≡ answer_of part kind
  answer_same kind u = (first-same (part_long part kind _ refl u) kind).so u

  -- so are the number of its items and the items
  pub count_as : (kind : ℕ) → is_unfit (answer_of part kind) ≡ false → item_count (answer_of part kind) (part ++ more) ≡ item_count (answer_of part kind) part
  unfolding item_count
  count_as kind u = cc (count_same (part_long part kind _ refl u))
