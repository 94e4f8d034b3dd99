-- An answer that fits stands whole in the answers: its own record, and all its items, of which there are few. Assumes nothing.
use Rattle.std.specs.Prelude.{ℕ, ◌+◌, ◌*◌, ◌/◌, ◌≤◌, ◌<◌, ◌≡◌, Bool, List, eqb, get_or}
use native.Mathlib.Omega.{arith}
use Rattle.std.proofs.Math.Path.{refl}
use Rattle.std.proofs.Common.{sym, ◌∙◌, true≢false}
use Rattle.std.proofs.Math.Bool.{true, false}
use Rattle.std.proofs.lemmas.Bool.{false≢true}
use Rattle.std.proofs.Math.Dec.{ltb}
use Rattle.std.proofs.Math.ListN.{length}
use borrow.Author.Tests.{ltb-true, ltb-false, eqb-true}
use Rattle.base.specs.Choice.{pick}
use Rattle.base.specs.Range.{all}
use Rattle.drivers.specs.Answers.{count_at, item_fits, live_fits, list_if, scene_list, live_list, yes_no, to_read, to_playing, to_scenes, to_current, to_live, to_other, answer_to, answer_of, is_unfit, is_list, item_count}
use Rattle.drivers.specs.declared.Answer.{Answer}
use Rattle.drivers.specs.declared.Answer.TheVariants as answer

-- a list that fits has all its items, at most 128, of live faders at most 32
pub record Bounded (part : List ℕ) (kind : ℕ) (a : Answer) : Type 0 where
  pub within : is_list a ≡ true → count_at part < length part / 16
  pub scenes : is_list a ≡ true → count_at part ≤ 128
  pub live : is_list a ≡ true → kind ≡ 9 → count_at part ≤ 32

module _ (part : List ℕ) (kind : ℕ) where
  no_list : (a : Answer) → is_list a ≡ false → Bounded part kind a
  no_list a e =
      record {
        within = λ y. absurd (false≢true (sym e ∙ y));
        scenes = λ y. absurd (false≢true (sym e ∙ y));
        live = λ y. absurd (false≢true (sym e ∙ y));
      }

  either : (b : Bool) (x y : Answer) → (b ≡ true → Bounded part kind x) → (b ≡ false → Bounded part kind y) → Bounded part kind (pick b x y)
  either true x y f g = f refl
  either false x y f g = g refl

  -- neither is a list, whatever the test says
  neither : (b : Bool) (x y : Answer) → is_list x ≡ false → is_list y ≡ false → is_list (pick b x y) ≡ false
  neither true x y f g = f
  neither false x y f g = g

  list_bounded : (fits : List ℕ → ℕ → Bool) (most : ℕ) → most ≤ 128 → (kind ≡ 9 → most ≤ 32) → Bounded part kind (list_if fits most part)
  list_bounded fits most h k =
      either (ltb most (count_at part)) _ _ (λ _. no_list answer.Unfit refl)
      (λ e. either (ltb (count_at part) (length part / 16)) _ _
      (λ f. either (all (count_at part) (fits part)) _ _ (λ _. found e f) (λ _. no_list answer.Unfit refl))
      (λ _. no_list answer.Unfit refl))
    where
      found : ltb most (count_at part) ≡ false → ltb (count_at part) (length part / 16) ≡ true → Bounded part kind answer.List
      found e f =
          let m = ltb-false most (count_at part) e in
          record {
            within = λ _. ltb-true (count_at part) (length part / 16) f;
            scenes = λ _. omega arith;
            live = λ _ q. omega (arith, k q);
          }

  to_scenes_lem : (k : ℕ) → kind ≡ 6 → Bounded part kind (to_scenes k part)
  unfolding to_scenes scene_list
  to_scenes_lem k e = either (eqb k 6) _ _ (λ _. list_bounded item_fits 128 (omega arith) (λ q. absurd (omega arith))) (λ _. no_list answer.Unfit refl)

  to_live_lem : (k : ℕ) → Bounded part kind (to_live k part)
  unfolding to_live live_list
  to_live_lem k = either (eqb k 6) _ _ (λ _. list_bounded live_fits 32 (omega arith) (λ q. omega arith)) (λ _. no_list answer.Unfit refl)

  to_read_lem : (k : ℕ) → is_list (to_read k part) ≡ false
  unfolding to_read
  to_read_lem k = neither (eqb k 2) _ _ refl (neither (eqb k 3) _ _ refl refl)

  to_playing_lem : (k : ℕ) → is_list (to_playing k part) ≡ false
  unfolding to_playing yes_no
  to_playing_lem k =
      neither (eqb k 4) _ _ (neither (eqb (get_or part 1 0) 0) _ _ refl (neither (eqb (get_or part 1 0) 1) _ _ refl refl)) (neither (eqb k 3) _ _ refl refl)

  to_current_lem : (k : ℕ) → is_list (to_current k part) ≡ false
  unfolding to_current
  to_current_lem k = neither (eqb k 5) _ _ refl (neither (eqb k 3) _ _ refl refl)

  to_other_lem : (k : ℕ) → is_list (to_other k) ≡ false
  unfolding to_other
  to_other_lem k = neither (eqb k 1) _ _ refl refl

  to_call : (k : ℕ) → Bounded part kind (answer_to kind k part)
  to_call k =
      either (eqb kind 1) _ _ (λ _. no_list _ (to_read_lem k))
      (λ _. either (eqb kind 5) _ _ (λ _. no_list _ (to_playing_lem k))
      (λ _. either (eqb kind 6) _ _ (λ e. to_scenes_lem k (eqb-true kind 6 e))
      (λ _. either (eqb kind 7) _ _ (λ _. no_list _ (to_current_lem k))
      (λ _. either (eqb kind 9) _ _ (λ _. to_live_lem k) (λ _. no_list _ (to_other_lem k))))))

  pub answer_bounded : Bounded part kind (answer_of part kind)
  unfolding answer_of
  answer_bounded =
      either (ltb (length part) 16) _ _ (λ _. no_list answer.Unfit refl)
      (λ _. either (eqb (get_or part 0 0) 0) _ _ (λ _. no_list answer.Refused refl) (λ _. to_call (get_or part 0 0)))

  -- an answer that fits has its own record
  fit_long : is_unfit (answer_of part kind) ≡ false → 16 ≤ length part
  unfolding answer_of
  fit_long e = go (ltb (length part) 16) refl _ e
    where
      go : (b : Bool) → ltb (length part) 16 ≡ b → (y : Answer) → is_unfit (pick b answer.Unfit y) ≡ false → 16 ≤ length part
      go true q y u = absurd (true≢false u)
      go false q y u = ltb-false (length part) 16 q

  pub part_long : (a : Answer) → a ≡ answer_of part kind → is_unfit a ≡ false → 16 ≤ length part
  part_long a e u = fit_long (rw e at u)

  -- how many items stand behind it
  counted : (a : Answer) → Bounded part kind a → 16 ≤ length part → 16 + 16 * item_count a part ≤ length part
  unfolding item_count
  counted a h l = go (is_list a) refl
    where
      go : (b : Bool) → is_list a ≡ b → 16 + 16 * pick b (count_at part) 0 ≤ length part
      go true e = omega (arith, h.within e)
      go false e = omega arith

  -- the answer and its items are there
  pub answer_there : (a : Answer) (n : ℕ) → a ≡ answer_of part kind → is_unfit a ≡ false → n ≡ item_count a part → 16 + 16 * n ≤ length part
  answer_there a n e u q =
      let b : Bounded part kind a = rw e answer_bounded in
      let l : 16 ≤ length part = fit_long (rw e at u) in
      rw q (counted a b l)

  pub item_most : (a : Answer) → Bounded part kind a → (item_count a part ≤ 128) × (kind ≡ 9 → item_count a part ≤ 32)
  unfolding item_count
  item_most a h = go (is_list a) refl
    where
      go : (b : Bool) → is_list a ≡ b → (pick b (count_at part) 0 ≤ 128) × (kind ≡ 9 → pick b (count_at part) 0 ≤ 32)
      go true e = (h.scenes e, h.live e)
      go false e = (omega arith, λ _. omega arith)
