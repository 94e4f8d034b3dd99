-- An answer that fits has its record's number, and every answer the record's values. Assumes nothing.
use Rattle.std.specs.Prelude.{ℕ, ◌/◌, ◌≡◌, refl, Bool, true, false, List, ltb, eqb, length, get_or}
use Rattle.std.proofs.Common.{sym, true≢false}
use borrow.Author.Tests.{eqb-true}
use Rattle.base.specs.Choice.{pick}
use Rattle.base.specs.Range.{all}
use Rattle.drivers.specs.Answers.{count_at, item_fits, live_fits, list_if, scene_list, live_list, yes_no, to_read, to_playing, to_scenes, to_current, to_live, to_other, answer_of, is_unfit, number_of, Carries}
use Rattle.drivers.specs.declared.Answer.{Answer}
use Rattle.drivers.specs.declared.Answer.TheVariants as answer

module _ (part : List ℕ) where
  -- the answer is one of the record that stands first in the part
  pub record Stands (a : Answer) : Type 0 where
    pub number : is_unfit a ≡ false → number_of a ≡ get_or part 0 0
    pub values : Carries part a

  unfit : Stands answer.Unfit
  unfit = record { number = λ e. absurd (true≢false e); values = tt }

  -- the number of the record is tested, and then the answer is the one of that number, or another
  tested : (n : ℕ) (x y : Answer) → number_of x ≡ n → Carries part x → Stands y → Stands (pick (eqb (get_or part 0 0) n) x y)
  tested n x y e v s = go (eqb (get_or part 0 0) n) refl
    where
      go : (b : Bool) → eqb (get_or part 0 0) n ≡ b → Stands (pick b x y)
      go true q = let r : get_or part 0 0 ≡ n = eqb-true (get_or part 0 0) n q in record { number = λ _. rw (r, e); values = v }
      go false q = s

  either : (b : Bool) (x y : Answer) → Stands x → Stands y → Stands (pick b x y)
  either true x y f g = f
  either false x y f g = g

  under : (b : Bool) (x y : Answer) → (b ≡ true → Stands x) → Stands y → Stands (pick b x y)
  under true x y f g = f refl
  under false x y f g = g

  read : Stands (to_read (get_or part 0 0) part)
  unfolding to_read
  read = tested 2 _ _ refl refl (tested 3 answer.Nothing _ refl tt unfit)

  said : get_or part 0 0 ≡ 4 → Stands (yes_no (get_or part 1 0))
  unfolding yes_no
  said e =
      under (eqb (get_or part 1 0) 0) _ _ (λ q. record { number = λ _. sym e; values = sym (eqb-true (get_or part 1 0) 0 q) })
      (under (eqb (get_or part 1 0) 1) _ _ (λ q. record { number = λ _. sym e; values = sym (eqb-true (get_or part 1 0) 1 q) }) unfit)

  playing : Stands (to_playing (get_or part 0 0) part)
  unfolding to_playing
  playing = under (eqb (get_or part 0 0) 4) _ _ (λ q. said (eqb-true (get_or part 0 0) 4 q)) (tested 3 answer.Nothing _ refl tt unfit)

  current : Stands (to_current (get_or part 0 0) part)
  unfolding to_current
  current = tested 5 _ _ refl refl (tested 3 answer.Nothing _ refl tt unfit)

  listed : (fits : List ℕ → ℕ → Bool) (most : ℕ) → get_or part 0 0 ≡ 6 → Stands (list_if fits most part)
  listed fits most e =
      either (ltb most (count_at part)) _ _ unfit
      (either (ltb (count_at part) (length part / 16)) _ _ (either (all (count_at part) (fits part)) _ _ (record { number = λ _. sym e; values = tt }) unfit) unfit)

  scenes : Stands (to_scenes (get_or part 0 0) part)
  unfolding to_scenes scene_list
  scenes = under (eqb (get_or part 0 0) 6) _ _ (λ q. listed item_fits 128 (eqb-true (get_or part 0 0) 6 q)) unfit

  live : Stands (to_live (get_or part 0 0) part)
  unfolding to_live live_list
  live = under (eqb (get_or part 0 0) 6) _ _ (λ q. listed live_fits 32 (eqb-true (get_or part 0 0) 6 q)) unfit

  other : Stands (to_other (get_or part 0 0))
  unfolding to_other
  other = tested 1 answer.Done _ refl tt unfit

  pub answer_stands : (kind : ℕ) → Stands (answer_of part kind)
  unfolding answer_of
  answer_stands kind =
      either (ltb (length part) 16) _ _ unfit (tested 0 answer.Refused _ refl tt
      (either (eqb kind 1) _ _ read
      (either (eqb kind 5) _ _ playing
      (either (eqb kind 6) _ _ scenes
      (either (eqb kind 7) _ _ current (either (eqb kind 9) _ _ live other))))))

-- the answer to a call of any kind
pub stands : (part : List ℕ) (kind : ℕ) (a : Answer) → a ≡ answer_of part kind → Stands part a
stands part kind a e = rw e (answer_stands part kind)
