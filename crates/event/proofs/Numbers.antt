-- An event that is read has its record's number, and holds its record's values. Assumes nothing.
use Rattle.std.specs.Prelude.{ℕ, ◌≤◌, ◌≡◌, refl, Bool, true, false, List, ◌&&◌, ltb, leb, eqb, length, get_or}
use Rattle.std.proofs.Common.{arith, sym}
use borrow.Author.Tests.{eqb-true, eqb-false, leb-true}
use Rattle.base.specs.Choice.{pick}
use Rattle.base.proofs.RangeLaws.{and_left, and_right}
use Rattle.std.proofs.lemmas.Bool.{false≢true}
use Rattle.event.specs.Event.{event_ok, input_of, number_of, Carries}
use Rattle.event.specs.declared.Input.{Input}
use Rattle.event.specs.declared.Input.TheVariants as input

module _ (s : List ℕ) where
  -- the kinds of an event are 1 to 5
  kinds : event_ok s ≡ true → (1 ≤ get_or s 0 0) × (get_or s 0 0 ≤ 5)
  unfolding event_ok
  kinds = go (ltb (length s) 16)
    where
      go : (b : Bool) → pick b false (leb 1 (get_or s 0 0) && (leb (get_or s 0 0) 5 && leb (get_or s 1 0) 3)) ≡ true → (1 ≤ get_or s 0 0) × (get_or s 0 0 ≤ 5)
      go true e = absurd (false≢true e)
      go false e = (leb-true 1 (get_or s 0 0) (and_left _ _ e), leb-true (get_or s 0 0) 5 (and_left _ _ (and_right _ _ e)))

  -- the event is the one that the record holds
  pub record Stands (i : Input) : Type 0 where
    pub number : event_ok s ≡ true → number_of i ≡ get_or s 0 0
    pub values : Carries s i

  tested : (n : ℕ) (x y : Input) → number_of x ≡ n → Carries s x → ((get_or s 0 0 ≡ n → ⊥) → Stands y) → Stands (pick (eqb (get_or s 0 0) n) x y)
  tested n x y e v f = go (eqb (get_or s 0 0) n) refl
    where
      go : (b : Bool) → eqb (get_or s 0 0) n ≡ b → Stands (pick b x y)
      go true q = let r : get_or s 0 0 ≡ n = eqb-true (get_or s 0 0) n q in record { number = λ _. rw (r, e); values = v }
      go false q = f (eqb-false (get_or s 0 0) n q)

  input_stands : Stands (input_of s)
  unfolding input_of
  input_stands =
      tested 1 _ _ refl refl
      (λ a. tested 2 input.Tick _ refl tt
      (λ b. tested 3 input.PushState _ refl tt
      (λ c. tested 4 input.PushTransport _ refl tt (λ d. record { number = λ o. let k = kinds o in omega (arith, k.0, k.1, a, b, c, d); values = tt }))))

  pub numbered : (i : Input) → i ≡ input_of s → event_ok s ≡ true → number_of i ≡ get_or s 0 0
  numbered i e o = let h : Stands i = rw e input_stands in h.number o

  pub carried : (i : Input) → i ≡ input_of s → Carries s i
  carried i e = let h : Stands i = rw e input_stands in h.values
