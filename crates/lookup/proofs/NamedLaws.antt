-- A number that may stand for nothing, and the Option that says so. Assumes nothing.
use Rattle.std.specs.Prelude.{ℕ, ◌<◌, ◌≡◌, refl, Bool, true, false, eqb, None, Option, Some}
use Rattle.std.proofs.Common.{arith, sym}
use Rattle.std.proofs.Common.{ap, true≢false}
use Rattle.std.specs.Option.{is_some, unwrap_or}
use borrow.Author.Tests.{ne_eqb}
use Rattle.base.specs.Choice.{pick}
use Rattle.lookup.specs.Lookup.{named, or_absent}

no_some : {n : ℕ} → Some n ≡ None → ⊥
no_some e = true≢false (ap is_some e)

-- what is below 65535 is a name
pub named_there : (n : ℕ) → n < 65535 → named n ≡ Some n
unfolding named
named_there n h = rw (ne_eqb n 65535 (λ e. omega (arith, e)))

pub named_absent : named 65535 ≡ None
unfolding named
named_absent = refl

-- a name or nothing, as a number and back
pub named_back : (o : Option ℕ) → ((n : ℕ) → o ≡ Some n → n < 65535) → o ≡ named (or_absent o)
named_back None h = sym named_absent
named_back (Some n) h = sym (named_there n (h n refl))

-- what a test for 65535 takes, by what is named
pub by_none : {A : Type 0} (n : ℕ) (x y : A) → None ≡ named n → pick (eqb n 65535) x y ≡ x
unfolding named
by_none n x y e = go (eqb n 65535) e
  where
    go : (b : Bool) → None ≡ pick b None (Some n) → pick b x y ≡ x
    go true q = refl
    go false q = absurd (no_some (sym q))

pub by_some : {A : Type 0} (n m : ℕ) (x y : A) → Some m ≡ named n → pick (eqb n 65535) x y ≡ y
unfolding named
by_some n m x y e = go (eqb n 65535) e
  where
    go : (b : Bool) → Some m ≡ pick b None (Some n) → pick b x y ≡ y
    go true q = absurd (no_some q)
    go false q = refl

-- and the name is the number
pub its_name : (n m : ℕ) → Some m ≡ named n → m ≡ n
unfolding named
its_name n m e = go (eqb n 65535) e
  where
    go : (b : Bool) → Some m ≡ pick b None (Some n) → m ≡ n
    go true q = absurd (no_some q)
    go false q = ap or_absent q

-- whether a number stands for nothing, by what is named
pub is_absent : (n : ℕ) → None ≡ named n → eqb n 65535 ≡ true
unfolding named
is_absent n e = go (eqb n 65535) e
  where
    go : (b : Bool) → None ≡ pick b None (Some n) → b ≡ true
    go true q = refl
    go false q = absurd (no_some (sym q))

pub is_there : (n m : ℕ) → Some m ≡ named n → eqb n 65535 ≡ false
unfolding named
is_there n m e = go (eqb n 65535) e
  where
    go : (b : Bool) → Some m ≡ pick b None (Some n) → b ≡ false
    go true q = absurd (no_some q)
    go false q = refl

-- what is taken for nothing is the absent number
pub or_absent_is : (o : Option ℕ) → unwrap_or o 65535 ≡ or_absent o
or_absent_is None = refl
or_absent_is (Some n) = refl
