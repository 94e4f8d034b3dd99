-- Which number below n comes first, if one does. Definitions only.
use Rattle.std.specs.Prelude.{ℕ, zero, suc, Bool, cond, None, Option, Some}

-- the first of two that is there
abbrev pub or_else : Option ℕ → Option ℕ → Option ℕ
or_else (Some k) f = Some k
or_else None f = f

-- the number found, d if none was
abbrev pub place_or : ℕ → Option ℕ → ℕ
place_or d (Some k) = k
place_or d None = d

-- the first number below n of which p holds
unfoldable pub first : ℕ → (ℕ → Bool) → Option ℕ
first zero p = None
first (suc n) p = or_else (first n p) (cond (p n) (Some n) None)

-- how many numbers come before the first below n of which p holds; n if there is none
unfoldable pub until : ℕ → (ℕ → Bool) → ℕ
until n p = place_or n (first n p)
