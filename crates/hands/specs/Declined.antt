-- The causes to decline a turn, and their numbers. Definitions only.
use Rattle.std.specs.Prelude.{ℕ, ⊤, Result, Ok, Err}
use Rattle.hands.specs.declared.encoders.Declined.{Declined}
use Rattle.hands.specs.declared.encoders.Declined.TheVariants.{Range, Full}

abbrev pub number_of : Declined → ℕ
number_of Range = 12
number_of Full = 13

-- 0 for a turn that is not declined
abbrev pub refusal_of : Result ⊤ Declined → ℕ
refusal_of (Ok x) = 0
refusal_of (Err e) = number_of e
