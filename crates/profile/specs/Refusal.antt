-- The causes to decline a profile, and their numbers. Definitions only.
use Rattle.std.specs.Prelude.{ℕ, ⊤, Result, Ok, Err}
use Rattle.profile.specs.declared.Refusal.{Refusal}
use Rattle.profile.specs.declared.Refusal.TheVariants.{Size, Fields, Order, Banks, Limits, Ends}

abbrev pub number_of : Refusal → ℕ
number_of Size = 1
number_of Fields = 2
number_of Order = 3
number_of Banks = 4
number_of Limits = 5
number_of Ends = 6

-- 0 for a profile that is accepted
abbrev pub verdict_of : Result ⊤ Refusal → ℕ
verdict_of (Ok x) = 0
verdict_of (Err e) = number_of e
