-- Sums that a turn cannot make overflow. Definition only.
use Rattle.std.specs.Prelude.{ℕ, ◌<◌, List, ℤ, pos, ◌+ℤ◌, get_or}
use Rattle.std.specs.Int.{w32}
use Rattle.std.proofs.Common.{SFits}

-- each of the first n sums, with the turn, is an i32: sums are -1,000,000 to 1,000,000, and a turn is at most 191 detents
abbrev pub SumsFit : List ℤ → ℕ → ℤ → Type 0
SumsFit ns n delta = (i : ℕ) → i < n → SFits w32 (get_or ns i (pos 0) +ℤ delta)
