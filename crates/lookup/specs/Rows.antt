-- The records that a lookup goes over, in file order. Definitions only.
use Rattle.std.specs.Prelude.{ℕ, Bool, List, map, filter}
use Rattle.std.specs.List.{range_with_len}
use Rattle.profile.specs.declared.record.Record.{Record}
use Rattle.lookup.specs.Lookup.{reach, of_part}

-- what is seen of a record: the profile, and which of its records it is
pub record Row : Type 0 where
  pub profile : List ℕ
  pub k : ℕ

abbrev pub row : List ℕ → ℕ → Row
row s k = record { profile = s; k = k }

abbrev pub row_of : Record → Row
row_of r = row r.profile.now r.k

-- n records from the k-th on
abbrev pub rows : List ℕ → ℕ → ℕ → List Row
rows s k n = map (row s) (range_with_len k n)

-- it is of the kind and belongs to the part
abbrev pub of : ℕ → ℕ → Row → Bool
of kind part r = of_part r.profile kind part r.k

-- all such records
abbrev pub rows_of : List ℕ → ℕ → ℕ → List Row
rows_of s kind part = filter (of kind part) (rows s 0 (reach s kind))
