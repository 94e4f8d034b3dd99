-- What the loops of `ordered` test, and where the table of `once_each` keeps a record. Definitions only.
use Rattle.std.specs.Prelude.{ℕ, ◌+◌, ◌*◌, ◌%◌, List, Bool, ◌&&◌, ◌||◌, eqb, leb, ltb}
use Rattle.profile.specs.Profile.{byte_at, in_globals}

-- record k is one that leads the file, where it may stand: the settings first, then the banks from 0 on
abbrev pub leads_at : List ℕ → ℕ → Bool
leads_at s k = (eqb k 0 && eqb (byte_at s k 0) 0) || (eqb (byte_at s k 0) 1 && eqb (byte_at s k 1 + 1) k)

-- record k, behind all banks and a record of the kind `last`, stands where it may, and the bank that it names is there
abbrev pub follows_at : List ℕ → ℕ → ℕ → ℕ → Bool
follows_at s k last banks = leb last (byte_at s k 0) && (ltb 5 (byte_at s k 0) || (eqb (byte_at s k 1) in_globals || ltb (byte_at s k 1) banks))

-- the place of a kind, a bank and a number
abbrev pub slot_of : ℕ → ℕ → ℕ → ℕ
slot_of kind b n = kind % 2 * 512 + (b % 32 * 16 + n % 16)

-- the place of record j
abbrev pub slot_at : List ℕ → ℕ → ℕ
slot_at s j = slot_of (byte_at s j 0) (byte_at s j 1) (byte_at s j 2)
