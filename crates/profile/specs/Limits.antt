-- What the loop of `limits_ok` counts, where its table keeps a count, and what it tests at the end. Definitions only.
use Rattle.std.specs.Prelude.{ℕ, ◌+◌, ◌*◌, ◌%◌, List, Bool, ◌&&◌, get_or, leb}
use Rattle.base.specs.Range.{all}
use Rattle.profile.specs.Profile.{byte_at}

-- scenes, transports and default buttons are counted
unfoldable pub counted : ℕ → Bool
counted kind = leb 4 kind && leb kind 6

-- the place of record j: each kind has a row, with a place for each byte 1
abbrev pub row_at : List ℕ → ℕ → ℕ
row_at s j = byte_at s j 0 % 4 * 256 + byte_at s j 1

-- the 256 counts from `from` on are at most the limit
unfoldable pub all_at_most : List ℕ → ℕ → ℕ → Bool
all_at_most table from limit = all 256 (λ b. leb (get_or table (from + b) 0) limit)
