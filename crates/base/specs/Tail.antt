-- The part of a buffer from a place on, lent to a writer and given back. Definitions only.
use Rattle.std.specs.Prelude.{List, ◌++◌, ℕ, ◌+◌, length, take, drop}

-- xs with bs written over it from place a on: what stands before and behind is as it was
unfoldable pub over : List ℕ → ℕ → List ℕ → List ℕ
over xs a bs = take a xs ++ (bs ++ drop (a + length bs) xs)

-- xs with bs written over its first bytes
unfoldable pub at_front : List ℕ → List ℕ → List ℕ
at_front bs xs = bs ++ drop (length bs) xs
