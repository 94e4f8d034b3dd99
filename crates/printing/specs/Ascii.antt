-- A text by its codes. Definitions only.
use Rattle.std.specs.Prelude.{ℕ, List, [] as none, ◌∷◌ as ◌and◌}
use Prim.Native.Char.{code}
use Prim.Native.String.{String, [], ◌∷◌}

-- the codes of a text of ASCII, one byte each
abbrev pub ascii : String → List ℕ
ascii [] = none
ascii (c ∷ s) = code c and ascii s
