-- What a sink that holds a part back hands on to the one behind it. Definitions only.
use Rattle.std.specs.Prelude.{ℕ, ◌≡◌, List, ◌++◌}
use Rattle.std.specs.Fmt.{WritesInCalls}

-- of what was held and a piece, in order, the first part was handed on, which took the sink behind from w to v, and the rest is left
pub record HandsOn {W : Type 0} (took : W → List ℕ → W → Type 0) (w : W) (held piece : List ℕ) (v : W) (left : List ℕ) : Type 0 where
  pub handed : List ℕ
  pub calls : WritesInCalls took w handed v
  pub whole : handed ++ left ≡ held ++ piece
