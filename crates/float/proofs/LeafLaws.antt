-- A flash has six phases, however late it is. Assumes nothing.
use Rattle.std.specs.Prelude.{◌≤◌, Float}
use Rattle.std.proofs.Common.{arith}
use Rattle.float.specs.Leaf.{due_of}

pub due-most : (now start : Float) → due_of now start ≤ 6
unfolding due_of
due-most now start = omega arith
