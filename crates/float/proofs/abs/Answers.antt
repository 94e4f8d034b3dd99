-- std's `abs` drops the sign, and so does Rust's.
use Rattle.std.proofs.Common.{◌≡◌, false, refl, ◌∙◌}
use Rattle.std.specs.Float.{float_with_sign}
use lib.Ieee.{Float, nan, inf, fin}
use Rattle.float.specs.Leaf.{abs_of}
use Rattle.float.proofs.abs.Goals as goal

unsigned : (x : Float) → float_with_sign false x ≡ abs_of x
unfolding float_with_sign abs_of
unsigned nan = refl
unsigned (inf s) = refl
unsigned (fin s m e) = refl

pub returns : goal.returns
returns c = c.abs.ensures.value ∙ unsigned c.args.x
