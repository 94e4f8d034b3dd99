-- `profile::ends::is_finite` meets its contract. Assumes nothing.
use Rattle.std.proofs.Common.{sym, arith}
use Rattle.profile.proofs.Finite.{exponent_field}
use Rattle.profile.proofs.ends.is_finite.Goals as goal

pub returns : goal.returns
returns c = rw c.read_u16.ensures (sym (exponent_field c.args.profile.now (λ i. omega (arith, c.type_inv.profile i)) _ _ (omega arith)))
