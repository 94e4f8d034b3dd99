use Rattle.bridge.proofs.HandLaws.{at_seen, few_at}
use mathlib.Core.Path.{refl}
use Rattle.bridge.proofs.current.Goals as goal

pub invariant_of-result : goal.invariant_of-result
invariant_of-result c = record { few = few_at c.args.session.now.live c.args.bank _ c.strips.ensures c.requires.banks_value }

pub returns : goal.returns
returns c = record { profile = refl; bank = refl; strips = at_seen c.args.session.now.live c.args.bank _ c.strips.ensures }
