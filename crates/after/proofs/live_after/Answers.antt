use Rattle.std.proofs.Common.{Some}
use Rattle.after.specs.After.{KnownIf}
use Rattle.after.proofs.Laws.{renewed, renewed_few}
use Rattle.after.proofs.live_after.Goals as goal

pub returns-in-Some : goal.returns-in-Some
returns-in-Some c =
    let k : KnownIf (Some c.in-Some.s) = rw c.in-Some.is at c.requires.known_if in
    rw c.in-Some.is (record {
      banks_value = renewed c.args.live.now _ c.args.bank c.in-Some.s k.0 k.1 c.set.ensures;
      few_after = renewed_few c.args.live.now _ c.args.bank c.in-Some.s k.0 k.1 c.set.ensures;
    })
