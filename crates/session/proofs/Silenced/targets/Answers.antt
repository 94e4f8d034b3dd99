use Rattle.std.proofs.Common.{◌≡◌, sym, length, arith}
use Rattle.base.proofs.KeyedLaws as laws
use Rattle.session.proofs.SessionLaws.{targets_seen}
use Rattle.session.proofs.Silenced.targets.Goals as goal

pub returns-clause-seen : goal.returns-clause-seen
returns-clause-seen c =
    let s = c.args.self.now in
    let l : length s.levels ≡ 256 = search laws.long in
    sym (targets_seen s.count s.targets s.levels (omega arith))
