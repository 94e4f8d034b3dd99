use Rattle.std.proofs.Common.{◌≡◌, ◌∙◌, sym, length, arith}
use Rattle.base.proofs.KeyedLaws as laws
use Rattle.session.proofs.SearchLaws.{place-in, no-place-in}
use Rattle.session.specs.Session.{same_target}
use Rattle.session.proofs.Laws.{level_there, level_missing}
use Rattle.session.proofs.Silenced.level.Goals as goal

pub returns : goal.returns
returns c =
    let s = c.args.self.now in
    let lt : length s.targets ≡ 256 = search laws.long in
    let ll : length s.levels ≡ 256 = search laws.long in
    let w = place-in (same_target c.args.target) s.targets s.count c.in_ok-i.i (omega arith) (sym c.find.ensures ∙ c.in_ok-i.was) in
    sym (level_there c.args.target s.targets s.levels s.count c.in_ok-i.i lt ll c.requires w.0 w.1)

pub returns-in_err-i : goal.returns-in_err-i
returns-in_err-i c =
    let s = c.args.self.now in
    let lt : length s.targets ≡ 256 = search laws.long in
    let ll : length s.levels ≡ 256 = search laws.long in
    let w = no-place-in (same_target c.args.target) s.targets s.count (omega arith) (sym c.find.ensures ∙ c.in_err-i.was) in
    c.from_residual.ensures ∙ sym (level_missing c.args.target s.targets s.levels s.count s.count lt ll c.requires w (omega arith))
