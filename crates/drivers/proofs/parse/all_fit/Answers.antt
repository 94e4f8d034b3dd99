use Rattle.std.proofs.Common.{rules, refl, cond}
use Rattle.base.proofs.StdLaws.{all_below}
use Rattle.drivers.specs.Answers.{item_fits, live_fits}
use Rattle.drivers.proofs.Laws.{all_cond}
use Rattle.drivers.proofs.parse.all_fit.Goals as goal

pub returns : goal.returns
returns c = rw (← all_cond c.args.live c.args.part.now c.args.count) (all_below (λ i. cond c.args.live (live_fits c.args.part.now i) (item_fits c.args.part.now i)) _ c.all.ensures.ran refl (λ x b q k. search rules))
