-- `run::handed` hands on the whole text. Assumes nothing.
use Rattle.std.specs.Prelude.{take}
use Rattle.std.proofs.Common.{rules}
use Rattle.printing.proofs.Handing.{hand_whole}
use Rattle.run.proofs.handed.Goals as goal

pub returns : goal.returns
returns g c =
    rw c.into_behind.ensures
    (hand_whole g.S.Sink.takes _ (λ a. a.behind) (λ a. take a.used a.bytes) (λ a b x h. h.0) _ c.over-out.result c.whole.new.out _ _
    c.over-out.ensures.nothing_held c.over-out.ensures.behind_value c.whole.ensures (search rules))
