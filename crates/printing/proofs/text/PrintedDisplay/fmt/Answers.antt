-- `printing::Printed` writes the text that it has. Assumes nothing.
use Rattle.std.specs.Prelude.{IsOk}
use Rattle.std.proofs.Common.{rules}
use Rattle.printing.proofs.Written.{written_to}
use Rattle.printing.proofs.text.PrintedDisplay.fmt.Goals as goal

pub returns-clause-writes : goal.returns-clause-writes
returns-clause-writes g c =
    λ plain fine. written_to g.W.Write.write_str_gives _ (λ s. s.f.now) (λ s. s.f.ghost_name) (λ s. IsOk s.result) (λ a b x h. h)
    _ c.put.new.out _ _ plain fine (λ same. search rules) c.put.ensures
