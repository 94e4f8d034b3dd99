use Rattle.std.proofs.Common.{refl, sym, arith, ◌∷◌, [], length-append}
use Rattle.drivers.specs.Answers.{items_of}
use Rattle.drivers.proofs.Laws.{names_more}
use Rattle.drivers.proofs.line.Reply.names.Goals as goal

pub loop-i-init : goal.loop-i-init
unfolding items_of
loop-i-init c = rw c.none-names.ensures (refl, refl)

pub loop-i-preserved : goal.loop-i-preserved
loop-i-preserved c = let at = c.loop-i in
    rw c.push.ensures (
      rw (at.invariant.0, c.read_u16.ensures) (sym (names_more c.args.self.now.part.now at.i)),
      omega (arith, length-append at.names (c.read_u16.result ∷ []), at.invariant.1),
    )
