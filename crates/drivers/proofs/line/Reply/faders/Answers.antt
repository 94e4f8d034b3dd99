use Rattle.std.proofs.Common.{refl, sym, arith, ◌∷◌, [], length-append}
use Rattle.drivers.specs.Answers.{items_of}
use Rattle.drivers.proofs.Laws.{items_more}
use Rattle.drivers.proofs.line.Reply.faders.Goals as goal

pub loop-i-init : goal.loop-i-init
unfolding items_of
loop-i-init c = rw c.none-faders.ensures (refl, refl)

pub loop-i-preserved : goal.loop-i-preserved
loop-i-preserved c = let at = c.loop-i in
    rw c.push.ensures (
      rw (at.invariant.0, c.fader.ensures) (sym (items_more c.args.self.now.part.now at.i)),
      omega (arith, length-append at.faders (c.fader.result ∷ []), at.invariant.1),
    )
