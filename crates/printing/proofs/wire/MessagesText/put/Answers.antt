-- `printing::wire::Messages` is put as the definition's text. Assumes nothing.
use Rattle.std.proofs.Common.{◌*◌, suc, sym, ◌∙◌, arith}
use Rattle.printing.proofs.Laws.{message_more, rest_is, within}
use Rattle.printing.proofs.Puts.{put_as, put_two}
use Rattle.printing.proofs.wire.MessagesText.put.Goals as goal

pub loop-message-preserved : goal.loop-message-preserved
loop-message-preserved g c =
    let i = c.loop-message.invariant in
    let s = c.in-Some.ensures.steps in
    let bs = c.args.self.now.0.now in
    let e = sym i.3 ∙ s.1.0 in
    let l = s.1.1 ∙ i.1 in (
      suc i.0,
      s.0 ∙ i.1,
      omega (arith, within bs _ _ (3 * i.0) 3 e l i.2),
      rest_is bs _ _ (3 * i.0) 3 e l (3 * suc i.0) (omega arith),
      put_as (message_more bs _ _ i.0 i.2 e l) (put_two i.4 c.put.ensures),
    )
