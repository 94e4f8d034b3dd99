-- `printing::Hex` is put as the definition's text. Assumes nothing.
use Rattle.std.proofs.Common.{rules, get_or, sym, ◌∙◌}
use Rattle.printing.proofs.Laws.{hex_more, byte_is}
use Rattle.printing.proofs.Puts.{put_as, put_one, put_two}
use Rattle.printing.proofs.HexText.put.Goals as goal

pub loop-b-preserved : goal.loop-b-preserved
loop-b-preserved g c =
    let b = get_or c.args.self.now.0.now c.loop-b.b-index 0 in
    let two = byte_is b c.hex-k.result (search rules) (rw c.from.ensures at c.hex-k.ensures.len) in
    let digits = rw c.from.ensures at c.hex-k.ensures.digits in
    put_as (sym (hex_more c.args.self.now.0.now c.loop-b.b-index c.loop-b-test.true)) (put_two c.loop-b.invariant (put_as (digits ∙ two) (put_one c.take.ensures)))
