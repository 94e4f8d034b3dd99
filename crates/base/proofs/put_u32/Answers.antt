use Rattle.std.proofs.Common.{◌≡◌, ◌+◌, ◌-◌, arith, rules}
use Rattle.base.proofs.WordsLaws.{part_put32}
use Rattle.base.proofs.put_u32.Goals as goal

pub returns : goal.returns
returns c =
    let e : c.args.at + 4 - c.args.at ≡ 4 = omega arith in
    rw (e, c.copy_from_slice.ensures.after, c.to_le_bytes.ensures) (part_put32 _ c.args.at c.args.n c.requires (search rules))
