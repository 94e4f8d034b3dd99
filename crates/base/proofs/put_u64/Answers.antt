use Rattle.std.proofs.Common.{◌≡◌, ◌+◌, ◌-◌, arith, rules}
use Rattle.base.proofs.WordsLaws.{part_put64}
use Rattle.base.proofs.put_u64.Goals as goal

pub returns : goal.returns
returns c =
    let e : c.args.at + 8 - c.args.at ≡ 8 = omega arith in
    rw (e, c.copy_from_slice.ensures.after, c.to_le_bytes.ensures) (part_put64 _ c.args.at c.args.n c.requires (search rules))
