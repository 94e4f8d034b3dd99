use mathlib.Core.Path.{ap}
use Rattle.drivers.proofs.Laws.{stores, stores_length}
use lib.ListN.{length-set, length}
use native.Mathlib.Omega.{arith}
use Rattle.drivers.proofs.line.write_call.Goals as goal

pub bounds-part-1 : goal.bounds-part-1
bounds-part-1 c = simp length-set (omega arith)

pub put_u16-requires : goal.put_u16-requires
put_u16-requires c = simp length-set (omega arith)

pub put_u32-requires : goal.put_u32-requires
put_u32-requires c = omega (arith, simp length-set at (ap length c.put_u16.ensures))

pub put_u64-requires : goal.put_u64-requires
put_u64-requires c = omega (arith, simp length-set at (ap length c.put_u16.ensures), simp length-set at (ap length c.put_u32.ensures))

pub shape_of-part : goal.shape_of-part
shape_of-part c = let a = c.args in
    rw (c.put_u64.ensures, c.put_u32.ensures, c.put_u16.ensures) (stores_length a.part.now a.c)

pub returns : goal.returns
returns c = let a = c.args in
    rw (c.put_u64.ensures, c.put_u32.ensures, c.put_u16.ensures) (stores a.part.now a.c c.requires)
