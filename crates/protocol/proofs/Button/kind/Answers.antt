use Rattle.std.proofs.Common.{◌∙◌, sym, ◌+◌, arith}
use Rattle.protocol.proofs.Laws.{named_at, numbered}
use Rattle.protocol.specs.Protocol.{kind_of}
use Rattle.protocol.proofs.Button.kind.Goals as goal

pub returns-in-Some-named_of : goal.returns-in-Some-named_of
unfolding kind_of
returns-in-Some-named_of c =
    let l = named_at _ _ (sym c.named_of.ensures ∙ c.in-Some-named_of.is) in
    rw (← c.base_of.ensures, c.in_default.is, ← c.named_of.ensures, c.in-Some-named_of.is) (numbered (c.in-Some-named_of.k + 4) (omega (arith, l)))
