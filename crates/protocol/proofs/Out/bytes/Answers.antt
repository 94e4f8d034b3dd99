use Rattle.protocol.specs.Protocol.{bytes_of}
use Rattle.protocol.specs.declared.Out.TheVariants.{Led, Position}
use Rattle.protocol.proofs.Back.{reads_back}
use Rattle.protocol.proofs.Out.bytes.Goals as goal

pub returns-in-Led-clause-result_value : goal.returns-in-Led-clause-result_value
unfolding bytes_of
returns-in-Led-clause-result_value c = rw (c.velocity.ensures, c.in-Led.is) (reads_back (Led c.in-Led.note c.in-Led.on))

pub returns-in-Position-clause-result_value : goal.returns-in-Position-clause-result_value
unfolding bytes_of
returns-in-Position-clause-result_value c = rw c.in-Position.is (reads_back (Position c.in-Position.channel c.in-Position.raw))
