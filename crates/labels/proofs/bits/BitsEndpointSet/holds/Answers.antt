-- `Bits::holds` meets its contract: the bit that is shifted down is the one that membership reads.
use Rattle.prelude.proofs.Kit.{arith, le-ltb, lt-ltb}
use borrow.Author.Tests.{lt-leb}
use lib.Bits.{and_mask}
use Rattle.labels.specs.Membership.{endpoints}
use Rattle.labels.specs.Sets.{holds}
use Rattle.labels.proofs.bits.BitsEndpointSet.holds.Goals as goal

pub returns-then-endpoint-le-LAST_ENDPOINT : goal.returns-then-endpoint-le-LAST_ENDPOINT
unfolding holds
returns-then-endpoint-le-LAST_ENDPOINT c = rw (lt-ltb c.args.endpoint endpoints (omega arith), and_mask _ 1)

pub returns-else-endpoint-le-LAST_ENDPOINT : goal.returns-else-endpoint-le-LAST_ENDPOINT
unfolding holds
returns-else-endpoint-le-LAST_ENDPOINT c = rw (lt-leb c.args.endpoint 31 c.if-endpoint-le-LAST_ENDPOINT.false, le-ltb c.args.endpoint endpoints (omega arith))
