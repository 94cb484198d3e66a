-- `cookies::has` meets its contract: the bit that is shifted down is the one that the definition reads.
use lib.Bits.{and_mask}
use Rattle.machine.specs.Session.{has}
use Rattle.session.proofs.cookies.has.Goals as goal

pub returns : goal.returns
unfolding has
returns c = rw (and_mask _ 1)
