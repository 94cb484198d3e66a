-- `Direction::longest` meets its contract: the largest size of each direction's maps is computed.
use Rattle.records.specs.Layout.{longest}
use Rattle.records.proofs.Direction.longest.Goals as goal

pub returns-in-Input : goal.returns-in-Input
unfolding longest
returns-in-Input c = rw c.in-Input.is

pub returns-in-Request : goal.returns-in-Request
unfolding longest
returns-in-Request c = rw c.in-Request.is
