-- `number` meets its contract. By name: an edit that reads another buffer is refused for that buffer, and no search gives up.
use Rattle.arguments.proofs.number.Goals as goal

pub read-requires : goal.read-requires
read-requires g c = c.arg.ensures.bound
