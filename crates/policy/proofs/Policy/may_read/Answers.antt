-- `Policy::may_read` meets its contract: its tests are those of the definition.
use Rattle.machine.specs.Policy.{may_read}
use Rattle.policy.proofs.Policy.may_read.Goals as goal

pub returns : goal.returns
unfolding may_read
returns g c =
    rw (c.within.ensures, c.within-2.ensures, c.script_readers-readers.ensures, c.cookie_readers.ensures, c.cookie_writers-writers.ensures, c.connection_writers.ensures)
