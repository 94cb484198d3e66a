-- `Policy::may_store` meets its contract: its tests are those of the definition.
use Rattle.machine.specs.Policy.{may_store}
use Rattle.policy.proofs.Policy.may_store.Goals as goal

pub returns : goal.returns
unfolding may_store
returns g c =
    rw (c.within.ensures, c.within-2.ensures, c.cookie_readers-readers.ensures, c.connection_readers.ensures, c.connection_writers-writers.ensures, c.cookie_writers.ensures)
