-- `Policy::fit_missing_writer` meets its contract: it asks what the definition asks.
use Rattle.machine.specs.Policy.{fit_missing_writer}
use Rattle.policy.proofs.Policy.fit_missing_writer.Goals as goal

pub returns : goal.returns
unfolding fit_missing_writer
returns g c = rw c.connection_writers.ensures at c.message_missing.ensures
