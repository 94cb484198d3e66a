-- `Policy::fit_missing_reader` meets its contract: it asks what the definition asks.
use Rattle.machine.specs.Policy.{fit_missing_reader}
use Rattle.policy.proofs.Policy.fit_missing_reader.Goals as goal

pub returns : goal.returns
unfolding fit_missing_reader
returns g c = rw (c.connection_readers.ensures, c.url_readers.ensures) at c.missing.ensures
