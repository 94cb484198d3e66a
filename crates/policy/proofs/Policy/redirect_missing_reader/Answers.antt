-- `Policy::redirect_missing_reader` meets its contract: it asks what the definition asks, in its order.
use Rattle.machine.specs.Policy.{redirect_missing_reader}
use Rattle.policy.proofs.Tellings.{first_told}
use Rattle.policy.proofs.Policy.redirect_missing_reader.Goals as goal

pub returns : goal.returns
unfolding redirect_missing_reader
returns g c = rw c.or.ensures (first_told _ _ _ _ (rw c.connection_readers.ensures at c.event_missing-event.ensures) c.fit_missing_reader.ensures)
