-- `Policy::redirect_missing_writer` meets its contract: it asks what the definition asks, in its order.
use Rattle.machine.specs.Policy.{redirect_missing_writer}
use Rattle.policy.proofs.Tellings.{first_told}
use Rattle.policy.proofs.Policy.redirect_missing_writer.Goals as goal

pub returns : goal.returns
unfolding redirect_missing_writer
returns g c = rw c.or.ensures (first_told _ _ _ _ c.fit_missing_writer-message.ensures c.reach_missing_writer.ensures)
