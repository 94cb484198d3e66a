-- `words::set_connection` meets its contract: the store is that of the definition.
use Rattle.prelude.proofs.Kit.{refl}
use Rattle.machine.specs.Session.{set_connection}
use Rattle.session.proofs.words.set_connection.Goals as goal

pub returns : goal.returns
unfolding set_connection
returns c = refl
