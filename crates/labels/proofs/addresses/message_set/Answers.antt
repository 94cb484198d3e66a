-- `addresses::message_set` meets its contract: an address is its own message endpoint, and above 31 its singleton is empty as well.
use Rattle.prelude.proofs.Kit.{ap, ◌∙◌}
use Rattle.labels.specs.Sets.{holds}
use Rattle.labels.proofs.Endpoints.{message_only}
use Rattle.labels.proofs.addresses.message_set.Goals as goal

pub returns : goal.returns
returns g c = c.only.ensures ∙ ap holds (message_only c.args.address)
