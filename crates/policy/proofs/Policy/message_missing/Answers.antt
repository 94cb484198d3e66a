-- `Policy::message_missing` meets its contract: what is missing of the message endpoint's own set is the endpoint.
use Rattle.labels.proofs.Endpoints.{message_missing}
use Rattle.policy.proofs.Policy.message_missing.Goals as goal

pub returns : goal.returns
returns g c = rw (c.message_set.ensures, c.url_address.ensures, message_missing _ _ c.requires.address) at c.missing.ensures
