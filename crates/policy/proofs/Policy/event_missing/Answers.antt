-- `Policy::event_missing` meets its contract: what is missing of the event endpoint's own set is the endpoint.
use Rattle.labels.proofs.Endpoints.{event_missing}
use Rattle.policy.proofs.Policy.event_missing.Goals as goal

pub returns : goal.returns
returns g c = rw (c.event_set.ensures, c.url_address.ensures, event_missing _ _ c.requires.address) at c.missing.ensures
