-- `EndpointSet::within` meets its contract: none is missing just where the set is within the other.
use Rattle.labels.proofs.Membership.{told_within}
use Rattle.labels.proofs.sets.EndpointSet.within.Goals as goal

pub returns : goal.returns
returns g c = told_within _ _ _ _ c.missing.ensures c.is_none.ensures
