-- `addresses::event_set` meets its contract: an address's event endpoint is its host, and above 31 there is none.
use Rattle.prelude.proofs.Kit.{arith, rules, ap, ◌∙◌}
use Rattle.labels.specs.Sets.{holds}
use Rattle.labels.proofs.Endpoints.{event_only, event_none}
use Rattle.labels.proofs.addresses.event_set.Goals as goal

pub returns-then-address-gt-LAST_ENDPOINT : goal.returns-then-address-gt-LAST_ENDPOINT
returns-then-address-gt-LAST_ENDPOINT g c = event_none c.args.address (omega arith) (search rules)

pub returns : goal.returns
returns g c = c.only.ensures ∙ ap holds (event_only c.args.address (omega arith))
