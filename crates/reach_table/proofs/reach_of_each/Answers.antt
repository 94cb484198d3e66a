-- `reach_of_each` meets its contract: each connection is asked.
use Rattle.std.proofs.Common.{rules}
use Rattle.machine.specs.Policy.{connections}
use Rattle.reach_table.specs.Reach.{reach}
use Rattle.reach_table.proofs.Counting.{filled_is}
use Rattle.reach_table.proofs.reach_of_each.Goals as goal

pub returns : goal.returns
returns g c = filled_is _ _ c.from_fn.result (reach c.args.policy.words.now) (λ i y q k. search rules) connections c.from_fn.ensures.items
