-- `Direction::has_map` meets its contract: each arm asks for the maps of its direction, one after another.
use Rattle.prelude.proofs.Kit.{false}
use Rattle.records.specs.declared.Direction.TheVariants.{Input, Request}
use Rattle.records.specs.Layout.{maps}
use Rattle.records.proofs.Maps.{asked, joined}
use Rattle.records.proofs.Direction.has_map.Goals as goal

pub returns-in-Input : goal.returns-in-Input
unfolding asked
returns-in-Input c = rw c.in-Input.is (joined (maps Input) c.args.map false)

pub returns-in-Request : goal.returns-in-Request
unfolding asked
returns-in-Request c = rw c.in-Request.is (joined (maps Request) c.args.map false)
