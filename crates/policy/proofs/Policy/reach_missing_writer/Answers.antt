-- `Policy::reach_missing_writer` meets its contract: an entry is not asked.
use Rattle.prelude.proofs.Kit.{refl, sym, ◌∙◌}
use Rattle.prelude.specs.Choice.{branch}
use Rattle.labels.proofs.Membership.{tells_none}
use Rattle.machine.specs.Policy.{reach_missing_writer}
use Rattle.policy.proofs.Policy.reach_missing_writer.Goals as goal

pub returns-then-is_entry : goal.returns-then-is_entry
unfolding reach_missing_writer branch
returns-then-is_entry g c = rw (sym c.is_entry.ensures ∙ c.if-is_entry.true) (tells_none _ refl)

pub returns : goal.returns
unfolding reach_missing_writer branch
returns g c = rw (sym c.is_entry.ensures ∙ c.if-is_entry.false) (rw (c.connection_writers-writers.ensures, c.url_writers.ensures) at c.missing-missing.ensures)
