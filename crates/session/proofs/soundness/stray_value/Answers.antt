-- `soundness::stray_value` meets its contract: the test is that the key is present.
use Rattle.prelude.proofs.Kit.{sym, ◌∙◌}
use Rattle.session.proofs.soundness.stray_value.Goals as goal

pub returns-then-has : goal.returns-then-has
returns-then-has c = rw (sym c.has.ensures ∙ c.if-has.true)

pub returns-else-has : goal.returns-else-has
returns-else-has c = rw (sym c.has.ensures ∙ c.if-has.false)
