-- What stands before the place that was found is the front, and what stands after it is behind.
use Rattle.prelude.proofs.Kit.{sym, ◌∙◌}
use Rattle.cookie.proofs.Finding.{found_front, found_behind, none_front, none_behind}
use Rattle.cookie.proofs.parts.cut.Goals as goal

pub returns-in-Some-clause-front : goal.returns-in-Some-clause-front
returns-in-Some-clause-front c = found_front _ _ (sym c.position.ensures ∙ c.in-Some.is)

pub returns-in-Some-clause-back : goal.returns-in-Some-clause-back
returns-in-Some-clause-back c = found_behind _ _ (sym c.position.ensures ∙ c.in-Some.is)

pub returns-in-None-clause-front : goal.returns-in-None-clause-front
returns-in-None-clause-front c = none_front _ _ (sym c.position.ensures ∙ c.in-None.is)

pub returns-in-None-clause-back : goal.returns-in-None-clause-back
returns-in-None-clause-back c = none_behind _ _ (sym c.position.ensures ∙ c.in-None.is)
