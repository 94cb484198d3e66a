-- The last byte stays where it does not pass, and is taken off where it does.
use Rattle.prelude.proofs.Kit.{arith, sym, ◌∙◌}
use Rattle.cookie.proofs.Trimming.{last_passes, last_stays, none_stays}
use Rattle.cookie.proofs.parts.trim_end.Goals as goal

pub returns-then-not-test : goal.returns-then-not-test
returns-then-not-test g c = λ p tests.
    sym (last_stays p _ (omega (arith, c.in-len1-up.len_at_least)) (sym (tests _ _ c.test.ensures) ∙ c.if-not-test.true)) ∙ c.loop-rest.invariant p tests

pub loop-rest-preserved : goal.loop-rest-preserved
loop-rest-preserved g c = λ p tests.
    last_passes p _ (omega (arith, c.in-len1-up.len_at_least)) (sym (tests _ _ c.test.ensures) ∙ c.if-not-test.false) ∙ c.loop-rest.invariant p tests

pub returns : goal.returns
returns g c = λ p tests. sym (none_stays p _ (omega (arith, c.in_default.len_below))) ∙ c.loop-rest.invariant p tests
