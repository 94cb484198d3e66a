-- What is taken off the end passes the test.
use Rattle.prelude.proofs.Kit.{ℕ, Bool, ◌≡◌, length}
use Rattle.cookie.specs.Parts.{trim_end, Tests}
use Rattle.cookie.proofs.parts.trim_end.Given as goal

abbrev pub invariant-loop-rest : goal.invariant-loop-rest
invariant-loop-rest g l = (p : ℕ → Bool) → Tests (goal.F-post g l.test) p → trim_end p l.rest ≡ trim_end p l.fn.text

abbrev pub decreases-loop-rest : goal.decreases-loop-rest
decreases-loop-rest g l = length l.rest
