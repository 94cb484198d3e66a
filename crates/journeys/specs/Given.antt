-- What the functions of this crate and of the program ask of their callers, who have just established it.
use Rattle.std.specs.Prelude.{ℕ, List, T}
use Rattle.policy.specs.Given.{WellFormed}
use Rattle.journeys.specs.Journey.{is_journey}

-- a policy that 2 does not refuse, and a journey that 17 does not refuse
pub record Journey (p urls : List ℕ) : Type 0 where
  pub policy : WellFormed p
  pub journey : T (is_journey p urls)
