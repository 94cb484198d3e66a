-- The worked cases hold: they are computed.
use Rattle.prelude.specs.Lists.{same_numbers}
use Rattle.machine.specs.Cases.{with, empty_rows, policy_with, step_bytes, steps_bytes, scripts_with, state_with, gives, right_from, all_right, each_gives, CasesAToJ}
use Rattle.machine.specs.MoreCases.{MoreCases}
use Rattle.machine.specs.HttpsCases.{HttpsCases}
use Rattle.machine.specs.EntryCases.{EntryCases}
use Rattle.machine.specs.MissingCases.{MissingCases}
use Rattle.machine.proofs.Computing.{machine}

-- what the cases are told with, opened too
unfoldable pub cases : Unit {0}
unfolding machine with empty_rows policy_with step_bytes steps_bytes scripts_with state_with same_numbers gives right_from all_right each_gives
cases = tt

pub cases_a_to_j : CasesAToJ
unfolding cases
cases_a_to_j = tt

pub more_cases : MoreCases
unfolding cases
more_cases = tt

pub https_cases : HttpsCases
unfolding cases
https_cases = tt

pub entry_cases : EntryCases
unfolding cases
entry_cases = tt

pub missing_cases : MissingCases
unfolding cases
missing_cases = tt
