-- The worked cases of number 2 hold: they are computed.
use Rattle.machine.proofs.Cases.{cases}
use Rattle.machine_cases.specs.WellFormedCases.{WellFormedCases}

pub well_formed_cases : WellFormedCases
unfolding cases
well_formed_cases = tt
