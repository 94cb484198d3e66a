-- What the functions answer, as the definitions tell it: the number of a refusal, the connection that is found, and where one stops.
use Rattle.std.specs.Prelude.{ℕ, List, Option, Some, None, Result, Ok, Err, unwrap_or}
use Rattle.prelude.specs.Choice.{branch}
use Rattle.prelude.specs.Refusals.{accepted}
use Rattle.machine.specs.Policy.{connections}
use Rattle.machine.specs.Machine.{policy_bad}
use Rattle.journeys.specs.declared.Found.{Found}
use Rattle.journeys.specs.declared.Stop.{Stop}
use Rattle.journeys.specs.declared.error.JourneyError.{JourneyError}
use Rattle.journeys.specs.declared.error.JourneyError.TheVariants.{PolicyBad, JourneyBad, ConnectionUnknown}
use Rattle.journeys.specs.declared.failure.Failure.{Failure}
use Rattle.journeys.specs.Journey.{journey_bad, connection_unknown, refused, told, no_stop, refused_stop}
use Rattle.policy.specs.Forbidden.{forbids}

abbrev pub number_of : JourneyError → ℕ
number_of PolicyBad = policy_bad
number_of JourneyBad = journey_bad
number_of ConnectionUnknown = connection_unknown

-- the number of what is refused, or 0
abbrev pub refusal_of : {A : Type 0} → Result A JourneyError → ℕ
refusal_of (Ok a) = accepted
refusal_of (Err e) = number_of e

abbrev pub found_by : Result (Option ℕ) JourneyError → Found
found_by (Ok c) = told (unwrap_or c connections)
found_by (Err e) = refused (number_of e)

abbrev pub stopped_by : Result Stop JourneyError → Stop
stopped_by (Ok s) = s
stopped_by (Err e) = refused_stop (number_of e)

-- a stop at a place, or none
abbrev pub halted : List ℕ → Option Failure → Stop
halted urls None = no_stop urls
halted urls (Some f) = record {
  number = accepted;
  place = f.place;
  refusal = (forbids f.forbidden).number;
  missing = (forbids f.forbidden).missing;
  url = f.url;
  of_url = branch f.of_url 1 0;
}
