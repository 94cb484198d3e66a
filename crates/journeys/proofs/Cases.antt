-- The worked cases hold: they are computed.
use Rattle.prelude.specs.Lists.{numbers, lowest}
use Rattle.machine.proofs.Cases.{cases}
use Rattle.journeys.specs.Journey.{judged, carries, is_journey, found, fails_at, of_url_number, stop, stopped}
use Rattle.journeys.specs.Cases.{answers, all_found, judged_so, all_fail, same_stop, all_stop, JourneyCases}

pub journey_cases : JourneyCases
unfolding cases numbers lowest judged carries is_journey found fails_at of_url_number stop stopped answers all_found judged_so all_fail same_stop all_stop
journey_cases = tt
