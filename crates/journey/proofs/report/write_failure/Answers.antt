-- `report::write_failure` meets its contract: the first URL that the connection does not take, and why.
use Rattle.prelude.proofs.Kit.{◌≤◌, ◌+◌, arith, length}
use Rattle.text.proofs.Writing.{writes_then}
use Rattle.std.specs.Prelude.{Some}
use Rattle.journeys.specs.Journey.{most_urls}
use Rattle.journeys.proofs.Judging.{few_urls}
use Rattle.journey.proofs.Room.{head_room, place_room, line_is, stops_at, stops}
use Rattle.journey.proofs.report.write_failure.Goals.{After-first_stop}
use Rattle.journey.proofs.report.write_failure.Goals as goal

few : (c : After-first_stop) → length c.args.journey.urls.now ≤ most_urls
few c = few_urls c.args.journey.policy.words.now c.args.journey.urls.now c.args.journey.good.journey

pub returns-in_default : goal.returns-in_default
returns-in_default c =
    let j = c.args.journey in
    absurd (stops j.policy.words.now j.urls.now c.args.connection c.first_stop.result c.in_default.is c.requires.fails c.first_stop.ensures.stop)

pub overflow_cast-nth : goal.overflow_cast-nth
overflow_cast-nth c = omega (arith, few (goal.at.overflow_cast-nth c).After-first_stop, c.in-Some.ensures.there)

pub overflow_add-nth : goal.overflow_add-nth
overflow_add-nth c = omega (arith, few (goal.at.overflow_add-nth c).After-first_stop, c.in-Some.ensures.there)

pub overflow_cast-journey : goal.overflow_cast-journey
overflow_cast-journey c = omega (arith, few (goal.at.overflow_cast-journey c).After-first_stop)

pub write_place-requires : goal.write_place-requires
write_place-requires c = omega (arith, c.requires.room, head_room c.args.connection c.number.result)

pub write_lack-requires-clause-room : goal.write_lack-requires-clause-room
write_lack-requires-clause-room c =
    omega (
      arith,
      c.requires.room,
      head_room c.args.connection c.number.result,
      place_room c.from-url.result (c.in-Some.failure.place + 1) (length c.args.journey.urls.now),
    )

pub returns : goal.returns
returns c =
    let j = c.args.journey in
    let f = c.in-Some.failure in
    let head = rw c.number.ensures at c.write_head.ensures in
    let place = rw c.from-url.ensures at c.write_place.ensures in
    rw (← line_is j.policy.words.now j.urls.now c.args.connection f (stops_at j.policy.words.now j.urls.now c.args.connection (Some f) c.requires.fails c.in-Some.ensures.stop))
    (writes_then head (writes_then place c.write_lack.ensures))
