-- `Journey::first_stop` meets its contract: the first place that is not taken, where labels forbid the URL, or none.
use Rattle.std.proofs.Common.{rules, ◌≡◌, Err, is_ok, true, arith, ap, ◌∙◌, sym}
use Rattle.journeys.specs.Journey.{stop_at}
use Rattle.policy.specs.Forbidden.{forbids}
use Rattle.journeys.proofs.Stopping.{stop_is, stops_there, stops_nowhere, taken_nowhere}
use Rattle.journeys.proofs.legs.Journey.first_stop.Goals as goal

pub returns-in_err-place-clause-stop : goal.returns-in_err-place-clause-stop
returns-in_err-place-clause-stop g c =
    let a = c.args in
    rw c.from_residual.ensures (stops_nowhere a.self.policy.words.now a.self.urls.now a.connection (omega (arith, c.in_err-place.ensures.first)))

-- a place where the search ends is not taken
pub returns-in_err-forbidden-clause-stop : goal.returns-in_err-forbidden-clause-stop
returns-in_err-forbidden-clause-stop g c =
    let ok : is_ok c.judge.result ≡ true = search rules in
    absurd (taken_nowhere _ _ _ c.in_ok-place.place c.in_ok-place.ensures.first c.in_ok-place.ensures.within (sym c.judge.ensures.taken ∙ ok))

pub returns-clause-stop : goal.returns-clause-stop
returns-clause-stop g c =
    let a = c.args in
    let p = a.self.policy.words.now in
    let urls = a.self.urls.now in
    let place = c.in_ok-place.ensures.first in
    let is : c.judge.result ≡ Err c.in_ok-forbidden.forbidden = search rules in
    stop_is p urls a.connection c.in_ok-place.place c.url_at-url.result (forbids c.in_ok-forbidden.forbidden) c.url_lacks-of_url.result
    (rw is at c.judge.ensures.says)
    c.url_at-url.ensures.asked
    c.url_lacks-of_url.ensures
    ∙ ap (stop_at p urls a.connection) place
    ∙ stops_there p urls a.connection (omega (arith, place, c.in_ok-place.ensures.within))
