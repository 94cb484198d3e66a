-- `Journey::judge` meets its contract: a load is asked about at the first place, and a redirect at each further one.
use Rattle.std.proofs.Common.{◌≡◌, ◌∙◌, sym}
use Rattle.policy.specs.Forbidden.{verdict}
use Rattle.journeys.specs.Journey.{judged}
use Rattle.journeys.proofs.Judging.{judged_load, judged_redirect, told_taken}
use Rattle.journeys.proofs.legs.Journey.judge.Goals as goal

-- what is asked for is a URL, by name: an edit that asks about another number is refused for the number, and no search gives up
pub permit_load-requires : goal.permit_load-requires
permit_load-requires g c = (c.requires.0, c.url_at-url.ensures.there)

pub permit_redirect-requires : goal.permit_redirect-requires
permit_redirect-requires g c = (c.requires.0, c.url_at-url.ensures.there)

pub returns-then-place-eq0 : goal.returns-then-place-eq0
returns-then-place-eq0 g c =
    let a = c.args in
    let says : verdict c.permit_load.result ≡ judged a.self.policy.words.now a.self.urls.now a.connection a.place =
    rw c.url_at-url.ensures.asked at c.permit_load.ensures ∙ sym (judged_load _ _ _ a.place c.if-place-eq0.true) in
    record { says = says; taken = told_taken _ _ _ a.place c.permit_load.result says }

pub returns : goal.returns
returns g c =
    let a = c.args in
    let says : verdict c.permit_redirect.result ≡ judged a.self.policy.words.now a.self.urls.now a.connection a.place =
    rw c.url_at-url.ensures.asked at c.permit_redirect.ensures ∙ sym (judged_redirect _ _ _ a.place c.if-place-eq0.false) in
    record { says = says; taken = told_taken _ _ _ a.place c.permit_redirect.result says }
