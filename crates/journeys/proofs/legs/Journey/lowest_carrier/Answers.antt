-- `Journey::lowest_carrier` meets its contract: a connection is passed at the first URL that it does not take, and told where there is none.
use Rattle.std.proofs.Common.{rules, ◌≡◌, arith, true, false, length, sym, ◌∙◌}
use Rattle.prelude.proofs.Lowest.{lowest_of_all, lowest_later, lowest_here, lowest_of_none}
use Rattle.labels.proofs.Below.{all_none, one_passed, one_failed}
use Rattle.machine.specs.Policy.{connections}
use Rattle.journeys.specs.Journey.{takes, carries}
use Rattle.journeys.proofs.legs.Journey.lowest_carrier.Goals as goal

pub search-init : goal.search-init
search-init g c = let j = c.args.self in lowest_of_all connections (carries j.policy.words.now j.urls.now)

pub loop-place-init : goal.loop-place-init
loop-place-init g c = all_none _

pub loop-place-preserved : goal.loop-place-preserved
loop-place-preserved g c =
    let j = c.args.self in
    let taken : true ≡ takes j.policy.words.now j.urls.now c.search.connection c.loop-place.place = search rules in
    one_passed _ _ taken c.loop-place.invariant

pub search-preserved : goal.search-preserved
unfolding carries
search-preserved g c =
    let j = c.args.self in
    let missed : false ≡ takes j.policy.words.now j.urls.now c.search.connection c.loop-place.place = search rules in
    sym (lowest_later connections (carries j.policy.words.now j.urls.now) c.search.connection c.search-test.true (sym (one_failed _ _ _ c.loop-place-test.true missed)))
    ∙ c.search.invariant

pub returns-in-search-clause-lowest : goal.returns-in-search-clause-lowest
unfolding carries
returns-in-search-clause-lowest g c =
    let j = c.args.self in
    let whole : c.loop-place.place ≡ length j.urls.now = search rules in
    sym (lowest_here connections (carries j.policy.words.now j.urls.now) c.search.connection c.search-test.true (sym (rw whole at c.loop-place.invariant)))
    ∙ c.search.invariant

pub returns-clause-lowest : goal.returns-clause-lowest
returns-clause-lowest g c =
    let j = c.args.self in
    sym (lowest_of_none connections (carries j.policy.words.now j.urls.now) c.search.connection (omega (arith, c.search-test.false))) ∙ c.search.invariant
