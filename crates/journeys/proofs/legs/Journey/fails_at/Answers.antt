-- `Journey::fails_at` meets its contract: the places are asked one after another, up to the first that is not taken.
use Rattle.std.proofs.Common.{rules, ℕ, Bool, ◌≡◌, true, false, not, length}
use Rattle.std.proofs.lemmas.Iterator.{first_from_Range}
use Rattle.journeys.specs.Journey.{takes, fails_at}
use Rattle.journeys.proofs.Searching.{first_is_lowest}
use Rattle.journeys.proofs.legs.Journey.fails_at.Goals as goal

pub returns-clause-first : goal.returns-clause-first
unfolding fails_at
returns-clause-first g c =
    let j = c.args.self in
    let test : ℕ → Bool = λ i. not (takes j.policy.words.now j.urls.now c.args.connection i) in
    first_is_lowest (length j.urls.now) test c.find.result
    (first_from_Range _ _ _ c.find.result (λ n. test n ≡ true) (λ n. test n ≡ false) c.find.ensures.ran (λ x q k. search rules) (λ x q k. search rules))
