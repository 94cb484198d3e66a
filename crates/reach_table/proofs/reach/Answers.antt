-- `reach` meets its contract: the rows that are reached are counted.
use Rattle.std.proofs.Common.{rules, ◌∙◌, refl, ℕ, ◌<◌, ◌^◌, arith}
use mir.Val.{bool_byte}
use Rattle.std.specs.List.{range_with_len, sum_by}
use Rattle.std.proofs.lemmas.Iterator.{YieldsList-from_range, YieldsList-from_map}
use Rattle.std.proofs.lemmas.Iterator.Consumers.{sum_by_from_yields_List, fits_by_from_yields_list}
use Rattle.machine.specs.Policy.{url_rows}
use Rattle.reach_table.specs.Reach.{reaches, reach}
use Rattle.reach_table.proofs.Counting.{digits_are, digits_most}
use Rattle.reach_table.proofs.reach.Goals as goal

pub sum-requires-clause-fits : goal.sum-requires-clause-fits
sum-requires-clause-fits g c =
    let test = reaches c.args.policy.words.now c.args.connection in
    let h : ℕ → ℕ = λ i. bool_byte (test i) in
    let small : sum_by h (range_with_len 0 url_rows) < 2 ^ 32 = omega (arith, digits_most test url_rows) in
    fits_by_from_yields_list h (range_with_len 0 url_rows) _ (2 ^ 32)
    (YieldsList-from_map _ h (YieldsList-from_range 0 url_rows url_rows c.map.ensures.source refl) c.map.ensures.closure (λ x r q k. search rules))
    small

pub returns : goal.returns
unfolding reach
returns g c =
    let test = reaches c.args.policy.words.now c.args.connection in
    sum_by_from_yields_List (λ i. bool_byte (test i)) (range_with_len 0 url_rows) _ c.sum.result c.sum.ensures.ran
    (YieldsList-from_map _ (λ i. bool_byte (test i)) (YieldsList-from_range 0 url_rows url_rows c.map.ensures.source refl) c.map.ensures.closure (λ x r q k. search rules))
    ∙ digits_are test url_rows
