-- `total` meets its contract: the counts are added, and their sum fits.
use Rattle.std.proofs.Common.{rules, ◌≡◌, ◌<◌, ◌^◌, ◌∙◌, ap, sum, arith, get_or, length}
use Rattle.prelude.specs.Sums.{sum_below}
use Rattle.prelude.proofs.Sums.{sum_most}
use Rattle.machine.specs.Policy.{url_rows, connections}
use Rattle.reach_table.proofs.Counting.{total_is}
use Rattle.reach_table.proofs.total.Goals as goal

pub sum-requires-clause-fits : goal.sum-requires-clause-fits
sum-requires-clause-fits c =
    let urls = c.args.urls.now in
    let long : length urls ≡ connections = search rules in
    let small : sum urls < 2 ^ 32 =
    omega (arith, total_is urls ∙ ap (λ n. sum_below n (λ i. get_or urls i 0)) long, sum_most (λ i. get_or urls i 0) url_rows connections c.requires) in
    search rules

pub returns : goal.returns
returns c =
    let urls = c.args.urls.now in
    let long : length urls ≡ connections = search rules in
    let added : c.sum.result ≡ sum urls = search rules in
    added ∙ total_is urls ∙ ap (λ n. sum_below n (λ i. get_or urls i 0)) long
