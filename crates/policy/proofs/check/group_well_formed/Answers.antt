-- `check::group_well_formed` meets its contract: a group of empty rows, or the test of every row.
use Rattle.prelude.proofs.Kit.{◌+◌, ◌-◌, ◌≡◌, ◌∙◌, sym, refl, rules, arith}
use Rattle.std.proofs.lemmas.Iterator.{YieldsList-from_range}
use Rattle.std.proofs.lemmas.Iterator.Search.{all_from_yields_List}
use Rattle.labels.proofs.Below.{ranged}
use Rattle.machine.specs.Policy.{row_well_formed}
use Rattle.policy.proofs.Rows.{group_formed}
use Rattle.policy.proofs.check.group_well_formed.Goals as goal

pub returns-then-group_empty : goal.returns-then-group_empty
returns-then-group_empty g c = group_formed c.args.policy.now c.args.first 8 (sym c.group_empty.ensures ∙ c.if-group_empty.true)

pub returns : goal.returns
returns g c =
    let first = c.args.first in
    let test = row_well_formed c.args.policy.now in
    let eight : first + 8 - first ≡ 8 = omega arith in
    all_from_yields_List test _ _ _ c.all.ensures.ran (YieldsList-from_range first (first + 8) 8 refl eight) (λ x b q k. search rules)
    ∙ ranged 8 first test (λ i. test (first + i)) (λ i l. refl)
