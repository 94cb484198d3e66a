-- `check::rows_well_formed` meets its contract: the test of every group.
use Rattle.prelude.proofs.Kit.{ℕ, ◌+◌, ◌*◌, ◌∙◌, refl, rules, ap}
use native.Mathlib.Nat.{zero-add}
use Rattle.std.proofs.lemmas.Iterator.{YieldsList-from_range}
use Rattle.std.proofs.lemmas.Iterator.Search.{all_from_yields_List}
use Rattle.labels.specs.Membership.{all_below}
use Rattle.labels.proofs.Below.{ranged, grouped}
use Rattle.machine.specs.Policy.{row_well_formed}
use Rattle.policy.proofs.check.rows_well_formed.Goals as goal

pub returns : goal.returns
returns g c =
    let test = row_well_formed c.args.policy.now in
    let group = λ (n : ℕ). all_below 8 (λ i. test (8 * n + i)) in
    all_from_yields_List group _ _ _ c.all.ensures.ran (YieldsList-from_range 0 8 8 refl refl) (λ x b q k. search rules)
    ∙ ranged 8 0 group group (λ i l. ap group (zero-add i)) ∙ grouped 8 8 test
