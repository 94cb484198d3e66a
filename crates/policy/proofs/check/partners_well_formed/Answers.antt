-- `check::partners_well_formed` meets its contract: the test of every URL.
use Rattle.prelude.proofs.Kit.{◌∙◌, refl, rules, ap}
use native.Mathlib.Nat.{zero-add}
use Rattle.std.proofs.lemmas.Iterator.{YieldsList-from_range}
use Rattle.std.proofs.lemmas.Iterator.Search.{all_from_yields_List}
use Rattle.labels.proofs.Below.{ranged}
use Rattle.machine.specs.Policy.{partner_well_formed}
use Rattle.policy.proofs.check.partners_well_formed.Goals as goal

pub returns : goal.returns
returns g c =
    let test = partner_well_formed c.args.policy.now in
    all_from_yields_List test _ _ _ c.all.ensures.ran (YieldsList-from_range 0 64 64 refl refl) (λ x b q k. search rules)
    ∙ ranged 64 0 test test (λ i l. ap test (zero-add i))
