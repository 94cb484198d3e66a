-- `check::partner_well_formed` meets its contract: its tests are those of the definition.
use Rattle.prelude.proofs.Kit.{◌≡◌, sym, ◌∙◌, rules, not, ap, true, eqb}
use Rattle.machine.specs.Policy.{url_partner, no_partner}
use Rattle.policy.proofs.Partners.{replaced_named, replaced_partner, kept_partner, no_partner_lem}
use Rattle.policy.proofs.check.partner_well_formed.Goals as goal

pub is_partner-requires : goal.is_partner-requires
is_partner-requires g c = (c.requires, replaced_named c.args.policy.now c.args.url (sym c.is_replaced-replaced.ensures ∙ c.if-replaced.true))

pub returns-then-replaced : goal.returns-then-replaced
returns-then-replaced g c =
    replaced_partner c.args.policy.now c.args.url c.in-Some.partner _ (search rules) (sym c.if-replaced.true ∙ c.is_replaced-replaced.ensures) c.is_partner.ensures

pub returns-else-replaced : goal.returns-else-replaced
returns-else-replaced g c =
    let some : true ≡ not (eqb (url_partner c.args.policy.now c.args.url) no_partner) = search rules in
    c.if-replaced.false ∙ kept_partner c.args.policy.now c.args.url some (sym c.if-replaced.false ∙ c.is_replaced-replaced.ensures)

pub returns-in-None : goal.returns-in-None
returns-in-None g c =
    let none : no_partner ≡ url_partner c.args.policy.now c.args.url = search rules in
    ap not c.is_replaced-replaced.ensures ∙ no_partner_lem c.args.policy.now c.args.url none
