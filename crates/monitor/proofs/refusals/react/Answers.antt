-- `refusals::react` meets its contract: the event that the fields tell of.
use Rattle.prelude.proofs.Kit.{◌≡◌, sym, ◌∙◌, ne_eqb, eq-eqb, rules}
use Rattle.prelude.specs.Choice.{branch}
use Rattle.machine.specs.Machine.{arrived_of, cookies_of, event_of}
use Rattle.monitor.specs.Events.{told}
use Rattle.monitor.proofs.refusals.react.Goals as goal

pub returns-then-plain_map-eq-LOAD-clause-fed : goal.returns-then-plain_map-eq-LOAD-clause-fed
unfolding event_of branch
returns-then-plain_map-eq-LOAD-clause-fed g c =
    rw (eq-eqb _ _ (sym c.plain_map.ensures ∙ c.if-plain_map-eq-LOAD.true))
    (rw (c.upgraded-url.ensures, c.policy-policy.ensures, c.from.ensures, c.from-then-plain_map-eq-LOAD.ensures) at (c.load.ensures.fed c.args.table.bytes.now))

pub returns-clause-fed : goal.returns-clause-fed
unfolding event_of branch cookies_of
returns-clause-fed g c =
    let p = c.args.session.now.policy.words.now in
    let what : told c.arrived_of-what.result ≡ arrived_of p c.args.fields = search rules in
    rw (ne_eqb _ _ (λ e. c.if-plain_map-eq-LOAD.false (c.plain_map.ensures ∙ e))) (rw what at c.arrive.ensures.fed)
