-- `reach_fits` meets its contract: what is asked of a cell is asked of a connection that there is.
use Rattle.prelude.proofs.Kit.{◌∙◌, refl, sym, lt-ltb}
use Rattle.machine.specs.Policy.{connections}
use Rattle.reach_table.specs.Reach.{in_table}
use Rattle.reach_table.proofs.reach_fits.Goals as goal

pub reaches-requires : goal.reaches-requires
reaches-requires c = c.if-connection-lt-CONNECTIONS.true

pub returns-then-connection-lt-CONNECTIONS : goal.returns-then-connection-lt-CONNECTIONS
unfolding in_table
returns-then-connection-lt-CONNECTIONS c =
    c.reaches.ensures ∙ rw (c.in-Some.ensures.words, sym c.in-Some.ensures.formed, lt-ltb c.args.connection connections c.if-connection-lt-CONNECTIONS.true) refl
