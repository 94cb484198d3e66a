-- `checks::carriable` meets its contract: it asks the three tests in turn.
use Rattle.records.specs.Codec.{carriable}
use Rattle.records.proofs.FromLeft.{has_front}
use Rattle.records.proofs.checks.carriable.Goals as goal

pub returns-then-not-has_map : goal.returns-then-not-has_map
unfolding carriable
returns-then-not-has_map c = rw (← c.has_map.ensures, c.if-not-has_map.true)

pub returns-then-no_key_set : goal.returns-then-no_key_set
unfolding carriable
returns-then-no_key_set c = rw (← c.has_map.ensures, c.if-not-has_map.false, ← c.no_key_set.ensures, c.if-no_key_set.true)

pub fields_fit-requires : goal.fields_fit-requires
fields_fit-requires c = has_front c.args.direction c.args.fields.map (rw (← c.has_map.ensures) c.if-not-has_map.false)

pub returns : goal.returns
unfolding carriable
returns c = rw (← c.has_map.ensures, c.if-not-has_map.false, ← c.no_key_set.ensures, c.if-no_key_set.false) c.fields_fit.ensures
