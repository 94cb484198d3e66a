use Rattle.records.specs.Codec.{no_key_set}
use Rattle.records.proofs.Taking.{on_one}
use Rattle.records.proofs.checks.no_key_set.Goals as goal

pub returns : goal.returns
unfolding no_key_set
returns c = rw (← c.is_set.ensures, on_one c.is_set.result)
