-- `Bits::only` meets its contract: a one that is shifted by at most 31 stays in the word.
use Rattle.prelude.proofs.Kit.{arith, ap}
use Rattle.labels.specs.Sets.{holds}
use Rattle.labels.proofs.Words.{only_shifted, only_above, empty_word}
use Rattle.labels.proofs.bits.BitsEndpointSet.only.Goals as goal

pub returns-then-endpoint-gt-LAST_ENDPOINT : goal.returns-then-endpoint-gt-LAST_ENDPOINT
returns-then-endpoint-gt-LAST_ENDPOINT c = ap holds (rw (← empty_word) (only_above c.args.endpoint (omega arith)))

pub returns : goal.returns
returns c = ap holds (only_shifted c.args.endpoint (omega arith))
