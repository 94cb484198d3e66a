-- `Bits::missing` meets its contract: the zeros below the lowest bit of what is left over.
use Rattle.prelude.proofs.Kit.{rules, sym, ◌∙◌}
use Rattle.labels.proofs.Membership.{tells_none, tells_some}
use Rattle.labels.proofs.Words.{zeros_missing}
use Rattle.labels.proofs.bits.BitsEndpointSet.missing.Goals as goal

pub returns-then-lowest-eq-NONE_MISSING : goal.returns-then-lowest-eq-NONE_MISSING
returns-then-lowest-eq-NONE_MISSING c = tells_none _ (sym c.if-lowest-eq-NONE_MISSING.true ∙ zeros_missing _ _ (search rules))

pub returns-else-lowest-eq-NONE_MISSING : goal.returns-else-lowest-eq-NONE_MISSING
returns-else-lowest-eq-NONE_MISSING c = tells_some _ _ (zeros_missing _ _ (search rules)) c.if-lowest-eq-NONE_MISSING.false
