-- `usage_count` meets its contract: a list that is too long is refused, and any other counted.
use Rattle.prelude.proofs.Kit.{◌∙◌}
use Rattle.usage.proofs.Answers.{too_long}
use Rattle.usage.proofs.usage_count.Goals as goal

pub returns-then-requests-gt-LIST_BYTES : goal.returns-then-requests-gt-LIST_BYTES
returns-then-requests-gt-LIST_BYTES c = c.nothing.ensures ∙ too_long c.args.requests.now c.if-requests-gt-LIST_BYTES.true
