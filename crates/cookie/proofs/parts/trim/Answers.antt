-- Blanks are taken off the front, and then off the end.
use Rattle.std.proofs.Common.{rules}
use Rattle.prelude.proofs.Kit.{◌∙◌, ap}
use Rattle.cookie.specs.Parts.{is_blank, trim_end, trim}
use Rattle.cookie.proofs.parts.trim.Goals as goal

pub returns : goal.returns
unfolding trim
returns c = c.trim_end.ensures is_blank (λ byte answer k. search rules) ∙ ap (trim_end is_blank) c.trim_start.ensures
