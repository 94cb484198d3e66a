use Rattle.prelude.proofs.Kit.{◌∙◌}
use Rattle.records.proofs.Slices.{number_word}
use Rattle.records.proofs.reading.word.Goals as goal

pub returns : goal.returns
returns c = c.from_be_bytes.ensures ∙ number_word c.args.bytes.now c.requires
