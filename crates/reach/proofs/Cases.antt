-- The worked cases of the text hold: they are computed.
use Rattle.prelude.specs.Lists.{numbers, same_numbers}
use Rattle.prelude.specs.Sums.{sum_below, count_below}
use Rattle.text.specs.Text.{decimal_within, decimal, pieces_below}
use Rattle.machine.proofs.Cases.{cases}
use Rattle.transcript.specs.Input.{words_of}
use Rattle.reach_table.specs.Reach.{reaches, reach, total_reach, tabled}
use Rattle.reach.specs.Report.{report}
use Rattle.reach.specs.Cases.{TextCases}

pub text_cases : TextCases
unfolding cases numbers same_numbers sum_below count_below decimal_within decimal pieces_below words_of reaches reach total_reach tabled report
text_cases = tt
