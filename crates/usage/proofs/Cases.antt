-- The worked cases hold: they are computed.
use Rattle.prelude.specs.Choice.{branch, keep, every}
use Rattle.prelude.specs.Lists.{numbers, same_numbers}
use Rattle.prelude.specs.Refusals.{first_of}
use Rattle.records.specs.Bytes.{number}
use Rattle.records.specs.Layout.{widths, start, size, split, from_values}
use Rattle.records.specs.Codec.{is_one_of, no_key_set, keys_of, map_unknown, keys_zero, length_other, read_refusal, fields_of, decoded, first_record, read_at_most, read_run}
use Rattle.machine.specs.Session.{has}
use Rattle.machine.specs.Machine.{cookies_of}
use Rattle.usage.specs.Tally.{cookies_in, requests_to, urls, counts, good, tallied}
use Rattle.usage.specs.Lines.{lines_of}
use Rattle.usage.specs.Cases.{numbers_of, gives, TallyCases}

pub tally_cases_lem : TallyCases
unfolding branch keep every numbers first_of number widths start size split from_values
    is_one_of no_key_set keys_of map_unknown keys_zero length_other read_refusal fields_of decoded first_record read_at_most read_run
    has cookies_of same_numbers cookies_in requests_to urls counts good tallied lines_of numbers_of gives
tally_cases_lem = tt
