-- The worked cases hold: they are computed.
use Rattle.prelude.specs.Choice.{branch, keep, every}
use Rattle.prelude.specs.Lists.{numbers, lowest, same_numbers}
use Rattle.prelude.specs.Refusals.{first_of}
use Rattle.labels.specs.Sets.{word_from, word_of}
use Rattle.labels.specs.Addresses.{host_endpoints}
use Rattle.text.specs.Numbers.{number_after, is_number}
use Rattle.cookie.specs.Parts.{has, before, after, trim_start, trim_end, trim, is_word}
use Rattle.cookie.specs.SetCookie.{attributes, some_called, flags_of}
use Rattle.cookie.specs.Import.{imported}
use Rattle.cookie.specs.Cases.{gives, ImportCases}

pub import_cases_lem : ImportCases
unfolding
    branch keep every numbers lowest same_numbers first_of word_from word_of host_endpoints has before after trim_start trim_end trim is_word attributes some_called
    flags_of number_after is_number imported gives
import_cases_lem = tt
