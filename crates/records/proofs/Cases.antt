-- The worked cases hold: they are computed.
use Rattle.prelude.specs.Choice.{branch, every}
use Rattle.prelude.specs.Refusals.{first_of}
use Rattle.records.specs.Bytes.{number}
use Rattle.records.specs.Layout.{widths, start, size, split, values, from_values}
use Rattle.records.specs.Codec.{is_one_of, no_key_set, keys_of, map_unknown, keys_zero, length_other, read_refusal, fields_of, decoded}
use Rattle.records.specs.Cases.{gives, MalformedRecords, of_parts, MapsHaveParts}

pub malformed_records_lem : MalformedRecords
unfolding branch every first_of number widths start size split values from_values
    is_one_of no_key_set keys_of map_unknown keys_zero length_other read_refusal fields_of decoded gives
malformed_records_lem = tt

pub maps_have_parts : MapsHaveParts
unfolding every of_parts
maps_have_parts = tt
