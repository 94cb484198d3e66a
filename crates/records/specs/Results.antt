-- The answers of the code as the definitions have them, in numbers: 0 and what was read or written, or an error's number and zeros.
use Rattle.std.specs.Prelude.{ℕ, Result, Ok, Err}
use Rattle.prelude.specs.Refusals.{accepted}
use Rattle.records.specs.declared.Record.{Record}
use Rattle.records.specs.declared.First.{First as FirstRead}
use Rattle.records.specs.declared.errors.DecodeError.{DecodeError}
use Rattle.records.specs.declared.errors.DecodeError.TheVariants.{KindUnknown, KeyMapEmpty, CutOrTooLong}
use Rattle.records.specs.declared.errors.EncodeError.{EncodeError}
use Rattle.records.specs.declared.errors.EncodeError.TheVariants.{NoRoom, NotCarriable}
use Rattle.records.specs.Answers.{Decoded, Encoded, First}
use Rattle.records.specs.Codec.{no_room, not_carriable, kind_unknown, key_map_empty, cut_or_too_long, refused, first}

abbrev pub decode_number : DecodeError → ℕ
decode_number KindUnknown = kind_unknown
decode_number KeyMapEmpty = key_map_empty
decode_number CutOrTooLong = cut_or_too_long

abbrev pub encode_number : EncodeError → ℕ
encode_number NoRoom = no_room
encode_number NotCarriable = not_carriable

abbrev pub decoded_as : Result Record DecodeError → Decoded
decoded_as (Ok fields) = record { number = accepted; fields = fields }
decoded_as (Err e) = refused (decode_number e)

abbrev pub first_as : Result FirstRead DecodeError → First
first_as (Ok read) = record { number = accepted; fields = read.fields; length = read.length }
first_as (Err e) = first (refused (decode_number e)) 0

abbrev pub encoded_as : Result ℕ EncodeError → Encoded
encoded_as (Ok n) = record { number = accepted; length = n }
encoded_as (Err e) = record { number = encode_number e; length = 0 }
