-- Decoding and encoding, both by the one layout (document 01, "Records").
use Rattle.std.specs.Prelude.{ℕ, zero, suc, ◌+◌, Bool, false, not, ◌&&◌, ◌||◌, cond, List, [], ◌∷◌, ◌++◌, ltb, eqb, length, get_or, take, drop, replicate}
use Rattle.prelude.specs.Refusals.{accepted, Refusal, refuse, first_of}
use Rattle.records.specs.declared.Direction.{Direction}
use Rattle.records.specs.declared.Record.{Record}
use Rattle.records.specs.Answers.{Decoded, Encoded, First}
use Rattle.records.specs.Bytes.{bit}
use Rattle.records.specs.Layout.{cookies_bit, maps, widths, key_map_at, size, longest, join, split, fit_widths, values, from_values}

-- the numbers of encoding's refusals
abbrev pub no_room : ℕ
no_room = 1

abbrev pub not_carriable : ℕ
not_carriable = 5

-- and of decoding's, in their order; what has one of them is malformed
abbrev pub kind_unknown : ℕ
kind_unknown = 10

abbrev pub key_map_empty : ℕ
key_map_empty = 12

abbrev pub cut_or_too_long : ℕ
cut_or_too_long = 11

-- the fields of a refused read: each is 0, the map too
abbrev pub blank : Record
blank = record { map = 0; url = 0; connection = 0; keys = 0; cookies = replicate 8 0; script = 0; value = 0; target = 0 }

-- what a refused read answers
abbrev pub refused : ℕ → Decoded
refused n = record { number = n; fields = blank }

unfoldable pub is_one_of : ℕ → List ℕ → Bool
is_one_of n [] = false
is_one_of n (m ∷ ms) = eqb n m || is_one_of n ms

-- cookies are carried, and the key map has no key
unfoldable pub no_key_set : ℕ → ℕ → Bool
no_key_set m keys = eqb (bit m cookies_bit) 1 && eqb keys 0

-- ---- decoding

abbrev pub map_of : List ℕ → ℕ
map_of bytes = get_or bytes 0 0

-- The key map comes before all that goes by it, so it is read as if no key were set; 0 where the map carries none or the byte is
-- not there.
unfoldable pub keys_of : List ℕ → ℕ
keys_of bytes = (from_values (map_of bytes) (split (widths (map_of bytes) 0) (drop 1 bytes))).keys

-- 10: the record is empty, or its map is none of the direction's
unfoldable pub map_unknown : Direction → List ℕ → Bool
map_unknown d bytes = eqb (length bytes) 0 || not (is_one_of (map_of bytes) (maps d))

-- 12: cookies are carried, and the key map byte is there and zero, whatever the length
unfoldable pub keys_zero : List ℕ → Bool
keys_zero bytes = ltb (key_map_at (map_of bytes)) (length bytes) && no_key_set (map_of bytes) (keys_of bytes)

-- 11: the length is not what the maps call for; so it is where the record ends before its key map byte
unfoldable pub length_other : List ℕ → Bool
length_other bytes = not (eqb (length bytes) (size (map_of bytes) (keys_of bytes)))

abbrev pub read_refusals : Direction → List ℕ → List (Refusal ℕ)
read_refusals d bytes =
    refuse kind_unknown (map_unknown d bytes)
    ∷ refuse key_map_empty (keys_zero bytes)
    ∷ refuse cut_or_too_long (length_other bytes)
    ∷ []

unfoldable pub read_refusal : Direction → List ℕ → ℕ
read_refusal d bytes = first_of (read_refusals d bytes) accepted

unfoldable pub fields_of : List ℕ → Record
fields_of bytes = from_values (map_of bytes) (split (widths (map_of bytes) (keys_of bytes)) (drop 1 bytes))

-- document 01: the reader
unfoldable pub decoded : Direction → List ℕ → Decoded
decoded d bytes = record { number = read_refusal d bytes; fields = cond (eqb (read_refusal d bytes) accepted) (fields_of bytes) blank }

-- ---- encoding

-- fields that a map of the direction carries, and no other field that is not 0
unfoldable pub carriable : Direction → Record → Bool
carriable d r =
    is_one_of r.map (maps d)
    && (not (no_key_set r.map r.keys)
    && fit_widths (widths r.map r.keys) (values r))

unfoldable pub bytes_of : Record → List ℕ
bytes_of r = r.map ∷ join (widths r.map r.keys) (values r)

-- what encoding answers, with the buffer after it
pub record Written : Type 0 where
  pub number : ℕ
  pub length : ℕ
  pub buffer : List ℕ

-- an answer with the buffer that it leaves
abbrev pub written : Encoded → List ℕ → Written
written answer out = record { number = answer.number; length = answer.length; buffer = out }

-- what is refused: a buffer below the longest record, however short this one is; fields that no map carries
abbrev pub write_refusals : Direction → Record → List ℕ → List (Refusal ℕ)
write_refusals d r out =
    refuse no_room (ltb (length out) (longest d))
    ∷ refuse not_carriable (not (carriable d r))
    ∷ []

unfoldable pub write_refusal : Direction → Record → List ℕ → ℕ
write_refusal d r out = first_of (write_refusals d r out) accepted

-- document 01: the writer
unfoldable pub encoded : Direction → Record → List ℕ → Written
encoded d r out =
    cond (eqb (write_refusal d r out) accepted)
    (record { number = accepted; length = length (bytes_of r); buffer = bytes_of r ++ drop (length (bytes_of r)) out })
    (record { number = write_refusal d r out; length = 0; buffer = out })

-- ---- records one after another

-- what is read off the front of some bytes, and what is left of them; nothing is left where they were wholly records
pub record Run : Type 0 where
  pub records : List Record
  pub left : List ℕ

-- the first record's bytes: as many as its maps call for
unfoldable pub first_record : List ℕ → List ℕ
first_record bytes = take (size (map_of bytes) (keys_of bytes)) bytes

-- an answer of decoding with the length of the record
abbrev pub first : Decoded → ℕ → First
first read n = record { number = read.number; fields = read.fields; length = n }

-- the first record and how many bytes it has; 0 where it is refused
unfoldable pub decoded_first : Direction → List ℕ → First
decoded_first d bytes =
    let read = decoded d (first_record bytes) in
    first read (cond (eqb read.number accepted) (length (first_record bytes)) 0)

unfoldable pub read_at_most : ℕ → Direction → List ℕ → Run
read_at_most zero d bytes = record { records = []; left = bytes }
read_at_most (suc n) d bytes =
    let first = decoded d (first_record bytes) in
    let rest = read_at_most n d (drop (length (first_record bytes)) bytes) in
    let found : Run = record { records = first.fields ∷ rest.records; left = rest.left } in
    cond (eqb first.number accepted) found (record { records = []; left = bytes })

-- the records that bytes are, one after another: no more than there are bytes, so that many steps are enough
unfoldable pub read_run : Direction → List ℕ → Run
read_run d bytes = read_at_most (length bytes) d bytes

-- what two writes come to, the second in the part of the buffer that follows the first
abbrev pub followed_by : Written → Written → Written
followed_by first rest = record {
  number = rest.number;
  length = first.length + rest.length;
  buffer = take first.length first.buffer ++ rest.buffer;
}

-- records written one after another, each into the part of the buffer that follows the last; the first that is refused ends it
unfoldable pub write_run : Direction → List Record → List ℕ → Written
write_run d [] out = record { number = accepted; length = 0; buffer = out }
write_run d (r ∷ rs) out =
    let first = encoded d r out in
    let both = followed_by first (write_run d rs (drop first.length first.buffer)) in
    cond (eqb first.number accepted) both first
