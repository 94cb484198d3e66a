-- Worked cases of decoding: how the kinds of malformed records are told apart. And that every bit of a map has its part in the layout.
use Rattle.std.specs.Prelude.{ℕ, ◌*◌, ◌^◌, Bool, ◌&&◌, List, [], ◌∷◌, ◌++◌, map, T, eqb}
use Rattle.prelude.specs.Choice.{every}
use Rattle.records.specs.declared.Direction.{Direction}
use Rattle.records.specs.declared.Direction.TheVariants.{Input, Request}
use Rattle.records.specs.Bytes.{bit}
use Rattle.records.specs.Layout.{Guard, map_bit, key_bit, Field, layout, maps, sum, values}
use Rattle.records.specs.Codec.{decoded}

-- bytes that are refused with a number
pub record Malformed : Type 0 where
  pub direction : Direction
  pub bytes : List ℕ
  pub number : ℕ

abbrev pub input : List ℕ → ℕ → Malformed
input bytes number = record { direction = Input; bytes = bytes; number = number }

abbrev pub request : List ℕ → ℕ → Malformed
request bytes number = record { direction = Request; bytes = bytes; number = number }

-- the number is as the case says, and every field is 0
unfoldable pub gives : Malformed → Bool
gives c =
    let read = decoded c.direction c.bytes in
    eqb read.number c.number && every (λ n. eqb n 0) (read.fields.map ∷ values read.fields)

abbrev pub malformed_records : List Malformed
malformed_records =
    -- 10: the empty record; a request's map as an input, and an input's as a request; a bit that no part has; a picture's map with a script
    input [] 10
    ∷ request [] 10
    ∷ input (0x07 ∷ 0x00 ∷ 0x00 ∷ 0x01 ∷ 0x00 ∷ 0x00 ∷ 0x00 ∷ 0x07 ∷ []) 10
    ∷ request (0x13 ∷ 0x00 ∷ 0x00 ∷ 0x00 ∷ 0x00 ∷ 0x00 ∷ 0x07 ∷ []) 10
    ∷ input (0x83 ∷ 0x00 ∷ 0x00 ∷ []) 10
    ∷ input (0x4b ∷ 0x00 ∷ 0x00 ∷ 0x00 ∷ []) 10
    ∷ request (0x4b ∷ 0x00 ∷ 0x00 ∷ 0x00 ∷ []) 10
    -- 10 and not 12, 10 and not 11
    ∷ input (0x07 ∷ 0x00 ∷ 0x00 ∷ 0x00 ∷ []) 10
    ∷ input (0x07 ∷ []) 10
    ∷ request (0x13 ∷ []) 10
    -- 12: the key map is zero and the length right for it; the record ends with its key map; bytes follow, as many as a key would call for or not
    ∷ input (0x0f ∷ 0x00 ∷ 0x00 ∷ 0x00 ∷ 0x00 ∷ []) 12
    ∷ input (0x0f ∷ 0x00 ∷ 0x00 ∷ 0x00 ∷ []) 12
    ∷ input (0x0f ∷ 0x00 ∷ 0x00 ∷ 0x00 ∷ 0x00 ∷ 0x00 ∷ []) 12
    ∷ input (0x0f ∷ 0x00 ∷ 0x00 ∷ 0x00 ∷ 0x00 ∷ 0x00 ∷ 0x00 ∷ 0x07 ∷ 0x00 ∷ []) 12
    ∷ request (0x07 ∷ 0x00 ∷ 0x00 ∷ 0x00 ∷ []) 12
    ∷ input (0x47 ∷ 0x00 ∷ 0x00 ∷ 0x00 ∷ []) 12
    ∷ request (0x47 ∷ 0x00 ∷ 0x00 ∷ 0x00 ∷ []) 12
    -- 11: the record ends before its key map
    ∷ input (0x0f ∷ 0x00 ∷ 0x00 ∷ []) 11
    ∷ input (0x0f ∷ []) 11
    ∷ request (0x07 ∷ 0x00 ∷ 0x00 ∷ []) 11
    -- 11: cut elsewhere; a byte too many, also one of zero where a key map would be
    ∷ input (0x03 ∷ 0x00 ∷ []) 11
    ∷ input (0x43 ∷ 0x00 ∷ []) 11
    ∷ input (0x0f ∷ 0x00 ∷ 0x00 ∷ 0x01 ∷ 0x00 ∷ 0x00 ∷ 0x00 ∷ 0x07 ∷ []) 11
    ∷ input (0x03 ∷ 0x00 ∷ 0x00 ∷ 0x00 ∷ []) 11
    ∷ input (0x0f ∷ 0x00 ∷ 0x00 ∷ 0x01 ∷ 0x00 ∷ 0x00 ∷ 0x00 ∷ 0x07 ∷ 0x00 ∷ 0x00 ∷ []) 11
    ∷ request (0x03 ∷ 0x00 ∷ 0x00 ∷ 0x00 ∷ []) 11
    -- 11: bit 6 of the map has no byte, in either direction
    ∷ input (0x43 ∷ 0x00 ∷ 0x00 ∷ 0x00 ∷ []) 11
    ∷ request (0x43 ∷ 0x00 ∷ 0x00 ∷ 0x00 ∷ []) 11
    ∷ []

abbrev pub MalformedRecords : Type 0
MalformedRecords = T (every gives malformed_records)

-- ---- the bits of a map

abbrev pub bit_of : Guard → List ℕ
bit_of (map_bit b) = b ∷ []
bit_of (key_bit k) = []

-- the bits of the map that say that a part is carried
abbrev pub part_bits : List Field → List ℕ
part_bits [] = []
part_bits (f ∷ fs) = bit_of f.guard ++ part_bits fs

-- a map has no bit but those
unfoldable pub of_parts : ℕ → Bool
of_parts m = eqb m (sum (map (λ b. 2 ^ b * bit m b) (part_bits layout)))

abbrev pub MapsHaveParts : Type 0
MapsHaveParts = T (every of_parts (maps Input ++ maps Request))
