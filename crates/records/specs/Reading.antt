-- Reading a record from left to right, field by field, for the contracts of the functions within the crate. Decoding is defined without this file.
use Rattle.std.specs.Prelude.{ℕ, ◌*◌, ◌≤◌, Bool, true, false, cond, List, ◌≡◌, ltb, length, get_or, take, drop, Result, Ok, Err}
use Rattle.records.specs.declared.Direction.{Direction}
use Rattle.records.specs.declared.Record.{Record}
use Rattle.records.specs.declared.errors.DecodeError.{DecodeError}
use Rattle.records.specs.declared.errors.DecodeError.TheVariants.{KindUnknown, KeyMapEmpty, CutOrTooLong}
use Rattle.records.specs.Bytes.{bit, number}
use Rattle.records.specs.Layout.{cookies_bit, sum, split}
use Rattle.records.specs.Codec.{no_key_set, map_of, map_unknown}
use Rattle.records.specs.Places.{cookie_widths}

infixl 10 ◌>>=◌
abbrev pub ◌>>=◌ : {A B : Type 0} → Result A DecodeError → (A → Result B DecodeError) → Result B DecodeError
(Ok x) >>= f = f x
(Err e) >>= f = Err e

-- what a reader answered, with what it has left
abbrev pub reads : {A : Type 0} → Result A DecodeError → List ℕ → Result (A × List ℕ) DecodeError
reads (Ok x) rest = Ok (x, rest)
reads (Err e) rest = Err e

-- the next n bytes were taken off the front
pub record Taken (n : ℕ) (from bytes rest : List ℕ) : Type 0 where
  pub there : n ≤ length from
  pub taken : bytes ≡ take n from
  pub left : rest ≡ drop n from

-- 1 for a field that is carried, 0 for one that is not
abbrev pub on : Bool → ℕ
on true = 1
on false = 0

-- the next n bytes
unfoldable pub bytes_at : ℕ → List ℕ → Result (List ℕ × List ℕ) DecodeError
bytes_at n bytes = cond (ltb (length bytes) n) (Err CutOrTooLong) (Ok (take n bytes, drop n bytes))

-- the number of the next n bytes
unfoldable pub field_at : ℕ → List ℕ → Result (ℕ × List ℕ) DecodeError
field_at n bytes = bytes_at n bytes >>= λ field. Ok (number field.0, field.1)

-- the values of the keys that are set, and 0 for a key that is not
unfoldable pub cookies_at : ℕ → List ℕ → Result (List ℕ × List ℕ) DecodeError
cookies_at keys bytes = bytes_at (sum (cookie_widths keys)) bytes >>= λ field. Ok (split (cookie_widths keys) field.0, field.1)

-- the key map, and the values of its keys
unfoldable pub keyed_at : ℕ → List ℕ → Result (ℕ × List ℕ) DecodeError
keyed_at map bytes = do
  keys ← field_at (bit map cookies_bit) bytes
  cond (no_key_set map keys.0) (Err KeyMapEmpty) (Ok keys)

-- the fields of a record whose map is known: each carries a URL and a connection
unfoldable pub fields_at : ℕ → List ℕ → Result (Record × List ℕ) DecodeError
fields_at map bytes = do
  front ← bytes_at 2 bytes
  keys ← keyed_at map front.1
  cookies ← cookies_at keys.0 keys.1
  script ← field_at (bit map 3) cookies.1
  value ← field_at (4 * bit map 4) script.1
  target ← field_at (bit map 5) value.1
  Ok (
    record {
      map = map;
      url = get_or front.0 0 0;
      connection = get_or front.0 1 0;
      keys = keys.0;
      cookies = cookies.0;
      script = script.0;
      value = value.0;
      target = target.0;
    },
    target.1,
  )

unfoldable pub record_at : Direction → List ℕ → Result (Record × List ℕ) DecodeError
record_at d bytes = cond (map_unknown d bytes) (Err KindUnknown) (fields_at (map_of bytes) (drop 1 bytes))
