-- What encoding writes is read back, what decoding reads is written back, and a run of records is read back whole.
use Rattle.prelude.proofs.Kit.{ℕ, ◌≤◌, ◌<◌, ◌+◌, suc, zero, zero-lt-suc, arith, false, true≢false, cond, List, ◌∷◌, [], ◌++◌, append-nil}
use Rattle.prelude.proofs.Kit.{◌≡◌, sym, ◌∙◌, refl, ap, T, eqb, eqb·suc_zero, length, take, drop, length-append, length-drop, are_bytes}
use Rattle.prelude.proofs.Kit.{drop-cons}
use native.Mathlib.Nat.{zero-mul}
use lib.Dec.{nltb→le}
use lib.Seq.{take_at, drop_at, take-nil, take-append-add}
use Rattle.prelude.specs.Choice.{branch}
use Rattle.prelude.specs.Refusals.{accepted, first_of}
use Rattle.prelude.proofs.Choices.{is_true, is_false, passes}
use Rattle.prelude.proofs.Refusals.{NoneOf, none_applied, number_of_lem}
use Rattle.records.specs.declared.Direction.{Direction}
use Rattle.records.specs.declared.Record.{Record}
use Rattle.records.specs.Bytes.{bit, number}
use Rattle.records.specs.Layout.{maps, longest, widths, sum, join, split, values, from_values, size}
use Rattle.records.specs.Codec.{is_one_of, no_key_set, map_of, keys_of, map_unknown, read_refusal, fields_of, decoded, carriable, bytes_of, Written, write_refusals, write_refusal, encoded, first_record, read_at_most, read_run, write_run, followed_by}
use Rattle.records.specs.RoundTrips.{EightCookies, WrittenIsRead, ReadIsWritten, RunIsRead, AllEightCookies, LongestIs}
use Rattle.records.proofs.Values.{keys_first, same_keys}
use Rattle.records.proofs.Decoding.{keys_set, decoded_accepted, accepts, known, right_length, keyed as read-keyed}
use Rattle.records.proofs.Encoding.{counted, known as mapped, keyed, fitting, bytes_length, encoded_accepted, no_write_refusal}
use Rattle.records.proofs.Joining.{split_join, join_split, fits_split, drop_bytes, from_values_lem}

-- ---- the refusals, and what is accepted where none applies

number_is : (d : Direction) (r : Record) (out : List ℕ) → (encoded d r out).number ≡ write_refusal d r out
unfolding encoded
number_is d r out =
    number_of_lem (λ (w : Written). w.number) (record { number = accepted; length = length (bytes_of r); buffer = bytes_of r ++ drop (length (bytes_of r)) out })
    (λ n. record { number = n; length = 0; buffer = out }) (write_refusal d r out) refl refl

module _ (d : Direction) (r : Record) (out : List ℕ) (e : write_refusal d r out ≡ accepted) where
  write_tests : NoneOf (write_refusals d r out)
  unfolding write_refusal
  write_tests = none_applied (write_refusals d r out) tt e

  pub written_room : longest d ≤ length out
  written_room = nltb→le (length out) (longest d) (rw write_tests.0 tt)

  pub written_carriable : T (carriable d r)
  written_carriable = passes (carriable d r) write_tests.1.0

-- ---- bytes that begin with a record that encoding accepts
module _ (d : Direction) (r : Record) (eight : EightCookies r) (ok : T (carriable d r)) where
  parted : (rest : List ℕ) → from_values r.map (split (widths r.map r.keys) (join (widths r.map r.keys) (values r) ++ rest)) ≡ r
  parted rest = ap (from_values r.map) (split_join (widths r.map r.keys) (values r) rest (counted r) (fitting d r ok)) ∙ from_values_lem r eight

  map_read : (rest : List ℕ) → map_of (bytes_of r ++ rest) ≡ r.map
  unfolding bytes_of
  map_read rest = refl

  keys_read : (rest : List ℕ) → keys_of (bytes_of r ++ rest) ≡ r.keys
  unfolding keys_of bytes_of
  keys_read rest =
      keys_first r.map r.keys (join (widths r.map r.keys) (values r) ++ rest) ∙ ap (λ (s : Record). s.keys) (parted rest)

  map_alone : map_of (bytes_of r) ≡ r.map
  unfolding bytes_of
  map_alone = refl

  keys_alone : keys_of (bytes_of r) ≡ r.keys
  keys_alone = ap keys_of (sym (append-nil (bytes_of r))) ∙ keys_read []

  first_read : (rest : List ℕ) → first_record (bytes_of r ++ rest) ≡ bytes_of r
  unfolding first_record
  first_read rest =
      rw (keys_read rest, map_read rest) (take_at (bytes_of r) rest (size r.map r.keys) (bytes_length r))

  nonempty : length (bytes_of r) ≡ 0 → ⊥
  unfolding bytes_of
  nonempty e = omega arith

  accepted_back : read_refusal d (bytes_of r) ≡ accepted
  accepted_back =
      accepts d (bytes_of r) nonempty
      (rw map_alone (is_true (is_one_of r.map (maps d)) (mapped d r ok)))
      (keys_set d (bytes_of r) (rw (map_alone, keys_alone) (is_false (no_key_set r.map r.keys) (keyed d r ok))))
      (rw (map_alone, keys_alone) (bytes_length r))

  tail_parted : from_values r.map (split (widths r.map r.keys) (drop 1 (bytes_of r))) ≡ r
  unfolding bytes_of
  tail_parted =
      ap (λ (l : List ℕ). from_values r.map (split (widths r.map r.keys) l)) (sym (append-nil (join (widths r.map r.keys) (values r))))
      ∙ parted []

  fields_read : fields_of (bytes_of r) ≡ r
  unfolding fields_of
  fields_read = rw (map_alone, keys_alone) tail_parted

  pub decodes : decoded d (bytes_of r) ≡ record { number = accepted; fields = r }
  decodes = decoded_accepted d (bytes_of r) accepted_back ∙ ap (λ (s : Record). record { number = accepted; fields = s }) fields_read

pub written_is_read : WrittenIsRead
written_is_read d r out eight e =
    let a = sym (number_is d r out) ∙ e in
    rw (encoded_accepted d r out a, take_at (bytes_of r) (drop (length (bytes_of r)) out) (length (bytes_of r)) refl)
    (decodes d r eight (written_carriable d r out a))

-- ---- bytes that decoding accepts

positive : (n : ℕ) → eqb n 0 ≡ false → 0 < n
positive zero e = absurd (true≢false e)
positive (suc n) e = zero-lt-suc n

module _ (d : Direction) (bytes : List ℕ) (h : T (are_bytes bytes)) (e : read_refusal d bytes ≡ accepted) where
  apart : List ℕ
  apart = split (widths (map_of bytes) (keys_of bytes)) (drop 1 bytes)

  as_many : sum (widths (map_of bytes) (keys_of bytes)) ≡ length (drop 1 bytes)
  unfolding size
  as_many = simp length-drop (omega (arith, right_length d bytes e))

  same_map : (fields_of bytes).map ≡ map_of bytes
  unfolding fields_of from_values
  same_map = refl

  same_values : values (fields_of bytes) ≡ apart
  unfolding fields_of apart widths split values from_values number
  same_values = rw (zero-mul (bit (map_of bytes) 6))

  whole : bytes_of (fields_of bytes) ≡ bytes
  unfolding bytes_of apart
  whole =
      rw (same_values, same_map, same_keys bytes, join_split (widths (map_of bytes) (keys_of bytes)) (drop 1 bytes) (drop_bytes 1 bytes h) as_many)
      (sym (drop-cons bytes 0 0 (positive (length bytes) (known d bytes e).0)))

  pub carried_back : T (carriable d (fields_of bytes))
  unfolding carriable apart
  carried_back =
      rw (same_values, same_map, same_keys bytes, (known d bytes e).1, read-keyed d bytes e)
      (fits_split (widths (map_of bytes) (keys_of bytes)) (drop 1 bytes) (drop_bytes 1 bytes h) (omega (arith, as_many)))

  pub encodes : (out : List ℕ) → longest d ≤ length out
      → encoded d (fields_of bytes) out ≡ record { number = accepted; length = length bytes; buffer = bytes ++ drop (length bytes) out }
  encodes out l =
      encoded_accepted d (fields_of bytes) out (no_write_refusal d (fields_of bytes) out l (is_true (carriable d (fields_of bytes)) carried_back))
      ∙ ap (λ (b : List ℕ). record { number = accepted; length = length b; buffer = b ++ drop (length b) out }) whole

pub read_is_written : ReadIsWritten
unfolding decoded
read_is_written d bytes out h l e = rw e (encodes d bytes h e out l)

-- ---- records one after another

-- the bytes of carriable records, joined
unfoldable pub joined : List Record → List ℕ
joined [] = []
joined (r ∷ rs) = bytes_of r ++ joined rs

pub data AllCarriable (d : Direction) : List Record → Type 0 where
  none : AllCarriable d []
  more : {r : Record} {rs : List Record} → EightCookies r → T (carriable d r) → AllCarriable d rs → AllCarriable d (r ∷ rs)

nothing_left : (n : ℕ) (d : Direction) → read_at_most n d [] ≡ record { records = []; left = [] }
unfolding read_at_most decoded read_refusal first_of branch map_unknown first_record
nothing_left zero d = refl
nothing_left (suc n) d = rw (take-nil (size (map_of []) (keys_of [])))

read_at_most_lem : (d : Direction) (n : ℕ) {rs : List Record} → AllCarriable d rs → length rs ≤ n → read_at_most n d (joined rs) ≡ record { records = rs; left = [] }
unfolding read_at_most joined
read_at_most_lem d n none l = nothing_left n d
read_at_most_lem d zero (more eight ok all) l = absurd (omega arith)
read_at_most_lem d (suc n) (more {r} {rs} eight ok all) l =
    rw (first_read d r eight ok (joined rs), decodes d r eight ok, drop_at (bytes_of r) (joined rs) (length (bytes_of r)) refl, read_at_most_lem d n all (omega arith))

short : (d : Direction) {rs : List Record} → AllCarriable d rs → length rs ≤ length (joined rs)
unfolding size joined
short d none = omega arith
short d (more {r} {rs} eight ok all) = simp length-append (omega (arith, short d all, bytes_length r))

-- carriable records are read off their joined bytes
pub joined_read : (d : Direction) (rs : List Record) → AllCarriable d rs → read_run d (joined rs) ≡ record { records = rs; left = [] }
unfolding read_run
joined_read d rs all = read_at_most_lem d (length (joined rs)) all (short d all)

-- a list whose first record is accepted: its bytes, and the rest in what follows them
unfoldable pub after : List ℕ → Written → Written
after bytes rest = record { number = rest.number; length = length bytes + rest.length; buffer = bytes ++ rest.buffer }

pub first_written : (d : Direction) (r : Record) (rs : List Record) (out : List ℕ) → write_refusal d r out ≡ accepted
    → write_run d (r ∷ rs) out ≡ after (bytes_of r) (write_run d rs (drop (length (bytes_of r)) out))
unfolding write_run after
first_written d r rs out e =
    rw (encoded_accepted d r out e, take_at (bytes_of r) (drop (length (bytes_of r)) out) (length (bytes_of r)) refl, drop_at (bytes_of r) (drop (length (bytes_of r)) out) (length (bytes_of r)) refl)

chosen : (n : ℕ) (both first : Written) → first.number ≡ n → (cond (eqb n accepted) both first).number ≡ accepted → n ≡ accepted
chosen zero both first q e = refl
chosen (suc n) both first q e = sym q ∙ (rw (eqb·suc_zero n) at e)

pub first_accepted : (d : Direction) (r : Record) (rs : List Record) (out : List ℕ) → (write_run d (r ∷ rs) out).number ≡ accepted → write_refusal d r out ≡ accepted
unfolding write_run
first_accepted d r rs out e =
    let first = encoded d r out in
    sym (number_is d r out) ∙ chosen first.number (followed_by first (write_run d rs (drop first.length first.buffer))) first refl e

-- records that are written in a run are carriable, and what is counted is their bytes
run_written : (d : Direction) (rs : List Record) (out : List ℕ) → AllEightCookies rs → (write_run d rs out).number ≡ accepted
    → AllCarriable d rs × (take (write_run d rs out).length (write_run d rs out).buffer ≡ joined rs)
unfolding joined after write_run
run_written d [] out eight e = (none, refl)
run_written d (r ∷ rs) out eight e =
    let a = first_accepted d r rs out e in
    let w = first_written d r rs out a in
    let rest = run_written d rs (drop (length (bytes_of r)) out) eight.1 (sym (ap (λ (x : Written). x.number) w) ∙ e) in
    (more eight.0 (written_carriable d r out a) rest.0, rw w (take-append-add (bytes_of r) _ _ ∙ ap (λ (l : List ℕ). bytes_of r ++ l) rest.1))

pub run_is_read : RunIsRead
run_is_read d rs out eight e =
    let w = run_written d rs out eight e in
    rw w.1 (joined_read d rs w.0)

pub longest_is : LongestIs
unfolding longest
longest_is = (refl, refl)
