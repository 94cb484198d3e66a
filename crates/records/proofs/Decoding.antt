-- What decoding answers at each of its tests, and what acceptance says of them.
use Rattle.prelude.proofs.Kit.{ℕ, arith, true, Bool, false, not, ◌&&◌, ◌||◌, true≢false, List, ◌≡◌, refl, ne_eqb, not-false, eq-eqb}
use Rattle.prelude.proofs.Kit.{T, eqb, eqb→eq, ltb, lt→ltb, length, take, and_l}
use mathlib.Core.Bool.{or-true, and-false}
use borrow.Author.Tests.{eqb-true}
use Rattle.prelude.specs.Refusals.{accepted}
use Rattle.prelude.proofs.Refusals.{NoneOf, nth, first_is, none_applies, none_applied}
use Rattle.records.specs.declared.Direction.{Direction}
use Rattle.records.specs.Bytes.{bit}
use Rattle.records.specs.Layout.{cookies_bit, maps, widths, start, key_map_at, size}
use Rattle.records.specs.Codec.{refused, is_one_of, no_key_set, map_of, keys_of, map_unknown, keys_zero, length_other, read_refusals, read_refusal, fields_of, decoded}

module _ (d : Direction) (bytes : List ℕ) where
  -- refusal n, where it is the first that applies
  pub refused_by_lem : (n : ℕ) → NoneOf (take n (read_refusals d bytes)) → (nth accepted n (read_refusals d bytes)).applies ≡ true
      → eqb (nth accepted n (read_refusals d bytes)).answer accepted ≡ false → refused (nth accepted n (read_refusals d bytes)).answer ≡ decoded d bytes
  unfolding decoded read_refusal
  refused_by_lem n none e refuses = rw (first_is accepted n (read_refusals d bytes) none e, refuses)

  pub map_empty : length bytes ≡ 0 → map_unknown d bytes ≡ true
  unfolding map_unknown
  map_empty e = rw (eq-eqb (length bytes) 0 e)

  pub map_unknown_lem : is_one_of (map_of bytes) (maps d) ≡ false → map_unknown d bytes ≡ true
  unfolding map_unknown
  map_unknown_lem e = rw (e, or-true)

  pub map_known : (length bytes ≡ 0 → ⊥) → is_one_of (map_of bytes) (maps d) ≡ true → map_unknown d bytes ≡ false
  unfolding map_unknown
  map_known ne e = rw (ne_eqb (length bytes) 0 ne, e)

  pub keys_set : no_key_set (map_of bytes) (keys_of bytes) ≡ false → keys_zero bytes ≡ false
  unfolding keys_zero
  keys_set e = rw (e, and-false)

  pub length_other_lem : (length bytes ≡ size (map_of bytes) (keys_of bytes) → ⊥) → length_other bytes ≡ true
  unfolding length_other
  length_other_lem ne = rw (ne_eqb (length bytes) (size (map_of bytes) (keys_of bytes)) ne)

  pub length_right : length bytes ≡ size (map_of bytes) (keys_of bytes) → length_other bytes ≡ false
  unfolding length_other
  length_right e = rw (eq-eqb (length bytes) (size (map_of bytes) (keys_of bytes)) e)

  pub decoded_accepted : read_refusal d bytes ≡ accepted → decoded d bytes ≡ record { number = accepted; fields = fields_of bytes }
  unfolding decoded
  decoded_accepted e = rw e

  pub passes : map_unknown d bytes ≡ false → keys_zero bytes ≡ false → length bytes ≡ size (map_of bytes) (keys_of bytes) → read_refusal d bytes ≡ accepted
  unfolding read_refusal
  passes known keyed e = none_applies accepted (read_refusals d bytes) (known, (keyed, (length_right e, tt)))

  pub accepts : (length bytes ≡ 0 → ⊥) → is_one_of (map_of bytes) (maps d) ≡ true → keys_zero bytes ≡ false
      → length bytes ≡ size (map_of bytes) (keys_of bytes) → read_refusal d bytes ≡ accepted
  accepts ne known keyed e = passes (map_known ne known) keyed e

-- ---- what acceptance says: every test passed

pub or-false : (x y : Bool) → x || not y ≡ false → (x ≡ false) × (y ≡ true)
or-false true y e = absurd (true≢false e)
or-false false true e = (refl, refl)
or-false false false e = absurd (true≢false e)

-- of two tests that are not both passed, the second implying the first, the second is not passed
pub and_false_needed : (x y : Bool) → (T y → T x) → x && y ≡ false → y ≡ false
and_false_needed x false needs e = refl
and_false_needed true true needs e = absurd (true≢false e)
and_false_needed false true needs e = absurd (needs tt)

-- a record with cookies that is as long as its maps call for has its key map
key_map_there : (m keys n : ℕ) → n ≡ size m keys → T (no_key_set m keys) → T (ltb (key_map_at m) n)
unfolding no_key_set start size widths
key_map_there m keys n e t =
    let carried = eqb→eq (bit m cookies_bit) 1 (and_l (eqb (bit m cookies_bit) 1) (eqb keys 0) t) in
    lt→ltb (key_map_at m) n (omega (arith, e, carried))

module _ (d : Direction) (bytes : List ℕ) (e : read_refusal d bytes ≡ accepted) where
  read_tests : NoneOf (read_refusals d bytes)
  unfolding read_refusal
  read_tests = none_applied (read_refusals d bytes) tt e

  pub known : (eqb (length bytes) 0 ≡ false) × (is_one_of (map_of bytes) (maps d) ≡ true)
  unfolding map_unknown
  known = or-false (eqb (length bytes) 0) (is_one_of (map_of bytes) (maps d)) read_tests.0

  pub right_length : length bytes ≡ size (map_of bytes) (keys_of bytes)
  unfolding length_other
  right_length = eqb-true (length bytes) (size (map_of bytes) (keys_of bytes)) (not-false (eqb (length bytes) (size (map_of bytes) (keys_of bytes))) read_tests.1.1.0)

  pub keyed : no_key_set (map_of bytes) (keys_of bytes) ≡ false
  unfolding keys_zero
  keyed =
      let m = map_of bytes in
      and_false_needed (ltb (key_map_at m) (length bytes)) (no_key_set m (keys_of bytes)) (key_map_there m (keys_of bytes) (length bytes) right_length) read_tests.1.0
