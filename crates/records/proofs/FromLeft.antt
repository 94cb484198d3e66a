-- The first of some records: reading from left to right comes to what the definitions say, and so does its length.
use Rattle.prelude.proofs.Kit.{ℕ, ◌≤◌, ◌<◌, ◌+◌, ◌*◌, ◌-◌, suc, zero, zero-le, not-suc-le-zero, le_of_suc-le-suc, arith, true, false, Bool, ◌&&◌, ◌||◌, true≢false, List, ◌∷◌, []}
use Rattle.prelude.proofs.Kit.{◌≡◌, sym, ◌∙◌, refl, ap, ap₂, T, eqb, ltb, eqb→eq, length, length-drop, take, drop, drop-drop, get_or, and_l, and_r, ne_eqb, eq-eqb, lt-ltb, subst, ltb→lt, lt→ltb, cond}
use Rattle.prelude.proofs.Kit.{zero-lt-suc, eqb·suc_zero, take_all, length-take-le, ℕ_discrete}
use Prim.Native.Nat.compare
use mathlib.Core.Bool.{and-false}
use mathlib.Core.Logic.{inl, inr}
use Rattle.std.specs.Prelude.{Result, Ok, Err}
use Rattle.std.proofs.lemmas.Bool.{cases_lt}
use Rattle.std.proofs.lemmas.List.{drop-take}
use Rattle.prelude.specs.Refusals.{accepted}
use Rattle.prelude.proofs.Choices.{is_true}
use Rattle.records.specs.declared.Direction.{Direction}
use Rattle.records.specs.declared.Direction.TheVariants.{Input, Request}
use Rattle.records.specs.declared.Record.{Record}
use Rattle.records.specs.declared.errors.DecodeError.{DecodeError}
use Rattle.records.specs.declared.errors.DecodeError.TheVariants.{KindUnknown, KeyMapEmpty, CutOrTooLong}
use Rattle.records.specs.Bytes.{bit, number}
use Rattle.records.specs.Layout.{cookies_bit, maps, start, key_map_at, widths, sum, split, from_values, size}
use Rattle.records.specs.Answers.{Decoded, First}
use Rattle.records.specs.Codec.{kind_unknown, key_map_empty, cut_or_too_long, refused, is_one_of, no_key_set, map_of, keys_of, map_unknown, keys_zero, fields_of, decoded, first_record, first, decoded_first}
use Rattle.records.specs.Results.{decode_number, first_as}
use Rattle.records.specs.Places.{cookie_widths}
use Rattle.records.specs.Reading.{keyed_at, fields_at, record_at}
use Rattle.records.proofs.Decoding.{or-false, and_false_needed, passes, refused_by_lem, length_other_lem, decoded_accepted}
use Rattle.records.proofs.Values.{keys_read, fields_read}
use Rattle.records.proofs.InTurn.{size_split, front_end, script_start}
use Rattle.records.proofs.Starts.{starts}
use Rattle.records.proofs.Taking.{there, gone, field_there, field_gone, cookies_there, cookies_gone}

-- ---- the first record has the maps of the bytes

carries_cookies : (m keys : ℕ) → no_key_set m keys ≡ true → bit m cookies_bit ≡ 1
unfolding no_key_set
carries_cookies m keys e = eqb→eq (bit m cookies_bit) 1 (and_l (eqb (bit m cookies_bit) 1) (eqb keys 0) (subst T (sym e) tt))

-- what lies within the first bytes is read there
within_front : (n at w : ℕ) (l : List ℕ) → at + w ≤ n → take w (drop at (take n l)) ≡ take w (drop at l)
within_front zero zero zero l h = refl
within_front zero zero (suc w) l h = absurd (omega arith)
within_front zero (suc at) w l h = absurd (omega arith)
within_front (suc n) at w [] h = refl
within_front (suc n) zero zero (x ∷ l) h = refl
within_front (suc n) zero (suc w) (x ∷ l) h = ap (λ (r : List ℕ). x ∷ r) (within_front n zero w l (omega arith))
within_front (suc n) (suc at) w (x ∷ l) h = within_front n at w l (omega arith)

-- so is whether a place is there
there_front : (n at : ℕ) (l : List ℕ) → at < n → ltb at (length (take n l)) ≡ ltb at (length l)
there_front zero at l h = absurd (not-suc-le-zero h)
there_front (suc n) at [] h = refl
there_front (suc n) zero (x ∷ l) h = lt-ltb 0 (suc (length (take n l))) (zero-lt-suc (length (take n l))) ∙ sym (lt-ltb 0 (suc (length l)) (zero-lt-suc (length l)))
there_front (suc n) (suc at) (x ∷ l) h =
    rw (compare.suc-suc (suc at) (length (take n l)), compare.suc-suc (suc at) (length l)) (there_front n at l (le_of_suc-le-suc h))

module _ (bytes : List ℕ) where
  abbrev pub called : ℕ
  called = size (map_of bytes) (keys_of bytes)

  -- the map byte and the key map are among the bytes that are called for
  key_map_end : (m : ℕ) → start 2 m 0 + bit m cookies_bit ≡ 1 + bit m 0 + bit m 1 + bit m 2
  unfolding start widths
  key_map_end m = omega arith

  room : (1 ≤ called) × (start 2 (map_of bytes) 0 + bit (map_of bytes) cookies_bit ≤ called)
  room =
      let m = map_of bytes in
      let parts = size_split m (keys_of bytes) in
      (omega (arith, parts, front_end m (keys_of bytes)), omega (arith, parts, front_end m (keys_of bytes), key_map_end m))

  pub first_map : map_of (first_record bytes) ≡ map_of bytes
  unfolding first_record
  first_map = go called bytes room.0
    where
      go : (n : ℕ) (l : List ℕ) → 1 ≤ n → map_of (take n l) ≡ map_of l
      go zero l h = absurd (not-suc-le-zero h)
      go (suc n) [] h = refl
      go (suc n) (x ∷ l) h = refl

  pub first_keys : keys_of (first_record bytes) ≡ keys_of bytes
  unfolding first_record
  first_keys =
      let m = map_of bytes in
      let read = sym (keys_read bytes m _ refl refl) in
      sym (keys_read (take called bytes) m (keys_of bytes) (sym first_map) (read ∙ ap number (sym (within_front called (start 2 m 0) (bit m 2) bytes room.1))))

  first_empty : eqb (length (first_record bytes)) 0 ≡ eqb (length bytes) 0
  unfolding first_record
  first_empty = go called bytes room.0
    where
      go : (n : ℕ) (l : List ℕ) → 1 ≤ n → eqb (length (take n l)) 0 ≡ eqb (length l) 0
      go zero l h = absurd (not-suc-le-zero h)
      go (suc n) [] h = refl
      go (suc n) (x ∷ l) h = eqb·suc_zero (length (take n l)) ∙ sym (eqb·suc_zero (length l))

  key_map_in_front : bit (map_of bytes) cookies_bit ≡ 1 → ltb (key_map_at (map_of bytes)) (length (first_record bytes)) ≡ ltb (key_map_at (map_of bytes)) (length bytes)
  unfolding first_record
  key_map_in_front e = there_front called (key_map_at (map_of bytes)) bytes (omega (arith, e, room.1))

  first_unknown : (d : Direction) → map_unknown d (first_record bytes) ≡ map_unknown d bytes
  unfolding map_unknown
  first_unknown d = rw (first_empty, first_map)

  first_keyed : keys_zero (first_record bytes) ≡ keys_zero bytes
  unfolding keys_zero
  first_keyed = rw (first_map, first_keys) (go (no_key_set (map_of bytes) (keys_of bytes)) refl)
    where
      go : (b : Bool) → no_key_set (map_of bytes) (keys_of bytes) ≡ b
          → ltb (key_map_at (map_of bytes)) (length (first_record bytes)) && b ≡ ltb (key_map_at (map_of bytes)) (length bytes) && b
      go false e = and-false (ltb (key_map_at (map_of bytes)) (length (first_record bytes))) ∙ sym (and-false (ltb (key_map_at (map_of bytes)) (length bytes)))
      go true e = ap (λ (b : Bool). b && true) (key_map_in_front (carries_cookies (map_of bytes) (keys_of bytes) e))

-- ---- reading it

-- every map has URL and connection
fronts : List ℕ → Bool
fronts [] = true
fronts (m ∷ ms) = (eqb (bit m 0) 1 && eqb (bit m 1) 1) && fronts ms

front_in : (ms : List ℕ) (m : ℕ) → T (fronts ms) → is_one_of m ms ≡ true → (bit m 0 ≡ 1) × (bit m 1 ≡ 1)
unfolding is_one_of fronts
front_in [] m t e = absurd (true≢false (sym e))
front_in (k ∷ ms) m t e = go (eqb m k) refl (front_in ms m (and_r (eqb (bit k 0) 1 && eqb (bit k 1) 1) (fronts ms) t)) e
  where
    both : T (eqb (bit k 0) 1 && eqb (bit k 1) 1)
    both = and_l (eqb (bit k 0) 1 && eqb (bit k 1) 1) (fronts ms) t

    here : (bit k 0 ≡ 1) × (bit k 1 ≡ 1)
    here = (eqb→eq (bit k 0) 1 (and_l (eqb (bit k 0) 1) (eqb (bit k 1) 1) both), eqb→eq (bit k 1) 1 (and_r (eqb (bit k 0) 1) (eqb (bit k 1) 1) both))

    go : (b : Bool) → eqb m k ≡ b → (is_one_of m ms ≡ true → (bit m 0 ≡ 1) × (bit m 1 ≡ 1)) → b || is_one_of m ms ≡ true → (bit m 0 ≡ 1) × (bit m 1 ≡ 1)
    go true q rest e = subst (λ (n : ℕ). (bit n 0 ≡ 1) × (bit n 1 ≡ 1)) (sym (eqb→eq m k (subst T (sym q) tt))) here
    go false q rest e = rest e

pub has_front : (d : Direction) (m : ℕ) → is_one_of m (maps d) ≡ true → (bit m 0 ≡ 1) × (bit m 1 ≡ 1)
unfolding fronts
has_front Input m e = front_in (maps Input) m tt e
has_front Request m e = front_in (maps Request) m tt e

-- the fields that follow a map: what is left at each of them, and what is read
module _ (m : ℕ) (rest : List ℕ) where
  abbrev at_keys : List ℕ
  at_keys = drop 2 rest

  abbrev keys : ℕ
  keys = number (take (bit m cookies_bit) at_keys)

  abbrev at_cookies : List ℕ
  at_cookies = drop (bit m cookies_bit) at_keys

  abbrev values : ℕ
  values = sum (cookie_widths keys)

  abbrev at_script : List ℕ
  at_script = drop values at_cookies

  abbrev at_value : List ℕ
  at_value = drop (bit m 3) at_script

  abbrev at_target : List ℕ
  at_target = drop (4 * bit m 4) at_value

  abbrev total : ℕ
  total = 2 + bit m cookies_bit + values + bit m 3 + 4 * bit m 4 + bit m 5

  keyed_there : bit m cookies_bit ≤ length at_keys → no_key_set m keys ≡ false → keyed_at m at_keys ≡ Ok (keys, at_cookies)
  unfolding keyed_at
  keyed_there l e = rw (field_there (bit m cookies_bit) at_keys l, e)

  keyed_empty : bit m cookies_bit ≤ length at_keys → no_key_set m keys ≡ true → keyed_at m at_keys ≡ Err KeyMapEmpty
  unfolding keyed_at
  keyed_empty l e = rw (field_there (bit m cookies_bit) at_keys l, e)

  keyed_gone : length at_keys < bit m cookies_bit → keyed_at m at_keys ≡ Err CutOrTooLong
  unfolding keyed_at
  keyed_gone l = rw (field_gone (bit m cookies_bit) at_keys l)

  fields_empty : 2 + bit m cookies_bit ≤ length rest → no_key_set m keys ≡ true → fields_at m rest ≡ Err KeyMapEmpty
  unfolding fields_at
  fields_empty l e = rw (there 2 rest (omega arith), keyed_empty (simp length-drop (omega arith)) e)

  fields_cut : length rest < total → (bit m cookies_bit ≤ length at_keys → no_key_set m keys ≡ false) → fields_at m rest ≡ Err CutOrTooLong
  unfolding fields_at
  fields_cut l keyed =
      elim (cases_lt (length rest) 2) [
        | inl short ↦ rw (gone 2 rest short)
        | inr front ↦ elim (cases_lt (length at_keys) (bit m cookies_bit)) [
          | inl short ↦ rw (there 2 rest front, keyed_gone short)
          | inr key ↦ elim (cases_lt (length at_cookies) values) [
            | inl short ↦ rw (there 2 rest front, keyed_there key (keyed key), cookies_gone keys at_cookies short)
            | inr cookies ↦ elim (cases_lt (length at_script) (bit m 3)) [
              | inl short ↦ rw (there 2 rest front, keyed_there key (keyed key), cookies_there keys at_cookies cookies, field_gone (bit m 3) at_script short)
              | inr script ↦ elim (cases_lt (length at_value) (4 * bit m 4)) [
                | inl short ↦
                    rw (there 2 rest front, keyed_there key (keyed key), cookies_there keys at_cookies cookies, field_there (bit m 3) at_script script, field_gone (4 * bit m 4) at_value short)
                | inr value ↦ elim (cases_lt (length at_target) (bit m 5)) [
                  | inl short ↦
                      rw (there 2 rest front, keyed_there key (keyed key), cookies_there keys at_cookies cookies, field_there (bit m 3) at_script script, field_there (4 * bit m 4) at_value value, field_gone (bit m 5) at_target short)
                  | inr target ↦
                      absurd (omega (arith, length-drop 2 rest, length-drop (bit m cookies_bit) at_keys, length-drop values at_cookies, length-drop (bit m 3) at_script, length-drop (4 * bit m 4) at_value))
                ]
              ]
            ]
          ]
        ]
      ]

  abbrev found : Record
  found = record {
    map = m;
    url = get_or (take 2 rest) 0 0;
    connection = get_or (take 2 rest) 1 0;
    keys = keys;
    cookies = split (cookie_widths keys) (take values at_cookies);
    script = number (take (bit m 3) at_script);
    value = number (take (4 * bit m 4) at_value);
    target = number (take (bit m 5) at_target);
  }

  fields_whole : total ≤ length rest → no_key_set m keys ≡ false → fields_at m rest ≡ Ok (found, drop (bit m 5) at_target)
  unfolding fields_at
  fields_whole l keyed =
      let keys_long = length-drop 2 rest in
      let cookies_long = length-drop (bit m cookies_bit) at_keys in
      let script_long = length-drop values at_cookies in
      let value_long = length-drop (bit m 3) at_script in
      let target_long = length-drop (4 * bit m 4) at_value in
      rw (there 2 rest (omega arith), keyed_there (omega arith) keyed, cookies_there keys at_cookies (omega arith), field_there (bit m 3) at_script (omega arith), field_there (4 * bit m 4) at_value (omega arith), field_there (bit m 5) at_target (omega arith))

  left_long : length (drop (bit m 5) at_target) ≡ length rest - total
  left_long = omega (arith, length-drop 2 rest, length-drop (bit m cookies_bit) at_keys, length-drop values at_cookies, length-drop (bit m 3) at_script, length-drop (4 * bit m 4) at_value, length-drop (bit m 5) at_target)

-- bytes taken apart by widths go no further than these reach
split_front : (ws : List ℕ) (n : ℕ) (bytes : List ℕ) → sum ws ≤ n → split ws (take n bytes) ≡ split ws bytes
unfolding split
split_front [] n bytes l = refl
split_front (w ∷ ws) n bytes l =
    let spare : n ≡ w + (n - w) = omega arith in
    let rest : drop w (take n bytes) ≡ take (n - w) (drop w bytes) = ap (λ (k : ℕ). drop w (take k bytes)) spare ∙ drop-take w (n - w) bytes in
    ap₂ ◌∷◌ (ap number (within_front n 0 w bytes (omega arith))) (ap (split ws) rest ∙ split_front ws (n - w) (drop w bytes) (omega arith))

first_fields : (bytes : List ℕ) → fields_of (first_record bytes) ≡ fields_of bytes
unfolding fields_of first_record size
first_fields bytes =
    let ws = widths (map_of bytes) (keys_of bytes) in
    let rest : drop 1 (take (called bytes) bytes) ≡ take (sum ws) (drop 1 bytes) = drop-take 1 (sum ws) bytes in
    rw (first_map bytes, first_keys bytes) (ap (λ (l : List ℕ). from_values (map_of bytes) (split ws l)) rest ∙ ap (from_values (map_of bytes)) (split_front ws (sum ws) (drop 1 bytes) (omega arith)))

front_bytes : (l : List ℕ) → 2 ≤ length l → (get_or (take 2 l) 0 0 ≡ number (take 1 l)) × (get_or (take 2 l) 1 0 ≡ number (take 1 (drop 1 l)))
unfolding number
front_bytes [] h = absurd (omega arith)
front_bytes (a ∷ []) h = absurd (omega arith)
front_bytes (a ∷ b ∷ l) h = (omega arith, omega arith)

module _ (bytes : List ℕ) (front : (bit (map_of bytes) 0 ≡ 1) × (bit (map_of bytes) 1 ≡ 1)) where
  abbrev m : ℕ
  m = map_of bytes

  abbrev rest : List ℕ
  rest = drop 1 bytes

  -- the bytes past a place and a number of bytes after it
  past : (n k to : ℕ) (l : List ℕ) → l ≡ drop k bytes → to ≡ k + n → drop n l ≡ drop to bytes
  past n k to l e q = ap (drop n) e ∙ drop-drop n k bytes ∙ ap (λ (j : ℕ). drop j bytes) (sym q)

  keys_at : at_keys m rest ≡ drop (start 2 m 0) bytes
  keys_at = past 2 1 (start 2 m 0) rest refl (omega (arith, (starts m 0).0, front.0, front.1))

  same_key : keys m rest ≡ keys_of bytes
  same_key = keys_read bytes m (keys m rest) refl (ap (λ (l : List ℕ). number (take (bit m 2) l)) keys_at)

  abbrev k : ℕ
  k = keys m rest

  cookies_from : at_cookies m rest ≡ drop (start 3 m k) bytes
  cookies_from = past (bit m 2) (start 2 m 0) (start 3 m k) (at_keys m rest) keys_at (omega (arith, (starts m k).0, (starts m k).1))

  script_from : at_script m rest ≡ drop (start 11 m k) bytes
  script_from = past (values m rest) (start 3 m k) (start 11 m k) (at_cookies m rest) cookies_from (script_start m k)

  value_from : at_value m rest ≡ drop (start 12 m k) bytes
  value_from = past (bit m 3) (start 11 m k) (start 12 m k) (at_script m rest) script_from (omega (arith, (starts m k).2))

  target_from : at_target m rest ≡ drop (start 13 m k) bytes
  target_from = past (4 * bit m 4) (start 12 m k) (start 13 m k) (at_value m rest) value_from (omega (arith, (starts m k).3))

  totals : called bytes ≡ 1 + total m rest
  totals =
      let parts = starts m k in
      rw (← same_key) (omega (arith, parts.0, parts.1, parts.2, parts.3, parts.4, script_start m k, front.0, front.1))

  found_is : 2 ≤ length rest → found m rest ≡ fields_of bytes
  unfolding start widths
  found_is l =
      let both = front_bytes rest l in
      fields_read bytes m k refl same_key
      (rw front.0 both.0)
      (rw (front.0, front.1) (both.1 ∙ ap (λ (b : List ℕ). number (take 1 b)) (drop-drop 1 1 bytes)))
      (split_front (cookie_widths k) (values m rest) (at_cookies m rest) (omega arith) ∙ ap (split (cookie_widths k)) cookies_from)
      (ap (λ (b : List ℕ). number (take (bit m 3) b)) script_from)
      (ap (λ (b : List ℕ). number (take (4 * bit m 4) b)) value_from)
      (ap (λ (b : List ℕ). number (take (bit m 5) b)) target_from)

  key_set : keys_zero bytes ≡ false → bit m cookies_bit ≤ length (at_keys m rest) → no_key_set m (keys m rest) ≡ false
  unfolding keys_zero
  key_set e l =
      rw same_key
      (and_false_needed (ltb (key_map_at m) (length bytes)) (no_key_set m (keys_of bytes))
      (λ t. lt→ltb (key_map_at m) (length bytes) (omega (arith, l, carries_cookies m (keys_of bytes) (is_true (no_key_set m (keys_of bytes)) t), length-drop 2 rest, length-drop 1 bytes, (starts m 0).0, front.0, front.1))) e)

  key_zero : keys_zero bytes ≡ true → (2 + bit m cookies_bit ≤ length rest) × (no_key_set m (keys m rest) ≡ true)
  unfolding keys_zero
  key_zero e =
      let x = ltb (key_map_at m) (length bytes) in
      let y = no_key_set m (keys_of bytes) in
      let both : T (x && y) = subst T (sym e) tt in
      let there = ltb→lt (key_map_at m) (length bytes) (and_l x y both) in
      let empty = is_true y (and_r x y both) in
      (omega (arith, there, carries_cookies m (keys_of bytes) empty, length-drop 1 bytes, (starts m 0).0, front.0, front.1), rw same_key empty)

-- what a reading of so many bytes says of the first record
abbrev pub first_of_read : ℕ → Result (Record × List ℕ) DecodeError → First
first_of_read n (Ok (r, rest)) = first (record { number = accepted; fields = r }) (n - length rest)
first_of_read n (Err e) = first (refused (decode_number e)) 0

abbrev pub left_of : Result (Record × List ℕ) DecodeError → ℕ
left_of (Ok (r, rest)) = length rest
left_of (Err e) = 0

-- and what the first record says of decoding so many bytes
abbrev pub whole_of : ℕ → First → Decoded
whole_of n f = cond (eqb f.number accepted) (cond (eqb f.length n) (record { number = accepted; fields = f.fields }) (refused cut_or_too_long)) (record { number = f.number; fields = f.fields })

pub error_whole : (n : ℕ) (e : DecodeError) → whole_of n (first_as (Err e)) ≡ refused (decode_number e)
error_whole n KindUnknown = refl
error_whole n KeyMapEmpty = refl
error_whole n CutOrTooLong = refl

-- ---- the four cases

module _ (d : Direction) (bytes : List ℕ) where
  data Case : Type 0 where
    unknown : map_unknown d bytes ≡ true → Case
    keyless : map_unknown d bytes ≡ false → keys_zero bytes ≡ true → Case
    cut : map_unknown d bytes ≡ false → keys_zero bytes ≡ false → length bytes < called bytes → Case
    whole : map_unknown d bytes ≡ false → keys_zero bytes ≡ false → called bytes ≤ length bytes → Case

  which : Case
  which = go (map_unknown d bytes) (keys_zero bytes) refl refl
    where
      go : (b c : Bool) → map_unknown d bytes ≡ b → keys_zero bytes ≡ c → Case
      go true c e f = unknown e
      go false true e f = keyless e f
      go false false e f = elim (cases_lt (length bytes) (called bytes)) [
        | inl l ↦ cut e f l
        | inr l ↦ whole e f l
      ]

  -- ---- what decoding the first record answers

  first_refused : (n : ℕ) → eqb n accepted ≡ false → refused n ≡ decoded d (first_record bytes) → first (refused n) 0 ≡ decoded_first d bytes
  unfolding decoded_first
  first_refused n refuses e = rw (← e, refuses)

  same_size : size (map_of (first_record bytes)) (keys_of (first_record bytes)) ≡ called bytes
  same_size = ap₂ size (first_map bytes) (first_keys bytes)

  first_is_unknown : map_unknown d bytes ≡ true → first (refused kind_unknown) 0 ≡ decoded_first d bytes
  first_is_unknown e = first_refused kind_unknown refl (refused_by_lem d (first_record bytes) 0 tt (first_unknown bytes d ∙ e) refl)

  module _ (known : map_unknown d bytes ≡ false) where
    first_is_keyless : keys_zero bytes ≡ true → first (refused key_map_empty) 0 ≡ decoded_first d bytes
    first_is_keyless e = first_refused key_map_empty refl (refused_by_lem d (first_record bytes) 1 (first_unknown bytes d ∙ known, tt) (first_keyed bytes ∙ e) refl)

    module _ (keyed : keys_zero bytes ≡ false) where
      first_is_cut : length bytes < called bytes → first (refused cut_or_too_long) 0 ≡ decoded_first d bytes
      unfolding first_record
      first_is_cut l =
          let other = length_other_lem d (first_record bytes) (λ q. omega (arith, q, same_size, ap length (take_all (called bytes) bytes (omega arith)))) in
          first_refused cut_or_too_long refl (refused_by_lem d (first_record bytes) 2 (first_unknown bytes d ∙ known, (first_keyed bytes ∙ keyed, tt)) other refl)

      first_is_whole : called bytes ≤ length bytes → first (record { number = accepted; fields = fields_of (first_record bytes) }) (called bytes) ≡ decoded_first d bytes
      unfolding first_record decoded_first
      first_is_whole l =
          let long : length (first_record bytes) ≡ called bytes = length-take-le (called bytes) bytes l in
          let passed = passes d (first_record bytes) (first_unknown bytes d ∙ known) (first_keyed bytes ∙ keyed) (long ∙ sym same_size) in
          rw (decoded_accepted d (first_record bytes) passed) (ap (first (record { number = accepted; fields = fields_of (first_record bytes) })) (sym long))

  -- ---- what reading answers

  read_unknown : map_unknown d bytes ≡ true → record_at d bytes ≡ Err KindUnknown
  unfolding record_at
  read_unknown e = rw e

  module _ (e : map_unknown d bytes ≡ false) where
    read_known : record_at d bytes ≡ fields_at (map_of bytes) (drop 1 bytes)
    unfolding record_at
    read_known = rw e

    known : (eqb (length bytes) 0 ≡ false) × (is_one_of (map_of bytes) (maps d) ≡ true)
    unfolding map_unknown
    known = or-false (eqb (length bytes) 0) (is_one_of (map_of bytes) (maps d)) e

    some : 1 ≤ length bytes
    some = elim (ℕ_discrete (length bytes) 0) [
      | yes q ↦ absurd (true≢false (sym (eq-eqb (length bytes) 0 q) ∙ known.0))
      | no ne ↦ omega arith
    ]

    abbrev front : (bit (map_of bytes) 0 ≡ 1) × (bit (map_of bytes) 1 ≡ 1)
    front = has_front d (map_of bytes) known.1

    read_keyless : keys_zero bytes ≡ true → record_at d bytes ≡ Err KeyMapEmpty
    read_keyless f = let at = key_zero bytes front f in read_known ∙ fields_empty (map_of bytes) (drop 1 bytes) at.0 at.1

    module _ (f : keys_zero bytes ≡ false) where
      read_cut : length bytes < called bytes → record_at d bytes ≡ Err CutOrTooLong
      read_cut l = read_known ∙ fields_cut (map_of bytes) (drop 1 bytes) (omega (arith, some, totals bytes front, length-drop 1 bytes)) (key_set bytes front f)

      module _ (l : called bytes ≤ length bytes) where
        long : total (map_of bytes) (drop 1 bytes) ≤ length (drop 1 bytes)
        long = omega (arith, totals bytes front, length-drop 1 bytes, l, some)

        fields_there : fields_at (map_of bytes) (drop 1 bytes) ≡ Ok (found (map_of bytes) (drop 1 bytes), drop (bit (map_of bytes) 5) (at_target (map_of bytes) (drop 1 bytes)))
        fields_there = fields_whole (map_of bytes) (drop 1 bytes) long (key_set bytes front f (omega (arith, long, length-drop 2 (drop 1 bytes))))

        read_whole : first_of_read (length bytes) (record_at d bytes) ≡ first (record { number = accepted; fields = fields_of (first_record bytes) }) (called bytes)
        read_whole =
            let fields : found (map_of bytes) (drop 1 bytes) ≡ fields_of (first_record bytes) = found_is bytes front (omega (arith, long)) ∙ sym (first_fields bytes) in
            let left : length bytes - length (drop (bit (map_of bytes) 5) (at_target (map_of bytes) (drop 1 bytes))) ≡ called bytes = omega (arith, totals bytes front, long, left_long (map_of bytes) (drop 1 bytes), length-drop 1 bytes, some) in
            ap (first_of_read (length bytes)) (read_known ∙ fields_there)
            ∙ ap₂ (λ (r : Record) (n : ℕ). first (record { number = accepted; fields = r }) n) fields left

  pub read_first : first_of_read (length bytes) (record_at d bytes) ≡ decoded_first d bytes
  read_first = elim which [
    | unknown e ↦ ap (first_of_read (length bytes)) (read_unknown e) ∙ first_is_unknown e
    | keyless e f ↦ ap (first_of_read (length bytes)) (read_keyless e f) ∙ first_is_keyless e f
    | cut e f l ↦ ap (first_of_read (length bytes)) (read_cut e f l) ∙ first_is_cut e f l
    | whole e f l ↦ read_whole e f l ∙ first_is_whole e f l
  ]

  -- no more is read than there is
  pub read_short : left_of (record_at d bytes) ≤ length bytes
  read_short = elim which [
    | unknown e ↦ rw (read_unknown e) zero-le
    | keyless e f ↦ rw (read_keyless e f) zero-le
    | cut e f l ↦ rw (read_cut e f l) zero-le
    | whole e f l ↦ rw (read_known e ∙ fields_there e f l) (omega (arith, left_long (map_of bytes) (drop 1 bytes), length-drop 1 bytes))
  ]

  -- ---- the whole of the bytes

  other_length : (e : map_unknown d bytes ≡ false) → keys_zero bytes ≡ false → (length bytes ≡ called bytes → ⊥) → refused cut_or_too_long ≡ decoded d bytes
  other_length e f ne = refused_by_lem d bytes 2 (e, (f, tt)) (length_other_lem d bytes ne) refl

  same_length : (e : map_unknown d bytes ≡ false) → keys_zero bytes ≡ false → length bytes ≡ called bytes → record { number = accepted; fields = fields_of (first_record bytes) } ≡ decoded d bytes
  same_length e f q = ap (λ (r : Record). record { number = accepted; fields = r }) (first_fields bytes) ∙ sym (decoded_accepted d bytes (passes d bytes e f q))

  pub first_is_all : whole_of (length bytes) (decoded_first d bytes) ≡ decoded d bytes
  first_is_all = elim which [
    | unknown e ↦ ap (whole_of (length bytes)) (sym (first_is_unknown e)) ∙ refused_by_lem d bytes 0 tt e refl
    | keyless e f ↦ ap (whole_of (length bytes)) (sym (first_is_keyless e f)) ∙ refused_by_lem d bytes 1 (e, tt) f refl
    | cut e f l ↦ ap (whole_of (length bytes)) (sym (first_is_cut e f l)) ∙ other_length e f (λ q. omega (arith, q))
    | whole e f l ↦ elim (ℕ_discrete (called bytes) (length bytes)) [
      | yes q ↦ ap (whole_of (length bytes)) (sym (first_is_whole e f l)) ∙ rw (eq-eqb (called bytes) (length bytes) q) (same_length e f (sym q))
      | no ne ↦ ap (whole_of (length bytes)) (sym (first_is_whole e f l)) ∙ rw (ne_eqb (called bytes) (length bytes) ne) (other_length e f (λ q. ne (sym q)))
    ]
  ]
