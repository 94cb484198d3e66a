-- The run of records that bytes are, one by one: the first of them, and the run of what follows it.
use Rattle.prelude.proofs.Kit.{ℕ, ◌≤◌, ◌<◌, ◌+◌, suc, zero, arith, List, ◌∷◌, [], ◌≡◌, sym, ◌∙◌, refl, ap, ne_eqb, eqb, length, take, drop}
use Rattle.prelude.proofs.Kit.{length-append, length-drop, ℕ_discrete, true, false, Bool, cond, true≢false}
use lib.ListN.{take-append-drop}
use Rattle.prelude.specs.Refusals.{accepted}
use Rattle.records.specs.declared.Direction.{Direction}
use Rattle.records.specs.declared.Direction.TheVariants.{Request}
use Rattle.records.specs.declared.Record.{Record}
use Rattle.records.specs.Answers.{Decoded}
use Rattle.records.specs.Layout.{sum, size}
use Rattle.records.specs.Codec.{map_of, keys_of, decoded, first_record, decoded_first, Run, read_at_most, read_run}
use Rattle.records.specs.Places.{cookie_widths}
use Rattle.records.proofs.Values.{same_keys}
use Rattle.records.proofs.Decoding.{known, right_length, decoded_accepted}
use Rattle.records.proofs.FromLeft.{has_front}
use Rattle.records.proofs.InTurn.{size_split, front_end}

-- ---- how long a request is

-- map, URL and connection, and the cookies that it carries
request_size : (bytes : List ℕ) → (decoded Request bytes).number ≡ accepted → 3 + sum (cookie_widths (decoded Request bytes).fields.keys) ≤ length bytes
unfolding decoded
request_size bytes ok =
    let m = map_of bytes in
    let keys : (decoded Request bytes).fields.keys ≡ keys_of bytes = ap (λ (d : Decoded). d.fields.keys) (decoded_accepted Request bytes ok) ∙ same_keys bytes in
    rw keys (omega (arith, has_front Request m (known Request bytes ok).1, right_length Request bytes ok, size_split m (keys_of bytes), front_end m (keys_of bytes)))

-- a record, and a run after it
abbrev pub followed : Record → Run → Run
followed r run = record { records = r ∷ run.records; left = run.left }

abbrev pub nothing : List ℕ → Run
nothing bytes = record { records = []; left = bytes }

module _ (d : Direction) where
  -- ---- the first record

  module _ (bytes : List ℕ) where
    within : length (first_record bytes) ≤ length bytes
    unfolding first_record
    within =
        let n = size (map_of bytes) (keys_of bytes) in
        omega (arith, length-append (take n bytes) (drop n bytes), ap length (take-append-drop n bytes))

    same_number : (decoded_first d bytes).number ≡ (decoded d (first_record bytes)).number
    unfolding decoded_first
    same_number = refl

    module _ (ok : (decoded_first d bytes).number ≡ accepted) where
      first_long : (decoded_first d bytes).length ≡ length (first_record bytes)
      unfolding decoded_first
      first_long = rw ok

      some : 1 ≤ length (first_record bytes)
      unfolding decoded
      some = elim (ℕ_discrete (length (first_record bytes)) 0) [
        | yes e ↦ absurd (true≢false (rw e at (known d (first_record bytes) (sym same_number ∙ ok)).0))
        | no ne ↦ omega arith
      ]

      -- it has a byte at least, and no more than there are
      pub first_bytes : (1 ≤ (decoded_first d bytes).length) × ((decoded_first d bytes).length ≤ length bytes)
      first_bytes = (omega (arith, first_long, some), omega (arith, first_long, within))

      rest_short : length (drop (length (first_record bytes)) bytes) < length bytes
      rest_short = simp length-drop (omega (arith, some, within))

  -- ---- the run

  module _ (n : ℕ) (bytes : List ℕ) where
    read_more : (decoded_first d bytes).number ≡ accepted
        → read_at_most (suc n) d bytes ≡ followed (decoded_first d bytes).fields (read_at_most n d (drop (length (first_record bytes)) bytes))
    unfolding read_at_most decoded_first
    read_more ok = rw ok

    read_none : ((decoded_first d bytes).number ≡ accepted → ⊥) → read_at_most (suc n) d bytes ≡ nothing bytes
    unfolding read_at_most decoded_first
    read_none ne = rw (ne_eqb (decoded d (first_record bytes)).number accepted ne)

  read_empty : (n : ℕ) (bytes : List ℕ) → length bytes ≡ 0 → read_at_most n d bytes ≡ nothing bytes
  unfolding read_at_most
  read_empty zero bytes e = refl
  read_empty (suc n) bytes e = read_none n bytes (λ ok. omega (arith, (first_bytes bytes ok).0, (first_bytes bytes ok).1))

  -- steps to spare read no more
  read_stable : (n m : ℕ) (bytes : List ℕ) → length bytes ≤ n → length bytes ≤ m → read_at_most n d bytes ≡ read_at_most m d bytes
  read_stable zero m bytes l k = read_empty zero bytes (omega arith) ∙ sym (read_empty m bytes (omega arith))
  read_stable (suc n) zero bytes l k = read_empty (suc n) bytes (omega arith) ∙ sym (read_empty zero bytes (omega arith))
  read_stable (suc n) (suc m) bytes l k =
      elim (ℕ_discrete (decoded_first d bytes).number accepted) [
        | yes ok ↦
            let rest = drop (length (first_record bytes)) bytes in
            let shorter = rest_short bytes ok in
            read_more n bytes ok ∙ ap (followed (decoded_first d bytes).fields) (read_stable n m rest (omega (arith, shorter)) (omega (arith, shorter))) ∙ sym (read_more m bytes ok)
        | no ne ↦ read_none n bytes ne ∙ sym (read_none m bytes ne)
      ]

  pub run_end : read_run d [] ≡ nothing []
  unfolding read_run read_at_most
  run_end = refl

  pub run_none : (bytes : List ℕ) → ((decoded_first d bytes).number ≡ accepted → ⊥) → read_run d bytes ≡ nothing bytes
  unfolding read_run
  run_none [] ne = run_end
  run_none (b ∷ bytes) ne = read_none (length bytes) (b ∷ bytes) ne

  pub run_more : (bytes : List ℕ) → (decoded_first d bytes).number ≡ accepted
      → read_run d bytes ≡ followed (decoded_first d bytes).fields (read_run d (drop (decoded_first d bytes).length bytes))
  unfolding read_run
  run_more [] ok = absurd (omega (arith, (first_bytes [] ok).0, (first_bytes [] ok).1))
  run_more (b ∷ bytes) ok =
      let all = b ∷ bytes in
      let rest = drop (length (first_record all)) all in
      let shorter = rest_short all ok in
      read_more (length bytes) all ok
      ∙ ap (followed (decoded_first d all).fields) (read_stable (length bytes) (length rest) rest (omega (arith, shorter)) (omega arith))
      ∙ ap (λ (n : ℕ). followed (decoded_first d all).fields (read_run d (drop n all))) (sym (first_long all ok))

  -- a run has no more records than bytes
  read_few : (n : ℕ) (bytes : List ℕ) → length (read_at_most n d bytes).records ≤ n
  unfolding read_at_most
  read_few zero bytes = omega arith
  read_few (suc n) bytes = go (eqb (decoded d (first_record bytes)).number accepted) (read_few n (drop (length (first_record bytes)) bytes))
    where
      rest : Run
      rest = read_at_most n d (drop (length (first_record bytes)) bytes)

      go : (b : Bool) → length rest.records ≤ n → length (cond b (followed (decoded d (first_record bytes)).fields rest) (nothing bytes)).records ≤ suc n
      go true l = omega (arith, l)
      go false l = omega arith

  pub run_few : (bytes : List ℕ) → length (read_run d bytes).records ≤ length bytes
  unfolding read_run
  run_few bytes = read_few (length bytes) bytes

-- the first of some requests
pub first_size : (bytes : List ℕ) → (decoded_first Request bytes).number ≡ accepted
    → 3 + sum (cookie_widths (decoded_first Request bytes).fields.keys) ≤ (decoded_first Request bytes).length
unfolding decoded_first
first_size bytes ok = omega (arith, first_long Request bytes ok, request_size (first_record bytes) ok)
