-- What a caller may take from the answers about an input: its parts are there, a record is within it, and one more record is counted. And what is at a
-- place of an input is what is at the front of what is left there.
use Rattle.prelude.proofs.Kit.{ℕ, ◌≤◌, ◌+◌, ◌-◌, arith, true, Bool, false, cond, List, ◌≡◌, ◌∙◌, refl, ap, eqb, ltb, length, length-drop, get_or, drop, lt-ltb, le-ltb}
use borrow.Author.Tests.{ltb-true, ltb-false}
use lib.Seq.{get_or-drop}
use Rattle.prelude.specs.Refusals.{accepted}
use Rattle.transcript.specs.declared.counts.Counts.{Counts}
use Rattle.transcript.specs.declared.input.Ending.TheVariants.{End, Cut}
use Rattle.transcript.specs.Input.{records_at, input_limit, Short, Long, Fits, input_size, Next, Record, Last, next_record, counted}

pub fits_between : (input : List ℕ) → input_size input ≡ Fits → (records_at ≤ length input) × (length input ≤ input_limit)
fits_between input e = go (ltb (length input) records_at) (ltb input_limit (length input)) refl refl e
  where
    go : (a b : Bool) → ltb (length input) records_at ≡ a → ltb input_limit (length input) ≡ b → cond a Short (cond b Long Fits) ≡ Fits
        → (records_at ≤ length input) × (length input ≤ input_limit)
    go true b p q e = let z : ◌≡◌ {A = ℕ} 0 1 = cc in absurd (omega arith)
    go false true p q e = let z : ◌≡◌ {A = ℕ} 0 1 = cc in absurd (omega arith)
    go false false p q e = (ltb-false (length input) records_at p, ltb-false input_limit (length input) q)

pub record_within : (input : List ℕ) (at start n : ℕ) → next_record input at ≡ Record start n → (start ≡ at + 1) × (start + n ≤ length input)
record_within input at start n e = go (ltb at (length input)) (ltb (length input - (at + 1)) (get_or input at 0)) refl refl e
  where
    go : (a b : Bool) → ltb at (length input) ≡ a → ltb (length input - (at + 1)) (get_or input at 0) ≡ b
        → cond a (cond b (Last Cut) (Record (at + 1) (get_or input at 0))) (Last End) ≡ Record start n → (start ≡ at + 1) × (start + n ≤ length input)
    go false b p q e = let z : ◌≡◌ {A = ℕ} 0 1 = cc in absurd (omega arith)
    go true true p q e = let z : ◌≡◌ {A = ℕ} 0 1 = cc in absurd (omega arith)
    go true false p q e =
        let there : start ≡ at + 1 = cc in
        let size : n ≡ get_or input at 0 = cc in
        (there, omega (arith, ltb-true at (length input) p, ltb-false (length input - (at + 1)) (get_or input at 0) q))

pub counted_more : (counts : Counts) (number : ℕ) → (counted counts number).accepted + (counted counts number).refused ≡ counts.accepted + counts.refused + 1
counted_more counts number = go (eqb number accepted)
  where
    go : (b : Bool)
        → let after : Counts = cond b (record { accepted = counts.accepted + 1; refused = counts.refused }) (record { accepted = counts.accepted; refused = counts.refused + 1 }) in
        after.accepted + after.refused ≡ counts.accepted + counts.refused + 1
    go true = omega arith
    go false = omega arith

-- what is at a place is what is at the front of the bytes from it on
abbrev pub moved : ℕ → Next → Next
moved at (Record start n) = Record (at + start) n
moved at (Last ending) = Last ending

pub next_from : (input : List ℕ) (at : ℕ) → next_record input at ≡ moved at (next_record (drop at input) 0)
next_from input at =
    let long = length-drop at input in
    let byte : get_or (drop at input) 0 0 ≡ get_or input at 0 = get_or-drop at input 0 0 ∙ ap (λ i. get_or input i 0) (omega arith) in
    let some : ltb 0 (length (drop at input)) ≡ ltb at (length input) = more (ltb at (length input)) refl in
    let rest : length (drop at input) - 1 ≡ length input - (at + 1) = omega arith in
    rw (some, rest, byte) (go (ltb at (length input)) (ltb (length input - (at + 1)) (get_or input at 0)))
  where
    more : (b : Bool) → ltb at (length input) ≡ b → ltb 0 (length (drop at input)) ≡ b
    more true e = lt-ltb 0 (length (drop at input)) (omega (arith, ltb-true at (length input) e, length-drop at input))
    more false e = le-ltb 0 (length (drop at input)) (omega (arith, ltb-false at (length input) e, length-drop at input))

    go : (a b : Bool) → cond a (cond b (Last Cut) (Record (at + 1) (get_or input at 0))) (Last End) ≡ moved at (cond a (cond b (Last Cut) (Record 1 (get_or input at 0))) (Last End))
    go true true = refl
    go true false = refl
    go false b = refl
