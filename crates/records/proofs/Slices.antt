-- A byte and a word as the bytes of a record, most significant first.
use Rattle.prelude.proofs.Kit.{ℕ, ◌≤◌, ◌<◌, ◌+◌, ◌*◌, suc, add-one, mod-eq_of_lt, div-one, arith, List, ◌∷◌, [], ◌≡◌, sym, ◌∙◌, ap, subst, length, take, take_all, drop, drop-cons, get_or}
use native.Mathlib.Numerals.{add-two, add-three}
use Rattle.std.specs.Int.{w32, from_be_bytes, to_be_bytes}
use Rattle.records.specs.Bytes.{number, digits}
use Rattle.records.proofs.Joining.{spelt, spelt_is}

pub number_four : (l : List ℕ) (at : ℕ) → at + 4 ≤ length l
    → number (take 4 (drop at l)) ≡ get_or l at 0 * 0x100_0000 + get_or l (at + 1) 0 * 0x1_0000 + get_or l (at + 2) 0 * 0x100 + get_or l (at + 3) 0
unfolding number
number_four l at h =
    rw (drop-cons l at 0 (omega arith), drop-cons l (suc at) 0 (omega arith), drop-cons l (suc (suc at)) 0 (omega arith), drop-cons l (suc (suc (suc at))) 0 (omega arith), add-one at, add-two at, add-three at)
    (omega arith)

pub number_byte : (l : List ℕ) → length l ≡ 1 → get_or l 0 0 ≡ number l
unfolding number spelt
number_byte l e = subst (λ (k : List ℕ). get_or k 0 0 ≡ number k) (spelt_is 1 l e) (omega arith)

pub number_word : (l : List ℕ) → length l ≡ 4 → from_be_bytes w32 l ≡ number l
number_word l e = sym (number_four l 0 (omega arith)) ∙ ap number (take_all 4 l (omega arith))

pub digits_byte : (v : ℕ) → v < 256 → v ∷ [] ≡ digits 1 v
unfolding digits
digits_byte v h = rw (div-one v, mod-eq_of_lt h)

pub digits_word : (v : ℕ) → to_be_bytes w32 v ≡ digits 4 v
unfolding digits
digits_word v = rw (div-one v)
