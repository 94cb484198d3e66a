-- Numbers and their bytes: each is had back from the other.
use Rattle.prelude.proofs.Kit.{ℕ, ◌<◌, ◌+◌, suc, ◌^◌, zero, ◌*◌, ◌%◌, zero-lt-suc, mod-eq_of_lt, arith, List, ◌∷◌, [], ◌≡◌, sym, ◌∙◌, refl}
use Rattle.prelude.proofs.Kit.{ap, ap₂, T, ltb, ltb→lt, length, are_bytes, and_r, and_l}
use native.Mathlib.Nat.{mod-one, pow-succ', one-le-pow, mul_assoc, mul-add-div_right}
use lib.Arith.{mod-mul, digits_lt, digits_div}
use Rattle.records.specs.Bytes.{number, digits}

pub length_digits : (w v : ℕ) → length (digits w v) ≡ w
unfolding digits
length_digits zero v = refl
length_digits (suc w) v = ap suc (length_digits w v)

-- 256 ^ w is above 0
room : (w : ℕ) → zero < 256 ^ w
room w = one-le-pow w 256 (zero-lt-suc 255)

pub number_digits : (w v : ℕ) → number (digits w v) ≡ v % 256 ^ w
unfolding digits number
number_digits zero v = sym (mod-one v)
number_digits (suc w) v =
    rw (length_digits w v, number_digits w v, pow-succ' 256 w) (sym (mod-mul v {m = 256} {c = 256 ^ w} (zero-lt-suc 255) (room w)))

pub number_lt : (bytes : List ℕ) → T (are_bytes bytes) → number bytes < 256 ^ length bytes
unfolding number
number_lt [] h = zero-lt-suc 0
number_lt (b ∷ bytes) h =
    rw (pow-succ' 256 (length bytes))
    (digits_lt (ltb→lt b 256 (and_l (ltb b 256) (are_bytes bytes) h)) (number_lt bytes (and_r (ltb b 256) (are_bytes bytes) h)))

-- digits above the width change nothing
digits_low : (w q v : ℕ) → digits w (q * 256 ^ w + v) ≡ digits w v
unfolding digits
digits_low zero q v = refl
digits_low (suc w) q v =
    rw (pow-succ' 256 w, ← mul_assoc q 256 (256 ^ w))
    (ap₂ ◌∷◌ (rw (mul-add-div_right (room w) (q * 256) v) (omega arith)) (digits_low w (q * 256) v))

pub digits_number : (bytes : List ℕ) → T (are_bytes bytes) → digits (length bytes) (number bytes) ≡ bytes
unfolding digits number
digits_number [] h = refl
digits_number (b ∷ bytes) h =
    let l = number_lt bytes (and_r (ltb b 256) (are_bytes bytes) h) in
    ap₂ ◌∷◌ (rw (digits_div b l) (mod-eq_of_lt (ltb→lt b 256 (and_l (ltb b 256) (are_bytes bytes) h))))
    (digits_low (length bytes) b (number bytes) ∙ digits_number bytes (and_r (ltb b 256) (are_bytes bytes) h))
