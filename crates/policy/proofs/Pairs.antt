-- Two words as one: it is a given pair just where each word is its part, and joined by "or" with others it is 0 just where all are.
use Rattle.prelude.proofs.Kit.{ℕ, ◌<◌, ◌+◌, ◌*◌, arith, ◌&&◌, Bool, List, ◌≡◌, sym, ◌∙◌, ap, subst, bit_or, and_le_r, T, eqb, eqb→eq, lit<}
use Rattle.prelude.proofs.Kit.{and_i, get_or, and_r, and_l}
use lib.Bits.{bit_xor, xor_self, xor_add_and, and_le_l}
use lib.Dec.{eqb_refl}
use Rattle.prelude.proofs.Bits.{or_zero}
use Rattle.prelude.proofs.Choices.{joined}
use Rattle.labels.proofs.Below.{same}
use Rattle.machine.specs.Policy.{empty_row}

equal : (a b : ℕ) → a ≡ b → T (eqb a b)
equal a b e = subst (λ (x : ℕ). T (eqb a x)) e (eqb_refl a)

-- what differs in nothing is equal
differ : (a b : ℕ) → eqb (bit_xor a b) 0 ≡ eqb a b
differ a b =
    same (eqb (bit_xor a b) 0) (eqb a b)
    (λ t. equal a b (let e = eqb→eq (bit_xor a b) 0 t in omega (arith, xor_add_and a b, and_le_l a b, and_le_r a b)))
    (λ t. equal (bit_xor a b) 0 (ap (λ (x : ℕ). bit_xor a x) (sym (eqb→eq a b t)) ∙ xor_self a))

pub pair_is : (x y c d : ℕ) → x < 4294967296 → c < 4294967296 → eqb (x + y * 4294967296) (c + d * 4294967296) ≡ eqb x c && eqb y d
pair_is x y c d lx lc =
    same (eqb (x + y * 4294967296) (c + d * 4294967296)) (eqb x c && eqb y d)
    (λ t. let e = eqb→eq (x + y * 4294967296) (c + d * 4294967296) t in and_i (eqb x c) (eqb y d) (equal x c (omega arith)) (equal y d (omega arith)))
    (λ t. let e = eqb→eq x c (and_l (eqb x c) (eqb y d) t) in let f = eqb→eq y d (and_r (eqb x c) (eqb y d) t) in equal (x + y * 4294967296) (c + d * 4294967296) (omega arith))

two_empty : (a r w b s v : Bool) → ((a && r) && (w && b)) && (s && v) ≡ (a && (r && w)) && (b && (s && v))
two_empty a r w b s v = same (((a && r) && (w && b)) && (s && v)) ((a && (r && w)) && (b && (s && v))) (λ t. search joined) (λ t. search joined)

-- two rows differ in nothing from two empty ones
pub two_rows : (p : List ℕ) (u : ℕ) → get_or p (3 * u) 0 < 4294967296 → get_or p (3 * u + 2) 0 < 4294967296 → get_or p (3 * u + 4) 0 < 4294967296
    → eqb (bit_or (bit_or (bit_xor (get_or p (3 * u) 0 + get_or p (3 * u + 1) 0 * 4294967296) 255) (bit_xor (get_or p (3 * u + 2) 0 + get_or p (3 * u + 2 + 1) 0 * 4294967296) 1095216660480)) (get_or p (3 * u + 4) 0 + get_or p (3 * u + 4 + 1) 0 * 4294967296)) 0
    ≡ empty_row p u && empty_row p (u + 1)
unfolding empty_row
two_rows p u l m n =
    let next : 3 * (u + 1) ≡ 3 * u + 2 + 1 = omega arith in
    let readers : 3 * u + 2 + 1 + 1 ≡ 3 * u + 4 = omega arith in
    let writers : 3 * u + 2 + 1 + 2 ≡ 3 * u + 4 + 1 = omega arith in
    rw (
      next,
      readers,
      writers,
      or_zero (bit_or (bit_xor (get_or p (3 * u) 0 + get_or p (3 * u + 1) 0 * 4294967296) 255) (bit_xor (get_or p (3 * u + 2) 0 + get_or p (3 * u + 2 + 1) 0 * 4294967296) 1095216660480)),
      or_zero (bit_xor (get_or p (3 * u) 0 + get_or p (3 * u + 1) 0 * 4294967296) 255),
      differ (get_or p (3 * u) 0 + get_or p (3 * u + 1) 0 * 4294967296) 255,
      differ (get_or p (3 * u + 2) 0 + get_or p (3 * u + 2 + 1) 0 * 4294967296) 1095216660480,
      pair_is (get_or p (3 * u) 0) (get_or p (3 * u + 1) 0) 255 0 l (lit< tt),
      pair_is (get_or p (3 * u + 2) 0) (get_or p (3 * u + 2 + 1) 0) 0 255 m (lit< tt),
      pair_is (get_or p (3 * u + 4) 0) (get_or p (3 * u + 4 + 1) 0) 0 0 n (lit< tt),
    )
    (two_empty (eqb (get_or p (3 * u) 0) 255) (eqb (get_or p (3 * u + 1) 0) 0) (eqb (get_or p (3 * u + 2) 0) 0) (eqb (get_or p (3 * u + 2 + 1) 0) 255) (eqb (get_or p (3 * u + 4) 0) 0) (eqb (get_or p (3 * u + 4 + 1) 0) 0))
