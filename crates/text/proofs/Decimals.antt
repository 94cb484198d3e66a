-- The digits of a number: one below ten, else one more than a tenth of it has; and how many there can be.
use Rattle.prelude.proofs.Kit.{ℕ, ◌≤◌, ◌<◌, ◌+◌, suc, ◌^◌, zero, ◌%◌, ◌/◌, zero-lt-suc, le_of_suc-le-suc, not-suc-le-zero, arith, true}
use Rattle.prelude.proofs.Kit.{Bool, false, cond, List, ◌∷◌, [], ◌++◌, ◌≡◌, sym, ◌∙◌, refl, ap, le-ltb, lt-ltb, ltb, length, length-append}
use Rattle.prelude.proofs.Kit.{◌*◌, ◌-◌, map, take, drop, get_or, take_all}
use native.Mathlib.Nat.{pow-suc, div-lt_iff_lt-mul}
use Rattle.text.specs.Text.{digit, decimal_within, decimal, line, space, newline}

-- more digits than are enough change nothing
stable : (few most n : ℕ) → n < 10 ^ suc few → few ≤ most → decimal_within (suc most) n ≡ decimal_within (suc few) n
unfolding decimal_within
stable zero most n h l = rw (lt-ltb n 10 h)
stable (suc few) zero n h l = absurd (not-suc-le-zero l)
stable (suc few) (suc most) n h l =
    let tenth : n / 10 < 10 ^ suc few = (div-lt_iff_lt-mul {k = 10} {x = n} {y = 10 ^ suc few} (zero-lt-suc 9)).1 (rw (pow-suc 10 (suc few)) at h) in
    ap (λ (ds : List ℕ). cond (ltb n 10) (digit n ∷ []) (ds ++ (digit (n % 10) ∷ []))) (stable few most (n / 10) tenth (le_of_suc-le-suc l))

either : (b : Bool) (x y : ℕ) (ds : List ℕ) (most : ℕ) → length ds ≤ most → length (cond b (x ∷ []) (ds ++ (y ∷ []))) ≤ suc most
either true x y ds most l = omega arith
either false x y ds most l = simp length-append (omega arith)

within : (most n : ℕ) → length (decimal_within most n) ≤ most
unfolding decimal_within
within zero n = omega arith
within (suc most) n = either (ltb n 10) (digit n) (digit (n % 10)) (decimal_within most (n / 10)) most (within most (n / 10))

module _ (n : ℕ) where
  pub decimal_one : n < 10 → decimal n ≡ digit n ∷ []
  unfolding decimal decimal_within
  decimal_one h = rw (lt-ltb n 10 h)

  pub decimal_more : 10 ≤ n → n < 2 ^ 32 → decimal n ≡ decimal (n / 10) ++ (digit (n % 10) ∷ [])
  unfolding decimal decimal_within
  decimal_more h l = rw (le-ltb n 10 h) (ap (λ (ds : List ℕ). ds ++ (digit (n % 10) ∷ [])) (sym (stable 8 9 (n / 10) (omega arith) (omega arith))))

  pub decimal_longer : 10 ≤ n → n < 2 ^ 32 → length (decimal n) ≡ length (decimal (n / 10)) + 1
  decimal_longer h l = ap length (decimal_more h l) ∙ length-append (decimal (n / 10)) (digit (n % 10) ∷ [])

  pub decimal_ten : length (decimal n) ≤ 10
  unfolding decimal
  decimal_ten = within 10 n

  decimal_three : n < 256 → length (decimal n) ≤ 3
  unfolding decimal
  decimal_three h = rw (stable 2 9 n (omega arith) (omega arith)) (within 3 n)

  -- a number of 32 bits with the byte that ends it, and one of 8 bits
  pub number_room : (end : ℕ) → length (decimal n ++ (end ∷ [])) ≤ 11
  number_room end = simp length-append (omega (arith, decimal_ten))

  pub byte_room : (end : ℕ) → n < 256 → length (decimal n ++ (end ∷ [])) ≤ 4
  byte_room end h = simp length-append (omega (arith, decimal_three h))

-- ---- numbers on a line

-- the first of two or more has a space behind it, and the others follow, as code lends them
pub line_more : (ns : List ℕ) → 2 ≤ length ns
    → line (map decimal ns) ≡ (decimal (get_or ns 0 0) ++ (space ∷ [])) ++ line (map decimal (take (length ns - 1) (drop 1 ns)))
line_more [] h = absurd (omega arith)
line_more (n ∷ []) h = absurd (omega arith)
line_more (n ∷ m ∷ ns) h =
    let all : take (length (n ∷ m ∷ ns) - 1) (m ∷ ns) ≡ m ∷ ns = take_all (length (n ∷ m ∷ ns) - 1) (m ∷ ns) (omega arith) in
    ap (λ rest. (decimal n ++ (space ∷ [])) ++ line (map decimal rest)) (sym all)

-- a word before some has a space behind it
pub line_after : (word : List ℕ) (ns : List ℕ) → 0 < length ns → line (word ∷ map decimal ns) ≡ (word ++ (space ∷ [])) ++ line (map decimal ns)
line_after word [] h = absurd (omega arith)
line_after word (n ∷ ns) h = refl

-- a line has room for ten digits of each, and the byte that ends them
pub numbers_room : (ns : List ℕ) → 0 < length ns → length (line (map decimal ns)) ≤ 11 * length ns
numbers_room [] h = absurd (omega arith)
numbers_room (n ∷ []) h = number_room n newline
numbers_room (n ∷ m ∷ ns) h =
    simp length-append (omega (arith, simp length-append at (number_room n space), numbers_room (m ∷ ns) (omega arith)))
