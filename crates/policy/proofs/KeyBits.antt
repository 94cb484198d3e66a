-- A map of keys as a word: its bits are the keys that pass, a key is added by "or" or, above the others, by a sum, and two maps share keys by "and".
use Rattle.prelude.proofs.Kit.{ℕ, ◌≤◌, ◌<◌, ◌+◌, suc, ◌^◌, zero, ◌*◌, ◌%◌, ◌/◌, zero-lt-suc, mod-eq_of_lt, div-one, one-mul, add-one, arith}
use Rattle.prelude.proofs.Kit.{true, ◌&&◌, Bool, false, ◌||◌, ◌≡◌, sym, ◌∙◌, refl, ap, subst, bit_or, and_le_r, ⊎_elim, eq-eqb, ne_eqb, eqb, lit<}
use Prim.Native.Nat.{min, max, suc-le-suc}
use native.Mathlib.Nat.{lt_trans, lt_of_le_of_lt, lt_of_lt_of_le, pow-suc, mod-one, div-eq_of_lt}
use borrow.Author.Tests.{eqb-true, eqb-false}
use lib.Bits.{bit_and}
use Rattle.std.proofs.lemmas.Nat.Bits.{bit_at_and, bit_at_or, bit_at-pow_same, bit_at-pow_other}
use Rattle.std.proofs.lemmas.Bool.{cases_eq}
use lib.Pow.{pow_pos, mod-pow-add, pow-lt, pow_mono}
use mir.Val.{bool_byte}
use Rattle.prelude.specs.Choice.{branch}
use Rattle.prelude.proofs.Bits.{half_bit}
use Rattle.prelude.proofs.Choices.{as_digit}
use Rattle.machine.specs.Policy.{host_keys}
use Rattle.machine.specs.Session.{has, map_below, key_map}
use Rattle.machine.proofs.KeyMaps.{has_map, map_below_lem}

-- what the code's shift makes
single : (k : ℕ) → k < host_keys → 1 * 2 ^ k % 4294967296 ≡ 2 ^ k
single k l = rw (one-mul (2 ^ k)) (mod-eq_of_lt (lt_trans (pow-lt l) (lit< tt)))

-- the digit that a bit is
digit : (y : ℕ) (b : Bool) → eqb (y / 1 % 2) 1 ≡ b → y % 2 ≡ branch b 1 0
unfolding branch
digit y true e = omega (arith, eqb-true (y / 1 % 2) 1 e, div-one y)
digit y false e = omega (arith, eqb-false (y / 1 % 2) 1 e, div-one y)

-- a word with the bits of a test is its map, up to the bits that are asked
of_bits : (n y : ℕ) (test : ℕ → Bool) → ((j : ℕ) → j < n → has y j ≡ test j) → y % 2 ^ n ≡ map_below n test
unfolding has map_below
of_bits zero y test f = mod-one y
of_bits (suc n) y test f =
    let rest : y / 2 % 2 ^ n ≡ map_below n (λ j. test (suc j)) =
    of_bits n (y / 2) (λ j. test (suc j)) (λ j l. ap (λ (x : ℕ). eqb x 1) (half_bit y j) ∙ f (suc j) (suc-le-suc l)) in
    let low : y % 2 ≡ branch (test 0) 1 0 = digit y (test 0) (f 0 (zero-lt-suc n)) in
    let whole = mod-pow-add y n 1 in
    rw (← add-one n) (omega (arith, whole, rest, low))

-- a test that no key passes
pub none_has : (j : ℕ) → has 0 j ≡ false
unfolding has
none_has j = ap (λ (x : ℕ). eqb (x % 2) 1) (div-eq_of_lt (pow_pos j))

pub none_mapped : (test : ℕ → Bool) → ((j : ℕ) → test j ≡ false) → 0 ≡ key_map test
none_mapped test f = of_bits host_keys 0 test (λ j _. none_has j ∙ sym (f j))

-- ---- a key added by "or"

-- the only bit of a power of two
power_bit : (k j : ℕ) → 2 ^ k / 2 ^ j % 2 ≡ branch (eqb j k) 1 0
unfolding branch
power_bit k j = ⊎_elim (λ same. rw (eq-eqb j k same) (subst (λ (i : ℕ). 2 ^ k / 2 ^ i % 2 ≡ 1) (sym same) (bit_at-pow_same k))) (λ other. rw (ne_eqb j k other) (bit_at-pow_other k j other)) (cases_eq j k)

-- one of two bits is 1
either_bit : (b : Bool) (x : ℕ) → x < 2 → eqb (max x (branch b 1 0)) 1 ≡ b || eqb x 1
unfolding branch
either_bit true zero l = refl
either_bit false zero l = refl
either_bit true (suc zero) l = refl
either_bit false (suc zero) l = refl
either_bit b (suc (suc x)) l = absurd (omega arith)

or_bit : (x k j : ℕ) → has (bit_or x (2 ^ k)) j ≡ eqb j k || has x j
unfolding has
or_bit x k j =
    ap (λ (y : ℕ). eqb y 1) (bit_at_or x (2 ^ k) j ∙ ap (max (x / 2 ^ j % 2)) (power_bit k j)) ∙ either_bit (eqb j k) (x / 2 ^ j % 2) (omega arith)

pub with_key : (x k : ℕ) → k < host_keys → bit_or x (1 * 2 ^ k % 4294967296) % 256 ≡ key_map (λ j. eqb j k || has x j)
with_key x k l =
    ap (λ (y : ℕ). bit_or x y % 256) (single k l) ∙ of_bits host_keys (bit_or x (2 ^ k)) (λ j. eqb j k || has x j) (λ j _. or_bit x k j)

-- ---- the keys of a map that a test passes

both_bits : (x y : ℕ) → x < 2 → y < 2 → eqb (min x y) 1 ≡ eqb x 1 && eqb y 1
both_bits zero zero l k = refl
both_bits zero (suc zero) l k = refl
both_bits (suc zero) zero l k = refl
both_bits (suc zero) (suc zero) l k = refl
both_bits zero (suc (suc y)) l k = absurd (omega arith)
both_bits (suc zero) (suc (suc y)) l k = absurd (omega arith)
both_bits (suc (suc x)) y l k = absurd (omega arith)

and_bit : (x y j : ℕ) → has (bit_and x y) j ≡ has x j && has y j
unfolding has
and_bit x y j = ap (λ (z : ℕ). eqb z 1) (bit_at_and x y j) ∙ both_bits (x / 2 ^ j % 2) (y / 2 ^ j % 2) (omega arith) (omega arith)

pub kept_keys : (x : ℕ) (test : ℕ → Bool) → bit_and x (key_map test) ≡ key_map (λ k. has x k && test k)
kept_keys x test =
    sym (mod-eq_of_lt (lt_of_le_of_lt (and_le_r x (key_map test)) (map_below_lem host_keys test)))
    ∙ of_bits host_keys (bit_and x (key_map test)) (λ k. has x k && test k)
    (λ j l. and_bit x (key_map test) j ∙ ap (λ (b : Bool). has x j && b) (has_map host_keys test j l))

-- ---- a key added above the others

map_next : (n : ℕ) (test : ℕ → Bool) → map_below n test + branch (test n) 1 0 * 2 ^ n ≡ map_below (n + 1) test
unfolding map_below
map_next zero test = omega arith
map_next (suc n) test = rw (add-one, pow-suc 2 n) (omega (arith, rw add-one at (map_next n (λ k. test (suc k)))))

pub map_small : (n : ℕ) (test : ℕ → Bool) → n ≤ host_keys → map_below n test < 256
map_small n test l = lt_of_lt_of_le (map_below_lem n test) (pow_mono l)

module _ (n keys : ℕ) (test : ℕ → Bool) (b : Bool) (l : n < host_keys) (e : keys ≡ map_below n test) where
  one_key : bool_byte b * 2 ^ n < 256
  one_key = let small : 2 ^ n < 256 = pow-lt l in go b small
    where
      go : (b : Bool) → 2 ^ n < 256 → bool_byte b * 2 ^ n < 256
      go true h = omega (arith, h)
      go false h = omega arith

  shifted : bool_byte b * 2 ^ n % 4294967296 ≡ bool_byte b * 2 ^ n
  shifted = mod-eq_of_lt (lt_trans one_key (lit< tt))

  pub added : b ≡ test n → keys + bool_byte b * 2 ^ n % 4294967296 ≡ map_below (n + 1) test
  added t = rw (shifted, e, as_digit b, t) (map_next n test)

  pub added_fits : keys + bool_byte b * 2 ^ n % 4294967296 < 4294967296
  added_fits = let rest : map_below n test < 256 = map_small n test (omega arith) in rw (shifted, e) (omega (arith, one_key, rest))
