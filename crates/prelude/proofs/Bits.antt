-- Laws of words bit by bit.
use Rattle.prelude.proofs.Kit.{ℕ, suc, ◌^◌, zero, ◌%◌, ◌/◌, arith, ◌&&◌, ◌≡◌, ◌∙◌, ap, ne_eqb, bit_or, and_le_r, eqb, eqb·suc_zero}
use lib.Bits.{or_zero_l, or_add_and}
use lib.Pow.{shr-shr}

-- a bit of half a number is the next one of the number
pub half_bit : (x i : ℕ) → x / 2 / 2 ^ i % 2 ≡ x / 2 ^ suc i % 2
half_bit x i = ap (λ (y : ℕ). y % 2) (shr-shr x 1 i ∙ ap (λ (k : ℕ). x / 2 ^ k) (omega arith))

-- two words joined by "or" are 0 just where both are
pub or_zero : (a b : ℕ) → eqb (bit_or a b) 0 ≡ eqb a 0 && eqb b 0
or_zero zero b = rw (or_zero_l b)
or_zero (suc a) b = rw (eqb·suc_zero a) (ne_eqb (bit_or (suc a) b) 0 (λ e. omega (arith, or_add_and (suc a) b, and_le_r (suc a) b)))
