-- Sums over the numbers below a bound, how many of these pass a test, and how far two numbers are apart.
use Rattle.std.specs.Prelude.{ℕ, zero, suc, ◌+◌, ◌≤◌, Bool}
use Rattle.prelude.specs.Choice.{branch}

unfoldable pub sum_below : ℕ → (ℕ → ℕ) → ℕ
sum_below zero f = 0
sum_below (suc n) f = sum_below n f + f n

unfoldable pub count_below : ℕ → (ℕ → Bool) → ℕ
count_below n test = sum_below n (λ i. branch (test i) 1 0)

-- either may be the greater one
abbrev pub AtMostApart : ℕ → ℕ → ℕ → Type 0
AtMostApart most m n = (m ≤ n + most) × (n ≤ m + most)
