-- Sums over the numbers below a bound, and counts: how a loop comes to them, how great they can be, and how far two of them can be apart.
use Rattle.prelude.proofs.Kit.{ℕ, ◌≤◌, ◌<◌, ◌+◌, ◌*◌, suc, zero, add-one, arith, true, Bool, false, ◌≡◌, ◌∙◌, refl, ap, ap₂, ℕ_discrete}
use native.Mathlib.Nat.{le_refl, le_step, mul-suc}
use mir.Val.{bool_byte}
use Rattle.prelude.specs.Choice.{branch}
use Rattle.prelude.specs.Sums.{sum_below, count_below, AtMostApart}
use Rattle.prelude.proofs.Choices.{as_digit}

-- ---- a loop

module _ (f : ℕ → ℕ) where
  pub sum_none : 0 ≡ sum_below 0 f
  unfolding sum_below
  sum_none = refl

  pub sum_next : (n : ℕ) → sum_below n f + f n ≡ sum_below (n + 1) f
  unfolding sum_below
  sum_next n = rw (add-one n)

  pub sum_most : (most n : ℕ) → ((i : ℕ) → i < n → f i ≤ most) → sum_below n f ≤ most * n
  unfolding sum_below
  sum_most most zero each = omega arith
  sum_most most (suc n) each =
      let rest = sum_most most n (λ i l. each i (le_step l)) in
      omega (arith, rest, each n (le_refl (suc n)), mul-suc most n)

  pub sum_none_of : (n : ℕ) → ((i : ℕ) → i < n → f i ≡ 0) → sum_below n f ≡ 0
  sum_none_of n each = omega (arith, sum_most 0 n (λ i l. omega (arith, each i l)))

-- 1 or 0, as a test says
one_most : (b : Bool) → branch b 1 0 ≤ 1
unfolding branch
one_most true = omega arith
one_most false = omega arith

module _ (test : ℕ → Bool) where
  pub count_none : 0 ≡ count_below 0 test
  unfolding count_below
  count_none = sum_none (λ i. branch (test i) 1 0)

  count_next : (n : ℕ) → count_below n test + branch (test n) 1 0 ≡ count_below (n + 1) test
  unfolding count_below
  count_next n = sum_next (λ i. branch (test i) 1 0) n

  -- as code adds it
  pub count_added : (n count : ℕ) (b : Bool) → count ≡ count_below n test → b ≡ test n → count + bool_byte b ≡ count_below (n + 1) test
  count_added n count b e f = ap₂ (λ (m k : ℕ). m + k) e (as_digit b ∙ ap (λ (x : Bool). branch x 1 0) f) ∙ count_next n

  pub count_most : (n : ℕ) → count_below n test ≤ n
  unfolding count_below
  count_most n = omega (arith, sum_most (λ i. branch (test i) 1 0) 1 n (λ i l. one_most (test i)))

  pub count_none_of : (n : ℕ) → ((i : ℕ) → i < n → test i ≡ false) → count_below n test ≡ 0
  unfolding count_below branch
  count_none_of n each = sum_none_of (λ i. branch (test i) 1 0) n (λ i l. rw (each i l))

-- ---- two sums

module _ (f g : ℕ → ℕ) where
  pub sum_same : (n : ℕ) → ((i : ℕ) → i < n → f i ≡ g i) → sum_below n f ≡ sum_below n g
  unfolding sum_below
  sum_same zero each = refl
  sum_same (suc n) each = ap₂ (λ (a b : ℕ). a + b) (sum_same n (λ i l. each i (le_step l))) (each n (le_refl (suc n)))

  -- each part by at most 1
  pub sum_each : (n : ℕ) → ((i : ℕ) → i < n → AtMostApart 1 (f i) (g i)) → AtMostApart n (sum_below n f) (sum_below n g)
  unfolding sum_below
  sum_each zero each = (omega arith, omega arith)
  sum_each (suc n) each =
      let rest = sum_each n (λ i l. each i (le_step l)) in
      let last = each n (le_refl (suc n)) in
      (omega (arith, rest.0, last.0), omega (arith, rest.1, last.1))

  -- one part alone
  pub sum_but_one : (most j n : ℕ) → ((i : ℕ) → i < n → (i ≡ j → ⊥) → f i ≡ g i) → AtMostApart most (f j) (g j) → AtMostApart most (sum_below n f) (sum_below n g)
  unfolding sum_below
  sum_but_one most j zero others one = (omega arith, omega arith)
  sum_but_one most j (suc n) others one = elim (ℕ_discrete n j) [
    | yes e ↦
        let rest = sum_same n (λ i l. others i (le_step l) (λ s. omega (arith, l, s, e))) in
        let here = ap f e in
        let there = ap g e in
        (omega (arith, rest, one.0, here, there), omega (arith, rest, one.1, here, there))
    | no ne ↦
        let rest = sum_but_one most j n (λ i l. others i (le_step l)) one in
        let last = others n (le_refl (suc n)) ne in
        (omega (arith, rest.0, last), omega (arith, rest.1, last))
  ]

-- ---- two counts

-- 1 or 0 each
bits_apart : (a b : Bool) → AtMostApart 1 (branch a 1 0) (branch b 1 0)
bits_apart a b = (omega (arith, one_most a), omega (arith, one_most b))

module _ (f g : ℕ → Bool) where
  pub count_same : (n : ℕ) → ((i : ℕ) → i < n → f i ≡ g i) → count_below n f ≡ count_below n g
  unfolding count_below
  count_same n each = sum_same (λ i. branch (f i) 1 0) (λ i. branch (g i) 1 0) n (λ i l. ap (λ (b : Bool). branch b 1 0) (each i l))

  -- a test that may differ at one number
  pub count_but_one : (j n : ℕ) → ((i : ℕ) → i < n → (i ≡ j → ⊥) → f i ≡ g i) → AtMostApart 1 (count_below n f) (count_below n g)
  unfolding count_below
  count_but_one j n others =
      sum_but_one (λ i. branch (f i) 1 0) (λ i. branch (g i) 1 0) 1 j n (λ i l ne. ap (λ (b : Bool). branch b 1 0) (others i l ne)) (bits_apart (f j) (g j))
