-- What iterators over a range answer, by the sums, counts and lists of the definitions.
use Rattle.std.proofs.Common.{ℕ, zero, suc, ◌+◌, ◌<◌, ◌≤◌, arith, Bool, List, [], ◌∷◌, ◌++◌, map, sum, take, get_or, length, ◌≡◌, sym, ◌∙◌, refl, ap, zero-add, add-zero, add-one}
use Rattle.std.specs.List.{range_with_len, sum_by}
use Rattle.std.specs.Array.{IsFromFnResult, IsFromFnResultFrom}
use Rattle.std.specs.Fn.{Called, Mut}
use Rattle.std.proofs.lemmas.List.Sums.{sum_by_push, sum_by_more}
use Rattle.prelude.proofs.Kit.{ap₂, subst, ℕ_discrete, take_all}
use native.Mathlib.Nat.{le_refl}
use mir.Val.{bool_byte}
use Rattle.prelude.specs.Choice.{branch}
use Rattle.prelude.proofs.Choices.{as_digit}
use Rattle.prelude.specs.Lists.{numbers}
use Rattle.prelude.specs.Sums.{sum_below, count_below}
use Rattle.prelude.proofs.Lists.{filling_ends}
use Rattle.prelude.proofs.Sums.{sum_same, count_most}

range_more : (a n : ℕ) → range_with_len a (suc n) ≡ range_with_len a n ++ ((a + n) ∷ [])
range_more a zero = ap (λ k. k ∷ []) (sym (add-zero a))
range_more a (suc n) =
    let last : a + 1 + n ≡ a + suc n = omega arith in
    ap (λ l. a ∷ l) (range_more (a + 1) n ∙ ap (λ k. range_with_len (a + 1) n ++ (k ∷ [])) last)

sum_is : (f : ℕ → ℕ) (n : ℕ) → sum_by f (range_with_len 0 n) ≡ sum_below n f
unfolding sum_below
sum_is f zero = refl
sum_is f (suc n) = ap (sum_by f) (range_more 0 n) ∙ sum_by_push f (range_with_len 0 n) (0 + n) ∙ ap₂ (λ (a b : ℕ). a + b) (sum_is f n) (ap f (zero-add n))

module _ (test : ℕ → Bool) (n : ℕ) where
  -- a truth value for each number, as code adds them
  pub digits_are : sum_by (λ i. bool_byte (test i)) (range_with_len 0 n) ≡ count_below n test
  unfolding count_below
  digits_are = sum_is (λ i. bool_byte (test i)) n ∙ sum_same (λ i. bool_byte (test i)) (λ i. branch (test i) 1 0) n (λ i l. as_digit (test i))

  pub digits_most : sum_by (λ i. bool_byte (test i)) (range_with_len 0 n) ≤ n
  digits_most = omega (arith, digits_are, count_most test n)

module _ (xs : List ℕ) where
  upto : (i : ℕ) → i ≤ length xs → sum (take i xs) ≡ sum_below i (λ n. get_or xs n 0)
  unfolding sum_below
  upto zero l = refl
  upto (suc i) l =
      ap (λ k. sum (take k xs)) (sym (add-one i)) ∙ sum_by_more (λ x. x) xs i 0 (omega (arith, l)) ∙ ap (λ s. s + get_or xs i 0) (upto i (omega (arith, l)))

  pub total_is : sum xs ≡ sum_below (length xs) (λ n. get_or xs n 0)
  total_is = ap sum (sym (take_all (length xs) xs (le_refl (length xs)))) ∙ upto (length xs) (le_refl (length xs))

module _ {F : Type 0} (g : Mut F (ℕ × Unit {0}) ℕ) (f : F) (ys : List ℕ) (h : ℕ → ℕ) (each : (i y : ℕ) (q : F) → Called g f (i, tt) y q → (q ≡ f) × (y ≡ h i)) where
  from_here : (i m : ℕ) → IsFromFnResultFrom g f ys i m → (k : ℕ) → i ≤ k → k < i + m → get_or ys k 0 ≡ h k
  from_here i zero r k a b = absurd (omega (arith, a, b))
  from_here i (suc m) (q, y, at, called, rest) k a b =
      let (same, is) = each i y q called in
      elim (ℕ_discrete k i) [
        | yes e ↦ rw e (at.1 0 ∙ is)
        | no ne ↦ from_here (i + 1) m (subst (λ (x : F). IsFromFnResultFrom g x ys (i + 1) m) same rest) k (omega (arith, a, ne)) (omega (arith, b))
      ]

  -- an array that a closure fills
  pub filled_is : (n : ℕ) → IsFromFnResult g f ys n → ys ≡ map h (numbers 0 n)
  filled_is n r = filling_ends h n ys n refl (record { below = le_refl n; long = r.long; filled = λ k l. from_here 0 n r.each k (omega arith) (omega (arith, l)) })
