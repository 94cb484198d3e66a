-- Tests: "or", tests that pass alike, and the bounded tests "all below", "any below" and "find below", each turned into what it says of every
-- number, or of one, and back.
use Rattle.prelude.proofs.Kit.{ℕ, ◌≤◌, ◌<◌, ◌+◌, ◌*◌, suc, zero, add-zero, le_of_suc-le-suc, not-suc-le-zero, add-one, arith, true, ◌&&◌, Bool}
use Rattle.prelude.proofs.Kit.{false, not, ◌||◌, and_assoc, and-true, ⊎_elim, ◌≡◌, sym, refl, subst, T, and_i, and_r, and_l}
use native.Mathlib.Nat.{add-suc, le_refl, le_step, eq-or-lt_of_le}
use mathlib.Core.Bool.{and_comm}
use mathlib.Core.Logic.{◌⊎◌, inl, inr}
use Rattle.prelude.proofs.Choices.{either, is_true, is_false}
use Rattle.std.specs.List.{list_all, range_with_len}
use Rattle.labels.specs.Membership.{all_below, any_below, find_below}

pub or_cases : (x y : Bool) → T (x || y) → T x ⊎ T y
or_cases true y t = inl tt
or_cases false y t = inr t

pub or_l : (x y : Bool) → T x → T (x || y)
or_l true y t = tt
or_l false y t = absurd t

pub or_r : (x y : Bool) → T y → T (x || y)
or_r true y t = tt
or_r false y t = t

-- two tests that pass alike are equal
pub same : (x y : Bool) → (T x → T y) → (T y → T x) → x ≡ y
same true true f g = refl
same true false f g = absurd (f tt)
same false true f g = absurd (g tt)
same false false f g = refl

pub not_alike : (x y : Bool) → not x ≡ not y → x ≡ y
not_alike true true e = refl
not_alike true false e = sym e
not_alike false true e = sym e
not_alike false false e = refl

pub all_at : (n : ℕ) (test : ℕ → Bool) → T (all_below n test) → (a : ℕ) → a < n → T (test a)
unfolding all_below
all_at zero test t a h = absurd (not-suc-le-zero h)
all_at (suc n) test t a h =
    ⊎_elim (λ e. subst (λ (k : ℕ). T (test k)) (sym e) (and_l (test n) (all_below n test) t))
    (λ l. all_at n test (and_r (test n) (all_below n test) t) a l)
    (eq-or-lt_of_le (le_of_suc-le-suc h))

pub all_of : (n : ℕ) (test : ℕ → Bool) → ((a : ℕ) → a < n → T (test a)) → T (all_below n test)
unfolding all_below
all_of zero test f = tt
all_of (suc n) test f = and_i (test n) (all_below n test) (f n (le_refl (suc n))) (all_of n test (λ a l. f a (le_step l)))

-- a loop that asks one number after another
pub all_none : (test : ℕ → Bool) → true ≡ all_below 0 test
unfolding all_below
all_none test = refl

pub all_next : (n : ℕ) (test : ℕ → Bool) → test n && all_below n test ≡ all_below (n + 1) test
unfolding all_below
all_next n test = rw add-one refl

pub one_passed : (n : ℕ) (test : ℕ → Bool) → true ≡ test n → true ≡ all_below n test → true ≡ all_below (n + 1) test
one_passed n test e f = rw (← all_next n test, ← e, ← f)

-- and stops at the first that fails
pub one_failed : (k a : ℕ) (test : ℕ → Bool) → a < k → false ≡ test a → false ≡ all_below k test
one_failed k a test l e = same false (all_below k test) (λ t. absurd t) (λ t. subst T (sym e) (all_at k test t a l))

-- a loop that asks part after part: the first n, and the m that follow
all_parts : (m n : ℕ) (test : ℕ → Bool) → all_below m (λ i. test (n + i)) && all_below n test ≡ all_below (n + m) test
unfolding all_below
all_parts zero n test = rw (add-zero n)
all_parts (suc m) n test = rw (add-suc n m, and_assoc (test (n + m)), all_parts m n test)

pub part_passed : (m n : ℕ) (test : ℕ → Bool) → true ≡ all_below m (λ i. test (n + i)) → true ≡ all_below n test → true ≡ all_below (n + m) test
part_passed m n test e f = rw (← all_parts m n test, ← e, ← f)

pub part_failed : (k m n : ℕ) (test : ℕ → Bool) → n + m ≤ k → false ≡ all_below m (λ i. test (n + i)) → false ≡ all_below k test
part_failed k m n test l e =
    same false (all_below k test) (λ t. absurd t) (λ t. subst T (sym e) (all_of m (λ i. test (n + i)) (λ i h. all_at k test t (n + i) (omega arith))))

-- parts of n tests each
pub grouped : (m n : ℕ) (test : ℕ → Bool) → all_below m (λ g. all_below n (λ i. test (n * g + i))) ≡ all_below (n * m) test
unfolding all_below
grouped zero n test = let none : n * 0 ≡ 0 = omega arith in rw none refl
grouped (suc m) n test = let more : n * suc m ≡ n * m + n = omega arith in rw (more, grouped m n test) (all_parts n (n * m) test)

-- `all` over a range
pub ranged : (n a : ℕ) (test f : ℕ → Bool) → ((i : ℕ) → i < n → test (a + i) ≡ f i) → list_all test (range_with_len a n) ≡ all_below n f
ranged n a test f e =
    same (list_all test (range_with_len a n)) (all_below n f) (λ t. all_of n f (λ i l. subst T (e i l) (each n a t i l)))
    (λ t. whole n a (λ i l. subst T (sym (e i l)) (all_at n f t i l)))
  where
    each : (n a : ℕ) → T (list_all test (range_with_len a n)) → (i : ℕ) → i < n → T (test (a + i))
    each zero a t i l = absurd (not-suc-le-zero l)
    each (suc n) a t zero l = rw (add-zero a) (and_l (test a) _ t)
    each (suc n) a t (suc i) l = let next : a + suc i ≡ a + 1 + i = omega arith in rw next (each n (a + 1) (and_r (test a) _ t) i (le_of_suc-le-suc l))

    whole : (n a : ℕ) → ((i : ℕ) → i < n → T (test (a + i))) → T (list_all test (range_with_len a n))
    whole zero a h = tt
    whole (suc n) a h =
        and_i (test a) _ (rw add-zero at (h zero (omega arith)))
        (whole n (a + 1) (λ i l. let next : a + 1 + i ≡ a + suc i = omega arith in rw next (h (suc i) (omega (arith, l)))))

-- four tests from n on: code asks the first one first, and the definition the last
pub four : (n : ℕ) (test : ℕ → Bool) → ((test n && test (n + 1)) && test (n + 2)) && test (n + 3) ≡ all_below 4 (λ i. test (n + i))
unfolding all_below
four n test =
    rw (add-zero n, and-true, and_comm (test n) (test (n + 1)), and_comm (test (n + 1) && test n) (test (n + 2)))
    (and_comm (test (n + 2) && (test (n + 1) && test n)) (test (n + 3)))

pub all_eight : (test : ℕ → Bool) → test 0 ≡ true → test 1 ≡ true → test 2 ≡ true → test 3 ≡ true → test 4 ≡ true → test 5 ≡ true → test 6 ≡ true → test 7 ≡ true → all_below 8 test ≡ true
unfolding all_below
all_eight test a b c d e f g h = rw (a, b, c, d, e, f, g, h)

-- eight tests from n on, two by two
pub eight : (n : ℕ) (test : ℕ → Bool)
    → (((test n && test (n + 1)) && (test (n + 2) && test (n + 2 + 1))) && (test (n + 4) && test (n + 4 + 1))) && (test (n + 6) && test (n + 6 + 1)) ≡ all_below 8 (λ i. test (n + i))
unfolding all_below
eight n test =
    let third : n + 2 + 1 ≡ n + 3 = omega arith in
    let fifth : n + 4 + 1 ≡ n + 5 = omega arith in
    let seventh : n + 6 + 1 ≡ n + 7 = omega arith in
    rw (third, fifth, seventh, add-zero n, and-true (test n))
    (last_first (test n) (test (n + 1)) (test (n + 2)) (test (n + 3)) (test (n + 4)) (test (n + 5)) (test (n + 6)) (test (n + 7)))
  where
    last_first : (a b c d e f g h : Bool) → (((a && b) && (c && d)) && (e && f)) && (g && h) ≡ h && (g && (f && (e && (d && (c && (b && a))))))
    last_first a b c d e f g h =
        same ((((a && b) && (c && d)) && (e && f)) && (g && h)) (h && (g && (f && (e && (d && (c && (b && a))))))) (λ t. search (and_l, and_r, and_i) depth 9) (λ t. search (and_l, and_r, and_i) depth 9)

pub any_of : (n : ℕ) (test : ℕ → Bool) (a : ℕ) → a < n → T (test a) → T (any_below n test)
unfolding any_below
any_of zero test a h t = absurd (not-suc-le-zero h)
any_of (suc n) test a h t =
    ⊎_elim (λ e. or_l (test n) (any_below n test) (subst (λ (k : ℕ). T (test k)) e t))
    (λ l. or_r (test n) (any_below n test) (any_of n test a l t))
    (eq-or-lt_of_le (le_of_suc-le-suc h))

pub any_at : (n : ℕ) (test : ℕ → Bool) → T (any_below n test) → (a : ℕ) × (a < n) × T (test a)
unfolding any_below
any_at zero test t = absurd t
any_at (suc n) test t =
    ⊎_elim (λ here. (n, le_refl (suc n), here))
    (λ below. let w = any_at n test below in (w.0, le_step w.1, w.2))
    (or_cases (test n) (any_below n test) t)

-- no number passes, or the one that is found does
pub found : (n : ℕ) (test : ℕ → Bool) (none : ℕ)
    → (((a : ℕ) → a < n → T (not (test a))) × (find_below n test none ≡ none)) ⊎ ((find_below n test none < n) × T (test (find_below n test none)))
unfolding find_below
found zero test none = inl ((λ a l. absurd (not-suc-le-zero l)), refl)
found (suc n) test none =
    ⊎_elim (λ t. inr (rw (is_true (test n) t) (le_refl (suc n), t)))
    (λ t. rw (is_false (test n) t) (⊎_elim
    (λ below. inl ((λ a l. ⊎_elim (λ e. subst (λ (k : ℕ). T (not (test k))) (sym e) t) (below.0 a) (eq-or-lt_of_le (le_of_suc-le-suc l))), below.1))
    (λ below. inr (le_step below.0, below.1))
    (found n test none)))
    (either (test n))
