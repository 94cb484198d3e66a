-- The laws of a choice, and of what a test keeps of a list.
use Rattle.prelude.proofs.Kit.{true, ◌&&◌, Bool, false, not, true≢false, false≢true, List, ◌∷◌, [], ◌++◌, map, ◌≡◌, sym, ◌∙◌, refl}
use Rattle.prelude.proofs.Kit.{ap, T, and_i, and_r, and_l, ◌≤◌, suc, arith, length}
use mathlib.Core.Logic.{◌⊎◌, inl, inr}
use mir.Val.{bool_byte}
use Rattle.prelude.specs.Choice.{branch, keep}

-- a test passes or fails
pub either : (b : Bool) → T b ⊎ T (not b)
either true = inl tt
either false = inr tt

pub is_true : (b : Bool) → T b → b ≡ true
is_true true t = refl
is_true false t = absurd t

pub is_false : (b : Bool) → T (not b) → b ≡ false
is_false true t = absurd t
is_false false t = refl

-- the test of a refusal that does not apply
pub passes : (b : Bool) → not b ≡ false → T b
passes true e = tt
passes false e = absurd (true≢false e)

-- for `search`: the conjuncts of a passed test, and a test joined of them
pub ruleset parts = (and_l, and_r)

pub ruleset joined = (and_l, and_r, and_i)

-- joined with a test, two others need to be equal only where it passes
pub and_alike : (x : Bool) {y z : Bool} → (T x → y ≡ z) → x && y ≡ x && z
and_alike true f = f tt
and_alike false f = refl

module _ {A : Type 0} where
  pub branch_true : (b : Bool) (x y : A) → T b → branch b x y ≡ x
  unfolding branch
  branch_true true x y t = refl
  branch_true false x y t = absurd t

  pub branch_false : (b : Bool) (x y : A) → T (not b) → branch b x y ≡ y
  unfolding branch
  branch_false true x y t = absurd t
  branch_false false x y t = refl

  -- a choice by tests that all pass, in two steps
  pub in_two : (a b c : Bool) (x y : A) → branch (a && (b && c)) x y ≡ branch (a && b) (branch c x y) y
  unfolding branch
  in_two true true c x y = refl
  in_two true false c x y = refl
  in_two false b c x y = refl

  -- what holds of either value, under its test, holds of the choice
  pub one : (P : A → Type 0) (b : Bool) {x y : A} → (T b → P x) → (T (not b) → P y) → P (branch b x y)
  unfolding branch
  one P true f g = f tt
  one P false f g = g tt

-- a truth value, as code adds it
pub as_digit : (b : Bool) → bool_byte b ≡ branch b 1 0
unfolding branch
as_digit true = refl
as_digit false = refl

-- what code that goes by a test's value has made, where the test passed and where it failed
pub chosen : {A : Type 0} (r b : Bool) (x y : A) {z : A} → r ≡ b → r ≡ true → z ≡ x → z ≡ branch b x y
unfolding branch
chosen r true x y e t q = q
chosen r false x y e t q = absurd (false≢true (sym e ∙ t))

pub left_out : {A : Type 0} (r b : Bool) (x y : A) {z : A} → r ≡ b → r ≡ false → z ≡ y → z ≡ branch b x y
unfolding branch
left_out r true x y e t q = absurd (true≢false (sym e ∙ t))
left_out r false x y e t q = q

-- two choices by equal tests, of values that may have other types
pub two : {A B : Type 0} (R : A → B → Type 0) (b c : Bool) {x y : A} {x' y' : B} → b ≡ c → (T b → R x x') → (T (not b) → R y y')
    → R (branch b x y) (branch c x' y')
unfolding branch
two R true true e f g = f tt
two R true false e f g = absurd (true≢false e)
two R false true e f g = absurd (false≢true e)
two R false false e f g = g tt

-- ---- lists

module _ {A : Type 0} (test : A → Bool) where
  pub keep_append : (xs ys : List A) → keep test (xs ++ ys) ≡ keep test xs ++ keep test ys
  unfolding keep branch
  keep_append [] ys = refl
  keep_append (x ∷ xs) ys = go (test x) (keep test xs) (keep test ys) (keep_append xs ys)
    where
      go : (b : Bool) {l : List A} (m n : List A) → l ≡ m ++ n → branch b (x ∷ l) l ≡ branch b (x ∷ m) m ++ n
      go true m n e = ap (λ (l : List A). x ∷ l) e
      go false m n e = e

  pub keep_one : (x : A) → T (test x) → keep test (x ∷ []) ≡ x ∷ []
  unfolding keep
  keep_one x t = branch_true (test x) (x ∷ []) [] t

  pub keep_none : (x : A) → T (not (test x)) → keep test (x ∷ []) ≡ []
  unfolding keep
  keep_none x t = branch_false (test x) (x ∷ []) [] t

  pub keep_short : (xs : List A) → length (keep test xs) ≤ length xs
  unfolding keep
  keep_short [] = omega arith
  keep_short (x ∷ xs) = let rest = keep_short xs in one (λ (l : List A). length l ≤ suc (length xs)) (test x) (λ _. omega (arith, rest)) (λ _. omega (arith, rest))

pub map_append : {A B : Type 0} (f : A → B) (xs ys : List A) → map f (xs ++ ys) ≡ map f xs ++ map f ys
map_append f [] ys = refl
map_append f (x ∷ xs) ys = ap (λ l. f x ∷ l) (map_append f xs ys)
