-- What holds of each element of a list.
use Rattle.prelude.proofs.Kit.{ℕ, ◌<◌, suc, zero, zero-lt-suc, Bool, List, ◌∷◌, [], ◌++◌, map, T, and_i, length, take, drop, get_or, set}
use Prim.Native.Nat.{suc-le-suc}
use Rattle.prelude.specs.Choice.{keep, every}
use Rattle.prelude.proofs.Choices.{one}

abbrev pub Each : {A : Type 0} → (A → Type 0) → List A → Type 0
Each P [] = Unit {0}
Each P (x ∷ xs) = P x × Each P xs

module _ {A : Type 0} (P : A → Type 0) where
  pub each_append : (xs ys : List A) → Each P xs → Each P ys → Each P (xs ++ ys)
  each_append [] ys all rest = rest
  each_append (x ∷ xs) ys all rest = (all.0, each_append xs ys all.1 rest)

  pub each_take : (n : ℕ) (xs : List A) → Each P xs → Each P (take n xs)
  each_take zero xs all = tt
  each_take (suc n) [] all = tt
  each_take (suc n) (x ∷ xs) all = (all.0, each_take n xs all.1)

  pub each_drop : (n : ℕ) (xs : List A) → Each P xs → Each P (drop n xs)
  each_drop zero xs all = all
  each_drop (suc n) [] all = tt
  each_drop (suc n) (x ∷ xs) all = each_drop n xs all.1

  pub each_map : {B : Type 0} (f : B → A) (ys : List B) → Each (λ y. P (f y)) ys → Each P (map f ys)
  each_map f [] all = tt
  each_map f (y ∷ ys) all = (all.0, each_map f ys all.1)

  pub each_keep : (test : A → Bool) (xs : List A) → Each P xs → Each P (keep test xs)
  unfolding keep
  each_keep test [] all = tt
  each_keep test (x ∷ xs) all = let rest = each_keep test xs all.1 in one (Each P) (test x) (λ _. (all.0, rest)) (λ _. rest)

  pub each_set : (xs : List A) (i : ℕ) (v : A) → P v → Each P xs → Each P (set xs i v)
  each_set [] i v q all = tt
  each_set (x ∷ xs) zero v q all = (q, all.1)
  each_set (x ∷ xs) (suc i) v q all = (all.0, each_set xs i v q all.1)

  -- to and from the places of a list
  pub each_at : (d : A) → P d → (xs : List A) → Each P xs → (i : ℕ) → P (get_or xs i d)
  each_at d q [] all i = q
  each_at d q (x ∷ xs) all zero = all.0
  each_at d q (x ∷ xs) all (suc i) = each_at d q xs all.1 i

  pub each_of : (d : A) (xs : List A) → ((i : ℕ) → i < length xs → P (get_or xs i d)) → Each P xs
  each_of d [] f = tt
  each_of d (x ∷ xs) f = (f 0 (zero-lt-suc (length xs)), each_of d xs (λ i l. f (suc i) (suc-le-suc l)))

-- what each element passes, all pass
pub each_every : {A : Type 0} (test : A → Bool) (xs : List A) → Each (λ x. T (test x)) xs → T (every test xs)
unfolding every
each_every test [] all = tt
each_every test (x ∷ xs) all = and_i (test x) (every test xs) all.0 (each_every test xs all.1)
