-- Where a byte first stands tells what is before it and after it, and whether it stands there at all.
use Rattle.prelude.proofs.Kit.{ℕ, ◌≤◌, ◌<◌, ◌+◌, ◌-◌, suc, arith, true, Bool, false, not, cond, ◌||◌, List, ◌∷◌, []}
use Rattle.prelude.proofs.Kit.{◌≡◌, sym, ◌∙◌, refl, ap, length, take, drop, eqb, ltb, lt-ltb, le-ltb, ltb→lt, T, subst, take_all}
use lib.Dec.{leb-suc-suc, nltb→le}
use Rattle.std.specs.Prelude.{Some, None, position}
use Rattle.std.specs.List.{position_or_len}
use Rattle.std.proofs.lemmas.Option.{same_Some, none-some}
use Rattle.prelude.specs.Choice.{branch}
use Rattle.prelude.proofs.Lists.{rest_is}
use Rattle.cookie.specs.Parts.{has, before, after, behind}

-- ---- what `position` says

module _ {A : Type 0} (p : A → Bool) (xs : List A) where
  pub some_is : {at : ℕ} → position p xs ≡ Some at → (at < length xs) × (at ≡ position_or_len p xs)
  some_is e = go (ltb (position_or_len p xs) (length xs)) (ltb→lt (position_or_len p xs) (length xs)) e
    where
      go : {at : ℕ} (b : Bool) → (T b → position_or_len p xs < length xs) → cond b (Some (position_or_len p xs)) None ≡ Some at
          → (at < length xs) × (at ≡ position_or_len p xs)
      go true l e = (subst (λ (n : ℕ). n < length xs) (same_Some _ _ e) (l tt), sym (same_Some _ _ e))
      go false l e = absurd (none-some _ e)

  pub none_is : position p xs ≡ None → length xs ≤ position_or_len p xs
  none_is e = go (ltb (position_or_len p xs) (length xs)) (nltb→le (position_or_len p xs) (length xs)) e
    where
      go : (b : Bool) → (T (not b) → length xs ≤ position_or_len p xs) → cond b (Some (position_or_len p xs)) None ≡ None → length xs ≤ position_or_len p xs
      go true l e = absurd (none-some _ (sym e))
      go false l e = l tt

  pub is_some : {at : ℕ} → position_or_len p xs ≡ at → at < length xs → Some at ≡ position p xs
  is_some e l = rw (e, lt-ltb _ _ l)

  pub is_none : length xs ≤ position_or_len p xs → None ≡ position p xs
  is_none l = rw (le-ltb _ _ l)

-- ---- a byte

module _ (byte : ℕ) where
  abbrev pub is : ℕ → Bool
  is x = eqb x byte

  pub first_is : (text : List ℕ) → position_or_len is text ≡ length (before byte text)
  unfolding before branch
  first_is [] = refl
  first_is (x ∷ xs) = go (eqb x byte) (first_is xs)
    where
      go : (b : Bool) → position_or_len is xs ≡ length (before byte xs)
          → cond (not b) (1 + position_or_len is xs) 0 ≡ length (branch b [] (x ∷ before byte xs))
      go true e = refl
      go false e = omega (arith, e)

  pub before_most : (text : List ℕ) → length (before byte text) ≤ length text
  unfolding before branch
  before_most [] = omega arith
  before_most (x ∷ xs) = go (eqb x byte) (before_most xs)
    where
      go : (b : Bool) → length (before byte xs) ≤ length xs → length (branch b [] (x ∷ before byte xs)) ≤ suc (length xs)
      go true l = omega arith
      go false l = omega (arith, l)

  pub before_is : (text : List ℕ) → take (length (before byte text)) text ≡ before byte text
  unfolding before branch
  before_is [] = refl
  before_is (x ∷ xs) = go (eqb x byte) (before_is xs)
    where
      go : (b : Bool) → take (length (before byte xs)) xs ≡ before byte xs
          → take (length (branch b [] (x ∷ before byte xs))) (x ∷ xs) ≡ branch b [] (x ∷ before byte xs)
      go true e = refl
      go false e = ap (λ (l : List ℕ). x ∷ l) e

  pub after_is : (text : List ℕ) → drop (length (before byte text) + 1) text ≡ after byte text
  unfolding before after branch
  after_is [] = refl
  after_is (x ∷ xs) = go (eqb x byte) (after_is xs)
    where
      go : (b : Bool) → drop (length (before byte xs) + 1) xs ≡ after byte xs
          → drop (length (branch b [] (x ∷ before byte xs)) + 1) (x ∷ xs) ≡ branch b xs (after byte xs)
      go true e = refl
      go false e = let next : suc (length (before byte xs)) + 1 ≡ suc (length (before byte xs) + 1) = omega arith in rw next e

  -- it stands in the text just where what is before it is shorter
  pub has_is : (text : List ℕ) → has byte text ≡ ltb (length (before byte text)) (length text)
  unfolding has before branch
  has_is [] = refl
  has_is (x ∷ xs) = go (eqb x byte) (has_is xs)
    where
      go : (b : Bool) → has byte xs ≡ ltb (length (before byte xs)) (length xs)
          → b || has byte xs ≡ ltb (length (branch b [] (x ∷ before byte xs))) (suc (length xs))
      go true e = sym (lt-ltb 0 (suc (length xs)) (omega arith))
      go false e = e ∙ sym (leb-suc-suc (suc (length (before byte xs))) (length xs))

  -- at the place that was found, where one was
  module _ (text : List ℕ) {at : ℕ} (e : position is text ≡ Some at) where
    at_is : (at < length text) × (at ≡ length (before byte text))
    at_is = let i = some_is is text e in (i.0, i.1 ∙ first_is text)

    pub found_within : at < length text
    found_within = at_is.0

    pub found_front : take at text ≡ before byte text
    found_front = ap (λ (n : ℕ). take n text) at_is.1 ∙ before_is text

    pub found_behind : Some (take (length text - (at + 1)) (drop (at + 1) text)) ≡ behind byte text
    found_behind =
        rw (rest_is text (at + 1), has_is text, lt-ltb (length (before byte text)) (length text) (omega (arith, at_is.0, at_is.1)))
        (ap (λ (n : ℕ). Some (drop (n + 1) text)) at_is.1 ∙ ap Some (after_is text))

  module _ (text : List ℕ) (e : position is text ≡ None) where
    at_end : length text ≤ length (before byte text)
    at_end = subst (λ (n : ℕ). length text ≤ n) (first_is text) (none_is is text e)

    pub none_front : text ≡ before byte text
    none_front = sym (take_all (length (before byte text)) text at_end) ∙ before_is text

    pub none_behind : None ≡ behind byte text
    none_behind = rw (has_is text, le-ltb _ _ at_end)
