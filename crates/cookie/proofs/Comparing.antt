-- A text is compared with a word letter by letter, in any case, and a field with a name up to its first zero.
use Rattle.prelude.proofs.Kit.{ℕ, ◌+◌, suc, not, cond, take, arith, true, Bool, false, ◌&&◌, List, ◌∷◌, [], map, ◌≡◌, sym, ◌∙◌, refl, ap, ap₂, length, eqb}
use mathlib.Core.Bool.{and-false}
use Rattle.std.specs.Char.{to_ascii_lowercase}
use Rattle.std.specs.List.{list_all, zip, prefix_len}
use Rattle.prelude.specs.Choice.{branch}
use Rattle.prelude.specs.Lists.{same_numbers}
use Rattle.cookie.specs.Parts.{lower, before, is_word}

other_length : (xs ys : List ℕ) → (length xs ≡ length ys → ⊥) → same_numbers xs ys ≡ false
unfolding same_numbers
other_length [] [] ne = absurd (ne refl)
other_length [] (y ∷ ys) ne = refl
other_length (x ∷ xs) [] ne = refl
other_length (x ∷ xs) (y ∷ ys) ne = rw (other_length xs ys (λ e. ne (ap suc e)), and-false)

lowered : (x : ℕ) → to_ascii_lowercase x ≡ lower x
lowered x = grind arith

lowered_long : (text : List ℕ) → length (map lower text) ≡ length text
lowered_long [] = refl
lowered_long (x ∷ xs) = ap suc (lowered_long xs)

abbrev pub letters : ℕ × ℕ → Bool
letters p = eqb (to_ascii_lowercase p.0) p.1

pub is_word_by_letters : (text word : List ℕ) → length text ≡ length word → list_all letters (zip text word) ≡ is_word word text
unfolding is_word same_numbers
is_word_by_letters [] [] e = refl
is_word_by_letters [] (y ∷ ys) e = absurd (omega (arith, e))
is_word_by_letters (x ∷ xs) [] e = absurd (omega (arith, e))
is_word_by_letters (x ∷ xs) (y ∷ ys) e = ap₂ ◌&&◌ (ap (λ z. eqb z y) (lowered x)) (is_word_by_letters xs ys (omega (arith, e)))

pub is_word_not : (text word : List ℕ) → (length text ≡ length word → ⊥) → false ≡ is_word word text
unfolding is_word
is_word_not text word ne = sym (other_length (map lower text) word (λ e. ne (sym (lowered_long text) ∙ e)))

-- a name ends before its first zero
abbrev pub is_some : ℕ → Bool
is_some x = not (eqb x 0)

pub up_to_zero : (field : List ℕ) → take (prefix_len is_some field) field ≡ before 0 field
unfolding before branch
up_to_zero [] = refl
up_to_zero (x ∷ xs) = go (eqb x 0) (up_to_zero xs)
  where
    go : (b : Bool) → take (prefix_len is_some xs) xs ≡ before 0 xs
        → take (cond (not b) (1 + prefix_len is_some xs) 0) (x ∷ xs) ≡ branch b [] (x ∷ before 0 xs)
    go true e = refl
    go false e = let next : 1 + prefix_len is_some xs ≡ suc (prefix_len is_some xs) = omega arith in rw next (ap (λ l. x ∷ l) e)
