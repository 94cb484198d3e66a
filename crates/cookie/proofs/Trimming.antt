-- What trimming takes off: blanks from the front, and bytes that pass a test from the end.
use Rattle.prelude.proofs.Kit.{ℕ, ◌<◌, ◌+◌, ◌-◌, suc, zero, arith, true, Bool, false, not, cond, ◌&&◌, List, ◌∷◌, [], ◌++◌}
use Rattle.prelude.proofs.Kit.{◌≡◌, sym, ◌∙◌, refl, ap, length, take, drop, get_or, eqb, length-append, eqb·suc_zero, drop_of_length-le}
use lib.Seq.{take-suc, take-length}
use Rattle.std.specs.Prelude.{Option, Some, None, position}
use Rattle.std.specs.List.{position_or_len}
use Rattle.prelude.specs.Choice.{branch}
use Rattle.prelude.proofs.Lists.{rest_is}
use Rattle.cookie.specs.Parts.{is_blank, trim_start, trim_end}
use Rattle.cookie.proofs.Finding.{some_is, none_is}

-- ---- the front

abbrev pub is_other : ℕ → Bool
is_other x = not (is_blank x)

from_first : (text : List ℕ) → drop (position_or_len is_other text) text ≡ trim_start text
unfolding trim_start branch
from_first [] = refl
from_first (x ∷ xs) = go (is_blank x) (from_first xs)
  where
    go : (b : Bool) → drop (position_or_len is_other xs) xs ≡ trim_start xs
        → drop (cond (not (not b)) (1 + position_or_len is_other xs) 0) (x ∷ xs) ≡ branch b (trim_start xs) (x ∷ xs)
    go true e = let next : 1 + position_or_len is_other xs ≡ suc (position_or_len is_other xs) = omega arith in rw next e
    go false e = refl

module _ (text : List ℕ) (r : Option ℕ) (p : r ≡ position is_other text) where
  pub starts_at : {at : ℕ} → r ≡ Some at → take (length text - at) (drop at text) ≡ trim_start text
  starts_at {at} e = rest_is text at ∙ ap (λ (n : ℕ). drop n text) (some_is is_other text (sym p ∙ e)).1 ∙ from_first text

  pub starts_nowhere : r ≡ None → [] ≡ trim_start text
  starts_nowhere e = sym (drop_of_length-le text (none_is is_other text (sym p ∙ e))) ∙ from_first text

-- ---- the end, by any test

module _ (test : ℕ → Bool) where
  end_passes : (xs : List ℕ) (x : ℕ) → test x ≡ true → trim_end test (xs ++ (x ∷ [])) ≡ trim_end test xs
  unfolding trim_end branch
  end_passes [] x e = rw e
  end_passes (y ∷ ys) x e = rw (end_passes ys x e)

  end_stays : (xs : List ℕ) (x : ℕ) → test x ≡ false → trim_end test (xs ++ (x ∷ [])) ≡ xs ++ (x ∷ [])
  unfolding trim_end branch
  end_stays [] x e = rw e
  end_stays (y ∷ ys) x e = rw (end_stays ys x e) (go (test y) (length (ys ++ (x ∷ []))) (omega (arith, length-append ys (x ∷ []))))
    where
      go : (b : Bool) (n : ℕ) → 0 < n → branch (b && eqb n 0) [] (y ∷ (ys ++ (x ∷ []))) ≡ y ∷ (ys ++ (x ∷ []))
      go b zero l = absurd (omega (arith, l))
      go true (suc n) l = rw (eqb·suc_zero n)
      go false (suc n) l = refl

  -- the last byte passes, or stays
  module _ (text : List ℕ) (some : 0 < length text) where
    last : text ≡ take (length text - 1) text ++ (get_or text (length text - 1) 0 ∷ [])
    last =
        let one_less : length text ≡ suc (length text - 1) = omega (arith, some) in
        sym (take-length text) ∙ ap (λ (n : ℕ). take n text) one_less ∙ take-suc text (length text - 1) 0 (omega (arith, some))

    pub last_passes : test (get_or text (length text - 1) 0) ≡ true → trim_end test (take (length text - 1) text) ≡ trim_end test text
    last_passes e = sym (ap (trim_end test) last ∙ end_passes (take (length text - 1) text) (get_or text (length text - 1) 0) e)

    pub last_stays : test (get_or text (length text - 1) 0) ≡ false → trim_end test text ≡ text
    last_stays e = ap (trim_end test) last ∙ end_stays (take (length text - 1) text) (get_or text (length text - 1) 0) e ∙ sym last

  pub none_stays : (text : List ℕ) → length text ≡ 0 → trim_end test text ≡ text
  unfolding trim_end
  none_stays [] e = refl
  none_stays (x ∷ xs) e = absurd (omega (arith, e))
