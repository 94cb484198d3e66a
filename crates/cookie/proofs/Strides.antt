-- Strides that do not have a byte are passed: before the first that has it, it stands nowhere.
use Rattle.prelude.proofs.Kit.{ℕ, ◌≤◌, ◌<◌, ◌+◌, ◌-◌, ◌*◌, suc, zero, arith, true, Bool, false, not, cond, List, ◌∷◌, []}
use Rattle.prelude.proofs.Kit.{◌≡◌, sym, ◌∙◌, refl, ap, length, length-drop, take, drop, get_or, eqb, ltb, T, ⊎_elim, ltb→lt}
use Rattle.prelude.proofs.Choices.{either}
use lib.Dec.{nltb→le}
use lib.ListN.{length-take}
use Rattle.std.specs.Prelude.{Option, Some, None, position}
use Rattle.std.specs.List.{position_or_len, list_any}
use Rattle.std.specs.Option.{unwrap_or}
use Rattle.std.specs.Simd.{first_chunks}
use Rattle.std.proofs.lemmas.List.{get_or-take, get_or-drop}
use Rattle.std.proofs.lemmas.List.Sums.{prefix_len-le-length, position_or_len_is, fails_before_first, passes_at_first}
use Rattle.prelude.proofs.Lists.{rest_is}
use Rattle.cookie.proofs.Finding.{some_is, none_is, is_some, is_none}
use Rattle.cookie.specs.Parts.{stride, StridesLack}

no_some : (r : Option ℕ) → ((at : ℕ) → r ≡ Some at → ⊥) → r ≡ None
no_some None none = refl
no_some (Some at) none = absurd (none at refl)

-- where an element is first, or the length
pub at_or_end : {A : Type 0} (p : A → Bool) (xs : List A) → unwrap_or (position p xs) (length xs) ≡ position_or_len p xs
at_or_end p xs = grind (arith, prefix_len-le-length (λ x. not (p x)) xs)

module _ (byte : ℕ) where
  abbrev is : ℕ → Bool
  is x = eqb x byte

  length_chunks : (count : ℕ) (text : List ℕ) → length (first_chunks stride count text) ≡ count
  length_chunks zero text = refl
  length_chunks (suc count) text = ap suc (length_chunks count (drop stride text))

  none_at : (xs : List ℕ) (k : ℕ) → list_any is xs ≡ false → k < length xs → is (get_or xs k 0) ≡ false
  none_at [] k e l = absurd (omega (arith, l))
  none_at (x ∷ xs) zero e l = grind (arith, e)
  none_at (x ∷ xs) (suc k) e l = none_at xs k (grind (arith, e)) (omega (arith, l))

  passed : (count : ℕ) (text : List ℕ) (k : ℕ) → count * stride ≤ length text
      → k < position_or_len (list_any is) (first_chunks stride count text) * stride → is (get_or text k 0) ≡ false
  passed zero text k l h = absurd (omega (arith, h))
  passed (suc count) text k l h = go (list_any is (take stride text)) refl h (passed count (drop stride text) (k - stride) (omega (arith, l, length-drop stride text)))
    where
      go : (b : Bool) → list_any is (take stride text) ≡ b
          → k < cond (not b) (1 + position_or_len (list_any is) (first_chunks stride count (drop stride text))) 0 * stride
          → (k - stride < position_or_len (list_any is) (first_chunks stride count (drop stride text)) * stride → is (get_or (drop stride text) (k - stride) 0) ≡ false)
          → is (get_or text k 0) ≡ false
      go true e h later = absurd (omega (arith, h))
      go false e h later = ⊎_elim near far (either (ltb k stride))
        where
          near : T (ltb k stride) → is (get_or text k 0) ≡ false
          near t =
              let m = ltb→lt k stride t in
              rw (← get_or-take stride text k 0 m) (none_at (take stride text) k e (omega (arith, m, l, length-take stride text)))

          far : T (not (ltb k stride)) → is (get_or text k 0) ≡ false
          far t =
              let m = nltb→le k stride t in
              let j : stride + (k - stride) ≡ k = omega (arith, m) in
              ap (λ (i : ℕ). is (get_or text i 0)) (sym j) ∙ ap is (sym (get_or-drop stride text (k - stride) 0))
              ∙ later (omega (arith, m, h))

  pub strides_lack : (text : List ℕ) (count : ℕ) (chunks : List (List ℕ)) → chunks ≡ first_chunks stride count text → count * stride ≤ length text
      → (r : Option ℕ) → r ≡ position (list_any is) chunks → (n : ℕ) → n ≡ unwrap_or r (length chunks) → StridesLack byte text n
  strides_lack text count chunks f l r p n e =
      let all = first_chunks stride count text in
      let is_n : n ≡ position_or_len (list_any is) all = e ∙ ap (λ r. unwrap_or r (length chunks)) p ∙ at_or_end (list_any is) chunks ∙ ap (position_or_len (list_any is)) f in
      record {
        within = omega (arith, l, is_n, prefix_len-le-length (λ x. not (list_any is x)) all, length_chunks count text);
        lack = λ k h. passed count text k l (omega (arith, h, is_n));
      }

  -- ---- a text after bytes that are all others

  skipped : (n : ℕ) (text : List ℕ) → n ≤ length text → ((k : ℕ) → k < n → is (get_or text k 0) ≡ false)
      → position_or_len is text ≡ n + position_or_len is (drop n text)
  skipped zero text l none = omega arith
  skipped (suc n) [] l none = absurd (omega (arith, l))
  skipped (suc n) (x ∷ xs) l none = rw (none 0 (omega arith)) (omega (arith, skipped n xs (omega (arith, l)) (λ k h. none (suc k) (omega (arith, h)))))

  module _ (text near far : List ℕ) (front : near ≡ take stride text) (back : far ≡ drop stride text) (long : stride < length text) where
    near_at : {b : Bool} (k : ℕ) → k < stride → is (get_or near k 0) ≡ b → is (get_or text k 0) ≡ b
    near_at k h e = ap is (sym (get_or-take stride text k 0 h)) ∙ rw (← front) e

    -- near
    pub found_near : (r : Option ℕ) → {at : ℕ} → r ≡ position is near → r ≡ Some at → Some at ≡ position is text
    found_near r {at} p e =
        let i = some_is is near (sym p ∙ e) in
        let l : at < stride = omega (arith, i.0, ap length front, length-take stride text) in
        is_some is text (position_or_len_is is text at 0 (omega (arith, l, long))
        (λ k h. near_at k (omega (arith, h, l)) (fails_before_first is near k 0 (omega (arith, h, i.1))))
        (λ h. near_at at l (ap (λ n. is (get_or near n 0)) i.1 ∙ passes_at_first is near 0 (omega (arith, i.0, i.1)))))
        (omega (arith, l, long))

    -- or far, after strides that do not have it
    module _ (r : Option ℕ) (p : r ≡ position is near) (none : (at : ℕ) → r ≡ Some at → ⊥) {n : ℕ} (s : StridesLack byte far n) where
      pub passed_within : stride + stride * n ≤ length text
      passed_within = omega (arith, s.within, ap length back, length-drop stride text, long)

      none_before : (k : ℕ) → k < stride + stride * n → is (get_or text k 0) ≡ false
      none_before k h = ⊎_elim at_near at_far (either (ltb k stride))
        where
          at_near : T (ltb k stride) → is (get_or text k 0) ≡ false
          at_near t =
              let m = ltb→lt k stride t in
              near_at k m (fails_before_first is near k 0 (omega (arith, m, none_is is near (sym p ∙ no_some r none), ap length front, length-take stride text, long)))

          at_far : T (not (ltb k stride)) → is (get_or text k 0) ≡ false
          at_far t =
              let m = nltb→le k stride t in
              let j : stride + (k - stride) ≡ k = omega (arith, m) in
              ap (λ (i : ℕ). is (get_or text i 0)) (sym j) ∙ ap is (sym (get_or-drop stride text (k - stride) 0))
              ∙ (rw back at s.lack (k - stride) (omega (arith, m, h)))

      first_far : position_or_len is text ≡ (stride + stride * n) + position_or_len is (drop (stride + stride * n) text)
      first_far = skipped (stride + stride * n) text passed_within none_before

      pub found_far : (q : Option ℕ) → {at : ℕ} → q ≡ position is (take (length text - (stride + stride * n)) (drop (stride + stride * n) text)) → q ≡ Some at
          → Some ((stride + stride * n) + at) ≡ position is text
      found_far q {at} e f =
          let i = some_is is (drop (stride + stride * n) text) (ap (position is) (sym (rest_is text (stride + stride * n))) ∙ sym e ∙ f) in
          is_some is text (first_far ∙ ap (λ m. stride + stride * n + m) (sym i.1)) (omega (arith, i.0, length-drop (stride + stride * n) text))

      pub found_nowhere : (q : Option ℕ) → q ≡ position is (take (length text - (stride + stride * n)) (drop (stride + stride * n) text)) → q ≡ None
          → None ≡ position is text
      found_nowhere q e f =
          let l = none_is is (drop (stride + stride * n) text) (ap (position is) (sym (rest_is text (stride + stride * n))) ∙ sym e ∙ f) in
          is_none is text (omega (arith, l, first_far, length-drop (stride + stride * n) text))
