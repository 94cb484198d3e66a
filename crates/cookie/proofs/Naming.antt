-- A name that is not empty is compared with a key's name and nothing else.
use Rattle.prelude.proofs.Kit.{ℕ, ◌<◌, ◌+◌, ◌*◌, ◌/◌, suc, zero, arith, true, not, ◌&&◌, Bool, List, ◌∷◌, [], ◌≡◌, sym, ◌∙◌, refl, ap, subst, T, length, take, drop, drop-drop, get_or, ne_eqb, eqb·suc_zero}
use Rattle.std.specs.Prelude.{Option, Some, None, position}
use Rattle.std.specs.Simd.{first_chunks}
use Rattle.std.proofs.lemmas.List.Sums.{fails_before_first, passes_at_first}
use Rattle.prelude.proofs.Lowest.{lowest_is, lowest_none}
use Rattle.machine.specs.Policy.{host_keys}
use Rattle.cookie.specs.Parts.{before}
use Rattle.prelude.specs.Lists.{is_empty, same_numbers}
use Rattle.cookie.specs.Import.{name_bytes, names_bytes, key_name, is_named, key_named, key_of_name}
use Rattle.cookie.proofs.Finding.{some_is, none_is}

module _ (names name : List ℕ) where
  pub named_is : 0 < length name → (k : ℕ) → is_named names name k ≡ same_numbers (key_name names k) name
  unfolding same_numbers
  named_is p k = go (key_name names k) name p
    where
      go : (xs ys : List ℕ) → 0 < length ys → not (is_empty xs) && same_numbers xs ys ≡ same_numbers xs ys
      go xs [] p = absurd (omega (arith, p))
      go [] (y ∷ ys) p = refl
      go (x ∷ xs) (y ∷ ys) p = rw (eqb·suc_zero (length xs))

field_at : (count : ℕ) (names : List ℕ) (k : ℕ) → k < count → get_or (first_chunks name_bytes count names) k [] ≡ take name_bytes (drop (k * name_bytes) names)
field_at zero names k l = absurd (omega (arith, l))
field_at (suc count) names zero l = refl
field_at (suc count) names (suc k) l =
    let next : name_bytes + k * name_bytes ≡ suc k * name_bytes = omega arith in
    field_at count (drop name_bytes names) k (omega (arith, l)) ∙ ap (take name_bytes) (drop-drop (k * name_bytes) name_bytes names ∙ ap (λ (n : ℕ). drop n names) next)

fields_long : (count : ℕ) (names : List ℕ) → length (first_chunks name_bytes count names) ≡ count
fields_long zero names = refl
fields_long (suc count) names = ap suc (fields_long count (drop name_bytes names))

-- the lowest key that has the name, among its fields
module _ (names name : List ℕ) (some : 0 < length name) where
  abbrev pub has_name : List ℕ → Bool
  has_name field = same_numbers (before 0 field) name

  abbrev fields : List (List ℕ)
  fields = first_chunks name_bytes host_keys names

  told : (k : ℕ) → k < host_keys → has_name (get_or fields k []) ≡ is_named names name k
  told k l = ap has_name (field_at host_keys names k l) ∙ sym (named_is names name some k)

  first_named : (r : Option ℕ) → r ≡ position has_name fields → r ≡ key_of_name names name
  first_named (Some at) p =
      let i = some_is has_name fields (sym p) in
      let l : at < host_keys = omega (arith, i.0, fields_long host_keys names) in
      let passes : is_named names name at ≡ true = sym (told at l) ∙ ap (λ n. has_name (get_or fields n [])) i.1 ∙ passes_at_first has_name fields [] (omega (arith, i.0, i.1)) in
      let is_key : key_named names name ≡ at =
      lowest_is host_keys (is_named names name) at l (subst T (sym passes) tt)
      (λ j h. subst (λ b. T (not b)) (sym (sym (told j (omega (arith, h, l))) ∙ fails_before_first has_name fields j [] (omega (arith, h, i.1)))) tt) in
      rw (is_key, ne_eqb at host_keys (λ e. omega (arith, e, l)))
  first_named None p =
      let n = none_is has_name fields (sym p) in
      let is_none : key_named names name ≡ host_keys =
      lowest_none host_keys (is_named names name)
      (λ j h. subst (λ b. T (not b)) (sym (sym (told j h) ∙ fails_before_first has_name fields j [] (omega (arith, h, n, fields_long host_keys names)))) tt) in
      rw is_none

  -- where they are lent as arrays
  pub named_first : (lent : List (List ℕ)) → lent ≡ first_chunks name_bytes (length names / name_bytes) names → length names ≡ names_bytes
      → (r : Option ℕ) → r ≡ position has_name lent → r ≡ key_of_name names name
  named_first lent e l r p = first_named r (p ∙ ap (position has_name) (e ∙ ap (λ n. first_chunks name_bytes (n / name_bytes) names) l))
