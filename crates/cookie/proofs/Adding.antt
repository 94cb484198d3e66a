-- Attributes that are added behind a line: its pair stays, and so do its flags where they are neither of the two.
use Rattle.prelude.proofs.Kit.{ℕ, true, Bool, false, true≢false, not, ◌||◌, List, ◌∷◌, [], ◌++◌}
use Rattle.prelude.proofs.Kit.{◌≡◌, sym, ◌∙◌, refl, ap, ap₂, T, eqb}
use Rattle.prelude.specs.Choice.{branch}
use Rattle.prelude.proofs.Choices.{is_true, is_false}
use Rattle.cookie.specs.Parts.{has, before}
use Rattle.cookie.specs.SetCookie.{semicolon, pair_of, attributes, is_called, some_called, secure_word, http_only_word, flags_of}
use Rattle.cookie.specs.Guarantees.{ends_or_goes_on}

not_semicolon : (x : ℕ) (xs : List ℕ) → has semicolon (x ∷ xs) ≡ false → (eqb x semicolon ≡ false) × (has semicolon xs ≡ false)
unfolding has
not_semicolon x xs e = go (eqb x semicolon) (has semicolon xs) e
  where
    go : (a b : Bool) → a || b ≡ false → (a ≡ false) × (b ≡ false)
    go true b e = absurd (true≢false e)
    go false b e = (refl, e)

pub no_attributes : (line : List ℕ) → has semicolon line ≡ false → attributes line ≡ []
unfolding attributes branch
no_attributes [] e = refl
no_attributes (x ∷ xs) e = let n = not_semicolon x xs e in rw n.0 (no_attributes xs n.1)

pub whole_before : (line : List ℕ) → has semicolon line ≡ false → before semicolon line ≡ line
unfolding before branch
whole_before [] e = refl
whole_before (x ∷ xs) e = let n = not_semicolon x xs e in rw n.0 (ap (λ (l : List ℕ). x ∷ l) (whole_before xs n.1))

-- what is added behind a line is attributes
module _ (rest : List ℕ) (t : T (ends_or_goes_on rest)) where
  before_nothing : before semicolon rest ≡ []
  unfolding before branch
  before_nothing = go rest t
    where
      go : (rest : List ℕ) → T (ends_or_goes_on rest) → before semicolon rest ≡ []
      go [] t = refl
      go (x ∷ xs) t = rw (is_true (eqb x semicolon) t)

  before_added : (line : List ℕ) → before semicolon (line ++ rest) ≡ before semicolon line
  unfolding before
  before_added [] = before_nothing
  before_added (x ∷ xs) = ap (λ (l : List ℕ). branch (eqb x semicolon) [] (x ∷ l)) (before_added xs)

  attributes_added : (line : List ℕ) → attributes (line ++ rest) ≡ attributes line ++ attributes rest
  unfolding attributes branch
  attributes_added [] = refl
  attributes_added (x ∷ xs) = go (eqb x semicolon) (before_added xs) (attributes_added xs)
    where
      go : (b : Bool) → before semicolon (xs ++ rest) ≡ before semicolon xs → attributes (xs ++ rest) ≡ attributes xs ++ attributes rest
          → branch b (before semicolon (xs ++ rest) ∷ attributes (xs ++ rest)) (attributes (xs ++ rest)) ≡ branch b (before semicolon xs ∷ attributes xs) (attributes xs) ++ attributes rest
      go true e f = ap₂ (λ (a : List ℕ) (all : List (List ℕ)). a ∷ all) e f
      go false e f = f

called_added : (word : List ℕ) (xs ys : List (List ℕ)) → some_called word (xs ++ ys) ≡ some_called word xs || some_called word ys
unfolding some_called
called_added word [] ys = refl
called_added word (x ∷ xs) ys = rw (called_added word xs ys) (assoc (is_called word x) (some_called word xs) (some_called word ys))
  where
    assoc : (a b c : Bool) → a || (b || c) ≡ (a || b) || c
    assoc true b c = refl
    assoc false b c = refl

-- one attribute more, which is not called by the word
module _ (line attribute rest : List ℕ) (none : T (not (has semicolon attribute))) (t : T (ends_or_goes_on rest)) where
  abbrev more : List ℕ
  more = line ++ ((semicolon ∷ attribute) ++ rest)

  its_own : attributes (semicolon ∷ attribute) ≡ attribute ∷ []
  unfolding attributes branch
  its_own =
      let e = is_false (has semicolon attribute) none in
      ap₂ (λ (a : List ℕ) (all : List (List ℕ)). a ∷ all) (whole_before attribute e) (no_attributes attribute e)

  called_more : (word : List ℕ) → T (not (is_called word attribute)) → some_called word (attributes more) ≡ some_called word (attributes (line ++ rest))
  unfolding some_called
  called_more word n =
      ap (some_called word) (attributes_added ((semicolon ∷ attribute) ++ rest) tt line ∙ ap (λ (l : List (List ℕ)). attributes line ++ l) (attributes_added rest t (semicolon ∷ attribute)))
      ∙ called_added word (attributes line) (attributes (semicolon ∷ attribute) ++ attributes rest)
      ∙ ap (λ (b : Bool). some_called word (attributes line) || b) (rw (its_own, is_false (is_called word attribute) n))
      ∙ sym (ap (some_called word) (attributes_added rest t line) ∙ called_added word (attributes line) (attributes rest))

  pub pair_more : pair_of more ≡ pair_of (line ++ rest)
  pair_more = before_added ((semicolon ∷ attribute) ++ rest) tt line ∙ sym (before_added rest t line)

  pub flags_more : T (not (is_called secure_word attribute)) → T (not (is_called http_only_word attribute)) → flags_of more ≡ flags_of (line ++ rest)
  unfolding flags_of
  flags_more s h = ap₂ (λ (a b : Bool). record { secure = a; http_only = b }) (called_more secure_word s) (called_more http_only_word h)
