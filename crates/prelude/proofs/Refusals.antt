-- The laws of the first refusal that applies.
use Rattle.prelude.proofs.Kit.{ℕ, suc, zero, true, ◌&&◌, Bool, false, not, true≢false, cond, List, ◌∷◌, [], ◌++◌, ◌≡◌, sym, refl, ap}
use Rattle.prelude.proofs.Kit.{subst, T, eqb, ltb, eqb·suc_zero, take, get_or, and_r, and_l}
use Rattle.prelude.specs.Choice.{branch}
use Rattle.prelude.specs.Refusals.{accepted, Refusal, refuse, first_of, answering}

abbrev pub NoneOf : {A : Type 0} → List (Refusal A) → Type 0
NoneOf [] = Unit {0}
NoneOf (r ∷ rs) = (r.applies ≡ false) × NoneOf rs

module _ {A : Type 0} (x : A) where
  -- refusal n, counted from 0
  abbrev pub nth : ℕ → List (Refusal A) → Refusal A
  nth n rs = get_or rs n (refuse x false)

  pub first_is : (n : ℕ) (rs : List (Refusal A)) → NoneOf (take n rs) → (nth n rs).applies ≡ true → first_of rs x ≡ (nth n rs).answer
  unfolding first_of branch
  first_is n [] none e = absurd (true≢false (sym e))
  first_is zero (r ∷ rs) none e = rw e
  first_is (suc n) (r ∷ rs) none e = rw none.0 (first_is n rs none.1 e)

  pub none_applies : (rs : List (Refusal A)) → NoneOf rs → first_of rs x ≡ x
  unfolding first_of branch
  none_applies [] none = refl
  none_applies (r ∷ rs) none = rw none.0 (none_applies rs none.1)

  -- two lists in a row: the second answers where the first does not
  pub in_a_row : (rs qs : List (Refusal A)) → first_of (rs ++ qs) x ≡ first_of rs (first_of qs x)
  unfolding first_of
  in_a_row [] qs = refl
  in_a_row (r ∷ rs) qs = ap (branch r.applies r.answer) (in_a_row rs qs)

-- what holds of each answer where it is the first that applies, and of the other where none does, holds of the one that is given
abbrev pub Whichever : {A : Type 0} → (A → Type 0) → List (Refusal A) → A → Type 0
Whichever P [] x = P x
Whichever P (r ∷ rs) x = (r.applies ≡ true → P r.answer) × (r.applies ≡ false → Whichever P rs x)

pub first_has : {A : Type 0} (P : A → Type 0) (rs : List (Refusal A)) (x : A) → Whichever P rs x → P (first_of rs x)
unfolding first_of branch
first_has P [] x h = h
first_has P (r ∷ rs) x h = go r.applies h.0 (λ e. first_has P rs x (h.1 e))
  where
    go : (b : Bool) → (b ≡ true → P r.answer) → (b ≡ false → P (first_of rs x)) → P (branch b r.answer (first_of rs x))
    go true f g = f refl
    go false f g = g refl

-- answers told in another way are told of the one that is first
pub told_first : {A B : Type 0} (f : A → B) (rs : List (Refusal A)) (x : A) → f (first_of rs x) ≡ first_of (answering f rs) (f x)
unfolding first_of branch
told_first f [] x = refl
told_first f (r ∷ rs) x = go r.applies (told_first f rs x)
  where
    go : (b : Bool) → f (first_of rs x) ≡ first_of (answering f rs) (f x) → f (branch b r.answer (first_of rs x)) ≡ branch b (f r.answer) (first_of (answering f rs) (f x))
    go true e = refl
    go false e = e

-- ---- numbers

-- none of the numbers is that of what is accepted
abbrev pub numbered : List (Refusal ℕ) → Bool
numbered [] = true
numbered (r ∷ rs) = ltb 0 r.answer && numbered rs

-- so a list goes on with another number just where it refuses nothing
pub accepted_on : (rs : List (Refusal ℕ)) (y : ℕ) → T (numbered rs) → eqb (first_of rs y) accepted ≡ eqb (first_of rs accepted) accepted && eqb y accepted
unfolding first_of branch
accepted_on [] y t = refl
accepted_on (r ∷ rs) y t =
    go r.applies r.answer (and_l (ltb 0 r.answer) (numbered rs) t) (accepted_on rs y (and_r (ltb 0 r.answer) (numbered rs) t))
  where
    go : (b : Bool) (n : ℕ) → T (ltb 0 n) → eqb (first_of rs y) accepted ≡ eqb (first_of rs accepted) accepted && eqb y accepted
        → eqb (branch b n (first_of rs y)) accepted ≡ eqb (branch b n (first_of rs accepted)) accepted && eqb y accepted
    go true zero l rest = absurd l
    go true (suc n) l rest = rw (eqb·suc_zero n)
    go false n l rest = rest

-- what it refuses it refuses whatever follows, and however its numbers are told
pub refused_on : {A : Type 0} (f : ℕ → A) (rs : List (Refusal ℕ)) (y : A) → (first_of rs accepted ≡ accepted → ⊥) → first_of (answering f rs) y ≡ f (first_of rs accepted)
unfolding first_of branch
refused_on f [] y other = absurd (other refl)
refused_on f (r ∷ rs) y other = go r.applies other (refused_on f rs y)
  where
    go : (b : Bool) → (branch b r.answer (first_of rs accepted) ≡ accepted → ⊥) → ((first_of rs accepted ≡ accepted → ⊥) → first_of (answering f rs) y ≡ f (first_of rs accepted))
        → branch b (f r.answer) (first_of (answering f rs) y) ≡ f (branch b r.answer (first_of rs accepted))
    go true other rest = refl
    go false other rest = rest other

-- an answer that goes by its number has that number
pub number_of_lem : {A : Type 0} (number : A → ℕ) (done : A) (undone : ℕ → A) (n : ℕ) → number done ≡ accepted → number (undone n) ≡ n
    → number (cond (eqb n accepted) done (undone n)) ≡ n
number_of_lem number done undone zero e f = e
number_of_lem number done undone (suc n) e f = rw (eqb·suc_zero n) f

-- and goes on past a test that passes
pub accepted_past : (n : ℕ) (b : Bool) (rs : List (Refusal ℕ)) → T (ltb 0 n) → eqb (first_of (refuse n (not b) ∷ rs) accepted) accepted ≡ b && eqb (first_of rs accepted) accepted
unfolding first_of branch
accepted_past n true rs l = refl
accepted_past zero false rs l = absurd l
accepted_past (suc n) false rs l = eqb·suc_zero n

-- where nothing is refused no test applied
pub none_applied : (rs : List (Refusal ℕ)) → T (numbered rs) → first_of rs accepted ≡ accepted → NoneOf rs
unfolding first_of branch
none_applied [] t e = tt
none_applied (r ∷ rs) t e =
    let first = go r.applies r.answer (and_l (ltb 0 r.answer) (numbered rs) t) e in
    (first.0, none_applied rs (and_r (ltb 0 r.answer) (numbered rs) t) first.1)
  where
    go : (b : Bool) (n : ℕ) → T (ltb 0 n) → branch b n (first_of rs accepted) ≡ accepted → (b ≡ false) × (first_of rs accepted ≡ accepted)
    go true n l e = absurd (subst (λ (k : ℕ). T (ltb 0 k)) e l)
    go false n l e = (refl, e)
