-- The laws of sets of endpoints, said once, over membership: every representation of a set has them.
use Rattle.prelude.proofs.Kit.{ℕ, ◌<◌, ◌≤◌, zero, suc, arith, true, ◌&&◌, Bool, false, not, ◌||◌, cond, ⊎_elim, ◌≡◌, sym, ◌∙◌, refl, subst, T, eqb, eqb→eq, ne_eqb}
use Rattle.prelude.proofs.Kit.{T_not, not_T, and_i, and_r, and_l, le_of_suc-le-suc}
use native.Mathlib.Nat.{le_refl, le_antisymm, lt_of_not-le}
use mathlib.Core.Logic.{◌⊎◌, inl, inr}
use Rattle.std.specs.Prelude.{Option, Some, None, is_some}
use lib.Dec.{eqb_refl}
use Rattle.prelude.proofs.Choices.{either, is_true, is_false}
use Rattle.labels.specs.Membership.{Membership, endpoints, all_below, subset, is_missing, is_lowest_missing, none_missing, is_none, Tells, lowest_missing, missing_one, share}
use Rattle.labels.proofs.Below.{all_at, all_of, any_at, any_of, found, not_alike, same}

implies_i : (x y : Bool) → (T x → T y) → T (not x || y)
implies_i true y f = f tt
implies_i false y f = tt

implies_e : (x y : Bool) → T (not x || y) → T x → T y
implies_e true y t u = t
implies_e false y t u = absurd u

-- subset, to and from membership
pub subset_holds : (s t : Membership) → T (subset s t) → (a : ℕ) → a < endpoints → T (s a) → T (t a)
unfolding subset
subset_holds s t h a l = implies_e (s a) (t a) (all_at endpoints (λ a. not (s a) || t a) h a l)

pub holds_subset : (s t : Membership) → ((a : ℕ) → a < endpoints → T (s a) → T (t a)) → T (subset s t)
unfolding subset
holds_subset s t f = all_of endpoints (λ a. not (s a) || t a) (λ a l. implies_i (s a) (t a) (f a l))

-- a set that has endpoints alone
abbrev pub Bounded : Membership → Type 0
Bounded s = (a : ℕ) → T (s a) → a < endpoints

pub subset_refl : (s : Membership) → T (subset s s)
subset_refl s = holds_subset s s (λ a l h. h)

pub subset_trans : (s t u : Membership) → T (subset s t) → T (subset t u) → T (subset s u)
subset_trans s t u p q = holds_subset s u (λ a l h. subset_holds t u q a l (subset_holds s t p a l h))

-- ---- the lowest that is missing

module _ (s t : Membership) where
  -- where one is missing the first set is not within the second
  missing_not_subset : (a : ℕ) → a < endpoints → T (is_missing s t a) → T (not (subset s t))
  missing_not_subset a l m = not_T (subset s t) (λ h. T_not (t a) (and_r (s a) (not (t a)) m) (subset_holds s t h a l (and_l (s a) (not (t a)) m)))

  -- where none is lowest none is missing: below any bound
  none_below : ((a : ℕ) → a < endpoints → T (not (is_lowest_missing s t a))) → (n : ℕ) → n ≤ endpoints → T (all_below n (λ a. not (is_missing s t a)))
  unfolding all_below is_lowest_missing
  none_below f zero l = tt
  none_below f (suc n) l =
      let rest = none_below f n (omega (arith, l)) in
      and_i (not (is_missing s t n)) (all_below n (λ a. not (is_missing s t a)))
      (not_T (is_missing s t n) (λ m. T_not (is_lowest_missing s t n) (f n l) (and_i (is_missing s t n) (all_below n (λ a. not (is_missing s t a))) m rest))) rest

  -- None is missing and 32 is told, or the lowest that is missing is.
  pub told : (T (subset s t) × (lowest_missing s t ≡ none_missing)) ⊎ ((lowest_missing s t < endpoints) × T (is_lowest_missing s t (lowest_missing s t)))
  unfolding lowest_missing
  told =
      ⊎_elim (λ none. inl (holds_subset s t (λ a l m. within a (all_at endpoints (λ a. not (is_missing s t a)) (none_below none.0 endpoints (le_refl endpoints)) a l) m), none.1)) inr
      (found endpoints (is_lowest_missing s t) none_missing)
    where
      within : (a : ℕ) → T (not (is_missing s t a)) → T (s a) → T (t a)
      within a n m = ⊎_elim (λ h. h) (λ h. absurd (T_not (is_missing s t a) n (and_i (s a) (not (t a)) m h))) (either (t a))

  -- 32 is told just where the first set is within the second
  pub none_missing_lem : is_none (lowest_missing s t) ≡ subset s t
  unfolding is_lowest_missing
  none_missing_lem =
      ⊎_elim (λ none. rw (none.1, is_true (subset s t) none.0))
      (λ one. rw (ne_eqb (lowest_missing s t) none_missing (λ e. omega (arith, one.0, e)))
      (sym (is_false (subset s t) (missing_not_subset (lowest_missing s t) one.0 (and_l (is_missing s t (lowest_missing s t)) _ one.1))))) told

  pub none_lowest : ((a : ℕ) → a < endpoints → T (not (is_missing s t a))) → none_missing ≡ lowest_missing s t
  unfolding is_lowest_missing
  none_lowest f =
      ⊎_elim (λ none. sym none.1) (λ one. absurd (T_not (is_missing s t (lowest_missing s t)) (f (lowest_missing s t) one.0) (and_l (is_missing s t (lowest_missing s t)) _ one.1))) told

  pub missing_most : lowest_missing s t ≤ none_missing
  missing_most = ⊎_elim (λ none. omega (arith, none.1)) (λ one. omega (arith, one.0)) told

  -- what is told otherwise is in the first set and not in the second
  pub missing_told : (lowest_missing s t ≡ none_missing → ⊥) → (lowest_missing s t < endpoints) × T (s (lowest_missing s t)) × T (not (t (lowest_missing s t)))
  unfolding is_lowest_missing
  missing_told ne =
      let m = lowest_missing s t in
      ⊎_elim (λ none. absurd (ne none.1))
      (λ one. let is = and_l (is_missing s t m) _ one.1 in (one.0, and_l (s m) (not (t m)) is, and_r (s m) (not (t m)) is)) told

  -- the lowest that is missing is the one that is told
  pub lowest_is : (a : ℕ) → a < endpoints → T (is_lowest_missing s t a) → lowest_missing s t ≡ a
  unfolding is_lowest_missing
  lowest_is a l m =
      ⊎_elim (λ none. absurd (T_not (subset s t) (missing_not_subset a l (and_l (is_missing s t a) _ m)) none.0))
      (λ one. one_lowest (lowest_missing s t) a one.1 m) told
    where
      above : (a b : ℕ) → T (is_lowest_missing s t a) → T (is_lowest_missing s t b) → a < b → ⊥
      above a b m k l = T_not (is_missing s t a) (all_at b (λ c. not (is_missing s t c)) (and_r (is_missing s t b) _ k) a l) (and_l (is_missing s t a) _ m)

      one_lowest : (a b : ℕ) → T (is_lowest_missing s t a) → T (is_lowest_missing s t b) → a ≡ b
      one_lowest a b m k = le_antisymm (le_of_suc-le-suc (lt_of_not-le (above b a k m))) (le_of_suc-le-suc (lt_of_not-le (above a b m k)))

-- what an option tells
pub tells_none : (m : ℕ) → none_missing ≡ m → Tells None m
tells_none m e = (e, rw (← e) refl)

pub tells_some : (a m : ℕ) → a ≡ m → (a ≡ none_missing → ⊥) → Tells (Some a) m
tells_some a m e ne = (e, rw (← e, ne_eqb a none_missing ne) refl)

-- none is told just where the number is 32, and then the first set is within the second
pub told_none : (r : Option ℕ) (m : ℕ) (b : Bool) → Tells r m → is_some r ≡ not b → b ≡ is_none m
told_none r m b t e = not_alike b (is_none m) (sym e ∙ t.1)

pub told_within : (s t : Membership) (r : Option ℕ) (b : Bool) → Tells r (lowest_missing s t) → is_some r ≡ not b → b ≡ subset s t
told_within s t r b told e = told_none r (lowest_missing s t) b told e ∙ none_missing_lem s t

-- of one endpoint and a set 32 is told just where the set has it
module _ (t : Membership) (a : ℕ) (l : a < endpoints) where
  pub none_unheld : is_none (missing_one t a) ≡ t a
  unfolding missing_one
  none_unheld = go (t a)
    where
      go : (b : Bool) → is_none (cond b none_missing a) ≡ b
      go true = refl
      go false = ne_eqb a none_missing (λ e. omega (arith, l, e))

  -- what is told otherwise is the endpoint
  pub unheld_told : (missing_one t a ≡ none_missing → ⊥) → (missing_one t a ≡ a) × T (not (t a))
  unfolding missing_one
  unheld_told = go (t a)
    where
      go : (b : Bool) → (cond b none_missing a ≡ none_missing → ⊥) → (cond b none_missing a ≡ a) × T (not b)
      go true ne = absurd (ne refl)
      go false ne = (refl, tt)

  pub unheld_most : missing_one t a ≤ none_missing
  unfolding missing_one
  unheld_most = go (t a)
    where
      go : (b : Bool) → cond b none_missing a ≤ none_missing
      go true = le_refl none_missing
      go false = omega (arith, l)

-- a shared endpoint makes two sets meet, and sets that meet have one
pub share_at : (s t : Membership) (a : ℕ) → a < endpoints → T (s a) → T (t a) → T (share s t)
unfolding share
share_at s t a l p q = any_of endpoints (λ a. s a && t a) a l (and_i (s a) (t a) p q)

pub shared : (s t : Membership) → T (share s t) → (a : ℕ) × (a < endpoints) × T (s a) × T (t a)
unfolding share
shared s t h =
    let w = any_at endpoints (λ a. s a && t a) h in
    (w.0, w.1, and_l (s w.0) (t w.0) w.2, and_r (s w.0) (t w.0) w.2)

pub share_member : (s t : Membership) → Bounded s → (a : ℕ) → T (s a) → T (t a) → T (share s t)
share_member s t b a p q = share_at s t a (b a p) p q

-- meeting is symmetric, and what meets a set meets every set around it
pub share_sym : (s t : Membership) → T (share s t) → T (share t s)
share_sym s t h = let w = shared s t h in share_at t s w.0 w.1 w.3 w.2

pub share_mono : (s t u : Membership) → T (subset s t) → T (share s u) → T (share t u)
share_mono s t u p h = let w = shared s u h in share_at t u w.0 w.1 (subset_holds s t p w.0 w.1 w.2) w.3

-- what misses a set misses its subsets
pub miss_subset : (s t u : Membership) → T (subset s t) → T (not (share t u)) → T (not (share s u))
miss_subset s t u p h = not_T (share s u) (λ m. T_not (share t u) h (share_mono s t u p m))

-- a set with no endpoint is within every set and meets none; a set with all of them has every set within it
module _ (none : Membership) (nothing : (a : ℕ) → T (none a) → ⊥) where
  pub none_subset : (s : Membership) → T (subset none s)
  none_subset s = holds_subset none s (λ a l h. absurd (nothing a h))

  pub none_miss : (s : Membership) → T (not (share none s))
  none_miss s = not_T (share none s) (λ m. nothing (shared none s m).0 (shared none s m).2)

pub subset_every : (s every : Membership) → ((a : ℕ) → a < endpoints → T (every a)) → T (subset s every)
subset_every s every f = holds_subset s every (λ a l h. f a l)

-- a singleton is within just the sets that hold its endpoint, and meets just those
module _ (one : Membership) (a : ℕ) (l : a < endpoints) (only : (b : ℕ) → b < endpoints → one b ≡ eqb a b) where
  itself : T (one a)
  itself = rw (only a l) (eqb_refl a)

  alone : (b : ℕ) → b < endpoints → T (one b) → a ≡ b
  alone b k g = eqb→eq a b (rw (only b k) at g)

  pub one_subset : (s : Membership) → subset one s ≡ s a
  one_subset s =
      same (subset one s) (s a) (λ w. subset_holds one s w a l itself)
      (λ h. holds_subset one s (λ b k g. subst (λ (x : ℕ). T (s x)) (alone b k g) h))

  -- so what is missing of it is its endpoint or nothing
  pub one_missing : (s : Membership) → lowest_missing one s ≡ missing_one s a
  unfolding is_lowest_missing missing_one
  one_missing s =
      ⊎_elim (λ h. rw (is_true (s a) h) (eqb→eq (lowest_missing one s) none_missing (rw (none_missing_lem one s, one_subset s) h)))
      (λ h. rw (is_false (s a) h) (lowest_is one s a l (and_i (is_missing one s a) _ (and_i (one a) (not (s a)) itself h)
      (all_of a (λ b. not (is_missing one s b)) (λ b k. not_T (is_missing one s b) (λ m. omega (arith, k, alone b (omega (arith, k, l)) (and_l (one b) (not (s b)) m))))))))
      (either (s a))

  pub one_share : (s : Membership) → share one s ≡ s a
  one_share s =
      same (share one s) (s a)
      (λ m. let w = shared one s m in subst (λ (x : ℕ). T (s x)) (sym (alone w.0 w.1 w.2)) w.3)
      (λ h. share_at one s a l itself h)

-- sets with the same endpoints, however they are kept, are within the same sets, lack the same and meet the same
module _ (s s' t t' : Membership) (es : (a : ℕ) → a < endpoints → s a ≡ s' a) (et : (a : ℕ) → a < endpoints → t a ≡ t' a) where
  pub subset_alike : T (subset s t) → T (subset s' t')
  subset_alike h = holds_subset s' t' (λ a l m. rw (et a l) at (subset_holds s t h a l (rw (es a l) m)))

  missing_one_alike : (a : ℕ) → a < endpoints → is_missing s t a ≡ is_missing s' t' a
  missing_one_alike a l = rw (es a l, et a l)

  pub missing_alike : lowest_missing s t ≡ lowest_missing s' t'
  unfolding is_lowest_missing
  missing_alike =
      ⊎_elim (λ none. none.1 ∙ sym (eqb→eq (lowest_missing s' t') none_missing (rw (none_missing_lem s' t') (subset_alike none.0))))
      (λ one.
      let a = lowest_missing s t in
      sym (lowest_is s' t' a one.0 (and_i (is_missing s' t' a) _ (subst T (missing_one_alike a one.0) (and_l (is_missing s t a) _ one.1))
      (all_of a (λ b. not (is_missing s' t' b)) (λ b k.
      subst (λ (x : Bool). T (not x)) (missing_one_alike b (omega (arith, k, one.0))) (all_at a (λ b. not (is_missing s t b)) (and_r (is_missing s t a) _ one.1) b k)))))) (told s t)

  pub share_alike : T (share s t) → T (share s' t')
  share_alike h = let w = shared s t h in share_at s' t' w.0 w.1 (rw (es w.0 w.1) at w.2) (rw (et w.0 w.1) at w.3)
