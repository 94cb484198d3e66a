-- The rows of a policy: a test of the address settles whether one is well formed, and whether it is empty.
use Rattle.prelude.proofs.Kit.{ℕ, ◌≤◌, ◌<◌, ◌+◌, ◌^◌, arith, true, ◌&&◌, Bool, false, not, and_assoc, List, ⊎_elim, ◌≡◌, sym, ◌∙◌, subst, ne_eqb}
use Rattle.prelude.proofs.Kit.{le-ltb, lt-ltb, eq-eqb, T, eqb, ltb, ltb→lt, T_not, not_T, length, and_l}
use mathlib.Core.Bool.{or-false}
use lib.Dec.{leb, leb→le, nleb→lt}
use Rattle.prelude.proofs.Choices.{is_true, parts}
use Rattle.labels.specs.Membership.{endpoints, all_below}
use Rattle.labels.specs.Sets.{holds, within}
use Rattle.labels.specs.Addresses.{hosts, event_set}
use Rattle.labels.proofs.Below.{same, all_at, all_of, or_cases, or_l}
use Rattle.labels.proofs.Endpoints.{event_within}
use Rattle.machine.specs.Policy.{policy_words, url_rows, connections, address_word, url_address, url_readers, url_writers, url_event, https_hosts, no_address, empty_row, is_url, row_well_formed, connection_well_formed, partner_well_formed, well_formed}
use Rattle.policy.specs.Given.{WellFormed, Url}
use Rattle.policy.proofs.Addresses.{address_word_lem}

module _ (p : List ℕ) (u : ℕ) where
  -- a row with an address
  pub named_full : url_address p u < endpoints → address_word p u ≡ no_address → ⊥
  named_full l e = absurd (omega (arith, address_word_lem p u l))

  pub row_named : url_address p u < endpoints → within (event_set (url_address p u)) (url_readers p u) ≡ row_well_formed p u
  unfolding row_well_formed empty_row
  row_named l =
      event_within (url_address p u) (holds (url_readers p u)) l ∙ rw (ne_eqb (address_word p u) no_address (named_full l), lt-ltb (url_address p u) endpoints l)

  -- the test of an empty row
  pub row_empty : (eqb (address_word p u) 255 && eqb (url_readers p u) 0) && eqb (url_writers p u) 0 ≡ empty_row p u
  unfolding empty_row
  row_empty = rw and_assoc

  -- a row without an address
  pub row_unnamed : endpoints ≤ url_address p u → empty_row p u ≡ row_well_formed p u
  unfolding row_well_formed
  row_unnamed l = rw (le-ltb (url_address p u) endpoints l, or-false)

  pub empty_formed : T (empty_row p u) → T (row_well_formed p u)
  unfolding row_well_formed
  empty_formed t = or_l (empty_row p u) (ltb (url_address p u) endpoints && holds (url_readers p u) (url_event p u)) t

  row_formed : T (well_formed p) → u < url_rows → T (row_well_formed p u)
  unfolding well_formed
  row_formed t l =
      all_at url_rows (row_well_formed p) (search parts) u l

  -- whether a number names a URL
  pub url_beyond : url_rows ≤ u → false ≡ is_url p u
  unfolding is_url
  url_beyond l = rw (le-ltb u url_rows l)

  pub url_named : T (well_formed p) → u < url_rows → not (leb endpoints (url_address p u)) ≡ is_url p u
  unfolding is_url empty_row row_well_formed
  url_named t l =
      rw (lt-ltb u url_rows l)
      (same (not (leb endpoints (url_address p u))) (not (empty_row p u))
      (λ h. rw (ne_eqb (address_word p u) no_address (named_full (nleb→lt endpoints (url_address p u) h))) tt)
      (λ h. not_T (leb endpoints (url_address p u)) (λ r. absurd (omega (arith, addressed h, leb→le endpoints (url_address p u) r)))))
    where
      addressed : T (not (empty_row p u)) → url_address p u < endpoints
      addressed h =
          ⊎_elim (λ e. absurd (T_not (empty_row p u) h e))
          (λ r. ltb→lt (url_address p u) endpoints (and_l (ltb (url_address p u) endpoints) (holds (url_readers p u) (url_event p u)) r))
          (or_cases (empty_row p u) (ltb (url_address p u) endpoints && holds (url_readers p u) (url_event p u)) (row_formed t l))

  pub url_given : u < url_rows → not (leb endpoints (url_address p u)) ≡ true → Url p u
  url_given l t = record { row = l; address = nleb→lt endpoints (url_address p u) (subst T (sym t) tt) }

-- a group of empty rows
pub group_formed : (p : List ℕ) (n m : ℕ) → all_below m (λ i. empty_row p (n + i)) ≡ true → true ≡ all_below m (λ i. row_well_formed p (n + i))
group_formed p n m e =
    sym (is_true (all_below m (λ i. row_well_formed p (n + i)))
    (all_of m (λ i. row_well_formed p (n + i)) (λ i l. empty_formed p (n + i) (all_at m (λ i. empty_row p (n + i)) (subst T (sym e) tt) i l))))

-- a number that passes the test of the definition
pub named_url : (p : List ℕ) (u : ℕ) → T (well_formed p) → T (is_url p u) → Url p u
unfolding is_url
named_url p u t n =
    let l = ltb→lt u url_rows (and_l (ltb u url_rows) (not (empty_row p u)) n) in
    url_given p u l (url_named p u t l ∙ is_true (is_url p u) n)

-- the whole policy
module _ (p : List ℕ) where
  pub formed_length : (length p ≡ policy_words → ⊥) → false ≡ well_formed p
  unfolding well_formed
  formed_length ne = rw (ne_eqb (length p) policy_words ne)

  formed_parts : length p ≡ policy_words
      → (all_below url_rows (row_well_formed p) && all_below connections (connection_well_formed p)) && (ltb (https_hosts p) (2 ^ hosts) && all_below url_rows (partner_well_formed p))
      ≡ well_formed p
  unfolding well_formed
  formed_parts e = simp and_assoc (rw (eq-eqb (length p) policy_words e))

  formed_given : length p ≡ policy_words → well_formed p ≡ true → WellFormed p
  formed_given e t = record { long = e; formed = subst T (sym t) tt }

  -- the test of the code, which asks of hosts and partners where rows and connections have passed
  module _ (long : length p ≡ policy_words) (rows joined : Bool) (r : rows ≡ all_below url_rows (row_well_formed p)) (j : joined ≡ all_below connections (connection_well_formed p)) where
    first : (b : Bool) → rows && joined ≡ b → b && (ltb (https_hosts p) (2 ^ hosts) && all_below url_rows (partner_well_formed p)) ≡ well_formed p
    first b e = rw (← e, r, j) (formed_parts long)

    pub formed_last : (last : Bool) → rows && joined ≡ true → last ≡ ltb (https_hosts p) (2 ^ hosts) && all_below url_rows (partner_well_formed p)
        → (last ≡ well_formed p) × (last ≡ true → WellFormed p)
    formed_last last e l = let same : last ≡ well_formed p = l ∙ first true e in (same, λ t. formed_given long (sym same ∙ t))

    pub formed_first : rows && joined ≡ false → (rows && joined ≡ well_formed p) × (rows && joined ≡ true → WellFormed p)
    formed_first e = let same : rows && joined ≡ well_formed p = e ∙ first false e in (same, λ t. formed_given long (sym same ∙ t))
