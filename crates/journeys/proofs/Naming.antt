-- The set that a stop names lacks the endpoint that it names: condition by condition.
use Rattle.prelude.proofs.Kit.{ℕ, ◌<◌, arith, true, Bool, false, not, cond, List, ◌≡◌, sym, ◌∙◌, refl, ap, subst, T, T_not, eqb, eq-eqb, ne_eqb, ℕ_discrete}
use Rattle.prelude.specs.Choice.{branch}
use Rattle.prelude.specs.Refusals.{accepted}
use Rattle.labels.specs.Membership.{endpoints, none_missing}
use Rattle.labels.specs.Sets.{holds, missing, unheld}
use Rattle.labels.proofs.Membership.{missing_told, unheld_told}
use Rattle.machine.specs.Policy.{is_entry, url_readers, url_writers, connection_readers, connection_writers, url_message, url_event}
use Rattle.machine.specs.Policy.{fit_missing_reader, fit_missing_writer, reach_missing_writer, first_missing, redirect_missing_reader, redirect_missing_writer}
use Rattle.machine.specs.Machine.{Verdict}
use Rattle.policy.specs.Given.{Url}
use Rattle.policy.specs.Forbidden.{first_forbidden}
use Rattle.policy.proofs.Forbidden.{readers_forbid_lem, writers_forbid_lem, nothing_forbids}
use Rattle.journeys.specs.Journey.{url_at, judged, takes, fails_at, of_url_number}
use Rattle.journeys.proofs.Judging.{judged_load, judged_redirect, asked_url}
use Rattle.journeys.proofs.Guarantees.{asked_given, fails_where, not_taken_where}
use Rattle.journeys.specs.Guarantees.{connection_set, asked_for, named_set, NamedSetLacksIt}

-- an endpoint that a set lacks: the URL's, where the connection's has it, or the connection's, where it is the one that is asked for
abbrev Lacks : ℕ → ℕ → ℕ → Bool → ℕ → Type 0
Lacks of_url_number own asked url m = (m < endpoints) × T (not (holds (cond url of_url_number own) m)) × T (cond url (holds own m) (eqb m asked))

module _ (p : List ℕ) (c u : ℕ) (there : Url p u) where
  -- what is said where readers forbid, and where writers do
  abbrev ReadersLack : ℕ → Type 0
  ReadersLack m = Lacks (url_readers p u) (connection_readers p c) (url_event p u) (eqb m (fit_missing_reader p c u)) m

  abbrev WritersLack : ℕ → Type 0
  WritersLack m = Lacks (url_writers p u) (connection_writers p c) (url_message p u) (not (eqb m (fit_missing_writer p c u))) m

  -- ---- condition by condition

  fit_reader : (fit_missing_reader p c u ≡ none_missing → ⊥) → ReadersLack (fit_missing_reader p c u)
  unfolding fit_missing_reader
  fit_reader ne =
      let m = missing (connection_readers p c) (url_readers p u) in
      let (l, held, lacks) = missing_told (holds (connection_readers p c)) (holds (url_readers p u)) ne in
      rw (eq-eqb m m refl) (l, lacks, held)

  fit_writer : (fit_missing_writer p c u ≡ none_missing → ⊥) → WritersLack (fit_missing_writer p c u)
  unfolding fit_missing_writer
  fit_writer ne =
      let m = unheld (connection_writers p c) (url_message p u) in
      let (e, lacks) = unheld_told (holds (connection_writers p c)) (url_message p u) there.address ne in
      rw (eq-eqb m m refl) (rw (e, eq-eqb (url_message p u) (url_message p u) refl) (there.address, lacks, tt))

  event_reader : (unheld (connection_readers p c) (url_event p u) ≡ none_missing → ⊥) → ReadersLack (unheld (connection_readers p c) (url_event p u))
  unfolding fit_missing_reader
  event_reader ne =
      let (e, lacks) = unheld_told (holds (connection_readers p c)) (url_event p u) (omega arith) ne in
      rw e (rw (ne_eqb (url_event p u) (fit_missing_reader p c u) (other lacks), eq-eqb (url_event p u) (url_event p u) refl) (omega arith, lacks, tt))
    where
      -- what is missing for the connection to fit is one of its readers
      other : T (not (holds (connection_readers p c) (url_event p u))) → url_event p u ≡ fit_missing_reader p c u → ⊥
      other lacks e =
          let (_, held, _) = missing_told (holds (connection_readers p c)) (holds (url_readers p u)) (λ n. omega (arith, e, n)) in
          T_not (holds (connection_readers p c) (url_event p u)) lacks (subst (λ (x : ℕ). T (holds (connection_readers p c) x)) (sym e) held)

  reach_writer : fit_missing_writer p c u ≡ none_missing → (reach_missing_writer p (connection_writers p c) u ≡ none_missing → ⊥)
      → WritersLack (reach_missing_writer p (connection_writers p c) u)
  unfolding reach_missing_writer branch
  reach_writer none ne = go (is_entry p u) ne
    where
      m : ℕ
      m = missing (connection_writers p c) (url_writers p u)

      go : (b : Bool) → (branch b none_missing m ≡ none_missing → ⊥) → WritersLack (branch b none_missing m)
      go true ne = absurd (ne refl)
      go false ne =
          let (l, held, lacks) = missing_told (holds (connection_writers p c)) (holds (url_writers p u)) ne in
          rw (ne_eqb m (fit_missing_writer p c u) (λ e. omega (arith, l, e, none))) (l, lacks, held)

  -- ---- a redirect asks two conditions of each

  redirect_reader : (redirect_missing_reader p c u ≡ none_missing → ⊥) → ReadersLack (redirect_missing_reader p c u)
  unfolding redirect_missing_reader first_missing branch
  redirect_reader = elim (ℕ_discrete event none_missing) [
    | yes e ↦ rw (eq-eqb event none_missing e) fit_reader
    | no ne ↦ rw (ne_eqb event none_missing ne) event_reader
  ]
    where
      event : ℕ
      event = unheld (connection_readers p c) (url_event p u)

  redirect_writer : (redirect_missing_writer p c u ≡ none_missing → ⊥) → WritersLack (redirect_missing_writer p c u)
  unfolding redirect_missing_writer first_missing branch
  redirect_writer = elim (ℕ_discrete (fit_missing_writer p c u) none_missing) [
    | yes e ↦ rw (eq-eqb (fit_missing_writer p c u) none_missing e) (reach_writer e)
    | no ne ↦ rw (ne_eqb (fit_missing_writer p c u) none_missing ne) fit_writer
  ]

  -- ---- a verdict by what is missing

  -- what the statement says of a verdict
  abbrev Named : Verdict → Type 0
  Named v =
      (v.missing < endpoints)
      × T (not (holds (named_set p c u v) v.missing))
      × T (cond (of_url_number p c u v) (holds (connection_set p c v) v.missing) (eqb v.missing (asked_for p u v)))

  verdict_lacks : (reader writer : ℕ) (v : Verdict) → v ≡ first_forbidden reader writer → (v.number ≡ accepted → ⊥)
      → ((reader ≡ none_missing → ⊥) → ReadersLack reader) → ((writer ≡ none_missing → ⊥) → WritersLack writer) → Named v
  unfolding of_url_number
  verdict_lacks reader writer v e other f g = elim (ℕ_discrete reader none_missing) [
    | no ne ↦ subst Named (readers_forbid_lem reader writer ne ∙ sym e) (f ne)
    | yes r ↦ elim (ℕ_discrete writer none_missing) [
      | no ne ↦ subst Named (writers_forbid_lem reader writer r ne ∙ sym e) (g ne)
      | yes w ↦ absurd (other (ap (λ (v : Verdict). v.number) (e ∙ sym (nothing_forbids reader writer r w))))
    ]
  ]

pub named_set_lacks_it : NamedSetLacksIt
named_set_lacks_it p urls c asked lc none =
    let i = fails_at p urls c in
    let l = fails_where p urls c none in
    let there = asked_url p urls (asked_given p urls asked) i l in
    let u = url_at p urls i in
    let other : (judged p urls c i).number ≡ accepted → ⊥ =
    λ e. T_not (takes p urls c i) (not_taken_where p urls c l) (subst T (sym (eq-eqb (judged p urls c i).number accepted e)) tt) in
    elim (ℕ_discrete i 0) [
      | yes e ↦ verdict_lacks p c u there _ _ (judged p urls c i) (judged_load p urls c i e) other (fit_reader p c u there) (fit_writer p c u there)
      | no ne ↦ verdict_lacks p c u there _ _ (judged p urls c i) (judged_redirect p urls c i ne) other (redirect_reader p c u there) (redirect_writer p c u there)
    ]
