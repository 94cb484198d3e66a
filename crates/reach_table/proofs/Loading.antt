-- The monitor takes a load just where the cell is set of the URL that is asked for: a load is a journey of one URL.
use Rattle.prelude.proofs.Kit.{ℕ, ◌<◌, arith, List, ◌∷◌, [], ◌≡◌, sym, ◌∙◌, ap, subst, T, get_or, eqb→eq, eq-eqb, and_l, and_r, and_i, lt-ltb, ℕ_discrete}
use Rattle.prelude.specs.Refusals.{accepted}
use Rattle.prelude.proofs.Choices.{is_true}
use Rattle.records.specs.Layout.{load}
use Rattle.labels.specs.Membership.{none_missing, is_none}
use Rattle.labels.proofs.Below.{all_of}
use Rattle.machine.specs.Policy.{connections, is_url, well_formed, upgraded, fit_missing_reader, fit_missing_writer, fits}
use Rattle.machine.specs.Session.{empty_state}
use Rattle.machine.specs.Machine.{Verdict, feed}
use Rattle.machine.proofs.Upgrading.{upgraded_url}
use Rattle.policy.specs.Forbidden.{first_forbidden}
use Rattle.policy.proofs.Forbidden.{readers_forbid_lem, writers_forbid_lem, nothing_forbids}
use Rattle.journeys.specs.Journey.{is_journey}
use Rattle.journeys.proofs.Judging.{judged_load, by_names}
use Rattle.journeys.proofs.Taking.{fed_as_judged}
use Rattle.reach_table.specs.Reach.{in_table}
use Rattle.reach_table.specs.Guarantees.{ReachedIsLoaded}
use Rattle.reach_table.proofs.Reaching.{url_reached, cell_reached}

abbrev number_of : Verdict → ℕ
number_of v = v.number

-- nothing is forbidden just where nothing is missing
module _ (reader writer : ℕ) where
  none_forbidden : reader ≡ none_missing → writer ≡ none_missing → (first_forbidden reader writer).number ≡ accepted
  none_forbidden e f = ap number_of (sym (nothing_forbids reader writer e f))

  none_missing_lem : (first_forbidden reader writer).number ≡ accepted → (reader ≡ none_missing) × (writer ≡ none_missing)
  none_missing_lem ok = elim (ℕ_discrete reader none_missing) [
    | no ne ↦ absurd (omega (arith, ap number_of (readers_forbid_lem reader writer ne) ∙ ok))
    | yes e ↦ elim (ℕ_discrete writer none_missing) [
      | no ne ↦ absurd (omega (arith, ap number_of (writers_forbid_lem reader writer e ne) ∙ ok))
      | yes f ↦ (e, f)
    ]
  ]

module _ (p : List ℕ) (n u : ℕ) where
  reader : ℕ
  reader = fit_missing_reader p n u

  writer : ℕ
  writer = fit_missing_writer p n u

  fits_where : reader ≡ none_missing → writer ≡ none_missing → T (fits p n u)
  unfolding fits reader writer
  fits_where e f = and_i (is_none reader) (is_none writer) (subst T (sym (eq-eqb reader none_missing e)) tt) (subst T (sym (eq-eqb writer none_missing f)) tt)

  none_where : T (fits p n u) → (reader ≡ none_missing) × (writer ≡ none_missing)
  unfolding fits reader writer
  none_where t = (eqb→eq reader none_missing (and_l (is_none reader) (is_none writer) t), eqb→eq writer none_missing (and_r (is_none reader) (is_none writer) t))

  -- a URL alone is a journey
  one_url : T (is_url p u) → T (is_journey p (u ∷ []))
  one_url t =
      let first : (i : ℕ) → i < 1 → T (is_url p (get_or (u ∷ []) i 0)) = λ i l. let here : i ≡ 0 = omega (arith, l) in rw here t in
      subst T (by_names p (u ∷ []) (λ e. omega (arith, e)) (omega arith)) (all_of 1 (λ i. is_url p (get_or (u ∷ []) i 0)) first)

pub reached_is_loaded : ReachedIsLoaded
unfolding reader writer
reached_is_loaded p scripts out n u table room formed l url = (
  λ t.
      let (e, f) = none_where p n (upgraded p u) (subst T (sym cell) t) in
      said ∙ none_forbidden (reader p n (upgraded p u)) (writer p n (upgraded p u)) e f,
  λ ok.
      let (e, f) = none_missing_lem (reader p n (upgraded p u)) (writer p n (upgraded p u)) (sym said ∙ ok) in
      subst T cell (fits_where p n (upgraded p u) e f),
)
  where
    cell : fits p n (upgraded p u) ≡ in_table p n (upgraded p u)
    cell =
        url_reached p n (upgraded p u) (is_true (is_url p (upgraded p u)) (upgraded_url p formed u url))
        ∙ cell_reached p n (upgraded p u) (is_true (well_formed p) formed) (lt-ltb n connections l)

    said : (feed p scripts empty_state (load ∷ u ∷ n ∷ []) out).number ≡ (first_forbidden (reader p n (upgraded p u)) (writer p n (upgraded p u))).number
    said =
        ap number_of
        (fed_as_judged p scripts (u ∷ []) n (λ i. out) table (λ i. room) l (formed, one_url p n u url) 0 (omega arith) (λ j h. absurd (omega (arith, h)))
        ∙ judged_load p (u ∷ []) n 0 (λ i. 0))
