-- Where a connection stops on a journey, by the first place that it does not take, and what is answered by what is refused. So the connection that is
-- told is the lowest that does not stop.
use Rattle.prelude.proofs.Kit.{ℕ, ◌≤◌, ◌<◌, arith, true, Bool, false, not, List, ◌≡◌, sym, ◌∙◌, refl, ap, subst, T, T_not, not_T, length, lt-ltb, le-ltb}
use Rattle.std.specs.Prelude.{cond, eqb, ltb, [], ◌∷◌}
use Rattle.prelude.specs.Choice.{branch}
use Rattle.prelude.specs.Refusals.{accepted, refuse, first_of}
use Rattle.prelude.proofs.Choices.{is_true, is_false}
use Rattle.prelude.proofs.Refusals.{in_a_row, refused_on}
use Rattle.prelude.proofs.Lowest.{lowest_most}
use Rattle.machine.specs.Policy.{connections, well_formed}
use Rattle.machine.specs.Machine.{policy_bad, Verdict}
use Rattle.journeys.specs.declared.Stop.{Stop}
use Rattle.journeys.specs.Journey.{url_at, judged, takes, carries, journey_bad, is_journey, journey_refusals, fails_at, of_url_number, stop_at, no_stop, stop, connection_unknown, stop_refusals, refused_stop, stopped}
use Rattle.journeys.specs.declared.error.JourneyError.{JourneyError}
use Rattle.journeys.specs.declared.error.JourneyError.TheVariants.{PolicyBad, JourneyBad, ConnectionUnknown}
use Rattle.journeys.specs.Answers.{number_of}
use Rattle.journeys.specs.Guarantees.{Asked, StopsWhereItFails, LowestIsUnstopped, StoppedInOrder}
use Rattle.journeys.proofs.Guarantees.{fails_where, not_taken_where, carries_none, lowest_is_told}

module _ (p urls : List ℕ) (c : ℕ) where
  -- ---- the place

  -- by what the code has found there
  pub stop_is : (i u : ℕ) (v : Verdict) (b : Bool) → v ≡ judged p urls c i → u ≡ url_at p urls i → b ≡ of_url_number p c u v
      → record { number = accepted; place = i; refusal = v.number; missing = v.missing; url = u; of_url = branch b 1 0 } ≡ stop_at p urls c i
  stop_is i u v b e f g = rw (g, f, e)

  pub at_most : fails_at p urls c ≤ length urls
  unfolding fails_at
  at_most = lowest_most (length urls) (λ i. not (takes p urls c i))

  carries_not_where : fails_at p urls c < length urls → carries p urls c ≡ false
  carries_not_where l = is_false (carries p urls c) (carries_none p urls c (fails_at p urls c, l, not_taken_where p urls c l))

  carries_where : length urls ≤ fails_at p urls c → carries p urls c ≡ true
  carries_where l = go (carries p urls c) refl
    where
      go : (b : Bool) → carries p urls c ≡ b → carries p urls c ≡ true
      go true e = e
      go false e = absurd (omega (arith, l, fails_where p urls c (subst (λ (b : Bool). T (not b)) (sym e) tt)))

  -- the place where it fails is not taken
  pub taken_nowhere : (i : ℕ) → i ≡ fails_at p urls c → i < length urls → takes p urls c i ≡ true → ⊥
  taken_nowhere i e l t = T_not (takes p urls c i) (rw e (not_taken_where p urls c (omega (arith, e, l)))) (subst T (sym t) tt)

  pub stop_failing : carries p urls c ≡ false → stop p urls c ≡ stop_at p urls c (fails_at p urls c)
  unfolding stop
  stop_failing e = rw e

  stop_carried : carries p urls c ≡ true → stop p urls c ≡ no_stop urls
  unfolding stop
  stop_carried e = rw e

  pub stops_there : fails_at p urls c < length urls → stop_at p urls c (fails_at p urls c) ≡ stop p urls c
  stops_there l = sym (stop_failing (carries_not_where l))

  pub stops_nowhere : length urls ≤ fails_at p urls c → no_stop urls ≡ stop p urls c
  stops_nowhere l = sym (stop_carried (carries_where l))

  -- ---- what is answered by whether it is refused

  pub policy_stops : well_formed p ≡ false → refused_stop policy_bad ≡ stopped p urls c
  unfolding stopped first_of branch
  policy_stops e = rw e

  pub journey_stops : well_formed p ≡ true → is_journey p urls ≡ false → refused_stop journey_bad ≡ stopped p urls c
  unfolding stopped first_of branch
  journey_stops e f = rw (e, f)

  pub connection_stops : well_formed p ≡ true → is_journey p urls ≡ true → connections ≤ c → refused_stop connection_unknown ≡ stopped p urls c
  unfolding stopped first_of branch
  connection_stops e f l = rw (e, f, le-ltb c connections l)

  -- by the number of what is refused of the policy and the journey
  pub stopped_refused : (e : JourneyError) → number_of e ≡ first_of (journey_refusals p urls) accepted → refused_stop (number_of e) ≡ stopped p urls c
  unfolding stopped
  stopped_refused e h =
      let first : first_of (stop_refusals p urls c) accepted ≡ number_of e =
      in_a_row accepted (journey_refusals p urls) (refuse connection_unknown (not (ltb c connections)) ∷ [])
      ∙ refused_on (λ n. n) (journey_refusals p urls) _ (λ z. other e (h ∙ z))
      ∙ sym h in
      rw first (told e)
    where
      other : (e : JourneyError) → number_of e ≡ accepted → ⊥
      other PolicyBad q = omega (arith, q)
      other JourneyBad q = omega (arith, q)
      other ConnectionUnknown q = omega (arith, q)

      told : (e : JourneyError) → refused_stop (number_of e) ≡ cond (eqb (number_of e) accepted) (stop p urls c) (refused_stop (number_of e))
      told PolicyBad = refl
      told JourneyBad = refl
      told ConnectionUnknown = refl

  pub asked_stopped : Asked p urls → c < connections → stopped p urls c ≡ stop p urls c
  unfolding stopped first_of branch
  asked_stopped (formed, journey) l = rw (is_true (well_formed p) formed, is_true (is_journey p urls) journey, lt-ltb c connections l)

-- ---- the statements

pub stops_where_it_fails : StopsWhereItFails
stops_where_it_fails p urls c l asked = (
  λ t. asked_stopped p urls c asked l ∙ stop_carried p urls c (is_true (carries p urls c) t),
  λ t. (fails_where p urls c t, asked_stopped p urls c asked l ∙ stop_failing p urls c (is_false (carries p urls c) t)),
)

module _ (p urls : List ℕ) (asked : Asked p urls) (c : ℕ) (l : c < connections) where
  abbrev place : ℕ
  place = (stopped p urls c).place

  carried_place : T (carries p urls c) → place ≡ length urls
  carried_place t = ap (λ (s : Stop). s.place) ((stops_where_it_fails p urls c l asked).0 t)

  failing_place : T (not (carries p urls c)) → place < length urls
  failing_place t =
      let (below, is) = (stops_where_it_fails p urls c l asked).1 t in
      omega (arith, below, ap (λ (s : Stop). s.place) is)

  place_carried : place ≡ length urls → T (carries p urls c)
  place_carried e = go (carries p urls c) refl
    where
      go : (b : Bool) → carries p urls c ≡ b → T b
      go true q = tt
      go false q = omega (arith, e, failing_place (subst (λ (b : Bool). T (not b)) (sym q) tt))

  place_failing : place < length urls → T (not (carries p urls c))
  place_failing k = not_T (carries p urls c) (λ t. omega (arith, k, carried_place t))

pub lowest_is_unstopped : LowestIsUnstopped
lowest_is_unstopped p urls c l asked = (
  λ e.
      let (_, lowest) = (lowest_is_told p urls c l).0 e in
      (carried_place p urls asked c l lowest.0, λ d k. failing_place p urls asked d (omega (arith, k, l)) (lowest.1 d k)),
  λ lowest.
      (lowest_is_told p urls c l).1 asked
      (place_carried p urls asked c l lowest.0, λ d k. place_failing p urls asked d (omega (arith, k, l)) (lowest.1 d k)),
)

pub stopped_in_order : StoppedInOrder
stopped_in_order p urls c = (
  λ bad. sym (policy_stops p urls c (is_false (well_formed p) bad)),
  λ formed bad. sym (journey_stops p urls c (is_true (well_formed p) formed) (is_false (is_journey p urls) bad)),
  λ asked l. sym (connection_stops p urls c (is_true (well_formed p) asked.0) (is_true (is_journey p urls) asked.1) l),
)
