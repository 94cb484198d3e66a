-- The lowest connection that carries a journey is told, none where each fails on some URL, and the first refusal that applies, with zeros.
use Rattle.prelude.proofs.Kit.{ℕ, ◌<◌, arith, true, Bool, false, not, List, ◌≡◌, sym, ◌∙◌, refl, ap, subst, T, T_not, not_T, eqb→eq, length, ⊎_elim}
use native.Mathlib.Nat.{eq-or-lt_of_le}
use Rattle.prelude.specs.Choice.{branch}
use Rattle.prelude.specs.Refusals.{accepted, first_of}
use Rattle.prelude.proofs.Choices.{parts, is_true, is_false, passes}
use Rattle.prelude.proofs.Lowest.{lowest_is, lowest_none, lowest_most, lowest_passes, below_lowest}
use Rattle.prelude.proofs.Refusals.{none_applies, none_applied, number_of_lem}
use Rattle.labels.proofs.Below.{all_at, all_of}
use Rattle.machine.specs.Policy.{policy_words, connections, well_formed}
use Rattle.machine.specs.Machine.{policy_bad}
use Rattle.journeys.specs.declared.Found.{Found}
use Rattle.journeys.specs.Journey.{takes, carries, journey_bad, is_journey, journey_refusals, carrier, refused, told, found, fails_at}
use Rattle.journeys.specs.declared.error.JourneyError.{JourneyError}
use Rattle.journeys.specs.declared.error.JourneyError.TheVariants.{PolicyBad, JourneyBad, ConnectionUnknown}
use Rattle.journeys.specs.Answers.{number_of}
use Rattle.journeys.specs.Given.{Journey}
use Rattle.journeys.specs.Guarantees.{Asked, LowestCarries, LowestIsTold, Fails, NoneIsTold, RefusedInOrder}

module _ (p urls : List ℕ) where
  abbrev refusal : ℕ
  refusal = first_of (journey_refusals p urls) accepted

  -- ---- what is answered by whether it is refused

  pub policy_refused : well_formed p ≡ false → refused policy_bad ≡ found p urls
  unfolding found first_of branch
  policy_refused e = rw e

  pub journey_refused : well_formed p ≡ true → is_journey p urls ≡ false → refused journey_bad ≡ found p urls
  unfolding found first_of branch
  journey_refused e f = rw (e, f)

  -- by the number of what is refused, and by 0
  pub found_refused : (e : JourneyError) → number_of e ≡ refusal → refused (number_of e) ≡ found p urls
  unfolding found
  found_refused PolicyBad e = rw (← e)
  found_refused JourneyBad e = rw (← e)
  found_refused ConnectionUnknown e = rw (← e)

  pub found_told : (c : ℕ) → accepted ≡ refusal → c ≡ carrier p urls → told c ≡ found p urls
  unfolding found
  found_told c e f = rw (← e, f)

  found_number : (found p urls).number ≡ refusal
  unfolding found
  found_number = number_of_lem (λ (r : Found). r.number) (told (carrier p urls)) refused refusal refl refl

  pub asked : refusal ≡ accepted → Asked p urls
  asked e =
      let (formed, (journey, _)) = none_applied (journey_refusals p urls) tt e in
      (passes (well_formed p) formed, passes (is_journey p urls) journey)

  pub found_asked : (found p urls).number ≡ accepted → Asked p urls
  found_asked e = asked (sym found_number ∙ e)

  pub asked_found : Asked p urls → found p urls ≡ told (carrier p urls)
  unfolding found
  asked_found (formed, journey) =
      rw (none_applies accepted (journey_refusals p urls) (ap not (is_true (well_formed p) formed), (ap not (is_true (is_journey p urls) journey), tt)))

  told_carrier : (c : ℕ) → found p urls ≡ told c → Asked p urls × (carrier p urls ≡ c)
  told_carrier c e =
      let asked = found_asked (ap (λ (r : Found). r.number) e) in
      (asked, ap (λ (r : Found). r.connection) (sym (asked_found asked) ∙ e))

  pub asked_given : Asked p urls → Journey p urls
  unfolding well_formed
  asked_given (formed, journey) = record { policy = record { long = eqb→eq (length p) policy_words (search parts); formed = formed }; journey = journey }

  -- ---- a connection that does not carry the journey

  module _ (c : ℕ) where
    twice : (b : Bool) → T (not (not b)) → T b
    twice true t = tt
    twice false t = t

    pub fails_where : T (not (carries p urls c)) → fails_at p urls c < length urls
    unfolding carries fails_at
    fails_where t =
        ⊎_elim
        (λ e. absurd (T_not (carries p urls c) t (all_of (length urls) (takes p urls c) (λ i l. twice (takes p urls c i) (below_lowest (length urls) failing i (omega (arith, e, l)))))))
        (λ l. l)
        (eq-or-lt_of_le (lowest_most (length urls) failing))
      where
        failing : ℕ → Bool
        failing i = not (takes p urls c i)

    pub not_taken_where : fails_at p urls c < length urls → T (not (takes p urls c (fails_at p urls c)))
    unfolding fails_at
    not_taken_where l = lowest_passes (length urls) (λ i. not (takes p urls c i)) l

    pub taken_before : (i : ℕ) → i < fails_at p urls c → T (takes p urls c i)
    unfolding fails_at
    taken_before i l = twice (takes p urls c i) (below_lowest (length urls) (λ i. not (takes p urls c i)) i l)

    fails : T (not (carries p urls c)) → Fails p urls c
    fails t = let l = fails_where t in (fails_at p urls c, l, not_taken_where l)

    pub carries_none : Fails p urls c → T (not (carries p urls c))
    unfolding carries
    carries_none (i, l, t) = not_T (carries p urls c) (λ all. T_not (takes p urls c i) t (all_at (length urls) (takes p urls c) all i l))

-- ---- the statements

pub lowest_is_told : LowestIsTold
lowest_is_told p urls c l = (
  λ e.
      let (asked, is) = told_carrier p urls c e in
      (asked, subst (LowestCarries p urls) is (lowest_passes connections (carries p urls) (omega (arith, is, l)), below_lowest connections (carries p urls))),
  λ asked lowest. asked_found p urls asked ∙ ap told (lowest_is connections (carries p urls) c l lowest.0 lowest.1),
)

pub none_is_told : NoneIsTold
none_is_told p urls = (
  λ e.
      let (asked, is) = told_carrier p urls connections e in
      (asked, λ c l. fails p urls c (below_lowest connections (carries p urls) c (omega (arith, is, l)))),
  λ asked each. asked_found p urls asked ∙ ap told (lowest_none connections (carries p urls) (λ c l. carries_none p urls c (each c l))),
)

pub refused_in_order : RefusedInOrder
refused_in_order p urls = (
  λ bad. sym (policy_refused p urls (is_false (well_formed p) bad)),
  λ formed bad. sym (journey_refused p urls (is_true (well_formed p) formed) (is_false (is_journey p urls) bad)),
)
