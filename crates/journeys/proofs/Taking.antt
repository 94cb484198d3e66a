-- The monitor takes a journey as it is judged: fed its records from the empty state, it answers at each place what labels say there, as long as the
-- places before it were taken.
use Rattle.prelude.proofs.Kit.{ℕ, ◌≤◌, ◌<◌, ◌+◌, suc, zero, arith, true, not, List, ◌∷◌, [], ◌≡◌, sym, ◌∙◌, refl, ap, ap₂, subst, T, eqb, ◌*◌}
use Rattle.prelude.proofs.Kit.{T_not, eqb→eq, ltb→lt, lt→ltb, le-ltb, eq-eqb, ne_eqb, and_i, length, get_or}
use native.Mathlib.Nat.{le_refl}
use Rattle.prelude.specs.Choice.{branch, keep}
use Rattle.prelude.specs.Refusals.{accepted, first_of, answering}
use Rattle.prelude.proofs.Choices.{parts, joined, is_true, branch_true}
use Rattle.prelude.proofs.Refusals.{NoneOf, none_applies}
use Rattle.labels.proofs.Below.{all_at}
use Rattle.records.specs.declared.Direction.TheVariants.{Input}
use Rattle.records.specs.Bytes.{number}
use Rattle.records.specs.Layout.{load, redirect, widths, start, size, split, from_values}
use Rattle.records.specs.Codec.{is_one_of, no_key_set, keys_of, map_unknown, keys_zero, length_other, read_refusal, read_refusals, fields_of, decoded}
use Rattle.machine.specs.Policy.{url_rows, connections, is_url, well_formed, upgraded}
use Rattle.machine.specs.Session.{state_words, free, document_kind, packed, url_of, has, connection_word, sound, store_cookies, Effects, send}
use Rattle.machine.specs.Scripts.{table_bytes, stopped}
use Rattle.machine.specs.Machine.{Redirect, Load, Arrival, Event, cookies_of, arrived_of, event_of, event_in, named, pending, awaited, output_room, Verdict, plain, lent_refusals, label_refusals, event_refusals, verdict, receive, perform, outcome, feed}
use Rattle.machine.specs.Guarantees.{told_in}
use Rattle.machine.proofs.Accepted.{in_parts}
use Rattle.machine.proofs.ConnectionWords.{kind_packed, origin_packed, handler_packed, url_packed}
use Rattle.machine.proofs.StateWords.{connection_here}
use Rattle.machine.proofs.Soundness.{empty_sound, sound_kept}
use Rattle.journeys.specs.Journey.{url_at, event_at, judged, takes, carries, fails_at}
use Rattle.journeys.specs.Guarantees.{Asked, record_at, state_at, fed_at, ToldIsTaken, FedAsJudged, RefusedAsTold}
use Rattle.journeys.proofs.Judging.{asked_there}
use Rattle.journeys.proofs.Guarantees.{lowest_is_told, fails_where, taken_before, not_taken_where}

-- ---- what the records say

-- a record can be read, and says this event
abbrev Says : List ℕ → List ℕ → Event → Type 0
Says p bytes e = NoneOf (read_refusals Input bytes) × (event_in p bytes ≡ e)

-- a byte is read as itself
byte : (x : ℕ) → x * 1 + 0 ≡ x
byte x = omega arith

module _ (p : List ℕ) (u c : ℕ) where
  load_says : Says p (load ∷ u ∷ c ∷ []) (Load (upgraded p u) c)
  unfolding number widths start size split from_values is_one_of no_key_set keys_of map_unknown keys_zero length_other read_refusal fields_of decoded first_of branch event_of
  load_says = ((refl, (refl, (refl, tt))), ap₂ (λ (x y : ℕ). Load (upgraded p x) y) (byte u) (byte c))

  redirect_says : (t : ℕ) → Says p (redirect ∷ u ∷ c ∷ t ∷ []) (Arrival u c [] (Redirect (upgraded p t)))
  unfolding number widths start size split from_values is_one_of no_key_set keys_of map_unknown keys_zero length_other read_refusal fields_of decoded first_of branch keep has cookies_of arrived_of event_of
  redirect_says t = (
    (refl, (refl, (refl, tt))),
    ap₂ (λ (x y : ℕ). Arrival x y [] (Redirect (upgraded p (t * 1 + 0)))) (byte u) (byte c) ∙ ap (λ (z : ℕ). Arrival u c [] (Redirect (upgraded p z))) (byte t),
  )

-- ---- a record that names something and is waited for

module _ (p scripts s bytes out : List ℕ) (event : Event) (room : output_room ≤ length out) (formed : T (well_formed p)) (table : length scripts ≡ table_bytes)
    (safe : T (sound p s)) (says : Says p bytes event) (names : T (named p event)) (waits : T (awaited s event)) where
  labels_answer : verdict p scripts s bytes out ≡ first_of (label_refusals p event) (plain accepted)
  unfolding first_of branch
  labels_answer =
      in_parts p scripts s bytes out
      ∙ none_applies _ (lent_refusals p scripts s out)
      (le-ltb (length out) output_room room, (ap not (is_true (well_formed p) formed), (ap not (eq-eqb (length scripts) table_bytes table), (ap not (is_true (sound p s) safe), tt))))
      ∙ none_applies _ (answering plain (read_refusals Input bytes)) says.0
      ∙ ap (λ (e : Event). first_of (event_refusals p s e) (plain accepted)) says.1
      ∙ rw (is_true (named p event) names, is_true (awaited s event) waits)

  pub told_by_labels : told_in (feed p scripts s bytes out) ≡ first_of (label_refusals p event) (plain accepted)
  unfolding feed outcome
  told_by_labels = labels_answer

  pub state_after : (first_of (label_refusals p event) (plain accepted)).number ≡ accepted → (feed p scripts s bytes out).state ≡ (perform p scripts s event).state
  unfolding feed outcome
  state_after e =
      ap (λ (done : Effects). done.state)
      (branch_true (eqb (verdict p scripts s bytes out).number accepted) _ (stopped s)
      (subst T (sym (eq-eqb (verdict p scripts s bytes out).number accepted (ap (λ (v : Verdict). v.number) labels_answer ∙ e))) tt))
      ∙ ap (λ (e : Event). (perform p scripts s e).state) says.1

-- ---- the state

-- a connection waits for the document of a URL
abbrev Waits : List ℕ → ℕ → ℕ → Type 0
Waits s c u = connection_word s c ≡ packed document_kind 0 0 u

module _ (p scripts s : List ℕ) (c u : ℕ) (whole : length s ≡ state_words) (lc : c < connections) where
  load_waits : Waits (perform p scripts s (Load u c)).state c u
  unfolding perform send
  load_waits = connection_here s c (packed document_kind 0 0 u) whole lc

  module _ (small : u < url_rows) (w : Waits s c u) where
    packed_open : packed document_kind 0 0 u ≡ free → ⊥
    unfolding packed
    packed_open e = omega (arith, e)

    is_pending : T (pending s c u)
    unfolding pending
    is_pending =
        rw (w, ne_eqb (packed document_kind 0 0 u) free packed_open, eq-eqb (url_of (packed document_kind 0 0 u)) u (url_packed document_kind 0 0 u (omega arith) (omega arith) (omega arith))) tt

    redirect_waits : (t : ℕ) → Waits (perform p scripts s (Arrival u c [] (Redirect t))).state c t
    unfolding perform receive send store_cookies
    redirect_waits t =
        rw (w, kind_packed document_kind 0 0 u (omega arith) (omega arith) (omega arith), origin_packed document_kind 0 0 u (omega arith) (omega arith) (omega arith), handler_packed document_kind 0 0 u (omega arith) (omega arith) (omega arith))
        (connection_here s c (packed document_kind 0 0 t) whole lc)

-- ---- place by place

module _ (p scripts urls : List ℕ) (c : ℕ) (buffers : ℕ → List ℕ) (table : length scripts ≡ table_bytes) (room : (i : ℕ) → output_room ≤ length (buffers i))
    (lc : c < connections) (asked : Asked p urls) where
  abbrev state : ℕ → List ℕ
  state = state_at p scripts urls c buffers

  -- before a place is fed, the state is sound, and the connection waits for the URL before it
  abbrev Held : ℕ → Type 0
  Held zero = Unit {0}
  Held (suc i) = Waits (state (suc i)) c (url_at p urls i)

  pub record Ready (i : ℕ) : Type 0 where
    pub safe : T (sound p (state i))
    pub held : Held i

  there : (i : ℕ) → i < length urls → T (is_url p (url_at p urls i))
  there i l = asked_there p urls asked.1 asked.0 i l

  row : (i : ℕ) → i < length urls → url_at p urls i < url_rows
  unfolding is_url
  row i l = let t = there i l in ltb→lt (url_at p urls i) url_rows (search parts)

  whole : {i : ℕ} → Ready i → length (state i) ≡ state_words
  unfolding sound
  whole {i} r = let t = r.safe in eqb→eq (length (state i)) state_words (search parts)

  says : (i : ℕ) → Says p (record_at p urls c i) (event_at p urls c i)
  says zero = load_says p (get_or urls 0 0) c
  says (suc i) = redirect_says p (url_at p urls i) c (get_or urls (suc i) 0)

  names : (i : ℕ) → i < length urls → T (named p (event_at p urls c i))
  unfolding named
  names zero l = let u = there zero l in let n = lt→ltb c connections lc in search joined
  names (suc i) l = let u = there i (omega arith) in let t = there (suc i) l in let n = lt→ltb c connections lc in search joined

  waits : (i : ℕ) → i < length urls → Ready i → T (awaited (state i) (event_at p urls c i))
  unfolding awaited
  waits zero l r = tt
  waits (suc i) l r = and_i (pending (state (suc i)) c (url_at p urls i)) true (is_pending p scripts (state (suc i)) c (url_at p urls i) (whole r) lc (row i (omega arith)) r.held) tt

  -- what labels say is what is answered
  answered : (i : ℕ) → i < length urls → Ready i → told_in (fed_at p scripts urls c buffers i) ≡ judged p urls c i
  unfolding judged
  answered i l r =
      told_by_labels p scripts (state i) (record_at p urls c i) (buffers i) (event_at p urls c i) (room i) asked.0 table r.safe (says i) (names i l) (waits i l r)

  next : (i : ℕ) → i < length urls → Ready i → T (takes p urls c i) → Ready (suc i)
  unfolding judged
  next i l r t = record {
    safe = sound_kept p scripts (state i) (record_at p urls c i) (buffers i) r.safe;
    held = subst (λ (s : List ℕ). Waits s c (url_at p urls i)) (sym after) (moved i l r);
  }
    where
      after : state (suc i) ≡ (perform p scripts (state i) (event_at p urls c i)).state
      after =
          state_after p scripts (state i) (record_at p urls c i) (buffers i) (event_at p urls c i) (room i) asked.0 table r.safe (says i) (names i l) (waits i l r)
          (eqb→eq (judged p urls c i).number accepted t)

      moved : (i : ℕ) → i < length urls → Ready i → Waits (perform p scripts (state i) (event_at p urls c i)).state c (url_at p urls i)
      moved zero l r = load_waits p scripts (state zero) c (url_at p urls zero) (whole r) lc
      moved (suc j) l r =
          redirect_waits p scripts (state (suc j)) c (url_at p urls j) (whole r) lc (row j (omega arith)) r.held (url_at p urls (suc j))

  ready : (i : ℕ) → i ≤ length urls → ((j : ℕ) → j < i → T (takes p urls c j)) → Ready i
  ready zero l all = record { safe = empty_sound p; held = tt }
  ready (suc i) l all = next i l (ready i (omega (arith, l)) (λ j k. all j (omega (arith, k)))) (all i (le_refl (suc i)))

-- ---- the statements

pub fed_as_judged : FedAsJudged
fed_as_judged p scripts urls c buffers table room lc asked i l all =
    answered p scripts urls c buffers table room lc asked i l (ready p scripts urls c buffers table room lc asked i (omega (arith, l)) all)

pub told_is_taken : ToldIsTaken
unfolding carries
told_is_taken p scripts urls c buffers table room lc e i l =
    let (asked, lowest) = (lowest_is_told p urls c lc).0 e in
    let all : (j : ℕ) → j < length urls → T (takes p urls c j) = all_at (length urls) (takes p urls c) lowest.0 in (
      ap (λ (v : Verdict). v.number) (fed_as_judged p scripts urls c buffers table room lc asked i l (λ j k. all j (omega (arith, k, l))))
          ∙ eqb→eq (judged p urls c i).number accepted (all i l),
      (ready p scripts urls c buffers table room lc asked (suc i) l (λ j k. all j (omega (arith, k, l)))).held,
    )

pub refused_as_told : RefusedAsTold
refused_as_told p scripts urls c buffers table room lc asked none =
    let i = fails_at p urls c in
    let l = fails_where p urls c none in
    let said = fed_as_judged p scripts urls c buffers table room lc asked in
    let number : Verdict → ℕ = λ v. v.number in
    let here = said i l (taken_before p urls c) in (
      l,
      λ j k. ap number (said j (omega (arith, k, l)) (λ h m. taken_before p urls c h (omega (arith, m, k))))
          ∙ eqb→eq (judged p urls c j).number accepted (taken_before p urls c j k),
      λ e. T_not (takes p urls c i) (not_taken_where p urls c l) (subst T (sym (eq-eqb (judged p urls c i).number accepted (sym (ap number here) ∙ e))) tt),
      here,
    )
