-- What is missing where 8 or 9 refuses: where none is, their conditions hold, and what is told otherwise is an endpoint.
use Rattle.prelude.proofs.Kit.{ℕ, ◌≤◌, ◌<◌, arith, true, ◌&&◌, Bool, false, not, ◌||◌, List, subst, T, T_not, ltb, ltb→lt, and_i}
use Rattle.prelude.proofs.Choices.{parts, one}
use Rattle.labels.specs.Membership.{endpoints, none_missing, is_none}
use Rattle.labels.specs.Sets.{holds, within, unheld}
use Rattle.labels.proofs.Below.{all_at}
use Rattle.labels.proofs.Membership.{none_missing_lem, missing_most, none_unheld, unheld_most}
use Rattle.machine.specs.Policy.{url_rows, is_entry, url_address, url_readers, url_writers, connection_readers, connection_writers, url_message, url_event, empty_row, is_url, row_well_formed, well_formed}
use Rattle.machine.specs.Policy.{fit_missing_reader, fit_missing_writer, fits, reach_missing_writer, first_missing, redirect_missing_reader, redirect_missing_writer}
use Rattle.machine.specs.Machine.{Arrived, DocumentResponse, ScriptResponse, PictureResponse, Redirect, Event, Load, Arrival, carries_names, named, to_target, missing_reader, missing_writer}

-- of two conditions neither fails
none_first : (m next : ℕ) → T (is_none (first_missing m next)) → T (is_none m) × T (is_none next)
unfolding first_missing
none_first m next = one (λ (x : ℕ). T (is_none x) → T (is_none m) × T (is_none next)) (is_none m) (λ t n. (t, n)) (λ t n. (n, absurd (T_not (is_none m) t n)))

first_most : (m next : ℕ) → m ≤ none_missing → next ≤ none_missing → first_missing m next ≤ none_missing
unfolding first_missing
first_most m next a b = one (λ (x : ℕ). x ≤ none_missing) (is_none m) (λ _. b) (λ _. a)

module _ (p : List ℕ) where
  -- ---- where none is missing

  pub loaded : (n u : ℕ) → T (is_none (fit_missing_reader p n u)) → T (within (connection_readers p n) (url_readers p u))
  unfolding fit_missing_reader
  loaded n u m = subst T (none_missing_lem (holds (connection_readers p n)) (holds (url_readers p u))) m

  redirect_readers : (n t : ℕ) → T (is_none (redirect_missing_reader p n t)) → T (is_none (unheld (connection_readers p n) (url_event p t))) × T (is_none (fit_missing_reader p n t))
  unfolding redirect_missing_reader
  redirect_readers n t m = none_first (unheld (connection_readers p n) (url_event p t)) (fit_missing_reader p n t) m

  pub redirected : (n t : ℕ) → T (is_none (redirect_missing_reader p n t)) → T (holds (connection_readers p n) (url_event p t))
  redirected n t m = subst T (none_unheld (holds (connection_readers p n)) (url_event p t) (omega arith)) (redirect_readers n t m).0

  -- a connection fits what a redirect may lead to on it
  pub redirect_fits : (n t : ℕ) → T (is_none (redirect_missing_reader p n t)) → T (is_none (redirect_missing_writer p n t)) → T (fits p n t)
  unfolding fits redirect_missing_writer
  redirect_fits n t r w =
      and_i (is_none (fit_missing_reader p n t)) (is_none (fit_missing_writer p n t)) (redirect_readers n t r).1
      (none_first (fit_missing_writer p n t) _ w).0

  -- and the connection's writers may lead there
  pub redirect_led : (n t : ℕ) → T (is_none (redirect_missing_writer p n t)) → T (is_none (reach_missing_writer p (connection_writers p n) t))
  unfolding redirect_missing_writer
  redirect_led n t w = (none_first (fit_missing_writer p n t) (reach_missing_writer p (connection_writers p n) t) w).1

  -- ---- no more than 32 is told

  target_most : (f : ℕ → ℕ) (what : Arrived) → T (carries_names p what) → ((t : ℕ) → T (is_url p t) → f t ≤ none_missing) → to_target f what ≤ none_missing
  target_most f (DocumentResponse x) names g = omega arith
  target_most f (ScriptResponse v) names g = omega arith
  target_most f PictureResponse names g = omega arith
  target_most f (Redirect t) names g = g t names

  reach_most : (writers u : ℕ) → reach_missing_writer p writers u ≤ none_missing
  unfolding reach_missing_writer
  reach_most writers u = one (λ (x : ℕ). x ≤ none_missing) (is_entry p u) (λ _. omega arith) (λ _. missing_most (holds writers) (holds (url_writers p u)))

  fit_reader_most : (n u : ℕ) → fit_missing_reader p n u ≤ none_missing
  unfolding fit_missing_reader
  fit_reader_most n u = missing_most (holds (connection_readers p n)) (holds (url_readers p u))

  pub reader_most : (e : Event) → T (named p e) → missing_reader p e ≤ none_missing
  unfolding missing_reader named redirect_missing_reader
  reader_most (Load u n) names = fit_reader_most n u
  reader_most (Arrival u n cs what) names = target_most (redirect_missing_reader p n) what (search parts) (λ t url.
      first_most (unheld (connection_readers p n) (url_event p t)) (fit_missing_reader p n t) (unheld_most (holds (connection_readers p n)) (url_event p t) (omega arith)) (fit_reader_most n t))

  -- ---- a policy that is well formed
  module _ (good : T (well_formed p)) where
    other_half : (x y : Bool) → T (not x) → T (x || y) → T y
    other_half true y t o = absurd t
    other_half false y t o = o

    -- a URL has an address, and its event endpoint among its readers
    full_row : (u : ℕ) → T (is_url p u) → T (ltb (url_address p u) endpoints && holds (url_readers p u) (url_event p u))
    unfolding well_formed is_url row_well_formed
    full_row u t =
        other_half (empty_row p u) (ltb (url_address p u) endpoints && holds (url_readers p u) (url_event p u)) (search parts)
        (all_at url_rows (row_well_formed p) (search parts) u (ltb→lt u url_rows (search parts)))

    pub event_held : (u : ℕ) → T (is_url p u) → T (holds (url_readers p u) (url_event p u))
    event_held u t = let row = full_row u t in search parts

    -- the message endpoint of a URL is an endpoint
    message_below : (u : ℕ) → T (is_url p u) → url_message p u < endpoints
    message_below u t = let row = full_row u t in ltb→lt (url_address p u) endpoints (search parts)

    pub message_held : (n u : ℕ) → T (is_url p u) → T (is_none (fit_missing_writer p n u)) → T (holds (connection_writers p n) (url_message p u))
    unfolding fit_missing_writer
    message_held n u t m = subst T (none_unheld (holds (connection_writers p n)) (url_message p u) (message_below u t)) m

    fit_writer_most : (n u : ℕ) → T (is_url p u) → fit_missing_writer p n u ≤ none_missing
    unfolding fit_missing_writer
    fit_writer_most n u t = unheld_most (holds (connection_writers p n)) (url_message p u) (message_below u t)

    pub writer_most : (e : Event) → T (named p e) → missing_writer p e ≤ none_missing
    unfolding missing_writer named redirect_missing_writer
    writer_most (Load u n) names = fit_writer_most n u (search parts)
    writer_most (Arrival u n cs what) names = target_most (redirect_missing_writer p n) what (search parts) (λ t url.
        first_most (fit_missing_writer p n t) _ (fit_writer_most n t url) (reach_most _ t))
