-- An observer as data: what it sees of sessions, records and requests, and the laws that a policy's tests must give it. Readers and Writers are
-- instances. States that agree are those that the observer cannot tell apart.
use Rattle.prelude.proofs.Kit.{ℕ, ◌<◌, arith, Bool, not, List, ◌++◌, map, ◌≡◌, sym, ◌∙◌, refl, ap, subst, T, T_not, length, ℕ_discrete}
use Rattle.prelude.specs.Choice.{keep}
use Rattle.prelude.proofs.Choices.{keep_append, map_append}
use Rattle.labels.specs.Addresses.{hosts}
use Rattle.records.specs.declared.Record.{Record}
use Rattle.labels.specs.Membership.{is_none}
use Rattle.machine.specs.Policy.{host_keys, connections, cookie_index, url_host, is_url, may_store, may_carry, may_read, may_write, may_send, fit_missing_reader, redirect_missing_reader, redirect_missing_writer}
use Rattle.machine.specs.Session.{state_words, cookie_value, present, has, connection_word, set_cookie, set_connection}
use Rattle.machine.specs.Machine.{cookies_of}
use Rattle.machine.specs.Runs.{Observation, observed}
use Rattle.machine.proofs.StateWords.{length_cookie, length_connection, value_here, value_elsewhere, present_here, present_elsewhere, connection_past_cookie, connection_here, connection_elsewhere, value_past_connection, presence_past_connection}

pub record Observer : Type 0 where
  -- a cookie of the jar, by its index; a connection's word
  pub sees_cookie : ℕ → Bool
  pub sees_connection : ℕ → Bool
  -- all that the scripts of a connection may read
  pub sees_script : ℕ → Bool
  -- that a URL is loaded; that it is requested; and the cookie with a key on such a request
  pub sees_load : ℕ → Bool
  pub sees_request : ℕ → Bool
  pub sees_attached : ℕ → ℕ → Bool

pub record Laws (p : List ℕ) (v : Observer) : Type 0 where
  pub stores : (n c : ℕ) → T (may_store p n c) → T (v.sees_cookie c) → T (v.sees_connection n)
  pub scripts : (n : ℕ) → n < connections → T (v.sees_script n) → T (v.sees_connection n)
  pub reads : (n c : ℕ) → T (may_read p n c) → T (v.sees_script n) → T (v.sees_cookie c)
  pub writes : (n c : ℕ) → T (may_write p n c) → T (v.sees_cookie c) → T (v.sees_script n)
  pub sends : (n u m : ℕ) → T (may_send p n u m) → T (v.sees_request u) → T (v.sees_script n)
  pub opens : (n u m : ℕ) → T (may_send p n u m) → T (v.sees_connection m) → T (v.sees_script n)
  pub attaches :
      (u k : ℕ) → T (may_carry p u k) → T (v.sees_request u) → T (v.sees_attached u k) → T (v.sees_cookie (cookie_index (url_host p u) k))
  pub loads : (n u : ℕ) → T (is_none (fit_missing_reader p n u)) → T (v.sees_connection n) → T (v.sees_load u)
  pub requests : (u : ℕ) → T (is_url p u) → T (v.sees_request u) → T (v.sees_load u)
  pub redirects : (n t : ℕ) → T (is_none (redirect_missing_reader p n t)) → T (is_none (redirect_missing_writer p n t)) → T (v.sees_request t) → T (v.sees_connection n)

-- ---- requests as an observer sees them

unfoldable pub observation_by : Observer → Record → Observation
observation_by v r = observed (keep (λ c. v.sees_attached r.url c.key) (cookies_of r)) r

unfoldable pub observations_by : Observer → List Record → List Observation
observations_by v rs = map (observation_by v) (keep (λ r. v.sees_request r.url) rs)

pub observations_append : (v : Observer) (rs qs : List Record) → observations_by v (rs ++ qs) ≡ observations_by v rs ++ observations_by v qs
unfolding observations_by
observations_append v rs qs = ap (map (observation_by v)) (keep_append (λ r. v.sees_request r.url) rs qs) ∙ map_append (observation_by v) (keep (λ r. v.sees_request r.url) rs) _

-- ---- states that agree

pub record Agree (v : Observer) (s t : List ℕ) : Type 0 where
  pub left : length s ≡ state_words
  pub right : length t ≡ state_words
  pub cookies :
      (h k : ℕ) → h < hosts → k < host_keys → T (v.sees_cookie (cookie_index h k))
      → (present s h k ≡ present t h k) × (cookie_value s (cookie_index h k) ≡ cookie_value t (cookie_index h k))
  pub words : (n : ℕ) → n < connections → T (v.sees_connection n) → connection_word s n ≡ connection_word t n

pub agree_refl : (v : Observer) (s : List ℕ) → length s ≡ state_words → Agree v s s
agree_refl v s e = record { left = e; right = e; cookies = λ h k lh lk t. (refl, refl); words = λ n l t. refl }

pub agree_sym : (v : Observer) (s t : List ℕ) → Agree v s t → Agree v t s
agree_sym v s t a = record {
  left = a.right;
  right = a.left;
  cookies = λ h k lh lk m. (sym (a.cookies h k lh lk m).0, sym (a.cookies h k lh lk m).1);
  words = λ n l m. sym (a.words n l m);
}

pub agree_trans : (v : Observer) (s t u : List ℕ) → Agree v s t → Agree v t u → Agree v s u
agree_trans v s t u a b = record {
  left = a.left;
  right = b.right;
  cookies = λ h k lh lk m. ((a.cookies h k lh lk m).0 ∙ (b.cookies h k lh lk m).0, (a.cookies h k lh lk m).1 ∙ (b.cookies h k lh lk m).1);
  words = λ n l m. a.words n l m ∙ b.words n l m;
}

-- ---- a change that is not seen

module _ (v : Observer) (s : List ℕ) (whole : length s ≡ state_words) where
  pub unseen_cookie : (h k x : ℕ) → h < hosts → k < host_keys → T (not (v.sees_cookie (cookie_index h k))) → Agree v s (set_cookie h k x s)
  unseen_cookie h k x lh lk hidden = record {
    left = whole;
    right = length_cookie h k x s ∙ whole;
    cookies = λ g j lg lj m.
        let other : cookie_index g j ≡ cookie_index h k → ⊥ = λ e. T_not (v.sees_cookie (cookie_index h k)) hidden (subst (λ (i : ℕ). T (v.sees_cookie i)) e m) in
        (sym (present_elsewhere s whole h k x lh lk g j lj other), sym (value_elsewhere s whole h k x lh lk (cookie_index g j) (omega arith) other));
    words = λ n l m. sym (connection_past_cookie s whole h k x lh lk n);
  }

  pub unseen_connection : (n w : ℕ) → T (not (v.sees_connection n)) → Agree v s (set_connection n w s)
  unseen_connection n w hidden = record {
    left = whole;
    right = length_connection n w s ∙ whole;
    cookies = λ h k lh lk m.
        (ap (λ (x : ℕ). has x k) (sym (presence_past_connection s n w h lh)), sym (value_past_connection s n w (cookie_index h k) (omega arith)));
    words = λ m l seen. sym (connection_elsewhere s n w m (λ e. T_not (v.sees_connection n) hidden (subst (λ (i : ℕ). T (v.sees_connection i)) e seen)));
  }

-- ---- the same change on both sides

module _ (v : Observer) (s t : List ℕ) (a : Agree v s t) where
  pub same_cookie : (h k x : ℕ) → h < hosts → k < host_keys → Agree v (set_cookie h k x s) (set_cookie h k x t)
  same_cookie h k x lh lk = record {
    left = length_cookie h k x s ∙ a.left;
    right = length_cookie h k x t ∙ a.right;
    cookies = λ g j lg lj m. elim (ℕ_discrete (cookie_index g j) (cookie_index h k)) [
      | yes e ↦ here g j (omega arith) (omega arith)
      | no ne ↦ (
        present_elsewhere s a.left h k x lh lk g j lj ne ∙ (a.cookies g j lg lj m).0 ∙ sym (present_elsewhere t a.right h k x lh lk g j lj ne),
        value_elsewhere s a.left h k x lh lk (cookie_index g j) (omega arith) ne ∙ (a.cookies g j lg lj m).1 ∙ sym (value_elsewhere t a.right h k x lh lk (cookie_index g j) (omega arith) ne),
      )
    ];
    words = λ n l m. connection_past_cookie s a.left h k x lh lk n ∙ a.words n l m ∙ sym (connection_past_cookie t a.right h k x lh lk n);
  }
    where
      here : (g j : ℕ) → g ≡ h → j ≡ k
          → (present (set_cookie h k x s) g j ≡ present (set_cookie h k x t) g j)
          × (cookie_value (set_cookie h k x s) (cookie_index g j) ≡ cookie_value (set_cookie h k x t) (cookie_index g j))
      here g j eg ej =
          rw (eg, ej) (
            present_here s a.left h k x lh lk ∙ sym (present_here t a.right h k x lh lk),
            value_here s a.left h k x lh lk ∙ sym (value_here t a.right h k x lh lk),
          )

  pub same_connection_lem : (n w : ℕ) → n < connections → Agree v (set_connection n w s) (set_connection n w t)
  same_connection_lem n w l = record {
    left = length_connection n w s ∙ a.left;
    right = length_connection n w t ∙ a.right;
    cookies = λ h k lh lk m. (
      ap (λ (x : ℕ). has x k) (presence_past_connection s n w h lh) ∙ (a.cookies h k lh lk m).0 ∙ ap (λ (x : ℕ). has x k) (sym (presence_past_connection t n w h lh)),
      value_past_connection s n w (cookie_index h k) (omega arith) ∙ (a.cookies h k lh lk m).1 ∙ sym (value_past_connection t n w (cookie_index h k) (omega arith)),
    );
    words = λ m k seen. elim (ℕ_discrete m n) [
      | yes e ↦ rw e (connection_here s n w a.left l ∙ sym (connection_here t n w a.right l))
      | no ne ↦ connection_elsewhere s n w m ne ∙ a.words m k seen ∙ sym (connection_elsewhere t n w m ne)
    ];
  }
