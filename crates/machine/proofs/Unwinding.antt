-- Alike and quiet: two sides that an observer cannot tell apart, and one side that shows it nothing. Sending a request, and a script's run, are
-- alike from states that agree where the observer sees what the script may read, and quiet where it does not.
use Rattle.prelude.proofs.Kit.{ℕ, ◌<◌, ◌+◌, suc, zero, arith, ◌&&◌, Bool, not, List, [], ◌++◌, ⊎_elim, ◌≡◌, sym, ◌∙◌, refl, ap, subst, ap₂}
use Rattle.prelude.proofs.Kit.{T, eqb, ltb, ltb→lt, T_not, not_T, length, set}
use Rattle.prelude.specs.Choice.{keep}
use Rattle.prelude.proofs.Choices.{parts, either, and_alike, one, two}
use Rattle.machine.specs.Policy.{host_keys, connections, cookie_index, url_host, is_url, upgraded, is_connection, may_read, may_write, may_send}
use Rattle.machine.specs.Session.{state_words, script_kind, picture_kind, cookie_value, present, packed, Effects, send}
use Rattle.machine.specs.Scripts.{script_steps, step_limit, Step, end, constant, add, read_cookie, write_cookie, send_request, skip_if_zero, send_picture, step_at, script_at, Progress, register, is_register, is_key, is_script, ended, goes_on, goes_on_after, requested, step, stopped, followed, run_from, starting_with, run_script}
use Rattle.machine.proofs.Observer.{Observer, Laws, Agree, observations_by, observations_append, agree_refl, agree_sym, agree_trans, unseen_cookie, unseen_connection, same_cookie, same_connection_lem}
use Rattle.machine.proofs.SeenRequests.{unseen_request, same_request}

-- what is not seen by one test is not seen by another that needs it
pub unseen : (x y : Bool) → (T x → T y) → T (not y) → T (not x)
unseen x y f h = not_T x (λ t. T_not y h (f t))

pub record Alike (v : Observer) (a b : Effects) : Type 0 where
  pub states : Agree v a.state b.state
  pub requests : observations_by v a.sent ≡ observations_by v b.sent

pub record Quiet (v : Observer) (s : List ℕ) (e : Effects) : Type 0 where
  pub states : Agree v s e.state
  pub requests : observations_by v e.sent ≡ []

no_observations : (v : Observer) → observations_by v [] ≡ []
unfolding observations_by keep
no_observations v = refl

pub stopped_alike : (v : Observer) (s t : List ℕ) → Agree v s t → Alike v (stopped s) (stopped t)
unfolding stopped
stopped_alike v s t a = record { states = a; requests = refl }

pub stopped_quiet : (v : Observer) (s : List ℕ) → length s ≡ state_words → Quiet v s (stopped s)
unfolding stopped
stopped_quiet v s whole = record { states = agree_refl v s whole; requests = no_observations v }

-- quiet on both sides
pub quiet_alike : (v : Observer) (s t : List ℕ) (a b : Effects) → Agree v s t → Quiet v s a → Quiet v t b → Alike v a b
quiet_alike v s t a b g qa qb = record {
  states = agree_trans v a.state s b.state (agree_sym v s a.state qa.states) (agree_trans v s t b.state g qb.states);
  requests = qa.requests ∙ sym qb.requests;
}

-- quiet from a state that a quiet change led to
pub after_quiet : (v : Observer) (s t : List ℕ) (e : Effects) → Agree v s t → Quiet v t e → Quiet v s e
after_quiet v s t e g q = record { states = agree_trans v s t e.state g q.states; requests = q.requests }

module _ (p : List ℕ) (v : Observer) (laws : Laws p v) where
  -- ---- sending

  pub send_alike : (n kind origin handler u : ℕ) (s t : List ℕ) → n < connections → Agree v s t → Alike v (send p n kind origin handler u s) (send p n kind origin handler u t)
  unfolding send
  send_alike n kind origin handler u s t l a = record {
    states = same_connection_lem v s t a n (packed kind origin handler u) l;
    requests = same_request p v n kind handler u laws s t a;
  }

  pub send_quiet : (n kind origin handler u : ℕ) (s : List ℕ) → length s ≡ state_words → T (not (v.sees_connection n)) → T (not (v.sees_request u))
      → Quiet v s (send p n kind origin handler u s)
  unfolding send
  send_quiet n kind origin handler u s whole hn hu = record {
    states = unseen_connection v s whole n (packed kind origin handler u) hn;
    requests = unseen_request p v n kind handler u s hu;
  }

  -- ---- one step

  record Lock (a b : Progress) : Type 0 where
    pub place : a.place ≡ b.place
    pub registers : a.registers ≡ b.registers
    pub states : Agree v a.state b.state
    pub requests : observations_by v a.sent ≡ observations_by v b.sent

  record QuietStep (s : List ℕ) (a : Progress) : Type 0 where
    pub states : Agree v s a.state
    pub requests : observations_by v a.sent ≡ []

  module _ (n page : ℕ) where
    abbrev h : ℕ
    h = url_host p page

    ends : (rs s t : List ℕ) → Agree v s t → Lock (ended rs s) (ended rs t)
    unfolding ended
    ends rs s t a = record { place = refl; registers = refl; states = a; requests = refl }

    goes : (i : ℕ) (rs qs s t : List ℕ) → rs ≡ qs → Agree v s t → Lock (goes_on i rs s) (goes_on i qs t)
    unfolding goes_on
    goes i rs qs s t e a = record { place = refl; registers = e; states = a; requests = refl }

    goes_after : (i : ℕ) (rs : List ℕ) (e f : Effects) → Alike v e f → Lock (goes_on_after i rs e) (goes_on_after i rs f)
    unfolding goes_on_after
    goes_after i rs e f a = record { place = refl; registers = refl; states = a.states; requests = a.requests }

    -- what the script may read is seen
    readable : T (v.sees_script n) → (k : ℕ) (s t : List ℕ) → Agree v s t → T (is_key k) → T (may_read p n (cookie_index h k))
        → (present s h k ≡ present t h k) × (cookie_value s (cookie_index h k) ≡ cookie_value t (cookie_index h k))
    readable seen k s t a lk m = a.cookies h k (omega arith) (ltb→lt k host_keys lk) (laws.reads n (cookie_index h k) m seen)

    requests : (kind origin handler u m i : ℕ) (rs s t : List ℕ) → Agree v s t
        → Lock (requested p n kind origin handler u m i rs s) (requested p n kind origin handler u m i rs t)
    unfolding requested
    requests kind origin handler u m i rs s t a =
        let test = is_url p u && (is_connection m && (is_script handler && may_send p n u m)) in
        two Lock test test refl
        (λ ok. goes_after (suc i) rs _ _ (send_alike m kind origin handler u s t (ltb→lt m connections (search parts)) a))
        (λ _. ends rs s t a)

    -- in lock-step where the observer sees what the script may read
    lock : T (v.sees_script n) → (x : Step) (i : ℕ) (rs s t : List ℕ) → Agree v s t → Lock (step p n page x i rs s) (step p n page x i rs t)
    unfolding step
    lock seen end i rs s t a = ends rs s t a
    lock seen (constant r x) i rs s t a =
        two Lock (is_register r) (is_register r) refl (λ _. goes (suc i) _ _ s t refl a) (λ _. ends rs s t a)
    lock seen (add r x y) i rs s t a =
        let test = is_register r && (is_register x && is_register y) in
        two Lock test test refl (λ _. goes (suc i) _ _ s t refl a) (λ _. ends rs s t a)
    lock seen (read_cookie r k) i rs s t a =
        let c = cookie_index h k in
        two Lock (is_register r && (is_key k && (may_read p n c && present s h k))) (is_register r && (is_key k && (may_read p n c && present t h k)))
        (and_alike (is_register r) (λ _. and_alike (is_key k) (λ lk. and_alike (may_read p n c) (λ m. (readable seen k s t a lk m).0))))
        (λ ok.
        goes (suc i) _ _ s t (ap (set rs r) (readable seen k s t a (search parts) (search parts)).1) a)
        (λ _. ends rs s t a)
    lock seen (write_cookie k r) i rs s t a =
        let test = is_key k && is_register r in
        two Lock test test refl
        (λ ok. two Lock (may_write p n (cookie_index h k)) (may_write p n (cookie_index h k)) refl
        (λ _. goes (suc i) rs rs _ _ refl (same_cookie v s t a h k (register rs r) (omega arith) (ltb→lt k host_keys (search parts))))
        (λ _. goes (suc i) rs rs s t refl a))
        (λ _. ends rs s t a)
    lock seen (send_request u m x) i rs s t a = requests script_kind page x (upgraded p u) m i rs s t a
    lock seen (skip_if_zero r k) i rs s t a =
        two Lock (is_register r) (is_register r) refl
        (λ _. two Lock (eqb (register rs r) 0) (eqb (register rs r) 0) refl (λ _. goes (suc i + k) rs rs s t refl a) (λ _. goes (suc i) rs rs s t refl a))
        (λ _. ends rs s t a)
    lock seen (send_picture u m) i rs s t a = requests picture_kind 0 0 (upgraded p u) m i rs s t a

    -- quiet where it does not
    module _ (hidden : T (not (v.sees_script n))) (s : List ℕ) (whole : length s ≡ state_words) where
      ends_quiet : (rs : List ℕ) → QuietStep s (ended rs s)
      unfolding ended
      ends_quiet rs = record { states = agree_refl v s whole; requests = no_observations v }

      goes_quiet : (i : ℕ) (rs t : List ℕ) → Agree v s t → QuietStep s (goes_on i rs t)
      unfolding goes_on
      goes_quiet i rs t a = record { states = a; requests = no_observations v }

      goes_after_quiet : (i : ℕ) (rs : List ℕ) (e : Effects) → Quiet v s e → QuietStep s (goes_on_after i rs e)
      unfolding goes_on_after
      goes_after_quiet i rs e q = record { states = q.states; requests = q.requests }

      requests_quiet : (kind origin handler u m i : ℕ) (rs : List ℕ) → QuietStep s (requested p n kind origin handler u m i rs s)
      unfolding requested
      requests_quiet kind origin handler u m i rs =
          one (QuietStep s) (is_url p u && (is_connection m && (is_script handler && may_send p n u m)))
          (λ ok.
          let may : T (may_send p n u m) = search parts in
          goes_after_quiet (suc i) rs _ (send_quiet m kind origin handler u s whole (unseen (v.sees_connection m) (v.sees_script n) (laws.opens n u m may) hidden) (unseen (v.sees_request u) (v.sees_script n) (laws.sends n u m may) hidden)))
          (λ _. ends_quiet rs)

      quiet : (x : Step) (i : ℕ) (rs : List ℕ) → QuietStep s (step p n page x i rs s)
      unfolding step
      quiet end i rs = ends_quiet rs
      quiet (constant r x) i rs =
          one (QuietStep s) (is_register r) (λ _. goes_quiet (suc i) _ s (agree_refl v s whole)) (λ _. ends_quiet rs)
      quiet (add r x y) i rs =
          one (QuietStep s) (is_register r && (is_register x && is_register y)) (λ _. goes_quiet (suc i) _ s (agree_refl v s whole)) (λ _. ends_quiet rs)
      quiet (read_cookie r k) i rs =
          one (QuietStep s) (is_register r && (is_key k && (may_read p n (cookie_index h k) && present s h k)))
          (λ _. goes_quiet (suc i) _ s (agree_refl v s whole)) (λ _. ends_quiet rs)
      quiet (write_cookie k r) i rs =
          let c = cookie_index h k in
          one (QuietStep s) (is_key k && is_register r)
          (λ ok. one (QuietStep s) (may_write p n c)
          (λ m. goes_quiet (suc i) rs _ (unseen_cookie v s whole h k (register rs r) (omega arith) (ltb→lt k host_keys (search parts)) (unseen (v.sees_cookie c) (v.sees_script n) (laws.writes n c m) hidden)))
          (λ _. goes_quiet (suc i) rs s (agree_refl v s whole)))
          (λ _. ends_quiet rs)
      quiet (send_request u m x) i rs = requests_quiet script_kind page x (upgraded p u) m i rs
      quiet (skip_if_zero r k) i rs =
          one (QuietStep s) (is_register r)
          (λ _. one (QuietStep s) (eqb (register rs r) 0) (λ _. goes_quiet (suc i + k) rs s (agree_refl v s whole)) (λ _. goes_quiet (suc i) rs s (agree_refl v s whole)))
          (λ _. ends_quiet rs)
      quiet (send_picture u m) i rs = requests_quiet picture_kind 0 0 (upgraded p u) m i rs

    -- ---- a run

    followed_alike : (a b : Progress) (e f : Effects) → Lock a b → Alike v e f → Alike v (followed a e) (followed b f)
    unfolding followed
    followed_alike a b e f l r = record {
      states = r.states;
      requests = observations_append v a.sent e.sent ∙ ap₂ ◌++◌ l.requests r.requests ∙ sym (observations_append v b.sent f.sent);
    }

    followed_quiet : (s : List ℕ) (a : Progress) (e : Effects) → QuietStep s a → Quiet v a.state e → Quiet v s (followed a e)
    unfolding followed
    followed_quiet s a e q r = record {
      states = agree_trans v s a.state e.state q.states r.states;
      requests = observations_append v a.sent e.sent ∙ ap₂ ◌++◌ q.requests r.requests;
    }

    module _ (code : ℕ → Step) where
      steps_alike : T (v.sees_script n) → (fuel i : ℕ) (rs s t : List ℕ) → Agree v s t → Alike v (run_from fuel code p n page i rs s) (run_from fuel code p n page i rs t)
      unfolding run_from
      steps_alike seen zero i rs s t a = stopped_alike v s t a
      steps_alike seen (suc fuel) i rs s t a =
          let l = lock seen (code i) i rs s t a in
          let x = step p n page (code i) i rs s in
          let y = step p n page (code i) i rs t in
          let rest = steps_alike seen fuel x.place x.registers x.state y.state l.states in
          let same_place = subst (λ (j : ℕ). Alike v (run_from fuel code p n page x.place x.registers x.state) (run_from fuel code p n page j x.registers y.state)) l.place rest in
          let same-both = subst (λ (qs : List ℕ). Alike v (run_from fuel code p n page x.place x.registers x.state) (run_from fuel code p n page y.place qs y.state)) l.registers same_place in
          two (λ (f g : List ℕ → Effects). Alike v (f s) (g t)) (ltb i script_steps) (ltb i script_steps) refl
          (λ _. followed_alike x y _ _ l same-both)
          (λ _. stopped_alike v s t a)

      run_quiet : T (not (v.sees_script n)) → (fuel i : ℕ) (rs s : List ℕ) → length s ≡ state_words → Quiet v s (run_from fuel code p n page i rs s)
      unfolding run_from
      run_quiet hidden zero i rs s whole = stopped_quiet v s whole
      run_quiet hidden (suc fuel) i rs s whole =
          let q = quiet hidden s whole (code i) i rs in
          let x = step p n page (code i) i rs s in
          one (λ (f : List ℕ → Effects). Quiet v s (f s)) (ltb i script_steps)
          (λ _. followed_quiet s x _ q (run_quiet hidden fuel x.place x.registers x.state q.states.right))
          (λ _. stopped_quiet v s whole)

  pub script_alike : (scripts : List ℕ) (n page x value : ℕ) (s t : List ℕ) → Agree v s t → Alike v (run_script p scripts n page x value s) (run_script p scripts n page x value t)
  unfolding run_script
  script_alike scripts n page x value s t a =
      let code = step_at (script_at scripts x) in
      ⊎_elim
      (λ (seen : T (v.sees_script n)). steps_alike n page code seen step_limit 0 (starting_with value) s t a)
      (λ (hidden : T (not (v.sees_script n))). quiet_alike v s t _ _ a (run_quiet n page code hidden step_limit 0 (starting_with value) s a.left) (run_quiet n page code hidden step_limit 0 (starting_with value) t a.right))
      (either (v.sees_script n))

  pub script_quiet : (scripts : List ℕ) (n page x value : ℕ) (s : List ℕ) → length s ≡ state_words → T (not (v.sees_script n)) → Quiet v s (run_script p scripts n page x value s)
  unfolding run_script
  script_quiet scripts n page x value s whole hidden = run_quiet n page (step_at (script_at scripts x)) hidden step_limit 0 (starting_with value) s whole
