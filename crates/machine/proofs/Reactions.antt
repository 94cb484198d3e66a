-- What an observer sees of one event: an event that it does not see changes nothing visible, and an event that it sees does the same to
-- states that agree, whatever unseen cookies it brings.
use Rattle.prelude.proofs.Kit.{ℕ, ◌<◌, arith, ◌&&◌, Bool, not, List, ◌∷◌, [], ◌≡◌, refl, ap, subst, T, eqb, length}
use Rattle.prelude.specs.Choice.{branch, keep}
use Rattle.prelude.proofs.Choices.{parts, one, two}
use Rattle.labels.specs.Addresses.{hosts}
use Rattle.labels.specs.Membership.{is_none}
use Rattle.machine.specs.Policy.{host_keys, connections, cookie_index, url_host, may_store, redirect_missing_reader, redirect_missing_writer}
use Rattle.machine.specs.Session.{state_words, free, document_kind, connection_word, kind_of, origin_of, handler_of, url_of, Cookie, store_cookie, store_cookies, set_connection}
use Rattle.machine.specs.Scripts.{run_script}
use Rattle.machine.specs.Machine.{Arrived, DocumentResponse, ScriptResponse, PictureResponse, Redirect, Event, Load, Arrival, named, pending, of_kind, awaited, to_target, missing_reader, missing_writer, receive, perform}
use Rattle.machine.specs.Runs.{cookies_where}
use Rattle.machine.proofs.Accepted.{allowed, allowed_by, react}
use Rattle.machine.proofs.Events.{KeysBelow, EventKeys, connection_below}
use Rattle.machine.proofs.Observer.{Observer, Laws, Agree, agree_refl, agree_trans, agree_sym, unseen_cookie, unseen_connection, same_cookie, same_connection_lem}
use Rattle.machine.proofs.Unwinding.{Alike, Quiet, unseen, stopped_alike, stopped_quiet, after_quiet, send_alike, send_quiet, script_alike, script_quiet}

-- whether it sees an event, and what it sees of it
unfoldable pub sees_event : Observer → Event → Bool
sees_event v (Load u n) = v.sees_load u
sees_event v (Arrival u n cs what) = v.sees_connection n

unfoldable pub seen_of : List ℕ → Observer → Event → Event
seen_of p v (Load u n) = Load u n
seen_of p v (Arrival u n cs what) = Arrival u n (cookies_where v.sees_cookie p u cs) what

-- what is left of an event where all is struck that it does not see
unfoldable pub seen : List ℕ → Observer → Event → List Event
seen p v e = branch (sees_event v e) (seen_of p v e ∷ []) []

module _ (p : List ℕ) (v : Observer) (laws : Laws p v) where
  -- ---- delivered cookies

  module _ (n h : ℕ) (lh : h < hosts) where
    store_one : (c : Cookie) (s t : List ℕ) → c.key < host_keys → Agree v s t → Agree v (store_cookie p n h c s) (store_cookie p n h c t)
    unfolding store_cookie
    store_one c s t l a =
        let may = may_store p n (cookie_index h c.key) in
        two (Agree v) may may refl (λ _. same_cookie v s t a h c.key c.value lh l) (λ _. a)

    store_unseen : (c : Cookie) (s : List ℕ) → length s ≡ state_words → c.key < host_keys
        → (T (may_store p n (cookie_index h c.key)) → T (not (v.sees_cookie (cookie_index h c.key)))) → Agree v s (store_cookie p n h c s)
    unfolding store_cookie
    store_unseen c s whole l hidden =
        one (Agree v s) (may_store p n (cookie_index h c.key)) (λ m. unseen_cookie v s whole h c.key c.value lh l (hidden m)) (λ _. agree_refl v s whole)

    -- all of them, against those that are seen
    store_alike : (cs : List Cookie) → KeysBelow cs → (s t : List ℕ) → Agree v s t
        → Agree v (store_cookies p n h cs s) (store_cookies p n h (keep (λ c. v.sees_cookie (cookie_index h c.key)) cs) t)
    unfolding store_cookies keep
    store_alike [] below s t a = a
    store_alike (c ∷ cs) below s t a =
        one (λ (l : List Cookie). Agree v (store_cookies p n h cs (store_cookie p n h c s)) (store_cookies p n h l t)) (v.sees_cookie (cookie_index h c.key))
        (λ _. store_alike cs below.1 (store_cookie p n h c s) (store_cookie p n h c t) (store_one c s t below.0 a))
        (λ hidden. store_alike cs below.1 (store_cookie p n h c s) t
        (agree_trans v (store_cookie p n h c s) s t (agree_sym v s (store_cookie p n h c s) (store_unseen c s a.left below.0 (λ _. hidden))) a))

    store_quiet : T (not (v.sees_connection n)) → (cs : List Cookie) → KeysBelow cs → (s : List ℕ) → length s ≡ state_words → Agree v s (store_cookies p n h cs s)
    unfolding store_cookies
    store_quiet hidden [] below s whole = agree_refl v s whole
    store_quiet hidden (c ∷ cs) below s whole =
        let i = cookie_index h c.key in
        let a = store_unseen c s whole below.0 (λ m. unseen (v.sees_cookie i) (v.sees_connection n) (laws.stores n i m) hidden) in
        agree_trans v s (store_cookie p n h c s) (store_cookies p n h cs (store_cookie p n h c s)) a (store_quiet hidden cs below.1 (store_cookie p n h c s) a.right)

  -- ---- an event

  module _ (scripts : List ℕ) where
    -- a response frees its connection, and a script runs
    respond_quiet : (n page x value : ℕ) (s : List ℕ) → n < connections → T (not (v.sees_connection n)) → length s ≡ state_words
        → Quiet v s (run_script p scripts n page x value (set_connection n free s))
    respond_quiet n page x value s l hidden whole =
        let a = unseen_connection v s whole n free hidden in
        after_quiet v s (set_connection n free s) _ a
        (script_quiet p v laws scripts n page x value (set_connection n free s) a.right (unseen (v.sees_script n) (v.sees_connection n) (laws.scripts n l) hidden))

    receive_quiet : (n word : ℕ) (what : Arrived) (s : List ℕ) → n < connections → T (not (v.sees_connection n)) → length s ≡ state_words
        → T (is_none (to_target (redirect_missing_reader p n) what)) → T (is_none (to_target (redirect_missing_writer p n) what)) → Quiet v s (receive p scripts n word what s)
    unfolding receive
    receive_quiet n word (DocumentResponse x) s l hidden whole r w = respond_quiet n (url_of word) x 0 s l hidden whole
    receive_quiet n word (ScriptResponse value) s l hidden whole r w = respond_quiet n (origin_of word) (handler_of word) value s l hidden whole
    receive_quiet n word PictureResponse s l hidden whole r w =
        let a = unseen_connection v s whole n free hidden in
        after_quiet v s (set_connection n free s) _ a (stopped_quiet v (set_connection n free s) a.right)
    receive_quiet n word (Redirect t) s l hidden whole r w =
        send_quiet p v laws n (kind_of word) (origin_of word) (handler_of word) t s whole hidden
        (unseen (v.sees_request t) (v.sees_connection n) (laws.redirects n t r w) hidden)

    perform_quiet : (e : Event) (s : List ℕ) → T (named p e) → EventKeys e → T (not (sees_event v e)) → length s ≡ state_words
        → T (is_none (missing_reader p e)) → T (is_none (missing_writer p e)) → Quiet v s (perform p scripts s e)
    unfolding perform named sees_event missing_reader missing_writer
    perform_quiet (Load u n) s ok below hidden whole r w =
        send_quiet p v laws n document_kind 0 0 u s whole
        (unseen (v.sees_connection n) (v.sees_load u) (laws.loads n u r) hidden)
        (unseen (v.sees_request u) (v.sees_load u) (laws.requests u (search parts)) hidden)
    perform_quiet (Arrival u n cs what) s ok below hidden whole r w =
        let a = store_quiet n (url_host p u) (omega arith) hidden cs below s whole in
        after_quiet v s _ _ a
        (receive_quiet n (connection_word s n) what _ (connection_below p (Arrival u n cs what) ok) hidden a.right r w)

    receive_alike : (n word : ℕ) (what : Arrived) (s t : List ℕ) → n < connections → Agree v s t
        → Alike v (receive p scripts n word what s) (receive p scripts n word what t)
    unfolding receive
    receive_alike n word (DocumentResponse x) s t l a = script_alike p v laws scripts n (url_of word) x 0 _ _ (same_connection_lem v s t a n free l)
    receive_alike n word (ScriptResponse value) s t l a =
        script_alike p v laws scripts n (origin_of word) (handler_of word) value _ _ (same_connection_lem v s t a n free l)
    receive_alike n word PictureResponse s t l a = stopped_alike v _ _ (same_connection_lem v s t a n free l)
    receive_alike n word (Redirect to) s t l a = send_alike p v laws n (kind_of word) (origin_of word) (handler_of word) to s t l a

    perform_alike : (e : Event) (s t : List ℕ) → T (named p e) → EventKeys e → T (sees_event v e) → Agree v s t
        → Alike v (perform p scripts s e) (perform p scripts t (seen_of p v e))
    unfolding perform sees_event seen_of cookies_where
    perform_alike (Load u n) s t ok below seen a = send_alike p v laws n document_kind 0 0 u s t (connection_below p (Load u n) ok) a
    perform_alike (Arrival u n cs what) s t ok below seen a =
        let l = connection_below p (Arrival u n cs what) ok in
        let s' = store_cookies p n (url_host p u) cs s in
        let t' = store_cookies p n (url_host p u) (cookies_where v.sees_cookie p u cs) t in
        subst (λ (w : ℕ). Alike v (receive p scripts n (connection_word s n) what s') (receive p scripts n w what t')) (a.words n l seen)
        (receive_alike n (connection_word s n) what s' t' l (store_alike n (url_host p u) (omega arith) cs below s t a))

    -- the judgements of the two sides are the same
    awaited_alike : (e : Event) (s t : List ℕ) → T (named p e) → T (sees_event v e) → Agree v s t → awaited s e ≡ awaited t (seen_of p v e)
    unfolding sees_event seen_of awaited pending
    awaited_alike (Load u n) s t ok seen a = refl
    awaited_alike (Arrival u n cs what) s t ok seen a =
        ap (λ (w : ℕ). not (eqb w free) && eqb (url_of w) u && of_kind (kind_of w) what)
        (a.words n (connection_below p (Arrival u n cs what) ok) seen)

    readers_alike : (e : Event) → missing_reader p e ≡ missing_reader p (seen_of p v e)
    unfolding seen_of missing_reader
    readers_alike (Load u n) = refl
    readers_alike (Arrival u n cs what) = refl

    writers_alike : (e : Event) → missing_writer p e ≡ missing_writer p (seen_of p v e)
    unfolding seen_of missing_writer
    writers_alike (Load u n) = refl
    writers_alike (Arrival u n cs what) = refl

    allowed_alike : (e : Event) (s t : List ℕ) → T (named p e) → T (sees_event v e) → Agree v s t → allowed p s e ≡ allowed p t (seen_of p v e)
    unfolding allowed
    allowed_alike e s t ok seen a = rw (awaited_alike e s t ok seen a, readers_alike e, writers_alike e)

    pub react_alike : (e : Event) (s t : List ℕ) → T (named p e) → EventKeys e → T (sees_event v e) → Agree v s t
        → Alike v (react p scripts s e) (react p scripts t (seen_of p v e))
    unfolding react
    react_alike e s t ok below seen a =
        two (Alike v) (allowed p s e) (allowed p t (seen_of p v e)) (allowed_alike e s t ok seen a)
        (λ _. perform_alike e s t ok below seen a) (λ _. stopped_alike v s t a)

    pub react_quiet : (e : Event) (s : List ℕ) → T (named p e) → EventKeys e → T (not (sees_event v e)) → length s ≡ state_words → Quiet v s (react p scripts s e)
    unfolding react
    react_quiet e s ok below hidden whole =
        one (Quiet v s) (allowed p s e)
        (λ may. let (waits, readers, writers) = allowed_by p s e may in perform_quiet e s ok below hidden whole readers writers)
        (λ _. stopped_quiet v s whole)
