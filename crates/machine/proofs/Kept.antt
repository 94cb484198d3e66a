-- What the machine keeps through stores, requests, script steps and events: a sound state, Q of each cookie value and register, and R of each
-- request that is sent; and how many requests there are at most. Sound states, the sizes of words and URLs that are kept from http are its instances.
use Rattle.prelude.proofs.Kit.{ℕ, ◌≤◌, ◌<◌, ◌+◌, suc, ◌^◌, zero, ◌*◌, zero-le, ◌%◌, arith, ◌&&◌, List, ◌∷◌, [], refl, T}
use Rattle.prelude.proofs.Kit.{eqb→eq, ltb→lt, length, get_or, set, length-append}
use lib.Dec.{lit≤}
use Rattle.prelude.proofs.Choices.{parts, joined, one}
use Rattle.labels.specs.Membership.{is_none}
use Rattle.labels.specs.Addresses.{hosts}
use Rattle.records.specs.declared.Direction.TheVariants.{Input}
use Rattle.records.specs.declared.Record.{Record}
use Rattle.records.specs.Layout.{key_numbers}
use Rattle.records.specs.Codec.{decoded}
use Rattle.machine.specs.Policy.{host_keys, connections, cookie_index, url_host, is_url, upgraded, is_connection, fits, may_send, redirect_missing_reader, redirect_missing_writer}
use Rattle.machine.specs.Session.{presence_at, cookie_value, connection_word, free, document_kind, script_kind, picture_kind, packed, kind_of, origin_of, handler_of, url_of, kind_sound, url_sound, Cookie, set_cookie, store_cookie, store_cookies, set_connection, request, Effects, send}
use Rattle.machine.specs.Scripts.{step_limit, script_at, Step, end, constant, add, read_cookie, write_cookie, send_request, skip_if_zero, send_picture, step_of, step_at, Progress, register, is_script, ended, goes_on, goes_on_after, requested, step, stopped, followed, run_from, starting_with, run_script}
use Rattle.machine.specs.Machine.{Arrived, DocumentResponse, ScriptResponse, PictureResponse, Redirect, Event, Load, Arrival, event_in, carries_names, named, pending, of_kind, awaited, to_target, missing_reader, missing_writer, receive, perform}
use Rattle.machine.proofs.Lists.{Each, each_append, each_set, each_at}
use Rattle.machine.proofs.Accepted.{Passed}
use Rattle.machine.proofs.Missing.{redirect_fits}
use Rattle.machine.proofs.Events.{KeysBelow, EventKeys, event_keys, EventCookies, event_cookies, ArrivedValue, EventValue, event_value, Asked, ArrivedAsks, EventAsks, event_asks}
use Rattle.machine.proofs.SoundStates.{Sound, sound_of, cookie_kept, connection_kept, connection_freed, open_fields, word_fields, script_fields_lem, fields_word, fields_moved}

-- Q and R that are kept: Q of 0 and of a sum, R of a request on an open connection, to a URL that is asked for
pub record Keeps (p : List ℕ) (Q : ℕ → Type 0) (R : Record → Type 0) : Type 0 where
  pub none : Q 0
  pub wrapped : (x : ℕ) → Q (x % 2 ^ 32)
  pub asked : (s : List ℕ) (n k o h u : ℕ) → Sound p Q s → n < connections → T (open_fields p n k o h u) → Asked p u → R (request p s n k h u)

-- for Q or R of which nothing is asked
abbrev pub Any : {A : Type 0} → A → Type 0
Any x = Unit {0}

-- the effects of at most so many requests
abbrev pub Good : List ℕ → (ℕ → Type 0) → (Record → Type 0) → ℕ → Effects → Type 0
Good p Q R most e = Sound p Q e.state × Each R e.sent × (length e.sent ≤ most)

abbrev Going : List ℕ → (ℕ → Type 0) → (Record → Type 0) → Progress → Type 0
Going p Q R d = Each Q d.registers × Sound p Q d.state × Each R d.sent × (length d.sent ≤ 1)

-- the constants of a script table
abbrev StepValue : (ℕ → Type 0) → Step → Type 0
StepValue Q end = Unit {0}
StepValue Q (constant a v) = Q v
StepValue Q (add a b c) = Unit {0}
StepValue Q (read_cookie a k) = Unit {0}
StepValue Q (write_cookie k b) = Unit {0}
StepValue Q (send_request u m h) = Unit {0}
StepValue Q (skip_if_zero a b) = Unit {0}
StepValue Q (send_picture u m) = Unit {0}

abbrev CodeValues : (ℕ → Type 0) → List ℕ → Type 0
CodeValues Q code = (i : ℕ) → Q (256 * get_or code (4 * i + 2) 0 + get_or code (4 * i + 3) 0)

abbrev pub TableValues : (ℕ → Type 0) → List ℕ → Type 0
TableValues Q scripts = (x : ℕ) → CodeValues Q (script_at scripts x)

step_value : (Q : ℕ → Type 0) (code : List ℕ) → CodeValues Q code → (i : ℕ) → StepValue Q (step_at code i)
unfolding step_at step_of
step_value Q code q i =
    let S = StepValue Q in
    one S _ (λ _. q i) (λ _. one S _ (λ _. tt) (λ _. one S _ (λ _. tt) (λ _. one S _ (λ _. tt) (λ _. one S _ (λ _. tt) (λ _. one S _ (λ _. tt) (λ _. one S _ (λ _. tt) (λ _. tt)))))))

module _ (p : List ℕ) (Q : ℕ → Type 0) (R : Record → Type 0) (laws : Keeps p Q R) where
  -- ---- cookies that are brought, and requests
  store_kept : (n h : ℕ) → h < hosts → (cs : List Cookie) → KeysBelow cs → Each (λ (c : Cookie). Q c.value) cs → (s : List ℕ) → Sound p Q s
      → Sound p Q (store_cookies p n h cs s)
  unfolding store_cookies store_cookie
  store_kept n h l [] keys values s good = good
  store_kept n h l (c ∷ cs) keys values s good =
      store_kept n h l cs keys.1 values.1 (store_cookie p n h c s)
      (one (Sound p Q) _ (λ _. cookie_kept p Q s good h c.key c.value l keys.0 values.0) (λ _. good))

  send_kept : (n k o h u most : ℕ) → 1 ≤ most → n < connections → T (open_fields p n k o h u) → Asked p u → (s : List ℕ) → Sound p Q s
      → Good p Q R most (send p n k o h u s)
  unfolding send
  send_kept n k o h u most lm l t a s good =
      (connection_kept p Q s good n (packed k o h u) l (fields_word p n k o h u t), (laws.asked s n k o h u good l t a, tt), lm)

  stops : (most : ℕ) (s : List ℕ) → Sound p Q s → Good p Q R most (stopped s)
  unfolding stopped
  stops most s good = (good, tt, zero-le)

  -- ---- the script of a response on connection n, for a page that is a URL
  module _ (n page : ℕ) (url : T (is_url p page)) where
    module _ (i : ℕ) (rs s : List ℕ) (all : Each Q rs) (good : Sound p Q s) where
      ends : Going p Q R (ended rs s)
      unfolding ended
      ends = (all, good, tt, zero-le)

      goes : Going p Q R (goes_on i rs s)
      unfolding goes_on
      goes = (all, good, tt, zero-le)

      -- a request of a kind whose origin and handler are right where the handler is a script
      sends : (k o h u m : ℕ) → (T (is_script h) → T (kind_sound p k o h)) → Asked p u
          → T (is_url p u && (is_connection m && (is_script h && may_send p n u m))) → Going p Q R (goes_on_after (suc i) rs (send p m k o h u s))
      unfolding goes_on_after url_sound may_send
      sends k o h u m right a t =
          let kind = right (search parts) in
          let fit : T (fits p m u) = search parts depth 7 in
          let e = send_kept m k o h u 1 (lit≤ tt) (ltb→lt m connections (search parts)) (search joined) a s good in
          (all, e.0, e.1, e.2)

      requests : (k o h u m : ℕ) → (T (is_script h) → T (kind_sound p k o h)) → Going p Q R (requested p n k o h (upgraded p u) m i rs s)
      unfolding requested
      requests k o h u m right = one (Going p Q R) _ (sends k o h (upgraded p u) m right (u, refl)) (λ _. ends)

    step_kept : (st : Step) → StepValue Q st → (i : ℕ) (rs s : List ℕ) → Each Q rs → Sound p Q s → Going p Q R (step p n page st i rs s)
    unfolding step kind_sound
    step_kept end q i rs s all good = ends i rs s all good
    step_kept (constant a v) q i rs s all good =
        one (Going p Q R) _ (λ _. goes (suc i) (set rs a v) s (each_set Q rs a v q all) good) (λ _. ends i rs s all good)
    step_kept (add a b c) q i rs s all good =
        let x = register rs b + register rs c in
        one (Going p Q R) _ (λ _. goes (suc i) (set rs a (x % 2 ^ 32)) s (each_set Q rs a (x % 2 ^ 32) (laws.wrapped x) all) good) (λ _. ends i rs s all good)
    step_kept (read_cookie a k) q i rs s all good =
        let c = cookie_index (url_host p page) k in
        let v = cookie_value s c in
        one (Going p Q R) _
        (λ t. let l = ltb→lt k host_keys (search parts) in goes (suc i) (set rs a v) s (each_set Q rs a v (good.values c (omega arith)) all) good)
        (λ _. ends i rs s all good)
    step_kept (write_cookie k b) q i rs s all good =
        let h = url_host p page in
        let v = register rs b in
        one (Going p Q R) _
        (λ t. one (Going p Q R) _
        (λ _. goes (suc i) rs (set_cookie h k v s) all (cookie_kept p Q s good h k v (omega arith) (ltb→lt k host_keys (search parts)) (each_at Q 0 laws.none rs all b)))
        (λ _. goes (suc i) rs s all good))
        (λ _. ends i rs s all good)
    step_kept (send_request u m h) q i rs s all good = requests i rs s all good script_kind page h u m (λ handler. search joined)
    step_kept (skip_if_zero a b) q i rs s all good =
        one (Going p Q R) _ (λ _. one (Going p Q R) _ (λ _. goes (suc i + b) rs s all good) (λ _. goes (suc i) rs s all good)) (λ _. ends i rs s all good)
    step_kept (send_picture u m) q i rs s all good = requests i rs s all good picture_kind 0 0 u m (λ _. tt)

    run_kept : (fuel : ℕ) (code : ℕ → Step) → ((i : ℕ) → StepValue Q (code i)) → (i : ℕ) (rs s : List ℕ) → Each Q rs → Sound p Q s
        → Good p Q R fuel (run_from fuel code p n page i rs s)
    unfolding run_from followed
    run_kept zero code qs i rs s all good = stops 0 s good
    run_kept (suc fuel) code qs i rs s all good =
        let done = step p n page (code i) i rs s in
        let (registers, state, sent, few) = step_kept (code i) (qs i) i rs s all good in
        let rest = run_kept fuel code qs done.place done.registers done.state registers state in
        let next = run_from fuel code p n page done.place done.registers done.state in
        one (λ (f : List ℕ → Effects). Good p Q R (suc fuel) (f s)) _
        (λ _. (rest.0, each_append R done.sent next.sent sent rest.1, omega (arith, length-append done.sent next.sent, few, rest.2)))
        (λ _. stops (suc fuel) s good)

  -- ---- an event that passes the tests
  module _ (scripts : List ℕ) (table : TableValues Q scripts) (s : List ℕ) (good : Sound p Q s) where
    -- a response: cookies are stored, the connection is freed, a script runs
    response_kept : (u n : ℕ) (cs : List Cookie) (page x v : ℕ) → n < connections → KeysBelow cs → Each (λ (c : Cookie). Q c.value) cs → T (is_url p page) → Q v
        → Good p Q R step_limit (run_script p scripts n page x v (set_connection n free (store_cookies p n (url_host p u) cs s)))
    unfolding run_script
    response_kept u n cs page x v l keys values url q =
        let z = laws.none in
        let code = script_at scripts x in
        let stored = store_cookies p n (url_host p u) cs s in
        run_kept n page url step_limit (step_at code) (step_value Q code (table x)) 0 (starting_with v) (set_connection n free stored) (q, (z, (z, (z, tt))))
        (connection_freed p Q stored (store_kept n (url_host p u) (omega arith) cs keys values s good) n l)

    receive_kept : (u n : ℕ) (cs : List Cookie) (what : Arrived) → T (is_url p u) → n < connections → T (carries_names p what) → T (pending s n u)
        → T (of_kind (kind_of (connection_word s n)) what) → T (is_none (to_target (redirect_missing_reader p n) what)) → T (is_none (to_target (redirect_missing_writer p n) what))
        → KeysBelow cs → Each (λ (c : Cookie). Q c.value) cs → ArrivedValue Q what → ArrivedAsks p what
        → Good p Q R step_limit (receive p scripts n (connection_word s n) what (store_cookies p n (url_host p u) cs s))
    unfolding receive pending url_sound
    receive_kept u n cs (DocumentResponse x) url l names waits kind r w keys values q a =
        let page = url_of (connection_word s n) in
        response_kept u n cs page x 0 l keys values (rw (eqb→eq page u (search parts)) url) laws.none
    receive_kept u n cs (ScriptResponse v) url l names waits kind r w keys values q a =
        let word = connection_word s n in
        let t = word_fields p n word (good.words n l) (search parts) in
        response_kept u n cs (origin_of word) (handler_of word) v l keys values (script_fields_lem p (kind_of word) (origin_of word) (handler_of word) (search parts) kind).0 q
    receive_kept u n cs PictureResponse url l names waits kind r w keys values q a =
        let stored = store_cookies p n (url_host p u) cs s in
        stops step_limit (set_connection n free stored) (connection_freed p Q stored (store_kept n (url_host p u) (omega arith) cs keys values s good) n l)
    receive_kept u n cs (Redirect v) url l names waits kind r w keys values q a =
        let fit = redirect_fits p n v r w in
        let word = connection_word s n in
        let t = word_fields p n word (good.words n l) (search parts) in
        send_kept n (kind_of word) (origin_of word) (handler_of word) v step_limit (lit≤ tt) l (fields_moved p n (kind_of word) (origin_of word) (handler_of word) (url_of word) t v (search joined)) a
        (store_cookies p n (url_host p u) cs s) (store_kept n (url_host p u) (omega arith) cs keys values s good)

    perform_kept : (e : Event) → T (named p e) → T (awaited s e) → T (is_none (missing_reader p e)) → T (is_none (missing_writer p e))
        → EventKeys e → EventCookies (λ (c : Cookie). Q c.value) e → EventValue Q e → EventAsks p e → Good p Q R step_limit (perform p scripts s e)
    unfolding perform named awaited missing_reader missing_writer kind_sound url_sound fits
    perform_kept (Load u n) a b c d keys values q asks =
        send_kept n document_kind 0 0 u step_limit (lit≤ tt) (ltb→lt n connections (search parts)) (search joined) asks s good
    perform_kept (Arrival u n cs what) a b c d keys values q asks =
        receive_kept u n cs what (search parts) (ltb→lt n connections (search parts)) (search parts) (search parts) (search parts) c d keys values q asks

-- ---- a record that is accepted, with Q of the state's and the record's values
module _ (p : List ℕ) (Q : ℕ → Type 0) (R : Record → Type 0) (laws : Keeps p Q R) (scripts s bytes out : List ℕ) where
  abbrev fields : Record
  fields = (decoded Input bytes).fields

  pub accepted_good : TableValues Q scripts → ((c : ℕ) → c < presence_at → Q (cookie_value s c)) → Each (λ k. Q (get_or fields.cookies k 0)) key_numbers → Q fields.value
      → Passed p scripts s bytes out → Good p Q R step_limit (perform p scripts s (event_in p bytes))
  accepted_good table values brought value ok =
      perform_kept p Q R laws scripts table s (sound_of p Q s ok.state values) (event_in p bytes) ok.names ok.waits ok.readers ok.writers
      (event_keys p fields) (event_cookies p fields (λ (c : Cookie). Q c.value) brought) (event_value p fields Q value) (event_asks p fields)
