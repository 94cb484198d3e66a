-- The monitor (document 01, "What each accepted record does" and "The monitor's numbers"): the record as an event, the refusals in
-- their order, what an accepted record does, and `feed`, which is all of it for one call.
use Rattle.std.specs.Prelude.{ℕ, ◌-◌, ◌*◌, ◌^◌, Bool, true, not, ◌&&◌, List, [], ◌∷◌, ◌++◌, map, ltb, eqb, length, get_or}
use Rattle.prelude.specs.Choice.{branch, keep}
use Rattle.prelude.specs.Refusals.{accepted, Refusal, refuse, first_of, answering}
use Rattle.labels.specs.Membership.{none_missing, is_none}
use Rattle.records.specs.declared.Direction.TheVariants.{Input, Request}
use Rattle.records.specs.declared.Record.{Record}
use Rattle.records.specs.Bytes.{bit}
use Rattle.records.specs.Layout.{key_numbers, cookies_bit, load, document_response, script_response, picture_response, longest}
use Rattle.records.specs.Codec.{read_refusals, decoded, write_run}
use Rattle.machine.specs.Policy.{url_host, well_formed, is_url, upgraded, is_connection}
use Rattle.machine.specs.Policy.{fit_missing_reader, fit_missing_writer, redirect_missing_reader, redirect_missing_writer}
use Rattle.machine.specs.Session.{free, document_kind, script_kind, picture_kind, connection_word, kind_of, origin_of, handler_of, url_of, sound}
use Rattle.machine.specs.Session.{has, Cookie, store_cookies, set_connection, Effects, send}
use Rattle.machine.specs.Scripts.{step_limit, table_bytes, is_script, stopped, run_script}

-- ---- what a record says

-- what can arrive on a connection; document 01 calls a response an answer
pub data Arrived : Type 0 where
  DocumentResponse : (script : ℕ) → Arrived
  ScriptResponse : (value : ℕ) → Arrived
  PictureResponse : Arrived
  Redirect : (target : ℕ) → Arrived

-- a page is loaded, or something arrives for a URL, with cookies
pub data Event : Type 0 where
  Load : (url connection : ℕ) → Event
  Arrival : (url connection : ℕ) (cookies : List Cookie) (what : Arrived) → Event

-- a map byte without its bit for cookies
abbrev pub plain_map : ℕ → ℕ
plain_map m = m - 2 ^ cookies_bit * bit m cookies_bit

-- the cookies of a record, lowest key first; none is the record without cookies
unfoldable pub cookies_of : Record → List Cookie
cookies_of r = map (λ k. record { key = k; value = get_or r.cookies k 0 }) (keep (has r.keys) key_numbers)

-- What a record's fields say under a policy, for the maps that an input has. A load's URL and a redirect's target are the ones asked for in
-- place of the record's; the URL that something arrives for is the record's own.
unfoldable pub arrived_of : List ℕ → Record → Arrived
arrived_of p r =
    let m = plain_map r.map in
    branch (eqb m document_response) (DocumentResponse r.script)
    (branch (eqb m script_response) (ScriptResponse r.value)
    (branch (eqb m picture_response) PictureResponse
    (Redirect (upgraded p r.target))))

unfoldable pub event_of : List ℕ → Record → Event
event_of p r =
    branch (eqb (plain_map r.map) load) (Load (upgraded p r.url) r.connection)
    (Arrival r.url r.connection (cookies_of r) (arrived_of p r))

-- what a record's bytes say
abbrev pub event_in : List ℕ → List ℕ → Event
event_in p bytes = event_of p (decoded Input bytes).fields

-- ---- the tests of an event: a refusal applies where its test fails, and 8 and 9 where an endpoint is missing

-- 6: every number that the record carries names something
abbrev pub carries_names : List ℕ → Arrived → Bool
carries_names p (DocumentResponse x) = is_script x
carries_names p (ScriptResponse v) = true
carries_names p PictureResponse = true
carries_names p (Redirect t) = is_url p t

unfoldable pub named : List ℕ → Event → Bool
named p (Load u n) = is_url p u && is_connection n
named p (Arrival u n cs what) = is_url p u && (is_connection n && carries_names p what)

-- connection n is open, and holds URL u
unfoldable pub pending : List ℕ → ℕ → ℕ → Bool
pending s n u = not (eqb (connection_word s n) free) && eqb (url_of (connection_word s n)) u

-- a response is waited for by connections of its kind, a redirect by all
abbrev pub of_kind : ℕ → Arrived → Bool
of_kind kind (DocumentResponse x) = eqb kind document_kind
of_kind kind (ScriptResponse v) = eqb kind script_kind
of_kind kind PictureResponse = eqb kind picture_kind
of_kind kind (Redirect t) = true

-- 7: what arrives is waited for on its connection; a load need not be
unfoldable pub awaited : List ℕ → Event → Bool
awaited s (Load u n) = true
awaited s (Arrival u n cs what) = pending s n u && of_kind (kind_of (connection_word s n)) what

-- what is missing for a redirect's target; for a response none is
abbrev pub to_target : (ℕ → ℕ) → Arrived → ℕ
to_target missing (DocumentResponse x) = none_missing
to_target missing (ScriptResponse v) = none_missing
to_target missing PictureResponse = none_missing
to_target missing (Redirect t) = missing t

-- 8: the conditions on readers, by the endpoint that is missing
unfoldable pub missing_reader : List ℕ → Event → ℕ
missing_reader p (Load u n) = fit_missing_reader p n u
missing_reader p (Arrival u n cs what) = to_target (redirect_missing_reader p n) what

-- 9: the conditions on writers
unfoldable pub missing_writer : List ℕ → Event → ℕ
missing_writer p (Load u n) = fit_missing_writer p n u
missing_writer p (Arrival u n cs what) = to_target (redirect_missing_writer p n) what

-- ---- the numbers

abbrev pub output_short : ℕ
output_short = 1

abbrev pub policy_bad : ℕ
policy_bad = 2

abbrev pub scripts_bad : ℕ
scripts_bad = 3

abbrev pub state_unsound : ℕ
state_unsound = 4

-- 10, 12 and 11, of a malformed record, are decoding's own

abbrev pub name_unknown : ℕ
name_unknown = 6

abbrev pub not_awaited : ℕ
not_awaited = 7

abbrev pub readers_forbid : ℕ
readers_forbid = 8

abbrev pub writers_forbid : ℕ
writers_forbid = 9

-- room for as many requests as a record can send, each as long as can be: 32 × 37 bytes
abbrev pub output_room : ℕ
output_room = step_limit * longest Request

-- a number, with the endpoint that is missing: 8 and 9 tell of one, and every other number of none
pub record Verdict : Type 0 where
  pub number : ℕ
  pub missing : ℕ

abbrev pub plain : ℕ → Verdict
plain number = record { number = number; missing = none_missing }

-- refused where an endpoint is missing, and with it
abbrev pub forbid : ℕ → ℕ → Refusal Verdict
forbid number m = refuse (record { number = number; missing = m }) (not (is_none m))

-- 1 to 4: what is lent, whatever the record says
abbrev pub lent_refusals : List ℕ → List ℕ → List ℕ → List ℕ → List (Refusal Verdict)
lent_refusals p scripts s out =
    refuse (plain output_short) (ltb (length out) output_room)
    ∷ refuse (plain policy_bad) (not (well_formed p))
    ∷ refuse (plain scripts_bad) (not (eqb (length scripts) table_bytes))
    ∷ refuse (plain state_unsound) (not (sound p s))
    ∷ []

-- 8 and 9: what labels forbid, whatever the state
abbrev pub label_refusals : List ℕ → Event → List (Refusal Verdict)
label_refusals p event = forbid readers_forbid (missing_reader p event) ∷ forbid writers_forbid (missing_writer p event) ∷ []

-- 7 to 9: an event that names something
abbrev pub judgements : List ℕ → List ℕ → Event → List (Refusal Verdict)
judgements p s event = refuse (plain not_awaited) (not (awaited s event)) ∷ label_refusals p event

abbrev pub event_refusals : List ℕ → List ℕ → Event → List (Refusal Verdict)
event_refusals p s event = refuse (plain name_unknown) (not (named p event)) ∷ judgements p s event

-- all of them in their order: decoding's own, of a malformed record, stand between the two
abbrev pub refusals : List ℕ → List ℕ → List ℕ → List ℕ → List ℕ → List (Refusal Verdict)
refusals p scripts s bytes out =
    lent_refusals p scripts s out ++ (answering plain (read_refusals Input bytes) ++ event_refusals p s (event_in p bytes))

-- the first that applies
unfoldable pub verdict : List ℕ → List ℕ → List ℕ → List ℕ → List ℕ → Verdict
verdict p scripts s bytes out = first_of (refusals p scripts s bytes out) (plain accepted)

-- ---- what an accepted record does

-- What arrives on connection n, whose word is given, once its cookies are stored. A response frees the connection, then a script runs: for a
-- document the script that the record names, and the page is the connection's URL; for a script's request the connection's handler, and the
-- page is the one that sent the request; for a picture none. A redirect moves the connection to the target.
unfoldable pub receive : List ℕ → List ℕ → ℕ → ℕ → Arrived → List ℕ → Effects
receive p scripts n word (DocumentResponse x) s = run_script p scripts n (url_of word) x 0 (set_connection n free s)
receive p scripts n word (ScriptResponse v) s = run_script p scripts n (origin_of word) (handler_of word) v (set_connection n free s)
receive p scripts n word PictureResponse s = stopped (set_connection n free s)
receive p scripts n word (Redirect t) s = send p n (kind_of word) (origin_of word) (handler_of word) t s

-- A load opens its connection. Of what arrives the cookies are stored first, for the host of the record's URL.
unfoldable pub perform : List ℕ → List ℕ → List ℕ → Event → Effects
perform p scripts s (Load u n) = send p n document_kind 0 0 u s
perform p scripts s (Arrival u n cs what) = receive p scripts n (connection_word s n) what (store_cookies p n (url_host p u) cs s)

-- what is answered to a record, and what it does
pub record Outcome : Type 0 where
  pub verdict : Verdict
  pub effects : Effects

unfoldable pub outcome : List ℕ → List ℕ → List ℕ → List ℕ → List ℕ → Outcome
outcome p scripts s bytes out =
    let told = verdict p scripts s bytes out in
    let done = perform p scripts s (event_in p bytes) in
    record { verdict = told; effects = branch (eqb told.number accepted) done (stopped s) }

-- ---- feed

-- the answer of one call, with the state and the output buffer that it leaves
pub record Fed : Type 0 where
  pub number : ℕ
  pub bytes : ℕ
  pub steps : ℕ
  pub missing : ℕ
  pub state : List ℕ
  pub buffer : List ℕ

-- Policy, script table, state, record and output buffer of any length. The requests sent are written one after another; there is room for
-- them and each can be written (`SentReadsBack`).
unfoldable pub feed : List ℕ → List ℕ → List ℕ → List ℕ → List ℕ → Fed
feed p scripts s bytes out =
    let o = outcome p scripts s bytes out in
    let w = write_run Request o.effects.sent out in
    record {
      number = o.verdict.number;
      bytes = w.length;
      steps = o.effects.steps;
      missing = o.verdict.missing;
      state = o.effects.state;
      buffer = w.buffer;
    }
