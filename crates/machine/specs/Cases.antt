-- How worked cases are told: records fed one after another, with all that each call gives. And document 01's small post with its cases a to j.
use Rattle.std.specs.Prelude.{ℕ, zero, suc, ◌+◌, ◌-◌, ◌*◌, ◌/◌, ◌%◌, Bool, true, ◌&&◌, List, [], ◌∷◌, ◌++◌, T, eqb, length, drop, replicate}
use Rattle.std.proofs.lemmas.List.Edits.{sets}
use Rattle.prelude.specs.Lists.{same_numbers}
use Rattle.machine.specs.Policy.{url_rows, cookie_labels_at, connection_labels_at, https_hosts_at, partners_at, cookie_index, no_address, no_partner}
use Rattle.machine.specs.Session.{empty_state, presence_at, connections_at, packed, document_kind, script_kind, picture_kind}
use Rattle.machine.specs.Scripts.{script_bytes, table_bytes, Step, end, constant}
use Rattle.machine.specs.Scripts.{add, read_cookie, write_cookie, send_request, skip_if_zero, send_picture}
use Rattle.machine.specs.Machine.{output_room, Fed, feed}

-- ---- policies, script tables and states from what is in them

-- words at a place, among words that are otherwise blank
pub record Words : Type 0 where
  pub at : ℕ
  pub words : List ℕ

abbrev pub words : ℕ → List ℕ → Words
words i ws = record { at = i; words = ws }

unfoldable pub with : List Words → List ℕ → List ℕ
with [] blank = blank
with (w ∷ ws) blank = sets (with ws blank) w.at w.words

-- policies: address, readers, writers; readers, writers; readers, script readers, writers; the hosts that are always https; a URL's partner
abbrev pub url : ℕ → ℕ → ℕ → ℕ → Words
url u a r w = words (3 * u) (a ∷ r ∷ w ∷ [])

abbrev pub cookie_label : ℕ → ℕ → ℕ → ℕ → Words
cookie_label h k r w = words (cookie_labels_at + 2 * cookie_index h k) (r ∷ w ∷ [])

abbrev pub connection : ℕ → ℕ → ℕ → ℕ → Words
connection n r s w = words (connection_labels_at + 3 * n) (r ∷ s ∷ w ∷ [])

abbrev pub always_https : ℕ → Words
always_https hosts = words https_hosts_at (hosts ∷ [])

abbrev pub partner : ℕ → ℕ → Words
partner u v = words (partners_at + u) (v ∷ [])

unfoldable pub empty_rows : ℕ → List ℕ
empty_rows zero = []
empty_rows (suc n) = no_address ∷ 0 ∷ 0 ∷ empty_rows n

unfoldable pub policy_with : List Words → List ℕ
policy_with ws = with ws (empty_rows url_rows ++ (replicate (partners_at - cookie_labels_at) 0 ++ replicate url_rows no_partner))

-- script tables: steps from the first on; what is not named is 0
unfoldable pub scripts_with : List Words → List ℕ
scripts_with ws = with ws (replicate table_bytes 0)

abbrev pub script_is : ℕ → List ℕ → Words
script_is x steps = words (script_bytes * x) steps

-- the four bytes of a step, an unused one being 0; and a script's, from its first step on
unfoldable pub step_bytes : Step → List ℕ
step_bytes end = 0 ∷ 0 ∷ 0 ∷ 0 ∷ []
step_bytes (constant a v) = 1 ∷ a ∷ v / 256 ∷ v % 256 ∷ []
step_bytes (add a b c) = 2 ∷ a ∷ b ∷ c ∷ []
step_bytes (read_cookie a k) = 3 ∷ a ∷ k ∷ 0 ∷ []
step_bytes (write_cookie k b) = 4 ∷ k ∷ b ∷ 0 ∷ []
step_bytes (send_request u m h) = 5 ∷ u ∷ m ∷ h ∷ []
step_bytes (skip_if_zero a b) = 6 ∷ a ∷ b ∷ 0 ∷ []
step_bytes (send_picture u m) = 7 ∷ u ∷ m ∷ 0 ∷ []

unfoldable pub steps_bytes : List Step → List ℕ
steps_bytes [] = []
steps_bytes (i ∷ is) = step_bytes i ++ steps_bytes is

abbrev pub script_of : ℕ → List Step → Words
script_of x steps = script_is x (steps_bytes steps)

-- states: a cookie's value, the keys present of a host, a pending connection
unfoldable pub state_with : List Words → List ℕ
state_with ws = with ws empty_state

abbrev pub value_is : ℕ → ℕ → ℕ → Words
value_is h k v = words (cookie_index h k) (v ∷ [])

abbrev pub keys_are : ℕ → ℕ → Words
keys_are h keys = words (presence_at + h) (keys ∷ [])

abbrev pub connection_is : ℕ → ℕ → Words
connection_is n w = words (connections_at + n) (w ∷ [])

abbrev pub loading : ℕ → ℕ → Words
loading n u = connection_is n (packed document_kind 0 0 u)

abbrev pub requesting : ℕ → ℕ → ℕ → ℕ → Words
requesting n origin handler u = connection_is n (packed script_kind origin handler u)

abbrev pub picturing : ℕ → ℕ → Words
picturing n u = connection_is n (packed picture_kind 0 0 u)

-- ---- a case

-- one call: the record, and its number, steps, missing endpoint, bytes sent and the words of the state after it
pub record Call : Type 0 where
  pub fed : List ℕ
  pub number : ℕ
  pub steps : ℕ
  pub missing : ℕ
  pub sent : List ℕ
  pub state : List Words

-- calls one after another, with a script table, from a state, each with a buffer of so many bytes
pub record Case : Type 0 where
  pub scripts : List ℕ
  pub room : ℕ
  pub start : List Words
  pub calls : List Call

-- every answer but 8 and 9 has 32: no endpoint is missing
abbrev pub call : List ℕ → ℕ → ℕ → List ℕ → List Words → Call
call fed number steps sent state = record { fed = fed; number = number; steps = steps; missing = 32; sent = sent; state = state }

-- a record that is refused leaves the state as it was; where 8 or 9 refuses it an endpoint is missing
abbrev pub refused : List ℕ → ℕ → List Words → Call
refused fed number state = call fed number 0 [] state

abbrev pub forbidden : List ℕ → ℕ → ℕ → List Words → Call
forbidden fed number missing state = record { fed = fed; number = number; steps = 0; missing = missing; sent = []; state = state }

-- one call with room enough: scripts and state to start from, the record, and its number, steps, bytes sent and the words of the state after it
abbrev pub one_call : List Words → List Words → List ℕ → ℕ → ℕ → List ℕ → List Words → Case
one_call scripts start fed number steps sent state = record {
  scripts = scripts_with scripts;
  room = output_room;
  start = start;
  calls = call fed number steps sent state ∷ [];
}

abbrev pub one_refused : List Words → List ℕ → ℕ → Case
one_refused start fed number = one_call [] start fed number 0 [] start

abbrev pub one_forbidden : List Words → List ℕ → ℕ → ℕ → Case
one_forbidden start fed number missing = record {
  scripts = scripts_with [];
  room = output_room;
  start = start;
  calls = forbidden fed number missing start ∷ [];
}

-- a load of URL u on connection n that 8 or 9 refuses, and such a redirect of connection n, from URL 0, to URL t
abbrev pub load_forbidden : List Words → ℕ → ℕ → ℕ → ℕ → Case
load_forbidden start u n number missing = one_forbidden start (0x03 ∷ u ∷ n ∷ []) number missing

abbrev pub redirect_forbidden : List Words → ℕ → ℕ → ℕ → ℕ → Case
redirect_forbidden start t n number missing = one_forbidden (loading n 0 ∷ start) (0x23 ∷ 0x00 ∷ n ∷ t ∷ []) number missing

-- the page, URL 0 on connection 0, whose script is one step: it goes on after the step, or ends; the jar stays
abbrev pub page_with : List Words → Step → ℕ → List ℕ → List Words → Case
page_with jar code steps sent state =
    one_call (script_of 1 (code ∷ end ∷ []) ∷ []) (loading 0 0 ∷ jar) (0x0b ∷ 0x00 ∷ 0x00 ∷ 0x01 ∷ []) 0 steps sent (state ++ jar)

-- the buffer given, filled with a byte that stands in no request of a case
abbrev pub buffer_of : ℕ → List ℕ
buffer_of room = replicate room 0xee

-- number, counts, missing endpoint, whole state and whole buffer are as the case says
unfoldable pub gives : ℕ → Call → Fed → Bool
gives room c got =
    eqb got.number c.number
    && (eqb got.bytes (length c.sent)
    && (eqb got.steps c.steps
    && (eqb got.missing c.missing
    && (same_numbers got.state (state_with c.state)
    && same_numbers got.buffer (c.sent ++ drop (length c.sent) (buffer_of room))))))

unfoldable pub right_from : List ℕ → List ℕ → ℕ → List ℕ → List Call → Bool
right_from p scripts room s [] = true
right_from p scripts room s (c ∷ cs) =
    let got : Fed = feed p scripts s c.fed (buffer_of room) in
    gives room c got && right_from p scripts room got.state cs

-- under a policy
unfoldable pub all_right : List ℕ → List Case → Bool
all_right p [] = true
all_right p (c ∷ cs) = right_from p c.scripts c.room (state_with c.start) c.calls && all_right p cs

-- the empty record, which is refused with 2 or, where the policy is well formed, with 10
abbrev pub no_record : ℕ → List Case
no_record number = one_refused [] [] number ∷ []

-- so is it under policies that differ from one in some words
unfoldable pub each_gives : List ℕ → ℕ → List (List Words) → Bool
each_gives p number [] = true
each_gives p number (changed ∷ more) = all_right (with changed p) (no_record number) && each_gives p number more

-- ---- document 01, "A small post"

abbrev pub policy_p : List ℕ
policy_p = policy_with (
    url 0 16 0x00010001 0x00010000
    ∷ url 1 1 0xffffffff 0xffffffff
    ∷ url 2 17 0xffffffff 0x00030000
    ∷ url 3 0 0x00010001 0x00010001
    ∷ connection 0 0x00010001 0x00010001 0x00010000
    ∷ connection 1 0xffffffff 0xffffffff 0xffffffff
    ∷ connection 2 0x00010000 0x00010000 0x00010000
    ∷ connection 3 0x00010001 0x00010001 0x00010001
    ∷ cookie_label 0 0 0x00010000 0x00010000
    ∷ [])

-- with a script table of zeros and room enough, from the empty state
abbrev pub from_empty : List Call → Case
from_empty calls = record { scripts = scripts_with []; room = output_room; start = []; calls = calls }

-- load 0 on connection 0, and its response that brings 7 for cookie (0,0)
abbrev pub load_zero : List ℕ
load_zero = 0x03 ∷ 0x00 ∷ 0x00 ∷ []

abbrev pub bring_seven : List ℕ
bring_seven = 0x0f ∷ 0x00 ∷ 0x00 ∷ 0x01 ∷ 0x00 ∷ 0x00 ∷ 0x00 ∷ 0x07 ∷ 0x00 ∷ []

abbrev pub seven_stored : List Words
seven_stored = value_is 0 0 7 ∷ keys_are 0 0x01 ∷ []

-- cases a, e and f, in which others begin
abbrev pub case_a : Call
case_a = call load_zero 0 0 (0x03 ∷ 0x00 ∷ 0x00 ∷ []) (loading 0 0 ∷ [])

abbrev pub case_e : Call
case_e = call bring_seven 0 1 [] seven_stored

abbrev pub case_f : Call
case_f = call load_zero 0 0 (0x07 ∷ 0x00 ∷ 0x00 ∷ 0x01 ∷ 0x00 ∷ 0x00 ∷ 0x00 ∷ 0x07 ∷ []) (loading 0 0 ∷ seven_stored)

abbrev pub cases_from_a_to_j : List Case
cases_from_a_to_j =
    -- a; e; f
    from_empty (case_a ∷ case_e ∷ case_f ∷ [])
    -- b
    ∷ from_empty (forbidden (0x03 ∷ 0x00 ∷ 0x01 ∷ []) 8 1 [] ∷ [])
    -- c
    ∷ from_empty (forbidden (0x03 ∷ 0x03 ∷ 0x00 ∷ []) 9 0 [] ∷ [])
    -- d: URL 4 has an empty row, 64 no row; there is no connection 32
    ∷ from_empty (refused (0x03 ∷ 0x04 ∷ 0x00 ∷ []) 6 [] ∷ [])
    ∷ from_empty (refused (0x03 ∷ 0x40 ∷ 0x00 ∷ []) 6 [] ∷ [])
    ∷ from_empty (refused (0x03 ∷ 0x00 ∷ 0x20 ∷ []) 6 [] ∷ [])
    -- g, after e
    ∷ from_empty (case_a ∷ case_e ∷ call (0x03 ∷ 0x03 ∷ 0x03 ∷ []) 0 0 (0x03 ∷ 0x03 ∷ 0x03 ∷ []) (loading 3 3 ∷ seven_stored) ∷ [])
    -- h, after a: the cookie that the redirect brings is not stored
    ∷ from_empty (case_a
    ∷ forbidden (0x27 ∷ 0x00 ∷ 0x00 ∷ 0x01 ∷ 0x00 ∷ 0x00 ∷ 0x00 ∷ 0x09 ∷ 0x02 ∷ []) 8 1 (loading 0 0 ∷ [])
    ∷ [])
    -- i: a load that is accepted, and its redirect
    ∷ from_empty (call (0x03 ∷ 0x01 ∷ 0x01 ∷ []) 0 0 (0x03 ∷ 0x01 ∷ 0x01 ∷ []) (loading 1 1 ∷ [])
    ∷ forbidden (0x23 ∷ 0x01 ∷ 0x01 ∷ 0x02 ∷ []) 9 0 (loading 1 1 ∷ [])
    ∷ [])
    -- j: the empty record; a request's map; a key map of 0
    ∷ from_empty (refused [] 10 [] ∷ [])
    ∷ from_empty (refused (0x07 ∷ 0x00 ∷ 0x00 ∷ 0x01 ∷ 0x00 ∷ 0x00 ∷ 0x00 ∷ 0x07 ∷ []) 10 [] ∷ [])
    ∷ from_empty (refused (0x0f ∷ 0x00 ∷ 0x00 ∷ 0x00 ∷ 0x00 ∷ []) 12 [] ∷ [])
    ∷ []

abbrev pub CasesAToJ : Type 0
CasesAToJ = T (all_right policy_p cases_from_a_to_j)
