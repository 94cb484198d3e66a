-- That the claim about forgers says something: lists in which a forger does much and the guarded requests are alike, requests that he does cause, and
-- lists that differ in what is honest and are told apart. The proofs, by computing, are in proofs/IntegrityExamples.antt.
use Rattle.std.specs.Prelude.{ℕ, Bool, not, ◌&&◌, List, [], ◌∷◌, ◌++◌, map, T, eqb, length}
use Rattle.prelude.specs.Lists.{same_numbers}
use Rattle.machine.specs.Policy.{cookie_index, well_formed}
use Rattle.machine.specs.Session.{cookie_value, connection_word}
use Rattle.machine.specs.Scripts.{end, constant, read_cookie, write_cookie, send_request, send_picture}
use Rattle.machine.specs.Cases.{with, url, cookie_label, connection, always_https, partner, policy_with, scripts_with, script_of}
use Rattle.machine.specs.Runs.{Item, Trace, run, remaining}
use Rattle.machine.specs.Integrity.{unforged, guarded_requests}
use Rattle.machine.specs.ExampleLists.{items, events_numbers, observations_numbers, sent_bytes}

-- ---- a policy, scripts and a forger

-- Host 2 is the bank's, and host 1 the forger's. URL 0 is the forger's page, and anyone may lead there. URL 5 is the bank's top-up page, which has
-- https at host 2 alone for writer; URL 9 is the bank's by http, URL 12, with the same writer as URL 5, is an entry, and URL 21 is asked for in
-- place of URL 20. URL 30 has no writers at all; URLs 40 and 41 have http and https at host 1 among theirs.
-- Connections 3, 6 and 8 have writers of the bank alone, and connection 1 has both endpoints of host 1 too. Of host 2's cookies the bank alone may
-- write those of keys 3 and 5; https at host 1 may write that of key 6 and http at host 1 that of key 7, and anyone that of key 0.
abbrev pub policy_top_up : List ℕ
policy_top_up = policy_with (
    url 0 17 0xffffffff 0xffffffff
    ∷ url 5 18 0x00040004 0x00040000
    ∷ url 9 2 0x00040004 0x00040004
    ∷ url 12 50 0xffffffff 0x00040000
    ∷ url 20 3 0xffffffff 0xffffffff
    ∷ url 21 19 0xffffffff 0x000c0000
    ∷ url 30 18 0x00040004 0x00000000
    ∷ url 40 18 0x00040004 0x00040002
    ∷ url 41 18 0x00040004 0x00060000
    ∷ always_https 0x8
    ∷ partner 20 21
    ∷ connection 1 0xffffffff 0xffffffff 0x000e0002
    ∷ connection 3 0x00040004 0x00040004 0x00040000
    ∷ connection 6 0xffffffff 0xffffffff 0x00040000
    ∷ connection 8 0x00040004 0x00040004 0x000c0004
    ∷ cookie_label 1 2 0xffffffff 0xffffffff
    ∷ cookie_label 2 0 0x00040004 0xffffffff
    ∷ cookie_label 2 3 0x00040004 0x00040000
    ∷ cookie_label 2 5 0x00040004 0x00040004
    ∷ cookie_label 2 6 0x00040004 0x00060000
    ∷ cookie_label 2 7 0x00040004 0x00040002
    ∷ [])

-- Of the bank: script 1 copies its page's cookie 3 to cookie 5 and requests URL 5 on connection 3; script 2, which takes the response, stores its
-- value in cookie 5 and requests a picture of URL 5 there. Of the forger: script 3 stores 9 in its page's cookie 2 and requests the entry on
-- connection 1; script 4, which takes the response, requests a picture of URL 0 there. Scripts 5 and 6 try what writers alone forbid: URL 21 on
-- connection 1, and the entry on connection 6.
abbrev pub scripts_top_up : List ℕ
scripts_top_up = scripts_with (
    script_of 1 (read_cookie 0 3 ∷ write_cookie 5 0 ∷ send_request 5 3 2 ∷ end ∷ [])
    ∷ script_of 2 (write_cookie 5 0 ∷ send_picture 5 3 ∷ end ∷ [])
    ∷ script_of 3 (constant 1 9 ∷ write_cookie 2 1 ∷ send_request 12 1 4 ∷ end ∷ [])
    ∷ script_of 4 (send_picture 0 1 ∷ end ∷ [])
    ∷ script_of 5 (send_request 21 1 0 ∷ end ∷ [])
    ∷ script_of 6 (send_request 12 6 0 ∷ end ∷ [])
    ∷ [])

-- both endpoints of host 1; http there alone, and https there alone
abbrev pub forger : ℕ
forger = 0x00020002

abbrev pub http_forger : ℕ
http_forger = 0x00000002

abbrev pub https_forger : ℕ
https_forger = 0x00020000

abbrev pub everyone : ℕ
everyone = 0xffffffff

abbrev pub ran : List Item → Trace
ran is = run policy_top_up scripts_top_up is

abbrev pub unforged_numbers : ℕ → List ℕ → List Item → List ℕ
unforged_numbers set p is = events_numbers (remaining (unforged set p) p is)

abbrev pub guarded_numbers : ℕ → Trace → List ℕ
guarded_numbers set r = observations_numbers (guarded_requests set policy_top_up r.requests)

-- ---- two lists that differ in all that a forger may do

-- The end of both: a response for URL 0 on connection 3, which does not wait for it, and loads of URLs 40 and 41 there.
abbrev pub last_records : List (List ℕ)
last_records =
    (0x0b ∷ 0x00 ∷ 0x03 ∷ 0x00 ∷ [])
    ∷ (0x03 ∷ 0x28 ∷ 0x03 ∷ [])
    ∷ (0x03 ∷ 0x29 ∷ 0x03 ∷ [])
    ∷ []

-- Load 5 on connection 3, load 0 on connection 1. Then, on connection 1, what the forger may have shaped: a document with script 3 and 5 for cookie
-- (1,2); to the request for the entry that the script makes, a response with 8 for cookie (2,0), which is stored, and 66 for cookie (2,3), which is
-- not; the picture that its handler requests, with 10 for cookie (1,2). Load 0 on connection 1, which the forger redirects to the entry. Then the
-- bank, each time with a value for cookie (2,3): a document with script 1, the response to its request, with the value 30, and the picture that its
-- handler requests. Load 5 on connection 3, which the bank redirects to URL 5 and, without a cookie, to the entry; the document of that. Loads 9 and
-- 21 on connection 8.
abbrev pub forger_at_work : List Item
forger_at_work = items 1184 0xee (
    (0x03 ∷ 0x05 ∷ 0x03 ∷ [])
    ∷ (0x03 ∷ 0x00 ∷ 0x01 ∷ [])
    ∷ (0x0f ∷ 0x00 ∷ 0x01 ∷ 0x04 ∷ 0x00 ∷ 0x00 ∷ 0x00 ∷ 0x05 ∷ 0x03 ∷ [])
    ∷ (0x17 ∷ 0x0c ∷ 0x01 ∷ 0x09 ∷ 0x00 ∷ 0x00 ∷ 0x00 ∷ 0x08 ∷ 0x00 ∷ 0x00 ∷ 0x00 ∷ 0x42 ∷ 0x00 ∷ 0x00 ∷ 0x00 ∷ 0x00 ∷ [])
    ∷ (0x47 ∷ 0x00 ∷ 0x01 ∷ 0x04 ∷ 0x00 ∷ 0x00 ∷ 0x00 ∷ 0x0a ∷ [])
    ∷ (0x03 ∷ 0x00 ∷ 0x01 ∷ [])
    ∷ (0x23 ∷ 0x00 ∷ 0x01 ∷ 0x0c ∷ [])
    ∷ (0x0f ∷ 0x05 ∷ 0x03 ∷ 0x08 ∷ 0x00 ∷ 0x00 ∷ 0x00 ∷ 0x07 ∷ 0x01 ∷ [])
    ∷ (0x17 ∷ 0x05 ∷ 0x03 ∷ 0x08 ∷ 0x00 ∷ 0x00 ∷ 0x00 ∷ 0x0d ∷ 0x00 ∷ 0x00 ∷ 0x00 ∷ 0x1e ∷ [])
    ∷ (0x47 ∷ 0x05 ∷ 0x03 ∷ 0x08 ∷ 0x00 ∷ 0x00 ∷ 0x00 ∷ 0x0b ∷ [])
    ∷ (0x03 ∷ 0x05 ∷ 0x03 ∷ [])
    ∷ (0x27 ∷ 0x05 ∷ 0x03 ∷ 0x08 ∷ 0x00 ∷ 0x00 ∷ 0x00 ∷ 0x0c ∷ 0x05 ∷ [])
    ∷ (0x23 ∷ 0x05 ∷ 0x03 ∷ 0x0c ∷ [])
    ∷ (0x0f ∷ 0x0c ∷ 0x03 ∷ 0x08 ∷ 0x00 ∷ 0x00 ∷ 0x00 ∷ 0x0e ∷ 0x00 ∷ [])
    ∷ (0x03 ∷ 0x09 ∷ 0x08 ∷ [])
    ∷ (0x03 ∷ 0x15 ∷ 0x08 ∷ [])
    ∷ last_records)

-- The same loads and the same of the bank, with other buffers. Between them an empty record, and a load of a URL that there is not; of the loads on
-- connection 8 the last names URL 20. The forger answers the first load of URL 0 by a redirect to itself with 6 for cookie (1,2) and then by a
-- document with script 4, and the second by nothing. The bank's records bring cookies too that he may write: (2,6), (2,7), (2,0), (2,7), and then
-- (2,6) alone.
abbrev pub forger_elsewhere : List Item
forger_elsewhere = items 1200 0x00 (
    (0x03 ∷ 0x05 ∷ 0x03 ∷ [])
    ∷ []
    ∷ (0x03 ∷ 0x00 ∷ 0x01 ∷ [])
    ∷ (0x27 ∷ 0x00 ∷ 0x01 ∷ 0x04 ∷ 0x00 ∷ 0x00 ∷ 0x00 ∷ 0x06 ∷ 0x00 ∷ [])
    ∷ (0x0b ∷ 0x00 ∷ 0x01 ∷ 0x04 ∷ [])
    ∷ (0x03 ∷ 0x3f ∷ 0x00 ∷ [])
    ∷ (0x03 ∷ 0x00 ∷ 0x01 ∷ [])
    ∷ (0x0f ∷ 0x05 ∷ 0x03 ∷ 0x48 ∷ 0x00 ∷ 0x00 ∷ 0x00 ∷ 0x07 ∷ 0x00 ∷ 0x00 ∷ 0x00 ∷ 0x03 ∷ 0x01 ∷ [])
    ∷ (0x17 ∷ 0x05 ∷ 0x03 ∷ 0x88 ∷ 0x00 ∷ 0x00 ∷ 0x00 ∷ 0x0d ∷ 0x00 ∷ 0x00 ∷ 0x00 ∷ 0x04 ∷ 0x00 ∷ 0x00 ∷ 0x00 ∷ 0x1e ∷ [])
    ∷ (0x47 ∷ 0x05 ∷ 0x03 ∷ 0x09 ∷ 0x00 ∷ 0x00 ∷ 0x00 ∷ 0x02 ∷ 0x00 ∷ 0x00 ∷ 0x00 ∷ 0x0b ∷ [])
    ∷ (0x03 ∷ 0x05 ∷ 0x03 ∷ [])
    ∷ (0x27 ∷ 0x05 ∷ 0x03 ∷ 0x88 ∷ 0x00 ∷ 0x00 ∷ 0x00 ∷ 0x0c ∷ 0x00 ∷ 0x00 ∷ 0x00 ∷ 0x01 ∷ 0x05 ∷ [])
    ∷ (0x27 ∷ 0x05 ∷ 0x03 ∷ 0x40 ∷ 0x00 ∷ 0x00 ∷ 0x00 ∷ 0x0f ∷ 0x0c ∷ [])
    ∷ (0x0f ∷ 0x0c ∷ 0x03 ∷ 0x08 ∷ 0x00 ∷ 0x00 ∷ 0x00 ∷ 0x0e ∷ 0x00 ∷ [])
    ∷ (0x03 ∷ 0x09 ∷ 0x08 ∷ [])
    ∷ (0x03 ∷ 0x14 ∷ 0x08 ∷ [])
    ∷ last_records)

-- What remains of both: fifteen records, for each a number for its kind, what it brings, URL and connection, and its cookies.
abbrev pub honest_records : List ℕ
honest_records =
    0 ∷ 5 ∷ 3
    ∷ 0 ∷ 0 ∷ 1
    ∷ 0 ∷ 0 ∷ 1
    ∷ 1 ∷ 1 ∷ 5 ∷ 3 ∷ 1 ∷ 3 ∷ 7
    ∷ 2 ∷ 30 ∷ 5 ∷ 3 ∷ 1 ∷ 3 ∷ 13
    ∷ 3 ∷ 5 ∷ 3 ∷ 1 ∷ 3 ∷ 11
    ∷ 0 ∷ 5 ∷ 3
    ∷ 4 ∷ 5 ∷ 5 ∷ 3 ∷ 1 ∷ 3 ∷ 12
    ∷ 4 ∷ 12 ∷ 5 ∷ 3 ∷ 0
    ∷ 1 ∷ 0 ∷ 12 ∷ 3 ∷ 1 ∷ 3 ∷ 14
    ∷ 0 ∷ 9 ∷ 8
    ∷ 0 ∷ 21 ∷ 8
    ∷ 1 ∷ 0 ∷ 0 ∷ 3 ∷ 0
    ∷ 0 ∷ 40 ∷ 3
    ∷ 0 ∷ 41 ∷ 3
    ∷ []

-- Seven guarded requests of both, of each kind. Of cookies they have (2,3) and (2,5) once these are stored, and none of the others.
abbrev pub top_up_requests : List ℕ
top_up_requests =
    0x03 ∷ 5 ∷ 3 ∷ 0 ∷ 0
    ∷ 0x0b ∷ 5 ∷ 3 ∷ 2 ∷ 2 ∷ 3 ∷ 7 ∷ 5 ∷ 7
    ∷ 0x43 ∷ 5 ∷ 3 ∷ 0 ∷ 2 ∷ 3 ∷ 13 ∷ 5 ∷ 30
    ∷ 0x03 ∷ 5 ∷ 3 ∷ 0 ∷ 2 ∷ 3 ∷ 11 ∷ 5 ∷ 30
    ∷ 0x03 ∷ 5 ∷ 3 ∷ 0 ∷ 2 ∷ 3 ∷ 12 ∷ 5 ∷ 30
    ∷ 0x03 ∷ 9 ∷ 8 ∷ 0 ∷ 2 ∷ 3 ∷ 14 ∷ 5 ∷ 30
    ∷ 0x03 ∷ 21 ∷ 8 ∷ 0 ∷ 0
    ∷ []

-- All that both send. So every record that is struck by its connection is accepted: it sends a request, or what it stores is in a later one.
abbrev pub sent_at_work : List ℕ
sent_at_work =
    0x03 ∷ 0x05 ∷ 0x03
    ∷ 0x03 ∷ 0x00 ∷ 0x01
    ∷ 0x0b ∷ 0x0c ∷ 0x01 ∷ 0x04
    ∷ 0x47 ∷ 0x00 ∷ 0x01 ∷ 0x04 ∷ 0x00 ∷ 0x00 ∷ 0x00 ∷ 0x09
    ∷ 0x07 ∷ 0x00 ∷ 0x01 ∷ 0x04 ∷ 0x00 ∷ 0x00 ∷ 0x00 ∷ 0x0a
    ∷ 0x07 ∷ 0x0c ∷ 0x01 ∷ 0x01 ∷ 0x00 ∷ 0x00 ∷ 0x00 ∷ 0x08
    ∷ 0x0f ∷ 0x05 ∷ 0x03 ∷ 0x29 ∷ 0x00 ∷ 0x00 ∷ 0x00 ∷ 0x08 ∷ 0x00 ∷ 0x00 ∷ 0x00 ∷ 0x07 ∷ 0x00 ∷ 0x00 ∷ 0x00 ∷ 0x07 ∷ 0x02
    ∷ 0x47 ∷ 0x05 ∷ 0x03 ∷ 0x29 ∷ 0x00 ∷ 0x00 ∷ 0x00 ∷ 0x08 ∷ 0x00 ∷ 0x00 ∷ 0x00 ∷ 0x0d ∷ 0x00 ∷ 0x00 ∷ 0x00 ∷ 0x1e
    ∷ 0x07 ∷ 0x05 ∷ 0x03 ∷ 0x29 ∷ 0x00 ∷ 0x00 ∷ 0x00 ∷ 0x08 ∷ 0x00 ∷ 0x00 ∷ 0x00 ∷ 0x0b ∷ 0x00 ∷ 0x00 ∷ 0x00 ∷ 0x1e
    ∷ 0x07 ∷ 0x05 ∷ 0x03 ∷ 0x29 ∷ 0x00 ∷ 0x00 ∷ 0x00 ∷ 0x08 ∷ 0x00 ∷ 0x00 ∷ 0x00 ∷ 0x0c ∷ 0x00 ∷ 0x00 ∷ 0x00 ∷ 0x1e
    ∷ 0x07 ∷ 0x0c ∷ 0x03 ∷ 0x29 ∷ 0x00 ∷ 0x00 ∷ 0x00 ∷ 0x08 ∷ 0x00 ∷ 0x00 ∷ 0x00 ∷ 0x0c ∷ 0x00 ∷ 0x00 ∷ 0x00 ∷ 0x1e
    ∷ 0x07 ∷ 0x09 ∷ 0x08 ∷ 0x29 ∷ 0x00 ∷ 0x00 ∷ 0x00 ∷ 0x08 ∷ 0x00 ∷ 0x00 ∷ 0x00 ∷ 0x0e ∷ 0x00 ∷ 0x00 ∷ 0x00 ∷ 0x1e
    ∷ 0x03 ∷ 0x15 ∷ 0x08
    ∷ 0x07 ∷ 0x28 ∷ 0x03 ∷ 0x29 ∷ 0x00 ∷ 0x00 ∷ 0x00 ∷ 0x08 ∷ 0x00 ∷ 0x00 ∷ 0x00 ∷ 0x0e ∷ 0x00 ∷ 0x00 ∷ 0x00 ∷ 0x1e
    ∷ 0x07 ∷ 0x29 ∷ 0x03 ∷ 0x29 ∷ 0x00 ∷ 0x00 ∷ 0x00 ∷ 0x08 ∷ 0x00 ∷ 0x00 ∷ 0x00 ∷ 0x0e ∷ 0x00 ∷ 0x00 ∷ 0x00 ∷ 0x1e
    ∷ []

abbrev pub sent_elsewhere : List ℕ
sent_elsewhere =
    0x03 ∷ 0x05 ∷ 0x03
    ∷ 0x03 ∷ 0x00 ∷ 0x01
    ∷ 0x07 ∷ 0x00 ∷ 0x01 ∷ 0x04 ∷ 0x00 ∷ 0x00 ∷ 0x00 ∷ 0x06
    ∷ 0x47 ∷ 0x00 ∷ 0x01 ∷ 0x04 ∷ 0x00 ∷ 0x00 ∷ 0x00 ∷ 0x06
    ∷ 0x07 ∷ 0x00 ∷ 0x01 ∷ 0x04 ∷ 0x00 ∷ 0x00 ∷ 0x00 ∷ 0x06
    ∷ 0x0f ∷ 0x05 ∷ 0x03 ∷ 0x68 ∷ 0x00 ∷ 0x00 ∷ 0x00 ∷ 0x07 ∷ 0x00 ∷ 0x00 ∷ 0x00 ∷ 0x07 ∷ 0x00 ∷ 0x00 ∷ 0x00 ∷ 0x03 ∷ 0x02
    ∷ 0x47 ∷ 0x05 ∷ 0x03 ∷ 0xe8 ∷ 0x00 ∷ 0x00 ∷ 0x00 ∷ 0x0d ∷ 0x00 ∷ 0x00 ∷ 0x00 ∷ 0x1e ∷ 0x00 ∷ 0x00 ∷ 0x00 ∷ 0x03 ∷ 0x00 ∷ 0x00 ∷ 0x00 ∷ 0x04
    ∷ 0x07 ∷ 0x05 ∷ 0x03 ∷ 0xe9 ∷ 0x00 ∷ 0x00 ∷ 0x00 ∷ 0x02 ∷ 0x00 ∷ 0x00 ∷ 0x00 ∷ 0x0b
    ∷ 0x00 ∷ 0x00 ∷ 0x00 ∷ 0x1e ∷ 0x00 ∷ 0x00 ∷ 0x00 ∷ 0x03 ∷ 0x00 ∷ 0x00 ∷ 0x00 ∷ 0x04
    ∷ 0x07 ∷ 0x05 ∷ 0x03 ∷ 0xe9 ∷ 0x00 ∷ 0x00 ∷ 0x00 ∷ 0x02 ∷ 0x00 ∷ 0x00 ∷ 0x00 ∷ 0x0c
    ∷ 0x00 ∷ 0x00 ∷ 0x00 ∷ 0x1e ∷ 0x00 ∷ 0x00 ∷ 0x00 ∷ 0x03 ∷ 0x00 ∷ 0x00 ∷ 0x00 ∷ 0x01
    ∷ 0x07 ∷ 0x0c ∷ 0x03 ∷ 0xe9 ∷ 0x00 ∷ 0x00 ∷ 0x00 ∷ 0x02 ∷ 0x00 ∷ 0x00 ∷ 0x00 ∷ 0x0c
    ∷ 0x00 ∷ 0x00 ∷ 0x00 ∷ 0x1e ∷ 0x00 ∷ 0x00 ∷ 0x00 ∷ 0x0f ∷ 0x00 ∷ 0x00 ∷ 0x00 ∷ 0x01
    ∷ 0x07 ∷ 0x09 ∷ 0x08 ∷ 0xe9 ∷ 0x00 ∷ 0x00 ∷ 0x00 ∷ 0x02 ∷ 0x00 ∷ 0x00 ∷ 0x00 ∷ 0x0e
    ∷ 0x00 ∷ 0x00 ∷ 0x00 ∷ 0x1e ∷ 0x00 ∷ 0x00 ∷ 0x00 ∷ 0x0f ∷ 0x00 ∷ 0x00 ∷ 0x00 ∷ 0x01
    ∷ 0x03 ∷ 0x15 ∷ 0x08
    ∷ 0x07 ∷ 0x28 ∷ 0x03 ∷ 0xe9 ∷ 0x00 ∷ 0x00 ∷ 0x00 ∷ 0x02 ∷ 0x00 ∷ 0x00 ∷ 0x00 ∷ 0x0e
    ∷ 0x00 ∷ 0x00 ∷ 0x00 ∷ 0x1e ∷ 0x00 ∷ 0x00 ∷ 0x00 ∷ 0x0f ∷ 0x00 ∷ 0x00 ∷ 0x00 ∷ 0x01
    ∷ 0x07 ∷ 0x29 ∷ 0x03 ∷ 0xe9 ∷ 0x00 ∷ 0x00 ∷ 0x00 ∷ 0x02 ∷ 0x00 ∷ 0x00 ∷ 0x00 ∷ 0x0e
    ∷ 0x00 ∷ 0x00 ∷ 0x00 ∷ 0x1e ∷ 0x00 ∷ 0x00 ∷ 0x00 ∷ 0x0f ∷ 0x00 ∷ 0x00 ∷ 0x00 ∷ 0x01
    ∷ []

-- cookies (2,0), (2,3), (2,5), (2,6), (2,7) and (1,2), and connections 1, 3 and 8
abbrev pub held : Trace → List ℕ
held r =
    map (cookie_value r.state) (cookie_index 2 0 ∷ cookie_index 2 3 ∷ cookie_index 2 5 ∷ cookie_index 2 6 ∷ cookie_index 2 7 ∷ cookie_index 1 2 ∷ [])
    ++ map (connection_word r.state) (1 ∷ 3 ∷ 8 ∷ [])

-- A run with what remains of its list, its requests, the guarded among them, and what it leaves. The states differ in what the forger may write.
unfoldable pub runs : List Item → Trace → List ℕ → List ℕ → Bool
runs is r sent after =
    same_numbers (unforged_numbers forger policy_top_up is) honest_records
    && (same_numbers (sent_bytes r.requests) sent
    && (same_numbers (guarded_numbers forger r) top_up_requests
    && same_numbers (held r) after))

unfoldable pub forger_in_vain : Trace → Trace → Bool
forger_in_vain a b =
    runs forger_at_work a sent_at_work (8 ∷ 14 ∷ 30 ∷ 0 ∷ 0 ∷ 10 ∷ 0x0100000c ∷ 0x01000029 ∷ 0x01000015 ∷ [])
    && runs forger_elsewhere b sent_elsewhere (2 ∷ 14 ∷ 30 ∷ 15 ∷ 1 ∷ 6 ∷ 0x01000000 ∷ 0x01000029 ∷ 0x01000015 ∷ [])

-- ---- what a forger tries and may not; what he does cause

-- Load 0 on connection 1, and what the forger answers: a document with a script, or a redirect to a URL.
abbrev pub answered : List ℕ → List Item
answered answer = items 1184 0xee ((0x03 ∷ 0x00 ∷ 0x01 ∷ []) ∷ answer ∷ [])

abbrev pub with_script : ℕ → List Item
with_script x = answered (0x0b ∷ 0x00 ∷ 0x01 ∷ x ∷ [])

abbrev pub redirected_to : ℕ → List Item
redirected_to t = answered (0x23 ∷ 0x00 ∷ 0x01 ∷ t ∷ [])

-- Of each of them the load alone remains. No guarded request is made, and all that is sent is this.
unfoldable pub causes : List Item → Trace → List ℕ → Bool
causes is r sent =
    same_numbers (unforged_numbers forger policy_top_up is) (0 ∷ 0 ∷ 1 ∷ [])
    && (same_numbers (guarded_numbers forger r) []
    && same_numbers (sent_bytes r.requests) sent)

abbrev pub load_alone : List ℕ
load_alone = 0x03 ∷ 0x00 ∷ 0x01 ∷ []

-- A script's request for URL 21, one on connection 6, a redirect to URL 21: each is refused, or ends the script. A script's request for the entry,
-- and a redirect there, go out, though the entry's writers miss the set: it is excused.
unfoldable pub entry_is_excused : Trace → Trace → Trace → Trace → Trace → Bool
entry_is_excused script other redirect to_entry redirect_to_entry =
    causes (with_script 5) script load_alone
    && (causes (with_script 6) other load_alone
    && (causes (redirected_to 21) redirect load_alone
    && (causes (with_script 3) to_entry (load_alone ++ (0x0b ∷ 0x0c ∷ 0x01 ∷ 0x04 ∷ []))
    && causes (redirected_to 12) redirect_to_entry (load_alone ++ (0x03 ∷ 0x0c ∷ 0x01 ∷ [])))))

-- ---- lists that differ in what is honest

-- Load 5 on connection 3. The bank answers with a value for cookie (2,3) and a script; the response to the script's request has a value.
abbrev pub honest_answers : ℕ → ℕ → ℕ → List Item
honest_answers cookie script value = items 1184 0xee (
    (0x03 ∷ 0x05 ∷ 0x03 ∷ [])
    ∷ (0x0f ∷ 0x05 ∷ 0x03 ∷ 0x08 ∷ 0x00 ∷ 0x00 ∷ 0x00 ∷ cookie ∷ script ∷ [])
    ∷ (0x13 ∷ 0x05 ∷ 0x03 ∷ 0x00 ∷ 0x00 ∷ 0x00 ∷ value ∷ [])
    ∷ [])

-- Lists are told apart: they differ in what remains, and their runs in guarded requests.
unfoldable pub told_apart : List Item → Trace → List Item → Trace → Bool
told_apart is a js b =
    not (same_numbers (unforged_numbers forger policy_top_up is) (unforged_numbers forger policy_top_up js))
    && not (same_numbers (guarded_numbers forger a) (guarded_numbers forger b))

-- by a cookie, by a script, and by a script response's value
unfoldable pub honest_tells : Trace → Trace → Trace → Trace → Bool
honest_tells a b c d =
    told_apart (honest_answers 7 1 30) a (honest_answers 8 1 30) b
    && (told_apart (honest_answers 7 1 30) a (honest_answers 7 2 30) c
    && told_apart (honest_answers 7 1 30) a (honest_answers 7 1 31) d)

-- ---- records of which nothing remains, and records that remain though they are refused

-- A record that is cut; connection 32, script 16, a target that there is not, on an honest connection. Then loads that 8 and 9 refuse, and a
-- redirect to URL 40 that 7 refuses.
abbrev pub refused_records : List Item
refused_records = items 1184 0xee (
    (0x03 ∷ 0x05 ∷ [])
    ∷ (0x03 ∷ 0x05 ∷ 0x20 ∷ [])
    ∷ (0x0b ∷ 0x05 ∷ 0x03 ∷ 0x10 ∷ [])
    ∷ (0x23 ∷ 0x05 ∷ 0x03 ∷ 0x3f ∷ [])
    ∷ (0x03 ∷ 0x05 ∷ 0x01 ∷ [])
    ∷ (0x03 ∷ 0x09 ∷ 0x03 ∷ [])
    ∷ (0x23 ∷ 0x05 ∷ 0x03 ∷ 0x28 ∷ [])
    ∷ [])

unfoldable pub refused_records_remain : Trace → Bool
refused_records_remain r =
    same_numbers (unforged_numbers forger policy_top_up refused_records) (0 ∷ 5 ∷ 1 ∷ 0 ∷ 9 ∷ 3 ∷ 4 ∷ 40 ∷ 5 ∷ 3 ∷ 0 ∷ [])
    && same_numbers (sent_bytes r.requests) []

-- ---- other sets, and other policies

-- Nobody forges: nothing is struck but what cannot be read or names nothing, and all requests are guarded but those to the entry. One endpoint
-- forges: the URL that has the other among its writers is guarded too. Everyone forges: loads remain, and a request to URL 30, which has no writers,
-- is guarded.
abbrev pub load_of_thirty : List Item
load_of_thirty = items 1184 0xee ((0x03 ∷ 0x1e ∷ 0x03 ∷ []) ∷ (0x0b ∷ 0x1e ∷ 0x03 ∷ 0x01 ∷ []) ∷ [])

abbrev pub loads_alone : List ℕ
loads_alone =
    0 ∷ 5 ∷ 3
    ∷ 0 ∷ 0 ∷ 1
    ∷ 0 ∷ 0 ∷ 1
    ∷ 0 ∷ 5 ∷ 3
    ∷ 0 ∷ 9 ∷ 8
    ∷ 0 ∷ 21 ∷ 8
    ∷ 0 ∷ 40 ∷ 3
    ∷ 0 ∷ 41 ∷ 3
    ∷ []

abbrev pub last_request : ℕ → List ℕ
last_request u = 0x03 ∷ u ∷ 3 ∷ 0 ∷ 2 ∷ 3 ∷ 14 ∷ 5 ∷ 30 ∷ []

unfoldable pub fewest_and_most : Trace → Trace → Bool
fewest_and_most a c =
    eqb (length (remaining (unforged 0 policy_top_up) policy_top_up forger_at_work)) 19
    && (eqb (length (remaining (unforged 0 policy_top_up) policy_top_up forger_elsewhere)) 17
    && (eqb (length (guarded_requests 0 policy_top_up a.requests)) 12
    && (same_numbers (guarded_numbers http_forger a) (top_up_requests ++ last_request 41)
    && (same_numbers (guarded_numbers https_forger a) (top_up_requests ++ last_request 40)
    && (same_numbers (unforged_numbers everyone policy_top_up forger_at_work) loads_alone
    && (same_numbers (guarded_numbers everyone a) []
    && (same_numbers (unforged_numbers everyone policy_top_up load_of_thirty) (0 ∷ 30 ∷ 3 ∷ [])
    && same_numbers (guarded_numbers everyone c) (0x03 ∷ 30 ∷ 3 ∷ 0 ∷ 0 ∷ []))))))))

-- The same policy, in which connection 5 has script readers that are not among its readers. 2 refuses it: nothing remains of any list, and nothing is
-- sent.
abbrev pub refused_policy : List ℕ
refused_policy = with (connection 5 0x00000000 0x00000001 0x00000000 ∷ []) policy_top_up

abbrev pub ran_refused : List Item → Trace
ran_refused is = run refused_policy scripts_top_up is

unfoldable pub refused_policy_silent : Trace → Bool
refused_policy_silent r =
    not (well_formed refused_policy)
    && (same_numbers (unforged_numbers forger refused_policy forger_at_work) []
    && same_numbers (sent_bytes r.requests) [])

-- The same policy, in which URL 12 is no entry, and a load of URL 5.
abbrev pub without_entry : List ℕ
without_entry = with (url 12 18 0xffffffff 0x00040000 ∷ []) policy_top_up

abbrev pub load_of_five : List Item
load_of_five = items 1184 0xee ((0x03 ∷ 0x05 ∷ 0x03 ∷ []) ∷ [])

unfoldable pub guarded_without_entry : Trace → Bool
guarded_without_entry r = same_numbers (observations_numbers (guarded_requests forger without_entry r.requests)) (0x03 ∷ 5 ∷ 3 ∷ 0 ∷ 0 ∷ [])

-- ---- the claim

abbrev pub ForgersInVain : Type 0
ForgersInVain = T (forger_in_vain (ran forger_at_work) (ran forger_elsewhere))

abbrev pub EntryIsExcused : Type 0
EntryIsExcused = T (
    entry_is_excused (ran (with_script 5)) (ran (with_script 6)) (ran (redirected_to 21)) (ran (with_script 3)) (ran (redirected_to 12)))

abbrev pub HonestTells : Type 0
HonestTells = T (
    honest_tells (ran (honest_answers 7 1 30)) (ran (honest_answers 8 1 30)) (ran (honest_answers 7 2 30)) (ran (honest_answers 7 1 31)))

abbrev pub RefusedRecordsRemain : Type 0
RefusedRecordsRemain = T (refused_records_remain (ran refused_records))

abbrev pub OtherForgers : Type 0
OtherForgers = T (
    fewest_and_most (ran forger_at_work) (ran load_of_thirty)
    && (refused_policy_silent (ran_refused forger_at_work)
    && guarded_without_entry (run without_entry scripts_top_up load_of_five)))
