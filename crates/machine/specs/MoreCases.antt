-- A second list of worked cases: document 01's other examples; what each record does to connections, handlers and cookies; each condition
-- of the policy where it alone fails; pictures; how scripts end; and which number a record has where several apply.
use Rattle.std.specs.Prelude.{ℕ, ◌&&◌, List, [], ◌∷◌, ◌++◌, T, take, replicate}
use Rattle.machine.specs.Scripts.{Step, end, constant, add, read_cookie, write_cookie, send_request, skip_if_zero, send_picture}
use Rattle.machine.specs.Session.{packed, picture_kind}
use Rattle.machine.specs.Machine.{output_room}
use Rattle.machine.specs.Cases.{Words, url, cookie_label, connection, policy_with}
use Rattle.machine.specs.Cases.{scripts_with, script_is, script_of, value_is, keys_are, connection_is}
use Rattle.machine.specs.Cases.{loading, requesting, picturing, Call, Case, all_right}
use Rattle.machine.specs.Cases.{call, refused, forbidden, one_call, one_refused, one_forbidden, policy_p, from_empty, load_zero, seven_stored, case_a}

-- ---- document 01's other examples

-- script 1 reads key 0, doubles the value and stores it
abbrev pub double_key_zero : List ℕ
double_key_zero = scripts_with (script_of 1 (read_cookie 1 0 ∷ add 1 1 1 ∷ write_cookie 0 1 ∷ end ∷ []) ∷ [])

-- a call with so many output bytes
abbrev pub with_room : ℕ → Call → Case
with_room room c = record { scripts = scripts_with []; room = room; start = []; calls = c ∷ [] }

-- a call in the state that e and a second load leave, with that script
abbrev pub after_seven : List Words → Call → Case
after_seven pending c = record { scripts = double_key_zero; room = output_room; start = pending ++ seven_stored; calls = c ∷ [] }

abbrev pub other_examples : List Case
other_examples =
    -- 1,183 output bytes give 1, and 1,184 do not
    with_room 1183 (refused load_zero 1 [])
    ∷ with_room 1184 case_a
    -- the script is stopped in connection 0, and goes on in connection 2, where it stores 14
    ∷ after_seven (loading 0 0 ∷ []) (call (0x0b ∷ 0x00 ∷ 0x00 ∷ 0x01 ∷ []) 0 1 [] seven_stored)
    ∷ after_seven (loading 2 0 ∷ []) (call (0x0b ∷ 0x00 ∷ 0x02 ∷ 0x01 ∷ []) 0 4 [] (value_is 0 0 14 ∷ keys_are 0 0x01 ∷ []))
    -- a load is not asked whether its event endpoint is among the connection's readers, nor for the URL's writers
    ∷ from_empty (call (0x03 ∷ 0x00 ∷ 0x02 ∷ []) 0 0 (0x03 ∷ 0x00 ∷ 0x02 ∷ []) (loading 2 0 ∷ []) ∷ [])
    ∷ from_empty (call (0x03 ∷ 0x02 ∷ 0x01 ∷ []) 0 0 (0x03 ∷ 0x02 ∷ 0x01 ∷ []) (loading 1 2 ∷ []) ∷ [])
    -- 7: a free connection; another URL; another kind
    ∷ from_empty (refused (0x0b ∷ 0x00 ∷ 0x00 ∷ 0x00 ∷ []) 7 [] ∷ [])
    ∷ from_empty (case_a
    ∷ refused (0x0b ∷ 0x03 ∷ 0x00 ∷ 0x00 ∷ []) 7 (loading 0 0 ∷ [])
    ∷ refused (0x13 ∷ 0x00 ∷ 0x00 ∷ 0x00 ∷ 0x00 ∷ 0x00 ∷ 0x00 ∷ []) 7 (loading 0 0 ∷ [])
    ∷ [])
    -- the example of the program walk: a, e and f are its first three records, and these two follow
    ∷ record {
      scripts = scripts_with [];
      room = output_room;
      start = loading 0 0 ∷ seven_stored;
      calls = forbidden (0x03 ∷ 0x00 ∷ 0x01 ∷ []) 8 1 (loading 0 0 ∷ seven_stored) ∷ refused [] 10 (loading 0 0 ∷ seven_stored) ∷ [];
    }
    ∷ []

-- ---- a policy for the conditions one by one

-- The http endpoints of hosts 0 to 3 are 0x1, 0x2, 0x4, 0x8. The page is URL 2, at host 0; it comes on connection 0.
abbrev pub policy_q : List ℕ
policy_q = policy_with (
    -- at host 2; at host 1; the page
    url 0 2 0xffffffff 0xffffffff
    ∷ url 1 1 0xffffffff 0xffffffff
    ∷ url 2 0 0xffffffff 0xffffffff
    -- at host 1: few readers; few writers; another URL
    ∷ url 3 1 0x2 0xffffffff
    ∷ url 4 1 0xffffffff 0x2
    ∷ url 5 1 0xffffffff 0xffffffff
    -- at host 1 by https: its readers do not hold its own message endpoint
    ∷ url 6 17 0x2 0xffffffff
    -- the page's connection: its scripts have S = 0x3 and J = 0x1
    ∷ connection 0 0x7 0x3 0x1
    -- one that its scripts may use for URL 1
    ∷ connection 1 0x3 0x3 0xf
    -- as connection 1, but for: more readers; no message endpoint of host 1; no endpoint of host 0; no readers
    ∷ connection 2 0x7 0x7 0xf
    ∷ connection 3 0x3 0x3 0x1
    ∷ connection 4 0x3 0x3 0x2
    ∷ connection 5 0 0 0xf
    -- one for URL 6
    ∷ connection 6 0 0 0x20000
    -- host 0: key 0 is stored, read and written by the page on connection 0
    ∷ cookie_label 0 0 0x3 0x1
    -- more readers than the connection; writers without J; more readers than S, within the connection's
    ∷ cookie_label 0 1 0xf 0x1
    ∷ cookie_label 0 2 0x3 0x2
    ∷ cookie_label 0 3 0x7 0x1
    -- fewer readers than S; more writers than J
    ∷ cookie_label 0 4 0x1 0x1
    ∷ cookie_label 0 5 0x3 0x3
    -- written on connection 1 too; the same, and its readers do not hold host 0
    ∷ cookie_label 0 6 0x3 0xf
    ∷ cookie_label 0 7 0x2 0xf
    -- host 1: sent to host 1, stored and written on connection 1
    ∷ cookie_label 1 0 0x2 0xf
    -- sent to host 1 by https
    ∷ cookie_label 1 1 0x20000 0xf
    ∷ [])

-- connection 0 loads the page; its response names script 1
abbrev pub page_loading : List Words
page_loading = loading 0 2 ∷ []

abbrev pub page_response : List ℕ
page_response = 0x0b ∷ 0x02 ∷ 0x00 ∷ 0x01 ∷ []

-- the page with a script, from a state: the steps run, the bytes sent and the state after
abbrev pub page_runs : List Words → List Step → ℕ → List ℕ → List Words → Case
page_runs before code steps sent after = one_call (script_of 1 code ∷ []) (page_loading ++ before) page_response 0 steps sent after

-- ---- each condition where it alone fails

-- host 0 has 9 for key k, and no other key: `keys` is the map of k
abbrev pub nine_for : ℕ → ℕ → List Words
nine_for k keys = value_is 0 k 9 ∷ keys_are 0 keys ∷ []

-- host 1 has 9 for key 0, and no other key
abbrev pub host_one_nine : List Words
host_one_nine = value_is 1 0 9 ∷ keys_are 1 0x01 ∷ []

-- a script that copies a key's value to key 6
abbrev pub copy_key : ℕ → List Step
copy_key k = read_cookie 1 k ∷ write_cookie 6 1 ∷ end ∷ []

abbrev pub cases_of_conditions : List Case
cases_of_conditions =
    -- Step 5 where it is allowed: URL 1 on connection 1 with handler 15. The request carries a cookie that the script may not read.
    page_runs host_one_nine (send_request 1 1 15 ∷ end ∷ []) 2
    (0x0f ∷ 0x01 ∷ 0x01 ∷ 0x01 ∷ 0x00 ∷ 0x00 ∷ 0x00 ∷ 0x09 ∷ 0x0f ∷ []) (requesting 1 2 15 1 ∷ host_one_nine)
    -- the event endpoint of URL 0 is not in S (it is among the connection's readers)
    ∷ page_runs [] (send_request 0 1 5 ∷ end ∷ []) 1 [] []
    -- the readers of connection 2 are not within S (they are within the connection's readers)
    ∷ page_runs [] (send_request 1 2 5 ∷ end ∷ []) 1 [] []
    -- connection 1 does not fit URL 3: readers
    ∷ page_runs [] (send_request 3 1 5 ∷ end ∷ []) 1 [] []
    -- connection 3 does not fit URL 1: message endpoint
    ∷ page_runs [] (send_request 1 3 5 ∷ end ∷ []) 1 [] []
    -- J is not within the writers of connection 4
    ∷ page_runs [] (send_request 1 4 5 ∷ end ∷ []) 1 [] []
    -- J is not within the writers of URL 4
    ∷ page_runs [] (send_request 4 1 5 ∷ end ∷ []) 1 [] []
    -- Step 3 where it is allowed.
    ∷ page_runs (nine_for 0 0x01) (copy_key 0) 3 [] (value_is 0 0 9 ∷ value_is 0 6 9 ∷ keys_are 0 0x41 ∷ [])
    -- S is not within the readers of key 4; the writers of key 5 are not within J; key 0 is absent
    ∷ page_runs (nine_for 4 0x10) (copy_key 4) 1 [] (nine_for 4 0x10)
    ∷ page_runs (nine_for 5 0x20) (copy_key 5) 1 [] (nine_for 5 0x20)
    ∷ page_runs [] (copy_key 0) 1 [] []
    -- Step 4: key 0 is written. The readers of key 3 are not within S, and J is not within the writers of key 2: the script goes on.
    ∷ page_runs [] (constant 1 9 ∷ write_cookie 3 1 ∷ write_cookie 2 1 ∷ write_cookie 0 1 ∷ end ∷ []) 5 [] (nine_for 0 0x01)
    -- Delivered: the readers of key 1 are not within the connection's, and its writers not within those of key 2; these are passed over. Key 3
    -- goes by the connection's readers, and not by S.
    ∷ one_call [] page_loading
    (0x0f ∷ 0x02 ∷ 0x00 ∷ 0x0e ∷ 0x00 ∷ 0x00 ∷ 0x00 ∷ 0x07 ∷ 0x00 ∷ 0x00 ∷ 0x00 ∷ 0x08
    ∷ 0x00 ∷ 0x00 ∷ 0x00 ∷ 0x09 ∷ 0x00 ∷ []) 0 1 []
    (nine_for 3 0x08)
    -- A redirect of connection 1 where it is allowed, to URL 1.
    ∷ one_call [] (loading 1 2 ∷ []) (0x23 ∷ 0x02 ∷ 0x01 ∷ 0x01 ∷ []) 0 0 (0x03 ∷ 0x01 ∷ 0x01 ∷ []) (loading 1 1 ∷ [])
    -- the event endpoint of URL 0 is not among its readers; its readers are not within those of URL 3
    ∷ one_forbidden (loading 1 2 ∷ []) (0x23 ∷ 0x02 ∷ 0x01 ∷ 0x00 ∷ []) 8 2
    ∷ one_forbidden (loading 1 2 ∷ []) (0x23 ∷ 0x02 ∷ 0x01 ∷ 0x03 ∷ []) 8 0
    -- the message endpoint of URL 1 is not among the writers of connection 3; case i has the other condition of 9
    ∷ one_forbidden (loading 3 2 ∷ []) (0x23 ∷ 0x02 ∷ 0x03 ∷ 0x01 ∷ []) 9 1
    ∷ []

-- ---- connections, handlers and attached cookies

-- script 1 requests URL 1 on connection 1 with handler 2, which adds 2 to register 0 and stores it as key 6
abbrev pub request_and_handle : List Words
request_and_handle = script_of 1 (send_request 1 1 2 ∷ end ∷ []) ∷ script_of 2 (constant 1 2 ∷ add 0 0 1 ∷ write_cookie 6 0 ∷ end ∷ []) ∷ []

-- after its request
abbrev pub handler_waiting : List Words
handler_waiting = requesting 1 2 2 1 ∷ []

-- host 0 has 7 for key 6 and 8 for key 7
abbrev pub two_stored : List Words
two_stored = value_is 0 6 7 ∷ value_is 0 7 8 ∷ keys_are 0 0xc0 ∷ []

abbrev pub cases_of_connections : List Case
cases_of_connections =
    -- A load replaces what was pending.
    one_call [] handler_waiting (0x03 ∷ 0x02 ∷ 0x01 ∷ []) 0 0 (0x03 ∷ 0x02 ∷ 0x01 ∷ []) (loading 1 2 ∷ [])
    -- A script's request replaces what was pending.
    ∷ one_call request_and_handle (loading 1 2 ∷ page_loading) page_response 0 2 (0x0b ∷ 0x01 ∷ 0x01 ∷ 0x02 ∷ []) (requesting 1 2 2 1 ∷ [])
    -- A script opens again the connection that it came on.
    ∷ one_call request_and_handle (loading 1 2 ∷ []) (0x0b ∷ 0x02 ∷ 0x01 ∷ 0x01 ∷ []) 0 2
    (0x0b ∷ 0x01 ∷ 0x01 ∷ 0x02 ∷ []) (requesting 1 2 2 1 ∷ [])
    -- The handler runs at the host of the page, which is host 0, and not at host 1, which answers and whose key 0 the response brings.
    -- Register 0 is the value, and the sum wraps at 2^32.
    ∷ one_call request_and_handle handler_waiting
    (0x17 ∷ 0x01 ∷ 0x01 ∷ 0x01 ∷ 0x00 ∷ 0x00 ∷ 0x00 ∷ 0x09 ∷ 0xff ∷ 0xff ∷ 0xff ∷ 0xff ∷ [])
    0 4 [] (value_is 0 6 1 ∷ keys_are 0 0x40 ∷ host_one_nine)
    -- The redirect of a script's request keeps kind, origin and handler; its own request has the handler, and the cookie that it brought.
    ∷ one_call request_and_handle handler_waiting (0x27 ∷ 0x01 ∷ 0x01 ∷ 0x01 ∷ 0x00 ∷ 0x00 ∷ 0x00 ∷ 0x09 ∷ 0x05 ∷ []) 0 0
    (0x0f ∷ 0x05 ∷ 0x01 ∷ 0x01 ∷ 0x00 ∷ 0x00 ∷ 0x00 ∷ 0x09 ∷ 0x02 ∷ []) (requesting 1 2 2 5 ∷ host_one_nine)
    -- A redirect's cookies are the old URL's host's: key 6 of host 0. One that may not be stored, key 0, is passed over.
    ∷ one_call [] (loading 1 2 ∷ [])
    (0x27 ∷ 0x02 ∷ 0x01 ∷ 0x41 ∷ 0x00 ∷ 0x00 ∷ 0x00 ∷ 0x08 ∷ 0x00 ∷ 0x00 ∷ 0x00 ∷ 0x09 ∷ 0x01 ∷ []) 0 0
    (0x03 ∷ 0x01 ∷ 0x01 ∷ []) (loading 1 1 ∷ value_is 0 6 9 ∷ keys_are 0 0x40 ∷ [])
    -- Cookies are attached by the URL's message endpoint: key 6 and not key 7. The readers of connection 1 hold those of both; connection 5 has none.
    ∷ one_call [] two_stored (0x03 ∷ 0x02 ∷ 0x01 ∷ []) 0 0
    (0x07 ∷ 0x02 ∷ 0x01 ∷ 0x40 ∷ 0x00 ∷ 0x00 ∷ 0x00 ∷ 0x07 ∷ []) (loading 1 2 ∷ two_stored)
    ∷ one_call [] two_stored (0x03 ∷ 0x02 ∷ 0x05 ∷ []) 0 0
    (0x07 ∷ 0x02 ∷ 0x05 ∷ 0x40 ∷ 0x00 ∷ 0x00 ∷ 0x00 ∷ 0x07 ∷ []) (loading 5 2 ∷ two_stored)
    -- Whatever the URL's readers are: those of key 1 of host 1 are not within them, and they do not hold the message endpoint of URL 6.
    ∷ one_call [] (value_is 1 1 9 ∷ keys_are 1 0x02 ∷ []) (0x03 ∷ 0x06 ∷ 0x06 ∷ []) 0 0
    (0x07 ∷ 0x06 ∷ 0x06 ∷ 0x02 ∷ 0x00 ∷ 0x00 ∷ 0x00 ∷ 0x09 ∷ []) (loading 6 6 ∷ value_is 1 1 9 ∷ keys_are 1 0x02 ∷ [])
    -- A present cookie of value 0 is attached.
    ∷ one_call [] (keys_are 0 0x40 ∷ []) (0x03 ∷ 0x02 ∷ 0x01 ∷ []) 0 0
    (0x07 ∷ 0x02 ∷ 0x01 ∷ 0x40 ∷ 0x00 ∷ 0x00 ∷ 0x00 ∷ 0x00 ∷ []) (loading 1 2 ∷ keys_are 0 0x40 ∷ [])
    -- 7: a document's response to a script's request
    ∷ one_refused handler_waiting (0x0b ∷ 0x01 ∷ 0x01 ∷ 0x00 ∷ []) 7
    -- One skip is taken, over two steps; the next is not, as register 1 is not 0. Key 8 ends the script.
    ∷ page_runs []
    (skip_if_zero 0 2 ∷ write_cookie 5 0 ∷ end ∷ constant 1 0x0102 ∷ skip_if_zero 1 1
    ∷ write_cookie 6 1 ∷ write_cookie 8 1 ∷ write_cookie 0 1 ∷ []) 5 []
    (value_is 0 6 0x0102 ∷ keys_are 0 0x40 ∷ [])
    ∷ []

-- ---- pictures

-- what script 0 does where it runs: it stores 9 as key 0 and requests URL 1 on connection 1
abbrev pub acting_script : List Words
acting_script = script_of 0 (constant 1 9 ∷ write_cookie 0 1 ∷ send_request 1 1 0 ∷ end ∷ []) ∷ []

abbrev pub cases_of_pictures : List Case
cases_of_pictures =
    -- Step 7 where it is allowed: URL 1 on connection 1, without cookies and with them. It replaces what was pending.
    page_runs [] (send_picture 1 1 ∷ end ∷ []) 2 (0x43 ∷ 0x01 ∷ 0x01 ∷ []) (picturing 1 1 ∷ [])
    ∷ page_runs host_one_nine (send_picture 1 1 ∷ end ∷ []) 2
    (0x47 ∷ 0x01 ∷ 0x01 ∷ 0x01 ∷ 0x00 ∷ 0x00 ∷ 0x00 ∷ 0x09 ∷ []) (picturing 1 1 ∷ host_one_nine)
    ∷ page_runs handler_waiting (send_picture 5 1 ∷ end ∷ []) 2 (0x43 ∷ 0x05 ∷ 0x01 ∷ []) (picturing 1 5 ∷ [])
    -- Its third field is not used: 255 is no handler.
    ∷ one_call (script_is 1 (7 ∷ 1 ∷ 1 ∷ 255 ∷ []) ∷ []) page_loading page_response 0 2 (0x43 ∷ 0x01 ∷ 0x01 ∷ []) (picturing 1 1 ∷ [])
    -- the conditions of step 5, each where it alone fails: event endpoint, readers of the connection, its fit (readers, message endpoint), J
    -- within the connection's writers and within the URL's
    ∷ page_runs [] (send_picture 0 1 ∷ end ∷ []) 1 [] []
    ∷ page_runs [] (send_picture 1 2 ∷ end ∷ []) 1 [] []
    ∷ page_runs [] (send_picture 3 1 ∷ end ∷ []) 1 [] []
    ∷ page_runs [] (send_picture 1 3 ∷ end ∷ []) 1 [] []
    ∷ page_runs [] (send_picture 1 4 ∷ end ∷ []) 1 [] []
    ∷ page_runs [] (send_picture 4 1 ∷ end ∷ []) 1 [] []
    -- A picture's response frees the connection, and stores what it brings. Nothing runs, though script 0 would act, as it does for a document.
    ∷ one_call acting_script (picturing 1 1 ∷ []) (0x43 ∷ 0x01 ∷ 0x01 ∷ []) 0 0 [] []
    ∷ one_call acting_script (picturing 1 1 ∷ []) (0x47 ∷ 0x01 ∷ 0x01 ∷ 0x01 ∷ 0x00 ∷ 0x00 ∷ 0x00 ∷ 0x09 ∷ []) 0 0 [] host_one_nine
    ∷ one_call acting_script (loading 1 1 ∷ []) (0x0b ∷ 0x01 ∷ 0x01 ∷ 0x00 ∷ []) 0 4
    (0x0f ∷ 0x01 ∷ 0x01 ∷ 0x01 ∷ 0x00 ∷ 0x00 ∷ 0x00 ∷ 0x09 ∷ 0x00 ∷ []) (requesting 1 1 0 1 ∷ host_one_nine)
    -- 7: a picture's response on a free connection, on one that holds another URL, on a document's and on a script request's; a document's and a
    -- script request's on a picture's
    ∷ one_refused [] (0x43 ∷ 0x01 ∷ 0x01 ∷ []) 7
    ∷ one_refused (picturing 1 5 ∷ []) (0x43 ∷ 0x01 ∷ 0x01 ∷ []) 7
    ∷ one_refused (loading 1 1 ∷ []) (0x43 ∷ 0x01 ∷ 0x01 ∷ []) 7
    ∷ one_refused handler_waiting (0x43 ∷ 0x01 ∷ 0x01 ∷ []) 7
    ∷ one_refused (picturing 1 1 ∷ []) (0x0b ∷ 0x01 ∷ 0x01 ∷ 0x00 ∷ []) 7
    ∷ one_refused (picturing 1 1 ∷ []) (0x13 ∷ 0x01 ∷ 0x01 ∷ 0x00 ∷ 0x00 ∷ 0x00 ∷ 0x09 ∷ []) 7
    -- 6: the URL has an empty row, or none; there is no connection 32
    ∷ one_refused [] (0x43 ∷ 0x07 ∷ 0x01 ∷ []) 6
    ∷ one_refused [] (0x43 ∷ 0x40 ∷ 0x01 ∷ []) 6
    ∷ one_refused [] (0x43 ∷ 0x01 ∷ 0x20 ∷ []) 6
    -- A picture that is redirected twice, the first time with a cookie: both requests are a picture's, and so is the response at the end.
    ∷ record {
      scripts = scripts_with [];
      room = output_room;
      start = picturing 1 1 ∷ [];
      calls =
          call (0x27 ∷ 0x01 ∷ 0x01 ∷ 0x01 ∷ 0x00 ∷ 0x00 ∷ 0x00 ∷ 0x09 ∷ 0x05 ∷ []) 0 0
          (0x47 ∷ 0x05 ∷ 0x01 ∷ 0x01 ∷ 0x00 ∷ 0x00 ∷ 0x00 ∷ 0x09 ∷ []) (picturing 1 5 ∷ host_one_nine)
          ∷ call (0x23 ∷ 0x05 ∷ 0x01 ∷ 0x02 ∷ []) 0 0 (0x43 ∷ 0x02 ∷ 0x01 ∷ []) (picturing 1 2 ∷ host_one_nine)
          ∷ call (0x43 ∷ 0x02 ∷ 0x01 ∷ []) 0 0 [] host_one_nine
          ∷ [];
    }
    -- 8: the event endpoint of URL 0 is not among the connection's readers; its readers are not within those of URL 3. 9: the message endpoint of
    -- URL 1 is not among the writers of connection 3
    ∷ one_forbidden (picturing 1 2 ∷ []) (0x23 ∷ 0x02 ∷ 0x01 ∷ 0x00 ∷ []) 8 2
    ∷ one_forbidden (picturing 1 2 ∷ []) (0x23 ∷ 0x02 ∷ 0x01 ∷ 0x03 ∷ []) 8 0
    ∷ one_forbidden (picturing 3 2 ∷ []) (0x23 ∷ 0x02 ∷ 0x03 ∷ 0x01 ∷ []) 9 1
    -- A load replaces a picture.
    ∷ one_call [] (picturing 1 1 ∷ []) (0x03 ∷ 0x02 ∷ 0x01 ∷ []) 0 0 (0x03 ∷ 0x02 ∷ 0x01 ∷ []) (loading 1 2 ∷ [])
    ∷ []

-- ---- how a script ends

-- The page's script is one step, given by its bytes, and ends there. Host 0 has key 1, which the script may read.
abbrev pub ends_at : List ℕ → Case
ends_at bytes = one_call (script_is 1 bytes ∷ []) (page_loading ++ nine_for 1 0x02) page_response 0 1 [] (nine_for 1 0x02)

abbrev pub cases_of_endings : List Case
cases_of_endings =
    -- operations that are not known; with these fields a script would go on after each that is
    ends_at (8 ∷ 1 ∷ 1 ∷ 1 ∷ [])
    ∷ ends_at (13 ∷ 1 ∷ 1 ∷ 1 ∷ [])
    -- register 4, wherever a step names a register
    ∷ ends_at (1 ∷ 4 ∷ 1 ∷ 1 ∷ [])
    ∷ ends_at (2 ∷ 4 ∷ 1 ∷ 1 ∷ [])
    ∷ ends_at (2 ∷ 1 ∷ 4 ∷ 1 ∷ [])
    ∷ ends_at (2 ∷ 1 ∷ 1 ∷ 4 ∷ [])
    ∷ ends_at (3 ∷ 4 ∷ 1 ∷ 0 ∷ [])
    ∷ ends_at (4 ∷ 0 ∷ 4 ∷ 0 ∷ [])
    ∷ ends_at (6 ∷ 4 ∷ 0 ∷ 0 ∷ [])
    -- step 5: handler 16; URL 67, where the words that follow the rows would make a URL that may be requested
    ∷ ends_at (5 ∷ 1 ∷ 1 ∷ 16 ∷ [])
    ∷ ends_at (5 ∷ 67 ∷ 1 ∷ 1 ∷ [])
    -- step 7: that URL; an empty row; connection 32
    ∷ ends_at (7 ∷ 67 ∷ 1 ∷ 1 ∷ [])
    ∷ ends_at (7 ∷ 7 ∷ 1 ∷ 1 ∷ [])
    ∷ ends_at (7 ∷ 1 ∷ 32 ∷ 1 ∷ [])
    ∷ []

-- ---- the number, where several apply: the first of them

-- a policy with a word too few, for 2; a script table with a byte too few, for 3; a presence bit above the eight, for 4
abbrev pub short_policy : List ℕ
short_policy = take 608 policy_p

abbrev pub short_table : List ℕ
short_table = replicate 2047 0

abbrev pub stray_bit : List Words
stray_bit = keys_are 15 0x100 ∷ []

-- the empty record is refused with a number
abbrev pub no_record : ℕ → List ℕ → List Words → ℕ → Case
no_record room scripts start number = record { scripts = scripts; room = room; start = start; calls = refused [] number start ∷ [] }

-- 1 to 4 and 10; 2 to 4 and 10
abbrev pub with_short_policy : List Case
with_short_policy = no_record 1183 short_table stray_bit 1 ∷ no_record 1184 short_table stray_bit 2 ∷ []

-- 3, 4 and 10; 4 and 10; 6 and 7: there is no script 16, and the connection is free; 7 and 8, 7 and 9: it is free, and the target is not allowed
abbrev pub with_policy_p : List Case
with_policy_p =
    no_record 1184 short_table stray_bit 3
    ∷ no_record 1184 (scripts_with []) stray_bit 4
    ∷ from_empty (refused (0x0b ∷ 0x00 ∷ 0x00 ∷ 0x10 ∷ []) 6 [] ∷ [])
    ∷ from_empty (refused (0x23 ∷ 0x00 ∷ 0x00 ∷ 0x02 ∷ []) 7 [] ∷ [])
    ∷ from_empty (refused (0x23 ∷ 0x01 ∷ 0x01 ∷ 0x02 ∷ []) 7 [] ∷ [])
    ∷ []

-- 4 and 10: a connection whose URL is 64, and one whose origin is. The words that follow the rows would make of 64 a URL that connection 5 fits.
-- And a connection that does not fit its URL; a picture that has a handler, or an origin; a kind that there is not.
abbrev pub with_policy_q : List Case
with_policy_q =
    no_record 1184 (scripts_with []) (loading 5 64 ∷ []) 4
    ∷ no_record 1184 (scripts_with []) (requesting 5 64 0 1 ∷ []) 4
    ∷ no_record 1184 (scripts_with []) (loading 1 3 ∷ []) 4
    ∷ no_record 1184 (scripts_with []) (picturing 5 64 ∷ []) 4
    ∷ no_record 1184 (scripts_with []) (picturing 1 3 ∷ []) 4
    ∷ no_record 1184 (scripts_with []) (connection_is 1 (packed picture_kind 0 1 1) ∷ []) 4
    ∷ no_record 1184 (scripts_with []) (connection_is 1 (packed picture_kind 2 0 1) ∷ []) 4
    ∷ no_record 1184 (scripts_with []) (connection_is 1 (packed 4 0 0 1) ∷ []) 4
    ∷ []

-- 2 and 10, where the last row has no address and a set that is not empty
abbrev pub with_last_row : List Case
with_last_row = no_record 1184 (scripts_with []) [] 2 ∷ []

-- 10, 12 or 11 and 6: no URL has a row, not even 0, which the fields of a record that cannot be read name
abbrev pub with_no_url : List Case
with_no_url =
    from_empty (refused [] 10 []
    ∷ refused (0x0f ∷ 0x00 ∷ 0x00 ∷ 0x00 ∷ []) 12 []
    ∷ refused (0x0f ∷ 0x00 ∷ 0x00 ∷ []) 11 []
    ∷ refused (0x03 ∷ 0x00 ∷ 0x00 ∷ 0x00 ∷ []) 11 []
    ∷ [])
    ∷ []

abbrev pub MoreCases : Type 0
MoreCases = T (
    all_right policy_p (other_examples ++ with_policy_p)
    && (all_right policy_q (cases_of_conditions ++ (cases_of_connections ++ (cases_of_pictures ++ (cases_of_endings ++ with_policy_q))))
    && (all_right short_policy with_short_policy
    && (all_right (policy_with (url 63 255 1 0 ∷ [])) with_last_row
    && (all_right (policy_with (url 63 255 0 1 ∷ [])) with_last_row
    && all_right (policy_with []) with_no_url)))))
