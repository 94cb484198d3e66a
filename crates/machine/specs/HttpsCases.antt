-- Worked cases of hosts that are always https: each of the four ways to ask for a URL, what is left alone, and what arrives.
use Rattle.std.specs.Prelude.{ℕ, List, [], ◌∷◌, ◌++◌, T}
use Rattle.machine.specs.Scripts.{Step, end, send_request, send_picture}
use Rattle.machine.specs.Machine.{output_room}
use Rattle.machine.specs.Cases.{Words, url, cookie_label, connection, always_https, partner, policy_with, scripts_with, script_of, value_is, keys_are}
use Rattle.machine.specs.Cases.{loading, requesting, picturing, Case, call, refused, one_call, one_refused}
use Rattle.machine.specs.Cases.{load_forbidden, redirect_forbidden, page_with, all_right}

-- ---- a policy

-- The http endpoints of hosts 0 to 2 are 0x1, 0x2, 0x4, and the https endpoint of host 1 is 0x20000. Host 1 is always https.
abbrev pub words_r : List Words
words_r =
    -- the page, at host 0
    url 0 0 0xffffffff 0xffffffff
    -- at host 1 by http and by https
    ∷ url 1 1 0xffffffff 0xffffffff
    ∷ url 2 17 0xffffffff 0xffffffff
    -- the same, and the https one has few readers; few writers
    ∷ url 3 1 0xffffffff 0xffffffff
    ∷ url 4 17 0x2 0xffffffff
    ∷ url 5 1 0xffffffff 0xffffffff
    ∷ url 6 17 0xffffffff 0x20000
    -- at host 1 by http: few readers; few writers
    ∷ url 7 1 0x2 0xffffffff
    ∷ url 8 1 0xffffffff 0x2
    -- the same, but that they have 0 too
    ∷ url 12 1 0x3 0xffffffff
    ∷ url 13 1 0xffffffff 0x1
    -- at host 2 by http and by https
    ∷ url 9 2 0xffffffff 0xffffffff
    ∷ url 10 18 0xffffffff 0xffffffff
    ∷ always_https 0x2
    ∷ partner 1 2
    ∷ partner 3 4
    ∷ partner 5 6
    ∷ partner 7 2
    ∷ partner 8 2
    ∷ partner 12 4
    ∷ partner 13 6
    -- the page's connection: its scripts have S = 0x7 and J = 0x1
    ∷ connection 0 0x7 0x7 0x1
    -- for the page and both schemes of host 1; without https at host 1; without http at host 1
    ∷ connection 1 0x7 0x7 0x20007
    ∷ connection 2 0x7 0x7 0x7
    ∷ connection 3 0x7 0x7 0x20001
    -- host 1: a cookie that https alone may read, and one that http alone may read
    ∷ cookie_label 1 0 0x20000 0xffffffff
    ∷ cookie_label 1 1 0x2 0xffffffff
    ∷ []

abbrev pub policy_r : List ℕ
policy_r = policy_with words_r

-- both cookies are there
abbrev pub both_stored : List Words
both_stored = value_is 1 0 7 ∷ value_is 1 1 8 ∷ keys_are 1 0x03 ∷ []

-- ---- the four ways to ask for URL u on connection n: it goes to URL 2, by https

-- the fields of such a request: it carries the cookie that https may read, and not the other
abbrev pub by_https : ℕ → List ℕ
by_https n = 0x02 ∷ n ∷ 0x01 ∷ 0x00 ∷ 0x00 ∷ 0x00 ∷ 0x07 ∷ []

abbrev pub load_goes : ℕ → ℕ → Case
load_goes u n = one_call [] both_stored (0x03 ∷ u ∷ n ∷ []) 0 0 (0x07 ∷ by_https n) (loading n 2 ∷ both_stored)

abbrev pub load_refused : ℕ → ℕ → ℕ → Case
load_refused u n number = one_refused both_stored (0x03 ∷ u ∷ n ∷ []) number

-- the connection holds the page
abbrev pub redirect_goes : ℕ → ℕ → Case
redirect_goes u n = one_call [] (loading n 0 ∷ both_stored) (0x23 ∷ 0x00 ∷ n ∷ u ∷ []) 0 0 (0x07 ∷ by_https n) (loading n 2 ∷ both_stored)

abbrev pub redirect_refused : ℕ → ℕ → ℕ → Case
redirect_refused u n number = one_refused (loading n 0 ∷ both_stored) (0x23 ∷ 0x00 ∷ n ∷ u ∷ []) number

abbrev pub script_goes : ℕ → ℕ → Case
script_goes u n = page_with both_stored (send_request u n 3) 2 (0x0f ∷ by_https n ++ (0x03 ∷ [])) (requesting n 0 3 2 ∷ [])

abbrev pub picture_goes : ℕ → ℕ → Case
picture_goes u n = page_with both_stored (send_picture u n) 2 (0x47 ∷ by_https n) (picturing n 2 ∷ [])

abbrev pub ends : Step → Case
ends code = page_with both_stored code 1 [] []

abbrev pub cases_of_asking : List Case
cases_of_asking =
    -- The URL, the connection's word and the cookies are the partner's. URL 2 is its own, whoever asks for it.
    load_goes 1 1
    ∷ redirect_goes 1 1
    ∷ script_goes 1 1
    ∷ picture_goes 1 1
    ∷ load_goes 2 1
    ∷ redirect_goes 2 1
    ∷ script_goes 2 1
    ∷ picture_goes 2 1
    -- The partner's readers decide, whatever the URL's own: those of URL 4 do not allow the connection's, and those of URL 3 would; the other way
    -- round with URL 2 and URL 7. And they tell what is missing: URL 12 itself lacks reader 2.
    ∷ load_forbidden both_stored 3 1 8 0
    ∷ redirect_forbidden both_stored 3 1 8 0
    ∷ load_forbidden both_stored 12 1 8 0
    ∷ redirect_forbidden both_stored 12 1 8 0
    ∷ ends (send_request 3 1 3)
    ∷ ends (send_picture 3 1)
    ∷ load_goes 7 1
    ∷ redirect_goes 7 1
    ∷ script_goes 7 1
    ∷ picture_goes 7 1
    -- So does its message endpoint: connection 2 has that of http alone among its writers, connection 3 that of https, and connection 0 neither.
    ∷ load_forbidden both_stored 1 2 9 17
    ∷ redirect_forbidden both_stored 1 2 9 17
    ∷ load_forbidden both_stored 1 0 9 17
    ∷ redirect_forbidden both_stored 1 0 9 17
    ∷ ends (send_request 1 2 3)
    ∷ ends (send_picture 1 2)
    ∷ load_goes 1 3
    ∷ redirect_goes 1 3
    ∷ script_goes 1 3
    ∷ picture_goes 1 3
    -- And its writers, of which a load asks nothing: those of URL 6 are few, and those of URL 5 would do; the other way round with URL 2 and URL 8.
    -- URL 13 itself lacks writer 1.
    ∷ redirect_forbidden both_stored 5 1 9 0
    ∷ redirect_forbidden both_stored 13 1 9 0
    ∷ ends (send_request 5 1 3)
    ∷ ends (send_picture 5 1)
    ∷ redirect_goes 8 1
    ∷ script_goes 8 1
    ∷ picture_goes 8 1
    ∷ []

-- ---- what is left alone

-- connection 1 holds a URL
abbrev pub holding : ℕ → List Words
holding u = loading 1 u ∷ both_stored

abbrev pub cases_of_leaving : List Case
cases_of_leaving =
    -- Host 2 is not listed: URL 9 stays by http, though there is an https one.
    one_call [] both_stored (0x03 ∷ 0x09 ∷ 0x01 ∷ []) 0 0 (0x03 ∷ 0x09 ∷ 0x01 ∷ []) (holding 9)
    ∷ one_call [] (holding 0) (0x23 ∷ 0x00 ∷ 0x01 ∷ 0x09 ∷ []) 0 0 (0x03 ∷ 0x09 ∷ 0x01 ∷ []) (holding 9)
    ∷ page_with both_stored (send_request 9 1 3) 2 (0x0b ∷ 0x09 ∷ 0x01 ∷ 0x03 ∷ []) (requesting 1 0 3 9 ∷ [])
    ∷ page_with both_stored (send_picture 9 1) 2 (0x43 ∷ 0x09 ∷ 0x01 ∷ []) (picturing 1 9 ∷ [])
    -- A number above 63 has no partner: not 64, whose word would be past the policy's last, nor 65, which is 1 and 64. URL 11 has an empty row.
    ∷ load_refused 64 1 6
    ∷ redirect_refused 64 1 6
    ∷ ends (send_request 64 1 3)
    ∷ ends (send_picture 64 1)
    ∷ load_refused 65 1 6
    ∷ redirect_refused 65 1 6
    ∷ ends (send_request 65 1 3)
    ∷ ends (send_picture 65 1)
    ∷ load_refused 11 1 6
    ∷ redirect_refused 11 1 6
    ∷ []

-- ---- what arrives

-- connection 2 awaits the response to a script's request of page 1, by http at host 1
abbrev pub page_by_http : ℕ → List Words
page_by_http u = requesting 2 1 3 u ∷ both_stored

abbrev pub request_nine : ℕ → List Words
request_nine x = script_of x (send_request 9 2 3 ∷ end ∷ []) ∷ []

abbrev pub cases_of_arriving : List Case
cases_of_arriving =
    -- What arrives names the URL that the connection holds: after a load of URL 1 that is URL 2, for a redirect and for each response.
    record {
      scripts = scripts_with [];
      room = output_room;
      start = both_stored;
      calls =
          call (0x03 ∷ 0x01 ∷ 0x01 ∷ []) 0 0 (0x07 ∷ by_https 1) (holding 2)
          ∷ refused (0x23 ∷ 0x01 ∷ 0x01 ∷ 0x09 ∷ []) 7 (holding 2)
          ∷ refused (0x0b ∷ 0x01 ∷ 0x01 ∷ 0x00 ∷ []) 7 (holding 2)
          ∷ call (0x23 ∷ 0x02 ∷ 0x01 ∷ 0x01 ∷ []) 0 0 (0x07 ∷ by_https 1) (holding 2)
          ∷ refused (0x0b ∷ 0x01 ∷ 0x01 ∷ 0x00 ∷ []) 7 (holding 2)
          ∷ call (0x0b ∷ 0x02 ∷ 0x01 ∷ 0x00 ∷ []) 0 1 [] both_stored
          ∷ [];
    }
    ∷ one_refused (requesting 1 0 3 2 ∷ both_stored) (0x13 ∷ 0x01 ∷ 0x01 ∷ 0x00 ∷ 0x00 ∷ 0x00 ∷ 0x09 ∷ []) 7
    ∷ one_refused (picturing 1 2 ∷ both_stored) (0x43 ∷ 0x01 ∷ 0x01 ∷ []) 7
    -- A state may have been lent in which a connection holds URL 1, also one that does not fit URL 2: what arrives is judged by URL 1.
    ∷ one_refused (holding 1) (0x0b ∷ 0x02 ∷ 0x01 ∷ 0x00 ∷ []) 7
    ∷ one_call [] (holding 1) (0x23 ∷ 0x01 ∷ 0x01 ∷ 0x01 ∷ []) 0 0 (0x07 ∷ by_https 1) (holding 2)
    ∷ one_call [] (loading 2 1 ∷ both_stored) (0x0b ∷ 0x01 ∷ 0x02 ∷ 0x00 ∷ []) 0 1 [] both_stored
    -- A page is not replaced, neither that of a document's response nor the origin of a script's request, which a redirect keeps.
    ∷ one_call (request_nine 1) (loading 2 1 ∷ both_stored) (0x0b ∷ 0x01 ∷ 0x02 ∷ 0x01 ∷ []) 0 2 (0x0b ∷ 0x09 ∷ 0x02 ∷ 0x03 ∷ []) (page_by_http 9)
    ∷ one_call (request_nine 3) (page_by_http 9) (0x13 ∷ 0x09 ∷ 0x02 ∷ 0x00 ∷ 0x00 ∷ 0x00 ∷ 0x00 ∷ []) 0 2
    (0x0b ∷ 0x09 ∷ 0x02 ∷ 0x03 ∷ []) (page_by_http 9)
    ∷ one_call [] (page_by_http 9) (0x23 ∷ 0x09 ∷ 0x02 ∷ 0x00 ∷ []) 0 0 (0x0b ∷ 0x00 ∷ 0x02 ∷ 0x03 ∷ []) (page_by_http 0)
    ∷ []

abbrev pub HttpsCases : Type 0
HttpsCases = T (all_right policy_r (cases_of_asking ++ (cases_of_leaving ++ cases_of_arriving)))
