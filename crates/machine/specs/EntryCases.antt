-- Worked cases of entries: each condition of a redirect and of the steps that send, where it alone fails, without and with entry; a search page;
-- entries that have a partner or are one; an entry's host and endpoints; and the words of an address.
use Rattle.std.specs.Prelude.{ℕ, ◌&&◌, List, [], ◌∷◌, ◌++◌, T}
use Rattle.machine.specs.Scripts.{Step, end, constant, write_cookie, send_request, send_picture}
use Rattle.machine.specs.Cases.{Words, url, cookie_label, connection, always_https, partner, policy_with, script_of, value_is, keys_are}
use Rattle.machine.specs.Cases.{loading, requesting, picturing, Case, call, forbidden, one_call, one_refused, one_forbidden}
use Rattle.machine.specs.Cases.{load_forbidden, redirect_forbidden, page_with, from_empty, all_right}

-- ---- a policy

-- Bit h is the http endpoint of host h, and bit 16 + h its https endpoint. Host 3 is always https.
abbrev pub words_e : List Words
words_e =
    -- the page, at host 0
    url 0 0 0xffffffff 0xffffffff
    -- what follows comes in twos, the second of which is an entry: at host 1 by https, few writers
    ∷ url 1 17 0xffffffff 0x20000
    ∷ url 2 49 0xffffffff 0x20000
    -- at host 2, whose event endpoint the readers of connections 0 and 1 lack
    ∷ url 3 18 0xffffffff 0xffffffff
    ∷ url 4 50 0xffffffff 0x40000
    -- few readers
    ∷ url 5 17 0x2 0xffffffff
    ∷ url 6 49 0x2 0x20000
    -- at host 1 by http, and the writers of connection 1 lack that message endpoint
    ∷ url 7 1 0xffffffff 0xffffffff
    ∷ url 8 33 0xffffffff 0x2
    -- nothing fails; URL 9 has just the writers of connection 1
    ∷ url 9 17 0xffffffff 0xe0009
    ∷ url 10 49 0xffffffff 0xffffffff
    -- at host 3: an entry, whose partner is none and has few writers; and the reverse
    ∷ url 11 35 0xffffffff 0xffffffff
    ∷ url 12 19 0xffffffff 0x80000
    ∷ url 13 3 0xffffffff 0x8
    ∷ url 14 51 0xffffffff 0x80000
    ∷ always_https 0x8
    ∷ partner 11 12
    ∷ partner 13 14
    -- the search page, at host 5; the canteen's front page and a page behind it, at host 0
    ∷ url 15 21 0xffffffff 0xffffffff
    ∷ url 16 48 0xffffffff 0x10000
    ∷ url 17 16 0xffffffff 0x10000
    -- at host 0 by http, few writers
    ∷ url 18 0 0xffffffff 0x10000
    ∷ url 19 32 0xffffffff 0x10000
    -- writers that hold J, and not those of connection 1
    ∷ url 20 17 0xffffffff 0x1
    -- the page's connection: its scripts have S = 0xb and J = 0x1
    ∷ connection 0 0xb 0xb 0x1
    -- the connection for what is asked; one with more readers than S; one whose writers lack J
    ∷ connection 1 0xb 0xb 0xe0009
    ∷ connection 2 0xf 0xf 0xe0001
    ∷ connection 3 0xb 0xb 0xe0000
    -- for the search page and the canteen
    ∷ connection 4 0x21 0x21 0x210000
    -- host 0: a cookie that the canteen alone writes; host 1: one that https alone may read, and two that http alone may read
    ∷ cookie_label 0 0 0x1 0x10000
    ∷ cookie_label 1 0 0x20000 0xffffffff
    ∷ cookie_label 1 1 0x2 0xffffffff
    ∷ cookie_label 1 2 0x2 0xffffffff
    ∷ []

abbrev pub policy_e : List ℕ
policy_e = policy_with words_e

-- ---- what is asked, on connection n

-- a load of URL u
abbrev pub load_goes : ℕ → ℕ → Case
load_goes u n = one_call [] [] (0x03 ∷ u ∷ n ∷ []) 0 0 (0x03 ∷ u ∷ n ∷ []) (loading n u ∷ [])

-- a redirect of the page, on connection 1, to URL t: the request goes to URL u
abbrev pub redirect_goes : ℕ → ℕ → Case
redirect_goes t u = one_call [] (loading 1 0 ∷ []) (0x23 ∷ 0x00 ∷ 0x01 ∷ t ∷ []) 0 0 (0x03 ∷ u ∷ 0x01 ∷ []) (loading 1 u ∷ [])

-- a script of the page that requests URL a, by step 5 and by step 7: the request goes to URL u, or the script ends
abbrev pub scripts_go : ℕ → ℕ → ℕ → List Case
scripts_go a u n =
    page_with [] (send_request a n 3) 2 (0x0b ∷ u ∷ n ∷ 0x03 ∷ []) (requesting n 0 3 u ∷ [])
    ∷ page_with [] (send_picture a n) 2 (0x43 ∷ u ∷ n ∷ []) (picturing n u ∷ [])
    ∷ []

abbrev pub scripts_end : ℕ → ℕ → List Case
scripts_end a n = page_with [] (send_request a n 3) 1 [] [] ∷ page_with [] (send_picture a n) 1 [] [] ∷ []

-- ---- each condition where it alone fails, without and with entry

abbrev pub cases_of_conditions : List Case
cases_of_conditions =
    -- nothing fails
    redirect_goes 9 9
    ∷ redirect_goes 10 10
    -- 8 of a redirect: the event endpoint; the URL's readers. 9: the message endpoint.
    ∷ redirect_forbidden [] 3 1 8 2
    ∷ redirect_forbidden [] 4 1 8 2
    ∷ redirect_forbidden [] 5 1 8 0
    ∷ redirect_forbidden [] 6 1 8 0
    ∷ redirect_forbidden [] 7 1 9 1
    ∷ redirect_forbidden [] 8 1 9 1
    -- And the URL's writers, from which an entry is excused, by https and by http, on connections of every kind.
    ∷ redirect_forbidden [] 1 1 9 0
    ∷ redirect_goes 2 2
    ∷ redirect_forbidden [] 18 1 9 0
    ∷ redirect_goes 19 19
    ∷ redirect_forbidden [] 20 1 9 3
    ∷ one_call [] (requesting 1 0 3 9 ∷ []) (0x23 ∷ 0x09 ∷ 0x01 ∷ 0x02 ∷ []) 0 0 (0x0b ∷ 0x02 ∷ 0x01 ∷ 0x03 ∷ []) (requesting 1 0 3 2 ∷ [])
    ∷ one_call [] (picturing 1 9 ∷ []) (0x23 ∷ 0x09 ∷ 0x01 ∷ 0x02 ∷ []) 0 0 (0x43 ∷ 0x02 ∷ 0x01 ∷ []) (picturing 1 2 ∷ [])
    ∷ one_forbidden (requesting 1 0 3 9 ∷ []) (0x23 ∷ 0x09 ∷ 0x01 ∷ 0x01 ∷ []) 9 0
    ∷ one_forbidden (picturing 1 9 ∷ []) (0x23 ∷ 0x09 ∷ 0x01 ∷ 0x01 ∷ []) 9 0
    -- A load is asked for the URL's readers and message endpoint, and not for its writers.
    ∷ load_goes 1 1
    ∷ load_goes 2 1
    ∷ load_forbidden [] 5 1 8 0
    ∷ load_forbidden [] 6 1 8 0
    ∷ load_forbidden [] 7 1 9 1
    ∷ load_forbidden [] 8 1 9 1
    -- Steps 5 and 7, where nothing fails,
    ∷ scripts_go 9 9 1
    ++ (scripts_go 10 10 1
    ++ (scripts_go 20 20 1
    -- and the event endpoint; the URL's readers; the message endpoint,
    ++ (scripts_end 3 1
    ++ (scripts_end 4 1
    ++ (scripts_end 5 1
    ++ (scripts_end 6 1
    ++ (scripts_end 7 1
    ++ (scripts_end 8 1
    -- the other connection's readers within S; J within its writers,
    ++ (scripts_end 9 2
    ++ (scripts_end 2 2
    ++ (scripts_end 9 3
    ++ (scripts_end 2 3
    -- and J within the URL's writers, from which an entry is excused.
    ++ (scripts_end 1 1
    ++ (scripts_go 2 2 1
    ++ (scripts_end 18 1
    ++ scripts_go 19 19 1)))))))))))))))

-- ---- the search page

-- it holds connection 4; and so does the front page, once the search page has led there
abbrev pub searching : List Words
searching = loading 4 15 ∷ []

abbrev pub at_front : List Words
at_front = loading 4 16 ∷ []

-- a script with one step of the page that holds connection 4
abbrev pub script_at : ℕ → Step → ℕ → List ℕ → List Words → Case
script_at page code steps sent state =
    one_call (script_of 1 (code ∷ end ∷ []) ∷ []) (loading 4 page ∷ []) (0x0b ∷ page ∷ 0x04 ∷ 0x01 ∷ []) 0 steps sent state

abbrev pub cases_of_searching : List Case
cases_of_searching =
    -- A redirect does not lead it to the page behind, and does to the front page. From there the connection, which the search page may have shaped,
    -- does not lead to the page behind either, but to the front page again.
    from_empty (
    call (0x03 ∷ 0x0f ∷ 0x04 ∷ []) 0 0 (0x03 ∷ 0x0f ∷ 0x04 ∷ []) searching
    ∷ forbidden (0x23 ∷ 0x0f ∷ 0x04 ∷ 0x11 ∷ []) 9 21 searching
    ∷ call (0x23 ∷ 0x0f ∷ 0x04 ∷ 0x10 ∷ []) 0 0 (0x03 ∷ 0x10 ∷ 0x04 ∷ []) at_front
    ∷ forbidden (0x23 ∷ 0x10 ∷ 0x04 ∷ 0x11 ∷ []) 9 21 at_front
    ∷ call (0x23 ∷ 0x10 ∷ 0x04 ∷ 0x10 ∷ []) 0 0 (0x03 ∷ 0x10 ∷ 0x04 ∷ []) at_front
    ∷ []
    )
    -- A script of the search page does the same,
    ∷ script_at 15 (send_request 17 4 3) 1 [] []
    ∷ script_at 15 (send_picture 17 4) 1 [] []
    ∷ script_at 15 (send_request 16 4 3) 2 (0x0b ∷ 0x10 ∷ 0x04 ∷ 0x03 ∷ []) (requesting 4 15 3 16 ∷ [])
    ∷ script_at 15 (send_picture 16 4) 2 (0x43 ∷ 0x10 ∷ 0x04 ∷ []) (picturing 4 16 ∷ [])
    -- and so does a script of the front page; the handler that it leaves does not lead to the page behind.
    ∷ script_at 16 (send_request 17 4 3) 1 [] []
    ∷ script_at 16 (send_picture 17 4) 1 [] []
    ∷ script_at 16 (send_request 16 4 3) 2 (0x0b ∷ 0x10 ∷ 0x04 ∷ 0x03 ∷ []) (requesting 4 16 3 16 ∷ [])
    ∷ one_call (script_of 3 (send_request 17 4 3 ∷ end ∷ []) ∷ []) (requesting 4 16 3 16 ∷ [])
    (0x13 ∷ 0x10 ∷ 0x04 ∷ 0x00 ∷ 0x00 ∷ 0x00 ∷ 0x00 ∷ []) 0 1 [] []
    -- What the front page then brings, and what its script writes, is not stored where the search page is no writer.
    ∷ one_call [] at_front (0x0f ∷ 0x10 ∷ 0x04 ∷ 0x01 ∷ 0x00 ∷ 0x00 ∷ 0x00 ∷ 0x09 ∷ 0x00 ∷ []) 0 1 [] []
    ∷ script_at 16 (write_cookie 0 0) 2 [] []
    ∷ []

-- ---- partners

abbrev pub cases_of_partners : List Case
cases_of_partners =
    -- The partner decides: URL 12 is no entry, though URL 11 is one, and URL 14 is, though URL 13 is none.
    redirect_forbidden [] 11 1 9 0
    ∷ redirect_forbidden [] 12 1 9 0
    ∷ redirect_goes 13 14
    ∷ redirect_goes 14 14
    ∷ one_call [] [] (0x03 ∷ 0x0b ∷ 0x01 ∷ []) 0 0 (0x03 ∷ 0x0c ∷ 0x01 ∷ []) (loading 1 12 ∷ [])
    ∷ scripts_end 11 1
    ++ (scripts_end 12 1
    ++ (scripts_go 13 14 1
    ++ scripts_go 14 14 1))

-- ---- an entry's host and endpoints

-- the cookies of host 1 are there
abbrev pub host_one_stored : List Words
host_one_stored = value_is 1 0 7 ∷ value_is 1 1 8 ∷ keys_are 1 0x03 ∷ []

abbrev pub cases_of_addresses : List Case
cases_of_addresses =
    -- A request to an entry carries the cookies that its message endpoint may read.
    one_call [] host_one_stored (0x03 ∷ 0x02 ∷ 0x01 ∷ []) 0 0 (0x07 ∷ 0x02 ∷ 0x01 ∷ 0x01 ∷ 0x00 ∷ 0x00 ∷ 0x00 ∷ 0x07 ∷ []) (loading 1 2 ∷ host_one_stored)
    -- What a response for an entry brings is stored for its host, for which its scripts write too.
    ∷ one_call [] (loading 1 2 ∷ []) (0x0f ∷ 0x02 ∷ 0x01 ∷ 0x04 ∷ 0x00 ∷ 0x00 ∷ 0x00 ∷ 0x09 ∷ 0x00 ∷ []) 0 1 []
    (value_is 1 2 9 ∷ keys_are 1 0x04 ∷ [])
    ∷ one_call (script_of 1 (constant 0 5 ∷ write_cookie 2 0 ∷ end ∷ []) ∷ []) (loading 1 2 ∷ []) (0x0b ∷ 0x02 ∷ 0x01 ∷ 0x01 ∷ []) 0 3 []
    (value_is 1 2 5 ∷ keys_are 1 0x04 ∷ [])
    ∷ []

-- ---- the words of an address

-- The addresses of words 31, 32, 47, 48, 63 are 31, 0, 15, 16, 31. Each URL has its event endpoint for its one reader and no writer. Connections 0 to 4
-- have that reader, and the message endpoint for their one writer; connections 5 to 9 have no reader, and all writers but that one.
abbrev pub words_of_addresses : List Words
words_of_addresses =
    url 0 31 0x8000 0
    ∷ url 1 32 0x1 0
    ∷ url 2 47 0x8000 0
    ∷ url 3 48 0x1 0
    ∷ url 4 63 0x8000 0
    ∷ connection 0 0x8000 0x8000 0x80000000
    ∷ connection 1 0x1 0x1 0x1
    ∷ connection 2 0x8000 0x8000 0x8000
    ∷ connection 3 0x1 0x1 0x10000
    ∷ connection 4 0x8000 0x8000 0x80000000
    ∷ connection 5 0 0 0x7fffffff
    ∷ connection 6 0 0 0xfffffffe
    ∷ connection 7 0 0 0xffff7fff
    ∷ connection 8 0 0 0xfffeffff
    ∷ connection 9 0 0 0x7fffffff
    ∷ []

-- a redirect of URL u, on its connection, to itself
abbrev pub redirect_again : ℕ → Case
redirect_again u = one_call [] (loading u u ∷ []) (0x23 ∷ u ∷ u ∷ u ∷ []) 0 0 (0x03 ∷ u ∷ u ∷ []) (loading u u ∷ [])

abbrev pub cases_of_words : List Case
cases_of_words =
    load_goes 0 0
    ∷ load_goes 1 1
    ∷ load_goes 2 2
    ∷ load_goes 3 3
    ∷ load_goes 4 4
    ∷ load_forbidden [] 0 5 9 31
    ∷ load_forbidden [] 1 6 9 0
    ∷ load_forbidden [] 2 7 9 15
    ∷ load_forbidden [] 3 8 9 16
    ∷ load_forbidden [] 4 9 9 31
    -- word 31 is no entry, and the others are
    ∷ redirect_forbidden [] 0 0 9 31
    ∷ redirect_again 1
    ∷ redirect_again 2
    ∷ redirect_again 3
    ∷ redirect_again 4
    ∷ []

-- ---- number 4

-- a connection that does not fit the entry that it holds, by its readers and by the message endpoint
abbrev pub unsound : List Case
unsound = one_refused (loading 1 6 ∷ []) [] 4 ∷ one_refused (loading 1 8 ∷ []) [] 4 ∷ []

abbrev pub EntryCases : Type 0
EntryCases = T (
    all_right policy_e (cases_of_conditions ++ (cases_of_searching ++ (cases_of_partners ++ (cases_of_addresses ++ unsound))))
    && all_right (policy_with words_of_addresses) cases_of_words
    )
