-- That demand 3 says something: lists that a set cannot tell apart though much differs, and lists that it does tell apart. The proofs, by
-- computing, are in proofs/SecrecyExamples.antt.
use Rattle.std.specs.Prelude.{ℕ, Bool, not, ◌&&◌, List, [], ◌∷◌, map, T, eqb, length}
use Rattle.prelude.specs.Lists.{same_numbers}
use Rattle.machine.specs.Policy.{cookie_index}
use Rattle.machine.specs.Session.{free, document_kind, packed, cookie_value, connection_word}
use Rattle.machine.specs.Scripts.{end, constant, write_cookie, send_request, send_picture}
use Rattle.machine.specs.Cases.{url, cookie_label, connection, always_https, partner, policy_with, scripts_with, script_of}
use Rattle.machine.specs.Runs.{Item, Trace, run, remaining}
use Rattle.machine.specs.Secrecy.{shown, observations}
use Rattle.machine.specs.ExampleLists.{items, events_numbers, observations_numbers, sent_bytes, sent_with_hidden, sent_with_hidden_picture}

-- ---- a policy, scripts and a set

-- URL 0, at host 0, is read by host 0 alone. URLs 1 and 2, http and https at host 1, are read by all. Connection 0 has the readers of URL 0.
-- Cookie (1,0) is read by http at host 1, and cookie (1,1) by https at host 1.
abbrev pub policy_two_hosts : List ℕ
policy_two_hosts = policy_with (
    url 0 0 0x00000001 0xffffffff
    ∷ url 1 1 0xffffffff 0xffffffff
    ∷ url 2 17 0xffffffff 0xffffffff
    ∷ connection 0 0x00000001 0x00000001 0x00000001
    ∷ connection 1 0x00020003 0x00020003 0x00020003
    ∷ cookie_label 0 0 0x00000001 0x00000001
    ∷ cookie_label 1 0 0x00000002 0x00020003
    ∷ cookie_label 1 1 0x00020000 0x00020003
    ∷ [])

-- Script 1 stores 9 in its page's cookie 0 and requests URL 0 on connection 0. Script 2 requests URL 1 on connection 1. Scripts 3 and 4 request
-- pictures: of URL 0 on connection 0, and of URL 1 on connection 1.
abbrev pub scripts_two_hosts : List ℕ
scripts_two_hosts = scripts_with (
    script_of 1 (constant 1 9 ∷ write_cookie 0 1 ∷ send_request 0 0 0 ∷ end ∷ [])
    ∷ script_of 2 (send_request 1 1 0 ∷ end ∷ [])
    ∷ script_of 3 (send_picture 0 0 ∷ end ∷ [])
    ∷ script_of 4 (send_picture 1 1 ∷ end ∷ [])
    ∷ [])

-- http at host 1: URL 0, connection 0, cookie (0,0) and cookie (1,1) are hidden from it
abbrev pub http_host_one : ℕ
http_host_one = 0x00000002

-- what remains of a list, and what the set sees of a run, under a policy
abbrev pub remaining_numbers : List ℕ → List Item → List ℕ
remaining_numbers p is = events_numbers (remaining (shown http_host_one p) p is)

abbrev pub seen_numbers : List ℕ → Trace → List ℕ
seen_numbers p r = observations_numbers (observations http_host_one p r.requests)

-- ---- two lists that the set cannot tell apart

-- Load 1 on connection 1. Hidden: load 0 on connection 0, and its response with script 1. The response on connection 1, with script 2, brings
-- 7 for cookie (1,0) and, hidden, 8 for cookie (1,1). Load 2 on connection 1.
abbrev pub with_hidden : List Item
with_hidden = items 1184 0xee (
    (0x03 ∷ 0x01 ∷ 0x01 ∷ [])
    ∷ (0x03 ∷ 0x00 ∷ 0x00 ∷ [])
    ∷ (0x0b ∷ 0x00 ∷ 0x00 ∷ 0x01 ∷ [])
    ∷ (0x0f ∷ 0x01 ∷ 0x01 ∷ 0x03 ∷ 0x00 ∷ 0x00 ∷ 0x00 ∷ 0x07 ∷ 0x00 ∷ 0x00 ∷ 0x00 ∷ 0x08 ∷ 0x02 ∷ [])
    ∷ (0x03 ∷ 0x02 ∷ 0x01 ∷ [])
    ∷ [])

-- The same without what is hidden, and with other buffers.
abbrev pub without_hidden : List Item
without_hidden = items 1200 0x00 (
    (0x03 ∷ 0x01 ∷ 0x01 ∷ [])
    ∷ (0x0f ∷ 0x01 ∷ 0x01 ∷ 0x01 ∷ 0x00 ∷ 0x00 ∷ 0x00 ∷ 0x07 ∷ 0x02 ∷ [])
    ∷ (0x03 ∷ 0x02 ∷ 0x01 ∷ [])
    ∷ [])

-- The runs end in different states: only the first has the hidden 9 in cookie (0,0) and 8 in cookie (1,1).
abbrev pub values : Trace → List ℕ
values r = map (cookie_value r.state) (cookie_index 0 0 ∷ cookie_index 1 0 ∷ cookie_index 1 1 ∷ [])

abbrev pub states_differ : Trace → Trace → Bool
states_differ a b = same_numbers (values a) (9 ∷ 7 ∷ 8 ∷ []) && same_numbers (values b) (0 ∷ 7 ∷ 0 ∷ [])

-- They send different bytes. Each record of both sends one request, as none that is refused does, so all are accepted. With what is hidden
-- there are a request of the hidden load and one of its response's script, and cookie (1,1) is in the last request.
abbrev pub requests_differ : Trace → Trace → Bool
requests_differ a b =
    same_numbers (sent_bytes a.requests) sent_with_hidden
    && same_numbers (sent_bytes b.requests) (
    0x03 ∷ 0x01 ∷ 0x01
    ∷ 0x0f ∷ 0x01 ∷ 0x01 ∷ 0x01 ∷ 0x00 ∷ 0x00 ∷ 0x00 ∷ 0x07 ∷ 0x00
    ∷ 0x03 ∷ 0x02 ∷ 0x01
    ∷ [])

-- Once what is hidden is struck the lists are equal, and so many records are left.
abbrev pub struck_alike : List ℕ → ℕ → List Item → List Item → Bool
struck_alike p count is js = same_numbers (remaining_numbers p is) (remaining_numbers p js) && eqb (length (remaining (shown http_host_one p) p is)) count

-- The set sees the same of both.
abbrev pub seen_alike : List ℕ → List ℕ → Trace → Trace → Bool
seen_alike p seen a b = same_numbers (seen_numbers p a) seen && same_numbers (seen_numbers p b) seen

-- Three requests, the second with cookie (1,0).
abbrev pub three_observations : List ℕ
three_observations =
    0x03 ∷ 1 ∷ 1 ∷ 0 ∷ 0
    ∷ 0x0b ∷ 1 ∷ 1 ∷ 0 ∷ 1 ∷ 0 ∷ 7
    ∷ 0x03 ∷ 2 ∷ 1 ∷ 0 ∷ 0
    ∷ []

unfoldable pub hidden_unseen : List ℕ → Trace → Trace → Bool
hidden_unseen p a b = states_differ a b && (requests_differ a b && (struck_alike p 3 with_hidden without_hidden && seen_alike p three_observations a b))

-- ---- pictures, hidden and shown

-- Load 1 on connection 1. Hidden: load 0 on connection 0; its response with script 3, which requests a picture there; and that picture, with 9 for
-- cookie (0,0). The response on connection 1, with script 4; the picture that it requests brings 7 for cookie (1,0) and, hidden, 8 for cookie
-- (1,1). Load 1 on connection 1.
abbrev pub pictures_with_hidden : List Item
pictures_with_hidden = items 1184 0xee (
    (0x03 ∷ 0x01 ∷ 0x01 ∷ [])
    ∷ (0x03 ∷ 0x00 ∷ 0x00 ∷ [])
    ∷ (0x0b ∷ 0x00 ∷ 0x00 ∷ 0x03 ∷ [])
    ∷ (0x47 ∷ 0x00 ∷ 0x00 ∷ 0x01 ∷ 0x00 ∷ 0x00 ∷ 0x00 ∷ 0x09 ∷ [])
    ∷ (0x0b ∷ 0x01 ∷ 0x01 ∷ 0x04 ∷ [])
    ∷ (0x47 ∷ 0x01 ∷ 0x01 ∷ 0x03 ∷ 0x00 ∷ 0x00 ∷ 0x00 ∷ 0x07 ∷ 0x00 ∷ 0x00 ∷ 0x00 ∷ 0x08 ∷ [])
    ∷ (0x03 ∷ 0x01 ∷ 0x01 ∷ [])
    ∷ [])

-- The same without what is hidden. The value of cookie (1,0) may be another.
abbrev pub picture_bringing : ℕ → List Item
picture_bringing v = items 1184 0xee (
    (0x03 ∷ 0x01 ∷ 0x01 ∷ [])
    ∷ (0x0b ∷ 0x01 ∷ 0x01 ∷ 0x04 ∷ [])
    ∷ (0x47 ∷ 0x01 ∷ 0x01 ∷ 0x01 ∷ 0x00 ∷ 0x00 ∷ 0x00 ∷ v ∷ [])
    ∷ (0x03 ∷ 0x01 ∷ 0x01 ∷ [])
    ∷ [])

-- The set sees the page, its picture, and the page again with the cookie that came with the picture.
abbrev pub picture_observations : List ℕ
picture_observations =
    0x03 ∷ 1 ∷ 1 ∷ 0 ∷ 0
    ∷ 0x43 ∷ 1 ∷ 1 ∷ 0 ∷ 0
    ∷ 0x03 ∷ 1 ∷ 1 ∷ 0 ∷ 1 ∷ 0 ∷ 7
    ∷ []

-- The runs differ in both hidden cookies and in what they send; the set sees the same.
unfoldable pub hidden_picture_unseen : List ℕ → Trace → Trace → Bool
hidden_picture_unseen p a b =
    states_differ a b
    && (same_numbers (sent_bytes a.requests) sent_with_hidden_picture
    && (same_numbers (sent_bytes b.requests) (
    0x03 ∷ 0x01 ∷ 0x01
    ∷ 0x43 ∷ 0x01 ∷ 0x01
    ∷ 0x07 ∷ 0x01 ∷ 0x01 ∷ 0x01 ∷ 0x00 ∷ 0x00 ∷ 0x00 ∷ 0x07
    ∷ [])
    && (struck_alike p 4 pictures_with_hidden (picture_bringing 7)
    && seen_alike p picture_observations a b)))

-- A page whose response has a script that requests URL 1 on connection 1: as a script's request, or as a picture.
abbrev pub page_with_script : ℕ → List Item
page_with_script x = items 1184 0xee ((0x03 ∷ 0x01 ∷ 0x01 ∷ []) ∷ (0x0b ∷ 0x01 ∷ 0x01 ∷ x ∷ []) ∷ [])

-- ---- a load goes by the URL that is sent

-- Host 0 is always https. URL 0 is read by host 0 alone, and URL 1, which is asked for in its place, by http at host 1 too; the other way round with
-- URL 2 and URL 3. Connection 0 has the readers of URL 1, and connection 1 those of URL 3.
abbrev pub policy_upgrading : List ℕ
policy_upgrading = policy_with (
    url 0 0 0x00000001 0xffffffff
    ∷ url 1 16 0x00000003 0xffffffff
    ∷ url 2 0 0x00000003 0xffffffff
    ∷ url 3 16 0x00000001 0xffffffff
    ∷ always_https 0x1
    ∷ partner 0 1
    ∷ partner 2 3
    ∷ connection 0 0x00000003 0x00000003 0x00010001
    ∷ connection 1 0x00000001 0x00000001 0x00010001
    ∷ [])

abbrev pub load_of : ℕ → ℕ → List Item
load_of u n = items 1184 0xee ((0x03 ∷ u ∷ n ∷ []) ∷ [])

-- the word of a connection after a run
abbrev pub word_of : Trace → ℕ → ℕ
word_of r n = connection_word r.state n

-- A load of URL 0 would be hidden by the URL's own readers. It is not: it remains, as a load of URL 1 does, and the set sees what it does to
-- connection 0.
unfoldable pub hidden_then_shown : List ℕ → Trace → Trace → Bool
hidden_then_shown p none a =
    struck_alike p 1 (load_of 0 0) (load_of 1 0)
    && (eqb (word_of none 0) free
    && eqb (word_of a 0) (packed document_kind 0 0 1))

-- A load of URL 2 would be shown by the URL's own readers. It is hidden, as a load of URL 3 is: nothing of either remains. The run is another than
-- that of no record in connection 1, which the set does not see.
unfoldable pub shown_then_hidden : List ℕ → Trace → Trace → Bool
shown_then_hidden p none b =
    struck_alike p 0 (load_of 2 1) (load_of 3 1)
    && (eqb (word_of none 1) free
    && (eqb (word_of b 1) (packed document_kind 0 0 3)
    && (eqb (word_of b 0) free
    && seen_alike p [] none b)))

-- ---- lists that the set tells apart

-- A cookie that is not hidden, (1,0), with a value; a request of the response's script carries it.
abbrev pub bringing : ℕ → List Item
bringing v = items 1184 0xee (
    (0x03 ∷ 0x01 ∷ 0x01 ∷ [])
    ∷ (0x0f ∷ 0x01 ∷ 0x01 ∷ 0x01 ∷ 0x00 ∷ 0x00 ∷ 0x00 ∷ v ∷ 0x02 ∷ [])
    ∷ [])

-- Lists are told apart: they differ once what is hidden is struck, and the set sees other requests of their runs.
unfoldable pub told_apart : List ℕ → List Item → Trace → List Item → Trace → Bool
told_apart p is a js b = not (same_numbers (remaining_numbers p is) (remaining_numbers p js)) && not (same_numbers (seen_numbers p a) (seen_numbers p b))

-- ---- the claim

-- The runs of two lists that the set cannot tell apart; and it tells the second of these from a list without the last load, and that one from
-- a list in which the cookie has another value.
unfoldable pub says_something : List ℕ → Trace → Trace → Trace → Trace → Bool
says_something p a b c d =
    hidden_unseen p a b
    && (told_apart p without_hidden b (bringing 7) c
    && told_apart p (bringing 7) c (bringing 8) d)

-- The same of pictures: the set cannot tell whether a hidden one was requested and came. It tells what a shown one brings, and a picture from a
-- script's request, by the kind alone.
unfoldable pub says_something_of_pictures : List ℕ → Trace → Trace → Trace → Trace → Trace → Bool
says_something_of_pictures p a b c d e =
    hidden_picture_unseen p a b
    && (told_apart p (picture_bringing 7) b (picture_bringing 8) c
    && (told_apart p (page_with_script 2) d (page_with_script 4) e
    && (same_numbers (seen_numbers p d) (0x03 ∷ 1 ∷ 1 ∷ 0 ∷ 0 ∷ 0x0b ∷ 1 ∷ 1 ∷ 0 ∷ 0 ∷ [])
    && same_numbers (seen_numbers p e) (0x03 ∷ 1 ∷ 1 ∷ 0 ∷ 0 ∷ 0x43 ∷ 1 ∷ 1 ∷ 0 ∷ 0 ∷ []))))

unfoldable pub says_something_of_upgrading : List ℕ → Trace → Trace → Trace → Bool
says_something_of_upgrading p none a b = hidden_then_shown p none a && shown_then_hidden p none b

abbrev pub ran : List Item → Trace
ran is = run policy_two_hosts scripts_two_hosts is

abbrev pub SaysSomething : Type 0
SaysSomething = T (says_something policy_two_hosts (ran with_hidden) (ran without_hidden) (ran (bringing 7)) (ran (bringing 8)))

abbrev pub PicturesSaySomething : Type 0
PicturesSaySomething = T (
    says_something_of_pictures policy_two_hosts
    (ran pictures_with_hidden) (ran (picture_bringing 7)) (ran (picture_bringing 8)) (ran (page_with_script 2)) (ran (page_with_script 4)))

abbrev pub upgrading : List Item → Trace
upgrading is = run policy_upgrading scripts_two_hosts is

abbrev pub UpgradingSaysSomething : Type 0
UpgradingSaysSomething = T (says_something_of_upgrading policy_upgrading (upgrading []) (upgrading (load_of 0 0)) (upgrading (load_of 2 1)))
