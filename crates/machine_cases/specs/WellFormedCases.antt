-- Worked cases of number 2: which policies are well formed. R and E are the policies of the worked cases of hosts that are always https and of entries.
use Rattle.std.specs.Prelude.{◌&&◌, List, [], ◌∷◌, ◌++◌, T, take}
use Rattle.machine.specs.Policy.{no_partner}
use Rattle.machine.specs.Cases.{Words, url, cookie_label, always_https, partner, all_right, no_record, each_gives}
use Rattle.machine.specs.HttpsCases.{policy_r}
use Rattle.machine.specs.EntryCases.{policy_e}

-- ---- listed hosts and partners

abbrev pub no_partners : List Words
no_partners =
    partner 1 no_partner ∷ partner 3 no_partner ∷ partner 5 no_partner ∷ partner 7 no_partner ∷ partner 8 no_partner
    ∷ partner 12 no_partner ∷ partner 13 no_partner ∷ []

-- R with these words changed
abbrev pub not_well_formed_r : List (List Words)
not_well_formed_r =
    -- a bit that is no host's, lowest and highest
    (always_https 0x10002 ∷ [])
    ∷ (always_https 0x80000002 ∷ [])
    -- URL 1 without partner; its partner is an empty row; at another host; by http, another and itself; above 63, also where the words that follow
    -- the rows would make of it a URL by https at host 1
    ∷ (partner 1 no_partner ∷ [])
    ∷ (partner 1 63 ∷ [])
    ∷ (partner 1 10 ∷ [])
    ∷ (partner 1 3 ∷ [])
    ∷ (partner 1 1 ∷ [])
    ∷ (partner 1 64 ∷ [])
    ∷ (partner 1 64 ∷ cookie_label 0 0 17 0 ∷ [])
    ∷ (partner 1 0x102 ∷ [])
    ∷ (partner 1 0xffffffff ∷ [])
    -- a partner where there must be none: by https; at a host that is not listed; on empty rows, also one that is 255 but for a high bit
    ∷ (partner 2 2 ∷ [])
    ∷ (partner 9 10 ∷ [])
    ∷ (partner 11 2 ∷ [])
    ∷ (partner 63 0 ∷ [])
    ∷ (partner 11 0x1ff ∷ [])
    -- the same where no host is listed
    ∷ (always_https 0 ∷ [])
    ∷ (always_https 0 ∷ no_partners ++ (partner 11 2 ∷ []))
    ∷ (always_https 0 ∷ no_partners ++ (partner 63 0x1ff ∷ []))
    -- a URL without partner at another host that is listed; in the first row and in the last; at the last host
    ∷ (always_https 0x6 ∷ [])
    ∷ (url 0 1 0xffffffff 0xffffffff ∷ [])
    ∷ (url 63 1 0xffffffff 0xffffffff ∷ [])
    ∷ (url 63 15 0xffffffff 0xffffffff ∷ always_https 0x8002 ∷ [])
    ∷ []

abbrev pub still_well_formed_r : List (List Words)
still_well_formed_r =
    []
    -- no host need be listed; one that has no URL may be; a partner needs no more readers than any URL, and no writers
    ∷ (always_https 0 ∷ no_partners)
    ∷ (always_https 0x8002 ∷ [])
    ∷ (url 2 17 0x2 0 ∷ [])
    -- the last row may be a partner, and have one
    ∷ (url 63 17 0x2 0 ∷ partner 1 63 ∷ [])
    ∷ (url 63 1 0x2 0 ∷ partner 63 2 ∷ [])
    ∷ []

-- ---- entries

-- E with these words changed
abbrev pub not_well_formed_e : List (List Words)
not_well_formed_e =
    -- words that are no address, whatever the sets; 255, with a set
    (url 63 64 0xffffffff 0xffffffff ∷ [])
    ∷ (url 63 64 0 0 ∷ [])
    ∷ (url 63 254 0xffffffff 0xffffffff ∷ [])
    ∷ (url 63 0x1ff 0 0 ∷ [])
    ∷ (url 63 255 0xffffffff 0 ∷ [])
    ∷ (url 63 256 0xffffffff 0xffffffff ∷ [])
    -- an entry without its event endpoint among its readers, by http and by https
    ∷ (url 63 32 0xfffffffe 0xffffffff ∷ [])
    ∷ (url 63 63 0xffff7fff 0xffffffff ∷ [])
    -- an entry by http at a listed host without a partner; its partner is an entry at another host; an entry by https that has one
    ∷ (partner 11 no_partner ∷ [])
    ∷ (partner 11 2 ∷ [])
    ∷ (partner 14 12 ∷ [])
    -- a partner that is an entry by http; an entry by http that has one, at a host that is not listed
    ∷ (partner 13 11 ∷ [])
    ∷ (partner 8 2 ∷ [])
    -- a partner that is an empty row: 255 is no address by https at host 15, which it would be but for three bits
    ∷ (url 63 15 0xffffffff 0xffffffff ∷ always_https 0x8008 ∷ partner 63 62 ∷ [])
    ∷ []

abbrev pub still_well_formed_e : List (List Words)
still_well_formed_e =
    -- an entry whose partner is an entry, at host 15
    (url 63 47 0xffffffff 0 ∷ url 62 63 0xffffffff 0 ∷ always_https 0x8008 ∷ partner 63 62 ∷ [])
    ∷ []

abbrev pub WellFormedCases : Type 0
WellFormedCases = T (
    each_gives policy_r 2 not_well_formed_r
    && (each_gives policy_r 10 still_well_formed_r
    && (all_right (take 544 policy_r) (no_record 2)
    && (all_right (take 608 policy_r) (no_record 2)
    && (all_right (policy_r ++ (no_partner ∷ [])) (no_record 2)
    && (each_gives policy_e 2 not_well_formed_e
    && each_gives policy_e 10 still_well_formed_e)))))
    )
