-- Worked cases of the endpoint that is missing: each condition of 8 and 9, the lowest of several, and of two conditions the first.
use Rattle.std.specs.Prelude.{ℕ, List, [], ◌∷◌, T}
use Rattle.machine.specs.Cases.{url, connection, policy_with, loading, requesting, picturing}
use Rattle.machine.specs.Cases.{Case, one_call, load_forbidden, redirect_forbidden, all_right}

-- Bit a is endpoint a. URL 0, at host 0, is where redirects come from.
abbrev pub policy_m : List ℕ
policy_m = policy_with (
    url 0 0 0xffffffff 0xffffffff
    -- https at host 1: http at host 1 is its one reader
    ∷ url 1 17 0x2 0xffffffff
    -- https at host 2: every reader but endpoint 31
    ∷ url 2 18 0x7fffffff 0xffffffff
    -- http at host 1: readers 1 and 5
    ∷ url 3 1 0x22 0xffffffff
    -- https at host 15
    ∷ url 4 31 0xffffffff 0x1
    -- http at host 2: it is its own one reader
    ∷ url 5 2 0x4 0xffffffff
    -- https at host 0
    ∷ url 6 16 0xffffffff 0xffffffff
    -- https at host 1, by writers: 20; 0; 0 and 17; all but 31; an entry without any
    ∷ url 7 17 0xffffffff 0x100000
    ∷ url 8 17 0xffffffff 0x1
    ∷ url 9 17 0xffffffff 0x20001
    ∷ url 10 17 0xffffffff 0x7fffffff
    ∷ url 11 49 0xffffffff 0
    -- readers, script readers and writers: all, none, all; 5, 9 and 31, of which 31, with 1; 9, none, with 0
    ∷ connection 1 0xffffffff 0 0xffffffff
    ∷ connection 2 0x80000220 0x80000000 0x2
    ∷ connection 3 0x200 0 0x1
    -- no readers; writers: all but 31; all but 0; 0, 16 and 18
    ∷ connection 4 0 0 0x7fffffff
    ∷ connection 5 0 0 0xfffffffe
    ∷ connection 6 0 0 0x50001
    -- writer 0; readers: 0 and 3; 4 and 5, of which scripts have 5; 2, 4 and 31, of which scripts have 31; 15
    ∷ connection 7 0x9 0 0x1
    ∷ connection 8 0x30 0x20 0x1
    ∷ connection 9 0x80000014 0x80000000 0x1
    ∷ connection 30 0x8000 0 0x1
    -- reader 1; writers: 0 and 20; 0, 17, 20 and 31
    ∷ connection 10 0x2 0 0x100001
    ∷ connection 11 0x2 0 0x80120001
    -- readers 1, 9 and 31, writers 0 and 1; no readers, writers 17 and 20
    ∷ connection 29 0x80000202 0 0x3
    ∷ connection 31 0 0 0x120000
    ∷ [])

-- a redirect of connection 11 to URL t that goes
abbrev pub redirect_goes : ℕ → Case
redirect_goes t = one_call [] (loading 11 0 ∷ []) (0x23 ∷ 0x00 ∷ 0x0b ∷ t ∷ []) 0 0 (0x03 ∷ t ∷ 0x0b ∷ []) (loading 11 t ∷ [])

abbrev pub cases_of_missing : List Case
cases_of_missing =
    -- A load's readers: every endpoint but 1 is missing; 31 alone; of 9 and 31 the lower; and 9, though the message endpoint, 1, is missing too.
    load_forbidden [] 1 1 8 0
    ∷ load_forbidden [] 2 1 8 31
    ∷ load_forbidden [] 3 2 8 9
    ∷ load_forbidden [] 3 3 8 9
    -- A load's message endpoint, whichever the writers are.
    ∷ load_forbidden [] 4 4 9 31
    ∷ load_forbidden [] 0 5 9 0
    ∷ load_forbidden [] 1 6 9 17
    -- A redirect's event endpoint, where a lower reader is missing at the target too; a higher one; none; and where the target has lower readers.
    ∷ redirect_forbidden [] 5 7 8 2
    ∷ redirect_forbidden [] 5 8 8 2
    ∷ redirect_forbidden [] 6 8 8 0
    ∷ redirect_forbidden [] 4 7 8 15
    -- Its readers: of 4 and 31 the lower; 31 alone; and of 9 and 31 the lower, though the target has a lower one that the connection lacks.
    ∷ redirect_forbidden [] 5 9 8 4
    ∷ redirect_forbidden [] 2 1 8 31
    ∷ redirect_forbidden [] 3 29 8 9
    -- Its message endpoint, where a lower writer is missing at the target too; a higher one; at an entry; and 31.
    ∷ redirect_forbidden [] 7 10 9 17
    ∷ redirect_forbidden [] 8 10 9 17
    ∷ redirect_forbidden [] 11 10 9 17
    ∷ redirect_forbidden [] 4 30 9 31
    -- Its writers: of 20 and 31 the lower; 31 alone; and none of an entry's.
    ∷ redirect_forbidden [] 9 11 9 20
    ∷ redirect_forbidden [] 10 11 9 31
    ∷ redirect_goes 11
    -- Nothing else is asked: not whether a target's writers are among its readers, nor whether a load's connection has all its readers for scripts.
    ∷ redirect_goes 1
    ∷ one_call [] [] (0x03 ∷ 0x00 ∷ 0x01 ∷ []) 0 0 (0x03 ∷ 0x00 ∷ 0x01 ∷ []) (loading 1 0 ∷ [])
    -- And nothing of a response, whose URL has an event endpoint that is no reader of the connection, and lacks both of its writers.
    ∷ one_call [] (loading 31 8 ∷ []) (0x0b ∷ 0x08 ∷ 0x1f ∷ 0x00 ∷ []) 0 1 [] []
    ∷ one_call [] (requesting 31 0 0 8 ∷ []) (0x13 ∷ 0x08 ∷ 0x1f ∷ 0x00 ∷ 0x00 ∷ 0x00 ∷ 0x00 ∷ []) 0 1 [] []
    ∷ one_call [] (picturing 31 8 ∷ []) (0x43 ∷ 0x08 ∷ 0x1f ∷ []) 0 0 [] []
    ∷ []

abbrev pub MissingCases : Type 0
MissingCases = T (all_right policy_m cases_of_missing)
