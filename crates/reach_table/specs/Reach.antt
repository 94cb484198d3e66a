-- The reach of a policy (document 01, "A reach table"): how many URLs each connection, document 01's lane, fits, and how many they fit together. A row
-- counts as it stands, whatever is asked for in its place. It is asked by the monitor's own questions.
use Rattle.std.specs.Prelude.{ℕ, Bool, ◌&&◌, List, map, replicate}
use Rattle.prelude.specs.Choice.{branch}
use Rattle.prelude.specs.Lists.{numbers}
use Rattle.prelude.specs.Refusals.{accepted}
use Rattle.prelude.specs.Sums.{sum_below, count_below}
use Rattle.machine.specs.Policy.{url_rows, connections, is_connection, is_url, well_formed, fits}
use Rattle.machine.specs.Machine.{policy_bad}
use Rattle.reach_table.specs.declared.ReachTable.{ReachTable}

-- ---- what is counted

-- connection n reaches URL u: the row is not empty, and the connection fits it
unfoldable pub reaches : List ℕ → ℕ → ℕ → Bool
reaches p n u = is_url p u && fits p n u

-- how many URLs connection n reaches
unfoldable pub reach : List ℕ → ℕ → ℕ
reach p n = count_below url_rows (reaches p n)

-- and how many all connections reach, a URL counting for each that reaches it
unfoldable pub total_reach : List ℕ → ℕ
total_reach p = sum_below connections (reach p)

-- ---- what is answered

abbrev pub table : List ℕ → ReachTable
table p = record { number = accepted; urls = map (reach p) (numbers 0 connections); all = total_reach p }

-- a policy that is refused: every count is 0
abbrev pub refused : ℕ → ReachTable
refused n = record { number = n; urls = replicate connections 0; all = 0 }

-- 2: the policy has another length, or is not well formed
unfoldable pub tabled : List ℕ → ReachTable
tabled p = branch (well_formed p) (table p) (refused policy_bad)

-- one cell of the table: whether URL u is counted for connection n. A policy that is refused counts none, and numbers that there are not count nowhere
unfoldable pub in_table : List ℕ → ℕ → ℕ → Bool
in_table p n u = well_formed p && (is_connection n && reaches p n u)
