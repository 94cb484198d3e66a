-- What the table says: its counts are those of its cells, a cell is what the monitor lets load, and how far a change of one row or of one connection
-- can move the counts. The proofs are in proofs/Guarantees.antt and proofs/Loading.antt.
use Rattle.std.specs.Prelude.{ℕ, ◌<◌, ◌≤◌, List, [], ◌∷◌, ◌≡◌, T, length, get_or}
use Rattle.prelude.specs.Refusals.{accepted}
use Rattle.prelude.specs.Sums.{sum_below, count_below, AtMostApart}
use Rattle.records.specs.Layout.{load}
use Rattle.machine.specs.Policy.{url_rows, connections, address_word, url_readers, url_writers, connection_readers, connection_writers}
use Rattle.machine.specs.Policy.{is_url, upgraded, well_formed}
use Rattle.machine.specs.Session.{empty_state}
use Rattle.machine.specs.Scripts.{table_bytes}
use Rattle.machine.specs.Machine.{output_room, feed}
use Rattle.reach_table.specs.Reach.{tabled, in_table}

-- the count of connection n
abbrev pub count_of : List ℕ → ℕ → ℕ
count_of p n = get_or (tabled p).urls n 0

-- ---- the cells

-- Whatever the policy: each count is the number of URLs whose cell is set, and the total is the sum of the counts.
abbrev pub CellsAddUp : Type 0
CellsAddUp =
    (p : List ℕ)
    → ((n : ℕ) → n < connections → count_of p n ≡ count_below url_rows (in_table p n))
    × ((tabled p).all ≡ sum_below connections (count_of p))

-- ---- what the monitor does

-- The monitor takes a load just where the cell is set of the URL that is asked for in its place, which is the URL itself where it has no partner: from
-- the empty state, under any script table of 2,048 bytes and with a buffer that 1 does not refuse, whatever it holds.
abbrev pub ReachedIsLoaded : Type 0
ReachedIsLoaded =
    (p scripts out : List ℕ) (n u : ℕ)
    → length scripts ≡ table_bytes → output_room ≤ length out
    → T (well_formed p) → n < connections → T (is_url p u)
    → let number = (feed p scripts empty_state (load ∷ u ∷ n ∷ []) out).number in
    (T (in_table p n (upgraded p u)) → number ≡ accepted) × (number ≡ accepted → T (in_table p n (upgraded p u)))

-- ---- what a change moves

-- Row u is the same in two policies: address, readers, writers.
abbrev pub SameRow : List ℕ → List ℕ → ℕ → Type 0
SameRow p q u = (address_word p u ≡ address_word q u) × (url_readers p u ≡ url_readers q u) × (url_writers p u ≡ url_writers q u)

-- Connection n is the same in what the table looks at: readers and writers. Its script readers may be others.
abbrev pub SameConnection : List ℕ → List ℕ → ℕ → Type 0
SameConnection p q n = (connection_readers p n ≡ connection_readers q n) × (connection_writers p n ≡ connection_writers q n)

-- Two policies are the same but for row u, or but for connection n. Cookie labels, hosts that are always https and partners may be any.
abbrev pub SameButForRow : List ℕ → List ℕ → ℕ → Type 0
SameButForRow p q u =
    ((v : ℕ) → v < url_rows → (v ≡ u → ⊥) → SameRow p q v)
    × ((n : ℕ) → n < connections → SameConnection p q n)

abbrev pub SameButForConnection : List ℕ → List ℕ → ℕ → Type 0
SameButForConnection p q n =
    ((u : ℕ) → u < url_rows → SameRow p q u)
    × ((m : ℕ) → m < connections → (m ≡ n → ⊥) → SameConnection p q m)

-- Of two well formed policies that are the same but for one row, the totals are at most 32 apart, and the counts of each connection at most 1.
abbrev pub RowMoves : Type 0
RowMoves =
    (p q : List ℕ) (u : ℕ) → T (well_formed p) → T (well_formed q) → SameButForRow p q u
    → AtMostApart 32 (tabled p).all (tabled q).all
    × ((n : ℕ) → n < connections → AtMostApart 1 (count_of p n) (count_of q n))

-- Of two that are the same but for one connection, the totals are at most 64 apart, and the counts of every other connection are equal.
abbrev pub ConnectionMoves : Type 0
ConnectionMoves =
    (p q : List ℕ) (n : ℕ) → T (well_formed p) → T (well_formed q) → SameButForConnection p q n
    → AtMostApart 64 (tabled p).all (tabled q).all
    × ((m : ℕ) → m < connections → (m ≡ n → ⊥) → count_of p m ≡ count_of q m)
