-- Worked cases of the text: document 01's small post, and inputs that are no policy.
use Rattle.std.specs.Prelude.{ℕ, ◌&&◌, List, [], ◌++◌, T, replicate}
use Rattle.prelude.specs.Lists.{same_numbers}
use Rattle.text.specs.Text.{ascii}
use Rattle.machine.specs.Cases.{policy_p}
use Rattle.reach_table.specs.Reach.{tabled}
use Rattle.reach.specs.Report.{report, printed}

-- the lines of connections 0 to 3, those of the others, and the last
abbrev pub text_p : List ℕ
text_p =
    ascii "0 1\n1 2\n2 1\n3 2\n"
    ++ ascii "4 0\n5 0\n6 0\n7 0\n8 0\n9 0\n10 0\n11 0\n12 0\n13 0\n14 0\n15 0\n16 0\n17 0\n"
    ++ ascii "18 0\n19 0\n20 0\n21 0\n22 0\n23 0\n24 0\n25 0\n26 0\n27 0\n28 0\n29 0\n30 0\n31 0\n"
    ++ ascii "all 6\n"

-- no bytes; a byte too few and a byte too many; as many as a policy has, and all of them 0, whose rows lack their event endpoint
abbrev pub TextCases : Type 0
TextCases =
    T (same_numbers (report (tabled policy_p)) text_p
    && (same_numbers (printed []) (ascii "2\n")
    && (same_numbers (printed (replicate 2435 0)) (ascii "2\n")
    && (same_numbers (printed (replicate 2437 0)) (ascii "2\n")
    && same_numbers (printed (replicate 2436 0)) (ascii "2\n")))))
