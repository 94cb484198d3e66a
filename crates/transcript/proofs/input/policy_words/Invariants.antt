-- `input::policy_words` meets its contract: the words before one are read.
use Rattle.prelude.proofs.Kit.{ℕ, ◌<◌, ◌*◌, ◌≡◌, get_or, take, drop}
use Rattle.records.specs.Bytes.{number}
use Rattle.transcript.proofs.input.policy_words.Given as goal

abbrev pub invariant-loop-i : goal.invariant-loop-i
invariant-loop-i l = (k : ℕ) → k < l.i → get_or l.word-items k 0 ≡ number (take 4 (drop (4 * k) l.input))
