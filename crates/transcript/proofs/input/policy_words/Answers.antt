-- `input::policy_words` meets its contract: the words before one are read.
use Rattle.std.proofs.Common.{◌<◌, ◌≢◌, length, arith, get_or-set_other, get_or-set_same, below_more}
use Rattle.transcript.proofs.Words.{word_there, words_there}
use Rattle.transcript.proofs.input.policy_words.Goals as goal

pub loop-i-preserved : goal.loop-i-preserved
loop-i-preserved c =
    below_more _ _
    (λ k h. let ne : k ≢ c.loop-i.i = omega arith in rw get_or-set_other (c.loop-i.invariant k h))
    (let lt : c.loop-i.i < length c.loop-i.word-items = omega arith in
    rw get_or-set_same (word_there _ _ c.as_chunks.ensures.front (omega (arith, c.requires)) (omega (arith, c.requires)) c.from_be_bytes.ensures))

pub returns : goal.returns
returns c = words_there _ c.loop-i-test.array_long (λ k h. c.loop-i.invariant k (omega arith))
