-- `Writer::cookies` meets its contract: what is written from a key on leads to where all leads.
use Rattle.prelude.proofs.Kit.{arith, ◌≡◌, ◌∙◌, rules}
use Rattle.records.proofs.Cookies.{writing_begins, writing_fits, writing_goes_on, writing_ends}
use Rattle.records.proofs.writing.Writer.cookies.Goals as goal

pub loop-key-init : goal.loop-key-init
loop-key-init c = record { same_memory = search rules; written = writing_begins _ _ c.args.keys c.args.values (search rules) c.requires }

pub word-requires : goal.word-requires
word-requires c =
    let at = c.loop-key in
    rw c.is_set.ensures (writing_fits _ _ c.args.keys c.args.values _ _ at.key c.loop-key-test.true at.invariant.written)

pub loop-key-preserved : goal.loop-key-preserved
loop-key-preserved c =
    let at = c.loop-key in
    record {
      same_memory = c.word.ensures.same_memory ∙ at.invariant.same_memory;
      written =
          writing_goes_on _ _ c.args.keys c.args.values _ _ at.key c.loop-key-test.true at.invariant.written _ _
          (rw c.is_set.ensures at c.word.ensures.wrote);
    }

pub returns-clause-wrote : goal.returns-clause-wrote
returns-clause-wrote c =
    let at = c.loop-key in
    let all : at.key ≡ 8 = omega arith in
    writing_ends _ _ c.args.keys c.args.values _ _ (rw all at at.invariant.written)
