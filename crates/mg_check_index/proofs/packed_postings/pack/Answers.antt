use Rattle.std.proofs.Common.{arith, refl}
use Rattle.mg_check_index.proofs.PackedLaws.{doc_beside, freq_beside, none_beside, own_word}
use Rattle.mg_check_index.proofs.packed_postings.pack.Goals as goal

pub returns-clause-posting : goal.returns-clause-posting
returns-clause-posting c = λ beside.
    own_word beside c.args.posting _ refl (omega (arith, c.if-posting-eq0.false)) (omega (arith, c.if-posting-eq0-2.false)) (omega (arith, c.if-posting-ge-LOW.false))

pub returns-clause-small : goal.returns-clause-small
returns-clause-small c =
    none_beside c.args.posting (omega (arith, c.if-posting-eq0.false)) (omega (arith, c.if-posting-gt-DOCUMENTS.false)) (omega (arith, c.if-posting-eq0-2.false))
    (omega (arith, c.if-posting-ge-LOW.false))

pub returns-then-posting-eq0-clause-other : goal.returns-then-posting-eq0-clause-other
returns-then-posting-eq0-clause-other c = doc_beside c.args.posting c.then-posting-eq0.either

pub returns-then-posting-eq0-2-clause-other : goal.returns-then-posting-eq0-2-clause-other
returns-then-posting-eq0-2-clause-other c = freq_beside c.args.posting c.then-posting-eq0-2.either
