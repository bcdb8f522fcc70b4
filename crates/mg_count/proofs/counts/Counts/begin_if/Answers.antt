use Rattle.std.proofs.Common.{◌++◌, ◌+◌, List, sym, subst}
use Rattle.mg_defs.specs.Marks.{Mark, start}
use Rattle.mg_count.specs.Counting.{Counting, IsCounted, PassesAfter}
use Rattle.mg_count.proofs.Counted.{AddUp, met-mark, start-counted, start-passes}
use Rattle.mg_count.proofs.counts.Counts.begin_if.Goals as goal

pub returns-then-self-ge-MOST_DOCUMENTS-clause-refused : goal.returns-then-self-ge-MOST_DOCUMENTS-clause-refused
returns-then-self-ge-MOST_DOCUMENTS-clause-refused c met h =
    let e = c.marks_add_up.ensures in
    let laws : AddUp = record { documents = e.documents; pieces = e.pieces; pairs = e.pairs; last = e.last } in
    let i = c.self.inside in
    let now : Counting = record { words = i.words; others = i.others; pairs = i.pairs.items; pieces = i.pieces; documents = i.documents } in
    let before : IsCounted now met = subst (λ (v : Counting). IsCounted v met) (sym c.self.view_is) h in
    subst (λ (next : List Mark). PassesAfter met next start) (sym (met-mark c.args.begins start c.if-not-begins.false)) (start-passes laws now met c.if-self-ge-MOST_DOCUMENTS.true before)

pub returns-clause-counted : goal.returns-clause-counted
returns-clause-counted c met h =
    let e = c.marks_add_up.ensures in
    let laws : AddUp = record { documents = e.documents; pieces = e.pieces; pairs = e.pairs; last = e.last } in
    let i = c.self.inside in
    let now : Counting = record { words = i.words; others = i.others; pairs = i.pairs.items; pieces = i.pieces; documents = i.documents } in
    let before : IsCounted now met = subst (λ (v : Counting). IsCounted v met) (sym c.self.view_is) h in
    let after : Counting = record { words = i.words; others = i.others; pairs = i.pairs.items; pieces = 0; documents = i.documents + 1 } in
    subst (λ (next : List Mark). IsCounted after (met ++ next)) (sym (met-mark c.args.begins start c.if-not-begins.false)) (start-counted laws now met c.if-self-ge-MOST_DOCUMENTS.false before)
