use Rattle.std.proofs.Common.{◌≡◌, ◌≤◌, ◌+◌, ℕ, length, get_or, arith, sym, ap, subst, ◌∙◌}
use Rattle.std.proofs.lemmas.List.{get_or_read}
use Rattle.mg_defs.specs.DocCounts.{last_with}
use Rattle.mg_count.specs.DocCounting.{AreDocCounts, DocCounting}
use Rattle.mg_count.proofs.DocsCounted.{doc-counted}
use Rattle.mg_count.proofs.doc_counts.DocCounts.count.Goals as goal

-- what the two reads give
pub with_document-requires-clause-few : goal.with_document-requires-clause-few
with_document-requires-clause-few c =
    let term : ℕ = c.args.term in
    let i = c.self.inside in
    let terms : ℕ = length c.args.self.now.docs in
    let now : DocCounting = record { docs = i.docs.items; last = i.last.items } in
    let before : AreDocCounts now terms c.requires.counts.0 = subst (λ (v : DocCounting). AreDocCounts v terms c.requires.counts.0) (sym c.self.view_is) c.requires.counts.1 in
    let last_read : c.index-last.result.now ≡ get_or i.last.items term 0
    = get_or_read i.last.items term c.index-last.result.now (omega (arith, c.requires.term, before.last_size)) c.index-last.ensures 0 in
    let docs_read : c.index-docs.result.now ≡ get_or i.docs.items term 0
    = get_or_read i.docs.items term c.index-docs.result.now (omega (arith, c.requires.term, before.doc_size)) c.index-docs.ensures 0 in
    let few : get_or i.docs.items term 0 ≤ get_or i.last.items term 0 = before.few term c.requires.term in
    omega (arith, last_read, docs_read, few)

pub with_document-requires-clause-later : goal.with_document-requires-clause-later
with_document-requires-clause-later c =
    let term : ℕ = c.args.term in
    let i = c.self.inside in
    let terms : ℕ = length c.args.self.now.docs in
    let now : DocCounting = record { docs = i.docs.items; last = i.last.items } in
    let before : AreDocCounts now terms c.requires.counts.0 = subst (λ (v : DocCounting). AreDocCounts v terms c.requires.counts.0) (sym c.self.view_is) c.requires.counts.1 in
    let last_read : c.index-last.result.now ≡ get_or i.last.items term 0
    = get_or_read i.last.items term c.index-last.result.now (omega (arith, c.requires.term, before.last_size)) c.index-last.ensures 0 in
    let last : get_or i.last.items term 0 ≡ last_with term 0 c.requires.counts.0 = before.last term c.requires.term in
    omega (arith, last_read, last, c.requires.counts.2)

pub returns-clause-counts : goal.returns-clause-counts
returns-clause-counts c fed h low =
    let term : ℕ = c.args.term in
    let i = c.self.inside in
    let terms : ℕ = length c.args.self.now.docs in
    let now : DocCounting = record { docs = i.docs.items; last = i.last.items } in
    let before : AreDocCounts now terms fed = subst (λ (v : DocCounting). AreDocCounts v terms fed) (sym c.self.view_is) h in
    let last_read : c.index-last.result.now ≡ get_or i.last.items term 0
    = get_or_read i.last.items term c.index-last.result.now (omega (arith, c.requires.term, before.last_size)) c.index-last.ensures 0 in
    let docs_read : c.index-docs.result.now ≡ get_or i.docs.items term 0
    = get_or_read i.docs.items term c.index-docs.result.now (omega (arith, c.requires.term, before.doc_size)) c.index-docs.ensures 0 in
    doc-counted c.documents_are_counted.ensures.last i.docs.items i.last.items terms term c.args.doc c.with_document.result fed c.requires.term c.requires.some before low
    (λ other. c.with_document.ensures.other (λ e. other (sym last_read ∙ e)) ∙ ap (λ n. n + 1) docs_read)
    (λ same. c.with_document.ensures.same (last_read ∙ same) ∙ docs_read)
