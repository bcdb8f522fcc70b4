use Rattle.std.proofs.Common.{rules, arith, ◌≡◌, ◌<◌, ◌≤◌, ◌-◌, ◌^◌, ◌∙◌, List, ℕ, All, ap, length, subst, sym}
use Rattle.std.proofs.lemmas.List.Elements.{All-from_recursion}
use Rattle.mg_dev.specs.declared.part_err.PartErr.TheVariants.{Bad, Memory}
use Rattle.mg_defs.specs.CodedText.{TextCode}
use Rattle.mg_defs.specs.Terms.{document}
use Rattle.mg_model.specs.Terms.{terms_and_numbers}
use Rattle.mg_check_parts.specs.Words.{pieces_of}
use Rattle.mg_check_parts.proofs.CallerLemmas.{has_terms, words_few}
use Rattle.mg_check_text.proofs.CallerLemmas.{doc_short}
use Rattle.mg_check_text.proofs.ReadLaws.{text_bad, text_ok, text_read}
use Rattle.mg_check_text.proofs.term_reader.TermReader.read.Goals as goal

pub returns-in-Err-clause-never_bad : goal.returns-in-Err-clause-never_bad
returns-in-Err-clause-never_bad g c = λ collection stand. c.in-Err.ensures.never_bad collection (record { stands = stand; short = doc_short collection c.args.number stand.few })

pub returns-in-Err-clause-text : goal.returns-in-Err-clause-text
returns-in-Err-clause-text g c = text_read c.words.ensures.fits c.words.ensures.same c.words.ensures.looked c.in-Err.ensures.cause

pub take-requires-clause-table : goal.take-requires-clause-table
take-requires-clause-table g c = c.requires.text.table_is ∙ ap (λ (code : TextCode). terms_and_numbers code.words.pieces) (sym (c.model.ensures ∙ c.words.ensures.same.code))

pub take-requires-clause-few : goal.take-requires-clause-few
take-requires-clause-few g c = c.requires.text.few

pub take-requires-clause-symbols : goal.take-requires-clause-symbols
take-requires-clause-symbols g c =
    let code : c.model.result.now ≡ c.args.reader.now.code = c.model.ensures ∙ c.words.ensures.same.code in
    let low = All-from_recursion (λ (s : ℕ). s < length c.args.reader.now.code.words.pieces) c.words.new.list.symbols c.in-Ok.ensures.of_words in
    subst (λ (ss : List ℕ). All (λ (s : ℕ). s < length c.model.result.now.words.pieces) ss) (sym c.symbols-symbols.ensures)
    (subst (λ (k : TextCode). All (λ (s : ℕ). s < length k.words.pieces) c.words.new.list.symbols) (sym code) low)

pub returns-clause-terms : goal.returns-clause-terms
returns-clause-terms g c =
    let code : c.model.result.now ≡ c.args.reader.now.code = c.model.ensures ∙ c.words.ensures.same.code in
    let some = c.in-Ok-true.ensures.some (search rules) in
    let taken = c.in-Ok-true.ensures.terms (search rules) in
    let same : pieces_of c.model.result.now.words.pieces c.symbols-symbols.result.now ≡ pieces_of c.args.reader.now.code.words.pieces c.words.new.list.symbols =
    ap (λ (k : TextCode). pieces_of k.words.pieces c.symbols-symbols.result.now) code ∙ ap (pieces_of c.args.reader.now.code.words.pieces) c.symbols-symbols.ensures in
    record {
      doc = some.doc;
      terms = some.terms;
      own = λ collection stand.
          let short = doc_short collection c.args.number stand.few in
          taken (document collection c.args.number)
          (has_terms c.model.result.now.words.pieces c.symbols-symbols.result.now (document collection c.args.number) (same ∙ c.in-Ok.ensures.content collection (record { stands = stand; short = short })));
    }

pub returns-clause-text : goal.returns-clause-text
returns-clause-text g c = text_ok (text_read c.words.ensures.fits c.words.ensures.same c.words.ensures.looked c.in-Ok.ensures.cause)

pub returns-in-Ok-false-clause-never_bad : goal.returns-in-Ok-false-clause-never_bad
returns-in-Ok-false-clause-never_bad g c = λ collection stand.
    let short : length (document collection c.args.number) ≤ 2 ^ 32 - 1 = doc_short collection c.args.number stand.few in
    let few = words_few c.args.reader.now.code.words.pieces c.words.new.list.symbols (document collection c.args.number)
    (c.in-Ok.ensures.content collection (record { stands = stand; short = short })) in
    let known = c.in-Ok-false.ensures.known (omega (arith, few, short, ap (λ (ss : List ℕ). length ss) c.symbols-symbols.ensures)) in
    search rules

pub returns-in-Ok-false-clause-text : goal.returns-in-Ok-false-clause-text
returns-in-Ok-false-clause-text g c = text_bad (Bad c.damaged_document.result) (text_read c.words.ensures.fits c.words.ensures.same c.words.ensures.looked c.in-Ok.ensures.cause) tt

pub returns-in-Err-take-clause-text : goal.returns-in-Err-take-clause-text
returns-in-Err-take-clause-text g c = text_bad Memory (text_read c.words.ensures.fits c.words.ensures.same c.words.ensures.looked c.in-Ok.ensures.cause) tt
