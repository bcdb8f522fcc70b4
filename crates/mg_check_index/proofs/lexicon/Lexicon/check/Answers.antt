use Rattle.std.proofs.Common.{◌∙◌, IsSome, sym, subst}
use Rattle.mg_dev.specs.declared.part.Part.TheVariants.{Lex, LexAt}
use Rattle.mg_dev.specs.Names.{full_name}
use Rattle.mg_defs.specs.Lexicon.{lex_at_part, lex_part}
use Rattle.mg_check_parts.proofs.CallerLemmas.{looks_err, looks_then}
use Rattle.mg_check_index.specs.Listing.{LexiconStands}
use Rattle.mg_check_index.proofs.LexiconLaws.{lex_at_is, lex_is, refutes_wider}
use Rattle.mg_check_index.proofs.PairLaws.{whole-is, whole-was}
use Rattle.mg_check_index.proofs.lexicon.Lexicon.check.Goals as goal

pub finish_terms-requires : goal.finish_terms-requires
finish_terms-requires g c =
    let can = c.requires.can.2 in
    record { can = record { before = can.before; took = can.took; lex = c.requires.goes.strings; lex_at = c.requires.goes.places } }

pub finish_whole-requires : goal.finish_whole-requires
finish_whole-requires g c = record { whole = c.in-Ok.ensures.finished.puts.places.one.from ∙ c.requires.goes.strings_from }

pub finish_whole-requires-2 : goal.finish_whole-requires-2
finish_whole-requires-2 g c = record { whole = c.in-Ok.ensures.finished.puts.places.other.from ∙ c.requires.goes.places_from }

pub returns-in-Err-finish_whole-clause-other : goal.returns-in-Err-finish_whole-clause-other
returns-in-Err-finish_whole-clause-other g c = λ collection told took.
    let f = g.S.Store.files c.args.store.now in
    let w = c.finish_terms.new.pair.one in
    let same = c.in-Ok.ensures.finished.puts.looks.files in
    let lex = lex_is collection _ (c.lexicon_has_its_terms.ensures.entries collection) ((c.in-Ok.ensures.finished.holds told _ took).strings) in
    let named = c.in-Ok.ensures.finished.puts.places.one.name ∙ c.requires.goes.strings_of in
    refutes_wider _ (LexiconStands f c.args.base.now collection) c.in-Err-finish_whole.refusal
    (λ stand. whole-was f (g.S.Store.files c.finish_terms.new.store) w (lex_part collection) (full_name c.args.base.now Lex) same lex named stand.lex)
    (c.in-Err-finish_whole.ensures.other (subst IsSome (sym same) told))

pub returns-in-Ok-finish_whole-2-clause-stand : goal.returns-in-Ok-finish_whole-2-clause-stand
returns-in-Ok-finish_whole-2-clause-stand g c = λ collection told took.
    let f = g.S.Store.files c.args.store.now in
    let same = c.in-Ok.ensures.finished.puts.looks.files in
    let same_then = c.in-Ok-finish_whole.ensures.looks.files ∙ same in
    let entries = c.lexicon_has_its_terms.ensures.entries collection in
    let holds = c.in-Ok.ensures.finished.holds told _ took in
    let places = c.in-Ok.ensures.finished.puts.places in
    record {
      lex = whole-is f (g.S.Store.files c.finish_terms.new.store) c.finish_terms.new.pair.one (lex_part collection) (full_name c.args.base.now Lex) same
          (lex_is collection _ entries holds.strings) (places.one.name ∙ c.requires.goes.strings_of) (c.in-Ok-finish_whole.ensures.stand (subst IsSome (sym same) told));
      lex_at = whole-is f (g.S.Store.files c.finish_whole.new.store) c.finish_terms.new.pair.other (lex_at_part collection) (full_name c.args.base.now LexAt) same_then
          (lex_at_is collection _ entries holds.places) (places.other.name ∙ c.requires.goes.places_of) (c.in-Ok-finish_whole-2.ensures.stand (subst IsSome (sym same_then) told));
    }

pub returns-in-Err-finish_whole-2-clause-other : goal.returns-in-Err-finish_whole-2-clause-other
returns-in-Err-finish_whole-2-clause-other g c = λ collection told took.
    let f = g.S.Store.files c.args.store.now in
    let w = c.finish_terms.new.pair.other in
    let same = c.in-Ok-finish_whole.ensures.looks.files ∙ c.in-Ok.ensures.finished.puts.looks.files in
    let lex_at = lex_at_is collection _ (c.lexicon_has_its_terms.ensures.entries collection) ((c.in-Ok.ensures.finished.holds told _ took).places) in
    let named = c.in-Ok.ensures.finished.puts.places.other.name ∙ c.requires.goes.places_of in
    refutes_wider _ (LexiconStands f c.args.base.now collection) c.in-Err-finish_whole-2.refusal
    (λ stand. whole-was f (g.S.Store.files c.finish_whole.new.store) w (lex_at_part collection) (full_name c.args.base.now LexAt) same lex_at named stand.lex_at)
    (c.in-Err-finish_whole-2.ensures.other (subst IsSome (sym same) told))

pub returns-in-Err-clause-looks : goal.returns-in-Err-clause-looks
returns-in-Err-clause-looks g c = looks_err c.in-Err.ensures.finished.puts.looks

pub returns-in-Err-finish_whole-clause-looks : goal.returns-in-Err-finish_whole-clause-looks
returns-in-Err-finish_whole-clause-looks g c = looks_then c.in-Ok.ensures.finished.puts.looks c.in-Err-finish_whole.ensures.looks

pub returns-in-Ok-finish_whole-2-clause-looks : goal.returns-in-Ok-finish_whole-2-clause-looks
returns-in-Ok-finish_whole-2-clause-looks g c = looks_then c.in-Ok.ensures.finished.puts.looks (looks_then c.in-Ok-finish_whole.ensures.looks c.in-Ok-finish_whole-2.ensures.looks)

pub returns-in-Err-finish_whole-2-clause-looks : goal.returns-in-Err-finish_whole-2-clause-looks
returns-in-Err-finish_whole-2-clause-looks g c = looks_then c.in-Ok.ensures.finished.puts.looks (looks_then c.in-Ok-finish_whole.ensures.looks c.in-Err-finish_whole-2.ensures.looks)
