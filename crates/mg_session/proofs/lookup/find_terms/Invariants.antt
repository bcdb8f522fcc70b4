use Rattle.std.proofs.Common.{◌≡◌, ◌<◌, ℕ, List, [], length, get_or, slice_index_or, None, IsSome, ◌*◌}
use Rattle.mg_dev.specs.declared.part.Part.TheVariants as part
use Rattle.mg_defs.specs.WithinLimits.{IsWithinLimits}
use Rattle.mg_front.specs.Looks.{looks}
use Rattle.mg_front.specs.Reading.{FrontFits, LookedAt, SameParts}
use Rattle.mg_lex.specs.Reading.{LexStands}
use Rattle.mg_lex.specs.Stood.{TermTold}
use Rattle.mg_session.specs.Answering.{FirstInfos}
use Rattle.mg_session.specs.Parts.{ReadsLexicon}
use Rattle.mg_session.proofs.lookup.find_terms.Given as goal

abbrev pub invariant-loop-term : goal.invariant-loop-term
invariant-loop-term g l = record {
  fits : FrontFits l.lex (g.S.Store.files l.store);
  same : SameParts l.fn.lex l.lex;
  looked : LookedAt part.Lex part.LexAt (g.S.Store.files l.fn.store) (g.S.Store.files l.store) (g.S.Store.reads l.fn.store) (g.S.Store.reads l.store)
      (g.S.Store.faults l.fn.store) (g.S.Store.faults l.store);
  told : (version : ℕ) (collection : List ℕ) → IsWithinLimits version collection → LexStands l.fn.lex (g.S.Store.files l.fn.store) collection →
      FirstInfos collection l.fn.terms l.term-index l.infos.items;
  stood : IsSome (g.S.Store.files l.fn.store) → (k : ℕ) → k < l.term-index →
      TermTold l.fn.lex (g.S.Store.files l.fn.store) (get_or l.fn.terms k []) (slice_index_or l.infos.items k None);
  size : length l.infos.items ≡ l.term-index;
  reads : ReadsLexicon (g.S.Store.reads l.fn.store) (g.S.Store.reads l.store) (l.term-index * looks l.fn.lex.count);
}
