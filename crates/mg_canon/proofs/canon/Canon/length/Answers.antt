use Rattle.std.proofs.Common.{ℕ, List, sym, subst, ◌∙◌, ◌≡◌, ap, get_or}
use Rattle.std.proofs.lemmas.List.{get_or_default}
use Rattle.mg_defs.specs.Canon.{AreGood}
use Rattle.mg_defs.proofs.CanonLaws.{length-codeword}
use Rattle.mg_canon.proofs.Refused.{good_from}
use Rattle.mg_canon.proofs.canon.Canon.length.Goals as goal

pub returns-clause-codeword : goal.returns-clause-codeword
returns-clause-codeword c =
    let t = c.self.invariant.tables in
    let good : AreGood c.args.self.now = subst (λ l. AreGood l) c.self.view_is (good_from c.self.inside.lengths.items t.all t.full) in
    let here : c.index.result.now ≡ get_or c.args.self.now c.args.symbol c.index.result.now = c.index.ensures ∙ ap (λ (l : List ℕ). get_or l c.args.symbol c.index.result.now) c.self.view_is in
    here ∙ sym (get_or_default c.args.self.now c.args.symbol 0 c.index.result.now c.requires.symbol) ∙ sym (length-codeword c.args.self.now c.args.symbol good c.requires.symbol)
