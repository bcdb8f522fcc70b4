use Rattle.std.proofs.Common.{arith, sym, subst}
use Rattle.std.proofs.lemmas.List.{length_push}
use Rattle.mg_canon.specs.Tables.{AreBeginnings, IsBeginning, found_in}
use Rattle.mg_canon.proofs.Decoding.{entry_more}
use Rattle.mg_canon.proofs.canon.Canon.with_beginnings.Goals as goal

pub loop-front-preserved : goal.loop-front-preserved
loop-front-preserved c =
    let i = c.loop-front.invariant in
    let width = c.self.inside.width in
    let next = subst (λ k. IsBeginning c.args.self width k (found_in c.beginning.result)) (sym i.size) c.beginning.ensures in
    rw c.in_ok-push.ensures.items
    (record {
      size = omega (arith, length_push c.loop-front.beginnings.items c.beginning.result, i.size);
      entries = entry_more c.args.self width c.loop-front.beginnings.items c.beginning.result i.entries next;
    })

pub invariant_of-code : goal.invariant_of-code
invariant_of-code c =
    record {
      tables = c.self.invariant.tables;
      narrow = c.self.invariant.narrow;
      entries = subst (λ l. AreBeginnings l c.self.inside.width c.loop-front.beginnings.items) (sym c.self.view_is) c.loop-front.invariant.entries;
    }
