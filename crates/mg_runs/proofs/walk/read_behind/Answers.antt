use Rattle.std.proofs.Common.{ℕ, List, [], ap, refl, arith, get_or}
use Rattle.mg_runs.proofs.CursorLaws.{stands, moved, first_bytes}
use Rattle.mg_runs.proofs.Decoding.{none_or_some, one_some}
use Rattle.mg_runs.proofs.StepLaws.{refuses_bad, refuses_ok}
use Rattle.mg_runs.proofs.walk.read_behind.Goals as goal

pub returns-in-Some : goal.returns-in-Some
returns-in-Some c = record {
  told = λ file x y ys at.
      let slot : List ℕ = get_or c.args.pool.now.slots c.args.slot [] in
      let told = rw at.posting at c.posting_in.ensures.told in
      let bytes = first_bytes c.min.result c.args.cursor.now.count c.slot-all.result.now slot c.min.ensures c.slot-all.ensures in
      let s = stands c.args.cursor.now slot file _ x y ys _ at c.requires.near bytes refl in
      let f = one_some _ _ _ c.in-Some.is (told y at.after.0 at.run.small.0 s.0 s.1) in
      moved c.args.cursor.now slot file x y ys _ c.in-Some.found at (ap (λ d. d.posting) f) (ap (λ d. d.next) f);
  moved = record { left = omega arith; posting = λ h. c.in-Some.ensures.in_document };
  refuses = refuses_ok;
}

pub returns-in-None : goal.returns-in-None
returns-in-None c =
    let d = c.damage-in-None.ensures in
    record {
      told = λ file x y ys at.
          let slot : List ℕ = get_or c.args.pool.now.slots c.args.slot [] in
          let told = rw at.posting at c.posting_in.ensures.told in
          let bytes = first_bytes c.min.result c.args.cursor.now.count c.slot-all.result.now slot c.min.ensures c.slot-all.ensures in
          let s = stands c.args.cursor.now slot file _ x y ys _ at c.requires.near bytes refl in
          none_or_some _ _ c.in-None.is (told y at.after.0 at.run.small.0 s.0 s.1);
      moved = tt;
      refuses = refuses_bad c.damage-in-None.result d.caused d.memory d.names d.bit;
    }
