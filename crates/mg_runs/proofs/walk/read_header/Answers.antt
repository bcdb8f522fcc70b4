use Rattle.std.proofs.Common.{ℕ, List, [], ap, length, get_or, arith}
use Rattle.mg_runs.proofs.CursorLaws.{header_stands, header_read, first_bytes}
use Rattle.mg_runs.proofs.Decoding.{none_or_some, one_some}
use Rattle.mg_runs.proofs.StepLaws.{refuses_bad, refuses_ok}
use Rattle.mg_runs.proofs.walk.read_header.Goals as goal

pub returns-in-Some : goal.returns-in-Some
returns-in-Some c = record {
  told = λ file xs at within window.
      let slot : List ℕ = get_or c.args.pool.now.slots c.args.slot [] in
      let few = at.few in
      let s = header_stands slot file _ c.args.place c.args.count xs at window (first_bytes c.min.result c.args.count c.slot-all.result.now slot c.min.ensures c.slot-all.ensures) in
      let f = one_some _ _ _ c.in-Some.is (c.number_in.ensures.told (length xs) s.0 (at.some, omega arith) s.1) in
      header_read slot file c.args.place c.args.count xs c.in-Some.number.value c.in-Some.number.next at within window (ap (λ n. n.value) f) (ap (λ n. n.next) f);
  some = omega arith;
  few = let r = c.in-Some.ensures.range in omega (arith, r.1);
  refuses = refuses_ok;
}

pub returns-in-None : goal.returns-in-None
returns-in-None c =
    let d = c.damage-in-None.ensures in
    record {
      told = λ file xs at within window.
          let slot : List ℕ = get_or c.args.pool.now.slots c.args.slot [] in
          let few = at.few in
          let s = header_stands slot file _ c.args.place c.args.count xs at window (first_bytes c.min.result c.args.count c.slot-all.result.now slot c.min.ensures c.slot-all.ensures) in
          none_or_some _ _ c.in-None.is (c.number_in.ensures.told (length xs) s.0 (at.some, omega arith) s.1);
      some = tt;
      few = tt;
      refuses = refuses_bad c.damage-in-None.result d.caused d.memory d.names d.bit;
    }
