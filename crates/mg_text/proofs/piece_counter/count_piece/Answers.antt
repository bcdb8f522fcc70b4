use Rattle.std.proofs.Common.{arith, ◌<◌, ℕ, length, ◌∙◌, ap}
use Rattle.mg_defs.specs.Marks.{code_of}
use Rattle.mg_defs.specs.Sorted.{number_of}
use Rattle.mg_text.specs.PieceCounts.{with_symbol}
use Rattle.mg_text.proofs.CountLaws.{number_failed, on_true_map}
use Rattle.mg_text.proofs.PairLaws.{piece_number}
use Rattle.mg_text.proofs.piece_counter.count_piece.Goals as goal

pub returns-then-failed : goal.returns-then-failed
returns-then-failed g c =
    let read = c.in-Err.ensures.read in
    record { fits = read.fits; calm = read.calm; told = tt; cause = number_failed ℕ c.is_failure-failed.result c.in-Err.refusal _ _ c.if-failed.true c.is_failure-failed.ensures.failed read.cause }

pub returns-in-Err : goal.returns-in-Err
returns-in-Err g c = record { fits = c.in-Err.ensures.read.fits; calm = c.in-Err.ensures.read.calm; told = tt; cause = tt }

pub returns : goal.returns
returns g c =
    let code = code_of c.args.stream c.args.model.now in
    record {
      fits = c.in-Ok.ensures.read.fits;
      calm = c.in-Ok.ensures.read.calm;
      told = on_true_map c.count.result (λ is. λ piece there small shows.
          let number = number_of code.pieces piece in
          let below : number < length code.lengths = omega (arith, piece_number code piece there, c.canon.ensures.keeps.each) in
          let read = (rw c.canon.ensures.lengths at c.in-Ok.ensures.told) number below small shows in
          (read.1, is ∙ ap (λ symbol. with_symbol c.args.stream symbol c.args.counts.now) read.0)) c.count.ensures;
      cause = tt;
    }
