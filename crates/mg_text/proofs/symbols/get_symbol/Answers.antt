use Rattle.std.proofs.Common.{◌≡◌, ◌+◌, length, ◌∙◌, ap, Ok}
use Rattle.mg_defs.specs.Canon.{codeword}
use Rattle.mg_defs.specs.Answers.{Below}
use Rattle.mg_defs.proofs.CanonLaws.{codewords_free}
use Rattle.mg_bits.proofs.CallerLemmas.{told_got}
use Rattle.mg_text.proofs.ToldLaws.{from_code}
use Rattle.mg_text.proofs.symbols.get_symbol.Goals as goal

pub returns-in-Ok-clause-told : goal.returns-in-Ok-clause-told
returns-in-Ok-clause-told g c = λ s below small shows.
    let got : c.in-Ok.symbol ≡ s = told_got (Below (length c.args.canon.now)) (codeword c.args.canon.now) (codewords_free c.args.canon.now c.count.ensures.good)
    _ (Ok c.in-Ok.symbol) 1 c.args.r.now.place s below shows c.in-Ok.ensures.told in
    (got, c.in-Ok.ensures.place ∙ ap (λ x. c.args.r.now.place + length (codeword c.args.canon.now x)) got, rw got at c.in-Ok.ensures.read)

pub returns-in-Ok-clause-stood : goal.returns-in-Ok-clause-stood
returns-in-Ok-clause-stood g c = record { bits_are = from_code _ c.args.r.now.place _ (codeword c.args.canon.now c.in-Ok.symbol) c.in-Ok.ensures.told; behind = c.in-Ok.ensures.place }
