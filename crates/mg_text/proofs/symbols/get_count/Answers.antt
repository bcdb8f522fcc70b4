use Rattle.std.proofs.Common.{arith, ◌≡◌, ◌+◌, ◌-◌, length, ◌∙◌, ap, subst, Ok}
use Rattle.mg_defs.specs.Codes.{gamma}
use Rattle.mg_defs.specs.Answers.{UpTo}
use Rattle.mg_defs.proofs.CodeLaws.{gamma_free}
use Rattle.mg_bits.proofs.CallerLemmas.{told_got}
use Rattle.mg_text.specs.Decoding.{StoodNext}
use Rattle.mg_text.proofs.ToldLaws.{from_code}
use Rattle.mg_text.proofs.symbols.get_count.Goals as goal

pub returns-in-Ok-clause-told : goal.returns-in-Ok-clause-told
returns-in-Ok-clause-told g c = λ n few small shows.
    let got : c.in-Ok.number ≡ n + 1 = told_got (UpTo 4294967296) gamma (gamma_free 4294967296 (omega arith)) _ (Ok c.in-Ok.number) 4294967296
    c.args.r.now.place (n + 1) (omega arith, omega arith) shows c.in-Ok.ensures.told in
    (omega arith, c.in-Ok.ensures.place ∙ ap (λ x. c.args.r.now.place + length (gamma x)) got, rw got at c.in-Ok.ensures.read)

pub returns-in-Ok-clause-stood : goal.returns-in-Ok-clause-stood
returns-in-Ok-clause-stood g c =
    let number = c.in-Ok.number in
    let same : number ≡ number - 1 + 1 = omega (arith, c.in-Ok.ensures.range.0) in
    subst (λ n. StoodNext g.F.Feed.feeding g.F.Feed.device c.args.r.now c.get_gamma.new.r c.args.dev.now (gamma n)) same
    (record { bits_are = from_code _ c.args.r.now.place _ (gamma number) c.in-Ok.ensures.told; behind = c.in-Ok.ensures.place })
