use Rattle.std.proofs.Common.{arith, ◌≡◌, ℕ, List, ◌++◌, length, take, drop, ◌∙◌, ap}
use Rattle.std.proofs.lemmas.Grind.{common_steps}
use Rattle.mg_defs.specs.Numbers.{four, eight}
use Rattle.mg_defs.proofs.NumberLaws.{four_read, eight_read}
use Rattle.mg_layout.proofs.term_info.TermInfo.of_field.Goals as goal

whole : (bytes : List ℕ) → length bytes ≡ 16 → take 4 (drop 0 bytes) ++ take 8 (drop 4 bytes) ++ take 4 (drop 12 bytes) ≡ bytes
whole bytes long = grind (arith, common_steps)

pub returns-clause-field : goal.returns-clause-field
returns-clause-field c =
    let bytes = c.args.field.now in
    let docs : four c.four_at.result ≡ take 4 (drop 0 bytes) = ap four c.four_at.ensures ∙ four_read bytes 0 c.fits-field (omega (arith, c.told-field)) in
    let post : eight c.eight_at.result ≡ take 8 (drop 4 bytes) = ap eight c.eight_at.ensures ∙ eight_read bytes 4 c.fits-field (omega (arith, c.told-field)) in
    let skip : four c.four_at-2.result ≡ take 4 (drop 12 bytes) = ap four c.four_at-2.ensures ∙ four_read bytes 12 c.fits-field (omega (arith, c.told-field)) in
    rw (docs, post, skip) (whole bytes c.told-field)
