use Rattle.std.proofs.Common.{arith, ◌≡◌, ◌-◌, ◌/◌, ◌%◌, ℕ, ap, length, ◌∙◌}
use Rattle.mg_defs.specs.Answers.{Below}
use Rattle.mg_defs.specs.Canon.{codeword}
use Rattle.mg_defs.proofs.BitLaws.{length_digits}
use Rattle.mg_bits.proofs.CallerLemmas.{holds_inside, read_held, told_first, walk_whole}
use Rattle.mg_canon.proofs.canon.Canon.get_held.Goals as goal

pub returns-clause-read : goal.returns-clause-read
returns-clause-read g c = λ dev.
    let entry : ℕ = c.first_of-entry.result in
    let found = c.first_of-entry.ensures.found (omega arith) in
    let size : length (codeword c.args.self.now (entry / 64)) ≡ entry % 64 = ap length found.code ∙ length_digits (entry % 64) _ in
    rw (c.symbol_in.ensures, size, c.seek.ensures.feed)
    (read_held (g.F.Feed.feeding c.args.reader.now.feed) dev c.args.reader.now.place (entry % 64) found.some
    (holds_inside (g.F.Feed.feeding c.args.reader.now.feed) c.args.reader.now.place c.args.reader.now.place 57 (entry % 64)
    (g.met.F.Feed.whole_pages c.args.reader.now.feed).some (omega arith) found.some (omega (arith, found.small)) c.in-Some.ensures.held))

pub returns-clause-place : goal.returns-clause-place
returns-clause-place g c =
    let entry : ℕ = c.first_of-entry.result in
    let found = c.first_of-entry.ensures.found (omega arith) in
    let size : length (codeword c.args.self.now (entry / 64)) ≡ entry % 64 = ap length found.code ∙ length_digits (entry % 64) _ in
    rw c.symbol_in.ensures (omega (arith, size, c.seek.ensures.place, c.place.ensures, c.from.ensures, c.size_in-size.ensures.is))

pub returns-clause-told : goal.returns-clause-told
returns-clause-told g c = λ files fits.
    let entry : ℕ = c.first_of-entry.result in
    let found = c.first_of-entry.ensures.found (omega arith) in
    rw c.symbol_in.ensures
    (walk_whole _ c.args.reader.now.place 1 (Below (length c.args.self.now)) (codeword c.args.self.now) _ (entry / 64)
    (told_first ((g.F.Feed.feeding c.args.reader.now.feed).source files) c.args.reader.now.place 57 (entry % 64) (57 - entry % 64) c.in-Some.next
    (omega (arith, found.small)) (c.in-Some.ensures.told files fits))
    found.symbol found.code)
