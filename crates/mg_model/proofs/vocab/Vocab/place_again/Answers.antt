use Rattle.std.proofs.Common.{◌∙◌, ap, position, arith}
use Rattle.std.specs.Str.{bytes_eq}
use Rattle.mg_model.specs.Vocabularies.{pieces_of}
use Rattle.mg_model.proofs.Counting.{place-keys}
use Rattle.mg_model.proofs.Keys.{short-is}
use Rattle.mg_model.proofs.vocab.Vocab.place_again.Goals as goal

pub returns-then-len-le-SHORT-clause-place : goal.returns-then-len-le-SHORT-clause-place
returns-then-len-le-SHORT-clause-place c =
    let longer = c.self.inside.longer.keys in
    let is = short-is longer c.of.result.entry c.args.piece.now (omega (arith, c.len.ensures, c.if-len-le-SHORT.true)) c.of.ensures in
    c.place_near.ensures ∙ place-keys longer c.of.result c.args.piece.now c.self.inside.counts.entries is c.self.invariant.keys
    ∙ ap (λ es. position (bytes_eq c.args.piece.now) (pieces_of es)) c.self.view_is
