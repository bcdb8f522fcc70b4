use Rattle.std.proofs.Common.{◌∙◌, ap, position}
use Rattle.std.specs.Str.{bytes_eq}
use Rattle.mg_model.specs.Vocabularies.{pieces_of}
use Rattle.mg_model.proofs.Counting.{place-keys, place-none}
use Rattle.mg_model.proofs.vocab.Vocab.place_by_key.Goals as goal

pub returns-in-Some : goal.returns-in-Some
returns-in-Some c =
    c.place_in.ensures ∙ place-keys c.self.inside.longer.keys c.in-Some.key c.args.piece.now c.self.inside.counts.entries c.in-Some.ensures.key c.self.invariant.keys
    ∙ ap (λ es. position (bytes_eq c.args.piece.now) (pieces_of es)) c.self.view_is

pub returns-in-None : goal.returns-in-None
returns-in-None c =
    place-none c.self.inside.longer.keys c.args.piece.now c.self.inside.counts.entries c.in-None.ensures.none c.self.invariant.keys
    ∙ ap (λ es. position (bytes_eq c.args.piece.now) (pieces_of es)) c.self.view_is
