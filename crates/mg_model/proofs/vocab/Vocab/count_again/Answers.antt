use Rattle.std.proofs.Common.{◌≡◌, ◌+◌, ◌∙◌, position, Some, sym, ap, refl, arith}
use Rattle.std.specs.Str.{bytes_eq}
use Rattle.indexmap.specs.IndexMap.{set_value_at}
use Rattle.mg_defs.specs.Vocabulary.{total}
use Rattle.mg_model.specs.Vocabularies.{counted_times, entries_of, pieces_of}
use Rattle.mg_model.proofs.Counting.{count-fits, counted-again}
use Rattle.mg_model.proofs.vocab.Vocab.count_again.Goals as goal

pub overflow_add-count : goal.overflow_add-count
overflow_add-count c =
    omega (
      arith,
      count-fits c.self.inside.longer.keys c.self.inside.counts.entries c.args.place c.in-Some.count.now (sym c.in-Some.ensures.value),
      ap total c.self.view_is,
      c.requires.total,
    )

pub invariant_of-self-2 : goal.invariant_of-self-2
invariant_of-self-2 c =
    let longer = c.self.inside.longer.keys in
    let es = c.self.inside.counts.entries in
    let piece = c.args._piece.now in
    let first : position (bytes_eq piece) (pieces_of (entries_of longer es)) ≡ Some c.args.place = ap (λ x. position (bytes_eq piece) (pieces_of x)) c.self.view_is ∙ c.requires.place in
    (counted-again longer piece c.args.times es (set_value_at es c.args.place (c.in-Some.count.now + c.args.times)) c.args.place c.in-Some.count.now c.self.invariant c.requires.some
    (omega (arith, ap total c.self.view_is, c.requires.total)) c.requires.short first c.in-Some.ensures.value refl).kept

pub returns : goal.returns
returns c =
    let longer = c.self.inside.longer.keys in
    let es = c.self.inside.counts.entries in
    let piece = c.args._piece.now in
    let first : position (bytes_eq piece) (pieces_of (entries_of longer es)) ≡ Some c.args.place = ap (λ x. position (bytes_eq piece) (pieces_of x)) c.self.view_is ∙ c.requires.place in
    (counted-again longer piece c.args.times es (set_value_at es c.args.place (c.in-Some.count.now + c.args.times)) c.args.place c.in-Some.count.now c.self.invariant c.requires.some
    (omega (arith, ap total c.self.view_is, c.requires.total)) c.requires.short first c.in-Some.ensures.value refl).entries ∙ ap (counted_times piece c.args.times) c.self.view_is
