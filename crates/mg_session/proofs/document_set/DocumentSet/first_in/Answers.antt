use Rattle.std.proofs.Common.{arith, rules, ◌≡◌, ◌+◌, ◌*◌, ◌^◌, ◌<◌, get_or, refl, subst, w64}
use Rattle.std.specs.Int.{trailing_zeros}
use Rattle.std.proofs.lemmas.List.{get_or_read}
use Rattle.mg_session.specs.DocumentSets.{DocumentMarks, IsNextBehind}
use Rattle.mg_session.proofs.MarkLaws.{first_in_word, none_to_word}
use Rattle.mg_session.proofs.document_set.DocumentSet.first_in.Goals as goal

pub overflow_cast-result : goal.overflow_cast-result
overflow_cast-result c = record { fits = omega (arith, c.self.invariant.room, c.self.invariant.small, c.self.inside.words.ok.0, c.len-index-end.ensures) }

pub overflow_mul-result : goal.overflow_mul-result
overflow_mul-result c = record { fits = omega (arith, c.self.invariant.room, c.self.invariant.small, c.self.inside.words.ok.0, c.len-index-end.ensures) }

pub overflow_add-result : goal.overflow_add-result
overflow_add-result c =
    let words = c.self.inside.words.items in
    let word = c.index-word.result.now in
    let read : word ≡ get_or words c.loop-index.index 0 = get_or_read words c.loop-index.index _ (omega (arith, c.self.inside.words.ok.0, c.len-index-end.ensures)) c.index-word.ensures 0 in
    let small : word < 2 ^ 64 = search rules in
    let next = first_in_word c.self.inside.all words c.args.start c.loop-index.index word _ c.self.invariant read small (omega arith) c.loop-index.auto.index c.loop-index.invariant refl in
    record { fits = omega (arith, next.within, c.self.invariant.small) }

pub overflow_add-result-then-word-ne0 : goal.overflow_add-result-then-word-ne0
overflow_add-result-then-word-ne0 c =
    let words = c.self.inside.words.items in
    let word = c.index-word.result.now in
    let read : word ≡ get_or words c.loop-index.index 0 = get_or_read words c.loop-index.index _ (omega (arith, c.self.inside.words.ok.0, c.len-index-end.ensures)) c.index-word.ensures 0 in
    let small : word < 2 ^ 64 = search rules in
    let next = first_in_word c.self.inside.all words c.args.start c.loop-index.index word _ c.self.invariant read small (omega arith) c.loop-index.auto.index c.loop-index.invariant refl in
    record { fits = omega (arith, next.within, c.self.invariant.small) }

pub returns-then-word-ne0 : goal.returns-then-word-ne0
returns-then-word-ne0 c =
    let words = c.self.inside.words.items in
    let word = c.index-word.result.now in
    let read : word ≡ get_or words c.loop-index.index 0 = get_or_read words c.loop-index.index _ (omega (arith, c.self.inside.words.ok.0, c.len-index-end.ensures)) c.index-word.ensures 0 in
    let small : word < 2 ^ 64 = search rules in
    let doc = 64 * c.loop-index.index + trailing_zeros w64 word + 1 in
    subst (λ (m : DocumentMarks). IsNextBehind (64 * c.args.start) m doc) c.self.view_is
    (first_in_word c.self.inside.all words c.args.start c.loop-index.index word doc c.self.invariant read small (omega arith) c.loop-index.auto.index c.loop-index.invariant refl)

pub loop-index-preserved : goal.loop-index-preserved
loop-index-preserved c =
    let words = c.self.inside.words.items in
    let word = c.index-word.result.now in
    let read : word ≡ get_or words c.loop-index.index 0 = get_or_read words c.loop-index.index _ (omega (arith, c.self.inside.words.ok.0, c.len-index-end.ensures)) c.index-word.ensures 0 in
    none_to_word words c.args.start c.loop-index.index word read (omega arith) c.loop-index.invariant
