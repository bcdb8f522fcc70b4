use Rattle.std.proofs.Common.{arith, rules, ◌≡◌, ◌+◌, ◌/◌, ◌%◌, ◌^◌, ◌<◌, ◌∙◌, get_or, refl, ap, subst, w64}
use Rattle.std.specs.Int.{trailing_zeros}
use Rattle.std.proofs.lemmas.List.{get_or_read}
use Rattle.mg_session.specs.DocumentSets.{DocumentMarks, IsNextBehind}
use Rattle.mg_session.proofs.MarkLaws.{next_in_rest, none_in_rest}
use Rattle.mg_session.proofs.document_set.DocumentSet.next_behind.Goals as goal

pub returns-then-rest-eq0 : goal.returns-then-rest-eq0
returns-then-rest-eq0 c =
    let words = c.self.inside.words.items in
    let word = c.index-word.result.now in
    let read : word ≡ get_or words (c.args.last / 64) 0 = get_or_read words (c.args.last / 64) _ (omega (arith, c.self.inside.words.ok.0, c.len.ensures)) c.index-word.ensures 0 in
    none_in_rest c.args.last word c.args.self.now c.first_in.result (read ∙ ap (λ (m : DocumentMarks). get_or m.words (c.args.last / 64) 0) c.self.view_is) c.if-rest-eq0.true c.first_in.ensures

pub overflow_add-result : goal.overflow_add-result
overflow_add-result c =
    let words = c.self.inside.words.items in
    let word = c.index-word.result.now in
    let read : word ≡ get_or words (c.args.last / 64) 0 = get_or_read words (c.args.last / 64) _ (omega (arith, c.self.inside.words.ok.0, c.len.ensures)) c.index-word.ensures 0 in
    let small : word < 2 ^ 64 = search rules in
    let doc = c.args.last + trailing_zeros w64 (word / 2 ^ (c.args.last % 64)) + 1 in
    let next = next_in_rest c.self.inside.all words c.args.last word doc c.self.invariant read small (omega (arith, c.if-rest-eq0.false)) refl in
    record { fits = omega (arith, next.within, c.self.invariant.small) }

pub overflow_add-result-2 : goal.overflow_add-result-2
overflow_add-result-2 c =
    let words = c.self.inside.words.items in
    let word = c.index-word.result.now in
    let read : word ≡ get_or words (c.args.last / 64) 0 = get_or_read words (c.args.last / 64) _ (omega (arith, c.self.inside.words.ok.0, c.len.ensures)) c.index-word.ensures 0 in
    let small : word < 2 ^ 64 = search rules in
    let doc = c.args.last + trailing_zeros w64 (word / 2 ^ (c.args.last % 64)) + 1 in
    let next = next_in_rest c.self.inside.all words c.args.last word doc c.self.invariant read small (omega (arith, c.if-rest-eq0.false)) refl in
    record { fits = omega (arith, next.within, c.self.invariant.small) }

pub returns : goal.returns
returns c =
    let words = c.self.inside.words.items in
    let word = c.index-word.result.now in
    let read : word ≡ get_or words (c.args.last / 64) 0 = get_or_read words (c.args.last / 64) _ (omega (arith, c.self.inside.words.ok.0, c.len.ensures)) c.index-word.ensures 0 in
    let small : word < 2 ^ 64 = search rules in
    let doc = c.args.last + trailing_zeros w64 (word / 2 ^ (c.args.last % 64)) + 1 in
    subst (λ (m : DocumentMarks). IsNextBehind c.args.last m doc) c.self.view_is
    (next_in_rest c.self.inside.all words c.args.last word doc c.self.invariant read small (omega (arith, c.if-rest-eq0.false)) refl)
