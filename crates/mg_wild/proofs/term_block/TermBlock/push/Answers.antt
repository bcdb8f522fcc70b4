use Rattle.std.proofs.Common.{arith, ◌∙◌, ◌++◌, ◌∷◌, ◌+◌, ◌≡◌, ◌<◌, [], ap, length}
use Rattle.mg_defs.specs.Rotations.{most_rotations}
use Rattle.mg_wild.specs.Terms.{LexTerms, cut, total}
use Rattle.mg_wild.proofs.CutLaws.{block-push, cut-push, length-cut, total-cut}
use Rattle.mg_wild.proofs.term_block.TermBlock.push.Goals as goal

pub invariant_of-self-2 : goal.invariant_of-self-2
invariant_of-self-2 c =
    let ends = c.self.inside.ends.items in
    let bytes = c.self.inside.bytes.items in
    let term = c.string_in-string.result.now in
    let long : c.len.result ≡ length c.self.inside.bytes.items = omega (arith, c.len.ensures) in
    let few : length c.self.inside.bytes.items + length c.string_in-string.result.now + length c.self.inside.ends.items < most_rotations =
    omega (
      arith,
      c.requires,
      length-cut 0 ends bytes,
      total-cut 0 ends (length bytes) bytes c.self.invariant.ends_are (omega arith),
      ap (λ (v : LexTerms). total v.terms) c.self.view_is,
      ap (λ (v : LexTerms). length v.terms) c.self.view_is,
      ap length c.string_in-string.ensures.string,
    ) in
    let number : c.info_in.result.number ≡ length c.self.inside.ends.items = omega (arith, c.info_in.ensures.number, c.len-number.ensures, ap length c.in_ok-reserve.ensures.items) in
    block-push ends bytes c.self.inside.infos.items term c.push_reserved.new.self.items c.extend_from_slice.new.self.items c.info_in.result
    c.push_reserved-2.new.self.items c.self.invariant few c.string_in-string.ensures.short
    (record { number_is = number; fits = c.info_in.ensures.fits })
    (c.push_reserved.ensures.items ∙ ap (λ es. es ++ (c.len.result + length term) ∷ []) c.in_ok-reserve.ensures.items ∙ ap (λ n. ends ++ (n + length term) ∷ []) long)
    c.in_ok-extend_from_slice.ensures.items
    (c.push_reserved-2.ensures.items ∙ ap (λ xs. xs ++ c.info_in.result ∷ []) c.in_ok-reserve-2.ensures.items)

pub returns-clause-terms : goal.returns-clause-terms
returns-clause-terms c =
    let ends = c.self.inside.ends.items in
    let bytes = c.self.inside.bytes.items in
    let term = c.string_in-string.result.now in
    let long : c.len.result ≡ length c.self.inside.bytes.items = omega (arith, c.len.ensures) in
    let more = c.push_reserved.ensures.items ∙ ap (λ es. es ++ (c.len.result + length term) ∷ []) c.in_ok-reserve.ensures.items ∙ ap (λ n. ends ++ (n + length term) ∷ []) long in
    ap (λ e. cut 0 e c.extend_from_slice.new.self.items) more ∙ ap (cut 0 (ends ++ (length bytes + length term) ∷ [])) c.in_ok-extend_from_slice.ensures.items
    ∙ cut-push ends bytes term c.self.invariant.ends_are
    ∙ ap (λ (v : LexTerms). v.terms ++ term ∷ []) c.self.view_is ∙ ap (λ s. c.args.self.now.terms ++ s ∷ []) c.string_in-string.ensures.string

pub returns-clause-numbered : goal.returns-clause-numbered
returns-clause-numbered c =
    let ends = c.self.inside.ends.items in
    let bytes = c.self.inside.bytes.items in
    let term = c.string_in-string.result.now in
    let long : c.len.result ≡ length c.self.inside.bytes.items = omega (arith, c.len.ensures) in
    let few : length c.self.inside.bytes.items + length c.string_in-string.result.now + length c.self.inside.ends.items < most_rotations =
    omega (
      arith,
      c.requires,
      length-cut 0 ends bytes,
      total-cut 0 ends (length bytes) bytes c.self.invariant.ends_are (omega arith),
      ap (λ (v : LexTerms). total v.terms) c.self.view_is,
      ap (λ (v : LexTerms). length v.terms) c.self.view_is,
      ap length c.string_in-string.ensures.string,
    ) in
    let number : c.info_in.result.number ≡ length c.self.inside.ends.items = omega (arith, c.info_in.ensures.number, c.len-number.ensures, ap length c.in_ok-reserve.ensures.items) in
    let block = block-push ends bytes c.self.inside.infos.items term c.push_reserved.new.self.items c.extend_from_slice.new.self.items c.info_in.result
    c.push_reserved-2.new.self.items c.self.invariant few c.string_in-string.ensures.short
    (record { number_is = number; fits = c.info_in.ensures.fits })
    (c.push_reserved.ensures.items ∙ ap (λ es. es ++ (c.len.result + length term) ∷ []) c.in_ok-reserve.ensures.items ∙ ap (λ n. ends ++ (n + length term) ∷ []) long)
    c.in_ok-extend_from_slice.ensures.items
    (c.push_reserved-2.ensures.items ∙ ap (λ xs. xs ++ c.info_in.result ∷ []) c.in_ok-reserve-2.ensures.items) in
    block.numbered
