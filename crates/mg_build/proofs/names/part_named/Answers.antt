use Rattle.std.proofs.Common.{subst}
use Rattle.std.proofs.lemmas.Bool.Decides.{Decides-eqb}
use Rattle.std.proofs.lemmas.Slice.Eq.{strip_prefix_is}
use Rattle.mg_build.proofs.NameLaws.{Splits, apart_before, apart_behind, one_part, part_behind}
use Rattle.mg_build.proofs.names.part_named.Goals as goal

pub returns-in-Some-clause-part : goal.returns-in-Some-clause-part
returns-in-Some-clause-part c = part_behind c.args.name.now c.args.base.now c.strip_prefix.result c.in-Some.end c.part_ending_in.result
    (subst (λ name. Splits name c.args.base.now c.strip_prefix.result) c.as_bytes.ensures.value (subst (λ base. Splits c.as_bytes.result.now base c.strip_prefix.result) c.as_bytes-2.ensures.value
    (strip_prefix_is Decides-eqb c.as_bytes.result.now c.as_bytes-2.result.now c.strip_prefix.result c.strip_prefix.ensures.cases))) c.in-Some.is c.part_ending_in.ensures.part

pub returns-in-Some-clause-apart : goal.returns-in-Some-clause-apart
returns-in-Some-clause-apart c = λ none. apart_behind c.args.name.now c.args.base.now c.strip_prefix.result c.in-Some.end
    (subst (λ name. Splits name c.args.base.now c.strip_prefix.result) c.as_bytes.ensures.value (subst (λ base. Splits c.as_bytes.result.now base c.strip_prefix.result) c.as_bytes-2.ensures.value
    (strip_prefix_is Decides-eqb c.as_bytes.result.now c.as_bytes-2.result.now c.strip_prefix.result c.strip_prefix.ensures.cases))) c.in-Some.is (c.part_ending_in.ensures.none none)

pub returns-in-None-clause-apart : goal.returns-in-None-clause-apart
returns-in-None-clause-apart c = λ none. apart_before c.args.name.now c.args.base.now c.strip_prefix.result
    (subst (λ name. Splits name c.args.base.now c.strip_prefix.result) c.as_bytes.ensures.value
    (subst (λ base. Splits c.as_bytes.result.now base c.strip_prefix.result) c.as_bytes-2.ensures.value
    (strip_prefix_is Decides-eqb c.as_bytes.result.now c.as_bytes-2.result.now c.strip_prefix.result c.strip_prefix.ensures.cases))) c.in-None.is

pub returns-in-Some-clause-one : goal.returns-in-Some-clause-one
returns-in-Some-clause-one c = one_part c.args.name.now c.args.base.now c.part_ending_in.result c.names_apart.ensures.parts
    (part_behind c.args.name.now c.args.base.now c.strip_prefix.result c.in-Some.end c.part_ending_in.result
    (subst (λ name. Splits name c.args.base.now c.strip_prefix.result) c.as_bytes.ensures.value (subst (λ base. Splits c.as_bytes.result.now base c.strip_prefix.result) c.as_bytes-2.ensures.value
    (strip_prefix_is Decides-eqb c.as_bytes.result.now c.as_bytes-2.result.now c.strip_prefix.result c.strip_prefix.ensures.cases))) c.in-Some.is c.part_ending_in.ensures.part)
