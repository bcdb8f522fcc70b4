-- Lists, lexicon and weights of a collection as they stand, and from what they are written.
use Rattle.std.specs.Prelude.{◌≡◌, ◌<◌, ◌^◌, ℕ, List, [], length, IfOk, OnOk, Some}
use Rattle.std.specs.Option.{IsSome}
use Rattle.std.specs.declared.option.Option.{Option}
use Rattle.std.specs.declared.result.Result.{Result}
use Rattle.mg_dev.specs.declared.part.Part.{Part as AnyPart}
use Rattle.mg_dev.specs.declared.part.Part.TheVariants.{Lex, LexAt, MergeA, MergeB, Post, Skip, Weights}
use Rattle.mg_dev.specs.Files.{Files, bytes_at, file_at}
use Rattle.mg_dev.specs.Names.{full_name}
use Rattle.mg_defs.specs.Bits.{as_bytes}
use Rattle.mg_defs.specs.Lexicon.{lex_at_part, lex_part}
use Rattle.mg_defs.specs.Lists.{skip_bits}
use Rattle.mg_defs.specs.Occurrences.{occurrences}
use Rattle.mg_defs.specs.Postings.{term_postings}
use Rattle.mg_defs.specs.Stands.{post_part, skip_count, weights_part}
use Rattle.mg_runs.specs.Left.{IsMerging, Merging}
use Rattle.mg_count.specs.DocCounting.{AreDocCounts, DocCounting}
use Rattle.mg_count.specs.Plans.{IsPlanOf, Plan}
use Rattle.mg_make.specs.declared.inverter.Inverted.{Inverted}
use Rattle.mg_index.specs.Written.{OfWeights}
use Rattle.mg_index.specs.declared.lists.Sizes.{Sizes}

-- The store tells its files, plan and counts are those of a collection, and the merge has the postings of all its occurrences left.
pub record IsInverted (p : Plan) (counts : DocCounting) (collection : List ℕ) (merge : Merging) (files : Option Files) :
    Type 0 where
  pub told : IsSome files
  pub plan_is : IsPlanOf p collection
  pub few : length collection < 2 ^ 32
  pub counts_are : AreDocCounts counts (length p.terms.terms) (occurrences collection)
  pub merging : IsMerging merge files (term_postings (occurrences collection))

-- the parts of lists, lexicon and weights are those of a collection, and the working parts are there and empty
pub record IndexStands (files : Option Files) (base collection : List ℕ) : Type 0 where
  pub post : bytes_at files (full_name base Post) ≡ post_part collection
  pub skip : bytes_at files (full_name base Skip) ≡ as_bytes (skip_bits collection)
  pub lex : bytes_at files (full_name base Lex) ≡ lex_part collection
  pub lex_at : bytes_at files (full_name base LexAt) ≡ lex_at_part collection
  pub weights : bytes_at files (full_name base Weights) ≡ weights_part collection
  pub merge_a : file_at files (full_name base MergeA) ≡ Some []
  pub merge_b : file_at files (full_name base MergeB) ≡ Some []

-- the parts of lists, of the lexicon and of weights, and the working parts
abbrev pub OfIndex : AnyPart → Type 0
OfIndex Lex = Unit {0}
OfIndex LexAt = Unit {0}
OfIndex Post = Unit {0}
OfIndex Skip = Unit {0}
OfIndex p = OfWeights p

-- what was inverted by a plan is of a collection
abbrev pub InvertedBy : Plan → Inverted → Option Files → List ℕ → Type 0
InvertedBy p inverted files collection = IsInverted p inverted.counts collection inverted.merge files

-- lists, lexicon and weights are those of a collection
abbrev pub WroteIndex : {T E : Type 0} → Option Files → List ℕ → Result T E → List ℕ → Type 0
WroteIndex files base result collection = OnOk result (IndexStands files base collection)

-- Post has as many bytes as it has where it is that of a collection
abbrev pub HasPostPart : {E : Type 0} → Result Sizes E → List ℕ → Type 0
HasPostPart result collection = IfOk result (λ (sizes : Sizes). sizes.post_bytes ≡ length (post_part collection))

-- there are as many skip entries as in the part of a collection
abbrev pub HasSkipPart : {E : Type 0} → Result Sizes E → List ℕ → Type 0
HasSkipPart result collection = IfOk result (λ (sizes : Sizes). sizes.skip_count ≡ skip_count collection)
