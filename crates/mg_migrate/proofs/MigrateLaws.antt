-- The parts of a set that is made anew.
use Rattle.std.proofs.Common.{arith, ◌≡◌, ◌≢◌, ◌≤◌, ◌<◌, ◌+◌, ◌/◌, ◌∙◌, ◌⊎◌, inl, inr, min, ℕ, zero, suc, List, [], refl, sym, ap, subst, IsSome, Option}
use Rattle.std.specs.Option.{is_some, unwrap_or}
use Rattle.std.proofs.lemmas.Bool.{cases_lt}
use Rattle.mg_dev.specs.Files.{Files, bytes_at, file_at}
use Rattle.mg_dev.specs.Laws.{same_part_of_name}
use Rattle.mg_dev.specs.Names.{full_name, number}
use Rattle.mg_dev.specs.declared.part.Part.{Part}
use Rattle.mg_dev.specs.declared.part.Part.TheVariants.{Head, Lex, LexAt, MergeA, MergeB, Nonwords, Places, Plain, Post, Run, Skip, Text, Weights, Words}
use Rattle.mg_defs.specs.CodedText.{TextCode, places_part}
use Rattle.mg_defs.specs.WithinLimits.{IsWithinLimits}
use Rattle.mg_defs.specs.Stands.{AreParts, Parts}
use Rattle.mg_layout.specs.Stands.{SameSet, StandsBy, parts_at}
use Rattle.mg_layout.specs.declared.head.Head as layout
use Rattle.mg_make.specs.Putting.{LacksOnlyHead, OthersSame}
use Rattle.mg_migrate.specs.Copying.{ChangedAlone}
use Rattle.mg_defs.specs.Heads as defs
use Rattle.mg_migrate.specs.Migrating.{AreCopied, AreEmptied, IsCopied, IsMadeAnew, LacksHead, copied_part}

-- ---- which parts are copied

place : (k : ℕ) → k < 9 → number (copied_part k) ≡ k + 1 + min 1 (k / 3)
place zero h = refl
place (suc zero) h = refl
place (suc (suc zero)) h = refl
place (suc (suc (suc zero))) h = refl
place (suc (suc (suc (suc zero)))) h = refl
place (suc (suc (suc (suc (suc zero))))) h = refl
place (suc (suc (suc (suc (suc (suc zero)))))) h = refl
place (suc (suc (suc (suc (suc (suc (suc zero))))))) h = refl
place (suc (suc (suc (suc (suc (suc (suc (suc zero)))))))) h = refl
place (suc (suc (suc (suc (suc (suc (suc (suc (suc k))))))))) h = absurd (omega (arith, h))

-- none is one of the others, or no part of a set
pub not_anew : (k : ℕ) (p : Part) → k < 9 → IsMadeAnew p → p ≢ copied_part k
not_anew k Head within is same = omega (arith, place k within, ap number same)
not_anew k Places within is same = omega (arith, place k within, ap number same)
not_anew k MergeA within is same = omega (arith, place k within, ap number same)
not_anew k MergeB within is same = omega (arith, place k within, ap number same)
not_anew k Words within is same = is
not_anew k Nonwords within is same = is
not_anew k Text within is same = is
not_anew k Lex within is same = is
not_anew k LexAt within is same = is
not_anew k Post within is same = is
not_anew k Skip within is same = is
not_anew k Weights within is same = is
not_anew k Run within is same = is
not_anew k Plain within is same = is

pub own_part : (k : ℕ) → k < 9 → copied_part k ≢ Plain
own_part k within same = omega (arith, place k within, ap number same)

-- no two are the same
pub apart_parts : (j k : ℕ) → j < k → k < 9 → copied_part j ≢ copied_part k
apart_parts j k less within same = omega (arith, less, place j (omega (arith, less, within)), place k within, ap number same)

-- ---- what stays

-- the other files of a set that is written in one part
pub others_of_part : (new : List ℕ) (p : Part) (before loop now : Option Files) → p ≢ Plain → OthersSame new before loop → ChangedAlone (full_name new p) loop now → OthersSame new before now
others_of_part new p before loop now own one two = record {
  told = two.told ∙ one.told;
  others = λ name apart. two.others name (apart p own) ∙ one.others name apart;
}

-- another part of the set
pub part_stays : (new : List ℕ) (p q : Part) (before now : Option Files) → q ≢ p → ChangedAlone (full_name new p) before now → file_at now (full_name new q) ≡ file_at before (full_name new q)
part_stays new p q before now apart alone = alone.others (full_name new q) (λ same. apart (same_part_of_name new q p same))

-- a part of another base
pub old_stays : (name new : List ℕ) (p : Part) (before now : Option Files) →
    ((a b : List ℕ) (p q : Part) → p ≢ Plain → q ≢ Plain → full_name a p ≡ full_name b q → (a ≡ b) × (p ≡ q)) → new ≢ name → p ≢ Plain →
    OthersSame new before now
    → file_at now (full_name name p) ≡ file_at before (full_name name p)
old_stays name new p before now names apart own same = same.others (full_name name p) (λ q set e. apart (sym (names name new p q own set e).0))

-- one part more is copied
pub copied_one_more : (name new : List ℕ) (before loop now : Option Files) (index : ℕ) → index < 9 →
    ((a b : List ℕ) (p q : Part) → p ≢ Plain → q ≢ Plain → full_name a p ≡ full_name b q → (a ≡ b) × (p ≡ q)) → new ≢ name
    → OthersSame new before loop → ChangedAlone (full_name new (copied_part index)) loop now → IsCopied name new loop now (copied_part index)
    → ((k : ℕ) → k < index → IsCopied name new before loop (copied_part k)) → (k : ℕ) → k < index + 1 → IsCopied name new before now (copied_part k)
copied_one_more name new before loop now index within names apart same alone here so_far k less = elim (cases_lt k index) [
  | inl early ↦ bytes loop now (full_name new (copied_part k)) (part_stays new (copied_part index) (copied_part k) loop now (apart_parts k index early within) alone) ∙ so_far k early
  | inr late ↦ let e : index ≡ k = omega (arith, late, less) in
      subst (λ j. IsCopied name new before now (copied_part j)) e
      (here ∙ bytes before loop (full_name name (copied_part index))
      (old_stays name new (copied_part index) before loop names apart (own_part index within) same))
]
  where
    bytes : (f g : Option Files) (n : List ℕ) → file_at g n ≡ file_at f n → bytes_at g n ≡ bytes_at f n
    bytes f g n e = ap (λ (file : Option (List ℕ)). unwrap_or file []) e

-- ---- the set under the other base

own_of_set : (p : Part) → number p ≤ 10 → p ≢ Plain
own_of_set p few same = omega (arith, few, ap number same)

pub same_set : (name new : List ℕ) (before now : Option Files) →
    ((a b : List ℕ) (p q : Part) → p ≢ Plain → q ≢ Plain → full_name a p ≡ full_name b q → (a ≡ b) × (p ≡ q)) → new ≢ name → OthersSame new before now →
    SameSet name before now
same_set name new before now names apart same = record {
  told = same.told;
  each = λ p few. old_stays name new p before now names apart (own_of_set p few) same;
}

pub stands_too : (head : layout.Head) (code : TextCode) (name collection : List ℕ) (before now : Option Files) → is_some now ≡ is_some before →
    parts_at now name ≡ parts_at before name → StandsBy head code before name collection → StandsBy head code now name collection
stands_too head code name collection before now told same stands = record {
  told = told ∙ stands.told;
  head_is = stands.head_is;
  are = subst (λ (parts : Parts). AreParts head.version head.cap code parts collection) (sym same) stands.are;
}

-- ---- limits

pub wider_limits : (version : ℕ) (collection : List ℕ) → (version ≡ 1) ⊎ (version ≡ 2) → IsWithinLimits version collection → IsWithinLimits 2 collection
wider_limits version collection (inl is) within =
    let narrow : IsWithinLimits 1 collection = subst (λ v. IsWithinLimits v collection) is within in
    record {
      bytes = omega (arith, narrow.bytes);
      documents = omega (arith, narrow.documents);
      words = omega (arith, narrow.words);
      others = omega (arith, narrow.others);
    }
wider_limits version collection (inr is) within = subst (λ v. IsWithinLimits v collection) is within

-- ---- all parts but the head

module _ (name new : List ℕ) (head : layout.Head) (code : TextCode) (collection : List ℕ) (emptied placed now : Option Files)
    (stands : StandsBy head code placed name collection) (told : IsSome now) (empty : AreEmptied emptied new)
    (alone : ChangedAlone (full_name new Places) emptied placed) (places_are : bytes_at placed (full_name new Places) ≡ places_part 2 code collection) (copied : AreCopied name new placed now)
    (kept : (p : Part) → IsMadeAnew p → file_at now (full_name new p) ≡ file_at placed (full_name new p)) where
  still : (p : Part) → IsMadeAnew p → p ≢ Places → file_at now (full_name new p) ≡ file_at emptied (full_name new p)
  still p is apart = kept p is ∙ part_stays new Places p emptied placed apart alone

  pub parts_ready : LacksOnlyHead new collection head.cap code now
  parts_ready = record {
    told = told;
    ready = record {
      limits = wider_limits head.version collection stands.are.version_is stands.are.limits;
      code_is = stands.are.code_is;
      words = copied.words ∙ stands.are.words;
      nonwords = copied.nonwords ∙ stands.are.nonwords;
      text = copied.text ∙ stands.are.text;
      places = ap (λ (file : Option (List ℕ)). unwrap_or file []) (kept Places tt) ∙ places_are;
      run = copied.run ∙ stands.are.run;
      index = record {
        post = copied.post ∙ stands.are.post;
        skip = copied.skip ∙ stands.are.skip;
        lex = copied.lex ∙ stands.are.lex;
        lex_at = copied.lex_at ∙ stands.are.lex_at;
        weights = copied.weights ∙ stands.are.weights;
        merge_a = still MergeA tt (λ same. omega (arith, ap number same)) ∙ empty.merge_a;
        merge_b = still MergeB tt (λ same. omega (arith, ap number same)) ∙ empty.merge_b;
      };
    };
    gone = still Head tt (λ same. omega (arith, ap number same)) ∙ empty.head;
    low = stands.are.cap_low;
    high = stands.are.cap_high;
  }

-- ---- what is taken over, whatever it means

-- what is copied as it is now was so before
module _ (name new : List ℕ) (before middle now : Option Files) (names : (a b : List ℕ) (p q : Part) → p ≢ Plain → q ≢ Plain → full_name a p ≡ full_name b q →
    (a ≡ b) × (p ≡ q)) (apart : new ≢ name) (others : OthersSame new before middle) where
  pub copied_then : (p : Part) → p ≢ Plain → IsCopied name new middle now p → IsCopied name new before now p
  copied_then p own is = is ∙ ap (λ (file : Option (List ℕ)). unwrap_or file []) (old_stays name new p before middle names apart own others)

  pub all_copied_then : AreCopied name new middle now → AreCopied name new before now
  all_copied_then are = record {
    words = copied_then Words (λ same. omega (arith, ap number same)) are.words;
    nonwords = copied_then Nonwords (λ same. omega (arith, ap number same)) are.nonwords;
    text = copied_then Text (λ same. omega (arith, ap number same)) are.text;
    lex = copied_then Lex (λ same. omega (arith, ap number same)) are.lex;
    lex_at = copied_then LexAt (λ same. omega (arith, ap number same)) are.lex_at;
    post = copied_then Post (λ same. omega (arith, ap number same)) are.post;
    skip = copied_then Skip (λ same. omega (arith, ap number same)) are.skip;
    weights = copied_then Weights (λ same. omega (arith, ap number same)) are.weights;
    run = copied_then Run (λ same. omega (arith, ap number same)) are.run;
  }

-- the places are made behind the emptied head, and the copies behind them
module _ (head : defs.Head) (name new : List ℕ) (before emptied placed now : Option Files)
    (names : (a b : List ℕ) (p q : Part) → p ≢ Plain → q ≢ Plain → full_name a p ≡ full_name b q → (a ≡ b) × (p ≡ q)) (apart : new ≢ name)
    (others : OthersSame new before emptied) (alone : ChangedAlone (full_name new Places) emptied placed)
    (kept : (p : Part) → IsMadeAnew p → file_at now (full_name new p) ≡ file_at placed (full_name new p)) where
  pub lacks_head : AreEmptied emptied new → (head.version ≡ 2 → IsCopied name new emptied placed Places) → AreCopied name new placed now → LacksHead head name new before now
  lacks_head empty places copied = record {
    gone = kept Head tt ∙ part_stays new Places Head emptied placed (λ same. omega (arith, ap number same)) alone ∙ empty.head;
    copied = all_copied_then name new before placed now names apart (others_of_part new Places before emptied placed (λ same. omega (arith, ap number same)) others alone) copied;
    places = λ is. ap (λ (file : Option (List ℕ)). unwrap_or file []) (kept Places tt) ∙ copied_then name new before emptied placed names apart others Places
        (λ same. omega (arith, ap number same)) (places is);
  }

-- ---- where there is no head yet
