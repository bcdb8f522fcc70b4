-- The index of a collection: the rooms of its lists, and where its parts begin and end.
use Rattle.std.proofs.Common.{arith, ◌≡◌, ◌≤◌, ◌+◌, ◌-◌, ℕ, List, [], length, take, refl, sym, ap, subst, ◌∙◌, Ok, Err}
use Rattle.std.specs.Prelude.{IfErr, slice_index}
use Rattle.std.specs.declared.option.Option.{Option}
use Rattle.std.specs.declared.result.Result.{Result}
use Rattle.std.specs.List.{flat_map}
use Rattle.std.proofs.lemmas.List.{take_all}
use Rattle.mg_dev.specs.declared.part.Part.TheVariants.{Post, Skip}
use Rattle.mg_dev.specs.Files.{Files, bytes_at}
use Rattle.mg_dev.specs.Names.{full_name}
use Rattle.mg_defs.specs.Bits.{as_bytes}
use Rattle.mg_defs.specs.Lists.{entry_bits, inverted, lists_bits, lists_entries}
use Rattle.mg_defs.specs.Split.{documents}
use Rattle.mg_defs.specs.Terms.{dictionary}
use Rattle.mg_laws.proofs.TermLaws.{lists_long}
use Rattle.mg_lex.proofs.CallerLemmas.{terms_long}
use Rattle.mg_lex.specs.Terms.{terms_of}
use Rattle.mg_lex.specs.Writing.{LexWriting, TookTerms}
use Rattle.mg_check_index.specs.InPair.{pair_files}
use Rattle.mg_check_index.specs.declared.indexed.Indexed.{Indexed}
use Rattle.mg_check_index.specs.declared.lists.Compared.{Compared}
use Rattle.mg_check_index.specs.declared.lists.Places.{Places}
use Rattle.mg_check_index.specs.Listing.{AreRooms, AreSizes, BeginsAt, CanCompareIn, ComparedIn, HasCompared, HasRooms, IsStart}
use Rattle.mg_check_index.specs.Listing.{LexiconStands, ListsAgree, ListsStand, Ranged, SameRooms, post_upto, skip_upto}

-- ---- rooms

pub rooms_of : (w : Ranged) (sizes : List ℕ) (first end terms all : ℕ) → HasRooms w sizes first end → AreSizes sizes terms all → end ≤ length sizes → AreRooms w all
rooms_of w sizes first end terms all has are within = record {
  some = λ k lt. omega (arith, has.rooms k lt, are.some (first + k) (omega (arith, lt, has.count, within)));
  within = λ k lt. omega (arith, has.rooms k lt, are.within (first + k) (omega (arith, lt, has.count, within)));
}

pub rooms_stay : (w v : Ranged) (all : ℕ) → SameRooms w v → AreRooms w all → AreRooms v all
rooms_stay w v all same rooms = record {
  some = λ k lt. subst (λ xs. 1 ≤ slice_index xs (k + 1) - slice_index xs k) (sym same.starts) (rooms.some k (omega (arith, lt, same.count)));
  within = λ k lt. subst (λ xs. slice_index xs (k + 1) - slice_index xs k ≤ all) (sym same.starts) (rooms.within k (omega (arith, lt, same.count)));
}

-- ---- the beginning and the end

no_post : (collection : List ℕ) → post_upto 0 collection ≡ []
unfolding lists_bits as_bytes
no_post collection = refl

no_skip : (collection : List ℕ) → skip_upto 0 collection ≡ []
unfolding lists_entries as_bytes
no_skip collection = refl

begins_none : (bytes front : List ℕ) → front ≡ [] → BeginsAt bytes 0 front
begins_none bytes front none = record { place_is = sym (ap (λ (b : List ℕ). length b) none); bytes_are = sym none }

pub compared_none : (files : Option Files) (base collection : List ℕ) (lex : LexWriting) (lex_files : Option Files) → TookTerms lex lex_files [] →
    HasCompared files base collection 0 (record { post = 0; skip = 0 }) lex lex_files
compared_none files base collection lex lex_files took = record {
  lists = record {
    post_is = begins_none (bytes_at files (full_name base Post)) (post_upto 0 collection) (no_post collection);
    skip_is = begins_none (bytes_at files (full_name base Skip)) (skip_upto 0 collection) (no_skip collection);
  };
  terms = took;
}

all_lists : (collection : List ℕ) → take (length (dictionary collection)) (inverted collection) ≡ inverted collection
all_lists collection = take_all (length (dictionary collection)) (inverted collection) (omega (arith, lists_long collection))

post_all : (collection : List ℕ) → post_upto (length (dictionary collection)) collection ≡ as_bytes (lists_bits (length (documents collection)) (inverted collection))
post_all collection = ap (λ ls. as_bytes (lists_bits (length (documents collection)) ls)) (all_lists collection)

skip_all : (collection : List ℕ) → skip_upto (length (dictionary collection)) collection ≡ as_bytes (flat_map entry_bits (lists_entries (length (documents collection)) (inverted collection)))
skip_all collection = ap (λ ls. as_bytes (flat_map entry_bits (lists_entries (length (documents collection)) ls))) (all_lists collection)

whole_is : (bytes front : List ℕ) (place : ℕ) → BeginsAt bytes place front → length bytes ≡ place → bytes ≡ front
whole_is bytes front place begins long = sym (take_all place bytes (omega (arith, long))) ∙ begins.bytes_are

pub post_ends : (files : Option Files) (base collection : List ℕ) (ends : Places) → ListsAgree files base collection (length (dictionary collection)) ends →
    ListsStand files base collection → length (bytes_at files (full_name base Post)) ≡ ends.post
post_ends files base collection ends agree stand = ap (λ (b : List ℕ). length b) (stand.post ∙ sym (post_all collection)) ∙ sym agree.post_is.place_is

pub skip_ends : (files : Option Files) (base collection : List ℕ) (ends : Places) → ListsAgree files base collection (length (dictionary collection)) ends →
    ListsStand files base collection → length (bytes_at files (full_name base Skip)) ≡ ends.skip
skip_ends files base collection ends agree stand = ap (λ (b : List ℕ). length b) (stand.skip ∙ sym (skip_all collection)) ∙ sym agree.skip_is.place_is

pub lists_stand : (files : Option Files) (base collection : List ℕ) (ends : Places) → ListsAgree files base collection (length (dictionary collection)) ends →
    length (bytes_at files (full_name base Post)) ≡ ends.post → length (bytes_at files (full_name base Skip)) ≡ ends.skip →
    ListsStand files base collection
lists_stand files base collection ends agree post skip = record {
  post = whole_is (bytes_at files (full_name base Post)) (post_upto (length (dictionary collection)) collection) ends.post agree.post_is post ∙ post_all collection;
  skip = whole_is (bytes_at files (full_name base Skip)) (skip_upto (length (dictionary collection)) collection) ends.skip agree.skip_is skip ∙ skip_all collection;
}

-- ---- from range to range

pub can_on : (f g : Option Files) (of : Indexed) (m n : ℕ) (k : Compared) → g ≡ f → n ≡ m → CanCompareIn f of m k → CanCompareIn g of n k
can_on f g of m n k same is can = subst (λ h. CanCompareIn h of n k) (sym same) (subst (λ i. CanCompareIn f of i k) (sym is) can)

pub compared_on : (f g : Option Files) (of : Indexed) (collection : List ℕ) (m n : ℕ) (k : Compared) → g ≡ f → n ≡ m → ComparedIn f of collection m k → ComparedIn g of collection n k
compared_on f g of collection m n k same is has = subst (λ h. ComparedIn h of collection n k) (sym same) (subst (λ i. ComparedIn f of collection i k) (sym is) has)

pub start_on : {f g : Option Files} {base : List ℕ} {k : Compared} → g ≡ f → IsStart f base k → IsStart g base k
start_on {base = base} {k} same start = subst (λ h. IsStart h base k) (sym same) start

pub lists_stand_on : (f g : Option Files) (base collection : List ℕ) → g ≡ f → ListsStand f base collection → ListsStand g base collection
lists_stand_on f g base collection same stand = subst (λ h. ListsStand h base collection) (sym same) stand

-- ---- the whole index

pub took_all : (f g : Option Files) (of : Indexed) (collection : List ℕ) (n : ℕ) (k : Compared) → g ≡ f → n ≡ length (dictionary collection) → ComparedIn f of collection n k →
    TookTerms k.lexicon.writer (pair_files g k.lexicon.pair) (terms_of collection)
took_all f g of collection n k same all has =
    subst (λ h. TookTerms k.lexicon.writer (pair_files h k.lexicon.pair) (terms_of collection)) (sym same)
    (subst (λ ts. TookTerms k.lexicon.writer (pair_files f k.lexicon.pair) ts) (take_all n (terms_of collection) (omega (arith, all, terms_long collection))) has.has.terms)

pub lexicon_on : (f g : Option Files) (base collection : List ℕ) → g ≡ f → LexiconStands g base collection → LexiconStands f base collection
lexicon_on f g base collection same stand = subst (λ h. LexiconStands h base collection) same stand

pub if_err : {T E : Type 0} (P Q : E → Type 0) (r : Result T E) → ((e : E) → P e → Q e) → IfErr r P → IfErr r Q
if_err P Q (Ok value) f p = tt
if_err P Q (Err e) f p = f e p
