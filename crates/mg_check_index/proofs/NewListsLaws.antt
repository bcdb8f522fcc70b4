-- Lists that are compared as they are written.
use Rattle.std.proofs.Common.{◌≡◌, ◌+◌, ℕ, List, Ok, length, refl, sym, ap, subst, ◌∙◌, IsSome}
use Rattle.std.specs.List.{flat_map}
use Rattle.std.specs.declared.option.Option.{Option}
use Rattle.std.specs.declared.result.Result.{Result}
use Rattle.mg_dev.specs.Files.{Files, Reads, bytes_at}
use Rattle.mg_dev.specs.declared.part_err.PartErr.{PartErr}
use Rattle.mg_dev.specs.Names.{full_name}
use Rattle.mg_dev.specs.declared.part.Part.TheVariants.{Lex, LexAt}
use Rattle.mg_defs.specs.declared.Posting.{Posting}
use Rattle.mg_defs.specs.Bits.{as_bytes}
use Rattle.mg_defs.specs.Lists.{entry_bits, lists_bits, lists_entries}
use Rattle.mg_layout.specs.Contents.{StandAt}
use Rattle.mg_lex.specs.Terms.{Term}
use Rattle.mg_lex.specs.Writing.{LexWriting, TookTerms}
use Rattle.mg_post.specs.Writing.{InBytes, Listing, SameFiles, Took}
use Rattle.mg_check_index.specs.Anew.{FollowsPlaces, GoesToPair, HoldsWritten, IsNewLists, SameLexicon, WritesOn}
use Rattle.mg_check_index.specs.InPair.{SamePlaces, bytes_of, pair_files, set_name}
use Rattle.mg_check_index.specs.Listing.{AreBehind, CanList, CanPush, GoesToLexicon, HasListed, ListsFollow, RangeCompared, Ranged}
use Rattle.mg_check_index.specs.declared.lexicon.Lexicon.{Lexicon}
use Rattle.mg_check_index.specs.declared.indexed.Indexed.{Indexed}
use Rattle.mg_check_index.specs.declared.lists.Compared.{Compared}
use Rattle.mg_check_index.specs.declared.lists.Places.{Places}
use Rattle.mg_check_index.specs.declared.pair_store.WrittenPair.{WrittenPair}
use Rattle.mg_check_index.specs.declared.new_lists.NewLists.{NewLists}
use Rattle.mg_check_parts.proofs.CallerLemmas.{looks_none, looks_ok, looks_then}
use Rattle.mg_check_parts.specs.Looks.{LooksAtSet}
use Rattle.mg_check_index.proofs.WrittenLaws.{names_more, names_same}
use Rattle.mg_check_index.proofs.PairLaws.{bytes-one, bytes-other, part-stands, part-stood}

pub holds-written : (f g : Option Files) (p q : WrittenPair) (w : Listing) (done : List (List Posting)) → g ≡ f → SamePlaces p q → GoesToPair w p → IsSome f →
    InBytes w (pair_files g q) done → HoldsWritten f q w.all done
holds-written f g p q w done same places goes told written = record {
  post = sym (bytes-one f g p q w.post.name same places goes.post told) ∙ written.post;
  skip = sym (bytes-other f g p q w.skip.name same places goes.skip told) ∙ written.skip;
}

pub goes-on : {v w : Listing} {p q : WrittenPair} → SameFiles v w → SamePlaces p q → GoesToPair v p → GoesToPair w q
goes-on same places goes = record { post = same.post ∙ goes.post ∙ sym places.one.own; skip = same.skip ∙ goes.skip ∙ sym places.other.own }

pub follows-on : {p q : WrittenPair} {base : List ℕ} {before : Places} → SamePlaces p q → FollowsPlaces p base before → FollowsPlaces q base before
follows-on places follows = record {
  post = places.one.name ∙ follows.post;
  skip = places.other.name ∙ follows.skip;
  post_from = places.one.from ∙ follows.post_from;
  skip_from = places.other.from ∙ follows.skip_from;
}

pub places-more : {p q r : WrittenPair} → SamePlaces p q → SamePlaces q r → SamePlaces p r
places-more first second = record {
  one = record { name = second.one.name ∙ first.one.name; own = second.one.own ∙ first.one.own; from = second.one.from ∙ first.one.from };
  other = record { name = second.other.name ∙ first.other.name; own = second.other.own ∙ first.other.own; from = second.other.from ∙ first.other.from };
}

pub post-stood : (f g : Option Files) (p : WrittenPair) (base : List ℕ) (all : ℕ) (done : List (List Posting)) (before : Places) → g ≡ f → FollowsPlaces p base before →
    HoldsWritten f p all done → ListsFollow f base all done before → StandAt p.one.from (bytes_of g p.one) (bytes_at g (set_name p.one))
post-stood f g p base all done before same follows holds follow = part-stood f g p.one _ _ _ same holds.post follows.post follows.post_from follow.post_is

pub skip-stood : (f g : Option Files) (p : WrittenPair) (base : List ℕ) (all : ℕ) (done : List (List Posting)) (before : Places) → g ≡ f → FollowsPlaces p base before →
    HoldsWritten f p all done → ListsFollow f base all done before → StandAt p.other.from (bytes_of g p.other) (bytes_at g (set_name p.other))
skip-stood f g p base all done before same follows holds follow = part-stood f g p.other _ _ _ same holds.skip follows.skip follows.skip_from follow.skip_is

pub both-follow : (f g h : Option Files) (p : WrittenPair) (base : List ℕ) (all : ℕ) (done : List (List Posting)) (before : Places) → g ≡ f → h ≡ f → FollowsPlaces p base before →
    HoldsWritten f p all done → StandAt p.one.from (bytes_of g p.one) (bytes_at g (set_name p.one)) →
    StandAt p.other.from (bytes_of h p.other) (bytes_at h (set_name p.other)) → ListsFollow f base all done before
both-follow f g h p base all done before same same_h follows holds post skip = record {
  post_is = part-stands f g p.one _ _ _ same holds.post follows.post follows.post_from post;
  skip_is = part-stands f h p.other _ _ _ same_h holds.skip follows.skip follows.skip_from skip;
}

pub both-behind : (f g h : Option Files) (p : WrittenPair) (base : List ℕ) (all : ℕ) (done : List (List Posting)) (before after : Places) → g ≡ f → h ≡ f → FollowsPlaces p base before →
    HoldsWritten f p all done → after.post ≡ p.one.from + length (bytes_of g p.one) → after.skip ≡ p.other.from + length (bytes_of h p.other) → AreBehind all done before after
both-behind f g h p base all done before after same same_h follows holds post skip = record {
  post_is =
      post ∙ ap (λ e. p.one.from + length (bytes_of e p.one)) same ∙ ap (λ (b : List ℕ). p.one.from + length b) holds.post
      ∙ ap (λ n. n + length (as_bytes (lists_bits all done))) follows.post_from;
  skip_is =
      skip ∙ ap (λ e. p.other.from + length (bytes_of e p.other)) same_h ∙ ap (λ (b : List ℕ). p.other.from + length b) holds.skip
      ∙ ap (λ n. n + length (as_bytes (flat_map entry_bits (lists_entries all done)))) follows.skip_from;
}

pub writes-then : {T U : Type 0} {a b d : NewLists} {one : Result T PartErr} {two : Result U PartErr} {f g h : Option Files} {r s t : Reads} {l m n : ℕ} →
    WritesOn a b one f g r s l m → WritesOn b d two g h s t m n → WritesOn a d two f h r t l n
writes-then first second = record {
  same = names_more _ _ _ first.same second.same;
  places = places-more first.places second.places;
  looks = looks_then first.looks second.looks;
}

places-none : (p : WrittenPair) → SamePlaces p p
places-none p = record { one = record { name = refl; own = refl; from = refl }; other = record { name = refl; own = refl; from = refl } }

pub writes-none : (a : NewLists) (f : Option Files) (r : Reads) (n : ℕ) → WritesOn {T = Unit {0}} a a (Ok tt) f f r r n n
writes-none a f r n = record { same = names_same a.writer; places = places-none a.pair; looks = looks_none f r n }

pub writes-ok : {T U : Type 0} {x : U} {a b : NewLists} {result : Result T PartErr} {f g : Option Files} {r s : Reads} {m n : ℕ} → WritesOn a b result f g r s m n →
    WritesOn a b (Ok x) f g r s m n
writes-ok writes = record { same = writes.same; places = writes.places; looks = looks_ok writes.looks }

-- ---- where the set's files are the same

pub can-list-on : {w : Ranged} {n : ℕ} {lists : Listing} (f g : Option Files) (p : WrittenPair) → f ≡ g → CanList w n lists (pair_files f p) → CanList w n lists (pair_files g p)
can-list-on {w} {n} {lists} f g p same can = subst (λ h. CanList w n lists (pair_files h p)) same can

pub can-push-on : {ts : List (List ℕ)} {n : ℕ} {lex : LexWriting} (f g : Option Files) (p : WrittenPair) → f ≡ g → CanPush ts n lex (pair_files f p) → CanPush ts n lex (pair_files g p)
can-push-on {ts} {n} {lex} f g p same can = subst (λ h. CanPush ts n lex (pair_files h p)) same can

pub listed-on : {w : Ranged} {ts : List (List ℕ)} {before : Places} {n : ℕ} {collection : List ℕ} {lists : Listing} {lex : LexWriting} (f g : Option Files)
    (p q : WrittenPair) → f ≡ g → HasListed w ts before n collection lists (pair_files f p) lex (pair_files f q) →
    HasListed w ts before n collection lists (pair_files g p) lex (pair_files g q)
listed-on {w} {ts} {before} {n} {collection} {lists} {lex} f g p q same has =
    subst (λ h. HasListed w ts before n collection lists (pair_files h p) lex (pair_files h q)) same has

pub follow-on : {base : List ℕ} {all : ℕ} {done : List (List Posting)} {before : Places} (f g : Option Files) → f ≡ g → ListsFollow f base all done before → ListsFollow g base all done before
follow-on {base} {all} {done} {before} f g same follow = subst (λ h. ListsFollow h base all done before) same follow

pub took-on : {lists : Listing} {done : List (List Posting)} {ps : List Posting} (f g : Option Files) (p : WrittenPair) → f ≡ g →
    Took lists (pair_files f p) done ps → Took lists (pair_files g p) done ps
took-on {lists} {done} {ps} f g p same took = subst (λ h. Took lists (pair_files h p) done ps) same took

pub new-on : {all : ℕ} {base : List ℕ} {before : Places} {lists : NewLists} (f g : Option Files) → f ≡ g → IsNewLists f all base before lists → IsNewLists g all base before lists
new-on {all} {base} {before} {lists} f g same new = subst (λ h. IsNewLists h all base before lists) same new

-- a range that is compared behind what was done
pub range-on : {T U : Type 0} {of : Indexed} {w : Ranged} {old new : Compared} {one : Result U PartErr} {result : Result T PartErr} {f g h : Option Files}
    {r s t : Reads} {l m n : ℕ} → LooksAtSet one f g r s l m → RangeCompared of w old new result g h s t m n → RangeCompared of w old new result f h r t l n
range-on {of = of} {w} {old} {new} {result = result} {h = h} {s = s} {t} {m = m} {n} looks range =
    let here = subst (λ k. RangeCompared of w old new result k h s t m n) looks.files range in
    record { can = here.can; agree = here.agree; other = here.other; looks = looks_then looks range.looks }

-- ---- a lexicon that goes on

pub lexicon-none : (a : Lexicon) → SameLexicon a a
lexicon-none a = record { base = refl; places = places-none a.pair }

pub lexicon-more : {a b d : Lexicon} → SameLexicon a b → SameLexicon b d → SameLexicon a d
lexicon-more first second = record { base = second.base ∙ first.base; places = places-more first.places second.places }

pub lexicon-goes : {a b : Lexicon} {base : List ℕ} → SameLexicon a b → GoesToLexicon a.writer a.pair base → GoesToLexicon b.writer b.pair base
lexicon-goes same goes = record {
  strings = ap (λ b. full_name b Lex) same.base ∙ goes.strings ∙ sym same.places.one.own;
  places = ap (λ b. full_name b LexAt) same.base ∙ goes.places ∙ sym same.places.other.own;
  strings_of = same.places.one.name ∙ goes.strings_of;
  places_of = same.places.other.name ∙ goes.places_of;
  strings_from = same.places.one.from ∙ goes.strings_from;
  places_from = same.places.other.from ∙ goes.places_from;
}

pub terms-on : {lex lexed : LexWriting} {ts us : List Term} (p q : WrittenPair) (f g : Option Files) → f ≡ g → (TookTerms lex (pair_files f p) ts → TookTerms lexed (pair_files f q) us) →
    TookTerms lex (pair_files g p) ts → TookTerms lexed (pair_files g q) us
terms-on {lex} {lexed} {ts} {us} p q f g same takes = subst (λ h. TookTerms lex (pair_files h p) ts → TookTerms lexed (pair_files h q) us) same takes
