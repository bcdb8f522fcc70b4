-- What patterns are answered from in a set that stands, and the rotations of its lexicon.
use Rattle.std.proofs.Common.{arith, ◌≡◌, ◌<◌, ◌+◌, ℕ, List, [], ◌∷◌, None, IsSome, length, map, refl, sym, ◌∙◌, ap, subst}
use Rattle.std.specs.List.{enumerate_from}
use Rattle.std.specs.declared.option.Option.{Option}
use Rattle.mg_dev.specs.Files.{Files, bytes_at}
use Rattle.mg_dev.specs.Names.{full_name}
use Rattle.mg_dev.specs.declared.part.Part.TheVariants as part
use Rattle.mg_defs.specs.CodedText.{TextCode}
use Rattle.mg_defs.specs.Front.{Entry}
use Rattle.mg_defs.specs.Heads as defs
use Rattle.mg_defs.specs.Lexicon.{info_bytes, info_of, lexicon}
use Rattle.mg_defs.specs.Rotations.{most_rotations, rotation_count}
use Rattle.mg_defs.specs.Terms.{dictionary}
use Rattle.mg_defs.proofs.FrontParts.{one_front}
use Rattle.mg_defs.proofs.LexiconLaws.{lexicon_entries}
use Rattle.mg_layout.specs.Stands.{Stands, StandsBy}
use Rattle.mg_layout.specs.declared.head.Head.{Head}
use Rattle.mg_lex.specs.Reading.{IsLexicon}
use Rattle.mg_wild.specs.Loading.{AreWithin, HasTooMany, IsOfLexicon, IsToLoad, LexToLoad, strings_of}
use Rattle.mg_session.specs.SearchLaws.{lists_stay}
use Rattle.mg_session.specs.WildSearching.{IsReady, PartsAreOf, WildParts}
use Rattle.mg_session.proofs.SetLaws.{set_lexicon, set_weights}

-- ---- the parts of a set

-- what is expected of a set's lexicon is told of it
lexicon_at : {base : List ℕ} {files : Option Files} {count : ℕ} {lex : LexToLoad} {collection : List ℕ} → IsToLoad base count lex → IsLexicon base files count collection →
    IsOfLexicon lex files collection
lexicon_at {base} {files} {count} {lex} {collection} to_load is = subst (λ b. IsLexicon b files lex.count collection) (sym to_load.base_is)
    (subst (λ n. IsLexicon base files n collection) (sym to_load.count_is) is)

module _ (base : List ℕ) (files now : Option Files) (head : Head) {lex : LexToLoad} {room : ℕ} {parts : WildParts} where
  -- what a searcher was made of, by what is expected of its lexicon
  pub wild_parts : (code : TextCode) (collection : List ℕ) →
      parts ≡ record { base = base; terms = record { lex = lex; loaded = None }; all = head.documents; room = room } → IsToLoad base head.terms lex → now ≡ files → StandsBy head code files base collection →
      PartsAreOf now parts collection
  wild_parts code collection made to_load same is =
      let own : WildParts = record { base = base; terms = record { lex = lex; loaded = None }; all = head.documents; room = room } in
      let over : PartsAreOf now own collection = record {
        version = head.version;
        limits = is.are.limits;
        lists = lists_stay base base files now collection refl same (set_weights base files head code collection is).lists;
        lexicon = subst (λ (f : Option Files). IsOfLexicon lex f collection) (sym same) (lexicon_at to_load (set_lexicon base files head code collection is));
        all_is = ap (λ (h : defs.Head). h.documents) is.head_is;
      } in
      subst (λ (p : WildParts). PartsAreOf now p collection) (sym made) over

  -- each document can be marked, and no more bytes are there than were told
  pub wild_ready : parts ≡ record { base = base; terms = record { lex = lex; loaded = None }; all = head.documents; room = room } → IsToLoad base head.terms lex → now ≡ files → room ≡ head.documents →
      (IsSome files → AreWithin (bytes_at files (full_name base part.Lex)) head.terms lex.most) → IsReady now parts
  wild_ready made to_load same marks within =
      let own : WildParts = record { base = base; terms = record { lex = lex; loaded = None }; all = head.documents; room = room } in
      let here : (f : Option Files) → f ≡ files → IsSome f → AreWithin (bytes_at f (full_name lex.base part.Lex)) lex.count lex.most =
      λ f e told. subst (λ (g : Option Files). AreWithin (bytes_at g (full_name lex.base part.Lex)) lex.count lex.most) (sym e)
      (subst (λ b. AreWithin (bytes_at files (full_name b part.Lex)) lex.count lex.most) (sym to_load.base_is)
      (subst (λ n. AreWithin (bytes_at files (full_name base part.Lex)) n lex.most) (sym to_load.count_is) (within (subst (λ (g : Option Files). IsSome g) e told)))) in
      let ready : IsReady now own = record { room = marks; terms = record { within = here now same; loaded = tt } } in
      subst (λ (p : WildParts). IsReady now p) (sym made) ready

-- ---- its rotations

strings_from : (collection : List ℕ) (n : ℕ) (ts : List (List ℕ)) →
    strings_of (map (λ (t : ℕ × List ℕ). record { string = t.1; field = info_bytes (info_of collection t.0 t.1) }) (enumerate_from n ts)) ≡ ts
strings_from collection n [] = refl
strings_from collection n (t ∷ ts) = ap (λ us. t ∷ us) (strings_from collection (n + 1) ts)

lexicon_strings : (collection : List ℕ) → strings_of (lexicon collection) ≡ dictionary collection
unfolding lexicon
lexicon_strings collection = strings_from collection 0 (dictionary collection)

strings_size : (es : List Entry) → length (strings_of es) ≡ length es
strings_size [] = refl
strings_size (e ∷ es) = omega (arith, strings_size es)

lexicon_size : (collection : List ℕ) → length (lexicon collection) ≡ length (dictionary collection)
lexicon_size collection = sym (strings_size (lexicon collection)) ∙ ap length (lexicon_strings collection)

-- the part tells of one number of too many rotations
pub one_count : (bytes : List ℕ) (count found other : ℕ) → HasTooMany bytes count found → HasTooMany bytes count other → found ≡ other
one_count bytes count found other one two =
    one.counted ∙ ap (λ es. rotation_count (strings_of es)) (one_front 16 bytes one.es two.es one.entries.front two.entries.front) ∙ sym two.counted

-- the lexicon of a set that stands has the terms of the collection
pub set_has : (base : List ℕ) (files : Option Files) (head : Head) (code : TextCode) (collection : List ℕ) → StandsBy head code files base collection →
    most_rotations < rotation_count (dictionary collection) →
    HasTooMany (bytes_at files (full_name base part.Lex)) head.terms (rotation_count (dictionary collection))
set_has base files head code collection is many =
    let lexicon_is = set_lexicon base files head code collection is in
    record {
      es = lexicon collection;
      entries = record {
        front = record { entries = lexicon_entries collection; bytes_are = lexicon_is.lex_is };
        size = lexicon_size collection ∙ lexicon_is.terms_are;
      };
      counted = sym (ap rotation_count (lexicon_strings collection));
      many = many;
    }

-- too many rotations that Lex tells of are those of the collection that stands
pub counted_of : (files : Option Files) (base collection : List ℕ) → Stands files base collection → (found terms : ℕ) →
    HasTooMany (bytes_at files (full_name base part.Lex)) terms found → found ≡ rotation_count (dictionary collection)
counted_of files base collection stands found terms many =
    let same = one_front 16 (bytes_at files (full_name base part.Lex)) many.es (lexicon collection) many.entries.front
    (record { entries = lexicon_entries collection; bytes_are = stands.stand.are.lex }) in
    many.counted ∙ ap (λ es. rotation_count (strings_of es)) same ∙ ap rotation_count (lexicon_strings collection)
