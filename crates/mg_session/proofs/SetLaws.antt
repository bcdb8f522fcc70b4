-- Sets that stand: their lists, weights and lexicon, and what is opened of them.
use Rattle.std.proofs.Common.{arith, ◌≡◌, ℕ, List, length, refl, sym, ◌∙◌, ap, subst}
use Rattle.std.specs.declared.option.Option.{Option}
use Rattle.mg_dev.specs.Files.{Files, bytes_at}
use Rattle.mg_dev.specs.Names.{full_name}
use Rattle.mg_dev.specs.declared.part.Part.TheVariants as part
use Rattle.mg_defs.specs.Bits.{bits_of}
use Rattle.mg_defs.specs.CodedText.{TextCode}
use Rattle.mg_defs.specs.Heads as defs
use Rattle.mg_defs.specs.Heads.{IsHead}
use Rattle.mg_defs.specs.Lists.{inverted, lists_entries, post_bits, skip_bits}
use Rattle.mg_defs.specs.Means.{Tell}
use Rattle.mg_defs.specs.Split.{documents}
use Rattle.mg_defs.specs.Stands.{head_of}
use Rattle.mg_defs.proofs.CodedTextLaws.{bits-of_as_bytes}
use Rattle.mg_defs.proofs.HeadLaws.{one_head}
use Rattle.mg_defs.proofs.StandDocs.{few-terms, most}
use Rattle.mg_defs.proofs.StandLaws.{stand-tells}
use Rattle.mg_defs.proofs.StandLists.{post_short}
use Rattle.mg_front.specs.Reading.{FrontFits, Fronted}
use Rattle.mg_laws.proofs.WholeBytes.{entries_are_whole, lists_are_whole}
use Rattle.mg_layout.specs.HeadAnswers.{fields_of}
use Rattle.mg_layout.specs.Stands.{Stands, StandsBy, parts_at}
use Rattle.mg_layout.specs.declared.head.Head.{Head}
use Rattle.mg_layout.proofs.CallerLemmas.{loaded_set, told_set}
use Rattle.mg_lex.specs.Reading.{IsLexicon, LexStands}
use Rattle.mg_post.specs.TermLists.{ListsStand}
use Rattle.mg_rank.specs.Ranked.{WeightsStand}
use Rattle.mg_text.proofs.CallerLemmas.{set_is_text}
use Rattle.mg_text.specs.Reading.{IsText}
use Rattle.mg_session.specs.SearchLaws.{weights_later}
use Rattle.mg_session.specs.Searching.{OpenedOver, SearchFits, opened_at}
use Rattle.mg_session.specs.Texts.{HasFewPieces}

-- ---- the parts of a set

set_lists : (base : List ℕ) (files : Option Files) (head : Head) (code : TextCode) (collection : List ℕ) → StandsBy head code files base collection → ListsStand base files collection
set_lists base files head code collection is =
    let m = most head.version collection is.are.limits in
    record {
      told = is.told;
      post = ap bits_of is.are.post ∙ bits-of_as_bytes (post_bits collection) ∙ lists_are_whole (length (documents collection)) (inverted collection);
      skip = ap bits_of is.are.skip ∙ bits-of_as_bytes (skip_bits collection) ∙ entries_are_whole (lists_entries (length (documents collection)) (inverted collection));
      short = m.0;
      few = omega (arith, m.1);
      small = post_short collection m.0 m.1 (omega (arith, few-terms collection, m.2));
    }

pub set_weights : (base : List ℕ) (files : Option Files) (head : Head) (code : TextCode) (collection : List ℕ) → StandsBy head code files base collection → WeightsStand base files collection
set_weights base files head code collection is = record { lists = set_lists base files head code collection is; weights = is.are.weights }

pub set_lexicon : (base : List ℕ) (files : Option Files) (head : Head) (code : TextCode) (collection : List ℕ) → StandsBy head code files base collection → IsLexicon base files head.terms collection
set_lexicon base files head code collection is =
    let m = most head.version collection is.are.limits in
    record {
      told = is.told;
      lex_is = is.are.lex;
      lex_at_is = is.are.lex_at;
      terms_are = sym (ap (λ (h : defs.Head). h.terms) is.head_is);
      few = omega (arith, few-terms collection, m.2);
    }

-- its text, where the files are the same
pub set_text : (base : List ℕ) (files now : Option Files) (head : Head) (code : TextCode) (collection : List ℕ) → now ≡ files →
    StandsBy head code files base collection → IsText base now head code collection
set_text base files now head code collection same is = subst (λ f. IsText base f head code collection) (sym same) (set_is_text base files head code collection is)

-- ---- what is opened of a set

pub opened_over : (base : List ℕ) (files now : Option Files) (head : Head) (code : TextCode) (collection : List ℕ) (lex : Fronted) → now ≡ files →
    StandsBy head code files base collection → LexStands lex now collection → OpenedOver now (opened_at base lex head) code collection
opened_over base files now head code collection lex same is lexicon = record {
  version = head.version;
  limits = is.are.limits;
  weights = weights_later base base files now collection refl same (set_weights base files head code collection is);
  lex = lexicon;
  texts = record { text = set_text base files now head code collection same is; size = ap (λ (h : defs.Head). h.collection) is.head_is };
  all = ap (λ (h : defs.Head). h.documents) is.head_is;
}

pub opened_fits : (base : List ℕ) (files : Option Files) (head : Head) (lex : Fronted) → FrontFits lex files → HasFewPieces head →
    SearchFits files (opened_at base lex head)
opened_fits base files head lex lexicon few = record {
  lex = lexicon;
  texts = record { words = few.words; others = few.others; reader = tt };
  all = refl;
}

-- ---- the head of a set

pub loaded_by : (files : Option Files) (base collection : List ℕ) (head : Head) → Stands files base collection →
    IsHead 1 2 (bytes_at files (full_name base part.Head)) (fields_of head) → (code : TextCode) × StandsBy head code files base collection
loaded_by files base collection head is loaded = loaded_set files base collection head is loaded

pub stands_too : (files : Option Files) (base collection : List ℕ) (head : Head) (code : TextCode) → StandsBy head code files base collection → Stands files base collection
stands_too files base collection head code is = record { told = is.told; stand = record { version = head.version; cap = head.cap; code = code; are = is.are } }

-- a head that was loaded is that of the set, whatever head it is told to have
pub loaded_too : (files : Option Files) (base collection : List ℕ) (head loaded : Head) (code : TextCode) → StandsBy head code files base collection →
    IsHead 1 2 (bytes_at files (full_name base part.Head)) (fields_of loaded) → StandsBy loaded code files base collection
loaded_too files base collection head loaded code is read =
    let own : defs.Head = head_of head.version head.cap code collection in
    let tell : Tell (parts_at files base) own code = stand-tells head.version head.cap code (parts_at files base) collection is.are in
    let same : fields_of loaded ≡ own = one_head (fields_of loaded) own read.within tell.head.within (sym read.bytes_are ∙ tell.head.bytes_are) in
    told_set files base collection loaded code (stands_too files base collection head code is) (subst (λ (h : defs.Head). Tell (parts_at files base) h code) (sym same) tell)
