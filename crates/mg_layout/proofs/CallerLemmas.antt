-- For callers: what stands is told by eleven files, and the head of a set that stands is that of its collection.
use Rattle.std.proofs.Common.{arith, ◌≡◌, ◌≢◌, ◌≤◌, ℕ, List, Option, Some, None, sym, ◌∙◌, ap, subst, IsSome, []}
use Rattle.std.specs.Prelude.{unwrap_or}
use Rattle.mg_dev.specs.Files.{Files, bytes_at}
use Rattle.mg_dev.specs.Names.{full_name, number}
use Rattle.mg_dev.specs.declared.part.Part.{Part}
use Rattle.mg_dev.specs.declared.part.Part.TheVariants as part
use Rattle.mg_defs.specs.Stands.{AreParts, Parts, Stand, head_of}
use Rattle.mg_layout.specs.Stands.{SameSet, Stands, StandsForNone, StandsIn, parts_at, StandsBy}
use Rattle.mg_defs.specs.CodedText.{TextCode}
use Rattle.mg_defs.specs.Heads as defs
use Rattle.mg_defs.specs.Heads.{IsHead, first_damage}
use Rattle.mg_defs.specs.Means.{Tell}
use Rattle.mg_defs.proofs.HeadLaws.{no_damage, one_head}
use Rattle.mg_defs.proofs.StandLaws.{stand-tells, told-stands}
use Rattle.mg_layout.specs.HeadAnswers.{fields_of}
use Rattle.mg_layout.specs.declared.head.Head.{Head}

same_bytes : (before now : Option Files) (base : List ℕ) (p : Part) → SameSet base before now → number p ≤ 10 → bytes_at now (full_name base p) ≡ bytes_at before (full_name base p)
same_bytes before now base p same few = ap (λ (o : Option (List ℕ)). unwrap_or o []) (same.each p few)

pub same_parts : (before now : Option Files) (base : List ℕ) → SameSet base before now → parts_at now base ≡ parts_at before base
same_parts before now base same =
    let head : bytes_at now (full_name base part.Head) ≡ bytes_at before (full_name base part.Head) = same_bytes before now base part.Head same (omega arith) in
    let words : bytes_at now (full_name base part.Words) ≡ bytes_at before (full_name base part.Words) = same_bytes before now base part.Words same (omega arith) in
    let nonwords : bytes_at now (full_name base part.Nonwords) ≡ bytes_at before (full_name base part.Nonwords) = same_bytes before now base part.Nonwords same (omega arith) in
    let text : bytes_at now (full_name base part.Text) ≡ bytes_at before (full_name base part.Text) = same_bytes before now base part.Text same (omega arith) in
    let places : bytes_at now (full_name base part.Places) ≡ bytes_at before (full_name base part.Places) = same_bytes before now base part.Places same (omega arith) in
    let lex : bytes_at now (full_name base part.Lex) ≡ bytes_at before (full_name base part.Lex) = same_bytes before now base part.Lex same (omega arith) in
    let lex_at : bytes_at now (full_name base part.LexAt) ≡ bytes_at before (full_name base part.LexAt) = same_bytes before now base part.LexAt same (omega arith) in
    let post : bytes_at now (full_name base part.Post) ≡ bytes_at before (full_name base part.Post) = same_bytes before now base part.Post same (omega arith) in
    let skip : bytes_at now (full_name base part.Skip) ≡ bytes_at before (full_name base part.Skip) = same_bytes before now base part.Skip same (omega arith) in
    let weights : bytes_at now (full_name base part.Weights) ≡ bytes_at before (full_name base part.Weights) = same_bytes before now base part.Weights same (omega arith) in
    let run : bytes_at now (full_name base part.Run) ≡ bytes_at before (full_name base part.Run) = same_bytes before now base part.Run same (omega arith) in
    cc

told_too : (before now : Option Files) (base : List ℕ) → SameSet base before now → IsSome before → IsSome now
told_too before now base same told = same.told ∙ told

pub in_stands : (version cap : ℕ) (files : Option Files) (base collection : List ℕ) → StandsIn version cap files base collection → Stands files base collection
in_stands version cap files base collection is = record { told = is.told; stand = record { version = version; cap = cap; code = is.code; are = is.are } }

pub stands_stay : (before now : Option Files) (base collection : List ℕ) → SameSet base before now → Stands before base collection → Stands now base collection
stands_stay before now base collection same is = record {
  told = told_too before now base same is.told;
  stand = subst (λ (p : Parts). Stand p collection) (sym (same_parts before now base same)) is.stand;
}

pub in_stays : (version cap : ℕ) (before now : Option Files) (base collection : List ℕ) → SameSet base before now →
    StandsIn version cap before base collection → StandsIn version cap now base collection
in_stays version cap before now base collection same is = record {
  told = told_too before now base same is.told;
  code = is.code;
  are = subst (λ (p : Parts). AreParts version cap is.code p collection) (sym (same_parts before now base same)) is.are;
}

back : (before now : Option Files) (base : List ℕ) → SameSet base before now → SameSet base now before
back before now base same = record { told = sym same.told; each = λ p few. sym (same.each p few) }

pub none_stays : (before now : Option Files) (base : List ℕ) → SameSet base before now → StandsForNone before base → StandsForNone now base
none_stays before now base same none = λ collection is. none collection (stands_stay now before base collection (back before now base same) is)

-- ---- the head

pub told_set : (files : Option Files) (base collection : List ℕ) (head : Head) (code : TextCode) → Stands files base collection →
    Tell (parts_at files base) (fields_of head) code → StandsBy head code files base collection
told_set files base collection head code is tell =
    let stands = told-stands (parts_at files base) (fields_of head) code collection tell is.stand in
    record { told = is.told; head_is = stands.0; are = stands.1 }

pub loaded_set : (files : Option Files) (base collection : List ℕ) (head : Head) → Stands files base collection →
    IsHead 1 2 (parts_at files base).head (fields_of head) → (code : TextCode) × StandsBy head code files base collection
loaded_set files base collection head is loaded =
    let own : defs.Head = head_of is.stand.version is.stand.cap is.stand.code collection in
    let tell : Tell (parts_at files base) own is.stand.code = stand-tells is.stand.version is.stand.cap is.stand.code (parts_at files base) collection is.stand.are in
    let same : fields_of head ≡ own = one_head (fields_of head) own loaded.within tell.head.within (sym loaded.bytes_are ∙ tell.head.bytes_are) in
    (is.stand.code, told_set files base collection head is.stand.code is (subst (λ (h : defs.Head). Tell (parts_at files base) h is.stand.code) (sym same) tell))

-- no head has no bytes
pub no_empty_head : (bytes : List ℕ) (h : defs.Head) → IsHead 1 2 bytes h → bytes ≢ []
unfolding first_damage
no_empty_head bytes h is empty = some_is_not (sym (no_damage 1 2 bytes h is) ∙ ap (first_damage 1 2) empty)
  where
    some_is_not : {x : defs.Check} → None ≡ Some x → ⊥
    some_is_not e = cc

-- a set that stands has a head
pub own_head : (files : Option Files) (base collection : List ℕ) → (stands : Stands files base collection) →
    IsHead 1 2 (bytes_at files (full_name base part.Head)) (head_of stands.stand.version stands.stand.cap stands.stand.code collection)
own_head files base collection stands = (stand-tells stands.stand.version stands.stand.cap stands.stand.code (parts_at files base) collection stands.stand.are).head

pub head_there : (files : Option Files) (base collection : List ℕ) → Stands files base collection → bytes_at files (full_name base part.Head) ≢ []
head_there files base collection stands = no_empty_head (bytes_at files (full_name base part.Head)) _ (own_head files base collection stands)
