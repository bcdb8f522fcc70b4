-- The append of the head, and what stands behind it.
use Rattle.std.proofs.Common.{arith, ◌≡◌, ◌≢◌, ◌≤◌, ◌<◌, ◌⊎◌, ◌∙◌, inl, inr, ℕ, List, [], ◌++◌, length, take, refl, sym, ap, Err, IsSome, is_some, Some}
use Rattle.std.proofs.lemmas.Bool.{cases_lt}
use Rattle.std.proofs.lemmas.List.{take_all}
use Rattle.std.specs.Prelude.{Result}
use Rattle.std.specs.Option.{unwrap_or}
use Rattle.std.specs.declared.option.Option.{Option}
use Rattle.mg_dev.specs.Causes.{HasPutCause, Rose}
use Rattle.mg_dev.specs.declared.device.PutErr.{PutErr}
use Rattle.mg_dev.specs.declared.device.PutErr.TheVariants as put_err
use Rattle.mg_dev.specs.declared.part.Part.{Part}
use Rattle.mg_dev.specs.declared.part.Part.TheVariants.{Head, Lex, LexAt, MergeA, MergeB, Nonwords, Places, Plain, Post, Run, Skip, Text, Weights, Words}
use Rattle.mg_dev.specs.Faults.{fault_of_store}
use Rattle.mg_dev.specs.Files.{AfterAppend, Files, GrewInPart, bytes_at, file_at, grown}
use Rattle.mg_dev.specs.Laws.{append-others, append-told, file_at-other, file_at-written, same_part_of_name, told-written}
use Rattle.mg_dev.specs.Names.{full_name, number}
use Rattle.mg_defs.specs.CodedText.{TextCode}
use Rattle.mg_defs.specs.Heads as heads
use Rattle.mg_defs.specs.Stands.{head_of}
use Rattle.mg_laws.proofs.CutHeads.{no_front}
use Rattle.mg_layout.specs.Stands.{Stands, StandsForNone, StandsIn}
use Rattle.mg_index.specs.Listing.{ListStops}
use Rattle.mg_make.specs.Putting.{IsReady, OthersSame}
use Rattle.mg_make.proofs.HeadLaws.{empty_stands_for_none}
use Rattle.mg_make.proofs.SetFrames.{bytes_kept}

-- a part that is not the head has another name
other_name : (base : List ℕ) (p : Part) → 1 ≤ number p → full_name base p ≢ full_name base Head
other_name base p some same = omega (arith, some, ap number (same_part_of_name base p Head same))

-- what an append leaves of other files
pub append_others : {E : Type 0} (base piece : List ℕ) (f g : Option Files) (r : Result (Unit {0}) E) → AfterAppend f g (full_name base Head) piece r → OthersSame base f g
append_others base piece f g r after = record {
  told = append-told f g (full_name base Head) piece r after;
  others = λ name apart. append-others f g (full_name base Head) name piece r after (apart Head (λ plain. no_plain plain));
}
  where
    no_plain : Head ≡ Plain → ⊥
    no_plain same = cc

-- ---- the head stands

module _ (base fed : List ℕ) (cap : ℕ) (code : TextCode) (f g : Option Files) (count : ℕ) (told : IsSome f) (ready : IsReady cap f base code fed) (gone : file_at f (full_name base Head) ≡ Some [])
    (low : 341 ≤ cap) (high : cap ≤ 89478485) (grew : g ≡ grown f (full_name base Head) (take count (heads.head_bytes (head_of 2 cap code fed)))) where
  bytes : List ℕ
  bytes = heads.head_bytes (head_of 2 cap code fed)

  head_here : bytes_at g (full_name base Head) ≡ take count (heads.head_bytes (head_of 2 cap code fed))
  head_here = ap (λ files. bytes_at files (full_name base Head)) grew
      ∙ ap (λ (file : Option (List ℕ)). unwrap_or file []) (file_at-written f (full_name base Head) (bytes_at f (full_name base Head) ++ take count (heads.head_bytes (head_of 2 cap code fed))) told)
      ∙ ap (λ (file : Option (List ℕ)). unwrap_or file [] ++ take count (heads.head_bytes (head_of 2 cap code fed))) gone

  other_here : (p : Part) → 1 ≤ number p → file_at g (full_name base p) ≡ file_at f (full_name base p)
  other_here p some = ap (λ files. file_at files (full_name base p)) grew ∙ file_at-other f (full_name base Head) _ (full_name base p) (other_name base p some)

  still : (p : Part) → 1 ≤ number p → bytes_at g (full_name base p) ≡ bytes_at f (full_name base p)
  still p some = bytes_kept f g (full_name base p) (other_here p some)

  pub stands_here : length (heads.head_bytes (head_of 2 cap code fed)) ≤ count → StandsIn 2 cap g base fed
  stands_here whole = record {
    told = ap is_some grew ∙ told-written f (full_name base Head) _ ∙ told;
    code = code;
    are = record {
      version_is = inr refl;
      limits = ready.limits;
      cap_low = low;
      cap_high = high;
      code_is = ready.code_is;
      head = head_here ∙ take_all count (heads.head_bytes (head_of 2 cap code fed)) whole;
      words = still Words (omega arith) ∙ ready.words;
      nonwords = still Nonwords (omega arith) ∙ ready.nonwords;
      text = still Text (omega arith) ∙ ready.text;
      places = still Places (omega arith) ∙ ready.places;
      lex = still Lex (omega arith) ∙ ready.index.lex;
      lex_at = still LexAt (omega arith) ∙ ready.index.lex_at;
      post = still Post (omega arith) ∙ ready.index.post;
      skip = still Skip (omega arith) ∙ ready.index.skip;
      weights = still Weights (omega arith) ∙ ready.index.weights;
      run = still Run (omega arith) ∙ ready.run;
    };
  }

  pub merge_a_here : file_at g (full_name base MergeA) ≡ Some []
  merge_a_here = other_here MergeA (omega arith) ∙ ready.index.merge_a

  pub merge_b_here : file_at g (full_name base MergeB) ≡ Some []
  merge_b_here = other_here MergeB (omega arith) ∙ ready.index.merge_b

  -- a cut head is none
  pub none_here : count < length (heads.head_bytes (head_of 2 cap code fed)) → StandsForNone g base
  none_here cut = λ collection stands. no_front (head_of 2 cap code fed) (head_of stands.stand.version stands.stand.cap stands.stand.code collection) count cut (sym head_here ∙ stands.stand.are.head)

-- a set that stands in a version stands
pub stands_of : (cap : ℕ) (files : Option Files) (base collection : List ℕ) → StandsIn 2 cap files base collection → Stands files base collection
stands_of cap files base collection stands = record { told = stands.told; stand = record { version = 2; cap = cap; code = stands.code; are = stands.are } }

-- whatever of the head was appended
pub left_here : (base fed : List ℕ) (cap : ℕ) (code : TextCode) (f g : Option Files) → IsSome f → IsReady cap f base code fed → file_at f (full_name base Head) ≡ Some [] → 341 ≤ cap → cap ≤ 89478485
    → GrewInPart f g (full_name base Head) (heads.head_bytes (head_of 2 cap code fed)) → StandsForNone g base ⊎ Stands g base fed
left_here base fed cap code f g told ready gone low high (inl same) = inl (empty_stands_for_none base g (ap (λ files. file_at files (full_name base Head)) same ∙ gone))
left_here base fed cap code f g told ready gone low high (inr (k, within, grew)) = elim (cases_lt k (length (heads.head_bytes (head_of 2 cap code fed)))) [
  | inl cut ↦ inl (none_here base fed cap code f g k told ready gone low high grew cut)
  | inr whole ↦ inr (stands_of cap g base fed (stands_here base fed cap code f g k told ready gone low high grew whole))
]

-- the whole head
pub grown_whole : (f g : Option Files) (name piece : List ℕ) → g ≡ grown f name piece → g ≡ grown f name (take (length piece) piece)
grown_whole f g name piece grew = grew ∙ ap (λ bytes. grown f name bytes) (sym (take_all (length piece) piece (omega arith)))

-- ---- why it is not appended

pub append_stops : (a b c : ℕ) (error : PutErr) (same : Type 0) → a ≤ b → HasPutCause {T = Unit {0}} b c (Err error) → ListStops (Rose a c) same (fault_of_store error)
append_stops a b c put_err.Failed same up cause = omega (arith, up, cause.failed refl)
append_stops a b c put_err.Memory same up cause = tt
