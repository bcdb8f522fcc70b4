-- What opening a set does, by what loading its head and its parts answers.
use Rattle.std.proofs.Common.{arith, ◌≡◌, ◌+◌, ◌≤◌, ◌⊎◌, ℕ, List, Ok, Err, None, Some, IsSome, Option, refl, sym, subst, inl, inr}
use Rattle.std.specs.Prelude.{Result}
use Rattle.mg_bits.specs.Pages.{Looked}
use Rattle.mg_dev.specs.Causes.{Rose}
use Rattle.mg_dev.specs.Faults.{fault_of_part}
use Rattle.mg_dev.specs.Files.{Files, OneRead, Reads, SameReads, bytes_at, with_read}
use Rattle.mg_dev.specs.Moments.{StoreAt}
use Rattle.mg_dev.specs.Names.{full_name}
use Rattle.mg_dev.specs.PartCauses.{HasPartCause}
use Rattle.mg_dev.specs.declared.fault.Fault.{Fault}
use Rattle.mg_dev.specs.declared.fault.Fault.TheVariants.{NotBuilt}
use Rattle.mg_dev.specs.declared.part.Part.{Part}
use Rattle.mg_dev.specs.declared.part.Part.TheVariants as part
use Rattle.mg_dev.specs.declared.part_err.PartErr.{PartErr}
use Rattle.mg_dev.specs.declared.part_err.PartErr.TheVariants as err
use Rattle.mg_defs.specs.Heads as defs
use Rattle.mg_defs.specs.Heads.{IsHead}
use Rattle.mg_front.specs.Reading.{Fronted, IsNotBad}
use Rattle.mg_layout.specs.HeadAnswers.{AnswersBack, AnswersHead}
use Rattle.mg_layout.specs.declared.head.Head.{Head}
use Rattle.mg_layout.proofs.CallerLemmas.{no_empty_head, own_head}
use Rattle.mg_lex.specs.Reading.{IsLexicon, LexStands}
use Rattle.mg_wild.specs.Loading.{IsToLoad, LexToLoad}
use Rattle.mg_session.specs.Opening.{HeadOpened, KeptByPatterns, KeptByQueries, OpenStops, SetOpened}
use Rattle.mg_session.specs.Searching.{Opened, OpenedOver, opened_at}
use Rattle.mg_session.specs.Serves.{StandsByNone}
use Rattle.mg_session.specs.WildSearching.{PartsAreBy, WildParts}
use Rattle.mg_session.specs.WildServes.{CountedBy}
use Rattle.mg_session.proofs.SetLaws.{opened_over, set_lexicon}
use Rattle.mg_session.proofs.StopLaws.{head_read, open_part}
use Rattle.mg_session.proofs.WildSetLaws.{wild_parts}
use Rattle.mg_session.proofs.WildTermsLaws.{not_lex}

-- ---- the head

-- what is told of loading it
pub record Loaded (base : List ℕ) (s0 s1 : StoreAt) (r : Result (Option Head) PartErr) : Type 0 where
  pub answer : IsSome s0.files → AnswersHead 1 2 (bytes_at s0.files (full_name base part.Head)) r
  pub back : IsSome s0.files → (h : defs.Head) → IsHead 1 2 (bytes_at s0.files (full_name base part.Head)) h → AnswersBack h r
  pub files : s1.files ≡ s0.files
  pub reads : SameReads s0.reads s1.reads ⊎ OneRead s0.reads s1.reads part.Head
  pub cause : HasPartCause s0.faults s1.faults r

head_once : {r s : Reads} → SameReads r s ⊎ OneRead r s part.Head → s part.Head ≤ r part.Head + 1
unfolding with_read
head_once (inl same) = omega (arith, same part.Head)
head_once (inr one) = omega (arith, one part.Head)

module _ (base : List ℕ) (s0 s1 : StoreAt) where
  head_some : (head : Head) → Loaded base s0 s1 (Ok (Some head)) → HeadOpened base s0 s1 (Ok head)
  head_some head l = record {
    files = l.files;
    faults = l.cause.later;
    unread = λ p high. head_read s0.reads s1.reads l.reads p high;
    once = head_once l.reads;
    head = l.answer;
    cause = tt;
    not_built = λ told none. absurd (no_empty_head _ _ (l.answer told) none);
    built = λ h told is. tt;
  }

  pub head_loaded : (loaded : Option Head) (head : Head) → loaded ≡ Some head → Loaded base s0 s1 (Ok loaded) → HeadOpened base s0 s1 (Ok head)
  head_loaded loaded head is l = head_some head (subst (λ (o : Option Head). Loaded base s0 s1 (Ok o)) is l)

  head_none : Loaded base s0 s1 (Ok None) → HeadOpened base s0 s1 (Err NotBuilt)
  head_none l = record {
    files = l.files;
    faults = l.cause.later;
    unread = λ p high. head_read s0.reads s1.reads l.reads p high;
    once = head_once l.reads;
    head = tt;
    cause = l.answer;
    not_built = λ told none. inl refl;
    built = λ h told is. absurd (l.back told h is);
  }

  pub head_missing : (loaded : Option Head) → loaded ≡ None → Loaded base s0 s1 (Ok loaded) → HeadOpened base s0 s1 (Err NotBuilt)
  head_missing loaded is l = head_none (subst (λ (o : Option Head). Loaded base s0 s1 (Ok o)) is l)

  pub head_refused : (refusal : PartErr) → Loaded base s0 s1 (Err refusal) → HeadOpened base s0 s1 (Err (fault_of_part refusal))
  head_refused err.Device l = record {
    files = l.files;
    faults = l.cause.later;
    unread = λ p high. head_read s0.reads s1.reads l.reads p high;
    once = head_once l.reads;
    head = tt;
    cause = l.cause.device;
    not_built = λ told none. inr (inl refl);
    built = λ h told is. tt;
  }
  head_refused err.Memory l = record {
    files = l.files;
    faults = l.cause.later;
    unread = λ p high. head_read s0.reads s1.reads l.reads p high;
    once = head_once l.reads;
    head = tt;
    cause = tt;
    not_built = λ told none. inr (inr refl);
    built = λ h told is. tt;
  }
  head_refused (err.Bad bad) l = record {
    files = l.files;
    faults = l.cause.later;
    unread = λ p high. head_read s0.reads s1.reads l.reads p high;
    once = head_once l.reads;
    head = tt;
    cause = λ collection stands. l.back stands.told _ (own_head s0.files base collection stands);
    not_built = λ told none. absurd ((l.answer told).0 none);
    built = λ h told is. absurd (l.back told h is);
  }

-- ---- a set for queries, or for phrases

module _ (base : List ℕ) (s0 s1 : StoreAt) (head : Head) where
  pub parts_opened : (lex : Fronted) (opened : Opened) → opened ≡ opened_at base lex head → s1.files ≡ s0.files → SameReads s0.reads s1.reads → s0.faults ≤ s1.faults →
      ((collection : List ℕ) → IsLexicon base s0.files head.terms collection → LexStands lex s1.files collection) →
      SetOpened (OpenedOver s1.files) KeptByQueries (λ count. ⊥) head base s0 s1 (Ok opened)
  parts_opened lex opened made files reads faults stands = record {
    files = files;
    faults = faults;
    unread = λ p kept. reads p;
    over = λ code collection is. subst (λ (o : Opened). OpenedOver s1.files o code collection) (sym made)
        (opened_over base s0.files s1.files head code collection lex files is (stands collection (set_lexicon base s0.files head code collection is)));
    cause = tt;
  }

  pub parts_refused : (refusal : PartErr) → s1.files ≡ s0.files → SameReads s0.reads s1.reads → HasPartCause {T = Fronted} s0.faults s1.faults (Err refusal) →
      ((collection : List ℕ) → IsLexicon base s0.files head.terms collection → IsNotBad refusal) →
      SetOpened (OpenedOver s1.files) KeptByQueries (λ count. ⊥) head base s0 s1 (Err (fault_of_part refusal))
  parts_refused refusal files reads cause never_bad = record {
    files = files;
    faults = cause.later;
    unread = λ p kept. reads p;
    over = tt;
    cause = open_part {T = Fronted} refusal s0.faults s0.faults s1.faults ⊥ _ (λ count. ⊥) (omega arith) cause
        (λ bad code collection is. bad (never_bad collection (set_lexicon base s0.files head code collection is)));
  }

-- ---- a set for patterns

lexicon_read : (f g : Option Files) (r s : Reads) (m n : ℕ) → Looked part.Lex f g r s m n → (p : Part) → KeptByPatterns p → s p ≡ r p
lexicon_read f g r s m n looked p kept = looked.others p (not_lex p (λ e. subst KeptByPatterns e kept))

module _ (base : List ℕ) (s0 s1 : StoreAt) (head : Head) (looked : Looked part.Lex s0.files s1.files s0.reads s1.reads s0.faults s1.faults) where
  -- its terms cannot be held, or there is no room for a bit for each document
  pub patterns_refused : (f : Fault) → OpenStops (Rose s0.faults s1.faults) ⊥ (StandsByNone head s0.files base) (CountedBy head s0.files base) f →
      SetOpened (PartsAreBy s1.files) KeptByPatterns (CountedBy head s0.files base) head base s0 s1 (Err f)
  patterns_refused f cause = record {
    files = looked.files;
    faults = looked.faults;
    unread = lexicon_read s0.files s1.files s0.reads s1.reads s0.faults s1.faults looked;
    over = tt;
    cause = cause;
  }

  pub patterns_opened : {lex : LexToLoad} {room : ℕ} {parts : WildParts} →
      parts ≡ record { base = base; terms = record { lex = lex; loaded = None }; all = head.documents; room = room } → IsToLoad base head.terms lex →
      SetOpened (PartsAreBy s1.files) KeptByPatterns (CountedBy head s0.files base) head base s0 s1 (Ok parts)
  patterns_opened made to_load = record {
    files = looked.files;
    faults = looked.faults;
    unread = lexicon_read s0.files s1.files s0.reads s1.reads s0.faults s1.faults looked;
    over = λ code collection is. wild_parts base s0.files s1.files head code collection made to_load looked.files is;
    cause = tt;
  }
