-- What making a set from one with a head leaves, by how far it came.
use Rattle.std.proofs.Common.{arith, ◌≡◌, ◌≢◌, ◌∙◌, ◌⊎◌, ◌++◌, inl, inr, ℕ, List, [], Ok, Err, length, take, refl, sym, ap, IsSome, Option, Some}
use Rattle.std.specs.Option.{unwrap_or}
use Rattle.std.proofs.Math.Seq.{take-length}
use Rattle.mg_dev.specs.Files.{Files, GrewInPart, bytes_at, file_at, grown}
use Rattle.mg_dev.specs.Names.{full_name, number}
use Rattle.mg_dev.specs.declared.device.PutErr.{PutErr}
use Rattle.mg_dev.specs.declared.device.PutErr.TheVariants as put_err
use Rattle.mg_dev.specs.declared.fault.Fault.{Fault}
use Rattle.mg_dev.specs.declared.part.Part.{Part}
use Rattle.mg_dev.specs.declared.part.Part.TheVariants.{Head, Lex, LexAt, Nonwords, Places, Post, Run, Skip, Text, Weights, Words}
use Rattle.mg_dev.specs.declared.status.Status.TheVariants.{Done, Stopped}
use Rattle.mg_defs.specs.CodedText.{TextCode}
use Rattle.mg_defs.specs.Heads.{head_bytes}
use Rattle.mg_layout.specs.HeadAnswers.{fields_of}
use Rattle.mg_layout.specs.Stands.{StandsBy, StandsForNone, StandsIn}
use Rattle.mg_layout.specs.declared.head.Head as layout
use Rattle.mg_make.specs.Putting.{IsUnbuilt, LacksOnlyHead, OthersSame, StandsForNoOther, GrewByHead, with_head}
use Rattle.mg_migrate.specs.Copying.{ChangedAlone}
use Rattle.mg_migrate.specs.MadeFrom.{MadeFrom}
use Rattle.mg_migrate.specs.Migrating.{AreCopied, HasBegun, IsCopied, LacksHead, wide_of}
use Rattle.mg_migrate.proofs.CopyLaws.{append_alone, appended_here}
use Rattle.mg_migrate.proofs.MigrateLaws.{others_of_part, part_stays}
use Rattle.mg_make.proofs.CallerLemmas.{others_none}
use Rattle.mg_migrate.proofs.WideLaws.{left_built, left_unbuilt, merge_a_stays, merge_b_stays, wide_grown, wide_in_part}

not_done : (f : Fault) → Stopped f ≡ Done → ⊥
not_done f end = cc

module _ (head : layout.Head) (name new : List ℕ) (f : Fault) where
  -- nothing was written
  pub from_nothing : (files : Option Files) → MadeFrom head name new files files (Stopped f)
  from_nothing files = record {
    done = λ code c stands end. absurd (not_done f end);
    copied = λ told end. absurd (not_done f end);
    left = λ code c stands. inl refl;
    begun = λ told. inl refl;
    others = others_none new files files refl;
  }

  -- or there is no head yet
  pub from_unbuilt : (before now : Option Files) → ((base : List ℕ) (files : Option Files) → file_at files (full_name base Head) ≡ Some [] →
      StandsForNone files base) → IsUnbuilt new before now → OthersSame new before now
      → MadeFrom head name new before now (Stopped f)
  from_unbuilt before now none unbuilt others = record {
    done = λ code c stands end. absurd (not_done f end);
    copied = λ told end. absurd (not_done f end);
    left = λ code c stands. left_unbuilt new c before now stands.told none unbuilt;
    begun = λ told. begun unbuilt told;
    others = others;
  }
    where
      begun : IsUnbuilt new before now → IsSome before → (now ≡ before) ⊎ HasBegun (fields_of head) now new
      begun (inl same) told = inl same
      begun (inr gone) told = inr (record { count = 0; first = gone told })

-- ---- the head is appended last

module _ (head : layout.Head) (name new : List ℕ) (before middle now : Option Files)
    (ready : (code : TextCode) (collection : List ℕ) → StandsBy head code before name collection → LacksOnlyHead new collection head.cap code middle)
    (lacks : IsSome before → LacksHead (fields_of head) name new before middle) (others : OthersSame new before middle) where
  abbrev bytes : List ℕ
  bytes = head_bytes (wide_of (fields_of head))

  no_bytes : IsSome before → bytes_at middle (full_name new Head) ≡ []
  no_bytes told = ap (λ (file : Option (List ℕ)). unwrap_or file []) (lacks told).gone

  -- so many of its bytes
  first_bytes : (piece : List ℕ) → now ≡ grown middle (full_name new Head) piece → IsSome before → file_at now (full_name new Head) ≡ Some piece
  first_bytes piece grew told = appended_here middle middle now (full_name new Head) piece piece refl (others.told ∙ told) grew refl ∙ ap (λ b. Some (b ++ piece)) (no_bytes told)

  others_too : ChangedAlone (full_name new Head) middle now → OthersSame new before now
  others_too alone = others_of_part new Head before middle now (λ same. omega (arith, ap number same)) others alone

  copied_still : ChangedAlone (full_name new Head) middle now → (p : Part) → p ≢ Head → IsCopied name new before middle p → IsCopied name new before now p
  copied_still alone p apart is = ap (λ (file : Option (List ℕ)). unwrap_or file []) (part_stays new Head p middle now apart alone) ∙ is

  all_still : ChangedAlone (full_name new Head) middle now → AreCopied name new before middle → AreCopied name new before now
  all_still alone are = record {
    words = copied_still alone Words (λ same. omega (arith, ap number same)) are.words;
    nonwords = copied_still alone Nonwords (λ same. omega (arith, ap number same)) are.nonwords;
    text = copied_still alone Text (λ same. omega (arith, ap number same)) are.text;
    lex = copied_still alone Lex (λ same. omega (arith, ap number same)) are.lex;
    lex_at = copied_still alone LexAt (λ same. omega (arith, ap number same)) are.lex_at;
    post = copied_still alone Post (λ same. omega (arith, ap number same)) are.post;
    skip = copied_still alone Skip (λ same. omega (arith, ap number same)) are.skip;
    weights = copied_still alone Weights (λ same. omega (arith, ap number same)) are.weights;
    run = copied_still alone Run (λ same. omega (arith, ap number same)) are.run;
  }

  -- the whole head was appended
  pub from_whole : ((base collection : List ℕ) (cap : ℕ) (code : TextCode) (old new : Option Files) → LacksOnlyHead base collection cap code old →
      new ≡ with_head old base cap code collection → StandsIn 2 cap new base collection)
      → now ≡ grown middle (full_name new Head) (head_bytes (wide_of (fields_of head))) → MadeFrom head name new before now Done
  from_whole whole grew =
      let alone : ChangedAlone (full_name new Head) middle now = append_alone {E = PutErr} middle middle now (full_name new Head) bytes (Ok tt) refl grew in
      record {
        done = λ code c stands end. record {
          stands = stands_too code c stands;
          merge_a = merge_a_stays new middle now alone (ready code c stands).ready.index.merge_a;
          merge_b = merge_b_stays new middle now alone (ready code c stands).ready.index.merge_b;
        };
        copied = λ told end. record {
          wide = first_bytes bytes grew told;
          copied = all_still alone (lacks told).copied;
          places = λ is. copied_still alone Places (λ same. omega (arith, ap number same)) ((lacks told).places is);
        };
        left = λ code c stands. left_built new c head.cap before now (stands_too code c stands);
        begun = λ told. inr (record { count = length bytes; first = first_bytes bytes grew told ∙ ap (λ b. Some b) (sym (take-length bytes)) });
        others = others_too alone;
      }
    where
      stands_too : (code : TextCode) (c : List ℕ) → StandsBy head code before name c → StandsIn 2 head.cap now new c
      stands_too code c stands = whole new c head.cap code middle now (ready code c stands) (wide_grown new head code name c before middle now stands grew)

  -- a part of it, or nothing, was appended
  pub from_part : (f : Fault) → ((base collection : List ℕ) (cap : ℕ) (code : TextCode) (old new : Option Files) → LacksOnlyHead base collection cap code old →
      GrewByHead old new base cap code collection → StandsForNoOther new base collection)
      → GrewInPart middle now (full_name new Head) (head_bytes (wide_of (fields_of head))) → MadeFrom head name new before now (Stopped f)
  from_part f left grew = record {
    done = λ code c stands end. absurd (not_done f end);
    copied = λ told end. absurd (not_done f end);
    left = λ code c stands. inr (left new c head.cap code middle now (ready code c stands) (wide_in_part new head code name c before middle now stands grew));
    begun = λ told. inr (begun told grew);
    others = others_too (append_alone {E = PutErr} middle middle now (full_name new Head) bytes (Err put_err.Failed) refl grew);
  }
    where
      begun : IsSome before → GrewInPart middle now (full_name new Head) bytes → HasBegun (fields_of head) now new
      begun told (inl same) = record { count = 0; first = ap (λ files. file_at files (full_name new Head)) same ∙ (lacks told).gone }
      begun told (inr part) = record { count = part.0; first = first_bytes (take part.0 bytes) part.2 told }
