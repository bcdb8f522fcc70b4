-- Where the set stands and the text is there, its callees refuse only where the store fails or memory is wanting.
use Rattle.std.proofs.Common.{◌≡◌, ◌∙◌, ◌≤◌, ℕ, true, List, [], length, Some, None, IsSome, Option, refl, sym, ap, unwrap_or, arith}
use Rattle.std.proofs.lemmas.Bool.{and_parts, ltb-true}
use Rattle.std.specs.Prelude.{nat_lt, not, take}
use Rattle.std.specs.Str.{bytes_eq}
use Rattle.std.proofs.lemmas.Slice.Eq.{bytes_eq-Decides}
use Rattle.mg_dev.specs.Causes.{Rose}
use Rattle.mg_dev.specs.Files.{Files, bytes_at, file_at}
use Rattle.mg_dev.specs.Laws.{size_is}
use Rattle.mg_dev.specs.Moments.{SinkAt, SourceAt}
use Rattle.mg_dev.specs.Streams.{appended}
use Rattle.mg_dev.specs.declared.fault.Fault.{Fault}
use Rattle.mg_dev.specs.declared.fault.Fault.TheVariants.{Usage, StoreFault, ReadFault, WriteFault, NotBuilt, Damaged, NoCollection, TooLarge, TooManyDocuments, TooManyPieces, Changed, Memory, NameClash, InputTooLong, SameName, TooManyRotations}
use Rattle.mg_defs.specs.Replies.{session}
use Rattle.mg_defs.specs.InputLimit.{has_quit, is_too_much}
use Rattle.mg_defs.specs.Limits.{input_limit}
use Rattle.mg_layout.specs.Stands.{Stands}
use Rattle.mg_layout.proofs.CallerLemmas.{head_there}
use Rattle.mg_decode.specs.Outcomes.{DecodeStops}
use Rattle.mg_session.specs.Serves as serves
use Rattle.mg_plain.specs.Stops.{ScanStops}
use Rattle.mg_top.specs.Trials.{IsBuilt, Lacks, set_name, text_name}

pub bytes_there : (files : Option Files) (collection : List ℕ) → file_at files text_name ≡ Some collection → bytes_at files text_name ≡ collection
bytes_there files collection there = ap (λ (o : Option (List ℕ)). unwrap_or o []) there

-- a store of which a file is known tells its files
pub told : (files : Option Files) (name bytes : List ℕ) → file_at files name ≡ Some bytes → IsSome files
unfolding file_at
told None name bytes there = cc
told (Some f) name bytes there = refl

pub never_rose : Rose 0 0 → ⊥
never_rose rose = omega (arith, rose)

-- ---- moments of devices that a call does not take

pub no_source : SourceAt
no_source = record { left = None; faults = 0 }

pub no_sink : SinkAt
no_sink = record { written = None; faults = 0; lacks = 0 }

-- ---- comparisons

pub told_same : (told : Option (List ℕ)) (a b : List ℕ) → told ≡ Some a → told ≡ Some b → a ≡ b
told_same told a b one two = cc

pub same_bytes : (a b : List ℕ) → a ≡ b → bytes_eq a b ≡ true
same_bytes a b is = (bytes_eq-Decides a b).1 is

-- a sink that was empty tells what was put
pub put_first : (old new : Option (List ℕ)) (bytes : List ℕ) → old ≡ Some [] → new ≡ appended old bytes → new ≡ Some bytes
unfolding appended
put_first old new bytes empty is = is ∙ ap (λ (o : Option (List ℕ)). appended o bytes) empty

pub scan_tells : (files : Option Files) (collection given : List ℕ) (old new : Option (List ℕ)) → IsBuilt files collection → old ≡ Some []
    → new ≡ appended old (session (bytes_at files text_name) given) → new ≡ Some (session collection given)
scan_tells files collection given old new built empty is =
    put_first old new (session (bytes_at files text_name) given) empty is ∙ ap (λ (b : List ℕ). Some (session b given)) (bytes_there files collection built.text)

-- ---- refusals

too_much : (given : List ℕ) → length given ≤ 1670 → is_too_much input_limit given ≡ true → ⊥
unfolding is_too_much
too_much given short much = omega (arith, short, ltb-true input_limit (length given) (and_parts (nat_lt input_limit (length given)) (not (has_quit (take input_limit given))) much).0)

pub decode_lacks : (s o : Type 0) (files : Option Files) (base collection : List ℕ) (f : Fault) → (o → ⊥) → Stands files base collection → DecodeStops s o files base f → Lacks s f
decode_lacks s o files base collection StoreFault never stands cause = cause
decode_lacks s o files base collection WriteFault never stands cause = never cause
decode_lacks s o files base collection NotBuilt never stands cause = head_there files base collection stands (cause stands.told)
decode_lacks s o files base collection (Damaged bad) never stands cause = cause collection stands
decode_lacks s o files base collection Memory never stands cause = tt
decode_lacks s o files base collection Usage never stands cause = cause
decode_lacks s o files base collection ReadFault never stands cause = cause
decode_lacks s o files base collection NoCollection never stands cause = cause
decode_lacks s o files base collection (TooLarge size most) never stands cause = cause
decode_lacks s o files base collection TooManyDocuments never stands cause = cause
decode_lacks s o files base collection (TooManyPieces stream) never stands cause = cause
decode_lacks s o files base collection (Changed what first second) never stands cause = cause
decode_lacks s o files base collection (NameClash p) never stands cause = cause
decode_lacks s o files base collection InputTooLong never stands cause = cause
decode_lacks s o files base collection SameName never stands cause = cause
decode_lacks s o files base collection (TooManyRotations count) never stands cause = cause

module _ (s i o : Type 0) (files : Option Files) (collection given : List ℕ) (built : IsBuilt files collection)
    (left : Option (List ℕ)) (is : left ≡ Some given) (no_input : i → ⊥) (no_output : o → ⊥) (short : length given ≤ 1670) where
  are_told : IsSome files
  are_told = built.stands.told

  bytes_are : bytes_at files text_name ≡ collection
  bytes_are = bytes_there files collection built.text

  pub serve_lacks : (f : Fault) → serves.StopsFor set_name s i o files left f → Lacks s f
  serve_lacks StoreFault cause = cause
  serve_lacks ReadFault cause = no_input cause
  serve_lacks WriteFault cause = no_output cause
  serve_lacks NotBuilt cause = head_there files set_name collection built.stands (cause are_told)
  serve_lacks (Damaged bad) cause = cause collection built.stands
  serve_lacks Memory cause = tt
  serve_lacks InputTooLong cause = too_much given short (cause given is)
  serve_lacks Usage cause = cause
  serve_lacks NoCollection cause = cause
  serve_lacks (TooLarge size most) cause = cause
  serve_lacks TooManyDocuments cause = cause
  serve_lacks (TooManyPieces stream) cause = cause
  serve_lacks (Changed what first second) cause = cause
  serve_lacks (NameClash p) cause = cause
  serve_lacks SameName cause = cause
  serve_lacks (TooManyRotations count) cause = cause

  pub scan_lacks : (f : Fault) → ScanStops text_name s i o files left f → Lacks s f
  scan_lacks StoreFault cause = cause
  scan_lacks ReadFault cause = no_input cause
  scan_lacks WriteFault cause = no_output cause
  scan_lacks NoCollection cause = absurd (let none : None ≡ Some collection = sym (cause are_told) ∙ built.text in cc)
  scan_lacks (TooLarge size most) cause = absurd (let long : length collection ≡ size = ap length (sym bytes_are)
      ∙ size_is files text_name size (cause.2 are_told) in omega (arith, built.few, long, cause.0, cause.1))
  scan_lacks (Changed what first second) cause = cause.2 are_told
  scan_lacks Memory cause = tt
  scan_lacks InputTooLong cause = too_much given short (cause given is)
  scan_lacks Usage cause = cause
  scan_lacks NotBuilt cause = cause
  scan_lacks (Damaged bad) cause = cause
  scan_lacks TooManyDocuments cause = cause
  scan_lacks (TooManyPieces stream) cause = cause
  scan_lacks (NameClash p) cause = cause
  scan_lacks SameName cause = cause
  scan_lacks (TooManyRotations count) cause = cause
