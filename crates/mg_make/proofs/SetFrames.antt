-- Which parts a step of a set leaves as they were.
use Rattle.std.proofs.Common.{arith, ◌≡◌, ◌≢◌, ◌≤◌, ◌∙◌, ℕ, List, [], sym, ap, is_some, Ok, Err}
use Rattle.std.specs.declared.option.Option.{Option}
use Rattle.std.specs.Option.{unwrap_or}
use Rattle.std.specs.Prelude.{OnOk, Result}
use Rattle.mg_dev.specs.declared.part.Part.{Part}
use Rattle.mg_dev.specs.declared.part.Part.TheVariants.{Head, Lex, LexAt, MergeA, MergeB, Nonwords, Places, Plain, Post, Run, Skip, Text, Weights, Words}
use Rattle.mg_dev.specs.Files.{Files, bytes_at, file_at}
use Rattle.mg_dev.specs.Laws.{same_part_of_name}
use Rattle.mg_dev.specs.Names.{full_name, number}
use Rattle.mg_defs.specs.CodedText.{TextCode}
use Rattle.mg_model.specs.Models.{PartsHold}
use Rattle.mg_make.specs.Index.{OfIndex}
use Rattle.mg_make.specs.Putting.{OfPass, OthersSame}
use Rattle.mg_index.specs.Written.{WroteParts}
use Rattle.mg_make.specs.Written.{OfSecond, WroteSecond}

-- ---- numbers of parts

pub second_from : (q : Part) → OfSecond q → (3 ≤ number q) × (number q ≤ 12)
second_from Head of = absurd of
second_from Words of = absurd of
second_from Nonwords of = absurd of
second_from Text of = (omega arith, omega arith)
second_from Places of = (omega arith, omega arith)
second_from Lex of = absurd of
second_from LexAt of = absurd of
second_from Post of = absurd of
second_from Skip of = absurd of
second_from Weights of = absurd of
second_from Run of = (omega arith, omega arith)
second_from MergeA of = (omega arith, omega arith)
second_from MergeB of = (omega arith, omega arith)
second_from Plain of = absurd of

pub pass_from : (q : Part) → OfPass q → (1 ≤ number q) × (number q ≤ 12)
pass_from Head of = absurd of
pass_from Words of = (omega arith, omega arith)
pass_from Nonwords of = (omega arith, omega arith)
pass_from Text of = (omega arith, omega arith)
pass_from Places of = (omega arith, omega arith)
pass_from Lex of = absurd of
pass_from LexAt of = absurd of
pass_from Post of = absurd of
pass_from Skip of = absurd of
pass_from Weights of = absurd of
pass_from Run of = (omega arith, omega arith)
pass_from MergeA of = (omega arith, omega arith)
pass_from MergeB of = (omega arith, omega arith)
pass_from Plain of = absurd of

pub index_from : (q : Part) → OfIndex q → (5 ≤ number q) × (number q ≤ 12) × (number q ≢ 10)
index_from Head of = absurd of
index_from Words of = absurd of
index_from Nonwords of = absurd of
index_from Text of = absurd of
index_from Places of = absurd of
index_from Lex of = (omega arith, omega arith, omega arith)
index_from LexAt of = (omega arith, omega arith, omega arith)
index_from Post of = (omega arith, omega arith, omega arith)
index_from Skip of = (omega arith, omega arith, omega arith)
index_from Weights of = (omega arith, omega arith, omega arith)
index_from Run of = absurd of
index_from MergeA of = (omega arith, omega arith, omega arith)
index_from MergeB of = (omega arith, omega arith, omega arith)
index_from Plain of = absurd of

pub second_is_pass : (q : Part) → OfSecond q → OfPass q
second_is_pass Head of = of
second_is_pass Words of = tt
second_is_pass Nonwords of = tt
second_is_pass Text of = of
second_is_pass Places of = of
second_is_pass Lex of = of
second_is_pass LexAt of = of
second_is_pass Post of = of
second_is_pass Skip of = of
second_is_pass Weights of = of
second_is_pass Run of = of
second_is_pass MergeA of = of
second_is_pass MergeB of = of
second_is_pass Plain of = of

-- ---- files

-- a part that is none of these is as before
pub kept : (parts : Part → Type 0) (base : List ℕ) (f g : Option Files) (p : Part) → ((q : Part) → parts q → number q ≢ number p) → WroteParts parts base f g →
    file_at g (full_name base p) ≡ file_at f (full_name base p)
kept parts base f g p other wrote = wrote.others (full_name base p) (λ q of e. other q of (sym (ap number (same_part_of_name base p q e))))

-- and so are files of other names
pub others_kept : (parts : Part → Type 0) (base : List ℕ) (f g : Option Files) → ((q : Part) → parts q → number q ≤ 12) → WroteParts parts base f g → OthersSame base f g
others_kept parts base f g of_set wrote = record {
  told = wrote.told;
  others = λ name apart. wrote.others name (λ q of e. apart q (plain q (of_set q of)) e);
}
  where
    plain : (q : Part) → number q ≤ 12 → q ≢ Plain
    plain q few is = omega (arith, few, ap number is)

pub bytes_kept : (f g : Option Files) (name : List ℕ) → file_at g name ≡ file_at f name → bytes_at g name ≡ bytes_at f name
bytes_kept f g name same = ap (λ (file : Option (List ℕ)). unwrap_or file []) same

pub models_kept : (f g : Option Files) (base : List ℕ) (code : TextCode) → file_at g (full_name base Words) ≡ file_at f (full_name base Words) →
    file_at g (full_name base Nonwords) ≡ file_at f (full_name base Nonwords) → PartsHold f base code → PartsHold g base code
models_kept f g base code words others hold = record {
  words = bytes_kept f g _ words ∙ hold.words;
  others = bytes_kept f g _ others ∙ hold.others;
}

-- what the writing of the models wrote
pub models_wrote : (base : List ℕ) (f g : Option Files) → is_some g ≡ is_some f →
    ((n : List ℕ) → n ≢ full_name base Words → n ≢ full_name base Nonwords → file_at g n ≡ file_at f n) → WroteParts OfPass base f g
models_wrote base f g told others = record { told = told; others = λ name away. others name (away Words tt) (away Nonwords tt) }

-- the second pass leaves head and models
pub head_of_second : (base : List ℕ) (f g : Option Files) → WroteSecond base f g → file_at g (full_name base Head) ≡ file_at f (full_name base Head)
head_of_second base f g wrote = kept OfSecond base f g Head (λ q of is. omega (arith, is, (second_from q of).0)) wrote

pub models_of_second : (base : List ℕ) (f g : Option Files) (code : TextCode) → WroteSecond base f g → PartsHold f base code → PartsHold g base code
models_of_second base f g code wrote hold = models_kept f g base code
    (kept OfSecond base f g Words (λ q of is. omega (arith, is, (second_from q of).0)) wrote)
    (kept OfSecond base f g Nonwords (λ q of is. omega (arith, is, (second_from q of).0)) wrote) hold

pub others_of_second : (base : List ℕ) (f g : Option Files) → WroteSecond base f g → OthersSame base f g
others_of_second base f g wrote = others_kept OfSecond base f g (λ q of. (second_from q of).1) wrote

-- the same, whatever the pass answered
pub models_of_pass : {T E : Type 0} (r : Result T E) (f g : Option Files) (base : List ℕ) (code : TextCode) → WroteSecond base f g → PartsHold f base code → OnOk r (PartsHold g base code)
models_of_pass (Ok value) f g base code wrote hold = models_of_second base f g code wrote hold
models_of_pass (Err refusal) f g base code wrote hold = tt
