-- What the text and the runs took stays where the other one is written, and which files a step writes.
use Rattle.std.proofs.Common.{◌≡◌, ◌≢◌, ℕ, List, refl, ap, ◌∙◌, subst, arith, is_some}
use Rattle.std.specs.declared.option.Option.{Option}
use Rattle.mg_dev.specs.declared.part.Part.{Part as AnyPart}
use Rattle.mg_dev.specs.declared.part.Part.TheVariants.{MergeA, MergeB, Places, Run, Text}
use Rattle.mg_dev.specs.Files.{Files, file_at}
use Rattle.mg_dev.specs.Laws.{same_part_of_name}
use Rattle.mg_dev.specs.Names.{full_name, number}
use Rattle.mg_defs.specs.Bits.{Bits}
use Rattle.mg_runs.specs.Fed.{Inverting, IsFed}
use Rattle.mg_text_writer.specs.Writing.{IsOnText, TextWriting}
use Rattle.mg_text_writer.proofs.CallerLemmas.{writer_stays}
use Rattle.mg_make.specs.Indexes.{HasTaken, Indexing, OfRuns}
use Rattle.mg_index.specs.Written.{WroteParts}
use Rattle.mg_make.specs.Written.{OfSecond, WroteSecond}

apart : (base : List ℕ) (p q : AnyPart) → (number p ≡ number q → ⊥) → full_name base p ≢ full_name base q
apart base p q different e = different (ap number (same_part_of_name base p q e))

-- ---- which files are written

pub wrote_none : (base : List ℕ) (f : Option Files) → WroteSecond base f f
wrote_none base f = record { told = refl; others = λ name away. refl }

pub wrote_both : (base : List ℕ) (f g h : Option Files) → WroteSecond base f g → WroteSecond base g h → WroteSecond base f h
wrote_both base f g h a b = record { told = b.told ∙ a.told; others = λ name away. b.others name away ∙ a.others name away }

pub wrote_for : (base own : List ℕ) (f g : Option Files) → own ≡ base → WroteSecond own f g → WroteSecond base f g
wrote_for base own f g same wrote = subst (λ (b : List ℕ). WroteSecond b f g) same wrote

-- what a call of the writer of the text leaves as it was
abbrev pub OthersStay : List ℕ → Option Files → Option Files → Type 0
OthersStay base f g = (n : List ℕ) → n ≢ full_name base Text → n ≢ full_name base Places → file_at g n ≡ file_at f n

pub text_wrote : (base own : List ℕ) (f g : Option Files) → own ≡ base → is_some g ≡ is_some f → OthersStay own f g → WroteSecond base f g
text_wrote base own f g same told others = record {
  told = told;
  others = λ name away. others name (λ e. away Text tt (e ∙ ap (λ b. full_name b Text) same)) (λ e. away Places tt (e ∙ ap (λ b. full_name b Places) same));
}

runs_are_of_second : (p : AnyPart) → OfRuns p → OfSecond p
runs_are_of_second Run h = tt
runs_are_of_second MergeA h = tt
runs_are_of_second MergeB h = tt
runs_are_of_second p h = absurd h

pub runs_wrote : (base own : List ℕ) (f g : Option Files) → own ≡ base → WroteParts OfRuns own f g → WroteSecond base f g
runs_wrote base own f g same wrote = record {
  told = wrote.told;
  others = λ name away. wrote.others name (λ p of e. away p (runs_are_of_second p of) (e ∙ ap (λ b. full_name b p) same));
}

-- from calls that write to the parts of the runs alone
pub runs_alone : (base : List ℕ) (f g : Option Files) → is_some g ≡ is_some f →
    ((n : List ℕ) → n ≢ full_name base Run → n ≢ full_name base MergeA → n ≢ full_name base MergeB → file_at g n ≡ file_at f n) → WroteParts OfRuns base f g
runs_alone base f g told others = record { told = told; others = λ name away. others name (away Run tt) (away MergeA tt) (away MergeB tt) }

-- ---- what stays

no_run_is_text : (base : List ℕ) (p : AnyPart) → OfRuns p → full_name base Text ≢ full_name base p
no_run_is_text base Run h e = apart base Text Run (λ n. omega arith) e
no_run_is_text base MergeA h e = apart base Text MergeA (λ n. omega arith) e
no_run_is_text base MergeB h e = apart base Text MergeB (λ n. omega arith) e
no_run_is_text base p h e = absurd h

no_run_is_places : (base : List ℕ) (p : AnyPart) → OfRuns p → full_name base Places ≢ full_name base p
no_run_is_places base Run h e = apart base Places Run (λ n. omega arith) e
no_run_is_places base MergeA h e = apart base Places MergeA (λ n. omega arith) e
no_run_is_places base MergeB h e = apart base Places MergeB (λ n. omega arith) e
no_run_is_places base p h e = absurd h

pub text_file_kept : (base : List ℕ) (f g : Option Files) → WroteParts OfRuns base f g → file_at g (full_name base Text) ≡ file_at f (full_name base Text)
text_file_kept base f g wrote = wrote.others (full_name base Text) (no_run_is_text base)

pub places_file_kept : (base : List ℕ) (f g : Option Files) → WroteParts OfRuns base f g → file_at g (full_name base Places) ≡ file_at f (full_name base Places)
places_file_kept base f g wrote = wrote.others (full_name base Places) (no_run_is_places base)

-- the text, where runs are written
pub text_kept : (w : TextWriting) (own : List ℕ) (f g : Option Files) (docs : List Bits) (bits : Bits) → own ≡ w.base → WroteParts OfRuns own f g → IsOnText w f docs bits → IsOnText w g docs bits
text_kept w own f g docs bits same wrote is =
    let here : WroteParts OfRuns w.base f g = subst (λ (b : List ℕ). WroteParts OfRuns b f g) same wrote in
    writer_stays w f g docs bits here.told (text_file_kept w.base f g here) (places_file_kept w.base f g here) is

-- runs stay where their part does
abbrev pub RunsStay : Type 0
RunsStay = (runs : Inverting) (f g : Option Files) (fed : List (ℕ × ℕ)) → is_some g ≡ is_some f →
    file_at g (full_name runs.base Run) ≡ file_at f (full_name runs.base Run) → IsFed runs f fed → IsFed runs g fed

pub run_file_kept : (base own : List ℕ) (f g : Option Files) → own ≡ base → OthersStay own f g → file_at g (full_name base Run) ≡ file_at f (full_name base Run)
run_file_kept base own f g same others =
    let here : OthersStay base f g = subst (λ (b : List ℕ). OthersStay b f g) same others in
    here (full_name base Run) (apart base Run Text (λ n. omega arith)) (apart base Run Places (λ n. omega arith))

-- the index, where the text is written
pub index_kept : RunsStay → (index : Indexing) (own : List ℕ) (f g : Option Files) (terms : ℕ) (fed : List (ℕ × ℕ)) → own ≡ index.runs.base →
    is_some g ≡ is_some f → OthersStay own f g → HasTaken index f terms fed → HasTaken index g terms fed
index_kept stay index own f g terms fed same told others is =
    record { runs = stay index.runs f g fed told (run_file_kept index.runs.base own f g same others) is.runs; counts = is.counts; occurrences = is.occurrences }
