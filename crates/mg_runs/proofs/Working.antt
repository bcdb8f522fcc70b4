-- Calls that work on the parts of the runs of one base.
use Rattle.std.proofs.Common.{◌≡◌, ◌≢◌, ℕ, ◌+◌, ◌-◌, ◌*◌, ◌/◌, ◌≤◌, List, refl, ap, ◌∙◌, arith, false, is_some}
use Rattle.std.specs.declared.option.Option.{Option}
use Rattle.mg_dev.specs.Files.{Files, Reads, file_at}
use Rattle.mg_dev.specs.Names.{full_name, same_part}
use Rattle.mg_dev.specs.declared.part.Part.{Part}
use Rattle.mg_dev.specs.declared.part.Part.TheVariants.{Run, MergeA, MergeB}
use Rattle.mg_bits.specs.Pages.{Looked}
use Rattle.mg_bits.specs.Writer.{WroteTo}
use Rattle.mg_runs.specs.Joins.{IsRunPart, Passed, Worked, other}
use Rattle.mg_runs.proofs.Parts.{apart}
use Rattle.mg_runs.proofs.Rounds.{ceil_high}

pub other_is : (part : Part) → IsRunPart (other part)
other_is MergeA = record { low = omega arith; high = omega arith }
other_is part = record { low = omega arith; high = omega arith }

run_other : (base : List ℕ) (part : Part) → full_name base Run ≢ full_name base (other part)
run_other base MergeA = apart base Run MergeB (λ e. omega arith)
run_other base part = apart base Run MergeA (λ e. omega arith)

away_other : (base n : List ℕ) (part : Part) → n ≢ full_name base MergeA → n ≢ full_name base MergeB → n ≢ full_name base (other part)
away_other base n MergeA a b = b
away_other base n part a b = a

same_of : (p part : Part) → IsRunPart part → same_part p Run ≡ false → same_part p MergeA ≡ false → same_part p MergeB ≡ false → same_part p part ≡ false
same_of p Run is r a b = r
same_of p MergeA is r a b = a
same_of p MergeB is r a b = b
same_of p part is r a b = absurd (omega (arith, is.low, is.high))

-- a round leaves Run as it was
pub passed_run : (base : List ℕ) (part : Part) {f g : Option Files} {r s : Reads} {m n : ℕ} → Passed part (full_name base (other part)) f g r s m n →
    file_at g (full_name base Run) ≡ file_at f (full_name base Run)
passed_run base part passed = passed.others (full_name base Run) (run_other base part)

pub worked_passed : {base : List ℕ} (part : Part) {f g : Option Files} {r s : Reads} {m n : ℕ} → IsRunPart part → Passed part (full_name base (other part)) f g r s m n → Worked base f g r s m n
worked_passed {base = base} part is passed = record {
  told = passed.told;
  others = λ k not_run not_a not_b. passed.others k (away_other base k part not_a not_b);
  later = passed.later;
  reads = λ p not_run not_a not_b. passed.reads p (same_of p part is not_run not_a not_b);
  faults = passed.faults;
}

pub worked_looked : {base : List ℕ} {part : Part} {f g : Option Files} {r s : Reads} {m n : ℕ} → IsRunPart part → Looked part f g r s m n → Worked base f g r s m n
worked_looked {part = part} is looked = record {
  told = ap (λ x. is_some x) looked.files;
  others = λ k not_run not_a not_b. ap (λ x. file_at x k) looked.files;
  later = looked.later;
  reads = λ p not_run not_a not_b. looked.others p (same_of p part is not_run not_a not_b);
  faults = looked.faults;
}

pub worked_wrote : {base : List ℕ} {f g : Option Files} {r s : Reads} {m n : ℕ} → WroteTo (full_name base Run) f g r s → m ≤ n → Worked base f g r s m n
worked_wrote wrote le = record {
  told = wrote.told;
  others = λ k not_run not_a not_b. wrote.others k not_run;
  later = λ p. let e = wrote.reads p in omega arith;
  reads = λ p not_run not_a not_b. wrote.reads p;
  faults = le;
}

pub worked_none : (base : List ℕ) (f : Option Files) (r : Reads) (n : ℕ) → Worked base f f r r n n
worked_none base f r n = record { told = refl; others = λ k not_run not_a not_b. refl; later = λ p. omega arith; reads = λ p not_run not_a not_b. refl; faults = omega arith }

pub worked_more : {base : List ℕ} {f g h : Option Files} {r s t : Reads} {l m n : ℕ} → Worked base f g r s l m → Worked base g h s t m n → Worked base f h r t l n
worked_more one two = record {
  told = two.told ∙ one.told;
  others = λ k not_run not_a not_b. two.others k not_run not_a not_b ∙ one.others k not_run not_a not_b;
  later = λ p. let a = one.later p in let b = two.later p in omega arith;
  reads = λ p not_run not_a not_b. two.reads p not_run not_a not_b ∙ one.reads p not_run not_a not_b;
  faults = let a = one.faults in let b = two.faults in omega arith;
}

-- a round leaves a run
pub some_next : (width many few : ℕ) → 1 ≤ width → 1 ≤ many → few ≡ (many + width - 1) / width → few ≡ 0 → ⊥
some_next width many few some more is none =
    let h : many ≤ (many + width - 1) / width * width = ceil_high many width some in
    let z : (many + width - 1) / width ≡ 0 = omega arith in
    let e : (many + width - 1) / width * width ≡ 0 * width = ap (λ k. k * width) z in
    let zero : 0 * width ≡ 0 = omega arith in
    omega arith
