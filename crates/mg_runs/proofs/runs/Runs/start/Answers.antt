use Rattle.std.proofs.Common.{◌≡◌, ◌≤◌, ℕ, List, arith, sym, ◌∙◌, is_some, refl}
use Rattle.std.specs.declared.option.Option.{Option}
use Rattle.mg_dev.specs.Files.{Files, Reads, SameReads}
use Rattle.mg_dev.specs.Names.{full_name}
use Rattle.mg_dev.specs.declared.part.Part.TheVariants.{Run, MergeA, MergeB}
use Rattle.mg_bits.specs.Writer.{WroteTo}
use Rattle.mg_bits.proofs.CallerLemmas.{to_none}
use Rattle.mg_runs.specs.Stays.{SameButRuns}
use Rattle.mg_runs.proofs.Feeding.{fed_start}
use Rattle.mg_runs.proofs.Parts.{apart, started_empty}
use Rattle.mg_runs.proofs.Puts.{cause_more}
use Rattle.mg_runs.proofs.Steps.{put_as}
use Rattle.mg_runs.proofs.runs.Runs.start.Goals as goal

-- the parts of the runs were written, one after another, and nothing was read
but_runs : (base : List ℕ) {f g h i : Option Files} {r s t u : Reads} → WroteTo (full_name base MergeA) f g r s → WroteTo (full_name base MergeB) g h s t →
    WroteTo (full_name base Run) h i t u → SameButRuns base f i × (is_some i ≡ is_some f) × SameReads r u
but_runs base a b c =
    (λ n run merge_a merge_b. c.others n run ∙ b.others n merge_b ∙ a.others n merge_a, c.told ∙ b.told ∙ a.told, λ p. c.reads p ∙ b.reads p ∙ a.reads p)

pub returns-in-Err : goal.returns-in-Err
returns-in-Err g c =
    let all = but_runs c.args.base.now c.reset_part.ensures.wrote (to_none _ _ _) (to_none _ _ _) in
    record {
      fed = tt;
      pool = tt;
      base = tt;
      run = λ told. tt;
      merge_a = λ told. tt;
      merge_b = λ told. tt;
      others = all.0;
      told = all.1;
      reads = all.2;
      cause = put_as _ _ _ _ _ c.in-Err.ensures.cause;
    }

pub returns-in-Err-reset_part : goal.returns-in-Err-reset_part
returns-in-Err-reset_part g c =
    let all = but_runs c.args.base.now c.reset_part.ensures.wrote c.reset_part-2.ensures.wrote (to_none _ _ _) in
    record {
      fed = tt;
      pool = tt;
      base = tt;
      run = λ told. tt;
      merge_a = λ told. tt;
      merge_b = λ told. tt;
      others = all.0;
      told = all.1;
      reads = all.2;
      cause = cause_more _ c.reset_part.ensures.cause.later (put_as _ _ _ _ _ c.in-Err-reset_part.ensures.cause);
    }

pub returns-in-Err-start : goal.returns-in-Err-start
returns-in-Err-start g c =
    let all = but_runs c.args.base.now c.reset_part.ensures.wrote c.reset_part-2.ensures.wrote c.start.ensures.wrote in
    let later : g.S.Store.faults c.args.store.now ≤ g.S.Store.faults c.reset_part-2.new.store = omega (arith, c.reset_part.ensures.cause.later, c.reset_part-2.ensures.cause.later) in
    record {
      fed = tt;
      pool = tt;
      base = tt;
      run = λ told. tt;
      merge_a = λ told. tt;
      merge_b = λ told. tt;
      others = all.0;
      told = all.1;
      reads = all.2;
      cause = cause_more _ later (put_as _ _ _ _ _ c.in-Err-start.ensures.cause);
    }

pub returns : goal.returns
returns g c =
    let all = but_runs c.args.base.now c.reset_part.ensures.wrote c.reset_part-2.ensures.wrote c.start.ensures.wrote in
    let least = c.limit.ensures.least in
    let most = c.limit.ensures.most in
    let value = c.limit.ensures.value in
    record {
      fed = fed_start _ _ (omega (arith, least, value)) (omega (arith, most, value)) c.requires.entries c.requires.slots c.requires.peak c.in-Ok-start.ensures.name
          c.in-Ok-start.ensures.holds (λ told. c.in-Ok-start.ensures.empty (sym c.in-Ok-start.ensures.wrote.told ∙ told)) c.in-Ok-start.ensures.place c.new.ensures.items;
      pool = refl;
      base = refl;
      run = λ told. started_empty _ _ _ c.in-Ok-start.ensures.started (c.in-Ok-reset_part.ensures.wrote.told ∙ c.in-Ok.ensures.wrote.told ∙ told);
      merge_a = λ told.
          c.in-Ok-start.ensures.wrote.others _ (apart c.args.base.now MergeA Run (λ e. omega arith))
          ∙ c.in-Ok-reset_part.ensures.wrote.others _ (apart c.args.base.now MergeA MergeB (λ e. omega arith))
          ∙ c.in-Ok.ensures.empty told;
      merge_b = λ told.
          c.in-Ok-start.ensures.wrote.others _ (apart c.args.base.now MergeB Run (λ e. omega arith))
          ∙ c.in-Ok-reset_part.ensures.empty (c.in-Ok.ensures.wrote.told ∙ told);
      others = all.0;
      told = all.1;
      reads = all.2;
      cause = record { later = omega (arith, c.reset_part.ensures.cause.later, c.reset_part-2.ensures.cause.later, c.start.ensures.cause.later); failed = λ e. absurd cc };
    }
