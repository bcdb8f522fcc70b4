use Rattle.std.proofs.Common.{rules, ◌≡◌, [], length, sym, ◌∙◌, ap, subst, arith, unwrap_or}
use Rattle.std.specs.Prelude.{IfOk}
use Rattle.mg_dev.specs.Files.{bytes_at}
use Rattle.mg_dev.specs.Names.{full_name}
use Rattle.mg_dev.specs.declared.part.Part.TheVariants.{Run}
use Rattle.mg_dev.proofs.CallerLemmas.{cause_err, cause_then}
use Rattle.mg_bits.specs.Writer.{AreBytes}
use Rattle.mg_defs.specs.Bits.{bits_of}
use Rattle.mg_defs.specs.Postings.{term_postings}
use Rattle.mg_runs.specs.declared.round.Round.{Round}
use Rattle.mg_runs.specs.declared.merge.Merge.{Merge}
use Rattle.mg_runs.specs.Left.{Merging}
use Rattle.mg_runs.proofs.LastRun.{on_ok, run_made, runs_fit, peak_all}
use Rattle.mg_runs.proofs.RoundsLoop.{fed_count}
use Rattle.mg_runs.proofs.RoundsFirst.{fed_cap, fed_stored}
use Rattle.mg_runs.proofs.Naming.{refusal_names_its}
use Rattle.mg_runs.proofs.Steps.{damage_none, undamaged_as}
use Rattle.mg_runs.proofs.Working.{worked_wrote, worked_more, worked_looked}
use Rattle.mg_runs.proofs.runs.Runs.merge_by.Goals as goal

pub overflow_cast-runs : goal.overflow_cast-runs
overflow_cast-runs g c =
    let fed = c.requires.fed.0 in
    let is = c.requires.fed.1 in
    let count = fed_count _ _ fed (fed_cap _ _ fed is).0 (c.in-Ok.ensures.finished.places fed is) in
    let few = runs_fit _ _ (fed_cap _ _ fed is).0 is.few in
    omega (arith, c.len-runs.ensures, count, few)

pub returns-in-Ok-rounds : goal.returns-in-Ok-rounds
returns-in-Ok-rounds g c = record {
  merged =
      let name = full_name c.args.self.base Run in
      let run = rw c.in-Ok.ensures.finished.base at c.rounds.ensures.done.run in
      let rounds = rw c.in-Ok.ensures.finished.base at c.rounds.ensures.done.step.worked in
      let told_by = rw (c.in-Ok.ensures.finished.base, c.in-Ok.ensures.finished.part) at c.in-Ok-rounds.ensures.done.told in
      let same : bytes_at (g.S.Store.files c.open.new.store) name ≡ bytes_at (g.S.Store.files c.finish.new.store) name
      = ap (λ f. bytes_at f name) c.open.ensures.opened.read.looked.files ∙ ap (λ b. unwrap_or b []) run in
      let worked = worked_more (worked_wrote c.finish.ensures.finished.wrote c.finish.ensures.finished.cause.later)
      (worked_more rounds (worked_looked c.in-Ok-rounds.ensures.done.last.part c.open.ensures.opened.read.looked)) in
      record {
        left = λ fed is.
            c.open.ensures.opened.left (term_postings fed) (λ told.
            let now = sym c.rounds.ensures.done.step.worked.told ∙ told in
            let was = sym c.finish.ensures.finished.wrote.told ∙ now in
            let stored = fed_stored _ _ fed _ _ is (c.in-Ok.ensures.finished.run was fed is) (c.in-Ok.ensures.finished.places fed is) in
            told_by now (term_postings fed) stored);
        run = λ told fed is. on_ok _ c.open.result (ap (λ b. bits_of b) same ∙ c.in-Ok.ensures.finished.run told fed is);
        run_bytes = λ told fed is.
            run_made c.open.result _ _ (subst AreBytes (sym same) (c.in-Ok.ensures.finished.bytes told)) (ap (λ b. bits_of b) same ∙ c.in-Ok.ensures.finished.run told fed is);
        runs = λ fed is.
            let size : c.len-runs.result ≡ length c.in-Ok.first.places.items = omega (arith, c.len-runs.ensures) in
            subst (λ k. IfOk c.open.result (λ (m : Merging). m.runs ≡ k)) (size ∙ fed_count _ _ fed (fed_cap _ _ fed is).0 (c.in-Ok.ensures.finished.places fed is)) c.open.ensures.opened.runs;
        peak = λ fed is.
            let count = fed_count _ _ fed (fed_cap _ _ fed is).0 (c.in-Ok.ensures.finished.places fed is) in
            let top = peak_all (length fed) _ c.args.width _ _ c.in-Ok.first.pool.peak _ (c.in-Ok.ensures.finished.peak ∙ is.peak) count
            c.in-Ok-rounds.ensures.done.last.peak c.in-Ok-rounds.ensures.done.last.few in
            subst (λ k. IfOk c.open.result (λ (m : Merging). m.peak ≡ k)) top c.open.ensures.opened.peak;
        few = c.open.ensures.opened.few;
        base = search rules;
        undamaged = λ told.
            let fed = c.requires.fed.0 in
            let is = c.requires.fed.1 in
            let now = c.finish.ensures.finished.wrote.told ∙ told in
            let stored = fed_stored _ _ fed _ _ is (c.in-Ok.ensures.finished.run told fed is) (c.in-Ok.ensures.finished.places fed is) in
            c.open.ensures.opened.undamaged (c.rounds.ensures.done.step.worked.told ∙ now) (term_postings fed) (told_by now (term_postings fed) stored);
        step = record {
          worked = worked;
          cause = cause_then c.open.result (omega (arith, c.finish.ensures.finished.cause.later, c.rounds.ensures.done.step.worked.faults)) c.open.ensures.opened.read.cause;
          names = refusal_names_its c.in-Ok-rounds.last.file.part c.open.result c.in-Ok-rounds.ensures.done.last.part c.open.ensures.opened.read.names;
        };
      };
}

pub returns-in-Err-rounds : goal.returns-in-Err-rounds
returns-in-Err-rounds g c = record {
  merged =
      let rounds = rw c.in-Ok.ensures.finished.base at c.rounds.ensures.done.step.worked in
      let damage = rw (c.in-Ok.ensures.finished.base, c.in-Ok.ensures.finished.part) at c.in-Err-rounds.ensures.done.told in
      record {
        left = λ fed is. tt;
        run = λ told fed is. tt;
        run_bytes = λ told fed is. tt;
        runs = λ fed is. tt;
        peak = λ fed is. tt;
        few = tt;
        base = tt;
        undamaged = λ told.
            let fed = c.requires.fed.0 in
            let is = c.requires.fed.1 in
            let now = c.finish.ensures.finished.wrote.told ∙ told in
            let stored = fed_stored _ _ fed _ _ is (c.in-Ok.ensures.finished.run told fed is) (c.in-Ok.ensures.finished.places fed is) in
            damage_none Round Merge _ c.in-Err-rounds.refusal (damage now (term_postings fed) stored);
        step = record {
          worked = worked_more (worked_wrote c.finish.ensures.finished.wrote c.finish.ensures.finished.cause.later) rounds;
          cause = cause_err {T = Round} c.finish.ensures.finished.cause.later c.in-Err-rounds.ensures.done.step.cause;
          names = c.in-Err-rounds.ensures.done.step.names;
        };
      };
}

pub returns-in-Err : goal.returns-in-Err
returns-in-Err g c = record {
  merged =
      record {
        left = λ fed is. tt;
        run = λ told fed is. tt;
        run_bytes = λ told fed is. tt;
        runs = λ fed is. tt;
        peak = λ fed is. tt;
        few = tt;
        base = tt;
        undamaged = λ told. undamaged_as Round Merge c.in-Err.refusal c.in-Err.ensures.finished.undamaged;
        step = record {
          worked = worked_wrote c.finish.ensures.finished.wrote c.finish.ensures.finished.cause.later;
          cause = cause_err {T = Round} (omega arith) c.in-Err.ensures.finished.cause;
          names = c.in-Err.ensures.finished.names;
        };
      };
}
