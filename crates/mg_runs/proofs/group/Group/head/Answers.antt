use Rattle.std.proofs.Common.{◌<◌, ◌≤◌, List, length, sym, subst, ◌∙◌, arith}
use Rattle.std.proofs.lemmas.List.{get_or_default}
use Rattle.mg_runs.specs.Cursors.{HasPosting}
use Rattle.mg_runs.specs.Merging.{no_cursor}
use Rattle.mg_runs.specs.declared.cursor.Cursor.{Cursor}
use Rattle.mg_runs.proofs.Heads.{head_told, none_told}
use Rattle.mg_runs.proofs.group.Group.head.Goals as goal

pub returns-then-cursor-eq0 : goal.returns-then-cursor-eq0
returns-then-cursor-eq0 c =
    let cursors : List Cursor = c.args.self.now.cursors.items in
    let h : c.least-run.result < length cursors = omega (arith, c.least-run.ensures.within, c.requires.shape.key_count) in
    let same = c.index-cursor.ensures ∙ get_or_default cursors c.least-run.result c.index-cursor.result.now no_cursor h in
    record {
      told = λ file lefts stand. none_told c.requires.shape stand c.least-run.result c.index-cursor.result.now h same c.if-cursor-eq0.true c.least-run.ensures.least;
      left = tt;
      in_document = tt;
    }

pub returns : goal.returns
returns c =
    let cursors : List Cursor = c.args.self.now.cursors.items in
    let h : c.least-run.result < length cursors = omega (arith, c.least-run.ensures.within, c.requires.shape.key_count) in
    let same = c.index-cursor.ensures ∙ get_or_default cursors c.least-run.result c.index-cursor.result.now no_cursor h in
    let some : 1 ≤ c.index-cursor.result.now.left = omega (arith, c.if-cursor-eq0.false) in
    record {
      told = λ file lefts stand.
          head_told _ cursors _ file lefts c.least-run.result c.index-cursor.result.now c.requires.shape stand h same c.if-cursor-eq0.false c.least-run.ensures.least;
      left = record { within = h; left = subst (λ (x : Cursor). 1 ≤ x.left) same some };
      in_document = subst (λ (x : Cursor). HasPosting x) (sym same) (c.requires.shape.postings c.least-run.result no_cursor h) some;
    }
