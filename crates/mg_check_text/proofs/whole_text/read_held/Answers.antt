use Rattle.std.proofs.Common.{◌≡◌, ◌∙◌, Err, sym}
use Rattle.mg_layout.specs.Stands.{parts_at}
use Rattle.mg_check_text.specs.Checking.{IsAtEnd}
use Rattle.mg_check_text.proofs.ReadLaws.{text_err, text_looks}
use Rattle.mg_check_text.proofs.NextLaws.{end-here, on-bad, text-found, text-none, told-there}
use Rattle.mg_check_text.proofs.whole_text.read_held.Goals as goal

pub returns-in-Err : goal.returns-in-Err
returns-in-Err g c =
    let e = c.in-Err.ensures.read in
    record { found = λ loaded. tt; none = e.none; text = text_err e.text }

pub returns-in-Ok-expect_end : goal.returns-in-Ok-expect_end
returns-in-Ok-expect_end g c =
    let read = c.in-Ok.ensures.read in
    let same : c.model.result.now ≡ c.args.reader.now.code = c.model.ensures ∙ read.text.same.code in
    record {
      found = λ loaded. text-found loaded (read.found loaded.told) c.in-Ok.ensures.all
          (end-here (g.S.Store.files c.args.store.now) (g.S.Store.files c.read_docs.new.store) c.args.set.now.base.now c.args.set.now.head.now c.args.reader.now.code
          c.model.result.now c.in-Ok.progress read.text.looks.files same (c.in-Ok-expect_end.ensures.so (told-there read.text.looks.files loaded.told)));
      none = λ loaded. tt;
      text = text_looks read.text c.in-Ok-expect_end.ensures.looks;
    }

pub returns : goal.returns
returns g c =
    let read = c.in-Ok.ensures.read in
    let same : c.model.result.now ≡ c.args.reader.now.code = c.model.ensures ∙ read.text.same.code in
    record {
      found = λ loaded. tt;
      none = λ loaded. text-none c.in-Err-expect_end.refusal loaded (read.found loaded.told) c.in-Ok.ensures.all
          (on-bad (IsAtEnd (parts_at (g.S.Store.files c.read_docs.new.store) c.args.set.now.base.now) c.args.set.now.head.now c.model.result.now c.in-Ok.progress)
          (IsAtEnd (parts_at (g.S.Store.files c.args.store.now) c.args.set.now.base.now) c.args.set.now.head.now c.args.reader.now.code c.in-Ok.progress)
          (Err c.in-Err-expect_end.refusal)
          (λ ends. end-here (g.S.Store.files c.read_docs.new.store) (g.S.Store.files c.args.store.now) c.args.set.now.base.now c.args.set.now.head.now c.model.result.now
          c.args.reader.now.code c.in-Ok.progress (sym read.text.looks.files) (sym same) ends)
          (c.in-Err-expect_end.ensures.other (told-there read.text.looks.files loaded.told)));
      text = text_looks read.text c.in-Err-expect_end.ensures.looks;
    }
