use Rattle.std.proofs.Common.{sym, subst}
use Rattle.mg_layout.specs.Stands.{StandsBy}
use Rattle.mg_make.proofs.CallerLemmas.{rose_behind}
use Rattle.mg_merge.proofs.LookLaws.{looks_more}
use Rattle.mg_make.proofs.CallerLemmas.{read_for}
use Rattle.mg_merge.proofs.TextLaws.{fits_on, same_text, stands_on}
use Rattle.mg_merge.proofs.texts.load_both.Goals as goal

pub returns-in-Err-clause-refused : goal.returns-in-Err-clause-refused
returns-in-Err-clause-refused g c = read_for c.in-Err.refusal (λ rose. rose) (λ some. (some.2.first_code, some.0, some.2.first_stands)) c.in-Err.ensures.refused

pub returns-in-Err-load_text-clause-refused : goal.returns-in-Err-load_text-clause-refused
returns-in-Err-load_text-clause-refused g c = rw c.without.ensures (read_for c.in-Err-load_text.refusal (λ rose. rose_behind _ _ _ c.in-Ok.ensures.looks.later rose)
    (λ some. (
      some.2.second_code,
      some.1,
      subst (λ f. StandsBy c.args.heads.now.1 some.2.second_code f c.args.second.now some.1) (sym c.in-Ok.ensures.looks.files)
          some.2.second_stands,
    )) c.in-Err-load_text.ensures.refused)

pub returns-in-Ok-load_text-clause-readers : goal.returns-in-Ok-load_text-clause-readers
returns-in-Ok-load_text-clause-readers g c = record {
  first_fits = fits_on _ _ _ c.in-Ok-load_text.ensures.looks.files c.in-Ok.ensures.fits;
  second_fits = c.in-Ok-load_text.ensures.fits;
  first_reader = c.in-Ok.ensures.reader;
  second_reader = c.in-Ok-load_text.ensures.reader;
}

pub returns-in-Ok-load_text-clause-stand : goal.returns-in-Ok-load_text-clause-stand
returns-in-Ok-load_text-clause-stand g c = λ a b sets. record {
  first = stands_on _ _ (g.S.Store.files c.load_text.new.store) (g.S.Store.files c.load_text-2.new.store) a (same_text _) c.in-Ok-load_text.ensures.looks.files
      (c.in-Ok.ensures.stands sets.first_code a sets.first_stands);
  second = c.in-Ok-load_text.ensures.stands sets.second_code b (subst (λ f. StandsBy c.args.heads.now.1 sets.second_code f c.args.second.now b) (sym c.in-Ok.ensures.looks.files) sets.second_stands);
}

-- ---- what is read

pub returns-in-Err-clause-looks : goal.returns-in-Err-clause-looks
returns-in-Err-clause-looks g c = c.in-Err.ensures.looks

pub returns-in-Err-load_text-clause-looks : goal.returns-in-Err-load_text-clause-looks
returns-in-Err-load_text-clause-looks g c = looks_more c.in-Ok.ensures.looks c.in-Err-load_text.ensures.looks

pub returns-in-Ok-load_text-clause-looks : goal.returns-in-Ok-load_text-clause-looks
returns-in-Ok-load_text-clause-looks g c = looks_more c.in-Ok.ensures.looks c.in-Ok-load_text.ensures.looks
