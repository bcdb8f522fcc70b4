use Rattle.std.proofs.Common.{◌∙◌, sym}
use Rattle.mg_dev.specs.Names.{full_name}
use Rattle.mg_dev.specs.declared.part.Part.TheVariants.{Lex, LexAt}
use Rattle.mg_check_index.proofs.PairLaws.{kept, looks-kept, made-kept, own-put, put-done, put-part, bytes-one, bytes-other, puts-kept, same-references, told-pair}
use Rattle.mg_check_index.proofs.pair_lexicon.finish_into.Goals as goal

pub returns-in-Ok-clause-same : goal.returns-in-Ok-clause-same
returns-in-Ok-clause-same g c = same-references (kept (made-kept _ _ _ _ c.finish.ensures.writes.reads))

pub returns-in-Err-clause-same : goal.returns-in-Err-clause-same
returns-in-Err-clause-same g c = same-references (kept (made-kept _ _ _ _ c.finish.ensures.writes.reads))

pub returns-in-Ok-clause-finished : goal.returns-in-Ok-clause-finished
returns-in-Ok-clause-finished g c =
    let is = kept (made-kept _ _ _ _ c.finish.ensures.writes.reads) in
    let cause = own-put _ _ _ _ c.requires.unread (looks-kept _ _ _ _ c.finish.ensures.writes.reads) c.finish.ensures.writes.cause in
    let old = g.S.Store.files c.args.into.now.store.now in
    let now = g.S.Store.files c.finish.new.store.store.now in
    let p = c.args.into.now.pair.now in
    let q = c.finish.new.store.pair.now in
    record {
      holds = λ told ts took.
          let stand = c.in-Ok.ensures.finished ts took (told-pair old p told) in
          record {
            strings = sym (bytes-one old now p q (full_name c.args.writer.now.base Lex) is.files is.places c.requires.can.lex told) ∙ stand.lex;
            places = sym (bytes-other old now p q (full_name c.args.writer.now.base LexAt) is.files is.places c.requires.can.lex_at told) ∙ stand.lex_at;
          };
      never_bad = tt;
      puts = puts-kept is (put-done _ _ cause);
    }

pub returns-in-Err-clause-finished : goal.returns-in-Err-clause-finished
returns-in-Err-clause-finished g c =
    let is = kept (made-kept _ _ _ _ c.finish.ensures.writes.reads) in
    let cause = own-put _ _ _ _ c.requires.unread (looks-kept _ _ _ _ c.finish.ensures.writes.reads) c.in-Err.ensures.writes.cause in
    record {
      holds = λ told ts took. tt;
      never_bad = c.refusal_of.ensures.never_bad;
      puts = puts-kept is (put-part _ _ _ _ c.refusal_of.ensures.failed cause);
    }
