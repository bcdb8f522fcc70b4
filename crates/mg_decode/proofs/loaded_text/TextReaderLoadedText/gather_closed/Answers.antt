use Rattle.std.proofs.Common.{◌++◌, subst}
use Rattle.mg_defs.specs.Terms.{document}
use Rattle.mg_text.specs.Decoding.{Gathers, Shown}
use Rattle.mg_text.proofs.CallerLemmas.{adds_more}
use Rattle.mg_decode.proofs.DocumentLaws.{byte_put, close_fits, doc_fits, doc_short, grew_close, with_close, without_close}
use Rattle.mg_decode.proofs.loaded_text.TextReaderLoadedText.gather_closed.Goals as goal

pub returns-in-Err-clause-content : goal.returns-in-Err-clause-content
returns-in-Err-clause-content g c = λ collection before bytes most stands shown fits.
    let doc = document collection c.args.number in (
      grew_close before _ bytes _ c.args.closed (c.in-Err.ensures.content collection before bytes most stands shown (doc_fits bytes doc c.args.closed most fits)),
      c.in-Err.ensures.never_bad collection (record { stands = stands; short = doc_short _ bytes doc c.args.closed most shown.rest fits }),
    )

pub returns-then-not-closed-clause-content : goal.returns-then-not-closed-clause-content
returns-then-not-closed-clause-content g c = λ collection before bytes most stands shown fits.
    let doc = document collection c.args.number in (
      subst (λ l. Shown before (g.O.Sink.written c.gather.new.out) c.gather.new.buffer l most) (without_close c.args.closed bytes doc c.if-not-closed.true)
          (c.in-Ok.ensures.content collection before bytes most stands shown (doc_fits bytes doc c.args.closed most fits)),
      tt,
    )

pub returns-clause-content : goal.returns-clause-content
returns-clause-content g c = λ collection before bytes most stands shown fits.
    let doc = document collection c.args.number in
    let there = c.in-Ok.ensures.content collection before bytes most stands shown (doc_fits bytes doc c.args.closed most fits) in
    let is = with_close c.args.closed bytes doc c.if-not-closed.false in (
      subst (λ l. Gathers c.put.result before (g.O.Sink.written c.put.new.out) c.put.new.self l most) is
          (c.put.ensures.shown before (bytes ++ doc) most there),
      byte_put c.put.result _ _ _ _ _ (close_fits c.gather.new.buffer.left bytes doc c.args.closed most there.rest is fits) c.put.ensures.cause,
    )

pub returns-clause-added : goal.returns-clause-added
returns-clause-added g c = adds_more c.in-Ok.ensures.added c.put.ensures.added
