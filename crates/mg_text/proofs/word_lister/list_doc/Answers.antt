use Rattle.std.proofs.Common.{arith, ◌+◌, length, length-append, refl}
use Rattle.mg_bits.specs.Feed.{ReadsWithin}
use Rattle.mg_defs.specs.Codes.{gamma}
use Rattle.mg_defs.specs.Parse.{parse}
use Rattle.mg_defs.proofs.FrontLaws.{shows_left}
use Rattle.mg_text.specs.Decoding.{coded_pairs}
use Rattle.mg_text.proofs.ListLaws.{count_read, doc_listed, head_reads, list_ends_read, number_refused}
use Rattle.mg_text.proofs.word_lister.list_doc.Goals as goal

pub returns-in-Err : goal.returns-in-Err
returns-in-Err g c = number_refused c.in-Err.refusal c.in-Err.ensures.read refl (λ doc all few short small shows.
    let code = c.args.model.now in
    let x = gamma (length (parse doc) + 1) in
    list_ends_read c.in-Err.refusal _ (ReadsWithin _ _ _ _ c.args.r.now.place (c.args.r.now.place + length x)) _ _
    (λ pages. head_reads _ _ _ _ c.args.r.now.place code doc (g.met.F.Feed.whole_pages c.args.r.now.feed).some pages)
    (c.in-Err.ensures.told (length (parse doc)) few (omega (arith, small, length-append x (coded_pairs code (parse doc)))) (shows_left _ c.args.r.now.place x (coded_pairs code (parse doc)) shows)))

pub returns : goal.returns
returns g c = doc_listed c.args.model.now c.list_pairs.result (g.met.F.Feed.whole_pages c.args.r.now.feed).some refl
    (count_read c.in-Ok.count c.in-Ok.ensures.read refl c.in-Ok.ensures.told c.in-Ok.ensures.stood) c.list_pairs.ensures
