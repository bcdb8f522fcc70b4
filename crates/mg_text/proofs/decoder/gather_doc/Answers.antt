use Rattle.std.proofs.Common.{arith, ◌+◌, length, length-append, refl}
use Rattle.mg_bits.specs.Feed.{ReadsWithin}
use Rattle.mg_defs.specs.Codes.{gamma}
use Rattle.mg_defs.specs.Parse.{parse}
use Rattle.mg_defs.proofs.FrontLaws.{shows_left}
use Rattle.mg_text.specs.Decoding.{coded_pairs}
use Rattle.mg_text.proofs.PairLaws.{head_stopped}
use Rattle.mg_text.proofs.StepLaws.{doc_shown, number_read, number_refused}
use Rattle.mg_text.proofs.Steps.{ends_read}
use Rattle.mg_text.proofs.decoder.gather_doc.Goals as goal

pub returns-in-Err : goal.returns-in-Err
returns-in-Err g c = number_refused c.in-Err.refusal c.in-Err.ensures.read refl refl (λ doc all few before bytes most small shows shown fits.
    let code = c.args.model.now in
    let x = gamma (length (parse doc) + 1) in
    ends_read c.in-Err.refusal _ (ReadsWithin _ _ _ _ c.args.r.now.place (c.args.r.now.place + length x)) _ _
    (λ pages. head_stopped _ _ _ _ c.args.r.now.place code doc before _ _ bytes (g.met.F.Feed.whole_pages c.args.r.now.feed).some shown pages)
    (c.in-Err.ensures.told (length (parse doc)) few (omega (arith, small, length-append x (coded_pairs code (parse doc)))) (shows_left _ c.args.r.now.place x (coded_pairs code (parse doc)) shows)))

pub returns : goal.returns
returns g c = doc_shown c.args.model.now c.show_pairs.result (g.met.F.Feed.whole_pages c.args.r.now.feed).some refl refl
    (number_read c.in-Ok.count c.in-Ok.ensures.read refl refl c.in-Ok.ensures.told c.in-Ok.ensures.stood) c.show_pairs.ensures
