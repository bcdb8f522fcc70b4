use Rattle.mg_layout.proofs.CallerLemmas.{told_set}
use Rattle.mg_text.proofs.TextSizes.{text_small}
use Rattle.mg_text.proofs.ReaderLaws.{text_fits, text_stays, text_written}
use Rattle.mg_text.proofs.Sets.{set_is_text}
use Rattle.mg_text.proofs.reader_laws.texts_stand.Goals as goal

pub returns-clause-small : goal.returns-clause-small
returns-clause-small c = text_small

pub returns-clause-stays : goal.returns-clause-stays
returns-clause-stays c = text_stays

pub returns-clause-fits : goal.returns-clause-fits
returns-clause-fits c = text_fits

pub returns-clause-written : goal.returns-clause-written
returns-clause-written c = text_written

pub returns-clause-set : goal.returns-clause-set
returns-clause-set c = set_is_text

pub returns-clause-told : goal.returns-clause-told
returns-clause-told c = λ base files head code collection told tell stand.
    set_is_text base files head code collection (told_set files base collection head code record { told = told; stand = stand } tell)
