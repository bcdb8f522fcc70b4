use Rattle.mg_bits.proofs.page_feed.PageFeed.new.Goals as goal

pub returns-clause-fits : goal.returns-clause-fits
returns-clause-fits g c = λ files. record { held = λ told. rw c.empty.ensures.held tt }
