use Rattle.mg_top.proofs.top.run_named.Goals as goal

pub returns-in-Query : goal.returns-in-Query
returns-in-Query g c = λ err err_now. rw c.in-Query.is (c.run_query.ensures.does err err_now)

pub returns-in-Decode : goal.returns-in-Decode
returns-in-Decode g c = λ err err_now. rw c.in-Decode.is (c.run_decode.ensures.does _ err err_now)

pub returns-in-Scan : goal.returns-in-Scan
returns-in-Scan g c = λ err err_now. rw c.in-Scan.is (c.run_scan.ensures.does err err_now)

pub returns-in-Check : goal.returns-in-Check
returns-in-Check g c = λ err err_now. rw c.in-Check.is (c.run_check.ensures.does _ err err_now)

pub returns-in-Wild : goal.returns-in-Wild
returns-in-Wild g c = λ err err_now. rw c.in-Wild.is (c.run_wild.ensures.does err err_now)

pub returns-in-Phrase : goal.returns-in-Phrase
returns-in-Phrase g c = λ err err_now. rw c.in-Phrase.is (c.run_phrase.ensures.does err err_now)
