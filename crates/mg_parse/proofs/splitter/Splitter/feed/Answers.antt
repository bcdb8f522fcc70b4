use Rattle.mg_parse.proofs.splitter.Splitter.feed.Goals as goal
use Rattle.mg_parse.proofs.Fed.{stands_closed, stands_open}

pub returns-then-byte-eq-CLOSE-clause-stands : goal.returns-then-byte-eq-CLOSE-clause-stands
returns-then-byte-eq-CLOSE-clause-stands c fed h =
    stands_closed _ fed _ c.if-byte-eq-CLOSE.true (rw (← c.self.view_is) at h)

pub returns-else-byte-eq-CLOSE-clause-stands : goal.returns-else-byte-eq-CLOSE-clause-stands
returns-else-byte-eq-CLOSE-clause-stands c fed h =
    stands_open _ fed _ c.if-byte-eq-CLOSE.false (rw (← c.self.view_is) at h)
