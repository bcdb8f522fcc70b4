use Rattle.mg_check_parts.proofs.CallerLemmas.{looks_size}
use Rattle.mg_check_index.proofs.Comparing.{ends_elsewhere, ends_there}
use Rattle.mg_check_index.proofs.comparison.Comparison.finish.Goals as goal

pub returns : goal.returns
returns g c = record {
  ended = record {
    done = λ told. rw (← c.self.view_is) (ends_there c.expect_size.result c.self.inside.part _ _ (c.expect_size.ensures.answer told) told);
    bad = λ told. rw (← c.self.view_is) (ends_elsewhere c.expect_size.result c.self.inside.part _ _ (c.expect_size.ensures.answer told));
    looks = looks_size c.expect_size.ensures.files c.expect_size.ensures.reads c.expect_size.ensures.cause;
  };
}
