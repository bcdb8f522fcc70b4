use Rattle.mg_check_parts.proofs.CallerLemmas.{looks_ok}
use Rattle.mg_check_index.proofs.NewListsLaws.{follows-on}
use Rattle.mg_check_index.proofs.new_lists.NewLists.start.Goals as goal

pub returns-in-Ok-clause-new : goal.returns-in-Ok-clause-new
returns-in-Ok-clause-new g c =
    let started = c.in-Ok.ensures.started in
    record {
      took = started.took;
      nothing = started.nothing;
      between = started.took.pushed;
      all_are = started.all_are;
      goes = started.goes;
      follows = follows-on started.puts.places c.lists_pair-pair.ensures.follows;
    }

pub returns-in-Ok-clause-looks : goal.returns-in-Ok-clause-looks
returns-in-Ok-clause-looks g c = record { never_bad = tt; looks = looks_ok c.in-Ok.ensures.started.puts.looks }
