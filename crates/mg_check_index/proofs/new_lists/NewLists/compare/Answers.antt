use Rattle.std.proofs.Common.{◌∙◌, IsSome, sym, subst}
use Rattle.mg_check_parts.proofs.CallerLemmas.{looks_err, looks_ok, looks_then}
use Rattle.mg_check_index.specs.Listing.{ListsFollow}
use Rattle.mg_check_index.proofs.LexiconLaws.{refutes_wider}
use Rattle.mg_check_index.proofs.NewListsLaws.{both-behind, both-follow, follows-on, post-stood, skip-stood}
use Rattle.mg_check_index.proofs.new_lists.NewLists.compare.Goals as goal

pub returns-in-Err-finish-clause-other : goal.returns-in-Err-finish-clause-other
returns-in-Err-finish-clause-other g c = λ done took told.
    let f = g.S.Store.files c.args.store.now in
    let same = c.in-Ok.ensures.finished.puts.looks.files in
    let follows = follows-on c.in-Ok.ensures.finished.puts.places c.requires.follows in
    let holds = c.in-Ok.ensures.finished.holds told done took in
    refutes_wider _ (ListsFollow f c.args.base.now c.args.self.now.writer.all done c.args.before) c.in-Err-finish.refusal
    (λ follow. post-stood f (g.S.Store.files c.finish_compared.new.store) c.finish_compared.new.pair c.args.base.now _ done c.args.before same follows holds follow)
    (c.in-Err-finish.ensures.other (subst IsSome (sym same) told))

pub returns-in-Ok-finish-2-clause-stand : goal.returns-in-Ok-finish-2-clause-stand
returns-in-Ok-finish-2-clause-stand g c = λ done took told.
    let f = g.S.Store.files c.args.store.now in
    let same = c.in-Ok.ensures.finished.puts.looks.files in
    let same_then = c.in-Ok-finish.ensures.looks.files ∙ same in
    let follows = follows-on c.in-Ok.ensures.finished.puts.places c.requires.follows in
    both-follow f (g.S.Store.files c.finish_compared.new.store) (g.S.Store.files c.finish.new.store) c.finish_compared.new.pair c.args.base.now _ done c.args.before same same_then follows
    (c.in-Ok.ensures.finished.holds told done took) (c.in-Ok-finish.ensures.stand (subst IsSome (sym same) told)) (c.in-Ok-finish-2.ensures.stand (subst IsSome (sym same_then) told))

pub returns-in-Ok-finish-2-clause-behind : goal.returns-in-Ok-finish-2-clause-behind
returns-in-Ok-finish-2-clause-behind g c = λ done took told.
    let f = g.S.Store.files c.args.store.now in
    let same = c.in-Ok.ensures.finished.puts.looks.files in
    let same_then = c.in-Ok-finish.ensures.looks.files ∙ same in
    let follows = follows-on c.in-Ok.ensures.finished.puts.places c.requires.follows in
    both-behind f (g.S.Store.files c.finish_compared.new.store) (g.S.Store.files c.finish.new.store) c.finish_compared.new.pair c.args.base.now _ done c.args.before _ same same_then
    follows (c.in-Ok.ensures.finished.holds told done took) (c.in-Ok-finish.ensures.end (subst IsSome (sym same) told)) (c.in-Ok-finish-2.ensures.end (subst IsSome (sym same_then) told))

pub returns-in-Err-finish-2-clause-other : goal.returns-in-Err-finish-2-clause-other
returns-in-Err-finish-2-clause-other g c = λ done took told.
    let f = g.S.Store.files c.args.store.now in
    let same = c.in-Ok-finish.ensures.looks.files ∙ c.in-Ok.ensures.finished.puts.looks.files in
    let follows = follows-on c.in-Ok.ensures.finished.puts.places c.requires.follows in
    let holds = c.in-Ok.ensures.finished.holds told done took in
    refutes_wider _ (ListsFollow f c.args.base.now c.args.self.now.writer.all done c.args.before) c.in-Err-finish-2.refusal
    (λ follow. skip-stood f (g.S.Store.files c.finish.new.store) c.finish_compared.new.pair c.args.base.now _ done c.args.before same follows holds follow)
    (c.in-Err-finish-2.ensures.other (subst IsSome (sym same) told))

pub returns-in-Err-clause-looks : goal.returns-in-Err-clause-looks
returns-in-Err-clause-looks g c = looks_err c.in-Err.ensures.finished.puts.looks

pub returns-in-Err-finish-clause-looks : goal.returns-in-Err-finish-clause-looks
returns-in-Err-finish-clause-looks g c = looks_then c.in-Ok.ensures.finished.puts.looks (looks_err c.in-Err-finish.ensures.looks)

pub returns-in-Ok-finish-2-clause-looks : goal.returns-in-Ok-finish-2-clause-looks
returns-in-Ok-finish-2-clause-looks g c = looks_then c.in-Ok.ensures.finished.puts.looks (looks_then c.in-Ok-finish.ensures.looks (looks_ok c.in-Ok-finish-2.ensures.looks))

pub returns-in-Err-finish-2-clause-looks : goal.returns-in-Err-finish-2-clause-looks
returns-in-Err-finish-2-clause-looks g c = looks_then c.in-Ok.ensures.finished.puts.looks (looks_then c.in-Ok-finish.ensures.looks (looks_err c.in-Err-finish-2.ensures.looks))
