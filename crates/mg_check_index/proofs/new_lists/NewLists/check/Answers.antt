use Rattle.std.proofs.Common.{arith, ◌≡◌, ◌+◌, IsSome, length, take, drop, subst, sym}
use Rattle.mg_defs.specs.Lists.{inverted}
use Rattle.mg_check_index.specs.InPair.{pair_files}
use Rattle.mg_check_index.specs.Listing.{AreRooms, CanPush, ListsStand}
use Rattle.mg_check_parts.proofs.CallerLemmas.{looks_err, looks_ok, looks_then}
use Rattle.mg_check_index.proofs.ComparedLaws.{agree_more, not_bad_refutes, stand_follow}
use Rattle.mg_check_index.proofs.LexiconLaws.{refutes_wider}
use Rattle.mg_check_index.proofs.NewListsLaws.{follow-on, follows-on, goes-on, lexicon-goes, took-on}
use Rattle.mg_check_index.proofs.ListedLaws.{can_start, listed_none}
use Rattle.mg_check_index.proofs.new_lists.NewLists.check.Goals as goal

pub push_terms-requires : goal.push_terms-requires
push_terms-requires g c =
    let new = c.requires.new in
    let range = c.requires.range.range in
    let first : c.args.lists.now.first ≡ c.args.lists.now.first + 0 = omega arith in
    record {
      list = record {
        write = record { range = range; all_are = new.all_are; place = c.requires.range.can.compare.within.post };
        can = can_start c.args.lists.now c.args.self.now.writer _ new.took new.nothing new.between (subst (λ n. AreRooms c.args.lists.now n) (sym new.all_are) range.rooms);
        push = subst (λ n. CanPush c.args.of.now.table.now.terms n c.args.compared.now.lexicon.writer (pair_files (g.S.Store.files c.args.store.now) c.args.compared.now.lexicon.pair)) first
            c.requires.range.can.compare.push;
      };
    }

pub compare-requires-clause-took : goal.compare-requires-clause-took
compare-requires-clause-took g c =
    let can = c.in-Ok.ensures.listed.can in
    (can.done, took-on _ _ c.push_terms.new.self.pair (sym c.in-Ok.ensures.listed.step.lists.looks.files) can.took)

pub compare-requires-clause-goes : goal.compare-requires-clause-goes
compare-requires-clause-goes g c = let lists = c.in-Ok.ensures.listed.step.lists in goes-on lists.same lists.places c.requires.new.goes

pub compare-requires-clause-follows : goal.compare-requires-clause-follows
compare-requires-clause-follows g c = follows-on c.in-Ok.ensures.listed.step.lists.places c.requires.new.follows

pub returns-in-Err : goal.returns-in-Err
returns-in-Err g c = record {
  range = record {
    can = tt;
    agree = λ collection told of has. tt;
    other = λ collection told of has.
        let new = c.requires.new in
        let start = listed_none c.args.lists.now c.args.of.now.table.now.terms c.args.compared.now.places collection c.args.self.now.writer _
        c.args.compared.now.lexicon.writer _ c.args.of.now.documents _ _ new.all_are of has.has new.took in
        not_bad_refutes (ListsStand (g.S.Store.files c.args.store.now) c.args.of.now.base.now collection) c.in-Err.refusal (c.in-Err.ensures.listed.never_bad collection start);
    looks = looks_err c.in-Err.ensures.listed.step.lists.looks;
  };
}

pub returns-in-Ok-compare : goal.returns-in-Ok-compare
returns-in-Ok-compare g c = record {
  range = record {
    can = record {
      compare = record { push = c.in-Ok.ensures.listed.push; within = c.in-Ok-compare.ensures.places };
      goes = lexicon-goes c.in-Ok.ensures.listed.step.lexicon_is c.requires.range.can.goes;
    };
    agree = λ collection told of has.
        let w = c.args.lists.now in
        let before = c.args.compared.now.places in
        let new = c.requires.new in
        let start = listed_none w c.args.of.now.table.now.terms before collection c.args.self.now.writer _ c.args.compared.now.lexicon.writer _
        c.args.of.now.documents _ _ new.all_are of has.has new.took in
        let listed = c.in-Ok.ensures.listed.listed collection start in
        let done = take (length w.next) (drop w.first (inverted collection)) in
        let files = c.in-Ok.ensures.listed.step.lists.looks.files in
        let took = took-on _ _ c.push_terms.new.self.pair (sym files) listed.took in
        let now = subst IsSome (sym files) told in
        record {
          has = record {
            lists =
                agree_more (g.S.Store.files c.args.store.now) c.args.of.now.base.now collection w.first (length w.next) c.push_terms.new.self.writer.all before
                c.in-Ok-compare.after listed.of.all_are has.has.lists (follow-on _ _ files (c.in-Ok-compare.ensures.stand done took now))
                (c.in-Ok-compare.ensures.behind done took now);
            terms = listed.lexicon;
          };
        };
    other = λ collection told of has. tt;
    looks = looks_ok (looks_then c.in-Ok.ensures.listed.step.lists.looks c.in-Ok-compare.ensures.looks);
  };
}

pub returns-in-Err-compare : goal.returns-in-Err-compare
returns-in-Err-compare g c = record {
  range = record {
    can = tt;
    agree = λ collection told of has. tt;
    other = λ collection told of has.
        let w = c.args.lists.now in
        let before = c.args.compared.now.places in
        let new = c.requires.new in
        let start = listed_none w c.args.of.now.table.now.terms before collection c.args.self.now.writer _ c.args.compared.now.lexicon.writer _
        c.args.of.now.documents _ _ new.all_are of has.has new.took in
        let listed = c.in-Ok.ensures.listed.listed collection start in
        let done = take (length w.next) (drop w.first (inverted collection)) in
        let files = c.in-Ok.ensures.listed.step.lists.looks.files in
        let took = took-on _ _ c.push_terms.new.self.pair (sym files) listed.took in
        let now = subst IsSome (sym files) told in
        refutes_wider _ (ListsStand (g.S.Store.files c.args.store.now) c.args.of.now.base.now collection) c.in-Err-compare.refusal
        (λ stand. follow-on _ _ (sym files) (stand_follow (g.S.Store.files c.args.store.now) c.args.of.now.base.now collection w.first (length w.next) c.push_terms.new.self.writer.all
        before listed.of.all_are has.has.lists stand)) (c.in-Err-compare.ensures.other done took now);
    looks = looks_err (looks_then c.in-Ok.ensures.listed.step.lists.looks c.in-Err-compare.ensures.looks);
  };
}
