use Rattle.std.proofs.Common.{arith, ◌≡◌, ◌+◌, ◌∙◌, length, subst, sym}
use Rattle.mg_check_index.specs.InPair.{pair_files}
use Rattle.mg_check_index.specs.Listing.{CanList, CanPush, HasListed}
use Rattle.mg_check_index.proofs.NewListsLaws.{can-list-on, can-push-on, lexicon-more, lexicon-none, listed-on, writes-none, writes-ok, writes-then}
use Rattle.mg_check_index.proofs.new_lists.NewLists.push_terms.Goals as goal

pub loop-index-init : goal.loop-index-init
loop-index-init g c = record {
  can = c.requires.list.can;
  push = c.requires.list.push;
  listed = λ collection has. has;
  step = record { lists = writes-none c.args.self.now _ _ _; lexicon_is = lexicon-none c.args.lexicon.now };
}

pub push_term-requires-clause-list : goal.push_term-requires-clause-list
push_term-requires-clause-list g c =
    let inv = c.loop-index.invariant in
    let write = c.requires.list.write in
    record {
      write = record { range = write.range; all_are = inv.step.lists.same.all ∙ write.all_are; place = write.place };
      can = can-list-on _ _ c.loop-index.self.pair (sym inv.step.lists.looks.files) inv.can;
      push = can-push-on _ _ c.loop-index.lexicon.pair (sym inv.step.lists.looks.files) inv.push;
    }

pub loop-index-preserved : goal.loop-index-preserved
loop-index-preserved g c =
    let inv = c.loop-index.invariant in
    let listed = c.in-Ok.ensures.listed in
    let files = inv.step.lists.looks.files in
    record {
      can = can-list-on _ _ c.push_term.new.self.pair files listed.can;
      push = can-push-on _ _ c.push_term.new.lexicon.pair files listed.push;
      listed = λ collection has.
          let so_far = listed-on _ _ c.loop-index.self.pair c.loop-index.lexicon.pair (sym files) (inv.listed collection has) in
          listed-on _ _ c.push_term.new.self.pair c.push_term.new.lexicon.pair files (listed.listed collection so_far);
      step = record { lists = writes-then inv.step.lists (writes-ok listed.step.lists); lexicon_is = lexicon-more inv.step.lexicon_is listed.step.lexicon_is };
    }

pub returns-in-Err : goal.returns-in-Err
returns-in-Err g c =
    let inv = c.loop-index.invariant in
    let listed = c.in-Err.ensures.listed in
    record {
      listed = record {
        can = tt;
        push = tt;
        listed = λ collection has. tt;
        never_bad = λ collection has. listed.never_bad collection (listed-on _ _ c.loop-index.self.pair c.loop-index.lexicon.pair (sym inv.step.lists.looks.files) (inv.listed collection has));
        step = record { lists = writes-then inv.step.lists listed.step.lists; lexicon_is = lexicon-more inv.step.lexicon_is listed.step.lexicon_is };
      };
    }

pub returns : goal.returns
returns g c =
    let inv = c.loop-index.invariant in
    let w = c.args.lists.now in
    let told = pair_files (g.S.Store.files c.args.store.now) c.loop-index.self.pair in
    let told_lex = pair_files (g.S.Store.files c.args.store.now) c.loop-index.lexicon.pair in
    let all : c.loop-index.index ≡ length w.next = omega (arith, c.loop-index-test.false, c.loop-index.auto.index-end, c.count-index-end.ensures) in
    record {
      listed = record {
        can = subst (λ n. CanList w n c.loop-index.self.writer told) all inv.can;
        push = subst (λ n. CanPush c.args.of.now.table.now.terms (w.first + n) c.loop-index.lexicon.writer told_lex) all inv.push;
        listed = λ collection has.
            subst (λ n. HasListed w c.args.of.now.table.now.terms c.args.before n collection c.loop-index.self.writer told c.loop-index.lexicon.writer
            told_lex) all (inv.listed collection has);
        never_bad = λ collection has. tt;
        step = inv.step;
      };
    }
