use Rattle.std.proofs.Common.{rules, arith, ◌≡◌, ◌<◌, ◌≤◌, ◌+◌, ◌++◌, ◌∷◌, ◌/◌, ◌^◌, ◌∙◌, List, [], length, take, drop, get_or, sym, ap, subst}
use Rattle.std.specs.Prelude.{slice_get}
use Rattle.std.proofs.lemmas.Option.{slice_get-get_or}
use Rattle.mg_defs.specs.declared.Posting.{Posting}
use Rattle.mg_defs.specs.Lists.{Rises, inverted, lists_bits, lists_entries}
use Rattle.mg_post.specs.Writing.{Took}
use Rattle.mg_check_parts.proofs.CallerLemmas.{looks_bad, looks_err, looks_ok, looks_then}
use Rattle.mg_check_index.specs.InPair.{pair_files}
use Rattle.mg_check_index.specs.Listing.{AreRooms, CanPush, list_at}
use Rattle.mg_check_index.proofs.NewListsLaws.{can-push-on, lexicon-none, terms-on}
use Rattle.mg_check_index.proofs.ListedLaws.{listed_more, range_full, range_rises, same_info, skip_fits}
use Rattle.mg_check_index.proofs.new_lists.NewLists.push_term.Goals as goal

pub list-list-requires-clause-few : goal.list-list-requires-clause-few
list-list-requires-clause-few g c = let range = c.requires.list.write.range in omega (arith, c.requires.index, range.range, range.few)

pub write_compared-requires : goal.write_compared-requires
write_compared-requires g c =
    let list = c.requires.list in
    let range = list.write.range in
    let docs = sym c.list-list.ensures.docs in
    let rise = range.laid.rise c.args.index (c.args.index + 1) (omega arith) (omega (arith, range.laid.count, c.requires.index)) in
    record {
      can = record {
        between = record { done = list.can.done; took = list.can.took; all_are = list.write.all_are; few = range.most };
        some = subst (λ n. 1 ≤ n) docs (range.rooms.some c.args.index c.requires.index);
        within = subst (λ n. n ≤ c.args.of.now.documents) docs (range.rooms.within c.args.index c.requires.index);
        total = omega (arith, list.can.total, c.list-list.ensures.docs, c.list-list.ensures.fits, rise);
      };
    }

pub info_behind-requires : goal.info_behind-requires
info_behind-requires g c =
    let can = c.requires.list.can in
    let at = c.in-Ok.ensures.compared.written.answer can.done can.took in
    let bits = at.0 ∙ ap (λ m. length (lists_bits m can.done) / 8) (sym c.requires.list.write.all_are) in
    record { post = omega (arith, bits, can.took.start, can.took.place, can.took.bound, can.took.total, c.requires.list.write.place) }

pub push-requires-clause-can : goal.push-requires-clause-can
push-requires-clause-can g c =
    let old = g.S.Store.files c.args.store.now in
    can-push-on old (g.S.Store.files c.write_compared.new.store) c.args.lexicon.now.pair (sym c.in-Ok.ensures.compared.puts.looks.files)
    (subst (λ n. CanPush c.args.of.now.table.now.terms n c.args.lexicon.now.writer (pair_files old c.args.lexicon.now.pair))
    (sym (c.in-Some.ensures.number ∙ c.list-list.ensures.number)) c.requires.list.push)

pub push-requires-clause-number : goal.push-requires-clause-number
push-requires-clause-number g c =
    omega (arith, c.in-Some.ensures.number, c.list-list.ensures.number, c.requires.index, c.requires.list.write.range.range)

pub push-requires-clause-few : goal.push-requires-clause-few
push-requires-clause-few g c = c.requires.list.write.range.few

pub push-requires-clause-rising : goal.push-requires-clause-rising
push-requires-clause-rising g c = c.requires.list.write.range.rising

pub returns-in-Err : goal.returns-in-Err
returns-in-Err g c = record {
  listed = record {
    can = tt;
    push = tt;
    listed = λ collection has. tt;
    never_bad = λ collection has.
        let write = c.requires.list.write in
        let rises = subst (λ n. Rises n 0 (list_at c.args.lists.now c.args.index)) write.all_are (range_rises _ _ _ collection c.args.index has.of c.requires.index) in
        c.in-Err.ensures.compared.written.never_bad (subst (λ ps. Rises c.args.of.now.documents 0 ps) (sym c.list-list.ensures.postings) rises)
        (ap (λ (ps : List Posting). length ps) c.list-list.ensures.postings ∙ range_full _ _ _ collection c.args.index has.of c.requires.index
        ∙ sym c.list-list.ensures.docs);
    step = record {
      lists = record {
        same = c.write_compared.ensures.compared.same;
        places = c.in-Err.ensures.compared.puts.places;
        looks = looks_err c.in-Err.ensures.compared.puts.looks;
      };
      lexicon_is = lexicon-none c.args.lexicon.now;
    };
  };
}

pub returns-in-None : goal.returns-in-None
returns-in-None g c = record {
  listed = record {
    can = tt;
    push = tt;
    listed = λ collection has. tt;
    never_bad = λ collection has.
        let some = take c.args.index (drop c.args.lists.now.first (inverted collection)) in
        let at = c.in-Ok.ensures.compared.written.answer some has.took in
        let entries = at.1 ∙ ap (λ n. length (lists_entries n some)) (sym c.requires.list.write.all_are) in
        let fits = subst (λ n. c.args.before.skip / 16 + n < 2 ^ 32) (sym entries) (skip_fits c.args.lists.now _ _ c.args.before collection c.args.index has.of has.places) in
        let told = c.in-None.ensures.some fits in
        search rules;
    step = record {
      lists = record {
        same = c.write_compared.ensures.compared.same;
        places = c.in-Ok.ensures.compared.puts.places;
        looks = looks_bad _ c.in-Ok.ensures.compared.puts.looks tt;
      };
      lexicon_is = lexicon-none c.args.lexicon.now;
    };
  };
}

pub returns-in-Ok-push : goal.returns-in-Ok-push
returns-in-Ok-push g c =
    let list = c.requires.list in
    let w = c.args.lists.now in
    let n = w.first + c.args.index in
    let terms = c.args.of.now.table.now.terms in
    let laid = list.write.range.laid in
    let rise = laid.rise c.args.index (c.args.index + 1) (omega arith) (omega (arith, laid.count, c.requires.index)) in
    let number = c.in-Some.ensures.number ∙ c.list-list.ensures.number in
    let next : n + 1 ≡ w.first + (c.args.index + 1) = omega arith in
    let old = g.S.Store.files c.args.store.now in
    let now = g.S.Store.files c.write_compared.new.store in
    let files : now ≡ old = c.in-Ok.ensures.compared.puts.looks.files in
    record {
      listed = record {
        can = record {
          done = list.can.done ++ list_at w c.args.index ∷ [];
          took = subst (λ ps. Took c.write_compared.new.writer (pair_files (g.S.Store.files c.args.store.now) c.write_compared.new.pair) (list.can.done ++ ps ∷ []) []) c.list-list.ensures.postings
              (c.in-Ok.ensures.compared.written.took list.can.done list.can.took);
          between = c.in-Ok.ensures.compared.written.between;
          total = omega (arith, list.can.total, c.in-Ok.ensures.compared.written.total, c.list-list.ensures.docs, rise);
          rooms = subst (λ m. AreRooms w m) (sym c.write_compared.ensures.compared.same.all) list.can.rooms;
        };
        push = subst (λ m. CanPush terms m c.push.new.self.writer (pair_files old c.push.new.self.pair)) (ap (λ m. m + 1) number ∙ next)
            (can-push-on now old c.push.new.self.pair files c.in-Ok-push.ensures.can);
        listed = λ collection has.
            let within : n < length terms = omega (arith, c.requires.index, list.write.range.range) in
            let some = take c.args.index (drop w.first (inverted collection)) in
            let at = c.in-Ok.ensures.compared.written.answer some has.took in
            let bits = at.0 ∙ ap (λ m. length (lists_bits m some) / 8) (sym list.write.all_are) in
            let entries = at.1 ∙ ap (λ m. length (lists_entries m some)) (sym list.write.all_are) in
            let t_is = slice_get-get_or terms n [] within in
            listed_more w terms c.args.before c.args.index collection c.args.self.now.writer c.write_compared.new.writer _ _ c.args.lexicon.now.writer
            c.push.new.self.writer _ _ (get_or terms n []) _ has c.requires.index list.write.range.range c.write_compared.ensures.compared.same.all t_is
            (c.in-Some.ensures.info ∙ same_info _ _ _ _ _ _ c.list-list.ensures.docs (ap (λ m. c.args.before.post + m) bits) (ap (λ m. c.args.before.skip / 16 + m) entries))
            (λ done took. subst (λ ps. Took c.write_compared.new.writer (pair_files (g.S.Store.files c.args.store.now) c.write_compared.new.pair) (done ++ ps ∷ []) []) c.list-list.ensures.postings
            (c.in-Ok.ensures.compared.written.took done took))
            (λ ts. terms-on c.args.lexicon.now.pair c.push.new.self.pair now old files (c.in-Ok-push.ensures.took ts (get_or terms n []) (ap (λ m. slice_get terms m) number ∙ t_is)));
        never_bad = λ collection has. tt;
        step = record {
          lists = record {
            same = c.write_compared.ensures.compared.same;
            places = c.in-Ok.ensures.compared.puts.places;
            looks = looks_ok (looks_then c.in-Ok.ensures.compared.puts.looks c.in-Ok-push.ensures.looks.looks);
          };
          lexicon_is = c.push.ensures.same;
        };
      };
    }

pub returns-in-Err-push : goal.returns-in-Err-push
returns-in-Err-push g c = record {
  listed = record {
    can = tt;
    push = tt;
    listed = λ collection has. tt;
    never_bad = λ collection has. c.in-Err-push.ensures.looks.never_bad;
    step = record {
      lists = record {
        same = c.write_compared.ensures.compared.same;
        places = c.in-Ok.ensures.compared.puts.places;
        looks = looks_err (looks_then c.in-Ok.ensures.compared.puts.looks c.in-Err-push.ensures.looks.looks);
      };
      lexicon_is = c.push.ensures.same;
    };
  };
}
