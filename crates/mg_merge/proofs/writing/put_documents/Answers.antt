use Rattle.std.proofs.Common.{arith, ◌≡◌, ◌<◌, ◌≤◌, ◌+◌, ◌^◌, ◌∙◌, ◌++◌, [], ℕ, List, length, take, drop, sym, ap, subst, rules, Some}
use Rattle.std.proofs.lemmas.List.{append_assoc, length-append, length-take}
use Rattle.mg_dev.specs.Causes.{Rose}
use Rattle.mg_dev.specs.Files.{file_at}
use Rattle.mg_dev.specs.Names.{full_name}
use Rattle.mg_dev.specs.declared.part.Part.TheVariants.{Head}
use Rattle.mg_defs.specs.Split.{documents, has_open_end, joined}
use Rattle.mg_make.specs.Plans.{IsPlanOf}
use Rattle.mg_make.specs.Putting.{HasPut, OthersSame}
use Rattle.mg_make.specs.Written.{SecondStops}
use Rattle.mg_make.proofs.CallerLemmas.{others_more, others_none, read_for, rose_behind}
use Rattle.mg_merge.specs.Passes.{AreGiven}
use Rattle.mg_merge.specs.Texts.{TextsStand, closed_document}
use Rattle.mg_merge.proofs.GivenLaws.{all_behind, first_next, given_each, given_nothing, given_one_more, short_next, too_much}
use Rattle.mg_merge.proofs.LookLaws.{none_index, outside_index}
use Rattle.mg_merge.proofs.PassLaws.{put_stops, second_differs, still_put, still_told}
use Rattle.mg_merge.proofs.StayLaws.{apart_still, fits_stay, texts_stay}
use Rattle.mg_merge.proofs.TextLaws.{texts_more, texts_none}
use Rattle.mg_merge.proofs.writing.put_documents.Goals as goal

pub loop-index-init : goal.loop-index-init
loop-index-init g c = record {
  fits = c.requires.texts.fits;
  same = texts_none _;
  base = search rules;
  plan = search rules;
  limit = search rules;
  head = c.requires.nothing.head;
  others = others_none _ _ _ (search rules);
  index = search rules;
  later = omega arith;
  put = ([], given_nothing _ _ _ c.size-size.ensures, c.requires.nothing);
}

-- ---- a document was not read

pub returns-in-Err-clause-refused : goal.returns-in-Err-clause-refused
returns-in-Err-clause-refused g c =
    let so_far = c.loop-index.invariant in
    let before = g.S.Store.files c.args.store.now in
    let middle = g.S.Store.files c.loop-index.store in
    read_for c.in-Err.refusal (λ rose. rose_behind _ _ _ so_far.later rose)
    (λ some. (
      some.0,
      record {
        stands = texts_stay c.args.writer.now.base (g.D.Documents.texts c.args.texts.now) (g.D.Documents.texts c.loop-index.texts) before middle some.0
            c.requires.texts.apart so_far.same so_far.others some.1.0;
        short = short_next (g.D.Documents.texts c.args.texts.now) before some.0 so_far.put.0 c.loop-index.index c.loop-index.left c.requires.texts.fits
            (omega (arith, c.loop-index-test.true, c.documents-index-end.ensures)) so_far.put.1 some.1.0;
      },
    ))
    c.in-Err.ensures.refused

pub returns-in-Err-clause-others : goal.returns-in-Err-clause-others
returns-in-Err-clause-others g c = subst (λ f. OthersSame c.args.writer.now.base (g.S.Store.files c.args.store.now) f) (sym c.in-Err.ensures.looks.files) c.loop-index.invariant.others

pub returns-in-Err-clause-index : goal.returns-in-Err-clause-index
returns-in-Err-clause-index g c = outside_index _ _ c.in-Err.ensures.looks.unread ∙ c.loop-index.invariant.index

pub returns-in-Err-clause-head : goal.returns-in-Err-clause-head
returns-in-Err-clause-head g c = λ told. subst (λ f. file_at f (full_name c.args.writer.now.base Head) ≡ Some []) (sym c.in-Err.ensures.looks.files) (c.loop-index.invariant.head told)

-- ---- a document is longer than what is left

pub returns-then-found-left-clause-refused : goal.returns-then-found-left-clause-refused
returns-then-found-left-clause-refused g c = λ some.
    let so_far = c.loop-index.invariant in
    let base = c.args.writer.now.base in
    let texts = g.D.Documents.texts c.args.texts.now in
    let before = g.S.Store.files c.args.store.now in
    let middle = g.S.Store.files c.loop-index.store in
    let read = g.S.Store.files c.read.new.store in
    let fed = so_far.put.0 in
    let given : AreGiven texts before c.loop-index.index c.loop-index.left fed = so_far.put.1 in
    let held = c.bytes.result.now in
    let more : c.loop-index.index < texts.all = omega (arith, c.loop-index-test.true, c.documents-index-end.ensures) in
    let is : ((collection : List ℕ) → TextsStand texts before collection → held ≡ closed_document (c.loop-index.index + 1) collection)
    = λ collection stand. c.bytes.ensures ∙ c.in-Ok.ensures.held collection
    (record {
      stands = texts_stay base texts (g.D.Documents.texts c.loop-index.texts) before middle collection c.requires.texts.apart so_far.same so_far.others
          stand;
      short = short_next texts before collection fed c.loop-index.index c.loop-index.left c.requires.texts.fits more given stand;
    }) in
    too_much texts before some.0 fed held c.loop-index.index c.loop-index.left c.requires.texts.fits more given some.1.0 (is some.0 some.1.0) (omega (arith, c.if-found-left.true))

pub returns-then-found-left-clause-others : goal.returns-then-found-left-clause-others
returns-then-found-left-clause-others g c = subst (λ f. OthersSame c.args.writer.now.base (g.S.Store.files c.args.store.now) f) (sym c.in-Ok.ensures.looks.files) c.loop-index.invariant.others

pub returns-then-found-left-clause-index : goal.returns-then-found-left-clause-index
returns-then-found-left-clause-index g c = outside_index _ _ c.in-Ok.ensures.looks.unread ∙ c.loop-index.invariant.index

pub returns-then-found-left-clause-head : goal.returns-then-found-left-clause-head
returns-then-found-left-clause-head g c = λ told. subst (λ f. file_at f (full_name c.args.writer.now.base Head) ≡ Some []) (sym c.in-Ok.ensures.looks.files) (c.loop-index.invariant.head told)

-- ---- a document is written

pub take_all-requires : goal.take_all-requires
take_all-requires g c =
    let so_far = c.loop-index.invariant in
    let base = c.args.writer.now.base in
    let texts = g.D.Documents.texts c.args.texts.now in
    let before = g.S.Store.files c.args.store.now in
    let middle = g.S.Store.files c.loop-index.store in
    let read = g.S.Store.files c.read.new.store in
    let fed = so_far.put.0 in
    let given : AreGiven texts before c.loop-index.index c.loop-index.left fed = so_far.put.1 in
    let held = c.bytes-in-loop-index.result.now in
    let more : c.loop-index.index < texts.all = omega (arith, c.loop-index-test.true, c.documents-index-end.ensures) in
    let is : ((collection : List ℕ) → TextsStand texts before collection → held ≡ closed_document (c.loop-index.index + 1) collection)
    = λ collection stand. c.bytes-in-loop-index.ensures ∙ c.in-Ok.ensures.held collection
    (record {
      stands = texts_stay base texts (g.D.Documents.texts c.loop-index.texts) before middle collection c.requires.texts.apart so_far.same so_far.others
          stand;
      short = short_next texts before collection fed c.loop-index.index c.loop-index.left c.requires.texts.fits more given stand;
    }) in
    let count : length c.bytes.result.now ≡ length held = ap (λ (bytes : List ℕ). length bytes) (c.bytes.ensures ∙ sym c.bytes-in-loop-index.ensures) in
    let within : length c.bytes.result.now ≤ c.loop-index.left = omega (arith, c.if-found-left.false) in
    let has : HasPut c.loop-index.writer read fed = still_put c.loop-index.writer middle read fed c.in-Ok.ensures.looks.files so_far.put.2 in
    record { put = (fed, has, omega (arith, given.size, c.requires.texts.fits.few, count, within)) }

pub retold-requires : goal.retold-requires
retold-requires g c =
    let so_far = c.loop-index.invariant in
    let base = c.args.writer.now.base in
    let texts = g.D.Documents.texts c.args.texts.now in
    let before = g.S.Store.files c.args.store.now in
    let middle = g.S.Store.files c.loop-index.store in
    let read = g.S.Store.files c.read.new.store in
    let fed = so_far.put.0 in
    let given : AreGiven texts before c.loop-index.index c.loop-index.left fed = so_far.put.1 in
    let held = c.bytes-in-loop-index.result.now in
    let more : c.loop-index.index < texts.all = omega (arith, c.loop-index-test.true, c.documents-index-end.ensures) in
    let is : ((collection : List ℕ) → TextsStand texts before collection → held ≡ closed_document (c.loop-index.index + 1) collection)
    = λ collection stand. c.bytes-in-loop-index.ensures ∙ c.in-Ok.ensures.held collection
    (record {
      stands = texts_stay base texts (g.D.Documents.texts c.loop-index.texts) before middle collection c.requires.texts.apart so_far.same so_far.others
          stand;
      short = short_next texts before collection fed c.loop-index.index c.loop-index.left c.requires.texts.fits more given stand;
    }) in
    let count : length c.bytes.result.now ≡ length held = ap (λ (bytes : List ℕ). length bytes) (c.bytes.ensures ∙ sym c.bytes-in-loop-index.ensures) in
    let within : length c.bytes.result.now ≤ c.loop-index.left = omega (arith, c.if-found-left.false) in
    let has : HasPut c.loop-index.writer read fed = still_put c.loop-index.writer middle read fed c.in-Ok.ensures.looks.files so_far.put.2 in
    let stop = c.in-Err-take_all.ensures.refused in
    let run = take (stop.taken + 1) held in
    let short : length (fed ++ (run ++ [])) < 2 ^ 32
    = omega (arith, length-append fed (run ++ []), length-append run [], length-take (stop.taken + 1) held, given.size, c.requires.texts.fits.few, count, within) in
    second_differs _ _ c.in-Err-take_all.refusal (stop.stops fed [] has short)

pub returns-in-Err-take_all-clause-refused : goal.returns-in-Err-take_all-clause-refused
returns-in-Err-take_all-clause-refused g c =
    let so_far = c.loop-index.invariant in
    let base = c.args.writer.now.base in
    let texts = g.D.Documents.texts c.args.texts.now in
    let before = g.S.Store.files c.args.store.now in
    let middle = g.S.Store.files c.loop-index.store in
    let read = g.S.Store.files c.read.new.store in
    let fed = so_far.put.0 in
    let given : AreGiven texts before c.loop-index.index c.loop-index.left fed = so_far.put.1 in
    let held = c.bytes-in-loop-index.result.now in
    let more : c.loop-index.index < texts.all = omega (arith, c.loop-index-test.true, c.documents-index-end.ensures) in
    let is : ((collection : List ℕ) → TextsStand texts before collection → held ≡ closed_document (c.loop-index.index + 1) collection)
    = λ collection stand. c.bytes-in-loop-index.ensures ∙ c.in-Ok.ensures.held collection
    (record {
      stands = texts_stay base texts (g.D.Documents.texts c.loop-index.texts) before middle collection c.requires.texts.apart so_far.same so_far.others
          stand;
      short = short_next texts before collection fed c.loop-index.index c.loop-index.left c.requires.texts.fits more given stand;
    }) in
    let count : length c.bytes.result.now ≡ length held = ap (λ (bytes : List ℕ). length bytes) (c.bytes.ensures ∙ sym c.bytes-in-loop-index.ensures) in
    let within : length c.bytes.result.now ≤ c.loop-index.left = omega (arith, c.if-found-left.false) in
    let has : HasPut c.loop-index.writer read fed = still_put c.loop-index.writer middle read fed c.in-Ok.ensures.looks.files so_far.put.2 in
    let stop = c.in-Err-take_all.ensures.refused in
    let run = take (stop.taken + 1) held in
    let short : length (fed ++ (run ++ [])) < 2 ^ 32
    = omega (arith, length-append fed (run ++ []), length-append run [], length-take (stop.taken + 1) held, given.size, c.requires.texts.fits.few, count, within) in
    let rose = Rose (g.S.Store.faults c.read.new.store) (g.S.Store.faults c.take_all.new.store) in
    put_stops rose _ _ c.args.writer.now.plan (λ more. fed ++ (run ++ more)) c.in-Err-take_all.refusal c.retold.result
    (λ rises. rose_behind _ _ _ (omega (arith, so_far.later, c.in-Ok.ensures.looks.later)) rises) short
    (λ some.
    let rest = joined (drop (c.loop-index.index + 1) (documents some.0)) (has_open_end some.0) in
    let behind = drop (stop.taken + 1) held ++ rest in
    let whole : fed ++ (run ++ behind) ≡ some.0
    = all_behind fed held rest (stop.taken + 1) ∙ sym (append_assoc fed held rest)
    ∙ first_next texts before some.0 fed held c.loop-index.index c.loop-index.left c.requires.texts.fits more given some.1.0 (is some.0 some.1.0) in
    (behind, subst (λ n. n < 2 ^ 32) (some.1.0.size ∙ sym (ap length whole)) c.requires.texts.fits.few, subst (IsPlanOf c.args.writer.now.plan) (sym whole) some.1.1))
    c.retold.ensures
    (λ more few. subst (λ plan. SecondStops rose (IsPlanOf plan (fed ++ (run ++ more))) c.in-Err-take_all.refusal) so_far.plan (stop.stops fed more has few))

pub returns-in-Err-take_all-clause-others : goal.returns-in-Err-take_all-clause-others
returns-in-Err-take_all-clause-others g c =
    let so_far = c.loop-index.invariant in
    let base = c.args.writer.now.base in
    let texts = g.D.Documents.texts c.args.texts.now in
    let before = g.S.Store.files c.args.store.now in
    let middle = g.S.Store.files c.loop-index.store in
    let read = g.S.Store.files c.read.new.store in
    let fed = so_far.put.0 in
    let given : AreGiven texts before c.loop-index.index c.loop-index.left fed = so_far.put.1 in
    let read_others : OthersSame base before read = subst (λ f. OthersSame base before f) (sym c.in-Ok.ensures.looks.files) so_far.others in
    let now = g.S.Store.files c.take_all.new.store in
    let put_others : OthersSame base read now = subst (λ b. OthersSame b read now) so_far.base c.in-Err-take_all.ensures.others in
    others_more base before read now read_others put_others

pub returns-in-Err-take_all-clause-index : goal.returns-in-Err-take_all-clause-index
returns-in-Err-take_all-clause-index g c =
    none_index _ _ c.in-Err-take_all.ensures.reads ∙ outside_index _ _ c.in-Ok.ensures.looks.unread ∙ c.loop-index.invariant.index

pub returns-in-Err-take_all-clause-head : goal.returns-in-Err-take_all-clause-head
returns-in-Err-take_all-clause-head g c = λ told.
    let so_far = c.loop-index.invariant in
    let base = c.args.writer.now.base in
    let texts = g.D.Documents.texts c.args.texts.now in
    let before = g.S.Store.files c.args.store.now in
    let middle = g.S.Store.files c.loop-index.store in
    let read = g.S.Store.files c.read.new.store in
    let fed = so_far.put.0 in
    let given : AreGiven texts before c.loop-index.index c.loop-index.left fed = so_far.put.1 in
    let read_others : OthersSame base before read = subst (λ f. OthersSame base before f) (sym c.in-Ok.ensures.looks.files) so_far.others in
    subst (λ b. file_at (g.S.Store.files c.take_all.new.store) (full_name b Head) ≡ Some []) so_far.base (c.in-Err-take_all.ensures.head (still_told before read read_others.told told))

pub loop-index-preserved : goal.loop-index-preserved
loop-index-preserved g c =
    let so_far = c.loop-index.invariant in
    let base = c.args.writer.now.base in
    let texts = g.D.Documents.texts c.args.texts.now in
    let before = g.S.Store.files c.args.store.now in
    let middle = g.S.Store.files c.loop-index.store in
    let read = g.S.Store.files c.read.new.store in
    let fed = so_far.put.0 in
    let given : AreGiven texts before c.loop-index.index c.loop-index.left fed = so_far.put.1 in
    let held = c.bytes-in-loop-index.result.now in
    let more : c.loop-index.index < texts.all = omega (arith, c.loop-index-test.true, c.documents-index-end.ensures) in
    let is : ((collection : List ℕ) → TextsStand texts before collection → held ≡ closed_document (c.loop-index.index + 1) collection)
    = λ collection stand. c.bytes-in-loop-index.ensures ∙ c.in-Ok.ensures.held collection
    (record {
      stands = texts_stay base texts (g.D.Documents.texts c.loop-index.texts) before middle collection c.requires.texts.apart so_far.same so_far.others
          stand;
      short = short_next texts before collection fed c.loop-index.index c.loop-index.left c.requires.texts.fits more given stand;
    }) in
    let count : length c.bytes.result.now ≡ length held = ap (λ (bytes : List ℕ). length bytes) (c.bytes.ensures ∙ sym c.bytes-in-loop-index.ensures) in
    let within : length c.bytes.result.now ≤ c.loop-index.left = omega (arith, c.if-found-left.false) in
    let has : HasPut c.loop-index.writer read fed = still_put c.loop-index.writer middle read fed c.in-Ok.ensures.looks.files so_far.put.2 in
    let read_others : OthersSame base before read = subst (λ f. OthersSame base before f) (sym c.in-Ok.ensures.looks.files) so_far.others in
    let now = g.S.Store.files c.take_all.new.store in
    let put_others : OthersSame base read now = subst (λ b. OthersSame b read now) so_far.base c.in-Ok-take_all.ensures.others in
    let same = texts_more texts (g.D.Documents.texts c.loop-index.texts) (g.D.Documents.texts c.read.new.self) so_far.same c.in-Ok.ensures.same in
    record {
      fits = fits_stay base (g.D.Documents.texts c.read.new.self) read now (apart_still base texts (g.D.Documents.texts c.read.new.self) same c.requires.texts.apart) put_others c.in-Ok.ensures.fits;
      same = same;
      base = c.in-Ok-take_all.ensures.base ∙ so_far.base;
      plan = c.in-Ok-take_all.ensures.plan ∙ so_far.plan;
      limit = c.in-Ok-take_all.ensures.limit ∙ so_far.limit;
      head = λ told. subst (λ b. file_at now (full_name b Head) ≡ Some []) so_far.base (c.in-Ok-take_all.ensures.head (still_told before read read_others.told told));
      others = others_more base before read now read_others put_others;
      index = none_index _ _ c.in-Ok-take_all.ensures.reads ∙ outside_index _ _ c.in-Ok.ensures.looks.unread ∙ so_far.index;
      later = omega (arith, so_far.later, c.in-Ok.ensures.looks.later, c.in-Ok-take_all.ensures.later);
      put = (
        fed ++ held,
        given_one_more texts before fed held c.loop-index.index c.loop-index.left (length c.bytes.result.now) c.requires.texts.fits more given is count within,
        c.in-Ok-take_all.ensures.put fed has,
      );
    }

-- ---- all documents are written

pub returns-clause-put : goal.returns-clause-put
returns-clause-put g c =
    let so_far = c.loop-index.invariant in (
      so_far.put.0,
      given_each (g.D.Documents.texts c.args.texts.now) (g.S.Store.files c.args.store.now) so_far.put.0 c.loop-index.index c.loop-index.left
          c.requires.texts.fits (omega (arith, c.loop-index-test.false, c.documents-index-end.ensures)) so_far.put.1,
      so_far.put.2,
    )
