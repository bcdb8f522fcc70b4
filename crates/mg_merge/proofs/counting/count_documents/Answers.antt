use Rattle.std.proofs.Common.{arith, ◌≡◌, ◌<◌, ◌≤◌, ◌+◌, ◌∙◌, ◌++◌, [], ℕ, List, length, take, drop, sym, ap}
use Rattle.mg_defs.specs.Split.{documents, has_open_end, joined}
use Rattle.mg_make.proofs.CallerLemmas.{rose_behind}
use Rattle.mg_merge.specs.Passes.{AreGiven}
use Rattle.mg_merge.specs.Texts.{TextsStand, closed_document}
use Rattle.mg_merge.proofs.GivenLaws.{first_behind, first_next, given_each, given_nothing, given_one_more, short_next, too_little, too_much}
use Rattle.mg_merge.proofs.PassLaws.{counting_stops}
use Rattle.mg_merge.proofs.LookLaws.{looks_more, looks_nothing}
use Rattle.mg_merge.proofs.StopLaws.{read_counts}
use Rattle.mg_merge.proofs.TextLaws.{texts_more, texts_none, texts_stand_on}
use Rattle.mg_merge.proofs.counting.count_documents.Goals as goal

pub loop-index-init : goal.loop-index-init
loop-index-init g c = record {
  fits = c.requires.fits;
  same = texts_none _;
  looks = looks_nothing;
  counted = ([], given_nothing _ _ _ c.size-size.ensures, c.requires.nothing);
}

pub returns-in-Err-clause-counts : goal.returns-in-Err-clause-counts
returns-in-Err-clause-counts g c =
    let so_far = c.loop-index.invariant in
    let texts = g.D.Documents.texts c.args.texts.now in
    let middle = g.D.Documents.texts c.loop-index.texts in
    let before = g.S.Store.files c.args.store.now in
    record {
      fits = c.in-Err.ensures.fits;
      same = texts_more texts middle (g.D.Documents.texts c.read.new.self) so_far.same c.in-Err.ensures.same;
      looks = looks_more so_far.looks c.in-Err.ensures.looks;
      refused = read_counts _ _ _ _ c.in-Err.refusal (λ rose. rose_behind _ _ _ so_far.looks.later rose)
          (λ collection stand. (
            collection,
            record {
              stands = texts_stand_on texts middle before (g.S.Store.files c.loop-index.store) collection so_far.same so_far.looks.files stand;
              short = short_next texts before collection so_far.counted.0 c.loop-index.index c.loop-index.left c.requires.fits
                  (omega (arith, c.loop-index-test.true, c.documents-index-end.ensures)) so_far.counted.1 stand;
            },
          ))
          c.in-Err.ensures.refused;
    }

-- ---- a document is longer than what is left

pub returns-then-found-left-clause-counts : goal.returns-then-found-left-clause-counts
returns-then-found-left-clause-counts g c =
    let so_far = c.loop-index.invariant in
    let texts = g.D.Documents.texts c.args.texts.now in
    let before = g.S.Store.files c.args.store.now in
    let middle = g.S.Store.files c.loop-index.store in
    let fed = so_far.counted.0 in
    let given : AreGiven texts before c.loop-index.index c.loop-index.left fed = so_far.counted.1 in
    let held = c.bytes.result.now in
    let more : c.loop-index.index < texts.all = omega (arith, c.loop-index-test.true, c.documents-index-end.ensures) in
    let is : ((collection : List ℕ) → TextsStand texts before collection → held ≡ closed_document (c.loop-index.index + 1) collection)
    = λ collection stand. c.bytes.ensures ∙ c.in-Ok.ensures.held collection
    (record {
      stands = texts_stand_on texts (g.D.Documents.texts c.loop-index.texts) before middle collection so_far.same so_far.looks.files stand;
      short = short_next texts before collection fed c.loop-index.index c.loop-index.left c.requires.fits more given stand;
    }) in
    record {
      fits = c.in-Ok.ensures.fits;
      same = texts_more texts (g.D.Documents.texts c.loop-index.texts) (g.D.Documents.texts c.read.new.self) so_far.same c.in-Ok.ensures.same;
      looks = looks_more so_far.looks c.in-Ok.ensures.looks;
      refused = λ collection stand. too_much texts before collection fed held c.loop-index.index c.loop-index.left c.requires.fits more given stand (is collection stand)
          (omega (arith, c.if-found-left.true));
    }

-- ---- a document is counted

pub take_all-requires : goal.take_all-requires
take_all-requires g c =
    let so_far = c.loop-index.invariant in
    let texts = g.D.Documents.texts c.args.texts.now in
    let before = g.S.Store.files c.args.store.now in
    let middle = g.S.Store.files c.loop-index.store in
    let fed = so_far.counted.0 in
    let given : AreGiven texts before c.loop-index.index c.loop-index.left fed = so_far.counted.1 in
    let held = c.bytes-in-loop-index.result.now in
    let more : c.loop-index.index < texts.all = omega (arith, c.loop-index-test.true, c.documents-index-end.ensures) in
    let is : ((collection : List ℕ) → TextsStand texts before collection → held ≡ closed_document (c.loop-index.index + 1) collection)
    = λ collection stand. c.bytes-in-loop-index.ensures ∙ c.in-Ok.ensures.held collection
    (record {
      stands = texts_stand_on texts (g.D.Documents.texts c.loop-index.texts) before middle collection so_far.same so_far.looks.files stand;
      short = short_next texts before collection fed c.loop-index.index c.loop-index.left c.requires.fits more given stand;
    }) in
    let count : length c.bytes.result.now ≡ length held = ap (λ (bytes : List ℕ). length bytes) (c.bytes.ensures ∙ sym c.bytes-in-loop-index.ensures) in
    let within : length c.bytes.result.now ≤ c.loop-index.left = omega (arith, c.if-found-left.false) in
    record { given = (fed, so_far.counted.2, omega (arith, given.size, c.requires.fits.few, count, within)) }

pub returns-in-Err-take_all-clause-counts : goal.returns-in-Err-take_all-clause-counts
returns-in-Err-take_all-clause-counts g c =
    let so_far = c.loop-index.invariant in
    let texts = g.D.Documents.texts c.args.texts.now in
    let before = g.S.Store.files c.args.store.now in
    let middle = g.S.Store.files c.loop-index.store in
    let fed = so_far.counted.0 in
    let given : AreGiven texts before c.loop-index.index c.loop-index.left fed = so_far.counted.1 in
    let held = c.bytes-in-loop-index.result.now in
    let more : c.loop-index.index < texts.all = omega (arith, c.loop-index-test.true, c.documents-index-end.ensures) in
    let is : ((collection : List ℕ) → TextsStand texts before collection → held ≡ closed_document (c.loop-index.index + 1) collection)
    = λ collection stand. c.bytes-in-loop-index.ensures ∙ c.in-Ok.ensures.held collection
    (record {
      stands = texts_stand_on texts (g.D.Documents.texts c.loop-index.texts) before middle collection so_far.same so_far.looks.files stand;
      short = short_next texts before collection fed c.loop-index.index c.loop-index.left c.requires.fits more given stand;
    }) in
    let stop = c.in-Err-take_all.ensures.refused in
    record {
      fits = c.in-Ok.ensures.fits;
      same = texts_more texts (g.D.Documents.texts c.loop-index.texts) (g.D.Documents.texts c.read.new.self) so_far.same c.in-Ok.ensures.same;
      looks = looks_more so_far.looks c.in-Ok.ensures.looks;
      refused = counting_stops _ _ (fed ++ take (stop.taken + 1) held) c.in-Err-take_all.refusal
          (λ collection stand.
          let rest = joined (drop (c.loop-index.index + 1) (documents collection)) (has_open_end collection) in (
            drop (stop.taken + 1) held ++ rest,
            first_behind fed held rest (stop.taken + 1)
                ∙ first_next texts before collection fed held c.loop-index.index c.loop-index.left c.requires.fits more given stand (is collection stand),
          ))
          (stop.stops fed so_far.counted.2);
    }

pub loop-index-preserved : goal.loop-index-preserved
loop-index-preserved g c =
    let so_far = c.loop-index.invariant in
    let texts = g.D.Documents.texts c.args.texts.now in
    let before = g.S.Store.files c.args.store.now in
    let middle = g.S.Store.files c.loop-index.store in
    let fed = so_far.counted.0 in
    let given : AreGiven texts before c.loop-index.index c.loop-index.left fed = so_far.counted.1 in
    let held = c.bytes-in-loop-index.result.now in
    let more : c.loop-index.index < texts.all = omega (arith, c.loop-index-test.true, c.documents-index-end.ensures) in
    let is : ((collection : List ℕ) → TextsStand texts before collection → held ≡ closed_document (c.loop-index.index + 1) collection)
    = λ collection stand. c.bytes-in-loop-index.ensures ∙ c.in-Ok.ensures.held collection
    (record {
      stands = texts_stand_on texts (g.D.Documents.texts c.loop-index.texts) before middle collection so_far.same so_far.looks.files stand;
      short = short_next texts before collection fed c.loop-index.index c.loop-index.left c.requires.fits more given stand;
    }) in
    let count : length c.bytes.result.now ≡ length held = ap (λ (bytes : List ℕ). length bytes) (c.bytes.ensures ∙ sym c.bytes-in-loop-index.ensures) in
    let within : length c.bytes.result.now ≤ c.loop-index.left = omega (arith, c.if-found-left.false) in
    record {
      fits = c.in-Ok.ensures.fits;
      same = texts_more texts (g.D.Documents.texts c.loop-index.texts) (g.D.Documents.texts c.read.new.self) so_far.same c.in-Ok.ensures.same;
      looks = looks_more so_far.looks c.in-Ok.ensures.looks;
      counted = (
        fed ++ held,
        given_one_more texts before fed held c.loop-index.index c.loop-index.left (length c.bytes.result.now) c.requires.fits more given is count within,
        c.in-Ok-take_all.ensures.given fed so_far.counted.2,
      );
    }

-- ---- all documents are counted

pub returns-then-left-gt0-clause-counts : goal.returns-then-left-gt0-clause-counts
returns-then-left-gt0-clause-counts g c =
    let so_far = c.loop-index.invariant in
    record {
      fits = so_far.fits;
      same = so_far.same;
      looks = so_far.looks;
      refused = λ collection stand. too_little (g.D.Documents.texts c.args.texts.now) (g.S.Store.files c.args.store.now) collection so_far.counted.0
          c.loop-index.index c.loop-index.left c.requires.fits (omega (arith, c.loop-index-test.false, c.documents-index-end.ensures)) so_far.counted.1 stand
          (omega (arith, c.if-left-gt0.true));
    }

pub returns-clause-counted : goal.returns-clause-counted
returns-clause-counted g c =
    let so_far = c.loop-index.invariant in (
      so_far.counted.0,
      given_each (g.D.Documents.texts c.args.texts.now) (g.S.Store.files c.args.store.now) so_far.counted.0 c.loop-index.index
          c.loop-index.left c.requires.fits (omega (arith, c.loop-index-test.false, c.documents-index-end.ensures)) so_far.counted.1,
      so_far.counted.2,
    )

pub returns-clause-counts : goal.returns-clause-counts
returns-clause-counts g c =
    let so_far = c.loop-index.invariant in
    record { fits = so_far.fits; same = so_far.same; looks = so_far.looks; refused = tt }
