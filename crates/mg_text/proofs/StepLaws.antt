-- Steps of decoding, one behind another, by what each of them promises.
use Rattle.std.proofs.Common.{arith, ◌≡◌, ◌+◌, ◌++◌, ◌^◌, ◌≤◌, ◌<◌, ℕ, List, [], length, take, Result, Ok, Err, refl, sym, ◌∙◌, ap, subst, length-append}
use Rattle.std.proofs.Math.Seq.{take-length}
use Rattle.std.specs.Prelude.{OnOk}
use Rattle.mg_dev.specs.Causes.{HasLack, HasPutCause}
use Rattle.mg_dev.specs.Faults.{show_of_put}
use Rattle.mg_dev.specs.Moments.{SinkAt}
use Rattle.mg_dev.specs.Streams.{AfterPut}
use Rattle.mg_dev.specs.declared.device.PutErr.{PutErr}
use Rattle.mg_dev.specs.declared.device.PutErr.TheVariants as put
use Rattle.mg_dev.specs.declared.part_err.PartErr.{PartErr}
use Rattle.mg_dev.specs.declared.part_err.PartErr.TheVariants as part
use Rattle.mg_dev.specs.declared.show_err.ShowErr.{ShowErr}
use Rattle.mg_dev.specs.declared.show_err.ShowErr.TheVariants as show
use Rattle.mg_bits.specs.Feed.{Calm, Feeding, Device as Seen, Read}
use Rattle.mg_bits.proofs.CallerLemmas.{calm_more, calm_none}
use Rattle.mg_defs.specs.Bits.{Bits, Shows}
use Rattle.mg_defs.specs.Codes.{gamma}
use Rattle.mg_defs.specs.CodedText.{TextCode, coded_doc, codeword_of}
use Rattle.mg_defs.specs.Parse.{parse, text}
use Rattle.mg_defs.proofs.FrontLaws.{shows_left}
use Rattle.mg_text.specs.Decoding.{AddedOf, Brings, Decoded, DecodingStep, ForShown, Gathering, IsPutCaused, IsReadCaused, IsShowCaused, Moment, PairsIn, ReadsNumber, Shown}
use Rattle.mg_text.specs.Decoding.{DocumentCame, DocumentSent, PairCame, PairsCame, PieceCame, Stood}
use Rattle.mg_text.specs.Decoding.{ShowsDoc, ShowsFirst, ShowsPair, ShowsPairs, ShowsPiece, ShowsWhole, Steps, bytes_to_come, coded_pairs}
use Rattle.mg_text.proofs.CameLaws.{document_came, document_sent, no_pair_came, on_ok, on_ok_map, pair_came, pairs_came}
use Rattle.mg_text.proofs.PairLaws.{both_decoded, doc_decoded, doc_stopped, first_fits, first_stopped, next_pair, no_pairs, pair_fits, pair_shows, pair_small}
use Rattle.mg_text.proofs.PairLaws.{pairs_more, pairs_stopped, parse_text, put_refused, second_fits, second_stopped, shows_next}
use Rattle.mg_text.proofs.Shows.{adds_less, adds_more, adds_none, shown_none}
use Rattle.mg_text.proofs.Steps.{caused_more, ends_map, ends_more, put_caused}

-- ---- any steps

-- nothing was done
pub steps_none : {agrees : Type 0} {tells comes : DecodingStep} {a : Moment} → agrees → tells a a → comes a a → Steps agrees tells comes (Ok tt) a a
steps_none fits told came = record { fits = fits; calm = calm_none _ _; told = told; stood = came; added = adds_none (omega arith); cause = tt }

-- the same step, of which more is told
pub steps_tell : {agrees : Type 0} {one came other comes : DecodingStep} {r : Result (Unit {0}) ShowErr} {a b : Moment} → Steps agrees one came r a b → other a b → OnOk r (comes a b) →
    Steps agrees other comes r a b
steps_tell step told stood = record { fits = step.fits; calm = step.calm; told = told; stood = stood; added = step.added; cause = step.cause }

-- a step behind another one
pub steps_more : {before agrees : Type 0} {one two both came then comes : DecodingStep} (r : Result (Unit {0}) ShowErr) {a b c : Moment} → Steps before one came (Ok tt) a b →
    Steps agrees two then r b c → both a c → OnOk r (comes a c) → Steps agrees both comes r a c
steps_more r {a} {b} {c} first second told stood = record {
  fits = second.fits;
  calm = calm_more _ _ _ _ _ _ first.calm second.calm;
  told = told;
  stood = stood;
  added = adds_more first.added second.added;
  cause = caused_more r _ _ _ a.sink b.sink c.sink first.calm.faults first.added.faults first.added.lacks second.cause;
}

-- ---- a pair

brings_both : (x y : Bits) (one two : List ℕ) (r : Result (Unit {0}) ShowErr) (a b c : Moment) → 0 < a.feed.page → Calm a.feed b.feed a.device b.device →
    Brings x one (Ok tt) a b → Brings y two r b c → Brings (x ++ y) (one ++ two) r a c
brings_both x y one two r a b c some calm first second = λ before sofar most small shows shown fits.
    let head = first before sofar most (omega (arith, small, length-append x y)) (shows_left _ a.place x y shows) shown (first_fits sofar one two most fits) in
    ends_map r _ _ _ _ (λ whole. both_decoded _ _ _ _ _ _ a.place b.place c.place x y before _ _ _ _ sofar one two some head whole)
    (λ part. second_stopped _ _ _ _ _ _ a.place b.place x y before _ _ _ sofar one two some head part)
    (second before (sofar ++ one) most (omega (arith, small, length-append x y, head.at_end)) (shows_next _ _ _ _ a.place b.place x y calm head.at_end shows) head.shown
    (second_fits sofar one two most fits))

brings_first : (x y : Bits) (one two : List ℕ) (refusal : ShowErr) (a b : Moment) → 0 < a.feed.page → Brings x one (Err refusal) a b → Brings (x ++ y) (one ++ two) (Err refusal) a b
brings_first x y one two refusal a b some first = λ before sofar most small shows shown fits.
    ends_more refusal _ _ _ _ (λ part. first_stopped _ _ _ _ a.place x y before _ sofar one two some part)
    (first before sofar most (omega (arith, small, length-append x y)) (shows_left _ a.place x y shows) shown (first_fits sofar one two most fits))

-- the word was refused
pub word_refused : {agrees : Type 0} (code : TextCode) (refusal : ShowErr) {a b : Moment} → 0 < a.feed.page →
    Steps agrees (ShowsPiece code.words (Err refusal)) (PieceCame code.words) (Err refusal) a b → Steps agrees (ShowsPair code (Err refusal)) (PairCame code) (Err refusal) a b
word_refused code refusal {a} {b} some step =
    steps_tell step (λ p is. brings_first (codeword_of code.words p.word) (codeword_of code.others p.other) p.word p.other refusal a b some (step.told p.word is.word)) tt

-- the other came behind the word
pub pair_shown : {before agrees : Type 0} (code : TextCode) (r : Result (Unit {0}) ShowErr) {a b c : Moment} → 0 < a.feed.page →
    Steps before (ShowsPiece code.words (Ok tt)) (PieceCame code.words) (Ok tt) a b → Steps agrees (ShowsPiece code.others r) (PieceCame code.others) r b c →
    Steps agrees (ShowsPair code r) (PairCame code) r a c
pair_shown code r {a} {b} {c} some first second =
    steps_more r first second (λ p is.
    brings_both (codeword_of code.words p.word) (codeword_of code.others p.other) p.word p.other r a b c some first.calm (first.told p.word is.word) (second.told p.other is.other))
    (on_ok_map r _ _ (pair_came code first.calm first.stood) second.stood)

-- ---- pairs

-- no pair was shown yet
pub first_none : {agrees : Type 0} (code : TextCode) (count : ℕ) {a : Moment} → agrees → Steps agrees (ShowsFirst code count 0) (PairsCame code 0) (Ok tt) a a
first_none code count {a} fits = steps_none fits (λ ps all is before sofar most small shows shown fits. no_pairs _ _ _ before _ _ sofar shown) (no_pair_came code a)

-- no pair was held: what the reader of bits and the buffer are is as before
pub still_there : {agrees : Type 0} {tells comes : DecodingStep} {r : Result (Unit {0}) ShowErr} {a : Moment} {f f_now : Feeding} {p p_now : ℕ} {d : Seen} {b b_now : Gathering} {s : SinkAt} →
    Steps agrees tells comes r a (record { feed = f; place = p; device = d; held = b; sink = s }) → f_now ≡ f → p_now ≡ p → b_now ≡ b →
    Steps agrees tells comes r a (record { feed = f_now; place = p_now; device = d; held = b_now; sink = s })
still_there step feed place held = rw (feed, place, held) step

-- the reader of bits was sought where it is to stand
pub sought : {agrees now : Type 0} {tells comes : DecodingStep} {r : Result (Unit {0}) ShowErr} {a : Moment} {f f_now : Feeding} {p p_now : ℕ} {d : Seen} {b : Gathering} {s : SinkAt} →
    Steps agrees tells comes r a (record { feed = f; place = p; device = d; held = b; sink = s }) → now → f_now ≡ f → p_now ≡ p →
    Steps now tells comes r a (record { feed = f_now; place = p_now; device = d; held = b; sink = s })
sought step fits feed place = rw (feed, place) (record { fits = fits; calm = step.calm; told = step.told; stood = step.stood; added = step.added; cause = step.cause })

one_more : (code : TextCode) (count i : ℕ) (a b c : Moment) → 0 < a.feed.page → i < count → Calm a.feed b.feed a.device b.device → ShowsFirst code count i a b → ShowsPair code (Ok tt) b c →
    ShowsFirst code count (i + 1) a c
one_more code count i a b c some lt calm first pair = λ ps all is before sofar most small shows shown fits.
    let here = first ps all is before sofar most small shows shown fits in
    let next = next_pair code ps i all (omega (arith, is, lt)) in
    pairs_more _ _ _ _ _ _ a.place b.place c.place code ps i before _ _ _ _ sofar some next here
    (pair next.pair next.there before (sofar ++ text (take i ps)) most (pair_small a.place b.place code ps i next here.at_end small)
    (pair_shows _ _ _ _ a.place b.place code ps i next calm here.at_end shows) here.shown (pair_fits code ps i sofar most next fits))

-- one pair more was held
pub one_held : {before agrees : Type 0} (code : TextCode) {count i : ℕ} {a b c : Moment} → 0 < a.feed.page → i < count →
    Steps before (ShowsFirst code count i) (PairsCame code i) (Ok tt) a b → agrees → c.feed ≡ b.feed → c.device ≡ b.device → c.sink ≡ b.sink → bytes_to_come c.held ≤ bytes_to_come b.held →
    ShowsPair code (Ok tt) b c → PairCame code b c → Steps agrees (ShowsFirst code count (i + 1)) (PairsCame code (i + 1)) (Ok tt) a c
one_held code {count} {i} {a} {b} {c} some lt step fits feed device sink most pair came = record {
  fits = fits;
  calm = rw (feed, device) step.calm;
  told = one_more code count i a b c some lt step.calm step.told pair;
  stood = pairs_came code step.calm step.stood came;
  added = rw sink (adds_less step.added most);
  cause = tt;
}

-- one pair more was shown
pub one_shown : {before agrees : Type 0} (code : TextCode) {count i : ℕ} {a b c : Moment} → 0 < a.feed.page → i < count →
    Steps before (ShowsFirst code count i) (PairsCame code i) (Ok tt) a b → Steps agrees (ShowsPair code (Ok tt)) (PairCame code) (Ok tt) b c →
    Steps agrees (ShowsFirst code count (i + 1)) (PairsCame code (i + 1)) (Ok tt) a c
one_shown code {count} {i} {a} {b} {c} some lt first pair = steps_more (Ok tt) first pair (one_more code count i a b c some lt first.calm first.told pair.told)
    (pairs_came code first.calm first.stood pair.stood)

-- a pair was refused
pub pair_refused : {before agrees : Type 0} (code : TextCode) {count i : ℕ} (refusal : ShowErr) {a b c : Moment} → 0 < a.feed.page → i < count →
    Steps before (ShowsFirst code count i) (PairsCame code i) (Ok tt) a b → Steps agrees (ShowsPair code (Err refusal)) (PairCame code) (Err refusal) b c →
    Steps agrees (ShowsPairs code count (Err refusal)) (PairsCame code count) (Err refusal) a c
pair_refused code {count} {i} refusal {a} {b} {c} some lt first pair = steps_more (Err refusal) first pair (λ ps all is before sofar most small shows shown fits.
    let here = first.told ps all is before sofar most small shows shown fits in
    let next = next_pair code ps i all (omega (arith, is, lt)) in
    ends_more refusal _ _ _ _ (λ part. pairs_stopped _ _ _ _ _ _ a.place b.place code ps i before _ _ _ sofar some next here part)
    (pair.told next.pair next.there before (sofar ++ text (take i ps)) most (pair_small a.place b.place code ps i next here.at_end small)
    (pair_shows _ _ _ _ a.place b.place code ps i next first.calm here.at_end shows) here.shown (pair_fits code ps i sofar most next fits))) tt

-- all pairs were shown
pub all_shown : {agrees : Type 0} {code : TextCode} {count i : ℕ} {a b : Moment} → i ≡ count → Steps agrees (ShowsFirst code count i) (PairsCame code i) (Ok tt) a b →
    Steps agrees (ShowsPairs code count (Ok tt)) (PairsCame code count) (Ok tt) a b
all_shown {code = code} {i = i} {a = a} {b = b} done step = steps_tell step (λ ps all is before sofar most small shows shown fits.
    let whole : take i ps ≡ ps = ap (λ n. take n ps) (omega (arith, is, done)) ∙ take-length ps in
    rw whole at (step.told ps all is before sofar most small shows shown fits)) (subst (λ n. PairsCame code n a b) done step.stood)

-- ---- numbers that are read, and bytes that are put

-- a number was read
pub number_read : {T agrees : Type 0} {tells comes : DecodingStep} (value : T) {a b : Moment} → ReadsNumber agrees (Ok value) a.feed b.feed a.device b.device → b.held ≡ a.held → b.sink ≡ a.sink →
    tells a b → comes a b → Steps agrees tells comes (Ok tt) a b
number_read value {a} {b} read held sink told came = record { fits = read.fits; calm = read.calm; told = told; stood = came; added = rw (held, sink) (adds_none (omega arith)); cause = tt }

pub read_caused : (T : Type 0) (refusal : PartErr) (s t f g l m : ℕ) → IsReadCaused {T = T} (Err refusal) s t → IsShowCaused (Err (show.Part refusal)) s t f g l m
read_caused T part.Device s t f g l m cause = cause
read_caused T part.Memory s t f g l m cause = cause
read_caused T (part.Bad bad) s t f g l m cause = tt

-- a number was refused
pub number_refused : {T agrees : Type 0} {tells comes : DecodingStep} (refusal : PartErr) {a b : Moment} → ReadsNumber {T = T} agrees (Err refusal) a.feed b.feed a.device b.device → b.held ≡ a.held →
    b.sink ≡ a.sink → tells a b → Steps agrees tells comes (Err (show.Part refusal)) a b
number_refused {T} refusal {a} {b} read held sink told = record {
  fits = read.fits;
  calm = read.calm;
  told = told;
  stood = tt;
  added = rw (held, sink) (adds_none (omega arith));
  cause = read_caused T refusal _ _ _ _ _ _ read.cause;
}

-- bytes were put once a number was read
pub put_behind : {T agrees : Type 0} {tells comes : DecodingStep} (value : T) (r : Result (Unit {0}) ShowErr) (left size : ℕ) {a c : Moment} →
    ReadsNumber agrees (Ok value) a.feed c.feed a.device c.device → AddedOf (bytes_to_come a.held) (bytes_to_come c.held) a.sink c.sink →
    IsPutCaused r left size a.sink.faults c.sink.faults a.sink.lacks c.sink.lacks → tells a c → OnOk r (comes a c) → Steps agrees tells comes r a c
put_behind value r left size {a} {c} read added cause told stood = record {
  fits = read.fits;
  calm = read.calm;
  told = told;
  stood = stood;
  added = added;
  cause = put_caused r _ _ _ _ a.sink c.sink cause;
}

-- ---- a document

-- the number of pairs is this one, where the code of a number stands at the place
abbrev pub CountIs : ℕ → DecodingStep
CountIs count old new = (n : ℕ) → n < 2 ^ 32 → old.place + length (gamma (n + 1)) ≤ 2 ^ 63 → Shows (old.feed.source old.device.files) old.place (gamma (n + 1)) →
    (count ≡ n) × (new.place ≡ old.place + length (gamma (n + 1))) × Read old.feed new.feed old.device new.device old.place (old.place + length (gamma (n + 1)))

-- and its code stood there
abbrev pub CountStood : ℕ → DecodingStep
CountStood count old new = Stood (gamma (count + 1)) old.feed old.device old.place new.place

-- its pairs came behind their number
pub doc_shown : {before agrees : Type 0} (code : TextCode) {count : ℕ} (r : Result (Unit {0}) ShowErr) {a b c : Moment} → 0 < a.feed.page → b.held ≡ a.held → b.sink ≡ a.sink →
    Steps before (CountIs count) (CountStood count) (Ok tt) a b → Steps agrees (ShowsPairs code count r) (PairsCame code count) r b c → Steps agrees (ShowsDoc code r) (DocumentCame code) r a c
doc_shown code r {a} {b} {c} some held sink head pairs = steps_more r head pairs (λ doc all few before sofar most small shows shown fits.
    let x = gamma (length (parse doc) + 1) in
    let y = coded_pairs code (parse doc) in
    let read = head.told (length (parse doc)) few (omega (arith, small, length-append x y)) (shows_left _ a.place x y shows) in
    let shown_now : Shown before b.sink.written b.held sofar most = rw (held, sink) shown in
    ends_map r _ _ _ _ (λ whole. doc_decoded _ _ _ _ _ _ a.place b.place c.place code doc before _ _ _ _ sofar some read.1 shown_now read.2 whole)
    (λ part. doc_stopped _ _ _ _ _ _ a.place b.place code doc before _ _ _ sofar some read.1 shown_now read.2 part)
    (pairs.told (parse doc) all read.0 before sofar most (omega (arith, small, length-append x y, read.1)) (shows_next _ _ _ _ a.place b.place x y head.calm read.1 shows) shown_now
    (subst (λ t. length (sofar ++ t) ≤ most) (sym (parse_text doc)) fits)))
    (on_ok_map r _ _ (document_came code head.calm held sink head.stood) pairs.stood)

-- what of a document is shown where the buffer held nothing
pub whole_gathered : (code : TextCode) (a b : Moment) → a.held.held ≡ [] → ShowsDoc code (Ok tt) a b → (doc : List ℕ) → PairsIn code (parse doc) →
    length (parse doc) < 2 ^ 32 → length doc ≤ a.held.left → a.place + length (coded_doc code doc) ≤ 2 ^ 63 → Shows (a.feed.source a.device.files) a.place (coded_doc code doc) →
    Decoded a.feed b.feed a.device b.device a.place (a.place + length (coded_doc code doc)) b.place a.sink.written b.sink.written b.held doc a.held.left
whole_gathered code a b empty told doc all few short small shows = told doc all few _ [] a.held.left small shows (shown_none _ a.held empty) short

-- a document was refused where the buffer held nothing
pub whole_refused : {agrees : Type 0} (code : TextCode) (refusal : ShowErr) {a b : Moment} → a.held.held ≡ [] →
    Steps agrees (ShowsDoc code (Err refusal)) (DocumentCame code) (Err refusal) a b → Steps agrees (ShowsWhole code (Err refusal)) (DocumentSent code) (Err refusal) a b
whole_refused code refusal {a} {b} empty step = steps_tell step (λ doc all few short small shows.
    ends_more refusal _ _ _ _ (λ part. part) (step.told doc all few _ [] a.held.left small shows (shown_none _ a.held empty) short)) tt

-- nothing is told
abbrev Untold : DecodingStep
Untold old new = Unit {0}

-- what the buffer held was put to the sink, and no bit was read
put_step : {agrees : Type 0} (r : Result (Unit {0}) ShowErr) {b c : Moment} → agrees → c.feed ≡ b.feed → c.device ≡ b.device → AddedOf (bytes_to_come b.held) (bytes_to_come c.held) b.sink c.sink →
    IsShowCaused r b.device.faults c.device.faults b.sink.faults c.sink.faults b.sink.lacks c.sink.lacks → Steps agrees Untold Untold r b c
put_step r {b} {c} fits feed device added cause = record { fits = fits; calm = rw (feed, device) (calm_none b.feed b.device); told = tt; stood = on_ok r _ tt; added = added; cause = cause }

-- the bytes that were gathered went to the sink
pub whole_flushed : {before agrees : Type 0} (code : TextCode) {a b c : Moment} → a.held.held ≡ [] → Steps before (ShowsDoc code (Ok tt)) (DocumentCame code) (Ok tt) a b → agrees →
    c.feed ≡ b.feed → c.device ≡ b.device → c.place ≡ b.place →
    ForShown b.sink.written b.held (λ was bytes _. AfterPut {T = Unit {0}} {E = PutErr} was c.sink.written bytes (Ok tt)) → AddedOf (bytes_to_come b.held) (bytes_to_come c.held) b.sink c.sink →
    Steps agrees (ShowsWhole code (Ok tt)) (DocumentSent code) (Ok tt) a c
whole_flushed code {a} {b} {c} empty first fits feed device place put added =
    let second : Steps _ Untold Untold (Ok tt) b c = put_step (Ok tt) fits feed device added tt in
    steps_more (Ok tt) first second (λ doc all few short small shows.
    let gathered = whole_gathered code a b empty first.told doc all few short small shows in
    record { pages = rw (feed, device) gathered.read.pages; grew = put _ doc _ gathered.shown }) (document_sent code empty first.stood place put)

put_cause : (refusal : PutErr) (s t : ℕ) {f g l m : ℕ} → HasPutCause {T = Unit {0}} f g (Err refusal) → HasLack {T = Unit {0}} l m (Err refusal) → IsShowCaused (Err (show_of_put refusal)) s t f g l m
put_cause put.Failed s t cause lack = cause.failed refl
put_cause put.Memory s t cause lack = lack.lacked refl

on_refused : (p : Type 0) (refusal : PutErr) → OnOk {T = Unit {0}} (Err (show_of_put refusal)) p
on_refused p put.Failed = tt
on_refused p put.Memory = tt

-- the sink refused them
pub whole_unflushed : {before agrees : Type 0} (code : TextCode) (refusal : PutErr) {a b c : Moment} → a.held.held ≡ [] →
    Steps before (ShowsDoc code (Ok tt)) (DocumentCame code) (Ok tt) a b → agrees → c.feed ≡ b.feed → c.device ≡ b.device →
    ForShown b.sink.written b.held (λ was bytes _. AfterPut {T = Unit {0}} was c.sink.written bytes (Err refusal)) →
    AddedOf (bytes_to_come b.held) (bytes_to_come c.held) b.sink c.sink → HasPutCause {T = Unit {0}} b.sink.faults c.sink.faults (Err refusal) →
    HasLack {T = Unit {0}} b.sink.lacks c.sink.lacks (Err refusal) →
    Steps agrees (ShowsWhole code (Err (show_of_put refusal))) (DocumentSent code) (Err (show_of_put refusal)) a c
whole_unflushed code refusal {a} {b} {c} empty first fits feed device put added cause lack =
    let second : Steps _ Untold Untold (Err (show_of_put refusal)) b c = put_step (Err (show_of_put refusal)) fits feed device added (put_cause refusal _ _ cause lack) in
    steps_more (Err (show_of_put refusal)) first second (λ doc all few short small shows.
    let gathered = whole_gathered code a b empty first.told doc all few short small shows in
    put_refused refusal _ _ record { pages = rw (feed, device) gathered.read.pages; grew = put _ doc _ gathered.shown }) (on_refused (DocumentSent code a c) refusal)
