-- Steps of counting pieces, one behind another, by what each of them promises.
use Rattle.std.proofs.Common.{arith, ◌≡◌, ◌+◌, ◌-◌, ◌*◌, ◌++◌, ◌^◌, ◌≤◌, ◌<◌, ℕ, Bool, true, false, List, [], ◌∷◌, length, take, Option, None, Some, Result, Ok, Err, refl, sym, ◌∙◌, ap, subst, length-append}
use Rattle.std.specs.Prelude.{IfOk, IfSome, OnErr}
use Rattle.std.specs.Bool.{OnTrue}
use Rattle.std.proofs.Math.Seq.{take-length}
use Rattle.mg_dev.specs.Causes.{Rose}
use Rattle.mg_dev.specs.Files.{Files, Reads}
use Rattle.mg_dev.specs.Names.{same_part}
use Rattle.mg_dev.specs.declared.device.Failed.{Failed}
use Rattle.mg_dev.specs.declared.part.Part.TheVariants as part
use Rattle.mg_dev.specs.declared.part_err.PartErr.{PartErr}
use Rattle.mg_dev.specs.declared.part_err.PartErr.TheVariants.{Bad, Device, Memory}
use Rattle.mg_bits.specs.Feed.{Calm, Read, of_store}
use Rattle.mg_bits.specs.Pages.{Fits, Paging, feeding_of}
use Rattle.mg_bits.proofs.CallerLemmas.{calm_more, calm_none}
use Rattle.mg_defs.specs.declared.Stream.TheVariants.{Words, Others}
use Rattle.mg_defs.specs.Bits.{Bits, Shows}
use Rattle.mg_defs.specs.Codes.{gamma}
use Rattle.mg_defs.specs.CodedText.{TextCode, codeword_of, coded_doc, coded_pair, place_after}
use Rattle.mg_defs.specs.Parse.{Pair, parse}
use Rattle.mg_defs.specs.Terms.{document}
use Rattle.mg_defs.proofs.FrontLaws.{shows_left}
use Rattle.mg_text.specs.Decoding.{IsReadCaused, coded_pairs}
use Rattle.mg_text.specs.PieceCounts.{CountMoment, CountSteps, Counts, CountsDoc, CountsFirst, CountsIfFound, CountsPair, CountsPairs, CountsPiece, CountsPieces, PieceTally, with_pair, with_pairs, with_piece}
use Rattle.mg_text.specs.Places.{ReadsPlace}
use Rattle.mg_text.specs.Reading.{TextFits, TextReading, TextStands}
use Rattle.mg_text.proofs.DocumentLaws.{not_text, with_feeds}
use Rattle.mg_text.proofs.PairLaws.{bits_more, next_pair, pair_shows, pair_small, shows_next}
use Rattle.mg_text.proofs.ReaderLaws.{doc_at}
use Rattle.mg_text.proofs.SameFiles.{same_file}

-- ---- answers

pub on_true_map : (b : Bool) {A B : Type 0} → (A → B) → OnTrue b A → OnTrue b B
on_true_map true f h = f h
on_true_map false f h = tt

if_done_map : (answer : Result Bool Failed) {A B : Type 0} → (A → B) → IfOk answer (λ done. OnTrue done A) → IfOk answer (λ done. OnTrue done B)
if_done_map (Ok done) f h = on_true_map done f h
if_done_map (Err failed) f h = tt

-- ---- causes

pub failed_more : {T : Type 0} (answer : Result T Failed) (a b c : ℕ) → a ≤ b → OnErr answer (Rose b c) → OnErr answer (Rose a c)
failed_more (Ok value) a b c le cause = tt
failed_more (Err failed) a b c le cause = omega (arith, le, cause)

-- a number was refused since the device failed
pub number_failed : (T : Type 0) (failure : Bool) (refusal : PartErr) (s t : ℕ) → failure ≡ true → OnTrue failure (refusal ≡ Device) →
    IsReadCaused {T = T} (Err refusal) s t → Rose s t
number_failed T true Device s t is failed cause = cause
number_failed T true Memory s t is failed cause = absurd cause
number_failed T true (Bad bad) s t is failed cause = absurd cc
number_failed T false refusal s t is failed cause = absurd cc

pub on_true_is : (b : Bool) (A : Type 0) → b ≡ true → OnTrue b A → A
on_true_is true A is h = h
on_true_is false A is h = absurd cc

-- ---- counts

-- pairs behind others
pub with_pairs_more : (code : TextCode) (one two : List Pair) (t : PieceTally) → with_pairs code (one ++ two) t ≡ with_pairs code two (with_pairs code one t)
with_pairs_more code [] two t = refl
with_pairs_more code (p ∷ one) two t = with_pairs_more code one two (with_pair code p t)

-- ---- one step behind another

counts_both : (x y : Bits) (f g : PieceTally → PieceTally) (a b c : CountMoment) → Calm a.feed b.feed a.device b.device →
    Counts x f a b → Counts y g b c → Counts (x ++ y) (λ t. g (f t)) a c
counts_both x y f g a b c calm first second = λ small shows.
    let head = first (omega (arith, small, length-append x y)) (shows_left _ a.place x y shows) in
    let tail = second (omega (arith, small, length-append x y, head.0)) (shows_next _ _ _ _ a.place b.place x y calm head.0 shows) in
    (omega (arith, head.0, tail.0, length-append x y), tail.1 ∙ ap g head.1)

-- ---- a pair

-- the other was counted behind the word
pub pair_counted : {before agrees : Type 0} (code : TextCode) (first : Bool) (answer : Result Bool Failed) {a b c : CountMoment} → first ≡ true →
    CountSteps before (OnTrue first (CountsPiece code Words a b)) (Ok first) a b →
    CountSteps agrees (IfOk answer (λ done. OnTrue done (CountsPiece code Others b c))) answer b c →
    CountSteps agrees (IfOk answer (λ done. OnTrue done (CountsPair code a c))) answer a c
pair_counted code first answer {a} {b} {c} is word other = record {
  fits = other.fits;
  calm = calm_more _ _ _ _ _ _ word.calm other.calm;
  told = if_done_map answer (λ told. λ p there. counts_both (codeword_of code.words p.word) (codeword_of code.others p.other) (with_piece code Words p.word)
      (with_piece code Others p.other) a b c word.calm (on_true_is first (CountsPiece code Words a b) is word.told p.word there.word) (told p.other there.other)) other.told;
  cause = failed_more answer _ _ _ word.calm.faults other.cause;
}

-- ---- pairs

-- no pair was counted yet
pub first_none : {agrees : Type 0} (code : TextCode) (count : ℕ) {a : CountMoment} → agrees →
    CountSteps {T = Bool} agrees (OnTrue true (CountsFirst code count 0 a a)) (Ok true) a a
first_none code count fits = record { fits = fits; calm = calm_none _ _; told = λ ps all is small shows. (omega arith, refl); cause = tt }

-- one pair more was counted
pub one_more : {before agrees : Type 0} (code : TextCode) {count i : ℕ} (answer : Bool) {a b c : CountMoment} → i < count → answer ≡ true →
    CountSteps {T = Bool} before (OnTrue true (CountsFirst code count i a b)) (Ok true) a b →
    CountSteps agrees (OnTrue answer (CountsPair code b c)) (Ok answer) b c →
    CountSteps {T = Bool} agrees (OnTrue true (CountsFirst code count (i + 1) a c)) (Ok true) a c
one_more code {count} {i} answer {a} {b} {c} lt is_done first pair = record {
  fits = pair.fits;
  calm = calm_more _ _ _ _ _ _ first.calm pair.calm;
  told = λ ps all is small shows.
      let here = first.told ps all is small shows in
      let next = next_pair code ps i all (omega (arith, is, lt)) in
      let tells : CountsPair code b c = on_true_is answer (CountsPair code b c) is_done pair.told in
      let both = tells next.pair next.there (pair_small a.place b.place code ps i next here.0 small)
      (pair_shows _ _ _ _ a.place b.place code ps i next first.calm here.0 shows) in (
        omega (arith, here.0, both.0, ap length (bits_more code ps i next), length-append (coded_pairs code (take i ps)) (coded_pair code next.pair)),
        both.1 ∙ ap (with_pair code next.pair) here.1
            ∙ sym (ap (λ l. with_pairs code l a.counts) next.more ∙ with_pairs_more code (take i ps) (next.pair ∷ []) a.counts),
      );
  cause = tt;
}

-- one was not
pub pair_stopped : {S T U : Type 0} {before agrees one two : Type 0} {first : Result S Failed} {second : Result T Failed} (value : U) {a b c : CountMoment} →
    CountSteps before one first a b → CountSteps agrees two second b c → CountSteps agrees (Unit {0}) (Ok value) a c
pair_stopped value first second = record { fits = second.fits; calm = calm_more _ _ _ _ _ _ first.calm second.calm; told = tt; cause = tt }

-- or the device failed
pub pair_failed : {S T U : Type 0} {before agrees one two : Type 0} {first : Result S Failed} (failed : Failed) {a b c : CountMoment} →
    CountSteps before one first a b → CountSteps {T = T} agrees two (Err failed) b c → CountSteps {T = U} agrees (Unit {0}) (Err failed) a c
pair_failed failed first second = record {
  fits = second.fits;
  calm = calm_more _ _ _ _ _ _ first.calm second.calm;
  told = tt;
  cause = failed_more {T = Bool} (Err failed) _ _ _ first.calm.faults second.cause;
}

-- all pairs were counted
pub all_counted : {agrees : Type 0} (code : TextCode) {count i : ℕ} {a b : CountMoment} → i ≡ count →
    CountSteps {T = Bool} agrees (OnTrue true (CountsFirst code count i a b)) (Ok true) a b →
    CountSteps {T = Bool} agrees (OnTrue true (CountsPairs code count a b)) (Ok true) a b
all_counted code {count} {i} {a} {b} done step = record {
  fits = step.fits;
  calm = step.calm;
  told = λ ps all is small shows.
      let whole : take i ps ≡ ps = ap (λ n. take n ps) (omega (arith, is, done)) ∙ take-length ps in
      rw whole at (step.told ps all is small shows);
  cause = tt;
}

-- ---- a document

-- the number of pairs is this one, where the code of a number stands at the place
abbrev pub CountIs : ℕ → CountMoment → CountMoment → Type 0
CountIs count old new = (n : ℕ) → n < 2 ^ 32 → old.place + length (gamma (n + 1)) ≤ 2 ^ 63 → Shows (old.feed.source old.device.files) old.place (gamma (n + 1)) →
    (count ≡ n) × (new.place ≡ old.place + length (gamma (n + 1))) × Read old.feed new.feed old.device new.device old.place (old.place + length (gamma (n + 1)))

-- its pairs were counted behind their number
pub doc_counted : {agrees : Type 0} (code : TextCode) (count : ℕ) (answer : Bool) {a b c : CountMoment} → answer ≡ true → b.counts ≡ a.counts →
    Calm a.feed b.feed a.device b.device → CountIs count a b → CountSteps agrees (OnTrue answer (CountsPairs code count b c)) (Ok answer) b c →
    CountSteps {T = Option ℕ} agrees (CountsDoc code count a c) (Ok (Some count)) a c
doc_counted code count answer {a} {b} {c} is_done same calm is pairs = record {
  fits = pairs.fits;
  calm = calm_more _ _ _ _ _ _ calm pairs.calm;
  told = λ doc all few small shows.
      let x = gamma (length (parse doc) + 1) in
      let y = coded_pairs code (parse doc) in
      let head = is (length (parse doc)) few (omega (arith, small, length-append x y)) (shows_left _ a.place x y shows) in
      let tells : CountsPairs code count b c = on_true_is answer (CountsPairs code count b c) is_done pairs.told in
      let rest = tells (parse doc) all head.0 (omega (arith, small, length-append x y, head.1))
      (shows_next _ _ _ _ a.place b.place x y calm head.1 shows) in
      (head.0, rest.1 ∙ ap (with_pairs code (parse doc)) same);
  cause = tt;
}

-- its pairs were not counted
pub doc_stopped : {T : Type 0} {agrees tells : Type 0} {answer : Result T Failed} {a b c : CountMoment} → Calm a.feed b.feed a.device b.device →
    CountSteps agrees tells answer b c → CountSteps {T = Option ℕ} agrees (Unit {0}) (Ok None) a c
doc_stopped calm pairs = record { fits = pairs.fits; calm = calm_more _ _ _ _ _ _ calm pairs.calm; told = tt; cause = tt }

-- or the device failed
pub doc_failed : {T : Type 0} {agrees tells : Type 0} (failed : Failed) {a b c : CountMoment} → Calm a.feed b.feed a.device b.device →
    CountSteps {T = T} agrees tells (Err failed) b c → CountSteps {T = Option ℕ} agrees (Unit {0}) (Err failed) a c
doc_failed failed calm pairs = record {
  fits = pairs.fits;
  calm = calm_more _ _ _ _ _ _ calm pairs.calm;
  told = tt;
  cause = failed_more {T = Bool} (Err failed) _ _ _ calm.faults pairs.cause;
}

-- ---- a reader

-- the document of a number was counted from its place on
pub counts_told : {agrees : Type 0} (result : Result (Option ℕ) Failed) (r : TextReading) (files : Option Files) (collection : List ℕ) (number from place : ℕ) (feed : Paging) (a c : CountMoment) →
    TextStands r files collection → 1 ≤ number → number ≤ r.documents → a.device.files ≡ files → from ≡ place_after r.code collection (number - 1) →
    place ≡ 8 * from → feed ≡ r.text → a.feed ≡ feeding_of 4096 feed → a.place ≡ place →
    CountSteps agrees (IfOk result (λ found. IfSome found (λ n. CountsDoc r.code n a c))) result a c →
    CountsIfFound r.code result number collection a.counts c.counts
counts_told (Err failed) r files collection number from place feed a c stands some within same at place_is fed feed_is there step = tt
counts_told (Ok None) r files collection number from place feed a c stands some within same at place_is fed feed_is there step = tt
counts_told (Ok (Some n)) r files collection number from place feed a c stands some within same at place_is fed feed_is there step =
    let doc = document collection number in
    let stood = doc_at r files a.device.files collection number from place feed stands some within same at place_is fed in
    let small : a.place + length (coded_doc r.code doc) ≤ 2 ^ 63 = omega (arith, stood.small, there) in
    step.told doc stood.pairs stood.few small (rw (feed_is, there) stood.shows)

-- its place was refused
pub count_refused : {old : TextReading} {places : Paging} {number : ℕ} {counts : PieceTally} {claim : Type 0} {caused : ℕ → ℕ → Type 0}
    {f g : Option Files} {r s : Reads} {k m : ℕ} → TextFits old f → old.places.part ≡ part.Places → ReadsPlace claim caused old.places places f g r s k m →
    CountsPieces number (Ok None) old (with_feeds old old.text places) counts counts f g r s k m
count_refused {old} fits own read = record {
  fits = record { text = subst (Fits old.text) (sym read.looked.files) fits.text; places = read.fits };
  same = record { text = refl; places = read.file.name; code = refl; version = refl; documents = refl; size = refl };
  looked = record {
    files = read.looked.files;
    faults = read.looked.faults;
    later = read.looked.later;
    others = λ p one other. read.looked.others p (subst (λ q. same_part p q ≡ false) (sym own) other);
  };
  counted = λ collection stands. tt;
  cause = record { later = read.looked.faults; failed = tt };
}

-- since the store failed
pub count_failed : {old : TextReading} {places : Paging} {number : ℕ} {counts : PieceTally} {claim : Type 0} {caused : ℕ → ℕ → Type 0} (failed : Failed)
    {f g : Option Files} {r s : Reads} {k m : ℕ} → TextFits old f → old.places.part ≡ part.Places → ReadsPlace claim caused old.places places f g r s k m →
    Rose k m → CountsPieces number (Err failed) old (with_feeds old old.text places) counts counts f g r s k m
count_failed {old} {number = number} {counts = counts} failed fits own read rose =
    let none = count_refused {number = number} {counts = counts} fits own read in
    record { fits = none.fits; same = none.same; looked = none.looked; counted = λ collection stands. tt; cause = record { later = read.looked.faults; failed = rose } }

-- its place was read, and then it was counted or not
pub count_done : (result : Result (Option ℕ) Failed) {tells : Type 0} {old : TextReading} {text0 text places : Paging} {number p q : ℕ} {claim : Type 0}
    {caused : ℕ → ℕ → Type 0} {counts counts_now : PieceTally} {f g h : Option Files} {r s t : Reads} {k m n : ℕ} →
    old.text.part ≡ part.Text → old.places.part ≡ part.Places → ReadsPlace claim caused old.places places f g r s k m → text0 ≡ old.text →
    CountSteps (Fits text h) tells result (record { feed = feeding_of 4096 text0; place = p; device = of_store g m s; counts = counts })
    (record { feed = feeding_of 4096 text; place = q; device = of_store h n t; counts = counts_now }) →
    ((collection : List ℕ) → TextStands old f collection → CountsIfFound old.code result number collection counts counts_now) →
    CountsPieces number result old (with_feeds old text places) counts counts_now f h r t k n
count_done result {old = old} {text0 = text0} {text = text} {places = places} {r = r} {s = s} {t = t} text_own own read same step told =
    let text_is : text0.part ≡ part.Text = ap (λ (feed : Paging). feed.part) same ∙ text_own in
    record {
      fits = record { text = step.fits; places = subst (Fits places) (sym step.calm.files) read.fits };
      same = record { text = same_file text0 text _ _ step.calm ∙ ap (λ (feed : Paging). feed.name) same; places = read.file.name; code = refl; version = refl; documents = refl; size = refl };
      looked = record {
        files = step.calm.files ∙ read.looked.files;
        faults = omega (arith, read.looked.faults, step.calm.faults);
        later = λ p. omega (arith, read.looked.later p, step.calm.reads.later p);
        others = λ p one other. step.calm.reads.others p (not_text text0.part p text_is one) ∙ read.looked.others p (subst (λ q. same_part p q ≡ false) (sym own) other);
      };
      counted = told;
      cause = record { later = omega (arith, read.looked.faults, step.calm.faults); failed = failed_more result _ _ _ read.looked.faults step.cause };
    }
