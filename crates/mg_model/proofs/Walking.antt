-- What a walk over the entries of a part tells of it.
use Rattle.std.proofs.Common.{◌≡◌, ℕ, ◌+◌, ◌-◌, ◌<◌, ◌≤◌, ◌==◌, ◌||◌, refl, None, length-append, Bool, true, false, List, [], ◌∷◌, ◌++◌, length, drop, sym, ap, subst, ◌∙◌, arith, inl, inr, Ok, Err, append-nil}
use Rattle.mg_dev.specs.declared.bad.Bad as declared
use Rattle.mg_dev.specs.declared.part.Part.{Part}
use Rattle.mg_dev.specs.declared.part_err.PartErr.{PartErr}
use Rattle.mg_dev.specs.declared.part_err.PartErr.TheVariants.{Device, Memory, Bad}
use Rattle.mg_defs.specs.CodedText.{piece_entries}
use Rattle.mg_defs.specs.Front.{Entry, AreEntries, NoEntry, front, last_string}
use Rattle.mg_front.specs.Entries.{entry_of, string_of}
use Rattle.mg_front.specs.Walk.{Walking, Given, Gave, AnswersNext, Stepped}
use Rattle.mg_front.specs.declared.entry.FrontEntry.{FrontEntry}
use Rattle.std.specs.Int.{div_ceil}
use Rattle.std.specs.declared.option.Option.{Option}
use Rattle.std.specs.Option.{IsSome}
use Rattle.mg_dev.specs.Files.{Files, Reads, bytes_at}
use Rattle.mg_dev.specs.Names.{same_part}
use Rattle.mg_dev.proofs.CallerLemmas.{cause_err, cause_ok}
use Rattle.mg_bits.specs.Pages.{Looked, Paging}
use Rattle.mg_front.specs.Looks.{ReadOn, ReadTo}
use Rattle.mg_front.proofs.CallerLemmas.{on_more, on_same, read_first, read_first_to}
use Rattle.mg_model.specs.declared.reading.ReadPieces.{ReadPieces}
use Rattle.mg_model.specs.Damage.{IsPart, IsWalkDamage, StandFirst}
use Rattle.mg_model.specs.Read.{AnswersEntries, HasNone, IsAtFirst, ReadOnce, ReadWithin, ReadsPieces, code_read}
use Rattle.mg_model.proofs.Entries.{code, entries-long}
use Rattle.mg_model.proofs.Seeking.{EndsIn, RiseTo, ends-in, rise-all, rise-push}
use Rattle.std.proofs.lemmas.Bool.Decides.{nat_tests}

-- a walk that has given all entries has read a part
all-read : (w : Walking) (out : FrontEntry) (pieces : List (List ℕ)) (lengths : List ℕ) (count : ℕ) (bytes same : List ℕ) (more : Bool) →
    Given w bytes (piece_entries (code pieces lengths)) → AnswersNext (Ok more) w out bytes → more ≡ false → w.width ≡ 1 → w.count ≡ count →
    length lengths ≡ length pieces → bytes ≡ same → IsPart count same (code pieces lengths)
all-read w out pieces lengths count bytes same more given answer ends width counted each e =
    let end : (w.done ≡ w.count) × (drop w.place bytes ≡ []) = subst (λ b. AnswersNext (Ok b) w out bytes) ends answer in
    let es = piece_entries (code pieces lengths) in
    record {
      front = record {
        entries = subst (λ n. AreEntries n 0 [] (piece_entries (code pieces lengths))) width given.entries;
        bytes_are = sym e ∙ given.rest ∙ ap (λ t. front es ++ t) end.1 ∙ append-nil (front es);
      };
      count_is = omega (arith, end.0, counted, given.done, entries-long pieces lengths each);
      each = each;
    }

stand-first : (w : Walking) (bytes : List ℕ) (es : List Entry) → Given w bytes es → w.width ≡ 1 → StandFirst bytes es
stand-first w bytes es given width = record {
  entries = subst (λ n. AreEntries n 0 [] es) width given.entries;
  rest = given.rest ∙ ap (λ n. front es ++ drop n bytes) given.place;
}

found-more : (bad : declared.Bad) (n : ℕ) → bad.low ≡ 0 → bad.high ≡ 0 → bad.found ≡ n → 0 < n
found-more bad n l h f = let above : bad.high < bad.found = bad.outside (omega (arith, l)) in omega (arith, above, f)

-- a walk that refuses tells a damage
walk-damage : (w : Walking) (out : FrontEntry) (es : List Entry) (part : Part) (count : ℕ) (bytes same : List ℕ) (bad : declared.Bad) → Given w bytes es →
    AnswersNext (Err (Bad bad)) w out bytes → w.width ≡ 1 → w.count ≡ count → w.feed.part ≡ part → bytes ≡ same → IsWalkDamage part count same bad
walk-damage w out es part count bytes same bad given answer width counted at e = subst (λ b. IsWalkDamage part count b bad) e (by answer)
  where
    by : AnswersNext (Err (Bad bad)) w out bytes → IsWalkDamage part count bytes bad
    by (inl (fewer, told, none)) = inl (record {
      es = es;
      first = stand-first w bytes es given width;
      fewer = omega (arith, fewer, given.done, counted);
      none = subst (λ n. NoEntry 1 (length es) (last_string [] es) (drop n bytes)) given.place
          (subst (λ l. NoEntry 1 (length es) l (drop w.place bytes)) given.last
          (subst (λ n. NoEntry 1 n w.last (drop w.place bytes)) given.done (subst (λ n. NoEntry n w.done w.last (drop w.place bytes)) width none)));
      told = record { part_is = told.part_is ∙ at; at_is = told.at_is ∙ given.place; low_is = told.low_is; high_is = told.high_is; found_is = told.found_is };
    })
    by (inr (all, told)) = inr (record {
      es = es;
      first = stand-first w bytes es given width;
      all = omega (arith, all, given.done, counted);
      more = found-more bad (length (drop (length (front es)) bytes)) told.low_is told.high_is (told.found_is ∙ ap (λ n. length (drop n bytes)) given.place);
      told = record {
        part_is = told.part_is ∙ at;
        at_is = told.at_is ∙ given.place;
        low_is = told.low_is;
        high_is = told.high_is;
        found_is = told.found_is ∙ ap (λ n. length (drop n bytes)) given.place;
      };
    })

-- how far a walk from the first byte on has read
pub record FirstRead (feed : Paging) (before now : Reads) (place : ℕ) : Type 0 where
  pub start : Paging
  pub none : start.held ≡ None
  pub part : feed.part ≡ start.part
  pub read : ReadOn start feed before now 0 place

first-none : (feed : Paging) (r s : Reads) (place : ℕ) → feed.held ≡ None → s ≡ r → place ≡ 0 → FirstRead feed r s place
first-none feed r s place none same at = record {
  start = feed;
  none = none;
  part = refl;
  read = subst (ReadOn feed feed r s 0) (sym at) (subst (λ t. ReadOn feed feed r t 0 0) (sym same) (on_same feed r 0));
}

first-more : (a b : Paging) (r s t : Reads) (p q : ℕ) → b.part ≡ a.part → FirstRead a r s p → ReadOn a b s t p q → FirstRead b r t q
first-more a b r s t p q part first on = record { start = first.start; none = first.none; part = part ∙ first.part; read = on_more first.start a b r s t 0 p q first.part first.read on }

-- the walk is within its part
place-within : (w : Walking) (bytes : List ℕ) (es : List Entry) → Given w bytes es → w.place ≤ length bytes
place-within w bytes es given = omega (arith, given.place, ap length given.rest, length-append (front es) (drop w.place bytes))

-- a walk that stands within its part has read no more pages than it has
first-within : (feed : Paging) (r s : Reads) (place size : ℕ) → place ≤ size → FirstRead feed r s place → s feed.part ≤ r feed.part + div_ceil size 4096
first-within feed r s place size within first =
    let pages : div_ceil place 4096 ≤ div_ceil size 4096 = omega arith in
    let s_is : s feed.part ≡ s first.start.part = ap s first.part in
    let r_is : r feed.part ≡ r first.start.part = ap r first.part in
    omega (arith, pages, read_first first.start feed r s place first.none first.read)

-- the same of a walk whose part is told
once-within : (w : Walking) (f now : Option Files) (r s : Reads) (es : List Entry) (part : Part) (name : List ℕ) → IsSome f → now ≡ f → w.feed.name ≡ name →
    w.feed.part ≡ part → Gave w now es → FirstRead w.feed r s w.place → s part ≤ r part + div_ceil (length (bytes_at f name)) 4096
once-within w f now r s es part name told same named at gave first =
    let bytes : bytes_at now w.feed.name ≡ bytes_at f name = ap (λ g. bytes_at g w.feed.name) same ∙ ap (bytes_at f) named in
    let within : w.place ≤ length (bytes_at f name) = omega (arith, place-within w (bytes_at now w.feed.name) es (gave.given (subst IsSome (sym same) told)), ap length bytes) in
    subst (λ p. s p ≤ r p + div_ceil (length (bytes_at f name)) 4096) at (first-within w.feed r s w.place (length (bytes_at f name)) within first)

-- and where its next step was refused, one page more at most
refused-within : (w : Walking) (f now : Option Files) (r s t : Reads) (es : List Entry) (part : Part) (name : List ℕ) → IsSome f → now ≡ f →
    w.feed.name ≡ name → w.feed.part ≡ part → Gave w now es → FirstRead w.feed r s w.place → ReadTo w.feed s t w.place (w.place + 281) →
    ReadWithin part (bytes_at f name) 1 r t
refused-within w f now r s t es part name told same named at gave first to =
    let bytes : bytes_at now w.feed.name ≡ bytes_at f name = ap (λ g. bytes_at g w.feed.name) same ∙ ap (bytes_at f) named in
    let within : w.place ≤ length (bytes_at f name) = omega (arith, place-within w (bytes_at now w.feed.name) es (gave.given (subst IsSome (sym same) told)), ap length bytes) in
    let size = length (bytes_at f name) in
    subst (λ p. t p ≤ r p + div_ceil size 4096 + 1) (sym first.part ∙ at) (read_first_to first.start w.feed r s t w.place size first.none first.part within first.read to)

-- a refusal of a walk's next step
once-refused : (T : Type 0) (w : Walking) (out : FrontEntry) (es : List Entry) (refusal : PartErr) (part : Part) (count : ℕ)
    (bytes same : List ℕ) (r s : Reads) → Given w bytes es → AnswersNext (Err refusal) w out bytes →
    w.width ≡ 1 → w.count ≡ count → w.feed.part ≡ part → bytes ≡ same → ReadWithin part same 1 r s → ReadOnce {T = T} part count same r s (Err refusal)
once-refused T w out es Device part count bytes same r s given a width counted at e within = within
once-refused T w out es Memory part count bytes same r s given a width counted at e within = absurd a
once-refused T w out es (Bad bad) part count bytes same r s given a width counted at e within = inr (walk-damage w out es part count bytes same bad given a width counted at e, within)

-- what it answers of the part
entries-refused : (w : Walking) (out : FrontEntry) (es : List Entry) (refusal : PartErr) (part : Part) (count : ℕ)
    (bytes same : List ℕ) → Given w bytes es → AnswersNext (Err refusal) w out bytes → w.width ≡ 1 → w.count ≡ count → w.feed.part ≡ part → bytes ≡ same →
    AnswersEntries part count same (Err refusal)
entries-refused w out es Device part count bytes same given a width counted at e = tt
entries-refused w out es Memory part count bytes same given a width counted at e = tt
entries-refused w out es (Bad bad) part count bytes same given a width counted at e = walk-damage w out es part count bytes same bad given a width counted at e

-- ---- one step after the other

looked-then : {p q : Part} {f g h : Option Files} {r s t : Reads} {a b c : ℕ} → q ≡ p → Looked p f g r s a b → Looked q g h s t b c → Looked p f h r t a c
looked-then {p} same one two = record {
  files = two.files ∙ one.files;
  faults = omega (arith, one.faults, two.faults);
  later = λ x. omega (arith, one.later x, two.later x);
  others = λ x apart. two.others x (ap (same_part x) same ∙ apart) ∙ one.others x apart;
}

second-true : (b c : Bool) → b ≡ false → (b || c) ≡ true → c ≡ true
second-true false c none either = either
second-true true c none either = absurd cc

not-first : (n : ℕ) → 0 < n → (n == 0) ≡ false
not-first n some = grind (arith, nat_tests)

-- what a walk has read since its first entry
pub record ReadSoFar (start now : Walking) (read : ReadPieces) (f g : Option Files) (r s : Reads) (a b : ℕ) : Type 0 where
  pub looked : Looked start.feed.part f g r s a b
  pub gave : Gave now g (piece_entries (code_read read))
  pub first : FirstRead now.feed r s now.place
  pub name : now.feed.name ≡ start.feed.name
  pub part : now.feed.part ≡ start.feed.part
  pub width : now.width ≡ 1
  pub count : now.count ≡ start.count
  pub each : length read.lengths.items ≡ length read.pieces
  pub room : length read.pieces + (now.count - now.done) ≤ start.count
  pub rising : RiseTo read.pieces (length read.pieces)
  pub last : EndsIn read.pieces now.last
  pub begun : 0 < length read.pieces → 0 < now.done

pub read-begun : {w : Walking} {read : ReadPieces} {f : Option Files} {r : Reads} {a : ℕ} → IsAtFirst w f → HasNone read → ReadSoFar w w read f f r r a a
read-begun {w} {read} {f} {r} {a} at none =
    let empty : piece_entries (code_read read) ≡ [] = ap (λ ps. piece_entries (code ps read.lengths.items)) none.pieces in
    record {
      looked = record { files = refl; faults = omega arith; later = λ p. omega arith; others = λ p _. refl };
      gave = subst (Gave w f) (sym empty) at.gave;
      first = first-none w.feed r r w.place at.held refl at.place;
      name = refl;
      part = refl;
      width = at.width;
      count = refl;
      each = omega (arith, ap length none.pieces, ap length none.lengths);
      room = omega (arith, ap length none.pieces);
      rising = record { next = λ k within. absurd (omega (arith, within, ap length none.pieces)) };
      last = λ some. absurd (omega (arith, some, ap length none.pieces));
      begun = λ some. absurd (omega (arith, some, ap length none.pieces));
    }

here : {start now : Walking} {read : ReadPieces} {f g : Option Files} {r s : Reads} {a b : ℕ} → ReadSoFar start now read f g r s a b → IsSome f → IsSome g
here so told = subst IsSome (sym so.looked.files) told

same-bytes : {start now : Walking} {read : ReadPieces} {f g : Option Files} {r s : Reads} {a b : ℕ} → ReadSoFar start now read f g r s a b →
    bytes_at g now.feed.name ≡ bytes_at f start.feed.name
same-bytes {now = now} {f = f} so = ap (λ x. bytes_at x now.feed.name) so.looked.files ∙ ap (bytes_at f) so.name

module _ {start now next : Walking} {read : ReadPieces} {out : FrontEntry} {f g h : Option Files} {r s t : Reads} {a b c : ℕ} (so : ReadSoFar start now read f g r s a b) where
  read-on : (more : Bool) → Stepped now next out (Ok more) g h s t b c → FirstRead next.feed r t next.place
  read-on more step = first-more now.feed next.feed r s t now.place next.place step.same.part so.first step.reads

  read-within : (more : Bool) → Stepped now next out (Ok more) g h s t b c → IsSome f → ReadWithin start.feed.part (bytes_at f start.feed.name) 0 r t
  read-within more step told =
      let within = once-within next f h r t _ start.feed.part start.feed.name told (step.looked.files ∙ so.looked.files) (step.same.name ∙ so.name) (step.same.part ∙ so.part)
      (step.gave _ so.gave) (read-on more step) in
      omega (arith, within)

  -- one entry more
  pub read-more : {behind : ReadPieces} → Stepped now next out (Ok true) g h s t b c → behind.pieces ≡ read.pieces ++ string_of out ∷ [] → piece_entries (code_read behind) ≡ piece_entries (code_read read) ++ entry_of 1 out ∷ [] →
      length behind.lengths.items ≡ length behind.pieces → length behind.pieces ≡ length read.pieces + 1 → ReadSoFar start next behind f h r t a c
  read-more {behind} step pieces entries each one = record {
    looked = looked-then so.part so.looked step.looked;
    gave = subst (Gave next h) (ap (λ n. piece_entries (code_read read) ++ entry_of n out ∷ []) so.width ∙ sym entries) (step.gave _ so.gave);
    first = read-on true step;
    name = step.same.name ∙ so.name;
    part = step.same.part ∙ so.part;
    width = step.same.width ∙ so.width;
    count = step.same.count ∙ so.count;
    each = each;
    room = omega (arith, so.room, step.step.0, step.step.1, step.same.count, one);
    rising = rise-push read.pieces behind.pieces (string_of out) now.last pieces so.rising so.last (λ some. second-true _ _ (not-first now.done (so.begun some)) step.rises.above);
    last = ends-in read.pieces behind.pieces (string_of out) next.last pieces step.rises.last;
    begun = λ some. omega (arith, step.step.1);
  }

  -- the end
  pub read-end : Stepped now next out (Ok false) g h s t b c → ReadsPieces start.feed.name start.feed.part start.count (Ok read) f h r t a c
  read-end step = record {
    answer = λ told. all-read now out read.pieces read.lengths.items start.count (bytes_at g now.feed.name) (bytes_at f start.feed.name) false
        (so.gave.given (here so told)) (step.answer (here so told)) refl so.width so.count so.each (same-bytes so);
    each = so.each;
    rises = rise-all read.pieces (length read.pieces) so.rising (omega arith);
    looked = looked-then so.part so.looked step.looked;
    once = λ told. read-within false step told;
    cause = cause_ok (omega (arith, so.looked.faults, step.looked.faults));
  }

  -- no memory for the entry
  pub read-lacks : Stepped now next out (Ok true) g h s t b c → ReadsPieces start.feed.name start.feed.part start.count (Err Memory) f h r t a c
  read-lacks step = record {
    answer = λ told. tt;
    each = tt;
    rises = tt;
    looked = looked-then so.part so.looked step.looked;
    once = λ told. read-within true step told;
    cause = record { later = omega (arith, so.looked.faults, step.looked.faults); device = tt };
  }

  -- a refusal of the walk
  pub read-refused : {refusal : PartErr} → Stepped now next out (Err refusal) g h s t b c →
      ReadsPieces start.feed.name start.feed.part start.count (Err refusal) f h r t a c
  read-refused {refusal} step = record {
    answer = λ told. entries-refused now out (piece_entries (code_read read)) refusal start.feed.part start.count (bytes_at g now.feed.name)
        (bytes_at f start.feed.name) (so.gave.given (here so told)) (step.answer (here so told)) so.width so.count so.part (same-bytes so);
    each = tt;
    rises = tt;
    looked = looked-then so.part so.looked step.looked;
    once = λ told.
        let within = refused-within now f g r s t (piece_entries (code_read read)) start.feed.part start.feed.name told so.looked.files so.name so.part so.gave so.first step.reads in
        once-refused ReadPieces now out (piece_entries (code_read read)) refusal start.feed.part start.count (bytes_at g now.feed.name) (bytes_at f start.feed.name) r t
        (so.gave.given (here so told)) (step.answer (here so told)) so.width so.count so.part (same-bytes so) within;
    cause = cause_err so.looked.faults step.cause;
  }

-- reading was refused before the first entry
pub read-not : {name : List ℕ} {part : Part} {count : ℕ} {f : Option Files} {r : Reads} {a : ℕ} → ReadsPieces name part count (Err Memory) f f r r a a
read-not = record {
  answer = λ told. tt;
  each = tt;
  rises = tt;
  looked = record { files = refl; faults = omega arith; later = λ p. omega arith; others = λ p _. refl };
  once = λ told. omega arith;
  cause = record { later = omega arith; device = tt };
}
