-- What a walk over entries gives.
use Rattle.std.proofs.Common.{arith, ◌≡◌, ◌+◌, ◌<◌, ◌==◌, ◌||◌, ◌++◌, ◌⊎◌, inl, inr, ℕ, Bool, false, true, List, [], ◌∷◌}
use Rattle.std.proofs.Common.{length, take, drop, Some, None, refl, sym, ◌∙◌, ap, subst, length-append, append_assoc, IsSome, append-nil, Ok, Err, Result, slice_get}
use Rattle.mg_dev.specs.declared.part_err.PartErr.{PartErr}
use Rattle.mg_dev.specs.declared.part_err.PartErr.TheVariants.{Device, Memory, Bad}
use Rattle.std.specs.declared.option.Option.{Option}
use Rattle.std.proofs.lemmas.List.{drop-drop}
use Rattle.mg_dev.specs.declared.bad.Bad as declared
use Rattle.mg_dev.specs.declared.device.Failed.{Failed}
use Rattle.mg_dev.specs.Bads.{IsBad}
use Rattle.mg_dev.specs.Files.{Files, Reads, bytes_at}
use Rattle.mg_bits.specs.Pages.{Fits}
use Rattle.mg_defs.specs.Front.{Entry, IsEntry, AreEntries, entry_bytes, front, front_from, is_below, last_string, read_entry, IsFront}
use Rattle.mg_front.specs.Entries.{ReadsEntry, string_of, entry_of, found_of}
use Rattle.mg_front.specs.Looks.{ReadOn}
use Rattle.mg_defs.proofs.FrontParts.{prefix_of, same_entry, slice_get-behind}
use Rattle.mg_defs.specs.Front.{NoEntry}
use Rattle.mg_front.specs.Walk.{Walking, Given, Gave, BeginsWith, AnswersNext, AnswersAmong, Stepped}
use Rattle.mg_front.specs.declared.entry.FrontEntry.{FrontEntry}
use Rattle.mg_defs.specs.Front.{StandsFirst}
use Rattle.mg_defs.proofs.EntryLaws.{read_stands, read_written, entries_rest, none_stands, front_more, entries_more, last_append}
use Rattle.mg_front.proofs.ReadFacts.{told_as}

-- nothing was given yet
pub given_none : (w : Walking) (bytes : List ℕ) → w.done ≡ 0 → w.last ≡ [] → w.place ≡ 0 → Given w bytes []
unfolding front_from
given_none w bytes d l p = record { done = d; last = l; entries = tt; place = p; rest = ap (λ n. drop n bytes) (sym p) }

stands_found : (width i : ℕ) (before bytes : List ℕ) (out : FrontEntry) (o : Option ℕ) (size : ℕ) → o ≡ Some size →
    read_entry width i before bytes ≡ found_of width out o →
    StandsFirst width i before bytes (record { entry = record { string = take out.length out.string; field = take width out.field }; size = size })
stands_found width i before bytes out o size e read = read_stands width i before bytes _ (read ∙ ap (found_of width out) e)

pub begins : (width i : ℕ) (before bytes : List ℕ) (out : FrontEntry) (o : Option ℕ) (size : ℕ) → o ≡ Some size →
    read_entry width i before bytes ≡ found_of width out o →
    BeginsWith width i before bytes (record { string = take out.length out.string; field = take width out.field })
begins width i before bytes out o size e read =
    let s = stands_found width i before bytes out o size e read in
    record { entry = s.entry; rest = s.front ∙ ap (λ n. entry_bytes i before (entry_of width out) ++ drop n bytes) s.size }

pub no_entry : (width i : ℕ) (before bytes : List ℕ) (out : FrontEntry) (o : Option ℕ) → o ≡ None → read_entry width i before bytes ≡ found_of width out o → NoEntry width i before bytes
no_entry width i before bytes out o e read = none_stands width i before bytes (read ∙ ap (found_of width out) e)

pub given_more : (w next : Walking) (bytes : List ℕ) (es : List Entry) (e : Entry) (size : ℕ) → Given w bytes es →
    StandsFirst w.width w.done w.last (drop w.place bytes) (record { entry = e; size = size }) →
    next.width ≡ w.width → next.done ≡ w.done + 1 → next.place ≡ w.place + size → next.last ≡ e.string → Given next bytes (es ++ e ∷ [])
given_more w next bytes es e size before stands width done place last =
    let is : IsEntry w.width (length es) (last_string [] es) e = subst (λ l. IsEntry w.width (length es) l e) before.last (subst (λ n. IsEntry w.width n w.last e) before.done stands.entry) in
    let code : entry_bytes w.done w.last e ≡ entry_bytes (length es) (last_string [] es) e = ap (λ n. entry_bytes n w.last e) before.done ∙ ap (λ l. entry_bytes (length es) l e) before.last in
    let all : front (es ++ e ∷ []) ≡ front es ++ entry_bytes (length es) (last_string [] es) e = front_more es e in
    record {
      done = done ∙ omega (arith, before.done, length-append es (e ∷ []));
      last = last ∙ sym (last_append [] es (e ∷ []));
      entries = subst (λ n. AreEntries n 0 [] (es ++ e ∷ [])) (sym width) (entries_more w.width es e before.entries is);
      place = place ∙ omega (arith, before.place, stands.size, ap length code, ap length all, length-append (front es) (entry_bytes (length es) (last_string [] es) e));
      rest =
          before.rest ∙ ap (λ t. front es ++ t) (stands.front ∙ ap (λ t. entry_bytes w.done w.last e ++ t) (drop-drop size w.place bytes) ∙ ap (λ t. t ++ drop (w.place + size) bytes) code)
          ∙ sym (append_assoc (front es) (entry_bytes (length es) (last_string [] es) e) (drop (w.place + size) bytes))
          ∙ ap (λ t. t ++ drop (w.place + size) bytes) (sym all) ∙ ap (λ n. front (es ++ e ∷ []) ++ drop n bytes) (sym place);
    }

pub gave_more : (w next : Walking) (f now : Option Files) (es : List Entry) (out : FrontEntry) (o : Option ℕ) (size : ℕ) → Gave w f es → Fits next.feed now →
    now ≡ f → next.feed.name ≡ w.feed.name → o ≡ Some size →
    (IsSome f → read_entry w.width w.done w.last (drop w.place (bytes_at f w.feed.name)) ≡ found_of w.width out o) → next.width ≡ w.width →
    next.done ≡ w.done + 1 → next.place ≡ w.place + size → next.last ≡ string_of out →
    Gave next now (es ++ record { string = take out.length out.string; field = take w.width out.field } ∷ [])
gave_more w next f now es out o size gave fits same name e read width done place last = record {
  fits = fits;
  given = told_as (λ bytes. Given next bytes (es ++ entry_of w.width out ∷ [])) now f next.feed.name w.feed.name (sym same) (sym name)
      (λ told. given_more w next (bytes_at f w.feed.name) es (entry_of w.width out) size (gave.given told) (stands_found _ _ _ _ out o size e (read told)) width done place last);
}

-- the next of the entries of a part
record NextIs (w : Walking) (bytes : List ℕ) (all : List Entry) (e : Entry) (fs : List Entry) : Type 0 where
  entry : IsEntry w.width w.done w.last e
  rest : drop w.place bytes ≡ entry_bytes w.done w.last e ++ front_from (w.done + 1) e.string fs
  there : slice_get all w.done ≡ Some e
  within : w.done < length all

record NoneIs (w : Walking) (bytes : List ℕ) (all : List Entry) : Type 0 where
  rest : drop w.place bytes ≡ []
  end : w.done ≡ length all

next_of : (w : Walking) (bytes : List ℕ) (es all : List Entry) → Given w bytes es → IsFront w.width bytes all → NoneIs w bytes all ⊎ ((e : Entry) × (fs : List Entry) × NextIs w bytes all e fs)
unfolding front_from
next_of w bytes es all given is = let p = prefix_of w.width 0 [] es all (drop w.place bytes) given.entries is.entries (sym is.bytes_are ∙ given.rest) in by_rest p.0 p.1 p.2
  where
    by_rest : (rest : List Entry) → all ≡ es ++ rest → drop w.place bytes ≡ front_from (0 + length es) (last_string [] es) rest →
        NoneIs w bytes all ⊎ ((e : Entry) × (fs : List Entry) × NextIs w bytes all e fs)
    by_rest [] same tail = inl (record { rest = tail; end = given.done ∙ sym (ap length (same ∙ append-nil es)) })
    by_rest (e ∷ fs) same tail =
        let n : 0 + length es ≡ w.done = omega (arith, given.done) in
        let are : AreEntries w.width (0 + length es) (last_string [] es) (e ∷ fs) = entries_rest w.width 0 [] es (e ∷ fs) (subst (AreEntries w.width 0 []) same is.entries) in
        let one : IsEntry w.width w.done (last_string [] es) e = subst (λ m. IsEntry w.width m (last_string [] es) e) n are.0 in
        inr (
          e,
          fs,
          record {
            entry = subst (λ l. IsEntry w.width w.done l e) (sym given.last) one;
            rest = tail ∙ ap (λ m. entry_bytes m (last_string [] es) e ++ front_from (m + 1) e.string fs) n ∙ ap (λ l. entry_bytes w.done l e ++ front_from (w.done + 1) e.string fs) (sym given.last);
            there = ap (λ l. slice_get l w.done) same ∙ ap (slice_get (es ++ e ∷ fs)) given.done ∙ slice_get-behind es (e ∷ fs);
            within = omega (arith, given.done, ap length same, length-append es (e ∷ fs));
          },
        )

-- where the part is front coding, the walk answers its entries, and never that it is bad
pub among : (result : Result Bool PartErr) (w : Walking) (out : FrontEntry) (bytes : List ℕ) (es all : List Entry) → Given w bytes es →
    IsFront w.width bytes all → length all ≡ w.count → AnswersNext result w out bytes → AnswersAmong result w out all
among (Ok true) w out bytes es all given is count answer = by_case (next_of w bytes es all given is)
  where
    by_case : NoneIs w bytes all ⊎ ((e : Entry) × (fs : List Entry) × NextIs w bytes all e fs) → slice_get all w.done ≡ Some (entry_of w.width out)
    by_case (inl none) = absurd (omega (arith, none.end, answer.0, count))
    by_case (inr next) =
        next.2.there ∙ ap Some (same_entry next.0 (entry_of w.width out) _ _
        (sym (read_written w.width w.done w.last next.0 (front_from (w.done + 1) next.0.string next.1) next.2.entry) ∙ ap (read_entry w.width w.done w.last) (sym next.2.rest ∙ answer.1.rest)
        ∙ read_written w.width w.done w.last (entry_of w.width out) (drop (length (entry_bytes w.done w.last (entry_of w.width out))) (drop w.place bytes)) answer.1.entry))
among (Ok false) w out bytes es all given is count answer = answer.0 ∙ sym count
among (Err Device) w out bytes es all given is count answer = tt
among (Err Memory) w out bytes es all given is count answer = answer
among (Err (Bad bad)) w out bytes es all given is count answer = by_case (next_of w bytes es all given is) answer
  where
    by_case : NoneIs w bytes all ⊎ ((e : Entry) × (fs : List Entry) × NextIs w bytes all e fs) → AnswersNext (Err (Bad bad)) w out bytes → ⊥
    by_case (inl none) (inl early) = absurd (omega (arith, none.end, early.0, count))
    by_case (inl none) (inr late) = absurd (omega (arith, ap length none.rest, late.1.low_is, late.1.high_is, late.1.found_is, bad.outside))
    by_case (inr next) (inl early) = early.2 next.0 (front_from (w.done + 1) next.0.string next.1) next.2.entry next.2.rest
    by_case (inr next) (inr late) = absurd (omega (arith, next.2.within, late.0, count))

-- ---- the ways out of a step

-- the entry that stands next was read
pub stepped_more : {w next : Walking} {out : FrontEntry} {f g : Option Files} {r s : Reads} {x y : ℕ} (size : ℕ) → w.done < w.count →
    ReadsEntry w.feed next.feed (record { place = w.place; width = w.width; number = w.done }) (read_entry w.width w.done w.last) out (Ok (Some size)) f g r s x y →
    next.width ≡ w.width → next.count ≡ w.count → next.done ≡ w.done + 1 → next.place ≡ w.place + size → next.last ≡ string_of out →
    (w.done == 0 || is_below w.last (string_of out)) ≡ true → Stepped w next out (Ok true) f g r s x y
stepped_more {w} {next} {out} {f} {g} {r} {s} size below one width count done place last above = record {
  gave = λ es gave. gave_more w next f g es out (Some size) size gave one.read.fits one.read.looked.files one.read.file.name refl one.told width done place last;
  answer = λ told. (below, begins w.width w.done w.last (drop w.place (bytes_at f w.feed.name)) out (Some size) size refl (one.told told));
  step = (below, done);
  rises = record { above = above; last = last };
  same = record { name = one.read.file.name; part = one.read.file.part; width = width; count = count };
  looked = one.read.looked;
  reads = subst (ReadOn w.feed next.feed r s w.place) (sym place) one.passed.read_on;
  cause = record { later = one.read.cause.later; device = tt };
  memory = λ is. absurd cc;
}

-- what is read is above the last string
pub read_above : (width i : ℕ) (before bytes : List ℕ) (out : FrontEntry) (o : Option ℕ) (size : ℕ) → o ≡ Some size → read_entry width i before bytes ≡ found_of width out o →
    (i == 0 || is_below before (string_of out)) ≡ true
read_above width i before bytes out o size e read = (begins width i before bytes out o size e read).entry.above

-- what was read is not above the last string: so the files are not told
pub stepped_low : {w next : Walking} {out : FrontEntry} {f g : Option Files} {r s : Reads} {x y : ℕ} (size : ℕ) (bad : declared.Bad) →
    ReadsEntry w.feed next.feed (record { place = w.place; width = w.width; number = w.done }) (read_entry w.width w.done w.last) out (Ok (Some size)) f g r s x y →
    (w.done == 0 || is_below w.last (string_of out)) ≡ false → next.width ≡ w.width → next.count ≡ w.count → Stepped w next out (Err (Bad bad)) f g r s x y
stepped_low {w} {out = out} {f} size bad one low width count = record {
  gave = λ es gave. tt;
  answer = λ told. absurd (apart (sym (read_above w.width w.done w.last (drop w.place (bytes_at f w.feed.name)) out (Some size) size refl (one.told told)) ∙ low));
  step = tt;
  rises = tt;
  same = record { name = one.read.file.name; part = one.read.file.part; width = width; count = count };
  looked = one.read.looked;
  reads = one.read.read_to;
  cause = record { later = one.read.cause.later; device = tt };
  memory = λ is. absurd cc;
}
  where
    apart : true ≡ false → ⊥
    apart is = cc

-- no entry stands there
pub stepped_none : {w next : Walking} {out : FrontEntry} {f g : Option Files} {r s : Reads} {x y : ℕ} (bad : declared.Bad) → w.done < w.count →
    ReadsEntry w.feed next.feed (record { place = w.place; width = w.width; number = w.done }) (read_entry w.width w.done w.last) out (Ok None) f g r s x y →
    IsBad bad w.feed.part w.place 1 1 0 → next.width ≡ w.width → next.count ≡ w.count → Stepped w next out (Err (Bad bad)) f g r s x y
stepped_none {w} {out = out} {f} bad below one is width count = record {
  gave = λ es gave. tt;
  answer = λ told. inl (below, is, no_entry w.width w.done w.last (drop w.place (bytes_at f w.feed.name)) out None refl (one.told told));
  step = tt;
  rises = tt;
  same = record { name = one.read.file.name; part = one.read.file.part; width = width; count = count };
  looked = one.read.looked;
  reads = one.read.read_to;
  cause = record { later = one.read.cause.later; device = tt };
  memory = λ is. absurd cc;
}

-- the store failed
pub stepped_failed : {w next : Walking} {out : FrontEntry} {f g : Option Files} {r s : Reads} {x y : ℕ} {failed : Failed} →
    ReadsEntry w.feed next.feed (record { place = w.place; width = w.width; number = w.done }) (read_entry w.width w.done w.last) out (Err failed) f g r s x y →
    next.width ≡ w.width → next.count ≡ w.count → Stepped w next out (Err Device) f g r s x y
stepped_failed one width count = record {
  gave = λ es gave. tt;
  answer = λ told. tt;
  step = tt;
  rises = tt;
  same = record { name = one.read.file.name; part = one.read.file.part; width = width; count = count };
  looked = one.read.looked;
  reads = one.read.read_to;
  cause = record { later = one.read.cause.later; device = one.read.cause.failed };
  memory = λ is. absurd cc;
}
