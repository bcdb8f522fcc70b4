-- What each way out of a call that asks for one byte promises.
use Rattle.std.proofs.Common.{arith, true, false, ◌≡◌, ◌≢◌, ◌+◌, ◌-◌, ◌/◌, ◌%◌, ◌<◌, ◌≤◌, ◌^◌, min, ℕ, List, Option, Some, None}
use Rattle.std.proofs.Common.{Result, Ok, Err, OnOk, OnSome, IfOk, IfSome, IsSome, ◌++◌, append-nil, drop, length, take, refl, sym, ◌∙◌, ap, subst, slice_get}
use Rattle.std.proofs.Math.ListN.{drop_of_length-le}
use Rattle.std.proofs.lemmas.Bool.Decides.{nat_tests}
use Rattle.std.proofs.lemmas.List.{take_all}
use Rattle.mg_dev.specs.Causes.{HasCause}
use Rattle.mg_dev.specs.Files.{Files, OneRead, Reads, bytes_at}
use Rattle.mg_dev.specs.Names.{same_part}
use Rattle.mg_dev.specs.declared.device.Failed.{Failed}
use Rattle.mg_dev.specs.declared.part.Part.{Part}
use Rattle.mg_bits.specs.ByteReads.{AsksByte, ReadsByte, TurnsTo}
use Rattle.mg_bits.specs.Feed.{Device, Feeding, lacks, of_store, over_file, told_at}
use Rattle.mg_bits.specs.Pages.{Fits, IsPageIn, Paging, SameFile, feeding_of}
use Rattle.mg_bits.proofs.Places.{calm_once, lacks_held, one_read, page_of_byte, paged_byte, rose_once, told_file, within_byte}
use Rattle.mg_bits.proofs.Ranges.{calm_none}

-- ---- a page is turned to

-- it is held
pub turn_held : {T : Type 0} {part : Part} {number : ℕ} {f : Feeding} {d : Device} (value : T) → f.held ≡ Some number → TurnsTo part number (Ok value) f f d d
turn_held {f = f} {d} value held = record {
  calm = calm_none f d;
  device = omega arith;
  feed = omega arith;
  held = held;
  keeps = λ is. refl;
  turned = λ apart. absurd (apart refl);
  cause = record { later = omega arith; failed = tt };
}

-- it is read, or the device fails
pub turn_read : {T : Type 0} {name : List ℕ} {part : Part} {page number : ℕ} {h0 h1 : Option ℕ} {old new : ℕ} {f0 f1 : Option Files} {a b : ℕ} {before now : Reads}
    {result : Result T Failed} → lacks h0 number ≡ 1 → old < 2 ^ 64 → new ≡ min (old + 1) (2 ^ 64 - 1) → f1 ≡ f0 → OneRead before now part → HasCause a b result →
    OnOk result (h1 ≡ Some number) → TurnsTo part number result (over_file name part page h0 old) (over_file name part page h1 new) (of_store f0 a before) (of_store f1 b now)
turn_read {T} {name} {part} {page} {number} {h0} {h1} {old} {new} {f0} {f1} {a} {b} {before} {now} lack fits one same read cause held = record {
  calm = calm_once name part page h0 h1 old new f0 f1 a b before now fits one same cause.later read;
  device = one_read part (lacks h0 number) before now lack read;
  feed = omega (arith, one, lack);
  held = held;
  keeps = λ is. absurd (omega (arith, lack, lacks_held h0 number is));
  turned = λ apart. rose_once part before now read;
  cause = cause;
}

-- ---- a byte is asked for

no_bytes : (told : Option (List ℕ)) → IfSome told (λ bytes. Unit {0})
no_bytes None = tt
no_bytes (Some bytes) = tt

on_some : {X : Type 0} {P : Type 0} (found : Option X) → P → OnSome found P
on_some None p = tt
on_some (Some x) p = p

module _ {name : List ℕ} {part : Part} {page : ℕ} {h0 h1 : Option ℕ} {old new : ℕ} {before now : Device} (at : ℕ) where
  -- its page is not read
  pub byte_refused : {T : Type 0} {e : Failed} → TurnsTo {T = T} part (at / page) (Err e) (over_file name part page h0 old) (over_file name part page h1 new) before now →
      ReadsByte part at (Err e) (over_file name part page h0 old) (over_file name part page h1 new) before now
  byte_refused turn = record {
    told = no_bytes _;
    calm = turn.calm;
    pages = within_byte name part page h0 h1 old new before now at turn.device turn.feed;
    held = tt;
    keeps = λ is. turn.keeps (is ∙ ap Some (page_of_byte page at));
    turned = turn.turned;
    cause = record { later = turn.cause.later; failed = turn.cause.failed };
  }

  -- it is a byte of its page, or behind the page's bytes, where the file ends
  pub byte_found : {T : Type 0} {value : T} (kept : List ℕ) (found : Option ℕ) → 0 < page →
      TurnsTo part (at / page) (Ok value) (over_file name part page h0 old) (over_file name part page h1 new) before now → found ≡ slice_get kept (at % page) →
      (IsSome now.files → IsPageIn page h1 kept (bytes_at now.files name)) →
      ReadsByte part at (Ok found) (over_file name part page h0 old) (over_file name part page h1 new) before now
  byte_found kept found some turn is agrees = record {
    told = told_file before.files name found at (λ told.
        is ∙ paged_byte page kept h1 (bytes_at before.files name) at some turn.held
        (subst (λ f. IsSome f → IsPageIn page h1 kept (bytes_at f name)) turn.calm.files agrees told));
    calm = turn.calm;
    pages = within_byte name part page h0 h1 old new before now at turn.device turn.feed;
    held = on_some found (turn.held ∙ ap Some (sym (page_of_byte page at)));
    keeps = λ is. turn.keeps (is ∙ ap Some (page_of_byte page at));
    turned = turn.turned;
    cause = record { later = turn.cause.later; failed = tt };
  }

-- ---- a reader of pages is asked

-- a buffer that was lent and filled
pub lent_back : (now items : List ℕ) (len : ℕ) → length now ≡ length items → length items ≤ len → take len (now ++ drop (length now) items) ≡ now
lent_back now items len same within =
    ap (take len) (ap (λ l. now ++ l) (drop_of_length-le items (omega (arith, same))) ∙ append-nil now) ∙ take_all len now (omega (arith, same, within))

told_some : (files : Option Files) (name : List ℕ) (at : ℕ) (result : Result (Option ℕ) Failed) → IfSome (told_at files name) (λ bytes. IfOk result (λ byte. byte ≡ slice_get bytes at)) →
    IsSome files → IfOk result (λ byte. byte ≡ slice_get (bytes_at files name) at)
told_some None name at result answers told = absurd cc
told_some (Some f) name at result answers told = answers

same_part_here : (p : Part) → same_part p p ≡ true
same_part_here p = grind (arith, nat_tests)

-- the part of a feed is another one
other_part : (part other : Part) → same_part other part ≡ false → Some part ≢ Some other
other_part part other apart is = let e : part ≡ other = cc in absurd (let same : same_part other part ≡ true = subst (λ p. same_part other p ≡ true) (sym e) (same_part_here other) in cc)

pub asks_byte : {old new : Paging} {at : ℕ} {result : Result (Option ℕ) Failed} {f0 f1 : Option Files} {r0 r1 : Reads} {a b : ℕ} → Fits new f1 → SameFile old new →
    ReadsByte old.part at result (feeding_of 4096 old) (feeding_of 4096 new) (of_store f0 a r0) (of_store f1 b r1) → AsksByte old new at result f0 f1 r0 r1 a b
asks_byte {old} {new} {at} {result} {f0} fits file byte = record {
  fits = fits;
  file = file;
  looked = record {
    files = byte.calm.files;
    faults = byte.calm.faults;
    later = byte.calm.reads.later;
    others = λ p apart. byte.calm.reads.others p (other_part old.part p apart);
  };
  told = told_some f0 old.name at result byte.told;
  calm = byte.calm;
  pages = byte.pages;
  held = byte.held;
  keeps = byte.keeps;
  turned = byte.turned;
  cause = byte.cause;
}

-- the page that is held has the byte
pub asks_held : {feed : Paging} {at : ℕ} {found : Option ℕ} {f : Option Files} {r : Reads} {n : ℕ} → Fits feed f → feed.held ≡ Some (at / 4096) → found ≡ slice_get feed.page (at % 4096) →
    AsksByte feed feed at (Ok found) f f r r n n
asks_held {feed} {at} {found} fits held is =
    asks_byte fits (record { name = refl; part = refl }) (byte_found at feed.page found (omega arith) (turn_held (tt {0}) held) is fits.held)
