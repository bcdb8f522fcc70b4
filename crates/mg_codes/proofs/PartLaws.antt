-- The ways out of a reader of a code of two parts: each makes what the reader promises.
use Rattle.std.proofs.Common.{arith, ◌≡◌, ◌+◌, ◌-◌, ◌<◌, ◌≤◌, ℕ, Ok, Err, length, ap, ◌∙◌, length-append}
use Rattle.std.specs.declared.option.Option.{Option}
use Rattle.mg_dev.specs.Files.{Files}
use Rattle.mg_defs.specs.Bits.{Bits}
use Rattle.mg_defs.specs.Codes.{unary}
use Rattle.mg_defs.specs.Answers.{Below, IsPrefixFree, UpTo}
use Rattle.mg_bits.specs.Feed.{Feeding, Device}
use Rattle.mg_bits.specs.CodeAnswers.{CodeCause}
use Rattle.mg_bits.specs.Reading.{Reading}
use Rattle.mg_bits.specs.declared.code_err.CodeErr.{CodeErr}
use Rattle.mg_bits.specs.declared.code_err.CodeErr.TheVariants.{Device as CodeDevice, End, Over}
use Rattle.mg_bits.proofs.CallerLemmas.{calm_more, read_step, same_told}
use Rattle.mg_bits.specs.CodeReads.{ReadsCode}
use Rattle.mg_codes.specs.Refusals.{of_whole}
use Rattle.mg_codes.proofs.TwoParts.{FirstRead, Second, TwoParts, first_pages, first_read, first_refused, first_stands, second_pages, second_refused, second_value, whole_is}

caused : (refusal : CodeErr) (place limit a b c : ℕ) → CodeCause {T = ℕ} (Err refusal) b c → a ≤ b → CodeCause {T = ℕ} (Err (of_whole refusal place limit)) a c
caused CodeDevice place limit a b c cause le = omega arith
caused (End at) place limit a b c cause le = tt
caused (Over at most) place limit a b c cause le = tt

pub first_is_refused : {Fed Dev : Type 0} {taken : ℕ → ℕ → Type 0} {limit : ℕ} {code : ℕ → Bits} {agrees : Fed → Option Files → Type 0} {feeding : Fed → Feeding} {device : Dev → Device}
    {lead : ℕ → ℕ} {rest : ℕ → Bits} {top : ℕ} {old new : Reading Fed} {d0 d1 : Dev} {refusal : CodeErr} → 0 < (feeding old.feed).page →
    TwoParts (taken limit) code lead rest top → IsPrefixFree (taken limit) code →
    ReadsCode UpTo (top + 1) unary agrees feeding device old new d0 d1 (Err refusal) →
    ReadsCode taken limit code agrees feeding device old new d0 d1 (Err (of_whole refusal old.place limit))
first_is_refused {Fed} {Dev} {taken} {limit} {code} {agrees} {feeding} {device} {lead} {rest} {top} {old} {new} {d0} {d1} {refusal} some parts free one = record {
  fits = one.fits;
  calm = one.calm;
  read = tt;
  pages = first_pages _ old.place (feeding old.feed) (feeding new.feed) (device d0) (device d1) parts some one.pages;
  place = one.place;
  told = first_refused _ old.place limit refusal parts free one.told;
  range = tt;
  cause = caused refusal old.place limit _ _ _ one.cause (omega arith);
}

pub second_is_refused : {Fed Dev : Type 0} {taken : ℕ → ℕ → Type 0} {limit : ℕ} {code : ℕ → Bits} {agrees : Fed → Option Files → Type 0} {feeding : Fed → Feeding} {device : Dev → Device}
    {lead : ℕ → ℕ} {rest tail : ℕ → Bits} {top bound x : ℕ} {join : ℕ → ℕ} {old mid lost new : Reading Fed} {d0 d1 d2 : Dev} {refusal : CodeErr} → 0 < (feeding old.feed).page →
    TwoParts (taken limit) code lead rest top → Second (taken limit) lead rest (x - 1) bound tail join → IsPrefixFree (taken limit) code →
    ReadsCode UpTo (top + 1) unary agrees feeding device old mid d0 d1 (Ok x) → ReadsCode Below bound tail agrees feeding device mid lost d1 d2 (Err refusal) →
    new.feed ≡ lost.feed → new.place ≡ old.place → ReadsCode taken limit code agrees feeding device old new d0 d2 (Err (of_whole refusal old.place limit))
second_is_refused {Fed} {Dev} {taken} {limit} {code} {agrees} {feeding} {device} {lead} {rest} {tail} {top} {bound} {x} {join} {old} {mid} {lost} {new} {d0} {d1} {d2} {refusal}
    some parts second free one two feed place =
    let is : x ≡ 1 + (x - 1) = omega (arith, one.range) in
    let first : FirstRead (feeding old.feed) (feeding mid.feed) (device d0) (device d1) old.place mid.place (x - 1) =
    first_read _ _ _ _ old.place mid.place x (x - 1) is one.place one.read in
    let stands = first_stands _ old.place x (x - 1) (top + 1) is one.told in
    record {
      fits = rw feed two.fits;
      calm = rw feed (calm_more (feeding old.feed) (feeding mid.feed) (feeding lost.feed) (device d0) (device d1) (device d2) one.calm two.calm);
      read = tt;
      pages =
          rw feed
          (second_pages _ old.place mid.place (feeding old.feed) (feeding mid.feed) (feeding lost.feed) (device d0) (device d1) (device d2) parts second some first.here stands
          first.to_place (rw (same_told _ _ _ _ one.calm) at two.pages));
      place = place;
      told = second_refused _ old.place mid.place limit refusal parts second free first.here stands (rw (same_told _ _ _ _ one.calm) at two.told);
      range = tt;
      cause = caused refusal old.place limit _ _ _ two.cause one.calm.faults;
    }

pub both_are_read : {Fed Dev : Type 0} {taken : ℕ → ℕ → Type 0} {limit : ℕ} {code : ℕ → Bits} {agrees : Fed → Option Files → Type 0} {feeding : Fed → Feeding} {device : Dev → Device}
    {lead : ℕ → ℕ} {rest tail : ℕ → Bits} {top bound x : ℕ} {old mid new : Reading Fed} {d0 d1 d2 : Dev} (join : ℕ → ℕ) (v : ℕ) → 0 < (feeding old.feed).page →
    TwoParts (taken limit) code lead rest top → Second (taken limit) lead rest (x - 1) bound tail join →
    ReadsCode UpTo (top + 1) unary agrees feeding device old mid d0 d1 (Ok x) → ReadsCode Below bound tail agrees feeding device mid new d1 d2 (Ok v) →
    ReadsCode taken limit code agrees feeding device old new d0 d2 (Ok (join v))
both_are_read {Fed} {Dev} {taken} {limit} {code} {agrees} {feeding} {device} {lead} {rest} {tail} {top} {bound} {x} {old} {mid} {new} {d0} {d1} {d2} join v some parts second one two =
    let is : x ≡ 1 + (x - 1) = omega (arith, one.range) in
    let first : FirstRead (feeding old.feed) (feeding mid.feed) (device d0) (device d1) old.place mid.place (x - 1) =
    first_read _ _ _ _ old.place mid.place x (x - 1) is one.place one.read in
    let long : length (code (join v)) ≡ length (unary (1 + (x - 1))) + length (tail v) =
    ap length (whole_is v parts second two.range) ∙ length-append (unary (1 + (x - 1))) (tail v) in
    record {
      fits = two.fits;
      calm = calm_more (feeding old.feed) (feeding mid.feed) (feeding new.feed) (device d0) (device d1) (device d2) one.calm two.calm;
      read = rw long (read_step _ _ _ _ _ _ old.place (length (unary (1 + (x - 1)))) (length (tail v)) mid.place some first.here first.far two.read);
      pages = tt;
      place = rw long (omega (arith, first.here, two.place));
      told =
          second_value _ old.place mid.place limit v parts second two.range first.here
          (first_stands _ old.place x (x - 1) (top + 1) is one.told) (rw (same_told _ _ _ _ one.calm) at two.told);
      range = second.value v two.range;
      cause = tt;
    }
