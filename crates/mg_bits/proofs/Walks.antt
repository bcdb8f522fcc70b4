-- What is told after some bits of a code were read.
use Rattle.std.proofs.Common.{arith, ◌≡◌, ◌+◌, ◌<◌, ℕ, List, [], ◌++◌, length, drop, Some, None, Ok, Err, refl, sym, subst}
use Rattle.std.specs.declared.option.Option.{Option}
use Rattle.std.proofs.lemmas.List.{drop-drop}
use Rattle.mg_defs.specs.Bits.{Bits, Begins, FromPlace, bits_of}
use Rattle.mg_defs.specs.Answers.{CutShort, IsNone, IsPrefixFree}
use Rattle.mg_defs.proofs.FrontLaws.{none_more, open_longer, all_read, begins_both, ends}
use Rattle.mg_bits.specs.Feed.{Feeding, Device as Seen, ReadPart}
use Rattle.mg_bits.specs.Reader.{AnswersBit}
use Rattle.mg_bits.specs.CodeAnswers.{AnswersCode, OnlyPagesOf, of_bit}
use Rattle.mg_bits.specs.declared.bit_err.BitErr.{BitErr}
use Rattle.mg_bits.specs.declared.bit_err.BitErr.TheVariants.{Device as BitDevice, End as BitEnd}
use Rattle.mg_bits.specs.declared.code_err.CodeErr.TheVariants.{Over}
use Rattle.mg_bits.proofs.Ranges.{within_wider}

pub walk_begun : (told : Option (List ℕ)) (start : ℕ) → FromPlace told start (Begins [])
walk_begun None start = tt
walk_begun (Some bytes) start = refl

-- one bit more
pub walk_bit : (told : Option (List ℕ)) (start place : ℕ) (w more : Bits) → place ≡ start + length w →
    FromPlace told start (Begins w) → FromPlace told place (Begins more) → FromPlace told start (Begins (w ++ more))
walk_bit None start place w more is one two = tt
walk_bit (Some bytes) start place w more is one two =
    begins_both w more (drop start (bits_of bytes)) one (rw drop-drop (rw is at two))

-- the bits are the front of no code
pub walk_none : (told : Option (List ℕ)) (start limit : ℕ) (within : ℕ → Type 0) (code : ℕ → Bits) (w : Bits) →
    FromPlace told start (Begins w) → IsNone within code w → FromPlace told start (AnswersCode (Err (Over start limit)) within code limit start)
walk_none None start limit within code w stands none = tt
walk_none (Some bytes) start limit within code w stands none = (refl, refl, none_more within code w _ none stands)

-- a whole code
pub walk_whole : (told : Option (List ℕ)) (start limit : ℕ) (within : ℕ → Type 0) (code : ℕ → Bits) (w : Bits) (x : ℕ) →
    FromPlace told start (Begins w) → within x → code x ≡ w → FromPlace told start (AnswersCode (Ok x) within code limit start)
walk_whole None start limit within code w x stands taken is = tt
walk_whole (Some bytes) start limit within code w x stands taken is = (taken, rw is stands)

-- the bits end, or the device fails, within a code
pub walk_refused : (told : Option (List ℕ)) (start place limit : ℕ) (within : ℕ → Type 0) (code : ℕ → Bits) (w : Bits) (refusal : BitErr) →
    place ≡ start + length w → IsPrefixFree within code → FromPlace told start (Begins w) → CutShort within code w →
    FromPlace told place (AnswersBit (Err refusal) place) →
    FromPlace told start (AnswersCode (Err (of_bit refusal start)) within code limit start)
walk_refused None start place limit within code w refusal is free stands cut answers = tt
walk_refused (Some bytes) start place limit within code w BitDevice is free stands cut answers = tt
walk_refused (Some bytes) start place limit within code w (BitEnd at) is free stands cut answers =
    let none : drop (length w) (drop start (bits_of bytes)) ≡ [] = rw drop-drop (rw is at answers.0) in
    (refl, ends within code _ free (subst (CutShort within code) (sym (all_read w (drop start (bits_of bytes)) stands none)) cut))

-- the pages read so far, and that of one bit more, are pages of any code that stands first
pub walk_pages : (told : Option (List ℕ)) (start : ℕ) (within : ℕ → Type 0) (code : ℕ → Bits) (w : Bits) (f0 f1 : Feeding) (d0 d1 : Seen) →
    0 < f0.page → IsPrefixFree within code → FromPlace told start (Begins w) → CutShort within code w →
    ReadPart f0 f1 d0 d1 start (start + (length w + 1)) → FromPlace told start (OnlyPagesOf within code f0 f1 d0 d1 start)
walk_pages None start within code w f0 f1 d0 d1 some free stands cut read = tt
walk_pages (Some bytes) start within code w f0 f1 d0 d1 some free stands cut read = λ x taken begins.
    let longer : length w < length (code x) = open_longer within code w _ x free cut stands taken begins in
    within_wider f0 f1 d0 d1 start (start + (length w + 1)) (start + length (code x)) some (omega arith) (omega (arith, longer)) read.pages

pub no_pages : (told : Option (List ℕ)) (start : ℕ) (within : ℕ → Type 0) (code : ℕ → Bits) (w : Bits) (f0 f1 : Feeding) (d0 d1 : Seen) →
    FromPlace told start (Begins w) → IsNone within code w → FromPlace told start (OnlyPagesOf within code f0 f1 d0 d1 start)
no_pages None start within code w f0 f1 d0 d1 stands none = tt
no_pages (Some bytes) start within code w f0 f1 d0 d1 stands none = λ x taken begins.
    absurd ((none_more within code w _ none stands).begins x taken begins)
