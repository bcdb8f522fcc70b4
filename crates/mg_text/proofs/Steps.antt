-- Steps of decoding, one after the other.
use Rattle.std.proofs.Common.{arith, ◌≤◌, ◌<◌, ℕ, Bool, true, false, List, ◌++◌, Option, Result, Ok, Err, MatchResult}
use Rattle.std.specs.Bool.{OnTrue}
use Rattle.mg_dev.specs.Causes.{Rose}
use Rattle.mg_dev.specs.Moments.{SinkAt}
use Rattle.mg_dev.specs.StreamLaws.{grew_first}
use Rattle.mg_dev.specs.declared.part_err.PartErr.{PartErr}
use Rattle.mg_dev.specs.declared.part_err.PartErr.TheVariants as part
use Rattle.mg_dev.specs.declared.show_err.ShowErr.{ShowErr}
use Rattle.mg_dev.specs.declared.show_err.ShowErr.TheVariants as show
use Rattle.mg_bits.specs.Feed.{Feeding, Device as Seen}
use Rattle.mg_bits.proofs.CallerLemmas.{read_more, within_more, within_wider}
use Rattle.mg_text.specs.Decoding.{Decoded, Ends, Gathering, IsPutCaused, IsShowCaused, Stopped, Takes}
use Rattle.mg_text.specs.Reading.{ShowIsNotBad}

pub decoded_more : (f0 f1 f2 : Feeding) (d0 d1 d2 : Seen) (a p q at_p at_q : ℕ) (w0 w1 w2 : Option (List ℕ)) (b1 b2 : Gathering) (bytes more : List ℕ) {most : ℕ} → 0 < f0.page → a ≤ p → p ≤ q →
    Decoded f0 f1 d0 d1 a p at_p w0 w1 b1 bytes most → Decoded f1 f2 d1 d2 p q at_q w0 w2 b2 more most → Decoded f0 f2 d0 d2 a q at_q w0 w2 b2 more most
decoded_more f0 f1 f2 d0 d1 d2 a p q at_p at_q w0 w1 w2 b1 b2 bytes more {most} some le le2 one two = record {
  at_end = two.at_end;
  read = read_more f0 f1 f2 d0 d1 d2 a p q some le le2 one.read two.read;
  shown = two.shown;
}

pub stopped_more : (f0 f1 f2 : Feeding) (d0 d1 d2 : Seen) (a p q at_p : ℕ) (w0 w1 w2 : Option (List ℕ)) (b1 : Gathering) (bytes more : List ℕ) {most : ℕ} → 0 < f0.page → a ≤ p → p ≤ q →
    Decoded f0 f1 d0 d1 a p at_p w0 w1 b1 bytes most → Stopped f1 f2 d1 d2 p q w0 w2 more → Stopped f0 f2 d0 d2 a q w0 w2 more
stopped_more f0 f1 f2 d0 d1 d2 a p q at_p w0 w1 w2 b1 bytes more {most} some le le2 one two = record {
  pages = within_more f0 f1 f2 d0 d1 d2 a p q some le le2 one.read.calm.part one.read.calm.page one.read.held one.read.pages two.pages;
  grew = two.grew;
}

pub stopped_wider : (f0 f1 : Feeding) (d0 d1 : Seen) (a p q : ℕ) (w0 w1 : Option (List ℕ)) (bytes more : List ℕ) → 0 < f0.page → a ≤ p → p ≤ q →
    Stopped f0 f1 d0 d1 a p w0 w1 bytes → Stopped f0 f1 d0 d1 a q w0 w1 (bytes ++ more)
stopped_wider f0 f1 d0 d1 a p q w0 w1 bytes more some le le2 stopped = record {
  pages = within_wider f0 f1 d0 d1 a p q some le le2 stopped.pages;
  grew = grew_first w0 w1 bytes more stopped.grew;
}

-- ---- causes

rose_more : (a b c : ℕ) → a ≤ b → Rose b c → Rose a c
rose_more a b c le rose = omega (arith, le, rose)

pub caused_more : (r : Result (Unit {0}) ShowErr) (s0 s1 s2 : ℕ) (one two now : SinkAt) → s0 ≤ s1 → one.faults ≤ two.faults → one.lacks ≤ two.lacks →
    IsShowCaused r s1 s2 two.faults now.faults two.lacks now.lacks → IsShowCaused r s0 s2 one.faults now.faults one.lacks now.lacks
caused_more (Ok done) s0 s1 s2 one two now s f l cause = tt
caused_more (Err (show.Part part.Device)) s0 s1 s2 one two now s f l cause = rose_more s0 s1 s2 s cause
caused_more (Err (show.Part part.Memory)) s0 s1 s2 one two now s f l cause = cause
caused_more (Err (show.Part (part.Bad bad))) s0 s1 s2 one two now s f l cause = tt
caused_more (Err show.Write) s0 s1 s2 one two now s f l cause = rose_more one.faults two.faults now.faults f cause
caused_more (Err show.Memory) s0 s1 s2 one two now s f l cause = rose_more one.lacks two.lacks now.lacks l cause

-- what stopped a put stops a document
pub put_caused : (r : Result (Unit {0}) ShowErr) (left size s t : ℕ) (one now : SinkAt) → IsPutCaused r left size one.faults now.faults one.lacks now.lacks →
    IsShowCaused r s t one.faults now.faults one.lacks now.lacks
put_caused (Ok done) left size s t one now cause = tt
put_caused (Err (show.Part part.Device)) left size s t one now cause = absurd cause
put_caused (Err (show.Part part.Memory)) left size s t one now cause = cause
put_caused (Err (show.Part (part.Bad bad))) left size s t one now cause = tt
put_caused (Err show.Write) left size s t one now cause = cause
put_caused (Err show.Memory) left size s t one now cause = cause

pub ends_read : {T : Type 0} (refusal : PartErr) (whole : T → Type 0) (part all now : Type 0) → (part → now) → Takes {T = T} (Err refusal) whole part → Ends (Err (show.Part refusal)) all now
ends_read part.Device whole p all now f takes = f takes
ends_read part.Memory whole p all now f takes = takes
ends_read (part.Bad bad) whole p all now f takes = takes

-- a refusal that goes on upwards
pub ends_more : (refusal : ShowErr) (a b p q : Type 0) → (p → q) → Ends (Err refusal) a p → Ends (Err refusal) b q
ends_more (show.Part part.Device) a b p q f h = f h
ends_more (show.Part part.Memory) a b p q f h = h
ends_more (show.Part (part.Bad bad)) a b p q f h = h
ends_more show.Write a b p q f h = f h
ends_more show.Memory a b p q f h = f h

pub ends_map : (r : Result (Unit {0}) ShowErr) (a b p q : Type 0) → (a → b) → (p → q) → Ends r a p → Ends r b q
ends_map (Ok done) a b p q f g h = f h
ends_map (Err refusal) a b p q f g h = ends_more refusal a b p q g h

-- a fact of a true answer
pub on_true : (answer : Bool) (p q : Type 0) → (p → q) → OnTrue answer p → OnTrue answer q
on_true true p q f h = f h
on_true false p q f h = h

-- what an answer says

pub ends_first : (r : Result (Unit {0}) ShowErr) (a b p q : Type 0) → Ends r (a × p) (b × q) → MatchResult r (λ _. a) (λ _. b)
ends_first (Ok done) a b p q h = h.0
ends_first (Err (show.Part part.Device)) a b p q h = h.0
ends_first (Err (show.Part part.Memory)) a b p q h = absurd h
ends_first (Err (show.Part (part.Bad bad))) a b p q h = absurd h
ends_first (Err show.Write) a b p q h = h.0
ends_first (Err show.Memory) a b p q h = h.0

pub ends_second : (r : Result (Unit {0}) ShowErr) (a b p : Type 0) → Ends r (a × p) (b × p) → p
ends_second (Ok done) a b p h = h.1
ends_second (Err (show.Part part.Device)) a b p h = h.1
ends_second (Err (show.Part part.Memory)) a b p h = absurd h
ends_second (Err (show.Part (part.Bad bad))) a b p h = absurd h
ends_second (Err show.Write) a b p h = h.1
ends_second (Err show.Memory) a b p h = h.1

pub ends_good : (r : Result (Unit {0}) ShowErr) (a b : Type 0) → Ends r a b → ShowIsNotBad r
ends_good (Ok done) a b h = tt
ends_good (Err (show.Part part.Device)) a b h = tt
ends_good (Err (show.Part part.Memory)) a b h = tt
ends_good (Err (show.Part (part.Bad bad))) a b h = h
ends_good (Err show.Write) a b h = tt
ends_good (Err show.Memory) a b h = tt
