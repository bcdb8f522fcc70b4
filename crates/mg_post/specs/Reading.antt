-- What a reader of postings reads from a feed and its device, by the functions that tell what contracts see of both.
use Rattle.std.specs.Prelude.{◌≡◌, ℕ, ◌+◌, ◌^◌, ◌≤◌, List, length, take, Option, Result, IfOk, OnErr, OnOk, MatchResult}
use Rattle.mg_dev.specs.Files.{Files}
use Rattle.mg_bits.specs.Feed.{Calm, Feeding, Device, ReadsWithin}
use Rattle.mg_bits.specs.NextBits.{FromNext, ReadNext}
use Rattle.mg_bits.specs.Reading.{Reading}
use Rattle.mg_defs.specs.Bits.{Begins, Shows}
use Rattle.mg_defs.specs.declared.Posting.{Posting}
use Rattle.mg_defs.specs.Lists.{posting_bits, bits_after, last_doc, Rises, Follows}
use Rattle.mg_post.specs.Answers.{AnswersThis, IfDamaged, OrDevice, RefusalCause}
use Rattle.mg_post.specs.Missing.{IsBitOfPosting, LacksPosting}
use Rattle.mg_post.specs.declared.refusal.Refusal.{Refusal}

-- the bytes that a reader reads, where its device tells them
abbrev pub told_bytes : {Fed Dev : Type 0} → (Fed → Feeding) → (Dev → Device) → Reading Fed → Dev → Option (List ℕ)
told_bytes feeding device r d = (feeding r.feed).source (device d).files

-- a fact on the posting that stands at a reader's place after a document
abbrev pub ForNextPosting : {Fed Dev : Type 0} → (Fed → Feeding) → (Dev → Device) → Reading Fed → Dev → ℕ → ℕ → ℕ →
    (Posting → Type 0) → Type 0
ForNextPosting feeding device r d all parameter before fact = (p : Posting) → Follows all before p →
    r.place + length (posting_bits parameter before p) ≤ 2 ^ 63 →
    Shows (told_bytes feeding device r d) r.place (posting_bits parameter before p) → fact p

-- a fact on the postings, at least so many, that stand at a reader's place after a document
abbrev pub ForNextList : {Fed Dev : Type 0} → (Fed → Feeding) → (Dev → Device) → Reading Fed → Dev → ℕ → ℕ → ℕ → ℕ →
    (List Posting → Type 0) → Type 0
ForNextList feeding device r d all parameter before count fact = (ps : List Posting) → Rises all before ps →
    count ≤ length ps →
    r.place + length (bits_after parameter before ps) ≤ 2 ^ 63 →
    Shows (told_bytes feeding device r d) r.place (bits_after parameter before ps) → fact ps

-- where a posting stands at a reader's place after a document, only pages on which it lies are read
abbrev pub OnlyPostingPages : {Fed Dev : Type 0} → (Fed → Feeding) → (Dev → Device) → Reading Fed → Reading Fed → Dev →
    Dev → ℕ → ℕ → ℕ → Type 0
OnlyPostingPages feeding device old new dev now all parameter before = (p : Posting) → Follows all before p →
    Shows (told_bytes feeding device old dev) old.place (posting_bits parameter before p) →
    ReadsWithin (feeding old.feed) (feeding new.feed) (device dev) (device now) old.place
    (old.place + length (posting_bits parameter before p))

-- where postings stand at a reader's place after a document, only pages on which the first of them lie, so many, are read
abbrev pub OnlyListPages : {Fed Dev : Type 0} → (Fed → Feeding) → (Dev → Device) → Reading Fed → Reading Fed → Dev →
    Dev → ℕ → ℕ → ℕ → ℕ → Type 0
OnlyListPages feeding device old new dev now all parameter before count =
    ForNextList feeding device old dev all parameter before count
    (λ ps. ReadsWithin (feeding old.feed) (feeding new.feed) (device dev) (device now) old.place
    (old.place + length (bits_after parameter before (take count ps))))

-- the place now is so many bits behind that before; where the call is refused it is the same
abbrev pub GoesBehind : {T E : Type 0} → Result T E → ℕ → ℕ → ℕ → Type 0
GoesBehind result place place_now bits = MatchResult result (λ _. place_now ≡ place + bits) (λ _. place_now ≡ place)

-- ---- a call that reads from a feed

-- the feed agrees with its device, and has pages of 4,096 bytes
pub record FeedsPages {Fed Dev : Type 0} (agrees : Fed → Option Files → Type 0) (feeding : Fed → Feeding)
    (device : Dev → Device) (r : Reading Fed) (d : Dev) : Type 0 where
  pub fits : agrees r.feed (device d).files
  pub page : (feeding r.feed).page ≡ 4096

-- a call does this, by the bytes that are told and the feed before and after it; the feed agrees with its device,
-- nothing is read but its own part, and a device's failure has a cause
pub record ReadsFeed {Fed Dev T : Type 0} (promise : Result T Refusal → Option (List ℕ) → Feeding → Feeding → Type 0)
    (agrees : Fed → Option Files → Type 0) (feeding : Fed → Feeding) (device : Dev → Device) (old new : Reading Fed)
    (dev now : Dev) (result : Result T Refusal) : Type 0 where
  pub does : promise result (told_bytes feeding device old dev) (feeding old.feed) (feeding new.feed)
  pub fits : agrees new.feed (device now).files
  pub calm : Calm (feeding old.feed) (feeding new.feed) (device dev) (device now)
  pub cause : RefusalCause result (device dev).faults (device now).faults

-- the posting that stands at a reader's place after a document is read, by a list's parameter and the number of documents
pub record ReadsPosting {Fed Dev : Type 0} (all b before : ℕ) (agrees : Fed → Option Files → Type 0)
    (feeding : Fed → Feeding) (device : Dev → Device) (old new : Reading Fed) (dev now : Dev)
    (result : Result Posting Refusal) : Type 0 where
  pub fits : agrees new.feed (device now).files
  pub calm : Calm (feeding old.feed) (feeding new.feed) (device dev) (device now)
  pub read : IfOk result (λ p. ReadNext feeding device old new dev now (length (posting_bits b before p)))
  pub pages : OnErr result (OnlyPostingPages feeding device old new dev now all b before)
  -- the place goes behind the posting; where the call is refused it is the same
  pub place : MatchResult result (λ p. new.place ≡ old.place + length (posting_bits b before p))
      (λ _. new.place ≡ old.place)
  pub shows : IfOk result (λ p. FromNext feeding device old dev (Begins (posting_bits b before p)))
  pub follows : IfOk result (Follows all before)
  -- a damage is told at the first bit of the gap, or of the count
  pub at : IfDamaged result (IsBitOfPosting all b (told_bytes feeding device old dev) before old.place)
  -- where a posting stands there, it is answered, or the device failed
  pub told : ForNextPosting feeding device old dev all b before (λ p. AnswersThis result p)
  pub cause : RefusalCause result (device dev).faults (device now).faults

-- so many postings that stand at a reader's place after a document are read to a block; the last document is answered
pub record FillsBlock {Fed Dev : Type 0} (all b before count : ℕ) (block : List Posting)
    (agrees : Fed → Option Files → Type 0) (feeding : Fed → Feeding) (device : Dev → Device) (old new : Reading Fed)
    (dev now : Dev) (result : Result ℕ Refusal) : Type 0 where
  pub fits : agrees new.feed (device now).files
  pub calm : Calm (feeding old.feed) (feeding new.feed) (device dev) (device now)
  pub read : OnOk result (ReadNext feeding device old new dev now (length (bits_after b before block)))
  pub pages : OnErr result (OnlyListPages feeding device old new dev now all b before count)
  pub place : GoesBehind result old.place new.place (length (bits_after b before block))
  pub whole : OnOk result (length block ≡ count)
  pub rises : OnOk result (Rises all before block)
  pub last : IfOk result (λ last. last ≡ last_doc before block)
  pub shows : OnOk result (FromNext feeding device old dev (Begins (bits_after b before block)))
  -- a damage is told at the first posting that does not stand
  pub lacks : IfDamaged result (LacksPosting all b (told_bytes feeding device old dev) before old.place count)
  -- where so many postings stand there, these are the block, or the device failed
  pub told : ForNextList feeding device old dev all b before count (λ ps. OrDevice result (λ _. block ≡ take count ps))
  pub cause : RefusalCause result (device dev).faults (device now).faults
