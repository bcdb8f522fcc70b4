-- What decoding the bits of a document does to the reader of bits, and to where the document's bytes go.
use Rattle.std.specs.Prelude.{◌≡◌, ℕ, ◌+◌, ◌^◌, ◌≤◌, ◌<◌, ◌++◌, List, length, take, Some, Ok, Err, MatchResult, OnOk}
use Rattle.std.specs.List.{AllByRecursion, flat_map}
use Rattle.std.specs.declared.option.Option.{Option}
use Rattle.std.specs.declared.result.Result.{Result}
use Rattle.std.specs.Prelude.{slice_get}
use Rattle.mg_dev.specs.Causes.{Rose}
use Rattle.mg_dev.specs.Files.{Files}
use Rattle.mg_dev.specs.Moments.{SinkAt, sink_at}
use Rattle.mg_dev.specs.Streams.{appended, GrewByPrefix}
use Rattle.mg_dev.specs.declared.part_err.PartErr.{PartErr}
use Rattle.mg_dev.specs.declared.part_err.PartErr.TheVariants.{Device, Memory, Bad}
use Rattle.mg_dev.specs.declared.show_err.ShowErr.{ShowErr}
use Rattle.mg_dev.specs.declared.show_err.ShowErr.TheVariants as show
use Rattle.mg_bits.specs.Feed.{Calm, Feeding, Device as Seen, Read, ReadsWithin}
use Rattle.mg_bits.specs.Reading.{Reading}
use Rattle.mg_defs.specs.Bits.{Begins, Bits, FromPlace, Shows}
use Rattle.mg_defs.specs.Codes.{gamma}
use Rattle.mg_defs.specs.CodedText.{StreamCode, TextCode, codeword_of, coded_doc, coded_pair}
use Rattle.mg_defs.specs.Parse.{Pair, parse, text}
use Rattle.mg_defs.specs.Sorted.{number_of}

-- ---- pieces of a code

-- the piece is one of the stream
abbrev pub IsIn : StreamCode → List ℕ → Type 0
IsIn code piece = slice_get code.pieces (number_of code.pieces piece) ≡ Some piece

pub record PairIn (code : TextCode) (p : Pair) : Type 0 where
  pub word : IsIn code.words p.word
  pub other : IsIn code.others p.other

abbrev pub PairsIn : TextCode → List Pair → Type 0
PairsIn code ps = AllByRecursion (PairIn code) ps

abbrev pub coded_pairs : TextCode → List Pair → Bits
coded_pairs code ps = flat_map (coded_pair code) ps

-- how many pairs there are, and then the codewords of their pieces
abbrev pub numbered_pairs : TextCode → List Pair → Bits
numbered_pairs code ps = gamma (length ps + 1) ++ coded_pairs code ps

-- ---- what stood where a call read

-- these bits stood at a place, and the reader stands behind them
pub record Stood (bits : Bits) (feed : Feeding) (device : Seen) (place next : ℕ) : Type 0 where
  pub bits_are : FromPlace (feed.source device.files) place (Begins bits)
  pub behind : next ≡ place + length bits

-- the same by the functions that tell of a feed and of a device
abbrev pub StoodNext : {Fed Dev : Type 0} → (Fed → Feeding) → (Dev → Seen) → Reading Fed → Reading Fed → Dev → Bits →
    Type 0
StoodNext feeding device r r_now d bits = Stood bits (feeding r.feed) (device d) r.place r_now.place

-- the same where the reader holds the bits: whatever device it agrees with
abbrev pub StoodHeld : {Fed : Type 0} → (Fed → Feeding) → (Option Files → Type 0) → Reading Fed → Reading Fed → Bits →
    Type 0
StoodHeld feeding fits r r_now bits = (d : Seen) → fits d.files → Stood bits (feeding r.feed) d r.place r_now.place

-- it was the codeword of a piece of the stream, and this is so of the piece
pub record PieceStood (code : StreamCode) (fact : Bits → List ℕ → Type 0) : Type 0 where
  pub piece : List ℕ
  pub there : IsIn code piece
  pub came : fact (codeword_of code piece) piece

-- the codewords of a pair
pub record PairStood (code : TextCode) (fact : Bits → Pair → Type 0) : Type 0 where
  pub pair : Pair
  pub there : PairIn code pair
  pub came : fact (coded_pair code pair) pair

-- those of so many pairs
pub record PairsStood (code : TextCode) (count : ℕ) (fact : Bits → List Pair → Type 0) : Type 0 where
  pub pairs : List Pair
  pub there : PairsIn code pairs
  pub count_is : count ≡ length pairs
  pub came : fact (coded_pairs code pairs) pairs

-- how many pairs there are, and then their codewords
pub record DocumentStood (code : TextCode) (fact : Bits → List Pair → Type 0) : Type 0 where
  pub pairs : List Pair
  pub there : PairsIn code pairs
  pub came : fact (numbered_pairs code pairs) pairs

-- ---- bytes on their way to a sink

-- the bytes that a buffer holds, and how many it may still take
pub record Gathering : Type 0 where
  pub held : List ℕ
  pub left : ℕ

-- how many bytes may come of a buffer: those that it holds, and those that it may still take
abbrev pub bytes_to_come : Gathering → ℕ
bytes_to_come b = length b.held + b.left

-- a piece is held behind what was so before, and counts of those that may still be taken
pub record Keeps (old new : Gathering) (piece : List ℕ) : Type 0 where
  pub held : new.held ≡ old.held ++ piece
  pub left : length piece + new.left ≡ old.left

-- bytes, of so many at most, of which the first went to the sink, and the others are held
pub record Shown (before now : Option (List ℕ)) (b : Gathering) (bytes : List ℕ) (most : ℕ) : Type 0 where
  pub sent : List ℕ
  pub told : now ≡ appended before sent
  pub whole : sent ++ b.held ≡ bytes
  pub rest : length bytes + b.left ≡ most

-- a fact on the bytes that were shown behind what a sink told once, or are held
abbrev pub ForShown : Option (List ℕ) → Gathering → (Option (List ℕ) → List ℕ → ℕ → Type 0) → Type 0
ForShown now b fact = (before : Option (List ℕ)) (bytes : List ℕ) (most : ℕ) → Shown before now b bytes most →
    fact before bytes most

-- at `Ok` the bytes were shown or are held, else a prefix of them was shown
abbrev pub Gathers : {T E : Type 0} → Result T E → Option (List ℕ) → Option (List ℕ) → Gathering → List ℕ → ℕ → Type 0
Gathers result before now b bytes most = MatchResult result (λ _. Shown before now b bytes most)
    (λ _. GrewByPrefix before now bytes)

-- a sink's counts did not fall, and some bytes were added to what it tells
pub record Added (before now : Option (List ℕ)) (faults_before faults_now lacks_before lacks_now : ℕ) : Type 0 where
  pub faults : faults_before ≤ faults_now
  pub lacks : lacks_before ≤ lacks_now
  pub bytes : List ℕ
  pub told : now ≡ appended before bytes

-- the same, and of so many bytes that might come, so many still may
pub record AddedOf (most most_now : ℕ) (out out_now : SinkAt) : Type 0 where
  pub faults : out.faults ≤ out_now.faults
  pub lacks : out.lacks ≤ out_now.lacks
  pub bytes : List ℕ
  pub told : out_now.written ≡ appended out.written bytes
  pub few : length bytes + most_now ≤ most

-- the same by the functions that tell what a sink holds, its faults and its lacks
abbrev pub AddsOf : {Out : Type 0} → (Out → Option (List ℕ)) → (Out → ℕ) → (Out → ℕ) → Out → Out → ℕ → ℕ → Type 0
AddsOf written faults lacks out out_now most most_now = AddedOf most most_now (sink_at written faults lacks out)
    (sink_at written faults lacks out_now)

-- ---- steps

-- a range of bits was read and the reader stands at its end
-- the bytes that the bits code, so many at most, went to the sink or are held
pub record Decoded (f0 f1 : Feeding) (d0 d1 : Seen) (from to place : ℕ) (w0 w1 : Option (List ℕ)) (b : Gathering)
    (bytes : List ℕ) (most : ℕ) : Type 0 where
  pub at_end : place ≡ to
  pub read : Read f0 f1 d0 d1 from to
  pub shown : Shown w0 w1 b bytes most

-- only pages of a range of bits were read, and a prefix of the bytes that the bits code went to the sink
pub record Stopped (f0 f1 : Feeding) (d0 d1 : Seen) (from to : ℕ) (w0 w1 : Option (List ℕ)) (bytes : List ℕ) : Type 0
  where
    pub pages : ReadsWithin f0 f1 d0 d1 from to
    pub grew : GrewByPrefix w0 w1 bytes

-- only pages of a range of bits were read, and all bytes that the bits code went to the sink
pub record WholeDoc (f0 f1 : Feeding) (d0 d1 : Seen) (from to : ℕ) (w0 w1 : Option (List ℕ)) (bytes : List ℕ) : Type 0
  where
    pub pages : ReadsWithin f0 f1 d0 d1 from to
    pub grew : w1 ≡ appended w0 bytes

-- what stands there is read, or the device failed within it
abbrev pub Takes : {T : Type 0} → Result T PartErr → (T → Type 0) → Type 0 → Type 0
Takes (Ok value) whole part = whole value
Takes (Err Device) whole part = part
Takes (Err Memory) whole part = ⊥
Takes (Err (Bad bad)) whole part = ⊥

-- what stands there is shown, or a device failed within it, or the sink lacked memory
abbrev pub Ends : Result (Unit {0}) ShowErr → Type 0 → Type 0 → Type 0
Ends (Ok done) whole part = whole
Ends (Err (show.Part Device)) whole part = part
Ends (Err (show.Part Memory)) whole part = ⊥
Ends (Err (show.Part (Bad bad))) whole part = ⊥
Ends (Err show.Write) whole part = part
Ends (Err show.Memory) whole part = part

-- where a value's code stands at a reader's place: the value is read, and the reader stands behind the code
abbrev pub ReadsCode : {Fed Dev T : Type 0} → (Fed → Feeding) → (Dev → Seen) → Reading Fed → Reading Fed → Dev → Dev →
    Bits → T → Result T PartErr → Type 0
ReadsCode feeding device r r_now d d_now bits value result =
    r.place + length bits ≤ 2 ^ 63 → Shows ((feeding r.feed).source (device d).files) r.place bits →
    Takes result
    (λ found. (found ≡ value) × (r_now.place ≡ r.place + length bits)
    × Read (feeding r.feed) (feeding r_now.feed) (device d) (device d_now) r.place (r.place + length bits))
    (ReadsWithin (feeding r.feed) (feeding r_now.feed) (device d) (device d_now) r.place (r.place + length bits))

-- the same where the reader holds the bits: whatever device it agrees with, none is asked
abbrev pub ReadsHeld : {Fed T : Type 0} → (Fed → Feeding) → (Option Files → Type 0) → Reading Fed → Reading Fed → Bits →
    T → T → Type 0
ReadsHeld feeding fits r r_now bits value found = (d : Seen) → fits d.files →
    ReadsCode feeding (λ (seen : Seen). seen) r r_now d d bits value (Ok found)

-- ---- causes

-- the store's failure, the sink's failure and the sink's want of memory each have a cause, and no other memory is wanted
abbrev pub IsShowCaused : Result (Unit {0}) ShowErr → ℕ → ℕ → ℕ → ℕ → ℕ → ℕ → Type 0
IsShowCaused (Ok done) s t f g l m = Unit {0}
IsShowCaused (Err (show.Part Device)) s t f g l m = Rose s t
IsShowCaused (Err (show.Part Memory)) s t f g l m = ⊥
IsShowCaused (Err (show.Part (Bad bad))) s t f g l m = Unit {0}
IsShowCaused (Err show.Write) s t f g l m = Rose f g
IsShowCaused (Err show.Memory) s t f g l m = Rose l m

-- so many bytes are put into a buffer that may take so many: more is bad
-- the sink's failure and its want of memory each have a cause
abbrev pub IsPutCaused : Result (Unit {0}) ShowErr → ℕ → ℕ → ℕ → ℕ → ℕ → ℕ → Type 0
IsPutCaused (Ok done) left size f g l m = Unit {0}
IsPutCaused (Err (show.Part Device)) left size f g l m = ⊥
IsPutCaused (Err (show.Part Memory)) left size f g l m = ⊥
IsPutCaused (Err (show.Part (Bad bad))) left size f g l m = left < size
IsPutCaused (Err show.Write) left size f g l m = Rose f g
IsPutCaused (Err show.Memory) left size f g l m = Rose l m

-- what putting a piece into a buffer promises
pub record PutsPiece (piece : List ℕ) (result : Result (Unit {0}) ShowErr) (old new : Gathering) (out out_now : SinkAt) :
    Type 0 where
  -- what the sink took and what is held grow by the piece, or the sink took a prefix of both
  pub shown : ForShown out.written old (λ before bytes most. Gathers result before out_now.written new (bytes ++ piece)
      most)
  -- the sink was given no more bytes than might come
  pub added : AddedOf (bytes_to_come old) (bytes_to_come new) out out_now
  -- a refusal has its cause
  pub cause : IsPutCaused result old.left (length piece) out.faults out_now.faults out.lacks out_now.lacks

-- the store's failure has a cause, and no memory is wanted
abbrev pub IsReadCaused : {T : Type 0} → Result T PartErr → ℕ → ℕ → Type 0
IsReadCaused (Ok value) before now = Unit {0}
IsReadCaused (Err Device) before now = Rose before now
IsReadCaused (Err Memory) before now = ⊥
IsReadCaused (Err (Bad bad)) before now = Unit {0}

-- ---- the moment before a step and the one after it

-- what decoding changes, at one moment: the feed and the place of the reader of bits, its device, the bytes on their
-- way, and the sink
pub record Moment : Type 0 where
  pub feed : Feeding
  pub place : ℕ
  pub device : Seen
  pub held : Gathering
  pub sink : SinkAt

-- what relates the moment before a step to the one after it
abbrev pub DecodingStep : Type 1
DecodingStep = (old new : Moment) → Type 0

-- a moment, by the functions that tell of a feed, of a device and of a sink
abbrev pub moment_of : {Fed Dev Out : Type 0} → (Fed → Feeding) → (Dev → Seen) → (Out → Option (List ℕ)) → (Out → ℕ) →
    (Out → ℕ) → Reading Fed → Dev → Gathering → Out → Moment
moment_of feeding device written faults lacks r d b out = record {
  feed = feeding r.feed;
  place = r.place;
  device = device d;
  held = b;
  sink = sink_at written faults lacks out;
}

-- where bits stand at the place, and the bytes that they code may come behind those that were shown or are held: all of
-- them come and the reader stands behind the bits, or it stopped within them
abbrev pub Brings : Bits → List ℕ → Result (Unit {0}) ShowErr → DecodingStep
Brings bits bytes result old new = (before : Option (List ℕ)) (first : List ℕ) (most : ℕ) →
    old.place + length bits ≤ 2 ^ 63 → Shows (old.feed.source old.device.files) old.place bits →
    Shown before old.sink.written old.held first most → length (first ++ bytes) ≤ most →
    Ends result
    (Decoded old.feed new.feed old.device new.device old.place (old.place + length bits) new.place before
    new.sink.written new.held (first ++ bytes) most)
    (Stopped old.feed new.feed old.device new.device old.place (old.place + length bits) before new.sink.written
    (first ++ bytes))

-- the piece of a code whose codeword stands at the place
abbrev pub ShowsPiece : StreamCode → Result (Unit {0}) ShowErr → DecodingStep
ShowsPiece code result old new = (piece : List ℕ) → IsIn code piece →
    Brings (codeword_of code piece) piece result old new

-- the pair whose codewords stand there
abbrev pub ShowsPair : TextCode → Result (Unit {0}) ShowErr → DecodingStep
ShowsPair code result old new = (p : Pair) → PairIn code p →
    Brings (coded_pair code p) (p.word ++ p.other) result old new

-- the pairs, so many, whose codewords stand there
abbrev pub ShowsPairs : TextCode → ℕ → Result (Unit {0}) ShowErr → DecodingStep
ShowsPairs code count result old new = (ps : List Pair) → PairsIn code ps → count ≡ length ps →
    Brings (coded_pairs code ps) (text ps) result old new

-- the first pairs, so many, of those whose codewords stand there and which all may come
abbrev pub ShowsFirst : TextCode → ℕ → ℕ → DecodingStep
ShowsFirst code count shown old new = (ps : List Pair) → PairsIn code ps → count ≡ length ps →
    (before : Option (List ℕ)) (first : List ℕ) (most : ℕ) → old.place + length (coded_pairs code ps) ≤ 2 ^ 63 →
    Shows (old.feed.source old.device.files) old.place (coded_pairs code ps) →
    Shown before old.sink.written old.held first most → length (first ++ text ps) ≤ most →
    Decoded old.feed new.feed old.device new.device old.place
    (old.place + length (coded_pairs code (take shown ps))) new.place before new.sink.written new.held
    (first ++ text (take shown ps)) most

-- the document whose bits stand there
abbrev pub ShowsDoc : TextCode → Result (Unit {0}) ShowErr → DecodingStep
ShowsDoc code result old new = (doc : List ℕ) → PairsIn code (parse doc) → length (parse doc) < 2 ^ 32 →
    Brings (coded_doc code doc) doc result old new

-- that document, if it has at most as many bytes as may come: whole and nothing else, or the first of its bytes
abbrev pub ShowsWhole : TextCode → Result (Unit {0}) ShowErr → DecodingStep
ShowsWhole code result old new = (doc : List ℕ) → PairsIn code (parse doc) → length (parse doc) < 2 ^ 32 →
    length doc ≤ old.held.left → old.place + length (coded_doc code doc) ≤ 2 ^ 63 →
    Shows (old.feed.source old.device.files) old.place (coded_doc code doc) → Ends result
    (WholeDoc old.feed new.feed old.device new.device old.place (old.place + length (coded_doc code doc))
    old.sink.written new.sink.written doc)
    (Stopped old.feed new.feed old.device new.device old.place (old.place + length (coded_doc code doc))
    old.sink.written new.sink.written doc)

-- ---- what stood for the bytes that came, whatever the parts hold

-- these bits stood at the place, and these bytes came behind those that were shown or are held
pub record Came (bits : Bits) (bytes : List ℕ) (old new : Moment) : Type 0 where
  pub stood : Stood bits old.feed old.device old.place new.place
  pub shown : ForShown old.sink.written old.held (λ before first most. Shown before new.sink.written new.held
      (first ++ bytes) most)

-- these bits stood at the place, and these bytes went to the sink
pub record Sent (bits : Bits) (bytes : List ℕ) (old new : Moment) : Type 0 where
  pub stood : Stood bits old.feed old.device old.place new.place
  pub told : new.sink.written ≡ appended old.sink.written bytes

abbrev pub PieceCame : StreamCode → DecodingStep
PieceCame code old new = PieceStood code (λ bits piece. Came bits piece old new)

abbrev pub PairCame : TextCode → DecodingStep
PairCame code old new = PairStood code (λ bits p. Came bits (p.word ++ p.other) old new)

abbrev pub PairsCame : TextCode → ℕ → DecodingStep
PairsCame code count old new = PairsStood code count (λ bits ps. Came bits (text ps) old new)

abbrev pub DocumentCame : TextCode → DecodingStep
DocumentCame code old new = DocumentStood code (λ bits ps. Came bits (text ps) old new)

abbrev pub DocumentSent : TextCode → DecodingStep
DocumentSent code old new = DocumentStood code (λ bits ps. Sent bits (text ps) old new)

-- ---- what calls promise

-- what every reading of a number promises, beside the number
pub record ReadsNumber {T : Type 0} (agrees : Type 0) (result : Result T PartErr) (old new : Feeding) (before now : Seen) :
    Type 0 where
  -- what the reader of bits keeps agrees with the files
  pub fits : agrees
  -- the reader of bits and its device changed as reading changes them
  pub calm : Calm old new before now
  -- a refusal has its cause
  pub cause : IsReadCaused result before.faults now.faults

-- what every step of decoding promises, beside what it shows
pub record Steps (agrees : Type 0) (tells comes : DecodingStep) (result : Result (Unit {0}) ShowErr) (old new : Moment) :
    Type 0 where
  -- what the reader of bits keeps agrees with the files
  pub fits : agrees
  -- the reader of bits and its device changed as reading changes them
  pub calm : Calm old.feed new.feed old.device new.device
  -- what stands at the place is shown
  pub told : tells old new
  -- what came stood there
  pub stood : OnOk result (comes old new)
  -- the sink was given no more bytes than might come
  pub added : AddedOf (bytes_to_come old.held) (bytes_to_come new.held) old.sink new.sink
  -- a refusal has its cause
  pub cause : IsShowCaused result old.device.faults new.device.faults old.sink.faults new.sink.faults old.sink.lacks
      new.sink.lacks

-- a step of decoding, by the functions that tell of a feed, of a device and of a sink
abbrev pub Decodes : {Fed Dev Out : Type 0} → (Result (Unit {0}) ShowErr → DecodingStep) → DecodingStep →
    Result (Unit {0}) ShowErr → (Fed → Feeding) → (Fed → Option Files → Type 0) → (Dev → Seen) → (Out → Option (List ℕ)) → (Out → ℕ) →
    (Out → ℕ) → Reading Fed → Reading Fed → Dev → Dev → Gathering → Gathering → Out → Out → Type 0
Decodes tells comes result feeding fits device written faults lacks r r_now d d_now b b_now out out_now =
    Steps (fits r_now.feed (device d_now).files) (tells result) comes result (moment_of feeding device written faults lacks r d b out)
    (moment_of feeding device written faults lacks r_now d_now b_now out_now)
