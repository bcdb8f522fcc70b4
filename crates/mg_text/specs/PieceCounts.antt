-- The pieces of documents, tallied by their symbols: what a tally has, and what tallying the pieces of a document promises.
use Rattle.std.specs.Prelude.{◌≡◌, ℕ, ◌+◌, ◌^◌, ◌≤◌, ◌<◌, Bool, List, [], ◌∷◌, length, replicate, slice_index, slice_set, take, IfOk, IfSome, OnErr}
use Rattle.std.specs.Bool.{OnTrue}
use Rattle.std.specs.declared.option.Option.{Option}
use Rattle.std.specs.declared.result.Result.{Result}
use Rattle.mg_dev.specs.Causes.{HasCause, Rose}
use Rattle.mg_dev.specs.Files.{Files, Reads}
use Rattle.mg_dev.specs.declared.device.Failed.{Failed}
use Rattle.mg_dev.specs.declared.part.Part.TheVariants as part
use Rattle.mg_bits.specs.Feed.{Calm, Feeding, Device as Seen}
use Rattle.mg_bits.specs.Pages.{LookedAt}
use Rattle.mg_bits.specs.Reading.{Reading}
use Rattle.mg_defs.specs.declared.Stream.{Stream}
use Rattle.mg_defs.specs.declared.Stream.TheVariants.{Words, Others}
use Rattle.mg_defs.specs.Bits.{Bits, Shows}
use Rattle.mg_defs.specs.CodedText.{TextCode, codeword_of, coded_doc, coded_pair}
use Rattle.mg_defs.specs.Marks.{code_of}
use Rattle.mg_defs.specs.Parse.{Pair, parse}
use Rattle.mg_defs.specs.Sorted.{number_of}
use Rattle.mg_defs.specs.Terms.{document}
use Rattle.mg_text.specs.Decoding.{IsIn, PairIn, PairsIn, coded_pairs}
use Rattle.mg_text.specs.Reading.{SameText, TextFits, TextReading, WhereTextStands}

-- ---- tallies

-- how often each symbol of either stream came
pub record PieceTally : Type 0 where
  pub words : List ℕ
  pub others : List ℕ

-- no symbol of a code came
abbrev pub IsNoTally : TextCode → PieceTally → Type 0
IsNoTally code t = (t.words ≡ replicate (length code.words.pieces) 0) × (t.others ≡ replicate (length code.others.pieces) 0)

-- the number at this place is greater by one
abbrev pub one_more : ℕ → List ℕ → List ℕ
one_more place numbers = slice_set numbers place (slice_index numbers place + 1)

-- one symbol more of a stream
abbrev pub with_symbol : Stream → ℕ → PieceTally → PieceTally
with_symbol Words symbol t = record { words = one_more symbol t.words; others = t.others }
with_symbol Others symbol t = record { words = t.words; others = one_more symbol t.others }

-- one piece more of a stream: that of its number in the code
abbrev pub with_piece : TextCode → Stream → List ℕ → PieceTally → PieceTally
with_piece code kind piece t = with_symbol kind (number_of (code_of kind code).pieces piece) t

-- the word and the other of a pair
abbrev pub with_pair : TextCode → Pair → PieceTally → PieceTally
with_pair code p t = record {
  words = one_more (number_of code.words.pieces p.word) t.words;
  others = one_more (number_of code.others.pieces p.other) t.others;
}

-- those of pairs
abbrev pub with_pairs : TextCode → List Pair → PieceTally → PieceTally
with_pairs code [] t = t
with_pairs code (p ∷ ps) t = with_pairs code ps (with_pair code p t)

-- ---- steps

-- what counting changes, at one moment: the feed and the place of the reader of bits, its device, and the counts
pub record CountMoment : Type 0 where
  pub feed : Feeding
  pub place : ℕ
  pub device : Seen
  pub counts : PieceTally

abbrev pub CountStep : Type 1
CountStep = (old new : CountMoment) → Type 0

-- a moment, by the functions that tell of a feed and of a device
abbrev pub count_moment : {Fed Dev : Type 0} → (Fed → Feeding) → (Dev → Seen) → Reading Fed → Dev → PieceTally → CountMoment
count_moment feeding device r d counts = record { feed = feeding r.feed; place = r.place; device = device d; counts = counts }

-- where bits stand at the place, the reader stands behind them, and the counts changed so
abbrev pub Counts : Bits → (PieceTally → PieceTally) → CountStep
Counts bits change old new = old.place + length bits ≤ 2 ^ 63 → Shows (old.feed.source old.device.files) old.place bits →
    (new.place ≡ old.place + length bits) × (new.counts ≡ change old.counts)

-- the piece whose codeword stands there is counted
abbrev pub CountsPiece : TextCode → Stream → CountStep
CountsPiece code kind old new = (piece : List ℕ) → IsIn (code_of kind code) piece →
    Counts (codeword_of (code_of kind code) piece) (with_piece code kind piece) old new

-- the pair whose codewords stand there
abbrev pub CountsPair : TextCode → CountStep
CountsPair code old new = (p : Pair) → PairIn code p → Counts (coded_pair code p) (with_pair code p) old new

-- the pairs, so many, whose codewords stand there
abbrev pub CountsPairs : TextCode → ℕ → CountStep
CountsPairs code count old new = (ps : List Pair) → PairsIn code ps → count ≡ length ps →
    Counts (coded_pairs code ps) (with_pairs code ps) old new

-- the first pairs, so many, of those whose codewords stand there
abbrev pub CountsFirst : TextCode → ℕ → ℕ → CountStep
CountsFirst code count done old new = (ps : List Pair) → PairsIn code ps → count ≡ length ps →
    old.place + length (coded_pairs code ps) ≤ 2 ^ 63 → Shows (old.feed.source old.device.files) old.place (coded_pairs code ps) →
    (new.place ≡ old.place + length (coded_pairs code (take done ps))) × (new.counts ≡ with_pairs code (take done ps) old.counts)

-- the document whose bits stand there, of so many pairs
abbrev pub CountsDoc : TextCode → ℕ → CountStep
CountsDoc code count old new = (doc : List ℕ) → PairsIn code (parse doc) → length (parse doc) < 2 ^ 32 →
    old.place + length (coded_doc code doc) ≤ 2 ^ 63 → Shows (old.feed.source old.device.files) old.place (coded_doc code doc) →
    (count ≡ length (parse doc)) × (new.counts ≡ with_pairs code (parse doc) old.counts)

-- what every step of counting promises: it tells nothing where it was not done
pub record CountSteps {T : Type 0} (agrees tells : Type 0) (answer : Result T Failed) (old new : CountMoment) : Type 0 where
  -- what the reader of bits keeps agrees with the files
  pub fits : agrees
  -- the reader of bits and its device changed as reading changes them
  pub calm : Calm old.feed new.feed old.device new.device
  -- what stands at the place is counted
  pub told : tells
  -- the device failed only where its faults rose
  pub cause : OnErr answer (Rose old.device.faults new.device.faults)

-- a step that is answered with yes or no, by the functions that tell of a feed and of a device
abbrev pub CountsIf : {Fed Dev : Type 0} → Result Bool Failed → CountStep → (Fed → Feeding) → (Fed → Option Files → Type 0) →
    (Dev → Seen) → Reading Fed → Reading Fed → Dev → Dev → PieceTally → PieceTally → Type 0
CountsIf answer tells feeding fits device r r_now d d_now counts counts_now = CountSteps (fits r_now.feed (device d_now).files)
    (IfOk answer (λ done. OnTrue done (tells (count_moment feeding device r d counts) (count_moment feeding device r_now d_now counts_now))))
    answer (count_moment feeding device r d counts) (count_moment feeding device r_now d_now counts_now)

-- one that is answered with a number
abbrev pub CountsSome : {Fed Dev : Type 0} → Result (Option ℕ) Failed → (ℕ → CountStep) → (Fed → Feeding) → (Fed → Option Files → Type 0) →
    (Dev → Seen) → Reading Fed → Reading Fed → Dev → Dev → PieceTally → PieceTally → Type 0
CountsSome answer tells feeding fits device r r_now d d_now counts counts_now = CountSteps (fits r_now.feed (device d_now).files)
    (IfOk answer (λ found. IfSome found (λ n. tells n (count_moment feeding device r d counts) (count_moment feeding device r_now d_now counts_now))))
    answer (count_moment feeding device r d counts) (count_moment feeding device r_now d_now counts_now)

-- ---- a document

-- a document of a collection has so many pairs, and their pieces were tallied
abbrev pub CountsDocument : TextCode → ℕ → List ℕ → ℕ → PieceTally → PieceTally → Type 0
CountsDocument code number collection count old new = (count ≡ length (parse (document collection number)))
    × (new ≡ with_pairs code (parse (document collection number)) old)

-- the same, where it was tallied
abbrev pub CountsIfFound : TextCode → Result (Option ℕ) Failed → ℕ → List ℕ → PieceTally → PieceTally → Type 0
CountsIfFound code result number collection old new = IfOk result (λ found. IfSome found (λ count.
    CountsDocument code number collection count old new))

-- what counting the pieces of a document promises
pub record CountsPieces (number : ℕ) (result : Result (Option ℕ) Failed) (old new : TextReading) (counts counts_now : PieceTally)
    (files_before files_now : Option Files) (reads_before reads_now : Reads) (faults_before faults_now : ℕ) : Type 0
  where
    -- what the reader keeps of Text and Places agrees with them
    pub fits : TextFits new files_now
    -- it reads the same text
    pub same : SameText old new
    -- nothing is read but Text and Places, and no file changes
    pub looked : LookedAt part.Text part.Places files_before files_now reads_before reads_now faults_before faults_now
    -- the pieces of the document were tallied, and its pairs are told
    pub counted : WhereTextStands old files_before (λ collection. CountsIfFound old.code result number collection counts counts_now)
    -- a refusal has its cause
    pub cause : HasCause faults_before faults_now result
