-- What reading the words of a document does: their symbols are listed, and the bytes of its pieces are counted.
use Rattle.std.specs.Prelude.{◌≡◌, ℕ, ◌+◌, ◌^◌, ◌≤◌, ◌<◌, ◌++◌, zero, suc, not, List, [], ◌∷◌, length, map, filter, take, get_or, Ok, Err, IfErr, OnOk, OnErr}
use Rattle.std.specs.List.{AllByRecursion, flat_map}
use Rattle.std.specs.Option.{IsSome}
use Rattle.std.specs.declared.option.Option.{Option}
use Rattle.std.specs.declared.result.Result.{Result}
use Rattle.mg_dev.specs.Bads.{IsNotBad}
use Rattle.mg_dev.specs.Files.{Files, Reads}
use Rattle.mg_dev.specs.PartCauses.{HasPartCause, IsCaused}
use Rattle.mg_dev.specs.declared.part.Part.TheVariants as part
use Rattle.mg_dev.specs.declared.part_err.PartErr.{PartErr}
use Rattle.mg_dev.specs.declared.part_err.PartErr.TheVariants.{Device, Memory, Bad}
use Rattle.mg_bits.specs.Feed.{Calm, Feeding, Device as Seen, Read, ReadsWithin}
use Rattle.mg_bits.specs.Pages.{LookedAt}
use Rattle.mg_bits.specs.Reading.{Reading}
use Rattle.mg_defs.specs.Bits.{Bits, Shows}
use Rattle.mg_defs.specs.CodedText.{TextCode, codeword_of, coded_doc, coded_pair}
use Rattle.mg_defs.specs.Parse.{Pair, parse, text}
use Rattle.mg_defs.specs.Sorted.{number_of}
use Rattle.mg_defs.specs.Terms.{document, is_empty}
use Rattle.mg_text.specs.Decoding.{DocumentStood, IsIn, PairIn, PairStood, PairsIn, PairsStood, PieceStood, Stood, coded_pairs}
use Rattle.mg_text.specs.Held.{WhereShort}
use Rattle.mg_text.specs.Reading.{PagesOfDocument, SameText, TellsPairs, TextFits, TextReading}

-- ---- a list

-- symbols, and how many bytes the document's other pieces may have
pub record Listing : Type 0 where
  pub symbols : List ℕ
  pub left : ℕ

-- symbols are added, and so many bytes are counted
pub record Adds (symbols : List ℕ) (size : ℕ) (old new : Listing) : Type 0 where
  pub symbols_are : new.symbols ≡ old.symbols ++ symbols
  pub left : size + new.left ≡ old.left

-- why adding is refused
abbrev pub IsAddRefused : Result (Unit {0}) PartErr → Type 0 → Type 0
IsAddRefused (Ok done) over = Unit {0}
IsAddRefused (Err Device) over = ⊥
IsAddRefused (Err Memory) over = Unit {0}
IsAddRefused (Err (Bad bad)) over = over

-- what adding symbols with so many bytes promises
pub record AddsTo (symbols : List ℕ) (size : ℕ) (result : Result (Unit {0}) PartErr) (old new : Listing) : Type 0 where
  -- they are added
  pub done : OnOk result (Adds symbols size old new)
  -- after a refusal the symbols are as before
  pub kept : OnErr result (new.symbols ≡ old.symbols)
  -- only more bytes than there may be are bad
  pub refused : IsAddRefused result (old.left < size)

-- each symbol is that of a word
abbrev pub AreOfWords : TextCode → List ℕ → Type 0
AreOfWords code symbols = AllByRecursion (λ (s : ℕ). s < length code.words.pieces) symbols

-- what is listed of a word of so many bytes: its symbol, and nothing of an empty one
abbrev pub symbol_if : ℕ → ℕ → List ℕ
symbol_if symbol zero = []
symbol_if symbol (suc size) = symbol ∷ []

abbrev pub word_symbol : TextCode → List ℕ → List ℕ
word_symbol code word = symbol_if (number_of code.words.pieces word) (length word)

-- the symbols of the words of pairs
abbrev pub word_symbols : TextCode → List Pair → List ℕ
word_symbols code ps = flat_map (λ (p : Pair). word_symbol code p.word) ps

-- the words of symbols are those of a document that aren't empty, in order
abbrev pub AreWordsOf : TextCode → List ℕ → List ℕ → Type 0
AreWordsOf code symbols doc = map (λ (s : ℕ). get_or code.words.pieces s []) symbols
    ≡ filter (λ (w : List ℕ). not (is_empty w)) (map (λ (p : Pair). p.word) (parse doc))

-- ---- the moment before a step and the one after it

-- what reading words changes, at one moment: the feed and the place of the reader of bits, its device, and the list
pub record ListMoment : Type 0 where
  pub feed : Feeding
  pub place : ℕ
  pub device : Seen
  pub list : Listing

abbrev pub ListStep : Type 1
ListStep = (old new : ListMoment) → Type 0

-- a moment, by the functions that tell of a feed and of a device
abbrev pub list_moment : {Fed Dev : Type 0} → (Fed → Feeding) → (Dev → Seen) → Reading Fed → Dev → Listing → ListMoment
list_moment feeding device r d list = record {
  feed = feeding r.feed;
  place = r.place;
  device = device d;
  list = list;
}

-- bits were read, the reader stands behind them, and symbols were added with so many bytes
pub record Listed (bits : Bits) (symbols : List ℕ) (size : ℕ) (old new : ListMoment) : Type 0 where
  pub at_end : new.place ≡ old.place + length bits
  pub read : Read old.feed new.feed old.device new.device old.place (old.place + length bits)
  pub adds : Adds symbols size old.list new.list

-- only pages of these bits were read
abbrev pub ReadsOf : Bits → ListStep
ReadsOf bits old new = ReadsWithin old.feed new.feed old.device new.device old.place (old.place + length bits)

-- what stands there is read, or the device failed or memory was wanted within it
abbrev pub ListEnds : Result (Unit {0}) PartErr → Type 0 → Type 0 → Type 0
ListEnds (Ok done) whole part = whole
ListEnds (Err Device) whole part = part
ListEnds (Err Memory) whole part = part
ListEnds (Err (Bad bad)) whole part = ⊥

-- where bits stand at the place that code symbols, with no more bytes than there may be
abbrev pub Lists : Bits → List ℕ → ℕ → Result (Unit {0}) PartErr → ListStep
Lists bits symbols size result old new = size ≤ old.list.left → old.place + length bits ≤ 2 ^ 63 →
    Shows (old.feed.source old.device.files) old.place bits →
    ListEnds result (Listed bits symbols size old new) (ReadsOf bits old new)

-- the word whose codeword stands at the place
abbrev pub ListsWord : TextCode → Result (Unit {0}) PartErr → ListStep
ListsWord code result old new = (piece : List ℕ) → IsIn code.words piece →
    Lists (codeword_of code.words piece) (word_symbol code piece) (length piece) result old new

-- the other, of which no symbol is listed
abbrev pub PassesOther : TextCode → Result (Unit {0}) PartErr → ListStep
PassesOther code result old new = (piece : List ℕ) → IsIn code.others piece →
    Lists (codeword_of code.others piece) [] (length piece) result old new

-- the pair whose codewords stand there
abbrev pub ListsPair : TextCode → Result (Unit {0}) PartErr → ListStep
ListsPair code result old new = (p : Pair) → PairIn code p →
    Lists (coded_pair code p) (word_symbol code p.word) (length p.word + length p.other) result old new

-- the pairs, so many, whose codewords stand there
abbrev pub ListsPairs : TextCode → ℕ → Result (Unit {0}) PartErr → ListStep
ListsPairs code count result old new = (ps : List Pair) → PairsIn code ps → count ≡ length ps →
    Lists (coded_pairs code ps) (word_symbols code ps) (length (text ps)) result old new

-- the first pairs, so many, of those whose codewords stand there
abbrev pub ListsFirst : TextCode → ℕ → ℕ → ListStep
ListsFirst code count read old new = (ps : List Pair) → PairsIn code ps → count ≡ length ps →
    length (text ps) ≤ old.list.left → old.place + length (coded_pairs code ps) ≤ 2 ^ 63 →
    Shows (old.feed.source old.device.files) old.place (coded_pairs code ps) →
    Listed (coded_pairs code (take read ps)) (word_symbols code (take read ps)) (length (text (take read ps))) old new

-- the document whose bits stand there
abbrev pub ListsDoc : TextCode → Result (Unit {0}) PartErr → ListStep
ListsDoc code result old new = (doc : List ℕ) → PairsIn code (parse doc) → length (parse doc) < 2 ^ 32 →
    Lists (coded_doc code doc) (word_symbols code (parse doc)) (length doc) result old new

-- ---- what stood for the symbols, whatever the parts hold

-- these bits stood at the place, and symbols were added with so many bytes
pub record ListCame (bits : Bits) (symbols : List ℕ) (size : ℕ) (old new : ListMoment) : Type 0 where
  pub stood : Stood bits old.feed old.device old.place new.place
  pub adds : Adds symbols size old.list new.list

abbrev pub WordCame : TextCode → ListStep
WordCame code old new = PieceStood code.words (λ bits piece. ListCame bits (word_symbol code piece) (length piece) old new)

abbrev pub OtherPassed : TextCode → ListStep
OtherPassed code old new = PieceStood code.others (λ bits piece. ListCame bits [] (length piece) old new)

abbrev pub PairListed : TextCode → ListStep
PairListed code old new = PairStood code (λ bits p. ListCame bits (word_symbol code p.word)
    (length p.word + length p.other) old new)

abbrev pub PairsListed : TextCode → ℕ → ListStep
PairsListed code count old new = PairsStood code count (λ bits ps. ListCame bits (word_symbols code ps)
    (length (text ps)) old new)

abbrev pub DocumentListed : TextCode → ListStep
DocumentListed code old new = DocumentStood code (λ bits ps. ListCame bits (word_symbols code ps)
    (length (text ps)) old new)

-- ---- what calls promise

-- what every step of reading words promises, beside what it lists
pub record ListSteps (agrees : Type 0) (code : TextCode) (tells comes : ListStep) (result : Result (Unit {0}) PartErr)
    (old new : ListMoment) : Type 0 where
  -- what the reader of bits keeps agrees with the files
  pub fits : agrees
  -- the reader of bits and its device changed as reading changes them
  pub calm : Calm old.feed new.feed old.device new.device
  -- what stands at the place is listed
  pub told : tells old new
  -- what is listed stood there
  pub stood : OnOk result (comes old new)
  -- only symbols of words are added
  pub of_words : AreOfWords code old.list.symbols → AreOfWords code new.list.symbols
  -- a refusal has its cause
  pub cause : IsCaused old.device.faults new.device.faults result

-- a step of reading words, by the functions that tell of a feed and of a device
abbrev pub ListsBy : {Fed Dev : Type 0} → TextCode → (Result (Unit {0}) PartErr → ListStep) → ListStep →
    Result (Unit {0}) PartErr → (Fed → Feeding) → (Fed → Option Files → Type 0) → (Dev → Seen) → Reading Fed → Reading Fed → Dev → Dev →
    Listing → Listing → Type 0
ListsBy code tells comes result feeding fits device r r_now d d_now list list_now =
    ListSteps (fits r_now.feed (device d_now).files) code (tells result) comes result (list_moment feeding device r d list)
    (list_moment feeding device r_now d_now list_now)

-- ---- pairs of which the reader holds the bits

-- the pair whose codewords stand there is listed: whatever device the reader agrees with, none is asked
abbrev pub ListsHeld : {Fed : Type 0} → (Fed → Feeding) → (Option Files → Type 0) → Reading Fed → Reading Fed →
    Listing → Listing → TextCode → Type 0
ListsHeld feeding fits r r_now list list_now code = (d : Seen) → fits d.files →
    ListsPair code (Ok tt) (list_moment feeding (λ (seen : Seen). seen) r d list)
    (list_moment feeding (λ (seen : Seen). seen) r_now d list_now)

-- and those codewords stood there
abbrev pub ListedHeld : {Fed : Type 0} → (Fed → Feeding) → (Option Files → Type 0) → Reading Fed → Reading Fed →
    Listing → Listing → TextCode → Type 0
ListedHeld feeding fits r r_now list list_now code = (d : Seen) → fits d.files →
    PairListed code (list_moment feeding (λ (seen : Seen). seen) r d list)
    (list_moment feeding (λ (seen : Seen). seen) r_now d list_now)

-- a pair is listed, and no device is asked
pub record ListsNext {Fed : Type 0} (feeding : Fed → Feeding) (fits : Fed → Option Files → Type 0) (r r_now : Reading Fed)
    (list list_now : Listing) (code : TextCode) : Type 0 where
  -- the pair is listed
  pub told : ListsHeld feeding (fits r.feed) r r_now list list_now code
  -- it stood there
  pub stood : ListedHeld feeding (fits r.feed) r r_now list list_now code
  -- only a symbol of a word is added
  pub of_words : AreOfWords code list.symbols → AreOfWords code list_now.symbols

-- ---- a document

-- Text tells of the pairs of a document, which join to so many bytes at most, and the symbols are those of their words.
pub record WordsStood (r : TextReading) (files : Option Files) (number most : ℕ) (symbols : List ℕ) : Type 0 where
  pub pairs : List Pair
  pub told : TellsPairs r files number pairs
  pub short : length (text pairs) ≤ most
  pub symbols_are : symbols ≡ word_symbols r.code pairs

-- what listing the words of a document promises: whatever the parts hold, and where they stand for a collection whose
-- document of this number has at most so many bytes
pub record ReadsWords (number most : ℕ) (result : Result (Unit {0}) PartErr) (old new : TextReading) (list : Listing)
    (files_before files_now : Option Files) (reads_before reads_now : Reads) (faults_before faults_now : ℕ) : Type 0
  where
    -- what the reader keeps of Text and Places agrees with them
    pub fits : TextFits new files_now
    -- it reads the same text
    pub same : SameText old new
    -- nothing is read but Text and Places, and no file changes
    pub looked : LookedAt part.Text part.Places files_before files_now reads_before reads_now faults_before faults_now
    -- the symbols are those of the document's words
    pub content : WhereShort old files_before number most (λ collection.
        OnOk result (AreWordsOf old.code list.symbols (document collection number)))
    -- whatever the parts hold, they are those of pairs whose codewords stood there, of so many bytes at most
    pub stood : IsSome files_before → OnOk result (WordsStood old files_before number most list.symbols)
    -- whatever the text holds, each symbol is that of a word
    pub of_words : OnOk result (AreOfWords old.code list.symbols)
    -- no part is bad
    pub never_bad : WhereShort old files_before number most (λ _. IfErr result IsNotBad)
    -- no more pages of Text are read than the document's bits lie on
    pub pages : WhereShort old files_before number most (PagesOfDocument old number reads_before reads_now)
    -- at most one page of Places is read
    pub places : reads_now part.Places ≤ reads_before part.Places + 1
    -- a refusal has its cause
    pub cause : HasPartCause faults_before faults_now result
