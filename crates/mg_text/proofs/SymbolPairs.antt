-- The symbols of a pair of which the reader holds the bits: what stands there is shown, or listed, or counted.
use Rattle.std.proofs.Common.{arith, ◌≡◌, ◌<◌, ◌+◌, ◌++◌, ℕ, List, length, length-append, Some, Ok, refl, sym, ◌∙◌, ap}
use Rattle.std.specs.Prelude.{slice_get}
use Rattle.mg_dev.specs.Files.{Files}
use Rattle.std.specs.declared.option.Option.{Option}
use Rattle.mg_defs.specs.declared.Stream.TheVariants.{Words, Others}
use Rattle.mg_defs.specs.Answers.{Below}
use Rattle.mg_defs.specs.Bits.{Shows}
use Rattle.mg_defs.specs.Canon.{codeword}
use Rattle.mg_defs.specs.CodedText.{StreamCode, TextCode, codeword_of}
use Rattle.mg_defs.specs.Means.{IsStreamCode}
use Rattle.mg_defs.specs.Sorted.{number_of}
use Rattle.mg_defs.proofs.CanonLaws.{codewords_free}
use Rattle.mg_defs.proofs.FrontLaws.{shows_left, shows_right}
use Rattle.mg_bits.specs.Feed.{Feeding, Device as Seen}
use Rattle.mg_bits.specs.Reading.{Reading}
use Rattle.mg_bits.proofs.CallerLemmas.{told_got}
use Rattle.mg_canon.specs.Pairs.{HeldSymbol, HeldSymbols, ahead}
use Rattle.mg_text.specs.Decoding.{Gathering, IsIn, Keeps, PieceStood, ReadsHeld, StoodHeld}
use Rattle.mg_text.specs.HeldPairs.{CameHeld, ShowsHeld}
use Rattle.mg_text.specs.Listing.{Adds, ListedHeld, Listing, ListsHeld, symbol_if}
use Rattle.mg_text.specs.PieceCounts.{CountsPair, PieceTally, count_moment, with_piece, with_symbol}
use Rattle.mg_text.proofs.ListLaws.{held_listed}
use Rattle.mg_text.proofs.ListedLaws.{held_came as listed_came}
use Rattle.mg_text.proofs.PairLaws.{held_decoded, piece_number}
use Rattle.mg_text.proofs.ToldLaws.{from_code, held_came, piece_stood, symbol_is}

module _ {Fed : Type 0} {agrees : Fed → Option Files → Type 0} {feeding : Fed → Feeding} where
  -- ---- one of them

  -- the symbol is the number of the piece whose codeword stands there, and the reader goes behind it
  symbol_read : (code : StreamCode) → IsStreamCode code → {r r_now : Reading Fed} {symbol : ℕ} → HeldSymbol agrees feeding code.lengths r r_now symbol →
      (piece : List ℕ) → IsIn code piece → (d : Seen) → agrees r.feed d.files → Shows ((feeding r.feed).source d.files) r.place (codeword_of code piece) →
      (symbol ≡ number_of code.pieces piece) × (r_now.place ≡ r.place + length (codeword_of code piece))
  symbol_read code keeps {r} {r_now} {symbol} one piece is d fits shows =
      let number = number_of code.pieces piece in
      let below : number < length code.lengths = omega (arith, piece_number code piece is, keeps.each) in
      let got : symbol ≡ number = told_got (Below (length code.lengths)) (codeword code.lengths) (codewords_free code.lengths keeps.good) _ (Ok symbol) 1 r.place number
      below shows (one.told d.files fits) in
      (got, one.place ∙ ap (λ x. r.place + length (codeword code.lengths x)) got)

  module _ (code : StreamCode) (keeps : IsStreamCode code) {r r_now : Reading Fed} {symbol : ℕ} (one : HeldSymbol agrees feeding code.lengths r r_now symbol)
      {held : List ℕ} (at : slice_get code.pieces symbol ≡ Some held) where
    -- the piece whose codeword stands there is that of the symbol
    piece_read : (piece : List ℕ) → IsIn code piece → ReadsHeld feeding (agrees r.feed) r r_now (codeword_of code piece) piece held
    piece_read piece is = λ d fits small shows.
        let number = number_of code.pieces piece in
        let below : number < length code.lengths = omega (arith, piece_number code piece is, keeps.each) in
        let got : symbol ≡ number = told_got (Below (length code.lengths)) (codeword code.lengths) (codewords_free code.lengths keeps.good) _ (Ok symbol) 1 r.place number
        below shows (one.told d.files fits) in
        let there : slice_get code.pieces number ≡ Some held = ap (slice_get code.pieces) (sym got) ∙ at in
        let same : held ≡ piece = cc (there, is) in
        (same, one.place ∙ ap (λ x. r.place + length (codeword code.lengths x)) got, rw got at (one.read d))

    -- its codeword stood there
    piece_there : PieceStood code (λ bits piece. (piece ≡ held) × StoodHeld feeding (agrees r.feed) r r_now bits)
    piece_there = piece_stood code symbol held keeps at
        (refl, λ d fits. record { bits_are = from_code _ r.place _ (codeword code.lengths symbol) (one.told d.files fits); behind = one.place })

  -- ---- both

  -- their pieces are counted
  pub symbols_counted : (code : TextCode) → IsStreamCode code.words → IsStreamCode code.others → {r r_now : Reading Fed} {found : ℕ × ℕ} →
      HeldSymbols agrees feeding code.words.lengths code.others.lengths r r_now found → (d : Seen) → agrees r.feed d.files → (t mid_t t_now : PieceTally) →
      mid_t ≡ with_symbol Words found.0 t → t_now ≡ with_symbol Others found.1 mid_t →
      CountsPair code (count_moment feeding (λ (seen : Seen). seen) r d t) (count_moment feeding (λ (seen : Seen). seen) r_now d t_now)
  symbols_counted code in_words in_others {r} {r_now} {found} both d fits t mid_t t_now first second = λ p is small shows.
      let x = codeword_of code.words p.word in
      let y = codeword_of code.others p.other in
      let one = symbol_read code.words in_words both.one p.word is.word d fits (shows_left _ r.place x y shows) in
      let next = shows_right _ r.place (r.place + length (codeword code.words.lengths found.0)) x y one.1 shows in
      let two = symbol_read code.others in_others both.two p.other is.other d fits next in (
        omega (arith, one.1, two.1, length-append x y),
        second ∙ ap (with_symbol Others found.1) first ∙ ap (λ x. with_symbol Others found.1 (with_symbol Words x t)) one.0
            ∙ ap (λ x. with_symbol Others x (with_piece code Words p.word t)) two.0,
      )

  module _ (code : TextCode) (in_words : IsStreamCode code.words) (in_others : IsStreamCode code.others) {r r_now : Reading Fed} {found : ℕ × ℕ}
      (both : HeldSymbols agrees feeding code.words.lengths code.others.lengths r r_now found) {word other : List ℕ}
      (word_at : slice_get code.words.pieces found.0 ≡ Some word) (other_at : slice_get code.others.pieces found.1 ≡ Some other) where
    abbrev mid : Reading Fed
    mid = ahead r (length (codeword code.words.lengths found.0))

    -- their pieces are shown
    pub symbols_shown : {b b_now : Gathering} → 0 < (feeding r.feed).page → Keeps b b_now (word ++ other) → ShowsHeld feeding (agrees r.feed) r r_now b b_now code
    symbols_shown {b} {b_now} some kept = λ d sink fits. λ p is before bytes most small shows shown fits_too.
        let x = codeword_of code.words p.word in
        let y = codeword_of code.others p.other in
        let one = piece_read code.words in_words both.one word_at p.word is.word d fits (omega (arith, small, length-append x y)) (shows_left _ r.place x y shows) in
        let next = shows_right _ r.place mid.place x y one.1 shows in
        let two = piece_read code.others in_others both.two other_at p.other is.other d fits (omega (arith, small, length-append x y, one.1)) next in
        held_decoded _ _ _ d r.place mid.place r_now.place x y before sink.written b b_now bytes word other p.word p.other some one.1 one.2 two.1 two.2 one.0 two.0 kept shown

    -- their codewords stood there
    pub symbols_came : {b b_now : Gathering} → Keeps b b_now (word ++ other) → CameHeld feeding (agrees r.feed) r r_now b b_now code
    symbols_came kept = λ d sink fits.
        let one = piece_there code.words in_words both.one word_at in
        let two = piece_there code.others in_others both.two other_at in
        held_came code _ d sink word other one.piece two.piece refl one.there two.there one.came.0 two.came.0 (one.came.1 d fits) (two.came.1 d fits) kept

    -- the word's symbol is listed
    pub symbols_listed : {list list_now : Listing} {size size_other : ℕ} → 0 < (feeding r.feed).page → length word ≡ size → length other ≡ size_other →
        Adds (symbol_if found.0 size) (size + size_other) list list_now → ListsHeld feeding (agrees r.feed) r r_now list list_now code
    symbols_listed {list} {list_now} {size} {size_other} some long long_other adds = λ d fits. λ p is few small shows.
        let x = codeword_of code.words p.word in
        let y = codeword_of code.others p.other in
        let one = piece_read code.words in_words both.one word_at p.word is.word d fits (omega (arith, small, length-append x y)) (shows_left _ r.place x y shows) in
        let next = shows_right _ r.place mid.place x y one.1 shows in
        let two = piece_read code.others in_others both.two other_at p.other is.other d fits (omega (arith, small, length-append x y, one.1)) next in
        let number : found.0 ≡ number_of code.words.pieces p.word =
        sym (symbol_is code.words found.0 word in_words word_at) ∙ ap (number_of code.words.pieces) one.0 in
        held_listed _ _ _ d r.place mid.place r_now.place x y list list_now found.0 (number_of code.words.pieces p.word) size size_other (length p.word) (length p.other)
        some one.1 one.2 two.1 two.2 number (sym long ∙ ap length one.0) (sym long_other ∙ ap length two.0) adds

    -- and its codeword stood there
    pub symbols_stood : {list list_now : Listing} {size size_other : ℕ} → length word ≡ size → length other ≡ size_other →
        Adds (symbol_if found.0 size) (size + size_other) list list_now → ListedHeld feeding (agrees r.feed) r r_now list list_now code
    symbols_stood {size = size} {size_other = size_other} long long_other adds = λ d fits.
        let one = piece_there code.words in_words both.one word_at in
        let two = piece_there code.others in_others both.two other_at in
        listed_came code _ d found.0 size size_other one.piece two.piece refl one.there two.there
        (ap (number_of code.words.pieces) one.came.0 ∙ symbol_is code.words found.0 word in_words word_at) (ap length one.came.0 ∙ long) (ap length two.came.0 ∙ long_other)
        (one.came.1 d fits) (two.came.1 d fits) adds
