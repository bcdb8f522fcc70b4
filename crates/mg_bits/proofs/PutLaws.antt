-- What each way out of a writer's calls promises.
use Rattle.std.proofs.Common.{arith, ◌≡◌, ◌+◌, ◌*◌, ◌/◌, ◌%◌, ◌≤◌, ◌<◌, ◌-◌, ◌^◌, ℕ, List, [], ◌∷◌, ◌++◌, length, refl, sym, ◌∙◌, ap, subst}
use Rattle.std.proofs.Common.{inl, Option, Result, Ok, Err, OnOk, IsSome, unwrap_or, append_assoc, append-nil}
use Rattle.mg_dev.specs.Causes.{HasPutCause}
use Rattle.mg_dev.specs.Files.{AfterAppend, Files, GrewInPart, Reads, SameReads, bytes_at, grown, written}
use Rattle.mg_dev.specs.Laws.{file_at-written, append-others, append-told}
use Rattle.mg_dev.specs.declared.device.PutErr.{PutErr}
use Rattle.mg_defs.specs.Bits.{Bits, bits_of, digits, to_byte}
use Rattle.mg_defs.proofs.BitLaws.{length_digits}
use Rattle.mg_bits.specs.Writer.{Appends, AreBytes, KeepsBytes, PutsBytes, SendsBytes, WroteTo, Writing, Wrote, put_to}
use Rattle.mg_bits.specs.BitWriting.{BitWriting, EndsFile, FillsByte, Holds, PutsBits, WritesBits, WroteBits, bits_put}
use Rattle.mg_bits.proofs.BitsWritten.{bits_more, bits_none, flushed, holds_kept, to_more, to_none, wrote_kept, wrote_sent}
use Rattle.mg_bits.proofs.ByteLaws.{append_keeps, keeps_more, same_keeps}
use Rattle.mg_bits.proofs.Growing.{bits_front, bits_through, by_byte, by_bytes, by_none, grew_all, grew_part, grew_then, held_few}

-- ---- bytes

-- a store appended a piece of bytes
pub appended : {name piece : List ℕ} {r : Result (Unit {0}) PutErr} {f g : Option Files} {s t : Reads} {m n : ℕ} → AreBytes piece →
    AfterAppend f g name piece r → SameReads s t → HasPutCause m n r → Appends name piece r f g s t m n
appended {name} {piece} {r} {f} {g} small after same cause = record {
  content = after;
  still = append_keeps name piece f g r small after;
  wrote = record { told = append-told f g name piece r after; others = λ n apart. append-others f g name n piece r after apart; reads = same };
  cause = cause;
}

-- an empty file, and nothing held
pub nothing_put : (name : List ℕ) (f g : Option Files) → g ≡ written f name [] → IsSome f → bytes_at g name ++ [] ≡ []
nothing_put name f g out told =
    append-nil (bytes_at g name) ∙ ap (λ files. bytes_at files name) out ∙ ap (λ o. unwrap_or o []) (file_at-written f name [] told)

-- what the file holds once a piece was added
now_there : (name piece : List ℕ) (f g : Option Files) → g ≡ grown f name piece → IsSome f → bytes_at g name ≡ bytes_at f name ++ piece
now_there name piece f g out told = ap (λ files. bytes_at files name) out ∙ ap (λ o. unwrap_or o []) (file_at-written f name (bytes_at f name ++ piece) told)

-- what was held and a piece behind it went out
all_wrote : {w v : Writing} {f g : Option Files} {piece sent : List ℕ} → v.name ≡ w.name → sent ≡ w.buffered ++ piece → v.buffered ≡ [] → g ≡ grown f w.name sent →
    Wrote w v f g piece
all_wrote {w} {v} {f} {g} {piece} {sent} name is none out = record {
  name = name;
  bytes = λ told.
      ap (λ b. bytes_at g v.name ++ b) none ∙ append-nil (bytes_at g v.name) ∙ ap (bytes_at g) name ∙ now_there w.name sent f g out told
      ∙ ap (λ b. bytes_at f w.name ++ b) is ∙ sym (append_assoc (bytes_at f w.name) w.buffered piece);
}

module _ {w v : Writing} {f g : Option Files} {r s : Reads} {m n : ℕ} (name : v.name ≡ w.name) where
  -- a page goes out: what was held, and a piece behind it
  pub bytes_paged : {piece sent : List ℕ} {u : Unit {0}} → sent ≡ w.buffered ++ piece → v.buffered ≡ [] → Appends w.name sent (Ok u) f g r s m n → PutsBytes w v piece (Ok u) f g r s m n
  bytes_paged is none one = record {
    bytes = all_wrote name is none one.content;
    grew = grew_all _ _ _ _ _ one.content is;
    page = omega (arith, ap length none);
    name = name;
    still = one.still;
    wrote = one.wrote;
    cause = one.cause;
  }

  -- or the first of them
  pub bytes_refused : {piece sent : List ℕ} {e : PutErr} → sent ≡ w.buffered ++ piece → length v.buffered < 4096 → Appends w.name sent (Err e) f g r s m n →
      PutsBytes w v piece (Err e) f g r s m n
  bytes_refused is few one = record {
    bytes = tt;
    grew = grew_part _ _ _ _ _ one.content is;
    page = few;
    name = name;
    still = one.still;
    wrote = one.wrote;
    cause = one.cause;
  }

  -- what was held went out
  pub held_sent : {sent : List ℕ} {u : Unit {0}} → sent ≡ w.buffered → v.buffered ≡ [] → Appends w.name sent (Ok u) f g r s m n → SendsBytes w v (Ok u) f g r s m n
  held_sent {sent} is none one =
      let out : g ≡ grown f w.name w.buffered = one.content ∙ ap (λ b. grown f w.name b) is in
      record {
        bytes = all_wrote name (is ∙ sym (append-nil w.buffered)) none one.content;
        sent = out;
        grew = grew_all _ _ _ _ _ out refl;
        page = omega (arith, ap length none);
        nothing = none;
        name = name;
        still = one.still;
        wrote = one.wrote;
        cause = one.cause;
      }

  -- or the first of it
  pub held_refused : {sent : List ℕ} {e : PutErr} → sent ≡ w.buffered → length v.buffered < 4096 → Appends w.name sent (Err e) f g r s m n → SendsBytes w v (Err e) f g r s m n
  held_refused is few one = record {
    bytes = tt;
    sent = tt;
    grew = grew_part _ _ _ _ _ one.content is;
    page = few;
    nothing = tt;
    name = name;
    still = one.still;
    wrote = one.wrote;
    cause = one.cause;
  }

-- a piece for which the page has room is held
pub bytes_held : {w v : Writing} {piece : List ℕ} {f : Option Files} {r : Reads} {n : ℕ} {u : Unit {0}} → v.buffered ≡ w.buffered ++ piece → v.name ≡ w.name →
    length v.buffered < 4096 → PutsBytes w v piece (Ok u) f f r r n n
bytes_held {w} {v} {piece} {f} held name few = record {
  bytes = record {
    name = name;
    bytes = λ told. ap (λ b. bytes_at f v.name ++ b) held ∙ ap (λ n. bytes_at f n ++ (w.buffered ++ piece)) name ∙ sym (append_assoc (bytes_at f w.name) w.buffered piece);
  };
  grew = inl refl;
  page = few;
  name = name;
  still = same_keeps _ _ _ refl;
  wrote = to_none _ _ _;
  cause = record { later = omega arith; failed = λ is. absurd cc };
}

-- a piece that no page holds goes out by itself
pub bytes_alone : {w : Writing} {name piece : List ℕ} {result : Result (Unit {0}) PutErr} {f g : Option Files} {r s : Reads} {m n : ℕ} → name ≡ w.name → w.buffered ≡ [] →
    Appends name piece result f g r s m n → PutsBytes w w piece result f g r s m n
bytes_alone {w} {name} {piece} {result} {f} {g} {r} {s} {m} {n} same none one = by_case result (subst (λ own. Appends own piece result f g r s m n) same one)
  where
    is : piece ≡ w.buffered ++ piece
    is = ap (λ b. b ++ piece) (sym none)

    by_case : (q : Result (Unit {0}) PutErr) → Appends w.name piece q f g r s m n → PutsBytes w w piece q f g r s m n
    by_case (Ok u) one = bytes_paged refl is none one
    by_case (Err e) one = bytes_refused refl is (omega (arith, ap length none)) one

-- a piece behind what was held, which went out before
pub bytes_then : {w mid v : Writing} {piece : List ℕ} {result : Result (Unit {0}) PutErr} {f g h : Option Files} {r s t : Reads} {x y z : ℕ} {u : Unit {0}} →
    SendsBytes w mid (Ok u) f g r s x y → PutsBytes mid v piece result g h s t y z → PutsBytes w v piece result f h r t x z
bytes_then {w} {mid} {v} {piece} {result} {f} {g} {h} {r} {s} {t} one two = record {
  bytes = by_case result two.bytes;
  grew = grew_then f g h w.name w.buffered piece one.sent
      (subst (λ n. GrewInPart g h n piece) one.name (subst (λ b. GrewInPart g h mid.name (b ++ piece)) one.nothing two.grew));
  page = two.page;
  name = two.name ∙ one.name;
  still = keeps_more w.name f g h (λ told. one.wrote.told ∙ told) one.still (subst (λ n. KeepsBytes n g h) one.name two.still);
  wrote = to_more w.name f g h r s t one.wrote (subst (λ n. WroteTo n g h s t) one.name two.wrote);
  cause = record { later = omega (arith, one.cause.later, two.cause.later); failed = λ is. omega (arith, one.cause.later, two.cause.failed is) };
}
  where
    by_case : (q : Result (Unit {0}) PutErr) → OnOk q (Wrote mid v g h piece) → OnOk q (Wrote w v f h piece)
    by_case (Ok u) wrote = record {
      name = wrote.name ∙ one.name;
      bytes = λ told. wrote.bytes (one.wrote.told ∙ told) ∙ ap (λ b. b ++ piece) (one.bytes.bytes told ∙ append-nil (put_to w f));
    }
    by_case (Err e) refused = tt

-- ---- bits

-- no bits
pub puts_none : {w : BitWriting} {f : Option Files} {r : Reads} {n : ℕ} → length w.buffered < 32768 → PutsBits w w [] (Ok tt) f f r r n n
puts_none {w} {f} held = record {
  bits = bits_none f w;
  grew = λ told. by_none _ _;
  held = held;
  name = refl;
  still = same_keeps _ _ _ refl;
  wrote = to_none _ _ _;
  cause = record { later = omega arith; failed = λ is. absurd cc };
}

-- bits behind bits that were written
pub puts_more : {a b c : BitWriting} {one two : Bits} {result : Result (Unit {0}) PutErr} {f g h : Option Files} {r s t : Reads} {l m n : ℕ} {u : Unit {0}} →
    PutsBits a b one (Ok u) f g r s l m → PutsBits b c two result g h s t m n → PutsBits a c (one ++ two) result f h r t l n
puts_more {a} {b} {c} {one} {two} {result} {f} {g} {h} {r} {s} {t} first second = record {
  bits = by_case result second.bits;
  grew = bits_through a b f g h one two first.wrote.told first.grew first.bits second.grew;
  held = second.held;
  name = second.name ∙ first.name;
  still = keeps_more a.name f g h (λ told. first.wrote.told ∙ told) first.still (subst (λ n. KeepsBytes n g h) first.name second.still);
  wrote = to_more a.name f g h r s t first.wrote (subst (λ n. WroteTo n g h s t) first.name second.wrote);
  cause = record { later = omega (arith, first.cause.later, second.cause.later); failed = λ is. omega (arith, first.cause.later, second.cause.failed is) };
}
  where
    by_case : (q : Result (Unit {0}) PutErr) → OnOk q (WroteBits b c g h two) → OnOk q (WroteBits a c f h (one ++ two))
    by_case (Ok u) wrote = bits_more f g h a b c one two first.wrote.told first.bits wrote
    by_case (Err e) refused = tt

-- zero-bits to the next byte, and then what is held goes out
pub puts_last : {a b c : BitWriting} {size bits : ℕ} {result : Result (Unit {0}) PutErr} {f g h : Option Files} {r s t : Reads} {l m n : ℕ} {u : Unit {0}} → size ≡ bits →
    PutsBits a b (digits size 0) (Ok u) f g r s l m → PutsBits b c [] result g h s t m n → PutsBits a c (digits bits 0) result f h r t l n
puts_last {a} {b} {c} {size} {bits} {result} {f} {g} {h} {r} {s} {t} {l} {m} {n} is first second =
    subst (λ p. PutsBits a c p result f h r t l n) (append-nil (digits size 0) ∙ ap (λ k. digits k 0) is) (puts_more first second)

-- no bits of a number are left
pub puts_all : {a b : BitWriting} {result : Result (Unit {0}) PutErr} {f g : Option Files} {r s : Reads} {m n : ℕ} (count left value : ℕ) → left ≡ 0 →
    PutsBits a b (digits (count - left) (value / 2 ^ left)) result f g r s m n → PutsBits a b (digits count value) result f g r s m n
puts_all {a} {b} {result} {f} {g} {r} {s} {m} {n} count left value none put =
    let whole : count - left ≡ count = omega (arith, none) in
    let same : value / 2 ^ left ≡ value = ap (λ k. value / 2 ^ k) none ∙ (let one : value / 2 ^ 0 ≡ value = omega arith in one) in
    subst (λ p. PutsBits a b p result f g r s m n) (ap (λ k. digits k (value / 2 ^ left)) whole ∙ ap (digits count) same) put

-- the first bits of a number, the last of which are refused
pub puts_front : {a b : BitWriting} {e : PutErr} {f g : Option Files} {r s : Reads} {m n : ℕ} (count left value : ℕ) → left ≤ count →
    PutsBits a b (digits (count - left) (value / 2 ^ left)) (Err e) f g r s m n → PutsBits a b (digits count value) (Err e) f g r s m n
puts_front {a} {f = f} {g} count left value within put = record {
  bits = tt;
  grew = bits_front a.name f g a.buffered count left value within put.grew;
  held = put.held;
  name = put.name;
  still = put.still;
  wrote = put.wrote;
  cause = put.cause;
}

-- what was written and held is told of by the place
pub puts_holds : {a b : BitWriting} {piece : Bits} {result : Result (Unit {0}) PutErr} {f g : Option Files} {r s : Reads} {l m : ℕ} →
    Holds a f → PutsBits a b piece result f g r s l m → OnOk result (Holds b g)
puts_holds {a} {b} {piece} {result} {f} {g} holds put = by_case result put.bits
  where
    by_case : (q : Result (Unit {0}) PutErr) → OnOk q (WroteBits a b f g piece) → OnOk q (Holds b g)
    by_case (Ok u) wrote = holds_kept f g a b piece put.wrote.told wrote put.still holds
    by_case (Err e) refused = tt

-- as a caller sees it
pub writes : {a b : BitWriting} {piece : Bits} {result : Result (Unit {0}) PutErr} {f g : Option Files} {r s : Reads} {l m : ℕ} →
    Holds a f → PutsBits a b piece result f g r s l m → WritesBits a b piece result f g r s l m
writes holds put = record {
  holds = puts_holds holds put;
  bits = put.bits;
  grew = put.grew;
  held = put.held;
  name = put.name;
  wrote = put.wrote;
  cause = put.cause;
}

-- zero-bits to the next byte
pub puts_whole : {a b : BitWriting} {size : ℕ} {result : Result (Unit {0}) PutErr} {f g : Option Files} {r s : Reads} {l m : ℕ} → size ≡ (8 - a.place % 8) % 8 →
    PutsBits a b (digits size 0) result f g r s l m → OnOk result (b.place % 8 ≡ 0)
puts_whole {a} {b} {size} {result} {f} {g} is put = by_case result put.bits
  where
    by_case : (q : Result (Unit {0}) PutErr) → OnOk q (WroteBits a b f g (digits size 0)) → OnOk q (b.place % 8 ≡ 0)
    by_case (Ok u) wrote = omega (arith, is, wrote.place, length_digits size 0)
    by_case (Err e) refused = tt

-- where nothing is held, the file has the bits that were written
pub puts_out : {a b : BitWriting} {piece : Bits} {result : Result (Unit {0}) PutErr} {f g : Option Files} {r s : Reads} {l m : ℕ} →
    PutsBits a b piece result f g r s l m → OnOk result (b.buffered ≡ []) → IsSome f → OnOk result (bits_of (bytes_at g a.name) ≡ bits_put a f ++ piece)
puts_out {a} {b} {piece} {result} {f} {g} put none told = by_case result none put.bits
  where
    by_case : (q : Result (Unit {0}) PutErr) → OnOk q (b.buffered ≡ []) → OnOk q (WroteBits a b f g piece) → OnOk q (bits_of (bytes_at g a.name) ≡ bits_put a f ++ piece)
    by_case (Ok u) none wrote =
        ap (λ n. bits_of (bytes_at g n)) (sym wrote.name) ∙ sym (append-nil (bits_of (bytes_at g b.name)))
        ∙ ap (λ l. bits_of (bytes_at g b.name) ++ l) (sym none) ∙ wrote.told told
    by_case (Err e) none refused = tt

module _ {a b : BitWriting} {result : Result (Unit {0}) PutErr} {f g : Option Files} {r s : Reads} {l m : ℕ} (holds : Holds a f) where
  -- so many zero-bits as the byte lacks
  pub fills : {size : ℕ} → size ≡ to_byte a.place → PutsBits a b (digits size 0) result f g r s l m → FillsByte a b result f g r s l m
  fills is put = record {
    writes = writes holds (subst (λ k. PutsBits a b (digits k 0) result f g r s l m) is put);
    whole = puts_whole is put;
  }

  -- and then nothing is held
  pub ends : PutsBits a b (digits (to_byte a.place) 0) result f g r s l m → OnOk result (b.buffered ≡ []) → EndsFile a b result f g r s l m
  ends put nothing = record {
    writes = writes holds put;
    file = puts_out put nothing;
    nothing = nothing;
  }

-- the bits of a writer of bytes, and those of a byte that isn't full
abbrev pub bits_in : Writing → ℕ → ℕ → ℕ → BitWriting
bits_in w count rest place = record { name = w.name; buffered = bits_of w.buffered ++ digits count rest; place = place }

module _ (w : Writing) (rest count : ℕ) {f : Option Files} {r : Reads} {m bits size place step word : ℕ} (low : bits < 2 ^ size) (steps : step ≡ size)
    (is : word ≡ rest * 2 ^ size + bits) where
  -- the byte is not full yet
  pub piece_kept : length w.buffered < 4096 → count + size < 8 →
      PutsBits (bits_in w count rest place) (bits_in w (count + size) word (place + step)) (digits size bits) (Ok tt) f f r r m m
  piece_kept few small = record {
    bits = rw is (wrote_kept w f rest count bits size place step low steps);
    grew = λ told. by_none _ _;
    held = held_few w.buffered (count + size) word few small;
    name = refl;
    still = same_keeps _ _ _ refl;
    wrote = to_none _ _ _;
    cause = record { later = omega arith; failed = λ e. absurd cc };
  }

  module _ (v : Writing) (over : ℕ) {g : Option Files} {s : Reads} {n byte : ℕ} (high : byte ≡ word / 2 ^ over) (same : count + size ≡ 8 + over) where
    -- it is full, and written
    pub piece_sent : {u : Unit {0}} → over < 8 → PutsBytes w v (byte ∷ []) (Ok u) f g r s m n →
        PutsBits (bits_in w count rest place) (bits_in v over (word % 2 ^ over) (place + step)) (digits size bits) (Ok u) f g r s m n
    piece_sent small put = record {
      bits = wrote_sent w v f g rest count bits size over word byte place step put.bytes high same low is steps;
      grew = by_byte w f g rest count bits size over word byte put.grew high same low is;
      held = held_few v.buffered over (word % 2 ^ over) put.page small;
      name = put.name;
      still = put.still;
      wrote = put.wrote;
      cause = put.cause;
    }

    -- it is full, and refused
    pub piece_refused : {e : PutErr} → count < 8 → PutsBytes w v (byte ∷ []) (Err e) f g r s m n →
        PutsBits (bits_in w count rest place) (bits_in v count rest place) (digits size bits) (Err e) f g r s m n
    piece_refused small put = record {
      bits = tt;
      grew = by_byte w f g rest count bits size over word byte put.grew high same low is;
      held = held_few v.buffered count rest put.page small;
      name = put.name;
      still = put.still;
      wrote = put.wrote;
      cause = put.cause;
    }

-- the held bytes go out, and no byte is left that isn't full
pub bytes_out : {w v : Writing} (rest count : ℕ) {result : Result (Unit {0}) PutErr} {f g : Option Files} {r s : Reads} {m n place : ℕ} → count ≡ 0 →
    SendsBytes w v result f g r s m n → PutsBits (bits_in w count rest place) (bits_in v count rest place) [] result f g r s m n
bytes_out {w} {v} rest count {result} {f} {g} {r} {s} {m} {n} {place} none one = record {
  bits = by_case result one.bytes;
  grew = by_bytes f g w.name w.buffered ((bits_of w.buffered ++ digits count rest) ++ []) (digits count rest) one.grew (append-nil (bits_of w.buffered ++ digits count rest));
  held = held_few v.buffered count rest one.page (omega (arith, none));
  name = one.name;
  still = one.still;
  wrote = one.wrote;
  cause = one.cause;
}
  where
    by_case : (q : Result (Unit {0}) PutErr) → OnOk q (Wrote w v f g []) → OnOk q (WroteBits (bits_in w count rest place) (bits_in v count rest place) f g [])
    by_case (Ok u) sent = flushed w v f g rest count place sent none
    by_case (Err e) refused = tt

-- nothing is held then
pub nothing_held : (v : Writing) (rest count place : ℕ) (result : Result (Unit {0}) PutErr) → count ≡ 0 → OnOk result (v.buffered ≡ []) →
    OnOk result ((bits_in v count rest place).buffered ≡ [])
unfolding bits_of digits
nothing_held v rest count place result none = by_case result
  where
    by_case : (q : Result (Unit {0}) PutErr) → OnOk q (v.buffered ≡ []) → OnOk q ((bits_in v count rest place).buffered ≡ [])
    by_case (Ok u) empty = rw (empty, none) refl
    by_case (Err e) refused = tt
