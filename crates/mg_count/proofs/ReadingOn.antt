-- Bytes that are read on into the piece that is read, and what is met in all of them.
use Rattle.std.proofs.Common.{◌≡◌, ◌≢◌, ◌==◌, ◌+◌, ◌<◌, ℕ, Bool, true, false, not, cond, List, [], ◌∷◌, ◌++◌, length, take, get_or, refl, sym, ap, subst, ◌∙◌, arith, append_assoc, append-nil}
use Rattle.std.specs.List.{flat_map}
use Rattle.std.proofs.lemmas.Bool.{ne_eqb}
use Rattle.std.proofs.lemmas.List.{take_more}
use Rattle.mg_defs.specs.Marks.{Mark, marks_of_document}
use Rattle.mg_defs.specs.Pieces.{OpenPiece, Reads}
use Rattle.mg_defs.specs.Split.{IsDocument, closed_count, closed_documents, has_open_end, open_part}
use Rattle.mg_defs.proofs.ClosedLaws.{closed-byte, open-byte}
use Rattle.mg_defs.proofs.PieceLaws.{reads_next}
use Rattle.mg_defs.proofs.SplitLaws.{closed_count-push, has_open_end-push}
use Rattle.mg_parse.specs.Offered.{Offered}
use Rattle.mg_parse.specs.declared.reader.Offer.TheVariants.{Taken}
use Rattle.mg_count.specs.Scanning.{HasMet, HasReadOn, Scanning, marks_of_open}
use Rattle.mg_count.proofs.Scans.{read-taken}

-- ---- into the piece

-- no byte
pub read-on_none : (r : OpenPiece) → HasReadOn r r []
read-on_none r = record {
  kind = refl;
  within = tt;
  reads = λ told doc h. subst (λ d. Reads r told d []) (sym (append-nil doc)) h;
}

no-close : (run : List ℕ) (byte : ℕ) → IsDocument run → byte ≢ 2 → IsDocument (run ++ byte ∷ [])
no-close [] byte none other = (other, tt)
no-close (b ∷ run) byte none other = (none.0, no-close run byte none.1 other)

read-on_push : (old mid new : OpenPiece) (run : List ℕ) (byte : ℕ) → HasReadOn old mid run → byte ≢ 2 → Offered mid byte Taken new → HasReadOn old new (run ++ byte ∷ [])
read-on_push old mid new run byte before other o = record {
  kind = ap (λ (r : OpenPiece). r.kind) o.1 ∙ before.kind;
  within = no-close run byte before.within other;
  reads = λ told doc h. subst (λ d. Reads new told d []) (append_assoc doc run (byte ∷ []))
      (read-taken mid new byte told (doc ++ run) o.0 o.1 (reads_next mid told (doc ++ run) byte (before.reads told doc h)));
}

-- a byte more of these
pub read-on_more : {old mid new : OpenPiece} → (bytes : List ℕ) (i : ℕ) → i < length bytes → HasReadOn old mid (take i bytes) → get_or bytes i 0 ≢ 2 →
    Offered mid (get_or bytes i 0) Taken new → HasReadOn old new (take (i + 1) bytes)
read-on_more {old} {mid} {new} bytes i within before other o =
    subst (λ run. HasReadOn old new run) (sym (take_more bytes i 0 within)) (read-on_push old mid new (take i bytes) (get_or bytes i 0) before other o)

-- ---- into the document

-- the documents of bytes behind which others come that close none
pub record GoesOn (fed run : List ℕ) : Type 0 where
  pub count : closed_count (fed ++ run) ≡ closed_count fed
  pub closed : closed_documents (fed ++ run) ≡ closed_documents fed
  pub part : open_part (fed ++ run) ≡ open_part fed ++ run
  pub end : has_open_end (fed ++ run) ≡ true

none-more : (n m : ℕ) (is_one : Bool) → is_one ≡ false → n ≡ m + cond is_one 1 0 → n ≡ m
none-more n m true is push = absurd cc
none-more n m false is push = omega (arith, push)

pub goes-on : (fed run : List ℕ) → IsDocument run → has_open_end fed ≡ true → GoesOn fed run
goes-on fed [] none is = record {
  count = ap closed_count (append-nil fed);
  closed = ap closed_documents (append-nil fed);
  part = ap open_part (append-nil fed) ∙ sym (append-nil (open_part fed));
  end = ap has_open_end (append-nil fed) ∙ is;
}
goes-on fed (b ∷ run) none is =
    let next = goes-on (fed ++ b ∷ []) run none.1 (has_open_end-push fed b ∙ ap not (ne_eqb b 2 none.0)) in
    let joined : (fed ++ b ∷ []) ++ run ≡ fed ++ (b ∷ run) = append_assoc fed (b ∷ []) run in
    let same : closed_count (fed ++ b ∷ []) ≡ closed_count fed = none-more _ _ (b == 2) (ne_eqb b 2 none.0) (closed_count-push fed b) in
    record {
      count = ap closed_count (sym joined) ∙ next.count ∙ same;
      closed = ap closed_documents (sym joined) ∙ next.closed ∙ closed-byte fed b none.0;
      part = ap open_part (sym joined) ∙ next.part ∙ ap (λ (o : List ℕ). o ++ run) (open-byte fed b none.0) ∙ append_assoc (open_part fed) (b ∷ []) run;
      end = ap has_open_end (sym joined) ∙ next.end;
    }

-- nothing is met with them
pub met-read_on : (s : Scanning) (reading : OpenPiece) (fed run : List ℕ) (met : List Mark) → s.is_open ≡ true → HasReadOn s.reading reading run → HasMet s fed met →
    HasMet (record { seen = s.seen; reading = reading; is_open = s.is_open; met = s.met }) (fed ++ run) met
met-read_on s reading fed run met is_open read h =
    let on = goes-on fed run read.within (sym h.same ∙ is_open) in
    record {
      seen = record { closed = h.seen.closed ∙ sym on.count; end = h.seen.end ∙ sym h.same ∙ is_open ∙ sym on.end };
      same = is_open ∙ sym on.end;
      told = h.told;
      none = h.none;
      kind = read.kind ∙ h.kind;
      reads = subst (λ (o : List ℕ). Reads reading h.told o []) (sym on.part) (read.reads h.told (open_part fed) h.reads);
      marks_are = h.marks_are ∙ ap (λ (d : List (List ℕ)). flat_map marks_of_document d ++ marks_of_open s.is_open h.told) (sym on.closed);
    }
