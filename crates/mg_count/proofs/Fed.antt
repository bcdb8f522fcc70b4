-- Bytes that are counted.
use Rattle.std.proofs.Common.{◌≡◌, ◌≤◌, ◌<◌, ◌^◌, ℕ, List, [], ◌∷◌, ◌++◌, length, map, refl, sym, ap, subst, ◌∙◌, arith, append_assoc, append-nil, length-append}
use Rattle.std.specs.Prelude.{sum}
use Rattle.std.specs.List.{flat_map}
use Rattle.std.proofs.lemmas.List.{length-map}
use Rattle.std.proofs.lemmas.List.Sums.{sum_by-cons}
use Rattle.mg_dev.specs.declared.fault.Fault.{Fault}
use Rattle.mg_dev.specs.declared.fault.Fault.TheVariants.{Memory, TooManyDocuments, TooManyPieces}
use Rattle.mg_defs.specs.declared.Stream.{Stream}
use Rattle.mg_defs.specs.declared.Stream.TheVariants.{Words, Others}
use Rattle.mg_defs.specs.Limits.{version_2}
use Rattle.mg_defs.specs.Marks.{AreWithinLimits, Mark, PassesFirst, marks, pair_counts, piece, pieces_among, start}
use Rattle.mg_defs.specs.Parse.{parse}
use Rattle.mg_defs.specs.Split.{documents}
use Rattle.mg_defs.specs.Vocabulary.{all_pieces, piece_of_pair, pieces_in}
use Rattle.mg_count.specs.Counting.{AreFew, CountStops, EndStops, PassesAfter, PassWith, StopsAt}
use Rattle.mg_count.specs.Scanning.{HasMet, Scanning}
use Rattle.mg_count.proofs.Counted.{AddUp, few-front}
use Rattle.mg_count.proofs.Scans.{marks-go_on}

-- ---- few pieces

pieces-of_docs : (kind : Stream) (docs : List (List ℕ)) → length (flat_map (pieces_in kind) docs) ≡ sum (map (λ doc. length (parse doc)) docs)
pieces-of_docs kind [] = refl
pieces-of_docs kind (doc ∷ docs) =
    omega (
      arith,
      length-append (pieces_in kind doc) (flat_map (pieces_in kind) docs),
      length-map (parse doc) (piece_of_pair kind),
      pieces-of_docs kind docs,
      sum_by-cons (λ (x : ℕ). x) (length (parse doc)) (map (λ doc. length (parse doc)) docs),
    )

-- the laws of lower crates that this stands on
pub record FewLaws : Type 0 where
  pub adds : AddUp
  pub pieces : (kind : Stream) (collection : List ℕ) → pieces_among kind (marks collection) ≡ all_pieces kind collection
  pub few_pairs : (collection : List ℕ) → sum (pair_counts collection) ≤ length collection

few-of_kind : (laws : FewLaws) (kind : Stream) (collection : List ℕ) → length (pieces_among kind (marks collection)) ≤ length collection
few-of_kind laws kind collection = omega (arith, ap length (laws.pieces kind collection), pieces-of_docs kind (documents collection), laws.few_pairs collection)

pub few-marks : (laws : FewLaws) (collection : List ℕ) → length collection < 2 ^ 32 → AreFew (marks collection)
few-marks laws collection few = record {
  words = omega (arith, few, few-of_kind laws Words collection);
  others = omega (arith, few, few-of_kind laws Others collection);
}

pub few-met : (laws : FewLaws) (s : Scanning) (fed : List ℕ) (met : List Mark) → HasMet s fed met → length fed < 2 ^ 32 → AreFew met
few-met laws s fed met h few =
    let go = marks-go_on s fed met h [] in
    let all : marks fed ≡ met ++ go.0 = ap marks (sym (append-nil fed)) ∙ go.1 in
    few-front laws.adds met go.0 (subst AreFew all (few-marks laws fed few))

-- ---- a limit is passed

passes-first : (collection : List ℕ) (met next rest : List Mark) (mark : Mark) → marks collection ≡ (met ++ next) ++ rest → PassesAfter met next mark → PassesFirst version_2 collection mark
passes-first collection met next rest mark all p = record {
  before = met ++ p.before;
  after = p.after ++ rest;
  whole =
      all ∙ ap (λ (n : List Mark). (met ++ n) ++ rest) p.whole ∙ ap (λ (x : List Mark). x ++ rest) (sym (append_assoc met p.before (mark ∷ p.after)))
      ∙ append_assoc (met ++ p.before) (mark ∷ p.after) rest;
  within = p.within;
  beyond = λ w. p.beyond (subst (AreWithinLimits version_2) (append_assoc met p.before (mark ∷ [])) w);
}

pass-with : (s : Scanning) (fed : List ℕ) (met next : List Mark) (mark : Mark) → HasMet s fed (met ++ next) → PassesAfter met next mark → PassWith fed mark
pass-with s fed met next mark h p more = let go = marks-go_on s fed (met ++ next) h more in passes-first (fed ++ more) met next go.0 mark go.1 p

pub count-stops : (s : Scanning) (fed : List ℕ) (met next : List Mark) (fault : Fault) → HasMet s fed (met ++ next) → StopsAt met next fault → CountStops fed fault
count-stops s fed met next TooManyDocuments h stops = pass-with s fed met next start h stops
count-stops s fed met next (TooManyPieces stream) h stops = (stops.0, pass-with s fed met next (piece stream stops.0) h stops.1)
count-stops s fed met next Memory h stops = tt
count-stops s fed met next fault h stops = absurd stops

end-passes : (collection : List ℕ) (met next : List Mark) (mark : Mark) → marks collection ≡ met ++ next → PassesAfter met next mark → PassesFirst version_2 collection mark
end-passes collection met next mark all p = passes-first collection met next [] mark (all ∙ sym (append-nil (met ++ next))) p

pub end-stops : (collection : List ℕ) (met next : List Mark) (fault : Fault) → marks collection ≡ met ++ next → StopsAt met next fault → EndStops collection fault
end-stops collection met next TooManyDocuments all stops = end-passes collection met next start all stops
end-stops collection met next (TooManyPieces stream) all stops = (stops.0, end-passes collection met next (piece stream stops.0) all stops.1)
end-stops collection met next Memory all stops = tt
end-stops collection met next fault all stops = absurd stops
