-- Why the second pass stops: what it takes is not what was counted.
use Rattle.std.proofs.Common.{◌≡◌, ◌≢◌, ◌≤◌, ◌<◌, ◌+◌, ◌-◌, ◌/◌, ◌++◌, inl, inr, ℕ, true, List, [], ◌∷◌, refl, sym, ap, ◌∙◌, length, get_or, arith, Err, None, position}
use Rattle.std.specs.Prelude.{IsErrOf}
use Rattle.std.specs.Str.{bytes_eq}
use Rattle.std.specs.declared.option.Option.{Option}
use Rattle.mg_dev.specs.Files.{Files}
use Rattle.mg_dev.specs.Faults.{fault_of_store}
use Rattle.mg_dev.specs.declared.device.PutErr.{PutErr}
use Rattle.mg_dev.specs.declared.device.PutErr.TheVariants as put
use Rattle.mg_dev.specs.declared.fault.Fault.{Fault}
use Rattle.mg_dev.specs.declared.fault.Fault.TheVariants.{Changed}
use Rattle.mg_defs.specs.declared.Stream.{Stream}
use Rattle.mg_defs.specs.declared.Stream.TheVariants.{Words, Others}
use Rattle.mg_dev.specs.declared.what.What.TheVariants as what
use Rattle.mg_defs.specs.Marks.{Mark, code_of, pair_counts, start, piece, stop, starts}
use Rattle.mg_defs.specs.Vocabulary.{sorted_pieces}
use Rattle.mg_make.specs.Fronts.{IsFrontOf}
use Rattle.mg_count.specs.Plans.{IsPlanOf, Plan}
use Rattle.mg_make.specs.Changes.{OtherPiece, TellsChange, unknown_of}
use Rattle.mg_make.specs.Second.{HasWritten, Inversion}
use Rattle.mg_make.specs.Written.{SecondStops}
use Rattle.mg_make.proofs.MarkFronts.{begun_documents, has_symbol, more_documents, more_pieces, no_more_pieces, open_at_piece, open_at_stop, pairs_at_stop, some_begun, whole_is}

pub stops_store : {T : Type 0} (rose same : Type 0) (e : PutErr) (fault : Fault) → fault ≡ fault_of_store e → (IsErrOf {T = T} (Err e) put.Failed → rose) → SecondStops rose same fault
stops_store rose same put.Failed fault is cause = rw is (cause refl)
stops_store rose same put.Memory fault is cause = rw is tt

-- the store's refusal tells no change
pub tells_store : (p : Plan) (collection : List ℕ) (e : PutErr) (fault : Fault) → fault ≡ fault_of_store e → TellsChange p collection fault
tells_store p collection put.Failed fault is = rw is tt
tells_store p collection put.Memory fault is = rw is tt

-- ---- the plan is that of another collection

pub other_documents : (s : Inversion) (files : Option Files) (met : List Mark) (collection : List ℕ) → HasWritten s files met →
    IsFrontOf (met ++ start ∷ []) collection → length s.plan.pairs ≤ s.doc → ¬ IsPlanOf s.plan collection
other_documents s files met collection is front most of =
    let more = more_documents met collection front in
    let same = ap length of.pairs in
    omega (arith, more, same, is.doc)

open_pairs : (s : Inversion) (files : Option Files) (met : List Mark) (collection : List ℕ) → HasWritten s files met → IsPlanOf s.plan collection →
    get_or s.plan.pairs (s.doc - 1) 0 ≡ get_or (pair_counts collection) (starts met - 1) 0
open_pairs s files met collection is of = ap (λ ns. get_or ns (s.doc - 1) 0) of.pairs ∙ ap (λ k. get_or (pair_counts collection) (k - 1) 0) is.doc

pub other_pieces : (s : Inversion) (files : Option Files) (met : List Mark) (kind : Stream) (x collection : List ℕ) → HasWritten s files met →
    IsFrontOf (met ++ piece kind x ∷ []) collection → s.text.is_open ≡ true → s.left ≡ 0 → ¬ IsPlanOf s.plan collection
other_pieces s files met kind x collection is front is_open none of =
    let more = more_pieces met kind x collection front in
    let same = open_pairs s files met collection is of in
    let put = is.put is_open in
    omega (arith, more, same, put)

pub other_stop : (s : Inversion) (files : Option Files) (met : List Mark) (collection : List ℕ) → HasWritten s files met →
    IsFrontOf (met ++ stop ∷ []) collection → s.text.is_open ≡ true → 0 < s.left → ¬ IsPlanOf s.plan collection
other_stop s files met collection is front is_open some of =
    let all = no_more_pieces met collection front in
    let same = open_pairs s files met collection is of in
    let put = is.put is_open in
    omega (arith, all, same, put)

pieces_of : (kind : Stream) (p : Plan) (collection : List ℕ) → IsPlanOf p collection → (code_of kind p.code).pieces ≡ sorted_pieces kind collection
pieces_of Words p collection of = of.code.0.pieces
pieces_of Others p collection of = of.code.1.pieces

pub other_piece : (p : Plan) (met : List Mark) (kind : Stream) (x collection : List ℕ) → IsFrontOf (met ++ piece kind x ∷ []) collection →
    position (bytes_eq x) (code_of kind p.code).pieces ≡ None → ¬ IsPlanOf p collection
other_piece p met kind x collection front none of = has_symbol met kind x collection front (sym (ap (position (bytes_eq x)) (pieces_of kind p collection of)) ∙ none)

-- ---- and both numbers are told

pub tells_documents : (s : Inversion) (files : Option Files) (met : List Mark) (collection : List ℕ) (first second : ℕ) → HasWritten s files met →
    IsFrontOf (met ++ start ∷ []) collection → length s.plan.pairs ≤ s.doc → first ≡ length s.plan.pairs → second ≡ first + 1
    → TellsChange s.plan collection (Changed what.Documents first second)
tells_documents s files met collection first second is front most planned one =
    let more = more_documents met collection front in
    (planned, inl (one, omega (arith, more, is.doc, most, planned)))

pub stops_pairs : (rose same : Type 0) (first second : ℕ) (fault : Fault) → fault ≡ Changed what.Pairs first second → first ≢ second → ¬ same → SecondStops rose same fault
stops_pairs rose same first second fault is other not = rw is (other, not)

pub tells_more_pairs : (s : Inversion) (files : Option Files) (met : List Mark) (kind : Stream) (x collection : List ℕ) (fault : Fault) → HasWritten s files met →
    IsFrontOf (met ++ piece kind x ∷ []) collection → s.text.is_open ≡ true → s.left ≡ 0
    → fault ≡ Changed what.Pairs (get_or s.plan.pairs (s.doc - 1) 0) (get_or s.plan.pairs (s.doc - 1) 0 + 1) → TellsChange s.plan collection fault
tells_more_pairs s files met kind x collection fault is front is_open none told =
    let more = more_pieces met kind x collection front in
    let some = some_begun met (piece kind x) collection front (open_at_piece met kind x collection front) in
    let begun = begun_documents met (piece kind x) collection front in
    let at : get_or (pair_counts collection) (starts met - 1) 0 ≡ get_or (pair_counts collection) (s.doc - 1) 0 = ap (λ k. get_or (pair_counts collection) (k - 1) 0) (sym is.doc) in
    let put = is.put is_open in
    rw told (record {
      doc = s.doc - 1;
      planned = omega (arith, some, is.doc, is.within);
      there = omega (arith, some, is.doc, begun);
      number = refl;
      other = inl (refl, omega (arith, more, at, put, none));
    })

pub tells_fewer_pairs : (s : Inversion) (files : Option Files) (met : List Mark) (collection : List ℕ) (fault : Fault) → HasWritten s files met →
    IsFrontOf (met ++ stop ∷ []) collection → s.text.is_open ≡ true → 0 < s.left
    → fault ≡ Changed what.Pairs (get_or s.plan.pairs (s.doc - 1) 0) (get_or s.plan.pairs (s.doc - 1) 0 - (s.left + 1) / 2) → TellsChange s.plan collection fault
tells_fewer_pairs s files met collection fault is front is_open left told =
    let all = pairs_at_stop met collection front in
    let some = some_begun met stop collection front (open_at_stop met collection front) in
    let begun = begun_documents met stop collection front in
    let at : get_or (pair_counts collection) (starts met - 1) 0 ≡ get_or (pair_counts collection) (s.doc - 1) 0 = ap (λ k. get_or (pair_counts collection) (k - 1) 0) (sym is.doc) in
    let put = is.put is_open in
    rw told (record {
      doc = s.doc - 1;
      planned = omega (arith, some, is.doc, is.within);
      there = omega (arith, some, is.doc, begun);
      number = refl;
      other = inr (omega (arith, all, at, put, left), omega (arith, all, at, put, left));
    })

pub stops_unknown : (rose same : Type 0) (kind : Stream) (fault : Fault) → fault ≡ unknown_of kind → ¬ same → SecondStops rose same fault
stops_unknown rose same Words fault is not = rw is ((λ e. cc), not)
stops_unknown rose same Others fault is not = rw is ((λ e. cc), not)

unknown_piece : (s : Inversion) (files : Option Files) (met : List Mark) (kind : Stream) (x collection : List ℕ) → HasWritten s files met →
    IsFrontOf (met ++ piece kind x ∷ []) collection → 0 < s.left → position (bytes_eq x) (code_of kind s.plan.code).pieces ≡ None → OtherPiece kind s.plan collection 0 1
unknown_piece s files met kind x collection is front more lacking =
    let put = is.put (is.is_open ∙ open_at_piece met kind x collection front) in
    let at : get_or s.plan.pairs (starts met - 1) 0 ≡ get_or s.plan.pairs (s.doc - 1) 0 = ap (λ k. get_or s.plan.pairs (k - 1) 0) (sym is.doc) in
    record {
      bytes = x;
      before = met;
      after = front.after;
      met = whole_is met (piece kind x) collection front;
      room = omega (arith, put, at, more);
      lacking = lacking;
      there = has_symbol met kind x collection front;
      none = refl;
      one = refl;
    }

pub tells_unknown : (s : Inversion) (files : Option Files) (met : List Mark) (kind : Stream) (x collection : List ℕ) (fault : Fault) → HasWritten s files met →
    IsFrontOf (met ++ piece kind x ∷ []) collection → 0 < s.left → position (bytes_eq x) (code_of kind s.plan.code).pieces ≡ None → fault ≡ unknown_of kind →
    TellsChange s.plan collection fault
tells_unknown s files met Words x collection fault is front more lacking told = rw told (unknown_piece s files met Words x collection is front more lacking)
tells_unknown s files met Others x collection fault is front more lacking told = rw told (unknown_piece s files met Others x collection is front more lacking)
