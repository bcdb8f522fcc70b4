-- What one mark more makes of what was written.
use Rattle.std.proofs.Common.{◌≡◌, ◌≤◌, ◌<◌, ◌+◌, ◌*◌, ◌-◌, ◌^◌, ◌++◌, ℕ, zero, suc, true, false, List, [], ◌∷◌, refl, sym, ap, ◌∙◌, subst, length, sum, take, get_or, arith, append-nil, Some}
use Rattle.std.specs.declared.option.Option.{Option}
use Rattle.std.proofs.lemmas.List.{get_or-drop}
use Rattle.std.proofs.lemmas.List.Sums.{sum_by_more, sum_by-take-le}
use Rattle.mg_dev.specs.Files.{Files}
use Rattle.mg_defs.specs.declared.Stream.{Stream}
use Rattle.mg_defs.specs.Bits.{Bits}
use Rattle.mg_defs.specs.Canon.{codeword}
use Rattle.mg_defs.specs.CodedText.{TextCode}
use Rattle.mg_defs.specs.Codes.{gamma}
use Rattle.mg_defs.specs.DocCounts.{NeverFall}
use Rattle.mg_defs.specs.Marks.{Mark, code_of, start, piece, stop, starts, piece_count_from, piece_bits, with_doc}
use Rattle.mg_defs.specs.Sorted.{number_of}
use Rattle.mg_laws.proofs.DocCountLaws.{met_in_order}
use Rattle.mg_laws.proofs.MarkLaws.{coded_append, open_append, open_at_append, pieces_from_append, starts_append, terms_append}
use Rattle.mg_text_writer.specs.Writing.{Began, Ended, IsOnText, PutOne, TextWriting, turn}
use Rattle.mg_make.specs.Fronts.{IsFrontOf}
use Rattle.mg_make.specs.Indexes.{HasTaken, Indexing, MayFollow}
use Rattle.mg_count.specs.Plans.{IsPlan, Plan}
use Rattle.mg_make.specs.Second.{HasWritten, Inversion, coded_by, occurring_by, open_by, term_at}
use Rattle.mg_make.proofs.MarkFronts.{one_more_term, terms_more}

-- ---- what a plan makes of one mark more

coded_start : (p : Plan) (met : List Mark) → coded_by p (met ++ start ∷ []) ≡ coded_by p met
coded_start p met = coded_append p.code p.pairs [] met (start ∷ []) ∙ append-nil (coded_by p met)

open_start : (p : Plan) (met : List Mark) → open_by p (met ++ start ∷ []) ≡ gamma (get_or p.pairs (starts met) 0 + 1)
open_start p met =
    let place : starts met + 0 ≡ starts met = omega arith in
    open_append p.code p.pairs [] met (start ∷ []) ∙ ap (λ n. gamma (n + 1)) (get_or-drop (starts met) p.pairs 0 0 ∙ ap (λ k. get_or p.pairs k 0) place)

coded_piece : (p : Plan) (met : List Mark) (kind : Stream) (x : List ℕ) → coded_by p (met ++ piece kind x ∷ []) ≡ coded_by p met
coded_piece p met kind x = coded_append p.code p.pairs [] met (piece kind x ∷ []) ∙ append-nil (coded_by p met)

open_piece : (p : Plan) (met : List Mark) (kind : Stream) (x : List ℕ) → open_by p (met ++ piece kind x ∷ []) ≡ open_by p met ++ piece_bits p.code kind x
open_piece p met kind x = open_append p.code p.pairs [] met (piece kind x ∷ [])

coded_stop : (p : Plan) (met : List Mark) → coded_by p (met ++ stop ∷ []) ≡ coded_by p met ++ open_by p met ∷ []
coded_stop p met = coded_append p.code p.pairs [] met (stop ∷ [])

open_stop : (p : Plan) (met : List Mark) → open_by p (met ++ stop ∷ []) ≡ []
open_stop p met = open_append p.code p.pairs [] met (stop ∷ [])

occurring_start : (p : Plan) (met : List Mark) → occurring_by p (met ++ start ∷ []) ≡ occurring_by p met
occurring_start p met = terms_append p.terms.terms 0 met (start ∷ []) ∙ append-nil (occurring_by p met)

occurring_stop : (p : Plan) (met : List Mark) → occurring_by p (met ++ stop ∷ []) ≡ occurring_by p met
occurring_stop p met = terms_append p.terms.terms 0 met (stop ∷ []) ∙ append-nil (occurring_by p met)

-- ---- sums

-- what stands at a place of a list, which has it
pub same_there : (xs : List ℕ) (k a b : ℕ) → k < length xs → get_or xs k a ≡ get_or xs k b
same_there [] k a b h = absurd (omega arith)
same_there (x ∷ xs) zero a b h = refl
same_there (x ∷ xs) (suc k) a b h = same_there xs k a b (omega arith)

pub sum_more : (xs : List ℕ) (i : ℕ) → i < length xs → sum (take (i + 1) xs) ≡ sum (take i xs) + get_or xs i 0
sum_more xs i h = sum_by_more (λ x. x) xs i 0 h

pub sum_front : (xs : List ℕ) (i : ℕ) → sum (take i xs) ≤ sum xs
sum_front xs i = sum_by-take-le (λ x. x) xs i

-- ---- what the writers ask for

-- where no document is open, the text has no bits of one
pub none_open : (s : Inversion) (files : Option Files) (met : List Mark) → s.text.is_open ≡ false → HasWritten s files met → IsOnText s.text files (coded_by s.plan met) []
none_open s files met closed is = subst (λ (bits : Bits). IsOnText s.text files (coded_by s.plan met) bits) (is.text.none closed) is.text

pub pairs_room : (s : Inversion) (files : Option Files) (met : List Mark) → HasWritten s files met → s.doc < length s.plan.pairs → s.text.pairs + get_or s.plan.pairs s.doc 0 ≤ 2 ^ 32 - 1
pairs_room s files met is low =
    let more = sum_more s.plan.pairs s.doc low in
    let most = sum_front s.plan.pairs (s.doc + 1) in
    let small = is.planned.small in
    omega (arith, is.pairs, more, most, small)

-- the stream whose turn it is
pub turn_now : (s : Inversion) (files : Option Files) (met : List Mark) (kind : Stream) →
    ((left put pairs : ℕ) → left + put ≡ 2 * pairs → turn left ≡ turn put) → HasWritten s files met → s.text.is_open ≡ true →
    kind ≡ turn (piece_count_from 0 met) → kind ≡ turn s.text.left
turn_now s files met kind law is is_open at = at ∙ sym (law s.left (piece_count_from 0 met) (get_or s.plan.pairs (s.doc - 1) 0) (is.put is_open)) ∙ ap turn is.left

-- the codeword of a symbol is that of its piece
pub put_bits : (kind : Stream) (code model : TextCode) (symbol : ℕ) (x : List ℕ) (old w : TextWriting) (f g : Option Files) → model ≡ code →
    number_of (code_of kind model).pieces x ≡ symbol → ((docs : List Bits) (bits : Bits) → IsOnText old f docs bits →
    IsOnText w g docs (bits ++ codeword (code_of kind model).lengths symbol))
    → (docs : List Bits) (bits : Bits) → IsOnText old f docs bits → IsOnText w g docs (bits ++ piece_bits code kind x)
put_bits kind code model symbol x old w f g same number took docs bits on =
    subst (λ (c : TextCode). IsOnText w g docs (bits ++ piece_bits c kind x)) same
    (subst (λ (s : ℕ). IsOnText w g docs (bits ++ codeword (code_of kind model).lengths s)) (sym number) (took docs bits on))

-- an occurrence more can be taken
pub few_taken : (s : Inversion) (files : Option Files) (met : List Mark) (kind : Stream) (x : List ℕ) (term : ℕ) (collection : List ℕ) →
    Some term ≡ term_at kind s.plan.terms.terms x → HasWritten s files met → IsFrontOf (met ++ piece kind x ∷ []) collection → s.index.occurrences < 2 ^ 32 - 1
few_taken s files met kind x term collection term_is is front =
    let few = one_more_term s.plan.terms.terms met kind x term collection term_is front in
    omega (arith, few, is.index.occurrences)

pub may_follow : (s : Inversion) (files : Option Files) (met : List Mark) (term : ℕ) → term < length s.plan.terms.terms → 1 ≤ s.doc →
    s.index.occurrences < 2 ^ 32 - 1 → HasWritten s files met → MayFollow (length s.plan.terms.terms) (occurring_by s.plan met) term s.doc
may_follow s files met term known some few is =
    let doc : 0 + starts met ≡ s.doc = omega (arith, is.doc) in
    record {
      known = known;
      some = some;
      order = subst (λ (n : ℕ). NeverFall 0 (occurring_by s.plan met) n) doc (met_in_order s.plan.terms.terms 0 met);
      few = omega (arith, few, is.index.occurrences);
    }

-- ---- steps

pub wrote_nothing : (s : Inversion) (files : Option Files) → s.text.base ≡ s.base → s.index.runs.base ≡ s.base → IsPlan s.plan → IsOnText s.text files [] [] →
    HasTaken s.index files (length s.plan.terms.terms) [] → s.doc ≡ 0 → s.left ≡ 0 → s.text.docs ≡ 0 → s.text.pairs ≡ 0 → s.text.is_open ≡ false →
    HasWritten s files []
wrote_nothing s files text_base runs_base planned text index doc left docs pairs closed = record {
  text_base = text_base;
  runs_base = runs_base;
  planned = planned;
  text = text;
  index = index;
  doc = doc;
  left = left ∙ sym (text.nothing_left closed);
  docs = docs ∙ sym doc;
  is_open = closed;
  pairs = pairs ∙ sym (ap (λ n. sum (take n s.plan.pairs)) doc);
  within = omega arith;
  put = λ is. absurd cc;
}

pub wrote_start : (old : Inversion) (w : TextWriting) (f g : Option Files) (met : List Mark) (pairs : ℕ) → old.text.is_open ≡ false →
    pairs ≡ get_or old.plan.pairs old.doc 0 → old.doc < length old.plan.pairs →
    ((docs : List Bits) → IsOnText old.text f docs [] → IsOnText w g docs (gamma (pairs + 1))) → Began old.text w pairs → w.base ≡ old.text.base
    → ((terms : ℕ) (fed : List (ℕ × ℕ)) → HasTaken old.index f terms fed → HasTaken old.index g terms fed) → HasWritten old f met →
    HasWritten (record { base = old.base; plan = old.plan; text = w; index = old.index; doc = old.doc + 1; left = 2 * pairs }) g (met ++ start ∷ [])
wrote_start old w f g met pairs closed here room took began base kept is =
    let none = none_open old f met closed is in
    let bits : gamma (pairs + 1) ≡ open_by old.plan (met ++ start ∷ []) = ap (λ n. gamma (n + 1)) (here ∙ ap (λ k. get_or old.plan.pairs k 0) is.doc) ∙ sym (open_start old.plan met) in
    let text : IsOnText w g (coded_by old.plan met) (gamma (pairs + 1)) = took (coded_by old.plan met) none in
    let text : IsOnText w g (coded_by old.plan (met ++ start ∷ [])) (gamma (pairs + 1)) = subst (λ (docs : List Bits). IsOnText w g docs (gamma (pairs + 1))) (sym (coded_start old.plan met)) text in
    let parts = starts_append met (start ∷ []) in
    let pieces : piece_count_from 0 (met ++ start ∷ []) ≡ 0 = pieces_from_append 0 met (start ∷ []) in
    let back : old.doc + 1 - 1 ≡ old.doc = omega arith in
    let place : get_or old.plan.pairs (old.doc + 1 - 1) 0 ≡ get_or old.plan.pairs old.doc 0 = ap (λ k. get_or old.plan.pairs k 0) back in
    record {
      text_base = base ∙ is.text_base;
      runs_base = is.runs_base;
      planned = is.planned;
      text = subst (λ (b : Bits). IsOnText w g (coded_by old.plan (met ++ start ∷ [])) b) bits text;
      index = subst (λ (fed : List (ℕ × ℕ)). HasTaken old.index g (length old.plan.terms.terms) fed) (sym (occurring_start old.plan met))
          (kept (length old.plan.terms.terms) (occurring_by old.plan met) is.index);
      doc = omega (arith, is.doc, parts);
      left = sym began.left;
      docs = began.docs ∙ ap (λ n. n + 1) is.docs;
      is_open = began.is_open ∙ sym (open_at_append false met (start ∷ []));
      pairs = began.pairs ∙ ap (λ n. n + pairs) is.pairs ∙ ap (λ n. sum (take old.doc old.plan.pairs) + n) here ∙ sym (sum_more old.plan.pairs old.doc room);
      within = omega arith;
      put = λ o. omega (arith, pieces, place, here);
    }

pub wrote_piece : (old : Inversion) (w : TextWriting) (index : Indexing) (f h : Option Files) (met : List Mark) (kind : Stream) (x : List ℕ) (term : Option ℕ) →
    0 < old.left → term ≡ term_at kind old.plan.terms.terms x →
    ((docs : List Bits) (bits : Bits) → IsOnText old.text f docs bits → IsOnText w h docs (bits ++ piece_bits old.plan.code kind x)) → PutOne old.text w →
    w.base ≡ old.text.base
    → index.runs.base ≡ old.index.runs.base → HasTaken index h (length old.plan.terms.terms) (occurring_by old.plan met ++ with_doc (starts met) term) →
    HasWritten old f met → HasWritten (record { base = old.base; plan = old.plan; text = w; index = index; doc = old.doc; left = old.left - 1 }) h
    (met ++ piece kind x ∷ [])
wrote_piece old w index f h met kind x term more term_is took put base runs_base taken is =
    let bits : Bits = open_by old.plan met ++ piece_bits old.plan.code kind x in
    let text : IsOnText w h (coded_by old.plan met) bits = took (coded_by old.plan met) (open_by old.plan met) is.text in
    let text : IsOnText w h (coded_by old.plan (met ++ piece kind x ∷ [])) bits = subst (λ (docs : List Bits). IsOnText w h docs bits) (sym (coded_piece old.plan met kind x)) text in
    let parts = starts_append met (piece kind x ∷ []) in
    let pieces : piece_count_from 0 (met ++ piece kind x ∷ []) ≡ piece_count_from 0 met + 1 = pieces_from_append 0 met (piece kind x ∷ []) in
    record {
      text_base = base ∙ is.text_base;
      runs_base = runs_base ∙ is.runs_base;
      planned = is.planned;
      text = subst (λ (b : Bits). IsOnText w h (coded_by old.plan (met ++ piece kind x ∷ [])) b) (sym (open_piece old.plan met kind x)) text;
      index = subst (λ (fed : List (ℕ × ℕ)). HasTaken index h (length old.plan.terms.terms) fed) (sym (terms_more old.plan.terms.terms met kind x term term_is)) taken;
      doc = omega (arith, is.doc, parts);
      left = ap (λ n. n - 1) is.left ∙ sym put.left;
      docs = put.docs ∙ is.docs;
      is_open = put.is_open ∙ is.is_open ∙ sym (open_at_append false met (piece kind x ∷ []));
      pairs = put.pairs ∙ is.pairs;
      within = is.within;
      put = λ o. let was = is.put (sym put.is_open ∙ o) in omega (arith, pieces, was);
    }

pub wrote_stop : (old : Inversion) (w : TextWriting) (f g : Option Files) (met : List Mark) → old.left ≡ 0 →
    ((docs : List Bits) (bits : Bits) → IsOnText old.text f docs bits → IsOnText w g (docs ++ bits ∷ []) []) → Ended old.text w → w.base ≡ old.text.base →
    ((terms : ℕ) (fed : List (ℕ × ℕ)) → HasTaken old.index f terms fed → HasTaken old.index g terms fed)
    → HasWritten old f met → HasWritten (record { base = old.base; plan = old.plan; text = w; index = old.index; doc = old.doc; left = old.left }) g (met ++ stop ∷ [])
wrote_stop old w f g met none took ended base kept is =
    let text : IsOnText w g (coded_by old.plan met ++ open_by old.plan met ∷ []) [] = took (coded_by old.plan met) (open_by old.plan met) is.text in
    let text : IsOnText w g (coded_by old.plan (met ++ stop ∷ [])) [] = subst (λ (docs : List Bits). IsOnText w g docs []) (sym (coded_stop old.plan met)) text in
    let parts = starts_append met (stop ∷ []) in
    record {
      text_base = base ∙ is.text_base;
      runs_base = is.runs_base;
      planned = is.planned;
      text = subst (λ (b : Bits). IsOnText w g (coded_by old.plan (met ++ stop ∷ [])) b) (sym (open_stop old.plan met)) text;
      index = subst (λ (fed : List (ℕ × ℕ)). HasTaken old.index g (length old.plan.terms.terms) fed) (sym (occurring_stop old.plan met))
          (kept (length old.plan.terms.terms) (occurring_by old.plan met) is.index);
      doc = omega (arith, is.doc, parts);
      left = none ∙ sym ended.left;
      docs = ended.docs ∙ is.docs;
      is_open = ended.is_open ∙ sym (open_at_append false met (stop ∷ []));
      pairs = ended.pairs ∙ is.pairs;
      within = is.within;
      put = λ o. let no = ended.is_open in absurd cc;
    }
