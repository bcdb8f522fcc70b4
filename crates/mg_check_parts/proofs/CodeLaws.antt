-- Pieces and pairs that are put and counted.
use Rattle.std.proofs.Common.{arith, zero, suc, ◌≡◌, ◌≢◌, ◌≤◌, ◌<◌, ◌+◌, ◌*◌, ◌^◌, ◌++◌, ℕ, Bool, cond, List, [], ◌∷◌, Contains, length, map, sum, get_or, slice_get, Ok, Err, refl, sym, ap, subst, ◌∙◌, Some, None, append_assoc, append-nil, length-append, add-zero}
use Rattle.std.specs.List.{AllByRecursion, flat_map}
use Rattle.std.specs.Str.{bytes_eq}
use Rattle.std.specs.declared.option.Option.{Option}
use Rattle.std.specs.declared.result.Result.{Result}
use Rattle.std.proofs.Math.ListN.{set}
use Rattle.std.proofs.lemmas.Grind.{flat_map-append}
use Rattle.std.proofs.lemmas.List.{length-set, map-append}
use Rattle.std.proofs.lemmas.List.Sums.{sum_by-append, sum_by-cons, sum_by-set}
use Rattle.std.proofs.lemmas.Option.{get_or_from_slice_get, slice_get_within}
use Rattle.mg_dev.specs.Files.{Files}
use Rattle.mg_dev.specs.declared.device.PutErr.{PutErr}
use Rattle.mg_defs.proofs.SortedLaws.{number-at, other-isnt, same-refl}
use Rattle.mg_defs.specs.Bits.{Bits, as_bytes}
use Rattle.mg_defs.specs.CodedText.{StreamCode, TextCode, codeword_of, coded_doc, coded_pair}
use Rattle.mg_defs.specs.Codes.{gamma}
use Rattle.mg_defs.specs.Means.{HasCodewords, IsStreamCode}
use Rattle.mg_defs.specs.Parse.{Pair, parse}
use Rattle.mg_defs.proofs.ParseLaws.{parse_short}
use Rattle.mg_defs.specs.Sorted.{number_of}
use Rattle.mg_defs.specs.Vocabulary.{count_in, piece_of_pair}
use Rattle.mg_defs.specs.declared.Stream.TheVariants.{Words, Others}
use Rattle.mg_text_writer.specs.Writing.{Began, Ended, IsOnText, TextWriting, text_bytes}
use Rattle.mg_check_parts.specs.Decoding.{AreCounts, Counted, IsClosed, IsCodedAs, PutPairs, PutPiece, HasRoom, WherePut, WhereUnknown}
use Rattle.mg_check_parts.specs.declared.uses.Uses.{Uses}

-- ---- one piece more

map-but-one : (f g : List ℕ → ℕ) (xs : List (List ℕ)) (s v : ℕ) → s < length xs → ((k : ℕ) → k < length xs → k ≢ s → f (get_or xs k []) ≡ g (get_or xs k [])) →
    f (get_or xs s []) ≡ v → map f xs ≡ set (map g xs) s v
map-but-one f g [] s v within others here = absurd (omega arith)
map-but-one f g (x ∷ xs) zero v within others here =
    let rest : map f xs ≡ map g xs = same xs (λ k l. others (suc k) (omega (arith, l)) (omega arith)) in
    ap (λ (n : ℕ). n ∷ map f xs) here ∙ ap (λ (ns : List ℕ). v ∷ ns) rest
  where
    same : (ys : List (List ℕ)) → ((k : ℕ) → k < length ys → f (get_or ys k []) ≡ g (get_or ys k [])) → map f ys ≡ map g ys
    same [] h = refl
    same (y ∷ ys) h = ap (λ (n : ℕ). n ∷ map f ys) (h 0 (omega arith)) ∙ ap (λ (ns : List ℕ). g y ∷ ns) (same ys (λ k l. h (suc k) (omega (arith, l))))
map-but-one f g (x ∷ xs) (suc s) v within others here =
    ap (λ (n : ℕ). n ∷ map f xs) (others 0 (omega arith) (omega arith)) ∙ ap (λ (ns : List ℕ). g x ∷ ns)
    (map-but-one f g xs s v (omega (arith, within)) (λ k l other. others (suc k) (omega (arith, l)) (omega (arith, other))) here)

count-push : (ps : List (List ℕ)) (p q : List ℕ) → count_in (ps ++ p ∷ []) q ≡ count_in ps q + cond (bytes_eq q p) 1 0
count-push ps p q = sum_by-append (λ (r : List ℕ). cond (bytes_eq q r) 1 0) ps (p ∷ []) ∙
    ap (λ (n : ℕ). count_in ps q + n) (sum_by-cons (λ (r : List ℕ). cond (bytes_eq q r) 1 0) p [] ∙ add-zero (cond (bytes_eq q p) 1 0))

-- a piece that is another one is not counted
count-other : (ps : List (List ℕ)) (p q : List ℕ) → q ≢ p → count_in (ps ++ p ∷ []) q ≡ count_in ps q
count-other ps p q other = count-push ps p q ∙ ap (λ (b : Bool). count_in ps q + cond b 1 0) (other-isnt q p other) ∙ add-zero (count_in ps q)

count-same : (ps : List (List ℕ)) (p q : List ℕ) → q ≡ p → count_in (ps ++ p ∷ []) q ≡ count_in ps q + 1
count-same ps p q same = count-push ps p q ∙ ap (λ (b : Bool). count_in ps q + cond b 1 0) (ap (bytes_eq q) (sym same) ∙ same-refl q)

get-map : (f : List ℕ → ℕ) (xs : List (List ℕ)) (k : ℕ) → k < length xs → get_or (map f xs) k 0 ≡ f (get_or xs k [])
get-map f [] k within = absurd (omega arith)
get-map f (x ∷ xs) zero within = refl
get-map f (x ∷ xs) (suc k) within = get-map f xs k (omega (arith, within))

sum-set : (xs : List ℕ) (s : ℕ) → s < length xs → sum (set xs s (get_or xs s 0 + 1)) ≡ sum xs + 1
sum-set xs s within =
    let e : sum (set xs s (get_or xs s 0 + 1)) + get_or xs s 0 ≡ sum xs + (get_or xs s 0 + 1) = sum_by-set (λ (x : ℕ). x) xs s (get_or xs s 0 + 1) 0 within in
    omega (arith, e)

pub counted-one : (code : StreamCode) (p : List ℕ) (s : ℕ) (old now : List ℕ) → IsStreamCode code → slice_get code.pieces s ≡ Some p →
    length old ≡ length code.pieces → now ≡ set old s (get_or old s 0 + 1) → Counted code (p ∷ []) old now
counted-one code p s old now is there size now_is =
    let within : s < length code.pieces = slice_get_within code.pieces s p there in
    let here : get_or code.pieces s [] ≡ p = get_or_from_slice_get code.pieces s p [] there in record {
      size = ap length now_is ∙ length-set old s (get_or old s 0 + 1);
      sum_is = ap sum now_is ∙ sum-set old s (omega (arith, within, size));
      counts = λ before are. now_is ∙ counts before are within here;
    }
  where
    apart : (k : ℕ) → s < length code.pieces → get_or code.pieces s [] ≡ p → k < length code.pieces → k ≢ s → get_or code.pieces k [] ≢ p
    apart k within here l other same =
        other (sym (number-at code.pieces k [] is.rising l) ∙ ap (number_of code.pieces) (same ∙ sym here) ∙ number-at code.pieces s [] is.rising within)

    counts : (before : List (List ℕ)) → AreCounts code before old → s < length code.pieces → get_or code.pieces s [] ≡ p →
        set old s (get_or old s 0 + 1) ≡ map (count_in (before ++ p ∷ [])) code.pieces
    counts before are within here =
        let value : get_or old s 0 + 1 ≡ count_in (before ++ p ∷ []) (get_or code.pieces s []) =
        ap (λ (ns : List ℕ). get_or ns s 0 + 1) are ∙ ap (λ (n : ℕ). n + 1) (get-map (count_in before) code.pieces s within) ∙ sym (count-same before p (get_or code.pieces s []) here) in
        ap (λ (ns : List ℕ). set ns s (get_or old s 0 + 1)) are
        ∙ sym (map-but-one (count_in (before ++ p ∷ [])) (count_in before) code.pieces s (get_or old s 0 + 1) within
        (λ k l other. count-other before p (get_or code.pieces k []) (apart k within here l other)) (sym value))

-- ---- one after the other

pub counted-more : (code : StreamCode) (xs ys : List (List ℕ)) (a b c : List ℕ) → Counted code xs a b → Counted code ys b c → Counted code (xs ++ ys) a c
counted-more code xs ys a b c x y = record {
  size = y.size ∙ x.size;
  sum_is = omega (arith, x.sum_is, y.sum_is, length-append xs ys);
  counts = λ before are. y.counts (before ++ xs) (x.counts before are) ∙ ap (λ (ps : List (List ℕ)). map (count_in ps) code.pieces) (append_assoc before xs ys);
}

pub known-of : (code : StreamCode) (piece : List ℕ) (s : ℕ) → slice_get code.pieces s ≡ Some piece → Contains code.pieces piece
known-of code piece s there = (s, slice_get_within code.pieces s piece there, get_or_from_slice_get code.pieces s piece piece there)

pub piece-put : (code : StreamCode) (piece : List ℕ) (s : ℕ) (w0 w1 : TextWriting) (f0 f1 : Option Files) (bits codeword : Bits) →
    IsOnText w1 f1 [] (bits ++ codeword) → codeword ≡ codeword_of code piece → IsOnText w1 f1 [] (bits ++ codeword_of code piece)
piece-put code piece s w0 w1 f0 f1 bits codeword on is = subst (λ (b : Bits). IsOnText w1 f1 [] (bits ++ b)) is on

all-join : {X : Type 0} (P : X → Type 0) (xs ys : List X) → AllByRecursion P xs → AllByRecursion P ys → AllByRecursion P (xs ++ ys)
all-join P [] ys x y = y
all-join P (a ∷ xs) ys x y = (x.0, all-join P xs ys x.1 y)

pub all-of : {X : Type 0} (P : X → Type 0) (xs ys : List X) (x : X) (all : List X) → xs ++ x ∷ ys ≡ all → AllByRecursion P all → P x
all-of P xs ys x all is each = inner xs (subst (AllByRecursion P) (sym is) each)
  where
    inner : (zs : List _) → AllByRecursion P (zs ++ x ∷ ys) → P x
    inner [] each = each.0
    inner (z ∷ zs) each = inner zs each.1

pub pairs-more : (code : TextCode) (xs ys : List Pair) (w0 w1 w2 : TextWriting) (f0 f1 f2 : Option Files) (u0 u1 u2 : Uses) →
    PutPairs code xs w0 w1 f0 f1 u0 u1 → PutPairs code ys w1 w2 f1 f2 u1 u2 → PutPairs code (xs ++ ys) w0 w2 f0 f2 u0 u2
pairs-more code xs ys w0 w1 w2 f0 f1 f2 u0 u1 u2 x y = record {
  took = λ bits on. subst (λ (b : Bits). IsOnText w2 f2 [] b) (append_assoc bits (flat_map (coded_pair code) xs) (flat_map (coded_pair code) ys)
      ∙ ap (λ (b : Bits). bits ++ b) (sym (flat_map-append (coded_pair code) xs ys))) (y.took (bits ++ flat_map (coded_pair code) xs) (x.took bits on));
  left = omega (arith, x.left, y.left, length-append xs ys);
  docs = y.docs ∙ x.docs;
  pairs_are = y.pairs_are ∙ x.pairs_are;
  is_open = y.is_open ∙ x.is_open;
  base = y.base ∙ x.base;
  told = y.told ∙ x.told;
  known = all-join (HasCodewords code) xs ys x.known y.known;
  words = subst (λ (ps : List (List ℕ)). Counted code.words ps u0.words.items u2.words.items) (sym (map-append (piece_of_pair Words) xs ys))
      (counted-more code.words (map (piece_of_pair Words) xs) (map (piece_of_pair Words) ys) u0.words.items u1.words.items u2.words.items x.words y.words);
  others = subst (λ (ps : List (List ℕ)). Counted code.others ps u0.others.items u2.others.items) (sym (map-append (piece_of_pair Others) xs ys))
      (counted-more code.others (map (piece_of_pair Others) xs) (map (piece_of_pair Others) ys) u0.others.items u1.others.items u2.others.items x.others
      y.others);
}

pub pair-of-two : (code : TextCode) (p : Pair) (w0 w1 w2 : TextWriting) (f0 f1 f2 : Option Files) (u0 u2 : Uses) → 2 ≤ w0.left →
    PutPiece code.words p.word w0 w1 f0 f1 u0.words.items u2.words.items → PutPiece code.others p.other w1 w2 f1 f2 u0.others.items u2.others.items → PutPairs code (p ∷ []) w0 w2 f0 f2 u0 u2
pair-of-two code p w0 w1 w2 f0 f1 f2 u0 u2 more word other = record {
  took = λ bits on. subst (λ (b : Bits). IsOnText w2 f2 [] b) (append_assoc bits (codeword_of code.words p.word) (codeword_of code.others p.other)
      ∙ ap (λ (b : Bits). bits ++ b) (sym (append-nil (coded_pair code p))))
      (other.took (bits ++ codeword_of code.words p.word) (word.took bits on));
  left = omega (arith, word.put.left, other.put.left, more);
  docs = other.put.docs ∙ word.put.docs;
  pairs_are = other.put.pairs ∙ word.put.pairs;
  is_open = other.put.is_open ∙ word.put.is_open;
  base = other.base ∙ word.base;
  told = other.told ∙ word.told;
  known = (record { word = word.known; other = other.known }, tt);
  words = word.counted;
  others = other.counted;
}

pub where-put : {E : Type 0} (r : Result (Option (Unit {0})) E) (A B : Type 0) → (A → B) → WherePut r A → WherePut r B
where-put (Ok (Some done)) A B f a = f a
where-put (Ok None) A B f a = tt
where-put (Err refusal) A B f a = tt

-- the pairs before these were put
pub record ArePut (code : TextCode) (all rest : List Pair) (w0 w1 : TextWriting) (f0 f1 : Option Files) (u0 u1 : Uses) : Type 0 where
  pub done : List Pair
  pub whole : done ++ rest ≡ all
  pub put : PutPairs code done w0 w1 f0 f1 u0 u1

pub are-put-more : (code : TextCode) (all pairs rest : List Pair) (p : Pair) (w0 w1 w2 : TextWriting) (f0 f1 f2 : Option Files) (u0 u1 u2 : Uses) →
    pairs ≡ p ∷ rest → ArePut code all pairs w0 w1 f0 f1 u0 u1 → PutPairs code (p ∷ []) w1 w2 f1 f2 u1 u2 → ArePut code all rest w0 w2 f0 f2 u0 u2
are-put-more code all pairs rest p w0 w1 w2 f0 f1 f2 u0 u1 u2 next so one = record {
  done = so.done ++ p ∷ [];
  whole = append_assoc so.done (p ∷ []) rest ∙ ap (λ (ps : List Pair). so.done ++ ps) (sym next) ∙ so.whole;
  put = pairs-more code so.done (p ∷ []) w0 w1 w2 f0 f1 f2 u0 u1 u2 so.put one;
}

pub two-more : (code : TextCode) (all pairs rest : List Pair) (p : Pair) (w0 w1 : TextWriting) (f0 f1 : Option Files) (u0 u1 : Uses) → pairs ≡ p ∷ rest →
    w0.left ≡ 2 * length all → ArePut code all pairs w0 w1 f0 f1 u0 u1 → (n : ℕ) × (w1.left ≡ 2 * n + 2)
two-more code all pairs rest p w0 w1 f0 f1 u0 u1 next left so =
    let count : length so.done + length pairs ≡ length all = sym (length-append so.done pairs) ∙ ap length so.whole in
    (length rest, omega (arith, so.put.left, left, count, ap length next))

pub not-codable : (code : TextCode) (all pairs rest : List Pair) (p : Pair) (w0 w1 : TextWriting) (f0 f1 : Option Files) (u0 u1 : Uses) → pairs ≡ p ∷ rest →
    ArePut code all pairs w0 w1 f0 f1 u0 u1 → (HasCodewords code p → ⊥) → AllByRecursion (HasCodewords code) all → ⊥
not-codable code all pairs rest p w0 w1 f0 f1 u0 u1 next so none each = none (all-of (HasCodewords code) so.done rest p all (ap (λ (ps : List Pair). so.done ++ ps) (sym next) ∙ so.whole) each)

pub put-there : (o : Option (Unit {0})) (u : Unit {0}) (A : Type 0) → o ≡ Some u → WherePut {E = PutErr} (Ok o) A → A
put-there o u A is h = inner (subst (λ (x : Option (Unit {0})). WherePut {E = PutErr} (Ok x) A) is h)
  where
    inner : WherePut {E = PutErr} (Ok (Some u)) A → A
    inner h = h

pub unknown-there : (o : Option (Unit {0})) (A : Type 0) → o ≡ None → WhereUnknown {T = Unit {0}} {E = PutErr} (Ok o) A → A
unknown-there o A is h = inner (subst (λ (x : Option (Unit {0})). WhereUnknown {T = Unit {0}} {E = PutErr} (Ok x) A) is h)
  where
    inner : WhereUnknown {T = Unit {0}} {E = PutErr} (Ok None) A → A
    inner h = h

pub room-less : (code : StreamCode) (counts : List ℕ) (more less : ℕ) → HasRoom code counts more → less ≤ more → HasRoom code counts less
room-less code counts more less room fewer = record { size = room.size; few = omega (arith, room.few, fewer) }

-- a document that was ended is all of the text
pub text-closed : (w now : TextWriting) (bits : Bits) (f : Option Files) (text : List ℕ) → IsOnText now f (bits ∷ []) [] → Ended w now →
    text ≡ text_bytes (bits ∷ []) → IsClosed w bits text
text-closed w now bits f text whole ended is =
    let size : length (text_bytes (bits ∷ [])) ≡ length text = ap length (sym is) in
    record { bytes_are = is; short = omega (arith, whole.bound, whole.place, size, ended.pairs, ended.docs) }

-- a document that was begun, whose pairs were put and which was ended is coded
pub doc-coded : (code : TextCode) (doc bytes : List ℕ) (n : ℕ) (w0 w1 w2 : TextWriting) (f1 f2 : Option Files) (u0 u1 : Uses) → n ≡ length (parse doc) →
    length doc < 2 ^ 32 → w0.pairs ≡ 0 → w0.docs ≡ 0 → Began w0 w1 n → PutPairs code (parse doc) w1 w2 f1 f2 u0 u1 →
    IsClosed w2 (gamma (n + 1) ++ flat_map (coded_pair code) (parse doc)) bytes → IsCodedAs code doc bytes u0 u1
doc-coded code doc bytes n w0 w1 w2 f1 f2 u0 u1 count small none first began put closed =
    let bits : gamma (n + 1) ++ flat_map (coded_pair code) (parse doc) ≡ coded_doc code doc = ap (λ (m : ℕ). gamma (m + 1) ++ flat_map (coded_pair code) (parse doc)) count in
    record {
      codable = record { each = put.known; few = omega (arith, parse_short doc, small) };
      bytes_are = closed.bytes_are ∙ append-nil (as_bytes (gamma (n + 1) ++ flat_map (coded_pair code) (parse doc))) ∙ ap as_bytes bits;
      short = omega (arith, closed.short, put.docs, began.docs, put.pairs_are, began.pairs, none, first, count, parse_short doc);
      words = put.words;
      others = put.others;
    }
