-- The store of two files that compares what is written into them, by what it tells.
use Rattle.std.proofs.Common.{arith, Bool, true, false, cond, max, min, Ok, Err, unwrap_or, inl, ◌≡◌, ◌≢◌, ◌≤◌, ◌+◌, ◌-◌, ◌^◌, ◌∙◌, ◌∷◌}
use Rattle.std.proofs.Common.{[], ◌++◌, append_assoc, ℕ, List, zero, suc, length, take, drop, refl, sym, ap, subst, None, Some, IsSome, length-append}
use Rattle.std.proofs.Math.Seq.{take-add}
use Rattle.std.proofs.lemmas.List.{drop-drop, length-take, length-take-le, length-drop, take-append-drop, take_all}
use Rattle.std.proofs.lemmas.Slice.Eq.{bytes_eq-Decides}
use Rattle.std.specs.Prelude.{IfErr, OnOk, OnErr}
use Rattle.std.specs.Option.{option_map}
use Rattle.std.specs.Str.{bytes_eq}
use Rattle.std.specs.FinMap.{get, get-empty}
use Rattle.std.specs.Cmp.Lexicographic.{slice_cmp}
use Rattle.std.specs.Ordering.{nat_cmp}
use Rattle.std.specs.declared.option.Option.{Option}
use Rattle.std.specs.declared.result.Result.{Result}
use Rattle.mg_dev.specs.Causes.{HasCause, HasPutCause, Rose}
use Rattle.mg_dev.specs.PartCauses.{HasPartCause}
use Rattle.mg_dev.specs.declared.part_err.PartErr.{PartErr}
use Rattle.mg_dev.specs.declared.part_err.PartErr.TheVariants.{Bad, Device, Memory}
use Rattle.mg_dev.specs.Files.{AfterAppend, Files, OneRead, Reads, bytes_at, file_at, grown, put, with_read, written}
use Rattle.mg_dev.specs.Laws.{file_at-other, file_at-written, get-put, same_files, told-written, with_read-here, written-grown, written-written}
use Rattle.mg_dev.specs.Names.{full_name, number, same_part}
use Rattle.mg_dev.specs.declared.device.PutErr.{PutErr}
use Rattle.mg_dev.specs.declared.part.Part.{Part}
use Rattle.mg_dev.specs.declared.part.Part.TheVariants.{Head, Words, Nonwords, Text, Places, Lex, LexAt, Post, Skip, Weights, Run, MergeA, MergeB, Plain}
use Rattle.mg_dev.specs.declared.device.PutErr.TheVariants.{Failed}
use Rattle.mg_layout.specs.Contents.{StandAt}
use Rattle.mg_layout.specs.Sizes.{AnswersSize}
use Rattle.mg_check_parts.specs.Refusals.{Refutes}
use Rattle.mg_check_parts.specs.Looks.{reads_outside}
use Rattle.mg_check_index.specs.InPair.{PutsPair, SamePlace, SamePlaces, all_looks, bytes_of, code_of_pair, pair_faults, pair_files, pair_reads, set_name, two_files}
use Rattle.mg_check_index.specs.InStore.{emptied}
use Rattle.mg_check_index.specs.PairCalls.{SameReferences}
use Rattle.mg_check_index.specs.declared.pair_store.WrittenPair.{WrittenPair}
use Rattle.mg_check_index.specs.declared.written_part.WrittenPart.{WrittenPart}
use Rattle.mg_check_index.proofs.InStoreLaws.{code-inj, files-inj, head-is, tail-is}

-- ---- two files

-- a write at one of two names leaves the other
put-across : (f : Files) (n m x y z : List ℕ) → n ≢ m → put (put (put f n x) m y) n z ≡ put (put f n z) m y
put-across f n m x y z apart = same_files _ _ (λ k.
    get-put (put (put f n x) m y) n z k ∙ ap (λ o. cond (bytes_eq k n) (Some z) o) (get-put (put f n x) m y k ∙ ap (λ o. cond (bytes_eq k m) (Some y) o) (get-put f n x k))
    ∙ by_names k (bytes_eq k n) (bytes_eq k m) (λ e. (bytes_eq-Decides k n).0 e) (λ e. (bytes_eq-Decides k m).0 e)
    ∙ sym (get-put (put f n z) m y k ∙ ap (λ o. cond (bytes_eq k m) (Some y) o) (get-put f n z k)))
  where
    by_names : (k : List ℕ) (a b : Bool) → (a ≡ true → k ≡ n) → (b ≡ true → k ≡ m) →
        cond a (Some z) (cond b (Some y) (cond a (Some x) (get f k))) ≡ cond b (Some y) (cond a (Some z) (get f k))
    by_names k true true one two = absurd (apart (sym (one refl) ∙ two refl))
    by_names k true false one two = refl
    by_names k false true one two = refl
    by_names k false false one two = refl

written-across : (files : Option Files) (n m x y z : List ℕ) → n ≢ m → written (written (written files n x) m y) n z ≡ written (written files n z) m y
unfolding written
written-across None n m x y z apart = refl
written-across (Some f) n m x y z apart = ap Some (put-across f n m x y z apart)

none-there : (files : Option Files) (n : List ℕ) → file_at (emptied files) n ≡ None
unfolding file_at
none-there None n = refl
none-there (Some f) n = get-empty (slice_cmp nat_cmp) n

some-there : (files : Option Files) (n m x y : List ℕ) → IsSome (two_files files n x m y) → IsSome (written (emptied files) n x)
some-there files n m x y told = sym (told-written (written (emptied files) n x) m y) ∙ told

some-empty : (files : Option Files) (n m x y : List ℕ) → IsSome (two_files files n x m y) → IsSome (emptied files)
some-empty files n m x y told = sym (told-written (emptied files) n x) ∙ some-there files n m x y told

pub some-told : (files : Option Files) (n m x y : List ℕ) → IsSome (two_files files n x m y) → IsSome files
some-told None n m x y told = some-empty None n m x y told
some-told (Some f) n m x y told = refl

pub two-one : (files : Option Files) (n m x y : List ℕ) → n ≢ m → IsSome (two_files files n x m y) → file_at (two_files files n x m y) n ≡ Some x
two-one files n m x y apart told = file_at-other (written (emptied files) n x) m y n apart ∙ file_at-written (emptied files) n x (some-empty files n m x y told)

pub two-other : (files : Option Files) (n m x y : List ℕ) → IsSome (two_files files n x m y) → file_at (two_files files n x m y) m ≡ Some y
two-other files n m x y told = file_at-written (written (emptied files) n x) m y (some-there files n m x y told)

pub two-none : (files : Option Files) (n m x y k : List ℕ) → k ≢ n → k ≢ m → file_at (two_files files n x m y) k ≡ None
two-none files n m x y k one two = file_at-other (written (emptied files) n x) m y k two ∙ file_at-other (emptied files) n x k one ∙ none-there files k

-- where no files are told, all that is told of two files is the same
none-two : (n m x y a b z k c l : List ℕ) → two_files None n x m y ≡ written (two_files None a z b k) c l
unfolding written
none-two n m x y a b z k c l = refl

none-grows : (p : WrittenPair) (n m x y name piece : List ℕ) → two_files None n x m y ≡ grown (pair_files None p) name piece
unfolding written
none-grows p n m x y name piece = refl

none-same : (p : WrittenPair) (n m x y : List ℕ) → two_files None n x m y ≡ pair_files None p
unfolding written
none-same p n m x y = refl

-- one of two files grows
pub one-grows : (files : Option Files) (n m x y piece : List ℕ) → n ≢ m → two_files files n (x ++ piece) m y ≡ grown (two_files files n x m y) n piece
one-grows None n m x y piece apart = none-two n m (x ++ piece) y n m x y n (bytes_at (two_files None n x m y) n ++ piece)
one-grows (Some f) n m x y piece apart =
    let here = two-one (Some f) n m x y apart (told-written (written (emptied (Some f)) n x) m y ∙ told-written (emptied (Some f)) n x) in
    sym (ap (λ (o : Option (List ℕ)). written (two_files (Some f) n x m y) n (unwrap_or o [] ++ piece)) here ∙ written-across (emptied (Some f)) n m x y (x ++ piece) apart)

pub other-grows : (files : Option Files) (n m x y piece : List ℕ) → two_files files n x m (y ++ piece) ≡ grown (two_files files n x m y) m piece
other-grows files n m x y piece = sym (written-grown (written (emptied files) n x) m y piece)

pub one-emptied : (files : Option Files) (n m x y : List ℕ) → n ≢ m → two_files files n [] m y ≡ written (two_files files n x m y) n []
one-emptied files n m x y apart = sym (written-across (emptied files) n m x y [] apart)

pub other-emptied : (files : Option Files) (n m x y : List ℕ) → two_files files n x m [] ≡ written (two_files files n x m y) m []
other-emptied files n m x y = sym (written-written (written (emptied files) n x) m y [])

-- ---- the bytes of a part

-- bytes that are held and stand are let go
pub settled : (bytes : List ℕ) (from standing whole : ℕ) (rest front : List ℕ) → front ≡ take whole rest → whole ≤ length rest → take (length front) (drop (from + standing) bytes) ≡ front →
    take (standing + whole) (drop from bytes) ++ drop whole rest ≡ take standing (drop from bytes) ++ rest
settled bytes from standing whole rest front is within stand =
    let long : length front ≡ whole = ap (λ (b : List ℕ). length b) is ∙ length-take-le whole rest within in
    let there : take whole (drop standing (drop from bytes)) ≡ take whole rest =
    ap (λ n. take n (drop standing (drop from bytes))) (sym long) ∙ ap (take (length front)) (drop-drop standing from bytes) ∙ stand ∙ is in
    ap (λ t. t ++ drop whole rest) (take-add standing whole (drop from bytes) ∙ ap (λ p. take standing (drop from bytes) ++ p) there)
    ∙ append_assoc (take standing (drop from bytes)) (take whole rest) (drop whole rest) ∙ ap (λ r. take standing (drop from bytes) ++ r) (take-append-drop whole rest)

pub size-is : (bytes rest : List ℕ) (from standing found : ℕ) → found ≡ length bytes → min (found - from) standing + length rest ≡ length (take standing (drop from bytes) ++ rest)
size-is bytes rest from standing found is =
    sym (length-append (take standing (drop from bytes)) rest ∙ ap (λ k. k + length rest) (length-take standing (drop from bytes) ∙ least (length-drop from bytes)))
  where
    least : length (drop from bytes) ≡ length bytes - from → min standing (length (drop from bytes)) ≡ min (found - from) standing
    least short = omega (arith, short, is)

nothing-written : (standing : ℕ) (rest xs : List ℕ) → standing + length rest ≡ 0 → take standing xs ++ rest ≡ []
nothing-written standing [] xs none = let e : standing ≡ 0 = omega (arith, none) in ap (λ n. take n xs ++ []) e
nothing-written standing (r ∷ rest) xs none = absurd (omega (arith, none))

pub nothing-of : (files : Option Files) (w : WrittenPart) → w.standing + length w.rest.items ≡ 0 → bytes_of files w ≡ []
nothing-of files w none = nothing-written w.standing w.rest.items (drop w.from (bytes_at files (set_name w))) none

-- the bytes that stand of the same part are the same
front-same : (files : Option Files) (u v : WrittenPart) → v.standing ≡ u.standing → SamePlace u v →
    take v.standing (drop v.from (bytes_at files (set_name v))) ≡ take u.standing (drop u.from (bytes_at files (set_name u)))
front-same files u v standing same =
    ap (λ n. take n (drop v.from (bytes_at files (set_name v)))) standing ∙ ap (λ n. take u.standing (drop n (bytes_at files (set_name v)))) same.from
    ∙ ap (λ (name : List ℕ). take u.standing (drop u.from (bytes_at files name))) same.name

-- a piece that is held is written behind them
pub held-more : (result : Result (Unit {0}) PutErr) (files : Option Files) (t u v : WrittenPart) (piece : List ℕ) → bytes_of files u ≡ bytes_of files t →
    v.standing ≡ u.standing → SamePlace u v → OnOk result (v.rest.items ≡ u.rest.items ++ piece) → OnOk result (bytes_of files v ≡ bytes_of files t ++ piece)
held-more (Ok done) files t u v piece settled standing same held =
    ap (λ r. take v.standing (drop v.from (bytes_at files (set_name v))) ++ r) held
    ∙ ap (λ p. p ++ (u.rest.items ++ piece)) (front-same files u v standing same)
    ∙ sym (append_assoc (take u.standing (drop u.from (bytes_at files (set_name u)))) u.rest.items piece) ∙ ap (λ b. b ++ piece) settled
held-more (Err refusal) files t u v piece settled standing same held = tt

pub held-kept : (result : Result (Unit {0}) PutErr) (files : Option Files) (t u v : WrittenPart) → bytes_of files u ≡ bytes_of files t →
    v.standing ≡ u.standing → SamePlace u v → OnErr result (v.rest.items ≡ u.rest.items) → OnErr result (bytes_of files v ≡ bytes_of files t)
held-kept (Ok done) files t u v settled standing same kept = tt
held-kept (Err refusal) files t u v settled standing same kept =
    ap (λ r. take v.standing (drop v.from (bytes_at files (set_name v))) ++ r) kept ∙ ap (λ p. p ++ u.rest.items) (front-same files u v standing same) ∙ settled

-- ---- two parts, by the files that are told

pub pair-one-put : (result : Result (Unit {0}) PutErr) (files : Option Files) (p : WrittenPair) (w : WrittenPart) (piece name : List ℕ) → p.one.own.now ≡ name → SamePlace p.one w →
    p.one.own.now ≢ p.other.own.now → (IsSome files → OnOk result (bytes_of files w ≡ bytes_of files p.one ++ piece)) → (IsSome files → OnErr result (bytes_of files w ≡ bytes_of files p.one)) →
    AfterAppend (pair_files files p) (two_files files w.own.now (bytes_of files w) p.other.own.now (bytes_of files p.other)) name piece result
pair-one-put (Ok done) None p w piece name here same apart more kept =
    none-grows p w.own.now p.other.own.now (bytes_of None w) (bytes_of None p.other) name piece
pair-one-put (Ok done) (Some f) p w piece name here same apart more kept =
    ap (λ n. two_files (Some f) n (bytes_of (Some f) w) p.other.own.now (bytes_of (Some f) p.other)) same.own
    ∙ ap (λ b. two_files (Some f) p.one.own.now b p.other.own.now (bytes_of (Some f) p.other)) (more refl)
    ∙ one-grows (Some f) p.one.own.now p.other.own.now (bytes_of (Some f) p.one) (bytes_of (Some f) p.other) piece apart
    ∙ ap (λ n. grown (pair_files (Some f) p) n piece) here
pair-one-put (Err refusal) None p w piece name here same apart more kept =
    inl (none-same p w.own.now p.other.own.now (bytes_of None w) (bytes_of None p.other))
pair-one-put (Err refusal) (Some f) p w piece name here same apart more kept =
    inl (ap (λ n. two_files (Some f) n (bytes_of (Some f) w) p.other.own.now (bytes_of (Some f) p.other)) same.own
    ∙ ap (λ b. two_files (Some f) p.one.own.now b p.other.own.now (bytes_of (Some f) p.other)) (kept refl))

pub pair-other-put : (result : Result (Unit {0}) PutErr) (files : Option Files) (p : WrittenPair) (w : WrittenPart) (piece name : List ℕ) → p.other.own.now ≡ name → SamePlace p.other w →
    (IsSome files → OnOk result (bytes_of files w ≡ bytes_of files p.other ++ piece)) → (IsSome files → OnErr result (bytes_of files w ≡ bytes_of files p.other)) →
    AfterAppend (pair_files files p) (two_files files p.one.own.now (bytes_of files p.one) w.own.now (bytes_of files w)) name piece result
pair-other-put (Ok done) None p w piece name here same more kept =
    none-grows p p.one.own.now w.own.now (bytes_of None p.one) (bytes_of None w) name piece
pair-other-put (Ok done) (Some f) p w piece name here same more kept =
    ap (λ n. two_files (Some f) p.one.own.now (bytes_of (Some f) p.one) n (bytes_of (Some f) w)) same.own
    ∙ ap (λ b. two_files (Some f) p.one.own.now (bytes_of (Some f) p.one) p.other.own.now b) (more refl)
    ∙ other-grows (Some f) p.one.own.now p.other.own.now (bytes_of (Some f) p.one) (bytes_of (Some f) p.other) piece
    ∙ ap (λ n. grown (pair_files (Some f) p) n piece) here
pair-other-put (Err refusal) None p w piece name here same more kept =
    inl (none-same p p.one.own.now w.own.now (bytes_of None p.one) (bytes_of None w))
pair-other-put (Err refusal) (Some f) p w piece name here same more kept =
    inl (ap (λ n. two_files (Some f) p.one.own.now (bytes_of (Some f) p.one) n (bytes_of (Some f) w)) same.own
    ∙ ap (λ b. two_files (Some f) p.one.own.now (bytes_of (Some f) p.one) p.other.own.now b) (kept refl))

pub pair-one-reset : (files : Option Files) (p : WrittenPair) (w : WrittenPart) (name : List ℕ) → p.one.own.now ≡ name → SamePlace p.one w → p.one.own.now ≢ p.other.own.now →
    w.standing + length w.rest.items ≡ 0 →
    two_files files w.own.now (bytes_of files w) p.other.own.now (bytes_of files p.other) ≡ written (pair_files files p) name []
pair-one-reset files p w name here same apart none =
    ap (λ n. two_files files n (bytes_of files w) p.other.own.now (bytes_of files p.other)) same.own
    ∙ ap (λ b. two_files files p.one.own.now b p.other.own.now (bytes_of files p.other)) (nothing-of files w none)
    ∙ one-emptied files p.one.own.now p.other.own.now (bytes_of files p.one) (bytes_of files p.other) apart
    ∙ ap (λ n. written (pair_files files p) n []) here

pub pair-other-reset : (files : Option Files) (p : WrittenPair) (w : WrittenPart) (name : List ℕ) → p.other.own.now ≡ name → SamePlace p.other w →
    w.standing + length w.rest.items ≡ 0 →
    two_files files p.one.own.now (bytes_of files p.one) w.own.now (bytes_of files w) ≡ written (pair_files files p) name []
pair-other-reset files p w name here same none =
    ap (λ n. two_files files p.one.own.now (bytes_of files p.one) n (bytes_of files w)) same.own
    ∙ ap (λ b. two_files files p.one.own.now (bytes_of files p.one) p.other.own.now b) (nothing-of files w none)
    ∙ other-emptied files p.one.own.now p.other.own.now (bytes_of files p.one) (bytes_of files p.other)
    ∙ ap (λ n. written (pair_files files p) n []) here

pub size-one : (files : Option Files) (p : WrittenPair) (name : List ℕ) (size : ℕ) → p.one.own.now ≡ name → p.one.own.now ≢ p.other.own.now →
    (IsSome files → size ≡ length (bytes_of files p.one)) → IsSome (pair_files files p) → Some size ≡ option_map length (file_at (pair_files files p) name)
size-one files p name size here apart is told =
    ap Some (is (some-told files p.one.own.now p.other.own.now (bytes_of files p.one) (bytes_of files p.other) told))
    ∙ sym (ap (λ n. option_map length (file_at (pair_files files p) n)) (sym here)
    ∙ ap (option_map length) (two-one files p.one.own.now p.other.own.now (bytes_of files p.one) (bytes_of files p.other) apart told))

pub size-other : (files : Option Files) (p : WrittenPair) (name : List ℕ) (size : ℕ) → p.other.own.now ≡ name →
    (IsSome files → size ≡ length (bytes_of files p.other)) → IsSome (pair_files files p) → Some size ≡ option_map length (file_at (pair_files files p) name)
size-other files p name size here is told =
    ap Some (is (some-told files p.one.own.now p.other.own.now (bytes_of files p.one) (bytes_of files p.other) told))
    ∙ sym (ap (λ n. option_map length (file_at (pair_files files p) n)) (sym here)
    ∙ ap (option_map length) (two-other files p.one.own.now p.other.own.now (bytes_of files p.one) (bytes_of files p.other) told))

pub size-none : (files : Option Files) (p : WrittenPair) (name : List ℕ) → p.one.own.now ≢ name → p.other.own.now ≢ name →
    ◌≡◌ {A = Option ℕ} None (option_map length (file_at (pair_files files p) name))
size-none files p name one other =
    sym (ap (option_map length) (two-none files p.one.own.now p.other.own.now (bytes_of files p.one) (bytes_of files p.other) name (λ e. one (sym e)) (λ e. other (sym e))))

-- names by the test of them
pub is-named : (a b : List ℕ) (c : Bool) → c ≡ bytes_eq a b → c ≡ true → a ≡ b
is-named a b c test is = (bytes_eq-Decides a b).0 (sym test ∙ is)

pub not-named : (a b : List ℕ) (c : Bool) → c ≡ bytes_eq a b → c ≡ false → a ≢ b
not-named a b c test differs same = never (sym differs ∙ test ∙ (bytes_eq-Decides a b).1 same)
  where
    never : false ≡ true → ⊥
    never bad = cc

-- ---- the reads

still : (n : ℕ) (b : Bool) → 2 ^ 64 + n ≡ cond b (max (2 ^ 64 + n) (min (2 ^ 64 + n + 1) (2 ^ 64 - 1))) (2 ^ 64 + n)
still n true = omega arith
still n false = refl

read-more : (made : ℕ) (looks now : Reads) (part : Part) → ((q : Part) → same_part q Nonwords ≡ false → now q ≡ with_read looks part q) → (q : Part) →
    pair_reads made now q ≡ with_read (pair_reads made looks) part q
unfolding pair_reads with_read
read-more made looks now part more Head = more Head refl
read-more made looks now part more Words = more Words refl
read-more made looks now part more Nonwords = still made (same_part Nonwords part)
read-more made looks now part more Text = more Text refl
read-more made looks now part more Places = more Places refl
read-more made looks now part more Lex = more Lex refl
read-more made looks now part more LexAt = more LexAt refl
read-more made looks now part more Post = more Post refl
read-more made looks now part more Skip = more Skip refl
read-more made looks now part more Weights = more Weights refl
read-more made looks now part more Run = more Run refl
read-more made looks now part more MergeA = more MergeA refl
read-more made looks now part more MergeB = more MergeB refl
read-more made looks now part more Plain = more Plain refl

pub reads-one : (made : ℕ) (looks now : Reads) (part : Part) → OneRead looks now part → (q : Part) → pair_reads made now q ≡ with_read (pair_reads made looks) part q
reads-one made looks now part one = read-more made looks now part (λ q other. one q)

of-number : (p : Part) → number p ≡ 2 → p ≡ Nonwords
of-number Nonwords e = refl
of-number Plain e = absurd (omega (arith, e))
of-number Head e = absurd (omega (arith, e))
of-number Words e = absurd (omega (arith, e))
of-number Text e = absurd (omega (arith, e))
of-number Places e = absurd (omega (arith, e))
of-number Lex e = absurd (omega (arith, e))
of-number LexAt e = absurd (omega (arith, e))
of-number Post e = absurd (omega (arith, e))
of-number Skip e = absurd (omega (arith, e))
of-number Weights e = absurd (omega (arith, e))
of-number Run e = absurd (omega (arith, e))
of-number MergeA e = absurd (omega (arith, e))
of-number MergeB e = absurd (omega (arith, e))

-- a read of the part that has no file
pub reads-none : (made : ℕ) (looks : Reads) (part : Part) (m n : ℕ) → m ≡ number part → n ≡ 2 → m ≡ n → (q : Part) →
    pair_reads made looks q ≡ with_read (pair_reads made looks) part q
unfolding with_read
reads-none made looks part m n is two same q =
    let part_is : part ≡ Nonwords = of-number part (sym is ∙ same ∙ two) in
    subst (λ p. pair_reads made looks q ≡ with_read (pair_reads made looks) p q) (sym part_is) (read-more made looks looks Nonwords unread q)
  where
    unread : (q : Part) → same_part q Nonwords ≡ false → looks q ≡ with_read looks Nonwords q
    unread q other = rw other

-- what is not read is empty: a name that is as long as that part's ending is none of two short ones
pub nothing-there : (files : Option Files) (p : WrittenPair) (base : List ℕ) (part : Part) (m n at count : ℕ) → m ≡ number part → n ≡ 2 → m ≡ n →
    [] ≡ take count (drop at (bytes_at (pair_files files p) (full_name base part)))
unfolding full_name
nothing-there files p base part m n at count is two same =
    let part_is : part ≡ Nonwords = of-number part (sym is ∙ same ∙ two) in
    let long : length (full_name base part) ≡ length base + 9 = ap (λ q. length (full_name base q)) part_is ∙ ending-long base in
    let none = two-none files p.one.own.now p.other.own.now (bytes_of files p.one) (bytes_of files p.other) (full_name base part)
    (λ e. omega (arith, long, p.one.short, ap length e)) (λ e. omega (arith, long, p.other.short, ap length e)) in
    sym (ap (λ (o : Option (List ℕ)). take count (drop at (unwrap_or o []))) none ∙ empty at count)
  where
    ending-long : (base : List ℕ) → length (full_name base Nonwords) ≡ length base + 9
    ending-long base = length-append base _

    empty : (at count : ℕ) → ◌≡◌ {A = List ℕ} (take count (drop at [])) []
    empty zero zero = refl
    empty zero (suc count) = refl
    empty (suc at) zero = refl
    empty (suc at) (suc count) = refl

-- a read fails, and is counted
looked-at : (looks : Reads) (part : Part) → same_part part Nonwords ≡ false → 1 ≤ looks part → 1 ≤ all_looks looks
looked-at looks Head other some = omega (arith, some)
looked-at looks Words other some = omega (arith, some)
looked-at looks Nonwords other some = absurd (never other)
  where
    never : true ≡ false → ⊥
    never bad = cc
looked-at looks Text other some = omega (arith, some)
looked-at looks Places other some = omega (arith, some)
looked-at looks Lex other some = omega (arith, some)
looked-at looks LexAt other some = omega (arith, some)
looked-at looks Post other some = omega (arith, some)
looked-at looks Skip other some = omega (arith, some)
looked-at looks Weights other some = omega (arith, some)
looked-at looks Run other some = omega (arith, some)
looked-at looks MergeA other some = omega (arith, some)
looked-at looks MergeB other some = omega (arith, some)
looked-at looks Plain other some = omega (arith, some)

other-part : (p : Part) → number p ≢ 2 → same_part p Nonwords ≡ false
other-part Nonwords e = absurd (e refl)
other-part Plain e = refl
other-part Head e = refl
other-part Words e = refl
other-part Text e = refl
other-part Places e = refl
other-part Lex e = refl
other-part LexAt e = refl
other-part Post e = refl
other-part Skip e = refl
other-part Weights e = refl
other-part Run e = refl
other-part MergeA e = refl
other-part MergeB e = refl

pub fault-rose : (faults : ℕ) (looks now : Reads) (part : Part) (m n : ℕ) → m ≡ number part → n ≡ 2 → m ≢ n → OneRead looks now part →
    HasCause {T = ℕ} (pair_faults faults (all_looks looks)) (pair_faults faults (all_looks now)) (Err record {})
fault-rose faults looks now part m n is two apart one =
    let other = other-part part (λ e. apart (is ∙ e ∙ sym two)) in
    let here : now part ≡ max (looks part) (min (looks part + 1) (2 ^ 64 - 1)) = one part ∙ with_read-here looks part in
    let some : 1 ≤ all_looks now = looked-at now part other (omega (arith, here)) in
    rose (all_looks looks) (all_looks now) some
  where
    rose : (a b : ℕ) → 1 ≤ b → HasCause {T = ℕ} (pair_faults faults a) (pair_faults faults b) (Err record {})
    rose a zero some = absurd (omega (arith, some))
    rose zero (suc b) some =
        let before : pair_faults faults zero ≡ faults = refl in
        let after : pair_faults faults (suc b) ≡ faults + 2 ^ 64 = refl in
        record { later = omega (arith, before, after); failed = omega (arith, before, after) }
    rose (suc a) (suc b) some =
        let before : pair_faults faults (suc a) ≡ faults + 2 ^ 64 = refl in
        let after : pair_faults faults (suc b) ≡ faults + 2 ^ 64 = refl in
        record { later = omega (arith, before, after); failed = omega (arith, before, after) }

-- a device's refusal has its cause
pub rose-of : {T : Type 0} (e : PartErr) (m n : ℕ) → e ≡ Device → HasPartCause {T = T} m n (Err e) → Rose m n
rose-of Device m n is cause = cause.device
rose-of Memory m n is cause = absurd cc
rose-of (Bad bad) m n is cause = absurd cc

-- what the store is made of is told as before
pub made-same : (store_is pair_is : ℕ) (p q : WrittenPair) (f g : Option Files) (r s : Reads) → SamePlaces p q → g ≡ f → reads_outside s ≡ reads_outside r →
    code_of_pair store_is pair_is q g s ≡ code_of_pair store_is pair_is p f r
unfolding code_of_pair
made-same store_is pair_is p q f g r s same files outside =
    let a = same.one.from in
    let b = same.other.from in
    let c = same.one.name in
    let d = same.one.own in
    let e = same.other.name in
    let h = same.other.own in
    cc

pub reads-same : (m n : ℕ) (looks : Reads) (part : Part) → n ≡ m → pair_reads n looks part ≡ pair_reads m looks part
reads-same m n looks part same = ap (λ k. pair_reads k looks part) same

-- ---- what is kept where the reads are the same

pub made-kept : (m n : ℕ) (looks now : Reads) → ((q : Part) → pair_reads n now q ≡ pair_reads m looks q) → n ≡ m
unfolding pair_reads
made-kept m n looks now same = let e : 2 ^ 64 + n ≡ 2 ^ 64 + m = same Nonwords in omega (arith, e)

pub looks-kept : (m n : ℕ) (looks now : Reads) → ((q : Part) → pair_reads n now q ≡ pair_reads m looks q) → all_looks now ≡ all_looks looks
unfolding pair_reads
looks-kept m n looks now same =
    omega (arith, same Head, same Words, same Text, same Places, same Lex, same LexAt, same Post, same Skip, same Weights, same Run, same MergeA, same MergeB, same Plain)

pub record IsKept (store_is store_now pair_is pair_now : ℕ) (p q : WrittenPair) (f g : Option Files) (r s : Reads) : Type 0 where
  pub store : store_now ≡ store_is
  pub pair : pair_now ≡ pair_is
  pub places : SamePlaces p q
  pub files : g ≡ f
  pub outside : reads_outside s ≡ reads_outside r

pub kept : {store_is store_now pair_is pair_now : ℕ} {p q : WrittenPair} {f g : Option Files} {r s : Reads} →
    code_of_pair store_now pair_now q g s ≡ code_of_pair store_is pair_is p f r → IsKept store_is store_now pair_is pair_now p q f g r s
unfolding code_of_pair
kept {store_is} {store_now} {pair_is} {pair_now} {p} {q} {f} {g} {r} {s} same =
    let e0 = code-inj _ _ same in
    let e1 = tail-is _ _ _ _ e0 in
    let e2 = tail-is _ _ _ _ e1 in
    let e3 = tail-is _ _ _ _ e2 in
    let e4 = tail-is _ _ _ _ e3 in
    let e5 = tail-is _ _ _ _ e4 in
    let e6 = tail-is _ _ _ _ e5 in
    let e7 = tail-is _ _ _ _ e6 in
    let e8 = tail-is _ _ _ _ e7 in
    record {
      store = head-is _ _ _ _ e0;
      pair = head-is _ _ _ _ e1;
      places = record {
        one = record { name = code-inj _ _ (head-is _ _ _ _ e4); own = code-inj _ _ (head-is _ _ _ _ e5); from = head-is _ _ _ _ e2 };
        other = record { name = code-inj _ _ (head-is _ _ _ _ e6); own = code-inj _ _ (head-is _ _ _ _ e7); from = head-is _ _ _ _ e3 };
      };
      files = files-inj g f (head-is _ _ _ _ e8);
      outside = tail-is _ _ _ _ e8;
    }

-- faults that are told without a look are those of the set's store
own-faults : (P : ℕ → ℕ → Type 0) (m n a b : ℕ) → a ≡ 0 → b ≡ a → P (pair_faults m a) (pair_faults n b) → P m n
own-faults P m n a b none same told =
    subst (λ k. P m (pair_faults n k)) (same ∙ none) (subst (λ k. P (pair_faults m k) (pair_faults n b)) none told)

pub own-put : {T : Type 0} {result : Result T PutErr} (m n a b : ℕ) → a ≡ 0 → b ≡ a → HasPutCause (pair_faults m a) (pair_faults n b) result → HasPutCause m n result
own-put {result = result} m n a b none same told = own-faults (λ k l. HasPutCause k l result) m n a b none same told

pub own-part : {T : Type 0} {result : Result T PartErr} (m n a b : ℕ) → a ≡ 0 → b ≡ a → HasPartCause (pair_faults m a) (pair_faults n b) result → HasPartCause m n result
own-part {result = result} m n a b none same told = own-faults (λ k l. HasPartCause k l result) m n a b none same told

-- a writer's refusal, as that of who compares
pub put-part : {T U : Type 0} (e : PutErr) (r : PartErr) (m n : ℕ) → (r ≡ Device → e ≡ Failed) → HasPutCause {T = T} m n (Err e) → HasPartCause {T = U} m n (Err r)
put-part e Device m n is cause = record { later = cause.later; device = cause.failed (ap (λ (x : PutErr). Err x) (is refl)) }
put-part e Memory m n is cause = record { later = cause.later; device = tt }
put-part e (Bad bad) m n is cause = record { later = cause.later; device = tt }

pub put-done : {T U : Type 0} {x : U} {result : Result T PutErr} (m n : ℕ) → HasPutCause m n result → HasPartCause {T = U} m n (Ok x)
put-done m n cause = record { later = cause.later; device = tt }

-- what a call promises of two parts and of a store, told of these at last
pub told-last : {X : Type 0} (P : WrittenPair → X → Type 0) (now last : WrittenPair) (t end : X) → last ≡ now → end ≡ t →
    P now t → P last end
told-last P now last t end pair_is store_is told = subst (λ p. P p end) (sym pair_is) (subst (λ x. P now x) (sym store_is) told)

-- a call through a store of two files keeps its references
pub same-references : {store_is store_now pair_is pair_now : ℕ} {p q : WrittenPair} {f g : Option Files} {r s : Reads} →
    IsKept store_is store_now pair_is pair_now p q f g r s → SameReferences store_is pair_is store_now pair_now
same-references is = record { store = is.store; pair = is.pair }

-- and writes to the two files alone
pub puts-kept : {T : Type 0} {result : Result T PartErr} {store_is store_now pair_is pair_now : ℕ} {p q : WrittenPair}
    {f g : Option Files} {r s : Reads} {m n : ℕ} →
    IsKept store_is store_now pair_is pair_now p q f g r s → HasPartCause m n result → PutsPair p q result f g r s m n
puts-kept is cause = record { places = is.places; looks = record { files = is.files; unread = is.outside; cause = cause } }

-- ---- what was written, by the files that are told

pub told-pair : (files : Option Files) (p : WrittenPair) → IsSome files → IsSome (pair_files files p)
told-pair None p told =
    told-written (written (emptied None) p.one.own.now (bytes_of None p.one)) p.other.own.now (bytes_of None p.other)
    ∙ told-written (emptied None) p.one.own.now (bytes_of None p.one)
    ∙ told
told-pair (Some f) p told =
    told-written (written (emptied (Some f)) p.one.own.now (bytes_of (Some f) p.one)) p.other.own.now (bytes_of (Some f) p.other)
    ∙ told-written (emptied (Some f)) p.one.own.now (bytes_of (Some f) p.one)

pub bytes-one : (f g : Option Files) (p q : WrittenPair) (name : List ℕ) → g ≡ f → SamePlaces p q → name ≡ p.one.own.now → IsSome f →
    bytes_at (pair_files g q) name ≡ bytes_of f q.one
bytes-one f g p q name same places is told =
    ap (λ h. bytes_at (pair_files h q) name) same ∙ ap (λ n. bytes_at (pair_files f q) n) (is ∙ sym places.one.own)
    ∙ ap (λ (o : Option (List ℕ)). unwrap_or o []) (two-one f q.one.own.now q.other.own.now (bytes_of f q.one) (bytes_of f q.other) q.apart (told-pair f q told))

pub bytes-other : (f g : Option Files) (p q : WrittenPair) (name : List ℕ) → g ≡ f → SamePlaces p q → name ≡ p.other.own.now → IsSome f →
    bytes_at (pair_files g q) name ≡ bytes_of f q.other
bytes-other f g p q name same places is told =
    ap (λ h. bytes_at (pair_files h q) name) same ∙ ap (λ n. bytes_at (pair_files f q) n) (is ∙ sym places.other.own)
    ∙ ap (λ (o : Option (List ℕ)). unwrap_or o []) (two-other f q.one.own.now q.other.own.now (bytes_of f q.one) (bytes_of f q.other) (told-pair f q told))

-- ---- what was written stands in the set

pub part-stands : (f g : Option Files) (w : WrittenPart) (bytes name : List ℕ) (at : ℕ) → g ≡ f → bytes_of f w ≡ bytes → set_name w ≡ name → w.from ≡ at →
    StandAt w.from (bytes_of g w) (bytes_at g (set_name w)) → StandAt at bytes (bytes_at f name)
part-stands f g w bytes name at same is named from stand =
    subst (λ b. StandAt at b (bytes_at f name)) is
    (subst (λ n. StandAt at (bytes_of f w) (bytes_at f n)) named
    (subst (λ a. StandAt a (bytes_of f w) (bytes_at f (set_name w))) from
    (subst (λ h. StandAt w.from (bytes_of h w) (bytes_at h (set_name w))) same stand)))

pub part-stood : (f g : Option Files) (w : WrittenPart) (bytes name : List ℕ) (at : ℕ) → g ≡ f → bytes_of f w ≡ bytes → set_name w ≡ name → w.from ≡ at →
    StandAt at bytes (bytes_at f name) → StandAt w.from (bytes_of g w) (bytes_at g (set_name w))
part-stood f g w bytes name at same is named from stand =
    subst (λ h. StandAt w.from (bytes_of h w) (bytes_at h (set_name w))) (sym same)
    (subst (λ a. StandAt a (bytes_of f w) (bytes_at f (set_name w))) (sym from)
    (subst (λ n. StandAt at (bytes_of f w) (bytes_at f n)) (sym named)
    (subst (λ b. StandAt at b (bytes_at f name)) (sym is) stand)))

-- ---- a part that is written whole

pub whole-stands : (from : ℕ) (part bytes : List ℕ) → from ≡ 0 → part ≡ bytes → StandAt from bytes part
whole-stands from part bytes none same = ap (λ n. take (length bytes) (drop n part)) none ∙ ap (take (length bytes)) same ∙ take_all (length bytes) bytes (omega arith)

pub whole-ends : (result : Result (Unit {0}) PartErr) (f g : Option Files) (w : WrittenPart) (end : ℕ) (part : Part) → g ≡ f → w.from ≡ 0 → end ≡ w.from + length (bytes_of f w) →
    StandAt w.from (bytes_of f w) (bytes_at f (set_name w)) → AnswersSize part end (bytes_at g (set_name w)) result → OnOk result (bytes_at f (set_name w) ≡ bytes_of f w)
whole-ends (Ok done) f g w end part same none end_is stand long =
    let whole : length (bytes_at f (set_name w)) ≤ length (bytes_of f w) = omega (arith, ap (λ h. length (bytes_at h (set_name w))) same, long, end_is, none) in
    sym (take_all (length (bytes_of f w)) (bytes_at f (set_name w)) whole) ∙ sym (ap (λ n. take (length (bytes_of f w)) (drop n (bytes_at f (set_name w)))) none) ∙ stand
whole-ends (Err refusal) f g w end part same none end_is stand long = tt

pub whole-ended : (result : Result (Unit {0}) PartErr) (f g : Option Files) (w : WrittenPart) (end : ℕ) (part : Part) → g ≡ f → w.from ≡ 0 → end ≡ w.from + length (bytes_of f w) →
    AnswersSize part end (bytes_at g (set_name w)) result → IfErr result (Refutes (bytes_at f (set_name w) ≡ bytes_of f w))
whole-ended (Ok done) f g w end part same none end_is long = tt
whole-ended (Err Device) f g w end part same none end_is long = tt
whole-ended (Err Memory) f g w end part same none end_is long = tt
whole-ended (Err (Bad bad)) f g w end part same none end_is long = λ is.
    long.0 (omega (arith, ap (λ h. length (bytes_at h (set_name w))) same, ap (λ (b : List ℕ). length b) is, end_is, none))

pub whole-is : (f g : Option Files) (w : WrittenPart) (bytes name : List ℕ) → g ≡ f → bytes_of f w ≡ bytes → set_name w ≡ name → bytes_at g (set_name w) ≡ bytes_of g w → bytes_at f name ≡ bytes
whole-is f g w bytes name same is named whole =
    subst (λ n. bytes_at f n ≡ bytes) named (subst (λ b. bytes_at f (set_name w) ≡ b) is (subst (λ h. bytes_at h (set_name w) ≡ bytes_of h w) same whole))

pub whole-was : (f g : Option Files) (w : WrittenPart) (bytes name : List ℕ) → g ≡ f → bytes_of f w ≡ bytes → set_name w ≡ name → bytes_at f name ≡ bytes → bytes_at g (set_name w) ≡ bytes_of g w
whole-was f g w bytes name same is named whole =
    subst (λ h. bytes_at h (set_name w) ≡ bytes_of h w) (sym same)
    (subst (λ b. bytes_at f (set_name w) ≡ b) (sym is) (subst (λ n. bytes_at f n ≡ bytes) (sym named) whole))
