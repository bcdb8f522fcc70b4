-- The store that compares what is written into it, by what it tells.
use Rattle.std.proofs.Common.{arith, Bool, true, false, cond, max, Ok, Err, unwrap_or, is_some, inl, ◌≡◌, ◌≢◌, ◌≤◌, ◌<◌, ◌+◌, ◌-◌, ◌*◌, ◌^◌, ◌∙◌, ◌∷◌}
use Rattle.std.proofs.Common.{[], ◌++◌, ℕ, List, zero, suc, length, take, drop, min, refl, sym, ap, subst, codes, None, Some, IsSome, length-append, append-nil, append_assoc}
use Rattle.std.proofs.Math.Nat.{pow-succ'}
use Rattle.std.proofs.Math.Seq.{take-add}
use Rattle.std.proofs.lemmas.List.{drop-drop, length-take, length-drop}
use Rattle.std.proofs.lemmas.Slice.Eq.{bytes_eq-Decides}
use Rattle.std.specs.Prelude.{IsFalse, OnOk, OnErr}
use Rattle.std.specs.Option.{option_map}
use Rattle.std.specs.Str.{bytes_eq}
use Rattle.std.specs.declared.result.Result.{Result}
use Rattle.std.specs.FinMap.{entries, get-empty, same_entries_map}
use Rattle.std.specs.declared.option.Option.{Option}
use Rattle.std.specs.Cmp.Lexicographic.{slice_cmp}
use Rattle.std.specs.Ordering.{nat_cmp}
use Rattle.mg_dev.specs.Files.{AfterAppend, Files, Reads, bytes_at, file_at, written, grown, with_read}
use Rattle.mg_dev.specs.Laws.{with_read-here, with_read-other, file_at-written, file_at-other, told-written, written-written, written-grown}
use Rattle.mg_dev.specs.Names.{full_name, number, same_part}
use Rattle.mg_dev.specs.declared.device.PutErr.{PutErr}
use Rattle.mg_dev.specs.declared.device.PutErr.TheVariants.{Failed}
use Rattle.mg_check_parts.specs.Looks.{LooksAtSet, reads_outside}
use Rattle.mg_dev.specs.Causes.{HasPutCause}
use Rattle.mg_dev.specs.PartCauses.{HasPartCause}
use Rattle.mg_dev.specs.declared.part_err.PartErr.{PartErr}
use Rattle.mg_dev.specs.declared.part_err.PartErr.TheVariants.{Bad, Device, Memory}
use Rattle.mg_check_parts.specs.Refusals.{Refutes}
use Rattle.mg_dev.specs.declared.part.Part.{Part}
use Rattle.mg_dev.specs.declared.part.Part.TheVariants.{Head, Words, Nonwords, Text, Places, Lex, LexAt, Post, Skip, Weights, Run, MergeA, MergeB, Plain}
use Rattle.mg_layout.specs.Contents.{StandAt}
use Rattle.mg_check_index.specs.InStore.{code, code_of_files, coded_entries, emptied, followed, own_name, told_faults, told_files, told_reads}

-- ---- numbers that tell lists and files

positive : (x m : ℕ) → 0 < 2 ^ x * (2 * m + 1)
positive zero m = omega arith
positive (suc x) m =
    let e : 2 ^ suc x * (2 * m + 1) ≡ 2 * (2 ^ x * (2 * m + 1)) = ap (λ n. n * (2 * m + 1)) (pow-succ' 2 x) ∙ twice (2 ^ x) (2 * m + 1) in
    omega (arith, positive x m, e)
  where
    twice : (a b : ℕ) → 2 * a * b ≡ 2 * (a * b)
    twice a b = grind arith

halves : (x m : ℕ) → 2 ^ suc x * (2 * m + 1) ≡ 2 * (2 ^ x * (2 * m + 1))
halves x m = ap (λ n. n * (2 * m + 1)) (pow-succ' 2 x) ∙ twice (2 ^ x) (2 * m + 1)
  where
    twice : (a b : ℕ) → 2 * a * b ≡ 2 * (a * b)
    twice a b = grind arith

pair-inj : (x m y n : ℕ) → 2 ^ x * (2 * m + 1) ≡ 2 ^ y * (2 * n + 1) → (x ≡ y) × (m ≡ n)
pair-inj zero m zero n e = (refl, omega (arith, e))
pair-inj zero m (suc y) n e = absurd (omega (arith, e, halves y n))
pair-inj (suc x) m zero n e = absurd (omega (arith, e, halves x m))
pair-inj (suc x) m (suc y) n e =
    let less = pair-inj x m y n (omega (arith, e, halves x m, halves y n)) in (ap suc less.0, less.1)

pub code-inj : (xs ys : List ℕ) → code xs ≡ code ys → xs ≡ ys
unfolding code
code-inj [] [] e = refl
code-inj [] (y ∷ ys) e = absurd (omega (arith, e, positive y (code ys)))
code-inj (x ∷ xs) [] e = absurd (omega (arith, e, positive x (code xs)))
code-inj (x ∷ xs) (y ∷ ys) e =
    let same = pair-inj x (code xs) y (code ys) e in
    ap (λ n. n ∷ xs) same.0 ∙ ap (λ (l : List ℕ). y ∷ l) (code-inj xs ys same.1)

pub head-is : (x y : ℕ) (xs ys : List ℕ) → x ∷ xs ≡ y ∷ ys → x ≡ y
head-is x y xs ys e = cc

pub tail-is : (x y : ℕ) (xs ys : List ℕ) → x ∷ xs ≡ y ∷ ys → xs ≡ ys
tail-is x y xs ys e = cc

never-empty : (x : ℕ) (xs : List ℕ) → [] ≡ x ∷ xs → ⊥
never-empty x xs e = cc

entries-inj : (es ds : List (List ℕ × List ℕ)) → coded_entries es ≡ coded_entries ds → es ≡ ds
entries-inj [] [] e = refl
entries-inj [] (d ∷ ds) e = absurd (never-empty _ _ e)
entries-inj (x ∷ es) [] e = absurd (never-empty _ _ (sym e))
entries-inj ((k, v) ∷ es) ((l, w) ∷ ds) e =
    let key : k ≡ l = code-inj k l (head-is _ _ _ _ e) in
    let rest = tail-is _ _ _ _ e in
    let value : v ≡ w = code-inj v w (head-is _ _ _ _ rest) in
    let more : es ≡ ds = entries-inj es ds (tail-is _ _ _ _ rest) in
    cc

pub files-inj : (f g : Option Files) → code_of_files f ≡ code_of_files g → f ≡ g
unfolding code_of_files
files-inj None None e = refl
files-inj None (Some g) e = absurd (omega (arith, e))
files-inj (Some f) None e = absurd (omega (arith, e))
files-inj (Some f) (Some g) e =
    ap Some (same_entries_map f g (entries-inj (entries f) (entries g) (code-inj (coded_entries (entries f)) (coded_entries (entries g)) (omega (arith, e)))))

-- ---- the name of the file

short-own : length own_name ≡ 1
unfolding full_name
short-own = refl

too-long : (base end : List ℕ) (n : ℕ) → length end ≡ n + 4 → base ++ end ≡ own_name → ⊥
too-long base end n long e = omega (arith, ap length e, length-append base end, short-own, long)

pub own-only : (base : List ℕ) (p : Part) → full_name base p ≡ own_name → (p ≡ Plain) × (base ≡ codes "w")
unfolding full_name
own-only base Head e = absurd (too-long base (codes ".head") 1 refl e)
own-only base Words e = absurd (too-long base (codes ".words") 2 refl e)
own-only base Nonwords e = absurd (too-long base (codes ".nonwords") 5 refl e)
own-only base Text e = absurd (too-long base (codes ".text") 1 refl e)
own-only base Places e = absurd (too-long base (codes ".places") 3 refl e)
own-only base Lex e = absurd (too-long base (codes ".lex") 0 refl e)
own-only base LexAt e = absurd (too-long base (codes ".lexat") 2 refl e)
own-only base Post e = absurd (too-long base (codes ".post") 1 refl e)
own-only base Skip e = absurd (too-long base (codes ".skip") 1 refl e)
own-only base Weights e = absurd (too-long base (codes ".weights") 4 refl e)
own-only base Run e = absurd (too-long base (codes ".run") 0 refl e)
own-only base MergeA e = absurd (too-long base (codes ".mergea") 3 refl e)
own-only base MergeB e = absurd (too-long base (codes ".mergeb") 3 refl e)
own-only base Plain e = (refl, sym (append-nil base) ∙ e)

pub not-plain : (base : List ℕ) (p : Part) (m n : ℕ) → m ≡ number p → n ≡ 13 → m ≢ n → full_name base p ≢ own_name
not-plain base p m n is plain apart e = apart (is ∙ ap number (own-only base p e).0 ∙ sym plain)

pub not-base : (base : List ℕ) (p : Part) (b : Bool) → b ≡ bytes_eq base (codes "w") → IsFalse b → full_name base p ≢ own_name
not-base base p b is differs e = never (sym differs ∙ is ∙ (bytes_eq-Decides base (codes "w")).1 (own-only base p e).1)
  where
    never : false ≡ true → ⊥
    never bad = cc

-- ---- the files

some-emptied : (files : Option Files) (name : List ℕ) (from standing : ℕ) (rest : List ℕ) → IsSome (told_files files name from standing rest) → IsSome (emptied files)
some-emptied files name from standing rest told = sym (told-written (emptied files) own_name (followed files name from standing rest)) ∙ told

some-files : (files : Option Files) (name : List ℕ) (from standing : ℕ) (rest : List ℕ) → IsSome (told_files files name from standing rest) → IsSome files
some-files None name from standing rest told = some-emptied None name from standing rest told
some-files (Some f) name from standing rest told = refl

pub told-own : (files : Option Files) (name : List ℕ) (from standing : ℕ) (rest : List ℕ) → IsSome (told_files files name from standing rest) →
    file_at (told_files files name from standing rest) own_name ≡ Some (followed files name from standing rest)
told-own files name from standing rest told = file_at-written (emptied files) own_name (followed files name from standing rest) (some-emptied files name from standing rest told)

none-emptied : (files : Option Files) (n : List ℕ) → file_at (emptied files) n ≡ None
unfolding file_at
none-emptied None n = refl
none-emptied (Some f) n = get-empty (slice_cmp nat_cmp) n

pub told-other : (files : Option Files) (name : List ℕ) (from standing : ℕ) (rest n : List ℕ) → n ≢ own_name → file_at (told_files files name from standing rest) n ≡ None
told-other files name from standing rest n apart = file_at-other (emptied files) own_name (followed files name from standing rest) n apart ∙ none-emptied files n

told-bytes : (files : Option Files) (name : List ℕ) (from standing : ℕ) (rest n : List ℕ) → n ≢ own_name → bytes_at (told_files files name from standing rest) n ≡ []
told-bytes files name from standing rest n apart = let e : file_at (told_files files name from standing rest) n ≡ None = told-other files name from standing rest n apart in cc

nothing : (at count : ℕ) → ◌≡◌ {A = List ℕ} (take count (drop at [])) []
nothing zero zero = refl
nothing zero (suc count) = refl
nothing (suc at) zero = refl
nothing (suc at) (suc count) = refl

pub told-nothing : (files : Option Files) (name : List ℕ) (from standing : ℕ) (rest n : List ℕ) (at count : ℕ) → n ≢ own_name →
    [] ≡ take count (drop at (bytes_at (told_files files name from standing rest) n))
told-nothing files name from standing rest n at count apart =
    sym (ap (λ (b : List ℕ). take count (drop at b)) (told-bytes files name from standing rest n apart) ∙ nothing at count)

pub told-size : (files : Option Files) (name : List ℕ) (from standing found : ℕ) (rest n : List ℕ) → n ≡ own_name → (IsSome files → found ≡ length (bytes_at files name)) →
    IsSome (told_files files name from standing rest) →
    Some (min (found - from) standing + length rest) ≡ option_map length (file_at (told_files files name from standing rest) n)
told-size files name from standing found rest n own size told =
    let found_is = size (some-files files name from standing rest told) in
    let bytes = bytes_at files name in
    let long : min (found - from) standing + length rest ≡ length (followed files name from standing rest) =
    sym (length-append (take standing (drop from bytes)) rest ∙ ap (λ k. k + length rest) (length-take standing (drop from bytes) ∙ least (length-drop from bytes) found_is)) in
    ap Some long ∙ sym (ap (λ m. option_map length (file_at (told_files files name from standing rest) m)) own ∙ ap (option_map length) (told-own files name from standing rest told))
  where
    least : length (drop from (bytes_at files name)) ≡ length (bytes_at files name) - from → found ≡ length (bytes_at files name) →
        min standing (length (drop from (bytes_at files name))) ≡ min (found - from) standing
    least short is = omega (arith, short, is)

grown-own : (files : Option Files) (name : List ℕ) (from standing : ℕ) (rest piece n : List ℕ) → n ≡ own_name →
    grown (told_files files name from standing rest) n piece ≡ written (emptied files) own_name (followed files name from standing rest ++ piece)
grown-own files name from standing rest piece n own =
    ap (λ m. grown (told_files files name from standing rest) m piece) own ∙ written-grown (emptied files) own_name (followed files name from standing rest) piece

-- bytes more are held
pub held-more : (files : Option Files) (name : List ℕ) (from standing : ℕ) (rest more piece n : List ℕ) → n ≡ own_name → more ≡ rest ++ piece →
    told_files files name from standing more ≡ grown (told_files files name from standing rest) n piece
held-more files name from standing rest more piece n own is =
    ap (written (emptied files) own_name) (ap (λ r. take standing (drop from (bytes_at files name)) ++ r) is ∙ sym (append_assoc (take standing (drop from (bytes_at files name)))
    rest piece))
    ∙ sym (grown-own files name from standing rest piece n own)

pub append-held : (result : Result (Unit {0}) PutErr) (old new : Option Files) (files : Option Files) (name : List ℕ) (from standing : ℕ) (rest more piece n : List ℕ) →
    n ≡ own_name → old ≡ told_files files name from standing rest → new ≡ told_files files name from standing more →
    OnOk result (more ≡ rest ++ piece) → OnErr result (more ≡ rest) → AfterAppend old new n piece result
append-held (Ok done) old new files name from standing rest more piece n own before after held kept =
    after ∙ held-more files name from standing rest more piece n own held ∙ ap (λ f. grown f n piece) (sym before)
append-held (Err refusal) old new files name from standing rest more piece n own before after held kept =
    inl (after ∙ ap (told_files files name from standing) kept ∙ sym before)

pub no-more : (xs : List ℕ) → length xs ≤ 0 → xs ≡ []
no-more [] none = refl
no-more (x ∷ xs) none = absurd (omega (arith, none))

none-written : (name x y : List ℕ) → written None name x ≡ written None name y
unfolding written
none-written name x y = refl

-- bytes more stand there
pub append-standing : (files now : Option Files) (name : List ℕ) (from standing : ℕ) (rest piece n : List ℕ) → n ≡ own_name → now ≡ files → rest ≡ [] →
    (IsSome files → StandAt (from + standing) piece (bytes_at files name)) →
    told_files now name from (standing + length piece) rest ≡ grown (told_files files name from standing rest) n piece
append-standing None now name from standing rest piece n own same none stand =
    ap (λ f. told_files f name from (standing + length piece) rest) same ∙ none-written own_name _ _ ∙ sym (grown-own None name from standing rest piece n own)
append-standing (Some f) now name from standing rest piece n own same none stand =
    let bytes = bytes_at (Some f) name in
    let there : take (length piece) (drop standing (drop from bytes)) ≡ piece = ap (take (length piece)) (drop-drop standing from bytes) ∙ stand refl in
    let all : take (standing + length piece) (drop from bytes) ++ rest ≡ (take standing (drop from bytes) ++ rest) ++ piece =
    ap (λ r. take (standing + length piece) (drop from bytes) ++ r) none ∙ append-nil (take (standing + length piece) (drop from bytes)) ∙ take-add standing (length piece) (drop
    from bytes)
    ∙ ap (λ p. take standing (drop from bytes) ++ p) there ∙ ap (λ t. t ++ piece) (sym (append-nil (take standing (drop from bytes)))) ∙ ap (λ r. (take standing (drop from bytes)
    ++ r) ++ piece) (sym none) in
    ap (λ g. told_files g name from (standing + length piece) rest) same ∙ ap (written (emptied (Some f)) own_name) all ∙ sym (grown-own (Some f) name from standing rest piece n own)

-- nothing is written
pub reset-told : (files : Option Files) (name : List ℕ) (from standing : ℕ) (rest none n : List ℕ) → n ≡ own_name → none ≡ [] →
    told_files files name from 0 none ≡ written (told_files files name from standing rest) n []
reset-told files name from standing rest none n own is =
    ap (λ r. told_files files name from 0 r) is ∙ sym (ap (λ m. written (told_files files name from standing rest) m []) own
    ∙ written-written (emptied files) own_name (followed files name from standing rest) [])

-- ---- the reads

pub reads-same : (ghost_is from looked : ℕ) (name : List ℕ) (f g : Option Files) (r s : Reads) → g ≡ f → reads_outside s ≡ reads_outside r → (p : Part) →
    told_reads ghost_is from name g s looked p ≡ told_reads ghost_is from name f r looked p
unfolding told_reads reads_outside
reads-same ghost_is from looked name f g r s same outside Head = refl
reads-same ghost_is from looked name f g r s same outside Words = refl
reads-same ghost_is from looked name f g r s same outside Nonwords = refl
reads-same ghost_is from looked name f g r s same outside Text = ap (λ o. 2 ^ 64 + code_of_files o) same
reads-same ghost_is from looked name f g r s same outside Places = ap (λ n. 2 ^ 64 + n) (head-is _ _ _ _ outside)
reads-same ghost_is from looked name f g r s same outside Lex = ap (λ n. 2 ^ 64 + n) (head-is _ _ _ _ (tail-is _ _ _ _ outside))
reads-same ghost_is from looked name f g r s same outside LexAt = ap (λ n. 2 ^ 64 + n) (head-is _ _ _ _ (tail-is _ _ _ _ (tail-is _ _ _ _ outside)))
reads-same ghost_is from looked name f g r s same outside Post = refl
reads-same ghost_is from looked name f g r s same outside Skip = refl
reads-same ghost_is from looked name f g r s same outside Weights = refl
reads-same ghost_is from looked name f g r s same outside Run = refl
reads-same ghost_is from looked name f g r s same outside MergeA = refl
reads-same ghost_is from looked name f g r s same outside MergeB = refl
reads-same ghost_is from looked name f g r s same outside Plain = refl

-- a count behind its end
still : (n : ℕ) (b : Bool) → 2 ^ 64 + n ≡ cond b (max (2 ^ 64 + n) (min (2 ^ 64 + n + 1) (2 ^ 64 - 1))) (2 ^ 64 + n)
still n true = omega arith
still n false = refl

-- a read of a part, of which the count of Plain is told
pub reads-read : (ghost_is from looked now : ℕ) (name : List ℕ) (f : Option Files) (r : Reads) (part : Part) →
    now ≡ with_read (told_reads ghost_is from name f r looked) part Plain → (p : Part) →
    told_reads ghost_is from name f r now p ≡ with_read (told_reads ghost_is from name f r looked) part p
unfolding told_reads with_read
reads-read ghost_is from looked now name f r part plain Head = still ghost_is (same_part Head part)
reads-read ghost_is from looked now name f r part plain Words = still from (same_part Words part)
reads-read ghost_is from looked now name f r part plain Nonwords = still (code name) (same_part Nonwords part)
reads-read ghost_is from looked now name f r part plain Text = still (code_of_files f) (same_part Text part)
reads-read ghost_is from looked now name f r part plain Places = still (r MergeA) (same_part Places part)
reads-read ghost_is from looked now name f r part plain Lex = still (r MergeB) (same_part Lex part)
reads-read ghost_is from looked now name f r part plain LexAt = still (r Plain) (same_part LexAt part)
reads-read ghost_is from looked now name f r part plain Post = still 0 (same_part Post part)
reads-read ghost_is from looked now name f r part plain Skip = still 0 (same_part Skip part)
reads-read ghost_is from looked now name f r part plain Weights = still 0 (same_part Weights part)
reads-read ghost_is from looked now name f r part plain Run = still 0 (same_part Run part)
reads-read ghost_is from looked now name f r part plain MergeA = still 0 (same_part MergeA part)
reads-read ghost_is from looked now name f r part plain MergeB = still 0 (same_part MergeB part)
reads-read ghost_is from looked now name f r part plain Plain = plain

of-number : (p : Part) → number p ≡ 13 → p ≡ Plain
of-number Plain e = refl
of-number Head e = absurd (omega (arith, e))
of-number Words e = absurd (omega (arith, e))
of-number Nonwords e = absurd (omega (arith, e))
of-number Text e = absurd (omega (arith, e))
of-number Places e = absurd (omega (arith, e))
of-number Lex e = absurd (omega (arith, e))
of-number LexAt e = absurd (omega (arith, e))
of-number Post e = absurd (omega (arith, e))
of-number Skip e = absurd (omega (arith, e))
of-number Weights e = absurd (omega (arith, e))
of-number Run e = absurd (omega (arith, e))
of-number MergeA e = absurd (omega (arith, e))
of-number MergeB e = absurd (omega (arith, e))

other-part : (p : Part) → number p ≢ 13 → same_part Plain p ≡ false
other-part Plain e = absurd (e refl)
other-part Head e = refl
other-part Words e = refl
other-part Nonwords e = refl
other-part Text e = refl
other-part Places e = refl
other-part Lex e = refl
other-part LexAt e = refl
other-part Post e = refl
other-part Skip e = refl
other-part Weights e = refl
other-part Run e = refl
other-part MergeA e = refl
other-part MergeB e = refl

plain-told : (ghost_is from looked : ℕ) (name : List ℕ) (f : Option Files) (r : Reads) → told_reads ghost_is from name f r looked Plain ≡ looked
unfolding told_reads
plain-told ghost_is from looked name f r = refl

-- a read of another part than Plain
pub reads-other : (ghost_is from looked : ℕ) (name : List ℕ) (f : Option Files) (r : Reads) (part : Part) (m n : ℕ) → m ≡ number part → n ≡ 13 → m ≢ n → (p : Part) →
    told_reads ghost_is from name f r looked p ≡ with_read (told_reads ghost_is from name f r looked) part p
reads-other ghost_is from looked name f r part m n is plain apart =
    reads-read ghost_is from looked looked name f r part (sym (with_read-other (told_reads ghost_is from name f r looked) part Plain (other-part part (λ e. apart (is ∙ e ∙ sym
    plain))) ∙ plain-told ghost_is from looked name f r))

-- a read of Plain
pub reads-plain : (ghost_is from looked now : ℕ) (name : List ℕ) (f : Option Files) (r : Reads) (part : Part) (m n : ℕ) → m ≡ number part → n ≡ 13 → m ≡ n →
    now ≡ max looked (min (looked + 1) (2 ^ 64 - 1)) → (p : Part) →
    told_reads ghost_is from name f r now p ≡ with_read (told_reads ghost_is from name f r looked) part p
reads-plain ghost_is from looked now name f r part m n is plain same count =
    let part_is : part ≡ Plain = of-number part (sym is ∙ same ∙ plain) in
    reads-read ghost_is from looked now name f r part
    (count ∙ ap (λ k. max k (min (k + 1) (2 ^ 64 - 1))) (sym (plain-told ghost_is from looked name f r)) ∙ sym (with_read-here (told_reads ghost_is from name f r looked) Plain) ∙
    ap (λ q. with_read (told_reads ghost_is from name f r looked) q Plain) (sym part_is))

-- ---- what is kept where the reads are the same

module _ (ghost_is ghost_now from from_now looked looked_now : ℕ) (name name_now : List ℕ) (f g : Option Files) (r s : Reads)
    (same : (p : Part) → told_reads ghost_now from_now name_now g s looked_now p ≡ told_reads ghost_is from name f r looked p) where
  pub kept-ghost : ghost_now ≡ ghost_is
  unfolding told_reads
  kept-ghost = let e : 2 ^ 64 + ghost_now ≡ 2 ^ 64 + ghost_is = same Head in omega (arith, e)

  pub kept-from : from_now ≡ from
  unfolding told_reads
  kept-from = let e : 2 ^ 64 + from_now ≡ 2 ^ 64 + from = same Words in omega (arith, e)

  pub kept-name : name_now ≡ name
  unfolding told_reads
  kept-name = let e : 2 ^ 64 + code name_now ≡ 2 ^ 64 + code name = same Nonwords in code-inj name_now name (omega (arith, e))

  pub kept-files : g ≡ f
  unfolding told_reads
  kept-files = let e : 2 ^ 64 + code_of_files g ≡ 2 ^ 64 + code_of_files f = same Text in files-inj g f (omega (arith, e))

  pub kept-outside : reads_outside s ≡ reads_outside r
  unfolding told_reads reads_outside
  kept-outside =
      let a : 2 ^ 64 + s MergeA ≡ 2 ^ 64 + r MergeA = same Places in
      let b : 2 ^ 64 + s MergeB ≡ 2 ^ 64 + r MergeB = same Lex in
      let p : 2 ^ 64 + s Plain ≡ 2 ^ 64 + r Plain = same LexAt in
      let one : s MergeA ≡ r MergeA = omega (arith, a) in
      let two : s MergeB ≡ r MergeB = omega (arith, b) in
      let three : s Plain ≡ r Plain = omega (arith, p) in
      cc

  pub kept-looked : looked_now ≡ looked
  unfolding told_reads
  kept-looked = same Plain

pub kept-cause : {T : Type 0} {result : Result T PutErr} (looked now m n : ℕ) → looked ≡ 0 → now ≡ looked → HasPutCause (told_faults m looked) (told_faults n now) result →
    HasPutCause m n result
kept-cause {result = result} looked now m n none same cause =
    let e : now ≡ 0 = same ∙ none in
    subst (λ k. HasPutCause m (told_faults n k) result) e (subst (λ k. HasPutCause (told_faults m k) (told_faults n now) result) none cause)

some-told : (files : Option Files) (name : List ℕ) (from standing : ℕ) (rest : List ℕ) → IsSome files → IsSome (told_files files name from standing rest)
some-told None name from standing rest told = told-written None own_name (followed None name from standing rest) ∙ told
some-told (Some f) name from standing rest told = told-written (emptied (Some f)) own_name (followed (Some f) name from standing rest)

-- what was written, by the file that is told
pub written-followed : {T E : Type 0} (result : Result T E) (files now : Option Files) (name name_now : List ℕ) (from from_now standing standing_now : ℕ)
    (rest rest_now run : List ℕ) → now ≡ files → name_now ≡ name → from_now ≡ from →
    is_some (told_files now name_now from_now standing_now rest_now) ≡ is_some (told_files files name from standing rest) →
    (IsSome (told_files files name from standing rest) → OnOk result (bytes_at (told_files now name_now from_now standing_now rest_now) own_name ≡ run)) →
    IsSome files → OnOk result (followed files name from standing_now rest_now ≡ run)
written-followed (Ok done) files now name name_now from from_now standing standing_now rest rest_now run same_files same_name same_from tells bytes told =
    let before : IsSome (told_files files name from standing rest) = some-told files name from standing rest told in
    let own = told-own now name_now from_now standing_now rest_now (tells ∙ before) in
    let here : bytes_at (told_files now name_now from_now standing_now rest_now) own_name ≡ followed now name_now from_now standing_now rest_now =
    ap (λ (o : Option (List ℕ)). unwrap_or o []) own in
    let there : followed now name_now from_now standing_now rest_now ≡ followed files name from standing_now rest_now = cc in
    sym there ∙ sym here ∙ bytes before
written-followed (Err refusal) files now name name_now from from_now standing standing_now rest rest_now run same_files same_name same_from tells bytes told = tt

-- ---- what was written stands where the rest of it does

pub stand-more : (n : ℕ) (xs rest : List ℕ) → take (length rest) (drop n xs) ≡ rest → take (length (take n xs ++ rest)) xs ≡ take n xs ++ rest
stand-more zero xs rest h = h
stand-more (suc n) [] rest h = h
stand-more (suc n) (x ∷ xs) rest h = ap (λ (l : List ℕ). x ∷ l) (stand-more n xs rest h)

pub stand-less : (n : ℕ) (xs rest : List ℕ) → take (length (take n xs ++ rest)) xs ≡ take n xs ++ rest → take (length rest) (drop n xs) ≡ rest
stand-less zero xs rest h = h
stand-less (suc n) [] rest h = h
stand-less (suc n) (x ∷ xs) rest h = stand-less n xs rest (tail-is _ _ _ _ h)

pub followed-stands : (files : Option Files) (name : List ℕ) (from standing : ℕ) (rest run : List ℕ) → followed files name from standing rest ≡ run →
    StandAt (from + standing) rest (bytes_at files name) → StandAt from run (bytes_at files name)
followed-stands files name from standing rest run is stand =
    let bytes = bytes_at files name in
    let there : take (length rest) (drop standing (drop from bytes)) ≡ rest = ap (take (length rest)) (drop-drop standing from bytes) ∙ stand in
    subst (λ (b : List ℕ). take (length b) (drop from bytes) ≡ b) is (stand-more standing (drop from bytes) rest there)

pub rest-stands : (files : Option Files) (name : List ℕ) (from standing : ℕ) (rest run : List ℕ) → followed files name from standing rest ≡ run →
    StandAt from run (bytes_at files name) → StandAt (from + standing) rest (bytes_at files name)
rest-stands files name from standing rest run is stand =
    let bytes = bytes_at files name in
    let whole : take (length (take standing (drop from bytes) ++ rest)) (drop from bytes) ≡ take standing (drop from bytes) ++ rest =
    subst (λ (b : List ℕ). take (length b) (drop from bytes) ≡ b) (sym is) stand in
    sym (ap (take (length rest)) (drop-drop standing from bytes)) ∙ stand-less standing (drop from bytes) rest whole

-- ---- a run that was written and compared

pub run-stands : (f f0 f1 : Option Files) (n n0 n1 : List ℕ) (at a0 a1 standing : ℕ) (rest run : List ℕ) → f0 ≡ f → f1 ≡ f0 → n0 ≡ n → n1 ≡ n0 → a0 ≡ at → a1 ≡ a0 →
    (IsSome f0 → followed f0 n0 a0 standing rest ≡ run) → (IsSome f1 → StandAt (a1 + standing) rest (bytes_at f1 n1)) → IsSome f → StandAt at run (bytes_at f n)
run-stands f f0 f1 n n0 n1 at a0 a1 standing rest run is_f is_f1 is_n is_n1 is_a is_a1 wrote stand told =
    let told0 : IsSome f0 = subst (λ (g : Option Files). IsSome g) (sym is_f) told in
    let told1 : IsSome f1 = subst (λ (g : Option Files). IsSome g) (sym is_f1) told0 in
    let w = wrote told0 in
    let s = stand told1 in
    let w_is : followed f n at standing rest ≡ run = cc in
    let s_is : take (length rest) (drop (at + standing) (bytes_at f n)) ≡ rest = cc in
    followed-stands f n at standing rest run w_is s_is

pub run-refuted : (refusal : PartErr) (f f0 f1 : Option Files) (n n0 n1 : List ℕ) (at a0 a1 standing : ℕ) (rest run : List ℕ) → f0 ≡ f → f1 ≡ f0 → n0 ≡ n → n1 ≡ n0 →
    a0 ≡ at → a1 ≡ a0 → (IsSome f0 → followed f0 n0 a0 standing rest ≡ run) → (IsSome f1 → Refutes (StandAt (a1 + standing) rest (bytes_at f1 n1)) refusal) →
    IsSome f → Refutes (StandAt at run (bytes_at f n)) refusal
run-refuted Device f f0 f1 n n0 n1 at a0 a1 standing rest run is_f is_f1 is_n is_n1 is_a is_a1 wrote other told = tt
run-refuted Memory f f0 f1 n n0 n1 at a0 a1 standing rest run is_f is_f1 is_n is_n1 is_a is_a1 wrote other told = tt
run-refuted (Bad bad) f f0 f1 n n0 n1 at a0 a1 standing rest run is_f is_f1 is_n is_n1 is_a is_a1 wrote other told = λ stand.
    let told0 : IsSome f0 = subst (λ (g : Option Files). IsSome g) (sym is_f) told in
    let told1 : IsSome f1 = subst (λ (g : Option Files). IsSome g) (sym is_f1) told0 in
    let w = wrote told0 in
    let w_is : followed f n at standing rest ≡ run = cc in
    let s = rest-stands f n at standing rest run w_is stand in
    let s_is : take (length rest) (drop (a1 + standing) (bytes_at f1 n1)) ≡ rest = cc in
    other told1 s_is

module _ {X : Type 0} (files : X → Option Files) (reads : X → Reads) (faults : X → ℕ) where
  -- what a run's writer did, told of the store before it and of what is left of it
  pub looks-run : {T U : Type 0} {r : Result T PutErr} (answer : Result U PartErr) (old at now last : X) → at ≡ old → last ≡ now → files now ≡ files at →
      reads_outside (reads now) ≡ reads_outside (reads at) → HasPutCause (faults at) (faults now) r → ((m n : ℕ) → HasPutCause m n r → HasPartCause m n answer) →
      LooksAtSet answer (files old) (files last) (reads old) (reads last) (faults old) (faults last)
  looks-run answer old at now last before after same outside cause told =
      subst (λ x. LooksAtSet answer (files old) (files x) (reads old) (reads x) (faults old) (faults x)) (sym after)
      (subst (λ x. LooksAtSet answer (files x) (files now) (reads x) (reads now) (faults x) (faults now)) before
      (record { files = same; unread = outside; cause = told (faults at) (faults now) cause }))

  pub looks-left : {U : Type 0} (answer : Result U PartErr) (old now last : X) → last ≡ now →
      LooksAtSet answer (files old) (files now) (reads old) (reads now) (faults old) (faults now) →
      LooksAtSet answer (files old) (files last) (reads old) (reads last) (faults old) (faults last)
  looks-left answer old now last after looks = subst (λ x. LooksAtSet answer (files old) (files x) (reads old) (reads x) (faults old) (faults x)) (sym after) looks

pub failed-device : {U : Type 0} (refusal : PutErr) (m n : ℕ) → refusal ≡ Failed → HasPutCause {T = ℕ} m n (Err refusal) → HasPartCause {T = U} m n (Err Device)
failed-device refusal m n is cause = record { later = cause.later; device = cause.failed (ap (λ (e : PutErr). Err e) is) }
