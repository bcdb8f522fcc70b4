-- What a list of named files stands for after a look-up, a write at its place, and a push.
use Rattle.std.proofs.Common.{◌≡◌, ◌≢◌, ℕ, suc, zero, ◌+◌, ◌<◌, Bool, true, false, cond, List, [], ◌∷◌, ◌++◌, length, get_or, set, refl, sym, ap, ◌∙◌, subst, arith, Some, None, unwrap_or}
use Rattle.std.specs.declared.option.Option.{Option}
use Rattle.std.specs.Str.{bytes_eq}
use Rattle.std.proofs.lemmas.Slice.Eq.{bytes_eq-Decides}
use Rattle.std.proofs.lemmas.List.Quantifiers.{position-Some}
use Rattle.std.proofs.lemmas.Iterator.Adapters.{position_from-zero}
use Rattle.std.specs.List.{position, position_from}
use Rattle.mg_mem.specs.declared.shelf.MemFile.{MemFile}
use Rattle.mg_dev.specs.Files.{Files, no_files, put, grown, written, file_at}
use Rattle.mg_mem.specs.Shelf.{files_of, is_at}
use Rattle.mg_dev.specs.Laws.{get-put, same_files, put-here, put-other, put-put}
use Rattle.std.specs.FinMap.{get, get-empty}

position_from-None : {X : Type 0} (p : X → Bool) (xs : List X) (i : ℕ) (d : X) → position_from p i xs ≡ None → (k : ℕ) →
    k < length xs → p (get_or xs k d) ≡ false
position_from-None p [] i d none k below = absurd (omega arith)
position_from-None p (x ∷ xs) i d none zero below = first (p x) refl none
  where
    first : (b : Bool) → p x ≡ b → cond b (Some i) (position_from p (i + 1) xs) ≡ None → p x ≡ false
    first true e n = cc
    first false e n = e
position_from-None p (x ∷ xs) i d none (suc k) below = position_from-None p xs (i + 1) d (first (p x) none) k
    (omega arith)
  where
    first : (b : Bool) → cond b (Some i) (position_from p (i + 1) xs) ≡ None → position_from p (i + 1) xs ≡ None
    first true n = cc
    first false n = n

position-None : {X : Type 0} (p : X → Bool) (xs : List X) (d : X) → position p xs ≡ None → (k : ℕ) → k < length xs →
    p (get_or xs k d) ≡ false
position-None p xs d none k below = position_from-None p xs 0 d (sym (position_from-zero p xs) ∙ none) k below

differs : (a b : List ℕ) → bytes_eq a b ≡ false → a ≢ b
differs a b apart same = let together = (bytes_eq-Decides a b).1 same in cc

-- puts under two names in either order
put-swap : (f : Files) (a b x y : List ℕ) → a ≢ b → put (put f a x) b y ≡ put (put f b y) a x
put-swap f a b x y apart = same_files _ _ (λ m.
    get-put (put f a x) b y m ∙ ap (cond (bytes_eq m b) (Some y)) (get-put f a x m)
    ∙ swapped (bytes_eq m a) (bytes_eq m b) (get f m) (Some x) (Some y)
    (λ p q. apart (sym ((bytes_eq-Decides m a).0 p) ∙ (bytes_eq-Decides m b).0 q))
    ∙ sym (get-put (put f b y) a x m ∙ ap (cond (bytes_eq m a) (Some x)) (get-put f b y m)))
  where
    swapped : {A : Type 0} (p q : Bool) (n u v : A) → (p ≡ true → q ≡ true → ⊥) →
        cond q v (cond p u n) ≡ cond p u (cond q v n)
    swapped true true n u v never = absurd (never refl refl)
    swapped true false n u v never = refl
    swapped false true n u v never = refl
    swapped false false n u v never = refl

pub files_of-found : (es : List MemFile) (name : List ℕ) (i : ℕ) (d : MemFile) → i < length es →
    bytes_eq (get_or es i d).name.items name ≡ true →
    ((k : ℕ) → k < i → bytes_eq (get_or es k d).name.items name ≡ false) →
    get (files_of es) name ≡ Some (get_or es i d).bytes.items
files_of-found [] name i d within here before = absurd (omega arith)
files_of-found (e ∷ es) name zero d within here before =
    subst (λ n. get (put (files_of es) e.name.items e.bytes.items) n ≡ Some e.bytes.items)
    ((bytes_eq-Decides e.name.items name).0 here) (put-here (files_of es) e.name.items e.bytes.items)
files_of-found (e ∷ es) name (suc i) d within here before =
    put-other (files_of es) e.name.items e.bytes.items name (λ same.
    differs e.name.items name (before 0 (omega arith)) (sym same))
    ∙ files_of-found es name i d (omega arith) here (λ k below. before (suc k) (omega arith))

pub files_of-set : (es : List MemFile) (name : List ℕ) (i : ℕ) (d new : MemFile) → i < length es →
    bytes_eq (get_or es i d).name.items name ≡ true →
    ((k : ℕ) → k < i → bytes_eq (get_or es k d).name.items name ≡ false) → new.name.items ≡ name →
    files_of (set es i new) ≡ put (files_of es) name new.bytes.items
files_of-set [] name i d new within here before named = absurd (omega arith)
files_of-set (e ∷ es) name zero d new within here before named =
    let same : e.name.items ≡ name = (bytes_eq-Decides e.name.items name).0 here in
    ap (λ n. put (files_of es) n new.bytes.items) named
    ∙ sym (ap (λ n. put (put (files_of es) n e.bytes.items) name new.bytes.items) same
    ∙ put-put (files_of es) name e.bytes.items new.bytes.items)
files_of-set (e ∷ es) name (suc i) d new within here before named =
    ap (λ f. put f e.name.items e.bytes.items)
    (files_of-set es name i d new (omega arith) here (λ k below. before (suc k) (omega arith)) named)
    ∙ put-swap (files_of es) name e.name.items new.bytes.items e.bytes.items
    (λ same. differs e.name.items name (before 0 (omega arith)) (sym same))

pub files_of-none : (es : List MemFile) (name : List ℕ) (d : MemFile) →
    ((k : ℕ) → k < length es → bytes_eq (get_or es k d).name.items name ≡ false) → get (files_of es) name ≡ None
files_of-none [] name d none = get-empty _ name
files_of-none (e ∷ es) name d none =
    put-other (files_of es) e.name.items e.bytes.items name (λ same.
    differs e.name.items name (none 0 (omega arith)) (sym same))
    ∙ files_of-none es name d (λ k below. none (suc k) (omega arith))

pub files_of-push : (es : List MemFile) (name : List ℕ) (d new : MemFile) →
    ((k : ℕ) → k < length es → bytes_eq (get_or es k d).name.items name ≡ false) → new.name.items ≡ name →
    files_of (es ++ new ∷ []) ≡ put (files_of es) name new.bytes.items
files_of-push [] name d new none named = ap (λ n. put no_files n new.bytes.items) named
files_of-push (e ∷ es) name d new none named =
    ap (λ f. put f e.name.items e.bytes.items)
    (files_of-push es name d new (λ k below. none (suc k) (omega arith)) named)
    ∙ put-swap (files_of es) name e.name.items new.bytes.items e.bytes.items
    (λ same. differs e.name.items name (none 0 (omega arith)) (sym same))

-- the same, from what a search answered

pub files_of-at : (es : List MemFile) (name : List ℕ) (i : ℕ) (d : MemFile) → is_at name es ≡ Some i →
    get (files_of es) name ≡ Some (get_or es i d).bytes.items
files_of-at es name i d found =
    let p = position-Some (λ e. bytes_eq e.name.items name) es i d found in
    files_of-found es name i d p.0 p.1 p.2

pub files_of-set_at : (es : List MemFile) (name : List ℕ) (i : ℕ) (d new : MemFile) → is_at name es ≡ Some i →
    new.name.items ≡ (get_or es i d).name.items → files_of (set es i new) ≡ put (files_of es) name new.bytes.items
files_of-set_at es name i d new found named =
    let p = position-Some (λ e. bytes_eq e.name.items name) es i d found in
    files_of-set es name i d new p.0 p.1 p.2 (named ∙ (bytes_eq-Decides (get_or es i d).name.items name).0 p.1)

pub files_of-missing : (es : List MemFile) (name : List ℕ) → is_at name es ≡ None → get (files_of es) name ≡ None
files_of-missing [] name none = get-empty _ name
files_of-missing (e ∷ es) name none = files_of-none (e ∷ es) name e
    (position-None (λ e. bytes_eq e.name.items name) (e ∷ es) e none)

pub files_of-new : (es : List MemFile) (name : List ℕ) (new : MemFile) → is_at name es ≡ None → new.name.items ≡ name →
    files_of (es ++ new ∷ []) ≡ put (files_of es) name new.bytes.items
files_of-new es name new none named = files_of-push es name new new
    (position-None (λ e. bytes_eq e.name.items name) es new none) named

put-same : (f : Files) (n x : List ℕ) → get f n ≡ Some x → put f n x ≡ f
put-same f n x has = same_files _ _ (λ m. get-put f n x m ∙ at m (bytes_eq m n) refl)
  where
    at : (m : List ℕ) (b : Bool) → bytes_eq m n ≡ b → cond b (Some x) (get f m) ≡ get f m
    at m true e = sym (ap (get f) ((bytes_eq-Decides m n).0 e) ∙ has)
    at m false e = refl

-- a file is written again as it is
pub files_of-kept : (es : List MemFile) (name : List ℕ) (i : ℕ) (d new : MemFile) → is_at name es ≡ Some i →
    new.name.items ≡ (get_or es i d).name.items → new.bytes.items ≡ (get_or es i d).bytes.items →
    files_of (set es i new) ≡ files_of es
files_of-kept es name i d new found named same =
    files_of-set_at es name i d new found named ∙ put-same (files_of es) name new.bytes.items
    (files_of-at es name i d found ∙ ap Some (sym same))

-- a file in the list has grown
pub grown-at : (es : List MemFile) (name piece : List ℕ) (i : ℕ) (d new : MemFile) → is_at name es ≡ Some i →
    new.name.items ≡ (get_or es i d).name.items → new.bytes.items ≡ (get_or es i d).bytes.items ++ piece →
    ◌≡◌ {A = Option Files} (Some (files_of (set es i new))) (grown (Some (files_of es)) name piece)
unfolding written file_at
grown-at es name piece i d new found named more =
    ap Some (files_of-set_at es name i d new found named
    ∙ ap (put (files_of es) name) (more ∙ ap (λ o. unwrap_or o [] ++ piece) (sym (files_of-at es name i d found))))

-- a file that was missing has the piece
pub grown-missing : (es : List MemFile) (name piece : List ℕ) (new : Files) → is_at name es ≡ None →
    new ≡ put (files_of es) name piece → ◌≡◌ {A = Option Files} (Some new) (grown (Some (files_of es)) name piece)
unfolding written file_at
grown-missing es name piece new found is =
    ap Some (is ∙ ap (λ o. put (files_of es) name (unwrap_or o [] ++ piece)) (sym (files_of-missing es name found)))
