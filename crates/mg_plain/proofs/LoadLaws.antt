-- Laws of loading.
use Rattle.std.proofs.Common.{◌≡◌, ℕ, ◌≤◌, List, [], ◌++◌, length, take, drop, Some, None, Err, IsSome, unwrap_or, refl, sym, ◌∙◌, ap, subst, arith}
use Rattle.std.specs.Option.{option_map}
use Rattle.std.specs.declared.option.Option.{Option}
use Rattle.std.specs.declared.result.Result.{Result}
use Rattle.std.proofs.Math.Seq.{take-length}
use Rattle.std.proofs.lemmas.List.{take_all, take-append-le}
use Rattle.mg_dev.specs.Files.{Files, file_at, bytes_at, HasSize}
use Rattle.mg_dev.specs.Laws.{read_count, size_is}
use Rattle.mg_dev.specs.declared.fault.Fault.{Fault}
use Rattle.mg_dev.specs.declared.fault.Fault.TheVariants.{ReadFault}
use Rattle.mg_defs.specs.Replies.{session, reply}
use Rattle.mg_defs.specs.Session.{session_of}
use Rattle.mg_defs.specs.declared.session.Hearing.{Hearing}
use Rattle.mg_reply.specs.PrintedLines.{RepliedBroken}
use Rattle.mg_reply.specs.Served.{PrintedInTurn}
use Rattle.mg_plain.specs.Stops.{LoadStops}

-- a file that is told to have a size is there
there : (o : Option (List ℕ)) (size : ℕ) → ◌≡◌ {A = Option ℕ} (Some size) (option_map length o) → (b : List ℕ) × (o ≡ Some b)
there None size e = cc
there (Some b) size e = (b, refl)

-- what was read whole is the file
pub loaded : (now files : Option Files) (name full buf : List ℕ) (n size : ℕ) → full ≡ name → now ≡ files → HasSize files name size →
    (IsSome now → take n buf ≡ take (length buf) (drop 0 (bytes_at now full))) → n ≡ length buf → length buf ≡ size → IsSome files →
    file_at files name ≡ Some buf
loaded now files name full buf n size same_name same known is all long told =
    let is2 : take n buf ≡ take (length buf) (bytes_at files name) = subst (λ x. IsSome files → take n buf ≡ take (length buf) (bytes_at files x)) same_name
    (subst (λ f. IsSome f → take n buf ≡ take (length buf) (bytes_at f full)) same is) told in
    let found = there (file_at files name) size (known told) in
    let here : bytes_at files name ≡ found.0 = ap (λ o. unwrap_or o []) found.1 in
    let size_of : length (bytes_at files name) ≡ size = size_is files name size (known told) in
    let whole : buf ≡ bytes_at files name = sym (take-length buf) ∙ ap (λ k. take k buf) (sym all) ∙ is2 ∙ take_all (length buf) (bytes_at files name) (omega (arith, size_of, long)) in
    found.1 ∙ ap Some (sym here ∙ sym whole)

-- a told file gives as many bytes as its size
pub not_changed : (now files : Option Files) (name full buf : List ℕ) (n size : ℕ) → full ≡ name → now ≡ files → HasSize files name size →
    (IsSome now → take n buf ≡ take (length buf) (drop 0 (bytes_at now full))) → n ≤ length buf → length buf ≡ size → IsSome files → n ≡ length buf
not_changed now files name full buf n size same_name same known is within long told =
    let size_of : length (bytes_at files name) ≡ size = size_is files name size (known told) in
    let size_full : length (bytes_at files full) ≡ size = ap (λ x. length (bytes_at files x)) same_name ∙ size_of in
    omega (arith, read_count now files full buf 0 n same is told within, size_full, long)

pub none_there : (files : Option Files) (name full : List ℕ) → full ≡ name → (IsSome files → ◌≡◌ {A = Option ℕ} None (option_map length (file_at files full))) →
    IsSome files → file_at files name ≡ None
none_there files name full same missing told = subst (λ x. file_at files x ≡ None) same (gone (file_at files full) (missing told))
  where
    gone : (o : Option (List ℕ)) → ◌≡◌ {A = Option ℕ} None (option_map length o) → o ≡ None
    gone None e = refl
    gone (Some b) e = cc

-- what stands in a vector after a write to all of its places
pub vec_front : {X : Type 0} (n : ℕ) (buf items : List X) → n ≡ length buf → take n (buf ++ drop (length buf) items) ≡ buf
vec_front n buf items e = ap (λ k. take k (buf ++ drop (length buf) items)) e ∙ take-append-le (length buf) buf (drop (length buf) items) (omega arith) ∙ take-length buf

-- the session over a file is that over its bytes
pub session_over : (files : Option Files) (name text given : List ℕ) → file_at files name ≡ Some text → session (bytes_at files name) given ≡ session_of (reply text) given
unfolding session
session_over files name text given there = ap (λ o. session_of (reply (unwrap_or o [])) given) there

-- and so are the replies of one who answers from it
pub turns_over : (hearing : Hearing) (files : Option Files) (name text : List ℕ) {input input_now before now : Option (List ℕ)} →
    file_at files name ≡ Some text → PrintedInTurn hearing (reply text) input input_now before now →
    PrintedInTurn hearing (reply (bytes_at files name)) input input_now before now
turns_over hearing files name text {input} {input_now} {before} {now} there turns =
    subst (λ o. PrintedInTurn hearing (reply (unwrap_or o [])) input input_now before now) (sym there) turns

-- and what an input that failed was replied to
pub broken_over : (hearing : Hearing) (files : Option Files) (name text given : List ℕ) (left before now : Option (List ℕ)) →
    file_at files name ≡ Some text → RepliedBroken hearing (reply text) before now left given →
    RepliedBroken hearing (reply (bytes_at files name)) before now left given
broken_over hearing files name text given left before now there broken =
    subst (λ o. RepliedBroken hearing (reply (unwrap_or o [])) before now left given) (sym there) broken

-- a collection is not loaded for another cause than a failed input
pub not_read : (rose : Type 0) (files : Option Files) (name : List ℕ) (f : Fault) (X : Type 0) → LoadStops rose files name f →
    ◌≡◌ {A = Result (Unit {0}) Fault} (Err f) (Err ReadFault) → X
not_read rose files name f X stops is = let same : f ≡ ReadFault = cc in absurd (subst (LoadStops rose files name) same stops)
