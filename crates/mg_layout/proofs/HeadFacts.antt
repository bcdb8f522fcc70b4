-- What reading the bytes of a head tells of the part that begins with them.
use Rattle.std.proofs.Common.{arith, ◌≡◌, ◌≢◌, ◌+◌, ◌≤◌, ◌<◌, ◌==◌, ◌++◌, ◌∷◌, ◌∙◌, ℕ, true, false, List, [], length, take}
use Rattle.std.proofs.Common.{Some, None, Ok, Err, MatchResult, IfOk, sym, ap, subst, cond, nat_lt, slice_index, find, min, length-take}
use Rattle.std.specs.declared.option.Option.{Option}
use Rattle.std.specs.declared.result.Result.{Result}
use Rattle.std.specs.Option.{option_or}
use Rattle.std.proofs.lemmas.Bool.Decides.{nat_tests}
use Rattle.std.proofs.lemmas.List.{take_all}
use Rattle.std.proofs.lemmas.List.Folds.{find-append}
use Rattle.mg_dev.specs.declared.bad.Bad.{Bad}
use Rattle.mg_defs.specs.Heads as defs
use Rattle.mg_defs.specs.Heads.{first_damage, is_wrong, exactly, within, magic_checks, first_checks, narrow_checks, wide_checks, rest_checks, read_head, narrow_head, wide_head, IsHead}
use Rattle.mg_defs.specs.Limits.{limits}
use Rattle.mg_defs.proofs.NumberLaws.{slice_index-take, piece_small}
use Rattle.mg_defs.proofs.HeadLaws.{undamaged}
use Rattle.mg_layout.specs.declared.head.Head.{Head}
use Rattle.mg_layout.specs.HeadAnswers.{fields_of, AnswersParse, TellsOf}

-- a part begins with these bytes
pub same_index : (size : ℕ) (buf all : List ℕ) (i : ℕ) → 64 ≤ size → take (min 80 size) buf ≡ take 80 all → i < 64 → slice_index buf i ≡ slice_index all i
same_index size buf all i long agree within = sym (slice_index-take (min 80 size) i buf (omega arith)) ∙ ap (λ t. slice_index t i) agree ∙ slice_index-take 80 i all (omega arith)

pub same_magic : (low high size : ℕ) (buf all : List ℕ) → 64 ≤ size → take (min 80 size) buf ≡ take 80 all → magic_checks low high buf ≡ magic_checks low high all
same_magic low high size buf all long agree = λ j. exactly 0 77 (at0 j) ∷ exactly 1 71 (at1 j) ∷ exactly 2 82 (at2 j) ∷ exactly 3 79 (at3 j) ∷
    exactly 4 87 (at4 j) ∷ exactly 5 118 (at5 j) ∷ within 6 (48 + low) (48 + high) (at6 j) ∷ exactly 7 10 (at7 j) ∷ []
  where
    at0 : slice_index buf 0 ≡ slice_index all 0
    at0 = same_index size buf all 0 long agree (omega arith)

    at1 : slice_index buf 1 ≡ slice_index all 1
    at1 = same_index size buf all 1 long agree (omega arith)

    at2 : slice_index buf 2 ≡ slice_index all 2
    at2 = same_index size buf all 2 long agree (omega arith)

    at3 : slice_index buf 3 ≡ slice_index all 3
    at3 = same_index size buf all 3 long agree (omega arith)

    at4 : slice_index buf 4 ≡ slice_index all 4
    at4 = same_index size buf all 4 long agree (omega arith)

    at5 : slice_index buf 5 ≡ slice_index all 5
    at5 = same_index size buf all 5 long agree (omega arith)

    at6 : slice_index buf 6 ≡ slice_index all 6
    at6 = same_index size buf all 6 long agree (omega arith)

    at7 : slice_index buf 7 ≡ slice_index all 7
    at7 = same_index size buf all 7 long agree (omega arith)

not_short : (n : ℕ) → 64 ≤ n → nat_lt n 64 ≡ false
not_short n long = grind (arith, nat_tests)

-- the first damage is that of the first eight bytes, or of what comes after them
in_order : (low high : ℕ) (all : List ℕ) → 64 ≤ length all → first_damage low high all ≡ option_or (find is_wrong (magic_checks low high all)) (find is_wrong (rest_checks all))
unfolding first_damage
in_order low high all long = ap (λ b. cond b (Some (exactly 0 64 (length all))) (find is_wrong (magic_checks low high all ++ rest_checks all)))
    (not_short (length all) long) ∙ find-append is_wrong (magic_checks low high all) (rest_checks all)

pub tells_magic : (low high size : ℕ) (buf all : List ℕ) (bad : Bad) → 64 ≤ size → length all ≡ size → take (min 80 size) buf ≡ take 80 all →
    TellsOf bad (find is_wrong (magic_checks low high buf)) → TellsOf bad (first_damage low high all)
tells_magic low high size buf all bad long is agree tells = record {
  part_is = tells.part_is;
  damage_is = in_order low high all (omega arith) ∙ ap (λ o. option_or o (find is_wrong (rest_checks all))) (ap (find is_wrong) (sym (same_magic low high size buf all long agree)) ∙ tells.damage_is);
}

pub after_magic : (low high size : ℕ) (buf all : List ℕ) → 64 ≤ size → length all ≡ size → take (min 80 size) buf ≡ take 80 all →
    find is_wrong (magic_checks low high buf) ≡ None → first_damage low high all ≡ find is_wrong (rest_checks all)
after_magic low high size buf all long is agree none = in_order low high all (omega arith)
    ∙ ap (λ o. option_or o (find is_wrong (rest_checks all))) (ap (find is_wrong) (sym (same_magic low high size buf all long agree)) ∙ none)

narrow_rest : (all : List ℕ) → slice_index all 6 ≡ 49 → rest_checks all ≡ exactly 0 64 (length all) ∷ (first_checks (limits 1) all ++ narrow_checks all)
narrow_rest all e = ap (λ b. cond b (exactly 0 64 (length all) ∷ (first_checks (limits 1) all ++ narrow_checks all))
    (exactly 0 80 (length all) ∷ (first_checks (limits 2) all ++ wide_checks all))) (yes (slice_index all 6) e)
  where
    yes : (d : ℕ) → d ≡ 49 → (d == 49) ≡ true
    yes d e = grind (arith, nat_tests)

wide_rest : (all : List ℕ) → slice_index all 6 ≢ 49 → rest_checks all ≡ exactly 0 80 (length all) ∷ (first_checks (limits 2) all ++ wide_checks all)
wide_rest all e = ap (λ b. cond b (exactly 0 64 (length all) ∷ (first_checks (limits 1) all ++ narrow_checks all))
    (exactly 0 80 (length all) ∷ (first_checks (limits 2) all ++ wide_checks all))) (other (slice_index all 6) e)
  where
    other : (d : ℕ) → d ≢ 49 → (d == 49) ≡ false
    other d e = grind (arith, nat_tests)

size_wrong : (wanted n : ℕ) (rest : List defs.Check) → n ≢ wanted → find is_wrong (exactly 0 wanted n ∷ rest) ≡ Some (exactly 0 wanted n)
size_wrong wanted n rest apart = ap (λ b. cond b (Some (exactly 0 wanted n)) (find is_wrong rest)) (wrong wanted n apart)
  where
    wrong : (wanted n : ℕ) → n ≢ wanted → is_wrong (exactly 0 wanted n) ≡ true
    wrong wanted n apart = grind (arith, nat_tests)

size_right : (wanted n : ℕ) (rest : List defs.Check) → n ≡ wanted → find is_wrong (exactly 0 wanted n ∷ rest) ≡ find is_wrong rest
size_right wanted n rest same = ap (λ b. cond b (Some (exactly 0 wanted n)) (find is_wrong rest)) (right wanted n same)
  where
    right : (wanted n : ℕ) → n ≡ wanted → is_wrong (exactly 0 wanted n) ≡ false
    right wanted n same = grind (arith, nat_tests)

pub tells_narrow_size : (all : List ℕ) (size : ℕ) (bad : Bad) (check : defs.Check) (damage : Option defs.Check) → damage ≡ find is_wrong (rest_checks all) →
    slice_index all 6 ≡ 49 → length all ≡ size → size ≢ 64 → check ≡ exactly 0 64 size → TellsOf bad (Some check) → TellsOf bad damage
tells_narrow_size all size bad check damage d digit is apart e tells = record {
  part_is = tells.part_is;
  damage_is = d ∙ ap (find is_wrong) (narrow_rest all digit) ∙ size_wrong 64 (length all) (first_checks (limits 1) all ++ narrow_checks all)
      (λ same. apart (sym is ∙ same)) ∙ ap (λ n. Some (exactly 0 64 n)) is ∙ ap Some (sym e) ∙ tells.damage_is;
}

pub tells_wide_size : (all : List ℕ) (size : ℕ) (bad : Bad) (check : defs.Check) (damage : Option defs.Check) → damage ≡ find is_wrong (rest_checks all) →
    slice_index all 6 ≢ 49 → length all ≡ size → size ≢ 80 → check ≡ exactly 0 80 size → TellsOf bad (Some check) → TellsOf bad damage
tells_wide_size all size bad check damage d digit is apart e tells = record {
  part_is = tells.part_is;
  damage_is = d ∙ ap (find is_wrong) (wide_rest all digit) ∙ size_wrong 80 (length all) (first_checks (limits 2) all ++ wide_checks all)
      (λ same. apart (sym is ∙ same)) ∙ ap (λ n. Some (exactly 0 80 n)) is ∙ ap Some (sym e) ∙ tells.damage_is;
}

-- what reading the fields of these bytes answered
abbrev pub NarrowRead : List ℕ → Result Head Bad → Type 0
NarrowRead bytes r = MatchResult r (λ head. (find is_wrong (first_checks (limits 1) bytes ++ narrow_checks bytes) ≡ None)
    × (fields_of head ≡ narrow_head bytes)) (λ bad. TellsOf bad (find is_wrong (first_checks (limits 1) bytes ++ narrow_checks bytes)))

abbrev pub WideRead : List ℕ → Result Head Bad → Type 0
WideRead bytes r = MatchResult r (λ head. (find is_wrong (first_checks (limits 2) bytes ++ wide_checks bytes) ≡ None) × (fields_of head ≡ wide_head bytes))
    (λ bad. TellsOf bad (find is_wrong (first_checks (limits 2) bytes ++ wide_checks bytes)))

pub narrow_answers : (low high : ℕ) (all : List ℕ) (r : Result Head Bad) → 1 ≤ low → high ≤ 2 → ((i : ℕ) → slice_index all i < 256) →
    first_damage low high all ≡ find is_wrong (rest_checks all) → slice_index all 6 ≡ 49 → length all ≡ 64 →
    NarrowRead all r → AnswersParse low high all r
unfolding read_head
narrow_answers low high all (Ok head) some few small d digit is read =
    let damage : first_damage low high all ≡ None = d ∙ ap (find is_wrong) (narrow_rest all digit) ∙ size_right 64 (length all) (first_checks (limits 1) all ++ narrow_checks all) is ∙ read.0 in
    subst (IsHead low high all) (ap (λ n. cond (n == 49) (narrow_head all) (wide_head all)) digit ∙ sym read.1) (undamaged low high all some few small damage)
narrow_answers low high all (Err bad) some few small d digit is tells = record {
  part_is = tells.part_is;
  damage_is = d ∙ ap (find is_wrong) (narrow_rest all digit) ∙ size_right 64 (length all) (first_checks (limits 1) all ++ narrow_checks all) is
      ∙ tells.damage_is;
}

pub wide_answers : (low high : ℕ) (all : List ℕ) (r : Result Head Bad) → 1 ≤ low → high ≤ 2 → ((i : ℕ) → slice_index all i < 256) →
    first_damage low high all ≡ find is_wrong (rest_checks all) → slice_index all 6 ≢ 49 → length all ≡ 80 →
    WideRead all r → AnswersParse low high all r
unfolding read_head
wide_answers low high all (Ok head) some few small d digit is read =
    let damage : first_damage low high all ≡ None = d ∙ ap (find is_wrong) (wide_rest all digit) ∙ size_right 80 (length all) (first_checks (limits 2) all ++ wide_checks all) is ∙ read.0 in
    subst (IsHead low high all) (ap (λ b. cond b (narrow_head all) (wide_head all)) (other (slice_index all 6) digit) ∙ sym read.1) (undamaged low high all some few small damage)
  where
    other : (d : ℕ) → d ≢ 49 → (d == 49) ≡ false
    other d e = grind (arith, nat_tests)
wide_answers low high all (Err bad) some few small d digit is tells = record {
  part_is = tells.part_is;
  damage_is = d ∙ ap (find is_wrong) (wide_rest all digit) ∙ size_right 80 (length all) (first_checks (limits 2) all ++ wide_checks all) is
      ∙ tells.damage_is;
}

-- a part of 64 or 80 bytes is those bytes
pub all_is : (size : ℕ) (buf all : List ℕ) → length all ≡ size → size ≤ 80 → take (min 80 size) buf ≡ take 80 all → take size buf ≡ all
all_is size buf all is small agree = ap (λ n. take n buf) (omega arith) ∙ agree ∙ take_all 80 all (omega arith)

-- and those bytes are such a part
pub is_part : (size : ℕ) (buf : List ℕ) → size ≤ 80 → length buf ≡ 80 → (length (take size buf) ≡ size) × (take (min 80 size) buf ≡ take 80 (take size buf))
is_part size buf small long =
    let cut : length (take size buf) ≡ size = simp length-take (omega arith) in
    (cut, ap (λ n. take n buf) (omega arith) ∙ sym (take_all 80 (take size buf) (omega arith)))

pub small_part : (size : ℕ) (buf all : List ℕ) → take size buf ≡ all → ((i : ℕ) → slice_index buf i < 256) → (i : ℕ) → slice_index all i < 256
small_part size buf all e small = subst (λ xs. (i : ℕ) → slice_index xs i < 256) e (piece_small size 0 buf small)

pub within_of : (low high : ℕ) (all : List ℕ) (r : Result Head Bad) → AnswersParse low high all r → IfOk r (λ head. defs.IsWithin (fields_of head))
within_of low high all (Ok head) answers = answers.within
within_of low high all (Err bad) answers = tt
