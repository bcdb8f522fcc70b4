-- The strings of entries rise, so a string is found by the whole entries first.
use Rattle.std.proofs.Common.{◌^◌, ◌≡◌, ◌+◌, ◌-◌, ◌*◌, ◌/◌, ◌≤◌, ◌<◌, ◌⊎◌, [], ◌∙◌}
use Rattle.std.proofs.Common.{arith, min, take, drop, inl, inr, ℕ, Bool, true, false, List, length, Some, None, refl, sym, ap, subst, slice_get, IsSome, cond, Ok, Err, Result}
use Rattle.std.specs.declared.option.Option.{Option}
use Rattle.std.specs.Prelude.{IfErr}
use Rattle.std.proofs.lemmas.Bool.{cases_lt}
use Rattle.std.proofs.lemmas.Option.{slice_get_within}
use Rattle.mg_dev.specs.Files.{Files, bytes_at}
use Rattle.mg_defs.specs.Front.{Entry, IsFront, AreEntries, is_below}
use Rattle.mg_defs.proofs.FrontOrder.{below_trans, rising, not_itself, same_there}
use Rattle.mg_defs.proofs.FrontParts.{some_cons}
use Rattle.mg_defs.specs.Numbers.{four}
use Rattle.mg_dev.specs.Bads.{IsBad}
use Rattle.mg_front.specs.Reading.{IsLost, IsLostAmong, Fronted, FrontStands, SameParts, Around, NoneAmong, IsAbsent, AnswersBlock, AnswersIn, AnswersFind}
use Rattle.mg_front.specs.declared.entry.FrontEntry.{FrontEntry}
use Rattle.mg_dev.specs.declared.part_err.PartErr.{PartErr}
use Rattle.mg_dev.specs.declared.part_err.PartErr.TheVariants.{Device, Memory, Bad}

-- the first strings of the blocks before low are not above the string, and those from high on are
pub record Between (es : List Entry) (string : List ℕ) (low high : ℕ) : Type 0 where
  pub below : (block : ℕ) (e : Entry) → block < low → slice_get es (4 * block) ≡ Some e → is_below string e.string ≡ false
  pub above : (block : ℕ) (e : Entry) → high ≤ block → slice_get es (4 * block) ≡ Some e → is_below string e.string ≡ true

pub between_start : (es : List Entry) (string : List ℕ) (high : ℕ) → length es ≤ 4 * high → Between es string 0 high
between_start es string high long = record {
  below = λ block e small there. absurd (omega arith);
  above = λ block e large there. let within : 4 * block < length es = slice_get_within es (4 * block) e there in absurd (omega arith);
}

pub between_step : (width : ℕ) (es : List Entry) (string : List ℕ) (low high middle : ℕ) (above : Bool) (d : Entry) (l h : ℕ) → AreEntries width 0 [] es →
    slice_get es (4 * middle) ≡ Some d → above ≡ is_below string d.string → Between es string low high →
    l ≡ cond above low (middle + 1) → h ≡ cond above middle high → Between es string l h
between_step width es string low high middle true d l h are there less between l_is h_is = record {
  below = λ block e small here. between.below block e (omega arith) here;
  above = λ block e large here. by_side block e here (cases_lt middle block) large;
}
  where
    by_side : (block : ℕ) (e : Entry) → slice_get es (4 * block) ≡ Some e → (middle < block) ⊎ (block ≤ middle) → h ≤ block → is_below string e.string ≡ true
    by_side block e here (inl large) within = below_trans string d.string e.string (sym less) (rising width 0 [] es (4 * middle) (4 * block) d e are (omega arith) there here)
    by_side block e here (inr small) within = ap (λ (x : Entry). is_below string x.string) (sym (same_there es (4 * middle) (4 * block) d e (omega arith) there here)) ∙ sym less
between_step width es string low high middle false d l h are there less between l_is h_is = record {
  below = λ block e small here. by_side block e here (cases_lt block middle) small;
  above = λ block e large here. between.above block e (omega arith) here;
}
  where
    by_test : (e : Entry) → is_below e.string d.string ≡ true → (b : Bool) → is_below string e.string ≡ b → b ≡ false
    by_test e before false is = refl
    by_test e before true is = sym (below_trans string e.string d.string is before) ∙ sym less

    by_side : (block : ℕ) (e : Entry) → slice_get es (4 * block) ≡ Some e → (block < middle) ⊎ (middle ≤ block) → block < l → is_below string e.string ≡ false
    by_side block e here (inl small) within = by_test e (rising width 0 [] es (4 * block) (4 * middle) e d are (omega arith) here there) (is_below string e.string) refl
    by_side block e here (inr large) within = ap (λ (x : Entry). is_below string x.string) (sym (same_there es (4 * middle) (4 * block) d e (omega arith) there here)) ∙ sym less

pub around_of : (es : List Entry) (string : List ℕ) (low high n : ℕ) → Between es string low high → high ≤ low → n ≡ low → Around es string n
around_of es string low high n between met is = record {
  below = λ block e small there. between.below block e (omega arith) there;
  above = λ block e large there. between.above block e (omega arith) there;
}

-- no entry of a block from low on has the string
not_from : (width : ℕ) (es : List Entry) (string : List ℕ) (low i : ℕ) (e : Entry) → AreEntries width 0 [] es → Around es string low → low ≤ i / 4 → slice_get es i ≡ Some e → e.string ≡ string → ⊥
not_from width es string low i e are around large there same =
    let within : i < length es = slice_get_within es i e there in
    let first = some_cons es (4 * (i / 4)) (omega arith) in
    by_side first.0 first.3 (around.above (i / 4) first.0 large first.3) (cases_lt (4 * (i / 4)) i)
  where
    by_side : (f : Entry) → slice_get es (4 * (i / 4)) ≡ Some f → is_below string f.string ≡ true → (4 * (i / 4) < i) ⊎ (i ≤ 4 * (i / 4)) → ⊥
    by_side f here above (inl before) = not_itself string (ap (is_below string) (sym same)
        ∙ below_trans string f.string e.string above (rising width 0 [] es (4 * (i / 4)) i f e are before here there))
    by_side f here above (inr at) = not_itself string (ap (is_below string) (sym (ap (λ (x : Entry). x.string) (same_there es (4 * (i / 4)) i f e (omega arith) here there) ∙ same)) ∙ above)

pub none_at_all : (width : ℕ) (es : List Entry) (string : List ℕ) → AreEntries width 0 [] es → Around es string 0 → IsAbsent string es
none_at_all width es string are around i e there same = not_from width es string 0 i e are around (omega arith) there same

pub none_elsewhere : (width : ℕ) (es : List Entry) (string : List ℕ) (block : ℕ) → AreEntries width 0 [] es → Around es string (block + 1) →
    4 * block < length es → NoneAmong es (4 * block) 4 string → IsAbsent string es
none_elsewhere width es string block are around within none i e there same = by_side (cases_lt i (4 * block)) (cases_lt i (4 * block + 4))
  where
    first : (f : Entry) × (slice_get es (4 * block) ≡ Some f)
    first = let some = some_cons es (4 * block) within in (some.0, some.3)

    by_side : (i < 4 * block) ⊎ (4 * block ≤ i) → (i < 4 * block + 4) ⊎ (4 * block + 4 ≤ i) → ⊥
    by_side (inl before) more =
        true_is_not_false (sym (ap (λ t. is_below t first.0.string) (sym same) ∙ rising width 0 [] es i (4 * block) e first.0 are before there first.1)
        ∙ around.below block first.0 (omega arith) first.1)
      where
        true_is_not_false : true ≡ false → ⊥
        true_is_not_false f = cc
    by_side (inr from) (inl to) = none (i - 4 * block) e (omega arith) (ap (slice_get es) (omega arith) ∙ there) same
    by_side (inr from) (inr after) = not_from width es string (block + 1) i e are around (omega arith) there same

pub stands_same : (r s : Fronted) (f g : Option Files) (es : List Entry) → SameParts r s → g ≡ f → FrontStands r f es → FrontStands s g es
stands_same r s f g es same e stands = record {
  told = subst IsSome (sym e) stands.told;
  strings = subst (λ w. IsFront w (bytes_at g s.strings.name) es) (sym same.width)
      (subst (λ n. IsFront r.width (bytes_at g n) es) (sym same.strings) (subst (λ h. IsFront r.width (bytes_at h r.strings.name) es) (sym e) stands.strings));
  places = ap (bytes_at g) same.places ∙ ap (λ h. bytes_at h r.places.name) e ∙ stands.places;
  count = stands.count ∙ sym same.count;
  small = subst (λ n. length (bytes_at g n) < 2 ^ 32) (sym same.strings) (subst (λ h. length (bytes_at h r.strings.name) < 2 ^ 32) (sym e) stands.small);
}

-- what is told of a block stays where the reader's parts stay
pub lost_same : (refusal : PartErr) (r s : Fronted) (f g : Option Files) (block : ℕ) → SameParts r s → g ≡ f → IsLost refusal s g block → IsLost refusal r f block
lost_same Device r s f g block same e lost = tt
lost_same Memory r s f g block same e lost = tt
lost_same (Bad bad) r s f g block same e (inl none) = inl (record {
  is = subst (λ p. IsBad bad p (4 * block) 1 1 0) same.places_part none.is;
  short = λ told. subst (λ h. length (bytes_at h r.places.name) < 4 * block + 4) e (subst (λ n. length (bytes_at g n) < 4 * block + 4) same.places (none.short (subst IsSome (sym e) told)));
})
lost_same (Bad bad) r s f g block same e (inr none) = inr (record {
  is = subst (λ p. IsBad bad p bad.at 1 1 0) same.strings_part none.is;
  small = none.small;
  told = λ told. subst (λ h. take 4 (drop (4 * block) (bytes_at h r.places.name)) ≡ four bad.at) e
      (subst (λ n. take 4 (drop (4 * block) (bytes_at g n)) ≡ four bad.at) same.places (none.told (subst IsSome (sym e) told)));
})

pub lost_among : {T : Type 0} (result : Result T PartErr) (r s : Fronted) (f g : Option Files) (block : ℕ) → 4 * block < r.count → SameParts r s → g ≡ f →
    IfErr result (λ refusal. IsLost refusal s g block) → IfErr result (λ refusal. IsLostAmong refusal r f)
lost_among (Ok value) r s f g block within same e lost = tt
lost_among (Err refusal) r s f g block within same e lost = (block, within, lost_same refusal r s f g block same e lost)

-- a block of fewer than four entries is the last
pub none_behind : (es : List Entry) (from most : ℕ) (string : List ℕ) → (length es ≤ from + most) ⊎ (4 ≤ most) → NoneAmong es from most string → NoneAmong es from 4 string
none_behind es from most string (inl last) none k e within here same = let there : from + k < length es = slice_get_within es (from + k) e here in none k e (omega arith) here same
none_behind es from most string (inr full) none k e within here same = none k e (omega arith) here same

-- a refusal goes up
pub block_refused : (width : ℕ) (es : List Entry) (string : List ℕ) (refusal : PartErr) (out : FrontEntry) → AnswersBlock (Err refusal) string es → AnswersFind (Err refusal) width string out es
block_refused width es string Device out answer = tt
block_refused width es string Memory out answer = answer
block_refused width es string (Bad bad) out answer = answer

-- the number of a string, from its block's answer
pub found_in : (width : ℕ) (es : List Entry) (string : List ℕ) (block : ℕ) (r : Result (Option ℕ) PartErr) (out : FrontEntry) → AreEntries width 0 [] es →
    Around es string (block + 1) → 4 * block < length es → AnswersIn r block width string out es → AnswersFind r width string out es
found_in width es string block (Ok (Some i)) out are around within answer = answer
found_in width es string block (Ok None) out are around within none = none_elsewhere width es string block are around within none
found_in width es string block (Err Device) out are around within answer = tt
found_in width es string block (Err Memory) out are around within answer = answer
found_in width es string block (Err (Bad bad)) out are around within answer = answer

pub last_or_full : (count from most n : ℕ) → most ≡ min (count - from) 4 → n ≡ count → from < count → (n ≤ from + most) ⊎ (4 ≤ most)
last_or_full count from most n is same within = by_order (cases_lt (count - from) 4)
  where
    by_order : (count - from < 4) ⊎ (4 ≤ count - from) → (n ≤ from + most) ⊎ (4 ≤ most)
    by_order (inl few) = inl (omega arith)
    by_order (inr full) = inr (omega arith)
