-- What an entry is by its head and by what stands behind it.
use Rattle.std.proofs.Common.{◌≡◌, ◌+◌, ◌≤◌, ◌<◌, ◌==◌, ◌||◌, ◌++◌, ◌∙◌}
use Rattle.std.proofs.Common.{arith, ℕ, Bool, false, true, inl, inr, List, length, take, drop, Some, None, refl, sym, ap, length-drop, slice_get, IfOk, IfSome, OnSome}
use Rattle.std.specs.declared.option.Option.{Option}
use Rattle.std.specs.declared.result.Result.{Result}
use Rattle.std.specs.Prelude.{Ok, Err}
use Rattle.mg_defs.specs.Front.{is_below, rises_after_prefix, read_whole, read_cut}
use Rattle.mg_front.specs.Entries.{string_of, found_of, IsPut, HasRoom, HeadAfter, HeadAt, PutBehind, IsBehind}
use Rattle.mg_front.specs.declared.entry.FrontEntry.{FrontEntry}
use Rattle.mg_front.specs.declared.entry.Head.{Head}
use Rattle.mg_front.proofs.ReadFacts.{whole_short, whole_no_follow, whole_yes, cut_long, cut_over, cut_short, cut_no_rise, cut_yes, put_first, put_after}

pub always_ok : {E : Type 0} (r : Result Bool E) (P : Bool → Type 0) → ((b : Bool) → P b) → IfOk r P
always_ok (Ok b) P fact = fact b
always_ok (Err e) P fact = tt

-- ---- heads

pub head_told : (o : Option Head) (before : List ℕ) (shared more at : ℕ) (bytes : List ℕ) → Some shared ≡ slice_get bytes at → Some more ≡ slice_get bytes (at + 1) → HeadAfter o before
    shared more → HeadAt o before at bytes
head_told (Some h) before shared more at bytes e f after = (ap Some after.0 ∙ e, ap Some after.1 ∙ f)
head_told None before shared more at bytes e f (inl long) = λ width. cut_long width before bytes at shared more e f long
head_told None before shared more at bytes e f (inr over) = λ width. cut_over width before bytes at shared more e f over

pub head_room : (o : Option Head) (before : List ℕ) (shared more : ℕ) → HeadAfter o before shared more → IfSome o (λ h. HasRoom h before)
head_room (Some h) before shared more after = after.2
head_room None before shared more after = tt

pub where_some : (o : Option Head) (P : Type 0) → P → OnSome o P
where_some (Some h) P fact = fact
where_some None P fact = tt

-- ---- what stands behind a head

pub behind_short : (h : Head) (width : ℕ) (old string : List ℕ) (at count : ℕ) (bytes : List ℕ) (b : Bool) → b ≡ false → count ≡ h.more → IsPut b old string h.shared count at bytes → length
    (drop at bytes) < h.more + width
behind_short h width old string at count bytes true is same put = absurd cc
behind_short h width old string at count bytes false is same put = omega (arith, put)

pub behind_put : (h : Head) (width : ℕ) (old string was field : List ℕ) (at from count : ℕ) (bytes : List ℕ) (a b : Bool) → a ≡ true → from ≡ h.shared → count ≡ h.more → IsPut a old string
    from count at bytes → IsPut b was field 0 width (at + count) bytes → IsBehind b h width old string field at bytes
behind_put h width old string was field at from count bytes false b is e d one two = absurd cc
behind_put h width old string was field at from count bytes true true is e d one two =
    let first = put_first was field width width (at + count) bytes refl two in
    record {
      string_is = ap (λ m. take m string) (omega (arith, e, d)) ∙ one.0 ∙ ap (λ m. take m old ++ take count (drop at bytes)) e ∙ ap (λ m. take h.shared old ++ take m (drop at bytes)) d;
      string_there = omega (arith, one.1, d);
      field_is = first.0 ∙ ap (λ m. take width (drop (at + m) bytes)) d;
      field_there = rw d at first.1;
    }
behind_put h width old string was field at from count bytes true false is e d one two = omega (arith, one.1, d, two, length-drop (at + count) bytes, length-drop at bytes)

was_put : (b : Bool) (h : Head) (width : ℕ) (old string field : List ℕ) (at : ℕ) (bytes : List ℕ) → b ≡ true → IsBehind b h width old string field at bytes → PutBehind h width old string
    field at bytes
was_put true h width old string field at bytes is put = put
was_put false h width old string field at bytes is put = absurd cc

was_short : (b : Bool) (h : Head) (width : ℕ) (old string field : List ℕ) (at : ℕ) (bytes : List ℕ) → b ≡ false → IsBehind b h width old string field at bytes → length (drop at bytes) < h.more + width
was_short true h width old string field at bytes is put = absurd cc
was_short false h width old string field at bytes is put = put

-- only the shared bytes of the string before matter
pub behind_as : (b : Bool) (h : Head) (width : ℕ) (old before string field : List ℕ) (at : ℕ) (bytes : List ℕ) → take h.shared old ≡ take h.shared before →
    IsBehind b h width old string field at bytes → IsBehind b h width before string field at bytes
behind_as true h width old before string field at bytes same put = record {
  string_is = put.string_is ∙ ap (λ t. t ++ take h.more (drop at bytes)) same;
  string_there = put.string_there;
  field_is = put.field_is;
  field_there = put.field_there;
}
behind_as false h width old before string field at bytes same put = put

-- ---- entries that are not whole

module _ (width : ℕ) (before new : FrontEntry) (at : ℕ) (bytes : List ℕ) (h : Head) (b : Bool) where
  pub cut_ends : HeadAt (Some h) (string_of before) at bytes → IsBehind b h width before.string new.string new.field (at + 2) bytes → b ≡ false → read_cut width (string_of before)
      (drop at bytes) ≡ None
  cut_ends head behind is = cut_short width (string_of before) bytes at h.shared h.more head.0 head.1 (was_short b h width before.string new.string new.field (at + 2) bytes is behind)

  pub cut_low : HeadAt (Some h) (string_of before) at bytes → HasRoom h (string_of before) → IsBehind b h width before.string new.string new.field (at + 2) bytes → b ≡ true → new.length ≡
      h.shared + h.more →
      rises_after_prefix (drop h.shared (string_of before)) (drop h.shared (string_of new)) ≡ false → read_cut width (string_of before) (drop at bytes) ≡ None
  cut_low head room behind is all low =
      let put = was_put b h width before.string new.string new.field (at + 2) bytes is behind in
      let string = put_after before.string new.string before.length h.shared h.more new.length (at + 2) bytes all room.shared (put.string_is, put.string_there) in
      cut_no_rise width (string_of before) bytes at h.shared h.more (drop h.shared (string_of new)) head.0 head.1 string.1 low

  pub cut_read : (size : ℕ) → HeadAt (Some h) (string_of before) at bytes → HasRoom h (string_of before) → IsBehind b h width before.string new.string new.field (at + 2) bytes → b ≡ true →
      new.length ≡ h.shared + h.more →
      rises_after_prefix (drop h.shared (string_of before)) (drop h.shared (string_of new)) ≡ true → size ≡ h.more + width + 2 → read_cut width (string_of before) (drop at bytes) ≡ found_of
      width new (Some size)
  cut_read size head room behind is all above count =
      let put = was_put b h width before.string new.string new.field (at + 2) bytes is behind in
      let string = put_after before.string new.string before.length h.shared h.more new.length (at + 2) bytes all room.shared (put.string_is, put.string_there) in
      cut_yes width (string_of before) bytes at h.shared h.more (string_of new) (drop h.shared (string_of new)) (take width new.field) size head.0 head.1 room.shared room.all string.1
      string.2 put.field_is put.field_there above (string.0 ∙ ap (λ t. take h.shared (string_of before) ++ t) (sym string.1)) count

-- ---- whole entries, which share none

module _ (width i n : ℕ) (before : List ℕ) (old : List ℕ) (new : FrontEntry) (at : ℕ) (bytes : List ℕ) (b : Bool) where
  pub whole_ends : Some n ≡ slice_get bytes at → IsBehind b (record { shared = 0; more = n }) width old new.string new.field (at + 1) bytes → b ≡ false → read_whole width i before
      (drop at bytes) ≡ None
  whole_ends head behind is = whole_short width i before bytes at n head (was_short b (record { shared = 0; more = n }) width old new.string new.field (at + 1) bytes is behind)

  pub whole_low : Some n ≡ slice_get bytes at → IsBehind b (record { shared = 0; more = n }) width old new.string new.field (at + 1) bytes → b ≡ true → new.length ≡ 0 + n →
      (i == 0 || is_below before (string_of new)) ≡ false → read_whole width i before (drop at bytes) ≡ None
  whole_low head behind is all low =
      let put = was_put b (record { shared = 0; more = n }) width old new.string new.field (at + 1) bytes is behind in
      let first = put_first old new.string n n (at + 1) bytes refl (put.string_is, put.string_there) in
      whole_no_follow width i before bytes at n (string_of new) head (ap (λ m. take m new.string) (omega (arith, all)) ∙ first.0) low

  pub whole_read : (size : ℕ) → n ≤ 255 → Some n ≡ slice_get bytes at → IsBehind b (record { shared = 0; more = n }) width old new.string new.field (at + 1) bytes → b ≡ true → new.length ≡ 0
      + n → (i == 0 || is_below before (string_of new)) ≡ true → size ≡ n + width + 1 → read_whole width i before (drop at bytes) ≡ found_of width new (Some size)
  whole_read size small head behind is all above count =
      let put = was_put b (record { shared = 0; more = n }) width old new.string new.field (at + 1) bytes is behind in
      let first = put_first old new.string n n (at + 1) bytes refl (put.string_is, put.string_there) in
      whole_yes width i before bytes at n (string_of new) (take width new.field) size head small (ap (λ m. take m new.string) (omega (arith, all)) ∙ first.0) first.1 put.field_is
      put.field_there above count
