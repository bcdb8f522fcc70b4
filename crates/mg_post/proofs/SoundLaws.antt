-- Documents rise over any parts.
use Rattle.std.proofs.Common.{arith, ◌≡◌, ◌+◌, ◌-◌, ◌*◌, ◌≤◌, ◌<◌, ℕ, Bool, true, false, List, [], ◌∷◌, length, drop}
use Rattle.std.proofs.Common.{Option, Some, None, Ok, Err, IfOk, IfSome, refl, sym, ◌∙◌, ap, subst, ◌⊎◌, inl, inr}
use Rattle.std.proofs.lemmas.Bool.{false≢true}
use Rattle.std.specs.Prelude.{Result}
use Rattle.mg_dev.specs.Files.{Files}
use Rattle.mg_dev.specs.declared.part.Part.{Part}
use Rattle.mg_dev.specs.declared.part.Part.TheVariants.{Post, Skip}
use Rattle.mg_dev.specs.declared.part_err.PartErr.{PartErr}
use Rattle.mg_dev.specs.declared.part_err.PartErr.TheVariants as err
use Rattle.mg_defs.specs.declared.Posting.{Posting}
use Rattle.mg_defs.specs.Lists.{block_count, last_doc, Rises, Follows}
use Rattle.mg_defs.proofs.ListLaws.{last_above}
use Rattle.mg_post.specs.declared.refusal.Refusal.{Refusal}
use Rattle.mg_post.specs.declared.refusal.Refusal.TheVariants.{Device, Damaged}
use Rattle.mg_post.specs.Answers.{IsRefused, OnDamage, OrDevice}
use Rattle.mg_post.specs.Cursor.{Cursoring, GoesOn, GoesToNext, HeldNone, HeldRises, IsFrom, NamesItsPart, count_behind, forward_to, head_of, next_doc}
use Rattle.mg_post.specs.Damages.{BlockIsMissing, HasPostCause, IfNames, NamesPart}
use Rattle.mg_post.proofs.ForwardLaws.{forward_all, forward_here, forward_last, forward_next, forward_nothing, forward_some}

order : (a b : ℕ) → (a < b) ⊎ (b ≤ a)
order a b = grind arith

follows_low : (all d e : ℕ) (p : Posting) → d ≤ e → Follows all e p → Follows all d p
follows_low all d e p le f = record { after = omega (arith, f.after, le); within = f.within; some = f.some; fits = f.fits }

rises_low : (all d e : ℕ) (ps : List Posting) → d ≤ e → Rises all e ps → Rises all d ps
unfolding Rises
rises_low all d e [] le h = tt
rises_low all d e (p ∷ ps) le h = (follows_low all d e p le h.0, h.1)

last_low : (d e : ℕ) (ps : List Posting) → d ≤ e → last_doc d ps ≤ last_doc e ps
unfolding last_doc
last_low d e [] le = le
last_low d e (p ∷ ps) le = omega arith

from_rises : (all d doc : ℕ) (ps : List Posting) → Rises all d ps → Rises all d (forward_to doc ps) × (last_doc d (forward_to doc ps) ≤ last_doc d ps)
unfolding Rises last_doc forward_to
from_rises all d doc [] h = (tt, omega arith)
from_rises all d doc (p ∷ ps) h =
    let f : Follows all d p = h.0 in
    elim (order p.doc doc) [
      | inl below ↦ (
          let more = from_rises all p.doc doc ps h.1 in
          let low : d ≤ p.doc = omega (arith, f.after) in
          rw (forward_next doc p ps below) (rises_low all d p.doc (forward_to doc ps) low more.0, omega (arith, more.1, last_low d p.doc (forward_to doc ps) low)))
      | inr above ↦ rw (forward_here doc p ps above) (h, omega arith)
    ]

pub nothing_held : (all last : ℕ) (held : List Posting) → held ≡ [] → HeldRises all last held
unfolding Rises last_doc
nothing_held all last held none = rw none record { rises = tt; within = omega arith; ends = λ some. absurd (omega (arith, some)) }

forward_few : (doc : ℕ) (ps : List Posting) → length (forward_to doc ps) ≤ length ps
forward_few doc [] = omega (arith, ap length (forward_nothing doc))
forward_few doc (p ∷ ps) =
    elim (order p.doc doc) [
      | inl below ↦ omega (arith, ap length (forward_next doc p ps below), forward_few doc ps)
      | inr above ↦ omega (arith, ap length (forward_here doc p ps above))
    ]

pub forward_held : (all last doc : ℕ) (held now : List Posting) → HeldRises all last held → now ≡ forward_to doc held → HeldRises all last now
forward_held all last doc held now h is =
    let more = from_rises all 0 doc held h.rises in
    rw is record {
      rises = more.0;
      within = omega (arith, more.1, h.within);
      ends = λ some. forward_last 0 0 doc held some ∙ h.ends (omega (arith, some, forward_few doc held));
    }

-- of some postings the last document is that of the last one
last_any : (d e : ℕ) (ps : List Posting) → 0 < length ps → last_doc d ps ≡ last_doc e ps
unfolding last_doc
last_any d e [] some = absurd (omega (arith, some))
last_any d e (p ∷ ps) some = refl

-- a block that was read and ends with the last document
pub block_held : (all before last end doc : ℕ) (block now : List Posting) → Rises all before block → end ≡ last_doc before block → end ≡ last → now ≡ forward_to doc block → HeldRises all last now
block_held all before last end doc block now rises is same went =
    let low : Rises all 0 block = rises_low all 0 before block (omega arith) rises in
    let within : last_doc 0 block ≤ last = omega (arith, last_low 0 before block (omega arith), is, same) in
    let ends : 0 < length block → last_doc 0 block ≡ last = λ some. last_any 0 before block some ∙ sym is ∙ same in
    forward_held all last doc block now record { rises = low; within = within; ends = ends } went

step_held : (all last : ℕ) (held now : List Posting) → HeldRises all last held → now ≡ drop 1 held → HeldRises all last now
unfolding Rises last_doc
step_held all last [] now h is = rw is h
step_held all last (p ∷ held) now h is =
    let low : 0 ≤ p.doc = omega arith in
    rw is record {
      rises = rises_low all 0 p.doc held low h.rises.1;
      within = omega (arith, last_low 0 p.doc held low, h.within);
      ends = λ some. last_any 0 p.doc held some ∙ h.ends (omega arith);
    }

pub step_rises : (all last : ℕ) (found : Option Posting) (held now : List Posting) → GoesOn found held now → HeldRises all last held → HeldRises all last now
step_rises all last None held now went h = rw went.1 h
step_rises all last (Some p) held now went h = step_held all last held now h went.1

-- ---- what is answered

pub from_low : (doc : ℕ) (ps : List Posting) (p : Posting) → head_of (forward_to doc ps) ≡ Some p → doc ≤ p.doc
unfolding forward_to
from_low doc [] p is = absurd cc
from_low doc (q ∷ ps) p is =
    elim (order q.doc doc) [
      | inl below ↦ from_low doc ps p (sym (ap head_of (forward_next doc q ps below)) ∙ is)
      | inr above ↦ (let e : Some q ≡ Some p = sym (ap head_of (forward_here doc q ps above)) ∙ is in let same : q ≡ p = cc in omega (arith, ap (λ (x : Posting). x.doc) same, above))
    ]

first_is : (all last doc : ℕ) (held : List Posting) (p : Posting) → HeldRises all last held → head_of held ≡ Some p → doc ≤ p.doc → IsFrom doc all p
unfolding Rises
first_is all last doc [] p h is le = absurd cc
first_is all last doc (q ∷ held) p h is le =
    let same : q ≡ p = cc in
    let f : Follows all 0 q = h.rises.0 in
    subst (IsFrom doc all) same record { from = omega (arith, le, ap (λ (x : Posting). x.doc) same); within = f.within; some = f.some }

-- of a block that went to a document
pub from_held : (all last doc : ℕ) (block now : List Posting) (p : Posting) → HeldRises all last now → now ≡ forward_to doc block → head_of now ≡ Some p → IsFrom doc all p
from_held all last doc block now p h went is = first_is all last doc now p h is (from_low doc block p (sym (ap head_of went) ∙ is))

pub in_held : (all last doc : ℕ) (held now : List Posting) (found : Option Posting) → HeldRises all last held → now ≡ forward_to doc held → found ≡ head_of now → IfSome found (IsFrom doc all)
in_held all last doc held now None h went is = tt
in_held all last doc held now (Some p) h went is = from_held all last doc held now p (forward_held all last doc held now h went) went (sym is)

-- the current posting is at most the last document
pub current_low : (all last : ℕ) (held : List Posting) (p : Posting) → HeldRises all last held → head_of held ≡ Some p → p.doc ≤ last
unfolding Rises last_doc
current_low all last [] p h is = absurd cc
current_low all last (q ∷ held) p h is =
    let same : q ≡ p = cc in
    omega (arith, ap (λ (x : Posting). x.doc) same, last_above all q.doc held h.rises.1, h.within)

-- it stays where the document asked for is not behind it
pub stays_here : (doc : ℕ) (held now : List Posting) (found : Option Posting) (p : Posting) → head_of held ≡ Some p → doc ≤ p.doc → now ≡ forward_to doc held →
    found ≡ head_of now → (found ≡ Some p) × (now ≡ held)
stays_here doc [] now found p is le went got = absurd cc
stays_here doc (q ∷ held) now found p is le went got =
    let same : q ≡ p = cc in
    let here : forward_to doc (q ∷ held) ≡ q ∷ held = forward_here doc q held (omega (arith, le, ap (λ (x : Posting). x.doc) same)) in
    (got ∙ ap head_of (went ∙ here) ∙ is, went ∙ here)

-- the next one of the block at hand
pub next_held : (all last : ℕ) (held now : List Posting) (p : Posting) → HeldRises all last held → 1 < length held → now ≡ drop 1 held → head_of now ≡ Some p → IsFrom (next_doc held) all p
unfolding Rises
next_held all last [] now p h more went is = absurd (omega (arith, more))
next_held all last (q ∷ []) now p h more went is = absurd (omega (arith, more))
next_held all last (q ∷ r ∷ held) now p h more went is =
    let same : r ≡ p = (let e : Some r ≡ Some p = sym (ap head_of went) ∙ is in cc) in
    let f : Follows all q.doc r = h.rises.1.0 in
    subst (IsFrom (q.doc + 1) all) same record { from = omega (arith, f.after); within = f.within; some = f.some }

-- where the block at hand has none after the current one, the next is behind its last document
next_low : (all last : ℕ) (held : List Posting) (found : Option Posting) → HeldRises all last held → length held ≤ 1 → IfSome found (IsFrom (last + 1) all) → IfSome found (IsFrom (next_doc held) all)
next_low all last held None h few f = tt
next_low all last [] (Some p) h few f = record { from = omega (arith, f.from); within = f.within; some = f.some }
next_low all last (q ∷ []) (Some p) h few f =
    record { from = omega (arith, f.from, current_low all last (q ∷ []) q h refl); within = f.within; some = f.some }
next_low all last (q ∷ r ∷ held) (Some p) h few f = absurd (omega (arith, few))

pub next_sound : (all last : ℕ) (held : List Posting) (r : Result (Option Posting) PartErr) → HeldRises all last held → length held ≤ 1 →
    IfOk r (λ found. IfSome found (IsFrom (last + 1) all)) → IfOk r (λ found. IfSome found (IsFrom (next_doc held) all))
next_sound all last held (Ok found) h few f = next_low all last held found h few f
next_sound all last held (Err refusal) h few f = tt

-- ---- what is at hand, where the next posting is asked for

head_some : (held : List Posting) (p : Posting) → head_of held ≡ Some p → (0 < length held) × (next_doc held ≡ p.doc + 1)
head_some [] p is = absurd cc
head_some (q ∷ held) p is = let same : q ≡ p = cc in (omega arith, ap (λ (x : Posting). x.doc + 1) same)

-- where at most one posting is at hand, the next document is behind the last one
pub next_is : (all last : ℕ) (held : List Posting) → HeldRises all last held → (length held ≡ 0 → last ≡ 0) → length held ≤ 1 → last + 1 ≡ next_doc held
unfolding last_doc
next_is all last [] h none few = ap (λ n. n + 1) (none refl)
next_is all last (p ∷ []) h none few = ap (λ n. n + 1) (sym (h.ends (omega arith)))
next_is all last (p ∷ q ∷ held) h none few = absurd (omega (arith, few))

-- where it is behind the last one, at most one posting is at hand
pub next_few : (all last doc : ℕ) (held : List Posting) → HeldRises all last held → last < doc → doc ≡ next_doc held → length held ≤ 1
unfolding Rises last_doc
next_few all last doc [] h lt is = omega arith
next_few all last doc (p ∷ []) h lt is = omega arith
next_few all last doc (p ∷ q ∷ held) h lt is = absurd (omega (arith, lt, is, h.rises.1.0.after, last_above all q.doc held h.rises.1.1, h.within))

-- where it is not, one posting less is at hand than before, and some are
pub next_inside : (all last doc : ℕ) (held now : List Posting) → HeldRises all last held → (length held ≡ 0 → last ≡ 0) → doc ≤ last → now ≡ forward_to doc held → doc ≡ next_doc held →
    (length now + 1 ≡ length held) × (0 < length now)
unfolding Rises last_doc
next_inside all last doc [] now h none le went is = absurd (omega (arith, le, is, none refl))
next_inside all last doc (p ∷ []) now h none le went is = absurd (omega (arith, le, is, h.ends (omega arith)))
next_inside all last doc (p ∷ q ∷ held) now h none le went is =
    let go : forward_to (p.doc + 1) (p ∷ q ∷ held) ≡ q ∷ held = forward_next (p.doc + 1) p (q ∷ held) (omega arith) ∙ forward_all all p.doc (q ∷ held) h.rises.1 in
    let e : now ≡ q ∷ held = went ∙ ap (λ n. forward_to n (p ∷ q ∷ held)) is ∙ go in
    (omega (arith, ap length e), omega (arith, ap length e))

-- where nothing is at hand within a block that went on to a document, nothing was before
pub forward_none : (all last doc docs reached : ℕ) (held now : List Posting) (ended : Bool) → HeldRises all last held → HeldNone docs reached last held ended → ended ≡ false →
    1 ≤ doc → doc ≤ last → now ≡ forward_to doc held → HeldNone docs reached last now ended
forward_none all last doc docs reached held now ended h none on some le went = record {
  first = λ not empty. elim (order 0 (length held)) [
    | inl there ↦ absurd (
        let e : length now ≡ length (forward_to doc held) = ap length went in
        omega (arith, e, empty, forward_some all 0 doc held h.rises (omega (arith, some)) (omega (arith, le, h.ends there))))
    | inr nothing ↦ none.first not (omega (arith, nothing))
  ];
  all = none.all;
}

-- the next posting of the block at hand
pub step_none : (docs reached last : ℕ) (found : Option Posting) (held now : List Posting) (ended : Bool) →
    GoesOn found held now → HeldNone docs reached last held ended → HeldNone docs reached last now ended
step_none docs reached last None held now ended went none = rw went.1 none
step_none docs reached last (Some p) held now ended went none = record { first = λ not empty. absurd (omega (arith, empty, (head_some now p went.2).0)); all = none.all }

-- all blocks were reached
pub all_held : (docs reached last : ℕ) (held : List Posting) (ended : Bool) → ended ≡ true → reached ≡ block_count docs → HeldNone docs reached last held ended
all_held docs reached last held ended off all = record { first = λ on. absurd (false≢true (sym on ∙ off)); all = λ is. all }

-- the posting that is answered is the first at hand, and those left are so many as before less one
pub goes_next : (c v : Cursoring) (found : Option Posting) → found ≡ head_of v.held → 0 < length v.held → count_behind c ≡ length v.held + (v.docs - 64 * v.reached) → GoesToNext c v found
goes_next c v None is some left = absurd (head_empty v.held (sym is) some)
  where
    head_empty : (held : List Posting) → head_of held ≡ None → 0 < length held → ⊥
    head_empty [] e lt = omega (arith, lt)
    head_empty (q ∷ held) e lt = cc
goes_next c v (Some p) is some left = (omega (arith, some, left), (head_some v.held p (sym is)).1)

-- ---- which part is named

pub names_skip : (refusal : Refusal) (e : PartErr) → IsRefused refusal Skip e → NamesItsPart e
names_skip Device err.Device is = tt
names_skip Device err.Memory is = tt
names_skip Device (err.Bad bad) is = absurd cc
names_skip (Damaged at) err.Device is = tt
names_skip (Damaged at) err.Memory is = tt
names_skip (Damaged at) (err.Bad bad) is = (inr is.part_is, record { part_is = refl; at_is = refl; low_is = is.low_is; high_is = is.high_is; found_is = is.found_is })

pub names_post : (refusal : Refusal) (e : PartErr) → IsRefused refusal Post e → NamesItsPart e
names_post Device err.Device is = tt
names_post Device err.Memory is = tt
names_post Device (err.Bad bad) is = absurd cc
names_post (Damaged at) err.Device is = tt
names_post (Damaged at) err.Memory is = tt
names_post (Damaged at) (err.Bad bad) is = (inl is.part_is, record { part_is = refl; at_is = refl; low_is = is.low_is; high_is = is.high_is; found_is = is.found_is })

pub names_own : (refusal : Refusal) (own : Part) (e : PartErr) → IsRefused refusal own e → NamesPart own e
names_own Device own err.Device is = tt
names_own Device own err.Memory is = tt
names_own Device own (err.Bad bad) is = absurd cc
names_own (Damaged at) own err.Device is = tt
names_own (Damaged at) own err.Memory is = tt
names_own (Damaged at) own (err.Bad bad) is = record { part_is = is.part_is; at_is = refl; low_is = is.low_is; high_is = is.high_is; found_is = is.found_is }

-- a device's failure names no part
pub names_none : {A : Type 0} (refusal : Refusal) (own named : Part) (e : PartErr) (fact : A → Type 0) → IsRefused refusal own e → OrDevice {T = A} (Err refusal) fact → NamesPart named e
names_none Device own named e fact is got = subst (NamesPart named) (sym is) tt
names_none (Damaged at) own named e fact is got = absurd got

pub skip_cause : (refusal : Refusal) (e : PartErr) (c : Cursoring) (files : Option Files) (doc : ℕ) → IsRefused refusal Skip e → HasPostCause c files doc e
skip_cause refusal err.Device c files doc is = tt
skip_cause refusal err.Memory c files doc is = tt
skip_cause Device (err.Bad bad) c files doc is = absurd cc
skip_cause (Damaged at) (err.Bad bad) c files doc is = λ post. (let e : Skip ≡ Post = sym is.part_is ∙ post in absurd cc)

pub post_cause : (refusal : Refusal) (e : PartErr) (c : Cursoring) (files : Option Files) (doc : ℕ) → IsRefused refusal Post e →
    ((at : ℕ) → refusal ≡ Damaged at → BlockIsMissing c files doc at) → HasPostCause c files doc e
post_cause refusal err.Device c files doc is missing = tt
post_cause refusal err.Memory c files doc is missing = tt
post_cause Device (err.Bad bad) c files doc is missing = absurd cc
post_cause (Damaged at) (err.Bad bad) c files doc is missing = λ post. subst (BlockIsMissing c files doc) (sym is.at_is) (missing at refl)

pub own_cause : (refusal : Refusal) (own : Part) (e : PartErr) (fact : ℕ → Type 0) → IsRefused refusal own e → OnDamage refusal fact → IfNames own e fact
own_cause refusal own err.Device fact is lacks = tt
own_cause refusal own err.Memory fact is lacks = tt
own_cause Device own (err.Bad bad) fact is lacks = absurd cc
own_cause (Damaged at) own (err.Bad bad) fact is lacks = λ named. subst fact (sym is.at_is) lacks

pub no_entry_cause : (refusal : Refusal) (e : PartErr) (fact : ℕ → Type 0) → IsRefused refusal Post e → IfNames Skip e fact
no_entry_cause refusal err.Device fact is = tt
no_entry_cause refusal err.Memory fact is = tt
no_entry_cause Device (err.Bad bad) fact is = absurd cc
no_entry_cause (Damaged at) (err.Bad bad) fact is = λ skip. (let e : Post ≡ Skip = sym is.part_is ∙ skip in absurd cc)
