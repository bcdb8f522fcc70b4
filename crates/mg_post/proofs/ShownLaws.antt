-- What a cursor answers is shown by its two parts, whatever they have.
use Rattle.std.proofs.Common.{arith, ◌≡◌, ◌+◌, ◌^◌, ◌≤◌, ◌<◌, ℕ, Bool, true, false, List, [], ◌∷◌, length, drop, Option, Some, None, sym, ◌∙◌, ap, subst, inl, inr, IfSome}
use Rattle.std.proofs.lemmas.Bool.{cases_lt}
use Rattle.mg_dev.specs.Files.{Files}
use Rattle.mg_bits.specs.Feed.{told_at}
use Rattle.mg_defs.specs.declared.Posting.{Posting}
use Rattle.mg_defs.specs.Lists.{Rises, block_count}
use Rattle.mg_post.specs.Cursor.{Cursoring, HeldRises, SameList, forward_to, head_of, next_doc}
use Rattle.mg_post.specs.Entering.{HoldsFound}
use Rattle.mg_post.specs.Finding.{EndsBefore, IsSound, TellsFound}
use Rattle.mg_post.specs.Shown.{AnswersShown, ShowsBefore, ShowsBlock, ShowsFirst, StandsOnShown, StandsShown, WalksShown}
use Rattle.mg_post.specs.declared.find.Found.{Found}
use Rattle.mg_post.proofs.EnterLaws.{head_none}
use Rattle.mg_post.proofs.FindLaws.{before_on, tells_first, tells_next, tells_on}
use Rattle.mg_post.proofs.ForwardLaws.{forward_all, forward_here, forward_next, forward_nothing, forward_some}
use Rattle.mg_post.proofs.SoundLaws.{from_low}

-- ---- postings from a document on

-- those from a document on, of those from an earlier one on
forward_on : (a b : ℕ) (ps : List Posting) → a ≤ b → forward_to b (forward_to a ps) ≡ forward_to b ps
forward_on a b [] le = ap (forward_to b) (forward_nothing a)
forward_on a b (p ∷ ps) le =
    elim (cases_lt p.doc a) [
      | inl below ↦ ap (forward_to b) (forward_next a p ps below) ∙ forward_on a b ps le ∙ sym (forward_next b p ps (omega (arith, below, le)))
      | inr above ↦ ap (forward_to b) (forward_here a p ps above)
    ]

-- those behind the current one
pub forward_behind : (all last : ℕ) (held now : List Posting) → HeldRises all last held → 1 < length held → now ≡ drop 1 held → now ≡ forward_to (next_doc held) held
unfolding Rises
forward_behind all last [] now h more went = absurd (omega (arith, more))
forward_behind all last (p ∷ []) now h more went = absurd (omega (arith, more))
forward_behind all last (p ∷ q ∷ held) now h more went =
    let go : forward_to (p.doc + 1) (p ∷ q ∷ held) ≡ q ∷ held = forward_next (p.doc + 1) p (q ∷ held) (omega arith) ∙ forward_all all p.doc (q ∷ held) h.rises.1 in
    went ∙ sym go

pub next_some : (held : List Posting) → 1 ≤ next_doc held
next_some [] = omega arith
next_some (p ∷ held) = omega arith

-- ---- over the same list

pub block_same : {c v : Cursoring} {files : Option Files} {block before last : ℕ} {ps : List Posting} → SameList c v → ShowsBlock c files block before last ps → ShowsBlock v files block before last ps
block_same {block = block} s h = record {
  there = subst (λ n. block < block_count n) (sym s.docs) h.there;
  bits = h.bits;
  told = rw (s.skip, s.skip_at) h.told;
  stands = rw (s.post, s.post_at, s.docs, s.all, s.parameter) h.stands;
}

pub first_same : {c v : Cursoring} (files : Option Files) (doc : ℕ) (found : Option Posting) → SameList c v → ShowsFirst c files doc found → ShowsFirst v files doc found
first_same files doc None s h = (h.0, rw (s.skip, s.skip_at, s.docs) h.1, h.2)
first_same files doc (Some p) s h = record {
  block = h.block;
  before = h.before;
  last = h.last;
  ps = h.ps;
  shown = block_same s h.shown;
  after = h.after;
  within = h.within;
  first = h.first;
}

-- ---- where a cursor stands

pub walks_shown : {c : Cursoring} {files : Option Files} {n : ℕ} → c.ended ≡ false → StandsShown c files n → WalksShown c files n
walks_shown {c} {files} {n} on stands = subst (λ b. StandsOnShown b c files n) on stands.on

walk_stands : {c : Cursoring} {files : Option Files} {n : ℕ} → c.ended ≡ false → WalksShown c files n → StandsShown c files n
walk_stands {c} {files} {n} on walks = record { on = subst (λ b. StandsOnShown b c files n) (sym on) walks }

-- it was asked for no later document
pub stands_later : {c : Cursoring} {files : Option Files} {m n : ℕ} → m ≤ n → StandsShown c files m → StandsShown c files n
stands_later {c} {files} {m} {n} le stands = record { on = on c.ended stands.on }
  where
    on : (b : Bool) → StandsOnShown b c files m → StandsOnShown b c files n
    on true s = (s.0, s.1, omega (arith, s.2, le))
    on false w = record {
      before = w.before;
      held = λ some.
          let h = w.held some in
          record { block = h.block; before = h.before; from = h.from; ps = h.ps; shown = h.shown; after = h.after; early = omega (arith, h.early, le); held_is = h.held_is };
    }

-- before the first posting
pub shown_start : {c : Cursoring} → c.ended ≡ false → c.reached ≡ 0 → c.last ≡ 0 → c.held ≡ [] → (files : Option Files) (n : ℕ) → StandsShown c files n
shown_start {c} on none first empty files n = walk_stands on (record {
  before = rw (none, first) (tells_first (told_at files c.skip.name) c.skip_at 0 0);
  held = λ some. absurd (omega (arith, some, ap length empty));
})

-- ---- what is answered

-- the first posting from a document on, of a block that is shown
first_in : {c : Cursoring} {files : Option Files} {block before last doc : ℕ} {ps : List Posting} (found : Option Posting) → ShowsBlock c files block before last ps → before < doc → doc ≤ last →
    found ≡ head_of (forward_to doc ps) → 0 < length (forward_to doc ps) → ShowsFirst c files doc found
first_in {doc = doc} {ps = ps} None shown after within is some = absurd (omega (arith, some, head_none (forward_to doc ps) (sym is)))
first_in {block = block} {before = before} {last = last} {ps = ps} (Some p) shown after within is some =
    record { block = block; before = before; last = last; ps = ps; shown = shown; after = after; within = within; first = sym is }

-- what is shown is not before the document
pub first_low : (c : Cursoring) (files : Option Files) (doc : ℕ) (found : Option Posting) → ShowsFirst c files doc found → IfSome found (λ p. doc ≤ p.doc)
first_low c files doc None h = tt
first_low c files doc (Some p) h = from_low doc h.ps p h.first

-- the cursor has ended
pub shown_ended : {c : Cursoring} {files : Option Files} {doc n : ℕ} → c.ended ≡ true → n ≤ doc → StandsShown c files n → AnswersShown c c files files doc None
shown_ended {c} {files} {doc} {n} off le stands =
    let past : ShowsFirst c files n None = subst (λ b. StandsOnShown b c files n) off stands.on in
    let later : ShowsFirst c files doc None = (past.0, past.1, omega (arith, past.2, le)) in
    record { first = later; stands = record { on = subst (λ b. StandsOnShown b c files doc) (sym off) later } }

-- the document lies in the block at hand
pub shown_within : {c : Cursoring} {files : Option Files} {doc n : ℕ} (held : List Posting) (found : Option Posting) → c.ended ≡ false → (length c.held ≡ 0 → c.last ≡ 0) →
    1 ≤ doc → doc ≤ c.last → held ≡ forward_to doc c.held → found ≡ head_of held → n ≤ doc → StandsShown c files n →
    AnswersShown c (record c { held = held }) files files doc found
shown_within {c} {files} {doc} held found on none some within went got le stands =
    let w = walks_shown on stands in
    elim (cases_lt 0 (length c.held)) [
      | inl there ↦ (
          let h = w.held there in
          let at : held ≡ forward_to doc h.ps = went ∙ ap (forward_to doc) h.held_is ∙ forward_on h.from doc h.ps (omega (arith, h.early, le)) in
          let after : h.before < doc = omega (arith, h.after, h.early, le) in
          let left : 0 < length (forward_to doc h.ps) = forward_some c.all h.before doc h.ps h.shown.stands.rises after (omega (arith, within, h.shown.stands.last_is)) in
          let walks : WalksShown (record c { held = held }) files doc = record {
            before = w.before;
            held = λ some. record { block = h.block; before = h.before; from = doc; ps = h.ps; shown = block_held h.shown; after = after; early = omega arith; held_is = at };
          } in
          record { first = first_in found h.shown after within (got ∙ ap head_of at) left; stands = walk_stands on walks })
      | inr nothing ↦ absurd (omega (arith, some, within, none (omega (arith, nothing))))
    ]
  where
    block_held : {block before last : ℕ} {ps : List Posting} → ShowsBlock c files block before last ps → ShowsBlock (record c { held = held }) files block before last ps
    block_held b = record { there = b.there; bits = b.bits; told = b.told; stands = b.stands }

-- all blocks end before the document
pub shown_past : {c v : Cursoring} {files : Option Files} {doc n blocks : ℕ} → SameList c v → v.ended ≡ true → blocks ≡ block_count c.docs → c.reached ≤ blocks → WalksShown c files n →
    EndsBefore (told_at files c.skip.name) c.skip_at c.reached c.last blocks doc None → AnswersShown c v files files doc None
shown_past {c} {v} {files} {doc} {n} {blocks} same off count reached walks past =
    let before : ShowsBefore c files blocks past.0 = before_on _ _ 0 c.reached 0 c.last blocks past.0 (omega arith) reached walks.before past.1 in
    let first : ShowsFirst c files doc None = (past.0, subst (λ k. ShowsBefore c files k past.0) count before, past.2) in
    record { first = first; stands = record { on = subst (λ b. StandsOnShown b v files doc) (sym off) (first_same files doc None same first) } }

-- the block that was found is entered
pub shown_entered : {c v : Cursoring} {files : Option Files} {doc n blocks : ℕ} {f : Found} {p : Posting} {some : 1 ≤ c.parameter} {small : c.parameter < 2 ^ 48} →
    SameList c v → v.ended ≡ false → v.reached ≡ f.block + 1 → v.last ≡ f.last →
    blocks ≡ block_count c.docs → WalksShown c files n → TellsFound (told_at files c.skip.name) c.skip_at c.reached c.last f → IsSound c.reached blocks c.all doc f →
    HoldsFound (told_at files c.post.name)
    (record { post_at = c.post_at; skip_at = c.skip_at; docs = c.docs; parameter = record { value = c.parameter; some = some; small = small }; all = c.all }) doc f v.held → head_of v.held ≡ Some p →
    AnswersShown c v files files doc (Some p)
shown_entered {c} {v} {files} {doc} {n} {blocks} {f} {p} same on reached last count walks tells sound holds is =
    let block : ShowsBlock c files f.block f.before f.last holds.ps = record {
      there = omega (arith, sound.there, count);
      bits = f.at;
      told = tells_on _ _ 0 c.reached 0 c.last f.block f.before f.last f.at (omega arith) sound.from walks.before tells;
      stands = holds.stands;
    } in
    let now : ShowsBefore c files (f.block + 1) f.last = tells_next _ _ 0 0 f.block f.last (omega arith) tells.last_is in
    let on_it : WalksShown v files doc = record {
      before = rw (same.skip, same.skip_at, reached, last) now;
      held = λ some. record {
        block = f.block;
        before = f.before;
        from = doc;
        ps = holds.ps;
        shown = subst (λ n. ShowsBlock v files f.block f.before n holds.ps) (sym last) (block_same same block);
        after = sound.below;
        early = omega arith;
        held_is = holds.held_is;
      };
    } in
    record {
      first = record {
        block = f.block;
        before = f.before;
        last = f.last;
        ps = holds.ps;
        shown = block;
        after = sound.below;
        within = sound.within;
        first = sym (ap head_of holds.held_is) ∙ is;
      };
      stands = walk_stands on on_it;
    }
