-- Where a cursor stands after it was asked for a document.
use Rattle.std.proofs.Common.{arith, ◌≡◌, ◌+◌, ◌*◌, ◌^◌, ◌≤◌, ◌<◌, ◌-◌, ℕ, Bool, true, false, List, [], ◌∷◌, ◌++◌, length}
use Rattle.std.proofs.Common.{take, drop, min, Option, Some, None, Err, refl, sym, ◌∙◌, ap, subst, ◌⊎◌, inl, inr, append_assoc, append-nil}
use Rattle.std.proofs.lemmas.List.{take-append-drop, take_all}
use Rattle.mg_dev.specs.declared.part.Part.{Part}
use Rattle.mg_dev.specs.declared.part.Part.TheVariants.{Post, Skip}
use Rattle.mg_bits.specs.Feed.{Device as Seen, Calm, raised}
use Rattle.mg_bits.specs.Pages.{Paging, SameFile, feeding_of}
use Rattle.mg_bits.proofs.CallerLemmas.{same_name}
use Rattle.mg_defs.specs.declared.Posting.{Posting}
use Rattle.mg_defs.specs.Lists.{last_doc, Rises, doc_before, block_of, from_doc}
use Rattle.mg_defs.proofs.ListLaws.{last_append, rises_left, rises_right, from_above, from_past, from_within, from_here, from_next, from_some, last_above}
use Rattle.mg_dev.specs.declared.part_err.PartErr.{PartErr}
use Rattle.mg_post.specs.declared.refusal.Refusal.{Refusal}
use Rattle.mg_post.specs.declared.refusal.Refusal.TheVariants.{Device, Damaged}
use Rattle.mg_post.specs.Answers.{IsRefused, OrDevice, AnswersList}
use Rattle.mg_post.specs.Finding.{IsFoundAt}
use Rattle.mg_post.specs.Cursor.{Cursoring, Walks, Entered, StandsOn, after, next_doc, forward_to, head_of, ReadsTwo, entered_pages, post_pages, skip_pages}
use Rattle.mg_post.proofs.FindLaws.{rises_front}
use Rattle.mg_post.proofs.ForwardLaws.{forward_from, forward_here, forward_next, forward_nothing, from_nothing}
use Rattle.mg_post.proofs.EnterLaws.{blocks_next, doc_next, block_rises}

-- the postings that are passed when one goes on to a document
pub record Suffix (whole left : List Posting) : Type 0 where
  pub passed : List Posting
  pub is : passed ++ left ≡ whole

pub order : (a b : ℕ) → (a < b) ⊎ (b ≤ a)
order a b = grind arith

forward_suffix : (doc : ℕ) (ps : List Posting) → Suffix ps (forward_to doc ps)
forward_suffix doc [] = record { passed = []; is = forward_nothing doc }
forward_suffix doc (p ∷ ps) =
    elim (order p.doc doc) [
      | inl below ↦ (let s = forward_suffix doc ps in record { passed = p ∷ s.passed; is = rw (forward_next doc p ps below) (ap (λ l. p ∷ l) s.is) })
      | inr above ↦ record { passed = []; is = forward_here doc p ps above }
    ]

pub from_suffix : (all d doc : ℕ) (ps : List Posting) → Rises all d ps → Suffix ps (from_doc doc ps)
from_suffix all d doc ps h = subst (Suffix ps) (forward_from all d doc ps h) (forward_suffix doc ps)

inside_some : (all d doc : ℕ) (a : List Posting) → Rises all d a → 0 < length a → doc ≤ last_doc d a → 0 < length (from_doc doc a)
unfolding Rises last_doc
inside_some all d doc [] h some le = absurd (omega arith)
inside_some all d doc (p ∷ a) h some le =
    elim (order p.doc doc) [
      | inl below ↦ rw (from_next doc p a below) (from_some all p.doc doc a h.1 below le)
      | inr above ↦ rw (from_here doc p a above) (omega arith)
    ]

pub head_front : (a b : List Posting) → 0 < length a → head_of (a ++ b) ≡ head_of a
head_front [] b some = absurd (omega arith)
head_front (p ∷ a) b some = refl

no_length : (l : List Posting) → (length l ≡ 0) ⊎ (0 < length l)
no_length l = grind arith

nothing_before : (ps : List Posting) → doc_before (64 * 0) ps ≡ 0
unfolding doc_before last_doc
nothing_before ps = refl

-- of the front of a walk
front_last : (ps passed held : List Posting) (reached last : ℕ) → last ≡ doc_before (64 * reached) ps → passed ++ held ≡ take (64 * reached) ps → last ≡ last_doc (last_doc 0 passed) held
unfolding doc_before
front_last ps passed held reached last is front = is ∙ ap (last_doc 0) (sym front) ∙ last_append 0 passed held

-- the postings passed and those left are all
walk_whole : (ps : List Posting) (reached last : ℕ) (held left : List Posting) → (w : Walks ps reached last held left) → w.passed ++ left ≡ ps
walk_whole ps reached last held left w =
    ap (λ l. w.passed ++ l) (sym w.left_is) ∙ sym (append_assoc w.passed held (drop (64 * reached) ps)) ∙ ap (λ l. l ++ drop (64 * reached) ps) w.front ∙ take-append-drop (64 * reached) ps

left_rises : (all : ℕ) (ps : List Posting) (reached last : ℕ) (held left : List Posting) → Rises all 0 ps → (w : Walks ps reached last held left) → Rises all (last_doc 0 w.passed) left
left_rises all ps reached last held left rises w = rises_right all 0 w.passed left (rw (walk_whole ps reached last held left w) rises)

-- what was asked for lies in the block that is at hand
walks_in : (all doc : ℕ) (ps : List Posting) (reached last : ℕ) (held left : List Posting) → Rises all 0 ps → 1 ≤ doc → doc ≤ last → Walks ps reached last held left →
    Walks ps reached last (forward_to doc held) (from_doc doc left) × (head_of (forward_to doc held) ≡ head_of (from_doc doc left))
walks_in all doc ps reached last held left rises some le w =
    elim (no_length held) [
      | inl none ↦ absurd (
          let zero_reached : reached ≡ 0 = w.some none in
          let e : last ≡ 0 = w.last_is ∙ ap (λ n. doc_before (64 * n) ps) zero_reached ∙ nothing_before ps in
          omega arith)
      | inr there ↦ (
          let whole : Rises all 0 (w.passed ++ held) = rw w.front (rises_front all (64 * reached) ps rises) in
          let mine : Rises all (last_doc 0 w.passed) held = rises_right all 0 w.passed held whole in
          let end : last ≡ last_doc (last_doc 0 w.passed) held = front_last ps w.passed held reached last w.last_is w.front in
          let within : doc ≤ last_doc (last_doc 0 w.passed) held = omega arith in
          let go : from_doc doc (held ++ drop (64 * reached) ps) ≡ from_doc doc held ++ drop (64 * reached) ps =
          from_within all (last_doc 0 w.passed) doc held (drop (64 * reached) ps) (rw (sym w.left_is) at (left_rises all ps reached last held left rises w))
          within in
          let go : from_doc doc left ≡ from_doc doc held ++ drop (64 * reached) ps = ap (from_doc doc) (sym w.left_is) ∙ go in
          let more : 0 < length (from_doc doc held) = inside_some all (last_doc 0 w.passed) doc held mine there within in
          let same : from_doc doc held ≡ forward_to doc held = sym (forward_from all (last_doc 0 w.passed) doc held mine) in
          let s : Suffix held (from_doc doc held) = from_suffix all (last_doc 0 w.passed) doc held mine in
          subst (λ now. Walks ps reached last now (from_doc doc left) × (head_of now ≡ head_of (from_doc doc left))) same (
            record {
              last_is = w.last_is;
              passed = w.passed ++ s.passed;
              front = append_assoc w.passed s.passed (from_doc doc held) ∙ ap (λ l. w.passed ++ l) s.is ∙ w.front;
              left_is = sym go;
              some = λ none. absurd (omega arith);
            },
            sym (ap head_of go ∙ head_front (from_doc doc held) (drop (64 * reached) ps) more),
          ))
    ]

-- beyond the block at hand, what is left and the whole list go on alike
from_whole : (all doc : ℕ) (ps : List Posting) (reached last : ℕ) (held left : List Posting) → Rises all 0 ps → last < doc → Walks ps reached last held left →
    from_doc doc left ≡ from_doc doc ps
from_whole all doc ps reached last held left rises lt w =
    let whole : Rises all 0 (w.passed ++ held) = rw w.front (rises_front all (64 * reached) ps rises) in
    let mine : Rises all (last_doc 0 w.passed) held = rises_right all 0 w.passed held whole in
    let end : last ≡ last_doc (last_doc 0 w.passed) held = front_last ps w.passed held reached last w.last_is w.front in
    let low : last_doc 0 w.passed < doc = omega (arith, last_above all (last_doc 0 w.passed) held mine) in
    sym (ap (from_doc doc) (sym (walk_whole ps reached last held left w)) ∙ from_past all 0 doc w.passed left (rises_left all 0 w.passed held whole) low)

-- no block's range holds the document
walks_end : (all doc : ℕ) (ps : List Posting) (reached last blocks : ℕ) (held left : List Posting) → Rises all 0 ps → last < doc → length ps ≤ 64 * blocks → doc_before (64 * blocks) ps < doc →
    Walks ps reached last held left → from_doc doc left ≡ []
unfolding doc_before
walks_end all doc ps reached last blocks held left rises lt whole past w =
    let e : take (64 * blocks) ps ≡ ps = take_all (64 * blocks) ps whole in
    let below : last_doc 0 ps < doc = rw e at past in
    from_whole all doc ps reached last held left rises lt w ∙ ap (from_doc doc) (sym (append-nil ps)) ∙ from_past all 0 doc ps [] rises below ∙ from_nothing doc

-- the block whose range holds the document was entered
walks_on : (all doc b : ℕ) (ps : List Posting) (reached last blocks block before to at post_at count : ℕ) (held left now : List Posting) (p : Posting) → Rises all 0 ps → last < doc →
    Walks ps reached last held left → IsFoundAt b ps blocks doc block before to at → Entered b ps post_at block doc p now count →
    Walks ps (block + 1) to now (from_doc doc left) × (Some p ≡ head_of (from_doc doc left))
unfolding doc_before
walks_on all doc b ps reached last blocks block before to at post_at count held left now p rises lt w found inside =
    let mine : Rises all (last_doc 0 (take (64 * block) ps)) (block_of block ps) = block_rises all block ps rises in
    let held_is : now ≡ from_doc doc (block_of block ps) = inside.held_is ∙ forward_from all (last_doc 0 (take (64 * block) ps)) doc (block_of block ps) mine in
    let within : doc ≤ last_doc (last_doc 0 (take (64 * block) ps)) (block_of block ps) = rw (doc_next block ps) at found.range.within in
    let some : 0 < length (from_doc doc (block_of block ps)) = from_some all (last_doc 0 (take (64 * block) ps)) doc (block_of block ps) mine found.range.after within in
    let split : ps ≡ take (64 * block) ps ++ (block_of block ps ++ drop (64 * (block + 1)) ps) =
    sym (take-append-drop (64 * (block + 1)) ps) ∙ ap (λ l. l ++ drop (64 * (block + 1)) ps) (blocks_next block ps)
    ∙ append_assoc (take (64 * block) ps) (block_of block ps) (drop (64 * (block + 1)) ps) in
    let whole : Rises all (last_doc 0 (take (64 * block) ps)) (block_of block ps ++ drop (64 * (block + 1)) ps) =
    rises_right all 0 (take (64 * block) ps) (block_of block ps ++ drop (64 * (block + 1)) ps) (subst (Rises all 0) split rises) in
    let go : from_doc doc left ≡ from_doc doc (block_of block ps) ++ drop (64 * (block + 1)) ps =
    from_whole all doc ps reached last held left rises lt w ∙ ap (from_doc doc) split
    ∙ from_past all 0 doc (take (64 * block) ps) (block_of block ps ++ drop (64 * (block + 1)) ps) (rises_front all (64 * block) ps rises) found.range.after
    ∙ from_within all (last_doc 0 (take (64 * block) ps)) doc (block_of block ps) (drop (64 * (block + 1)) ps) whole within in
    let s : Suffix (block_of block ps) (from_doc doc (block_of block ps)) = from_suffix all (last_doc 0 (take (64 * block) ps)) doc (block_of block ps) mine in (
      record {
        last_is = found.to;
        passed = take (64 * block) ps ++ s.passed;
        front = rw held_is (append_assoc (take (64 * block) ps) s.passed (from_doc doc (block_of block ps)) ∙ ap (λ l. take (64 * block) ps ++ l) s.is ∙ sym (blocks_next block ps));
        left_is = rw held_is (sym go);
        some = λ none. absurd (let e : length now ≡ length (from_doc doc (block_of block ps)) = ap length held_is in omega arith);
      },
      sym (ap head_of go ∙ head_front (from_doc doc (block_of block ps)) (drop (64 * (block + 1)) ps) some ∙ ap head_of (sym held_is) ∙ inside.current),
    )

-- ---- calls

pub walks_of : (b : Bool) (ps : List Posting) (reached last : ℕ) (held left : List Posting) → b ≡ false → StandsOn b ps reached last held left → Walks ps reached last held left
walks_of true ps reached last held left is stands = absurd cc
walks_of false ps reached last held left is stands = stands

stands_of : (b : Bool) (ps : List Posting) (reached last : ℕ) (held left : List Posting) → b ≡ false → Walks ps reached last held left → StandsOn b ps reached last held left
stands_of true ps reached last held left is walks = absurd cc
stands_of false ps reached last held left is walks = walks

pub in_block : (b : Bool) (all doc : ℕ) (ps : List Posting) (reached last : ℕ) (held left now : List Posting) (result : Option Posting) → b ≡ false → Rises all 0 ps → 1 ≤ doc → doc ≤ last →
    StandsOn b ps reached last held left → now ≡ forward_to doc held → result ≡ head_of now → (result ≡ head_of (from_doc doc left)) × StandsOn b ps reached last now (from_doc doc left)
in_block b all doc ps reached last held left now result is rises some le stands went got =
    let w = walks_in all doc ps reached last held left rises some le (walks_of b ps reached last held left is stands) in
    (got ∙ ap head_of went ∙ w.1, stands_of b ps reached last now (from_doc doc left) is (subst (λ l. Walks ps reached last l (from_doc doc left)) (sym went) w.0))

pub at_end : (e : Bool) (all doc : ℕ) (ps : List Posting) (reached last blocks then : ℕ) (held left now : List Posting) → e ≡ false → Rises all 0 ps →
    last < doc → length ps ≤ 64 * blocks → doc_before (64 * blocks) ps < doc →
    StandsOn e ps reached last held left → now ≡ [] → (None ≡ head_of (from_doc doc left)) × StandsOn true ps then last now (from_doc doc left)
at_end e all doc ps reached last blocks then held left now is rises lt whole past stands clear =
    let none : from_doc doc left ≡ [] = walks_end all doc ps reached last blocks held left rises lt whole past (walks_of e ps reached last held left is stands) in
    (ap head_of (sym none), (clear, none))

pub on_block : (e : Bool) (all doc b : ℕ) (ps : List Posting) (reached last blocks block before to at post_at count : ℕ) (held left inside now : List Posting)
    (p : Posting) → e ≡ false → Rises all 0 ps → last < doc →
    StandsOn e ps reached last held left → IsFoundAt b ps blocks doc block before to at → Entered b ps post_at block doc p inside count → now ≡ inside →
    (Some p ≡ head_of (from_doc doc left)) × StandsOn e ps (block + 1) to now (from_doc doc left)
on_block e all doc b ps reached last blocks block before to at post_at count held left inside now p is rises lt stands found entered swapped =
    let walks : Walks ps reached last held left = walks_of e ps reached last held left is stands in
    let w = walks_on all doc b ps reached last blocks block before to at post_at count held left inside p rises lt walks found entered in
    (w.1, stands_of e ps (block + 1) to now (from_doc doc left) is (subst (λ l. Walks ps (block + 1) to l (from_doc doc left)) (sym swapped) w.0))

pub starts : (ps : List Posting) → Walks ps 0 0 [] ps
starts ps = record {
  last_is = sym (nothing_before ps);
  passed = [];
  front = refl;
  left_is = refl;
  some = λ none. refl;
}

-- ---- the next posting

pub after_current : (all d : ℕ) (p : Posting) (rest : List Posting) → Rises all d (p ∷ rest) → (p.doc ≤ all) × (from_doc (p.doc + 1) (p ∷ rest) ≡ rest)
unfolding Rises
after_current all d p rest h = (h.0.within, from_next (p.doc + 1) p rest (omega arith) ∙ from_above all p.doc (p.doc + 1) rest h.1 (omega arith))

one_left : (d : ℕ) (p : Posting) → last_doc d (p ∷ []) ≡ p.doc
unfolding last_doc
one_left d p = refl

-- where the block at hand has no posting after the current one, the next is asked for by the document after the block's last
pub next_beyond : (b : Bool) (all : ℕ) (ps : List Posting) (reached last : ℕ) (held left : List Posting) → b ≡ false → Rises all 0 ps → length held ≤ 1 → StandsOn b ps reached last held left →
    (last + 1 ≡ next_doc held) × (from_doc (last + 1) left ≡ after held left)
next_beyond true all ps reached last held left is rises few stands = absurd cc
next_beyond false all ps reached last [] left is rises few w =
    let zero_reached : reached ≡ 0 = w.some refl in
    let e : left ≡ ps = sym w.left_is ∙ ap (λ n. drop (64 * n) ps) zero_reached in
    let l : last ≡ 0 = w.last_is ∙ ap (λ n. doc_before (64 * n) ps) zero_reached ∙ nothing_before ps in
    (ap (λ n. n + 1) l, ap (λ n. from_doc (n + 1) left) l ∙ ap (from_doc 1) e ∙ from_above all 0 1 ps rises (omega arith) ∙ sym e)
next_beyond false all ps reached last (p ∷ []) left is rises few w =
    let l : left ≡ p ∷ drop (64 * reached) ps = sym w.left_is in
    let d : last ≡ p.doc = front_last ps w.passed (p ∷ []) reached last w.last_is w.front ∙ one_left (last_doc 0 w.passed) p in
    let r : Rises all (last_doc 0 w.passed) (p ∷ drop (64 * reached) ps) = rw l at (left_rises all ps reached last (p ∷ []) left rises w) in
    let a = after_current all (last_doc 0 w.passed) p (drop (64 * reached) ps) r in
    (ap (λ n. n + 1) d, ap (λ n. from_doc (n + 1) left) d ∙ ap (from_doc (p.doc + 1)) l ∙ a.1 ∙ sym (ap (drop 1) l))
next_beyond false all ps reached last (p ∷ q ∷ held) left is rises few w = absurd (omega (arith, few))

-- the next posting of the block at hand
pub next_within : (b : Bool) (ps : List Posting) (reached last : ℕ) (held left now : List Posting) (p : Posting) → b ≡ false → 1 < length held →
    now ≡ drop 1 held → head_of now ≡ Some p → StandsOn b ps reached last held left →
    (Some p ≡ head_of (after held left)) × StandsOn b ps reached last now (after held left)
next_within true ps reached last held left now p is more went here stands = absurd cc
next_within false ps reached last [] left now p is more went here w = absurd (omega (arith, more))
next_within false ps reached last (q ∷ held) left now p is more went here w =
    let l : drop 1 left ≡ held ++ drop (64 * reached) ps = ap (drop 1) (sym w.left_is) in
    let some : 0 < length held = omega (arith, more) in (
      sym (ap head_of l ∙ head_front held (drop (64 * reached) ps) some ∙ ap head_of (sym went) ∙ here),
      record {
        last_is = w.last_is;
        passed = w.passed ++ q ∷ [];
        front = ap (λ h. (w.passed ++ q ∷ []) ++ h) went ∙ append_assoc w.passed (q ∷ []) held ∙ w.front;
        left_is = ap (λ h. h ++ drop (64 * reached) ps) went ∙ sym l;
        some = λ none. absurd (omega (arith, ap length went, none, some));
      },
    )

-- within the block at hand the document that is asked for is at most the block's last
pub next_low : (b : Bool) (all : ℕ) (ps : List Posting) (reached last : ℕ) (held left : List Posting) → b ≡ false → Rises all 0 ps → 1 < length held →
    StandsOn b ps reached last held left → next_doc held ≤ last
unfolding Rises last_doc
next_low true all ps reached last held left is rises more stands = absurd cc
next_low false all ps reached last [] left is rises more w = absurd (omega (arith, more))
next_low false all ps reached last (p ∷ []) left is rises more w = absurd (omega (arith, more))
next_low false all ps reached last (p ∷ q ∷ held) left is rises more w =
    let whole : Rises all 0 (w.passed ++ p ∷ q ∷ held) = rw w.front (rises_front all (64 * reached) ps rises) in
    let mine : Rises all (last_doc 0 w.passed) (p ∷ q ∷ held) = rises_right all 0 w.passed (p ∷ q ∷ held) whole in
    let end : last ≡ last_doc q.doc held = front_last ps w.passed (p ∷ q ∷ held) reached last w.last_is w.front in
    omega (arith, end, mine.1.0.after, last_above all q.doc held mine.1.1)

-- after the last posting of a list, the cursor has ended
pub ended_after : (b : Bool) (ps : List Posting) (reached last : ℕ) (held : List Posting) → 1 ≤ length ps → StandsOn b ps reached last held [] → b ≡ true
ended_after true ps reached last held some stands = refl
ended_after false ps reached last [] some w =
    let zero_reached : reached ≡ 0 = w.some refl in
    let e : ps ≡ [] = sym (sym w.left_is ∙ ap (λ n. drop (64 * n) ps) zero_reached) in
    absurd (omega (arith, ap length e, some))
ended_after false ps reached last (p ∷ held) some w = absurd (let e : p ∷ (held ++ drop (64 * reached) ps) ≡ [] = w.left_is in cc)

-- ---- the parts

pub same_file : (p q : Paging) (d e : Seen) → Calm (feeding_of 4096 p) (feeding_of 4096 q) d e → SameFile p q
same_file p q d e calm = record {
  name = same_name q.name p.name (λ files. ap (λ f. f files) calm.source);
  part = let is : Some q.part ≡ Some p.part = calm.part in cc;
}

-- ---- the three numbers

two_parts : Post ≡ Skip → ⊥
two_parts e = cc

pub part_is : (p q : Part) → Some p ≡ Some q → p ≡ q
part_is p q e = cc

pub reads_two : (c v : Cursoring) (d0 d1 d2 : Seen) → c.post.part ≡ Post → c.skip.part ≡ Skip → Calm (feeding_of 4096 c.skip) (feeding_of 4096 v.skip) d0 d1 →
    Calm (feeding_of 4096 c.post) (feeding_of 4096 v.post) d1 d2 → post_pages v ≤ entered_pages v →
    ReadsTwo c v d0.reads d2.reads
reads_two c v d0 d1 d2 post skip skipped posted first =
    let post_stays : d1.reads Post ≡ d0.reads Post = skipped.reads.others Post (λ e. two_parts (sym (part_is c.skip.part Post e) ∙ skip)) in
    let skip_stays : d2.reads Skip ≡ d1.reads Skip = posted.reads.others Skip (λ e. two_parts (sym post ∙ part_is c.post.part Skip e)) in
    record {
      later = λ p. omega (arith, skipped.reads.later p, posted.reads.later p);
      others = λ p not_post not_skip. posted.reads.others p (λ e. not_post (sym (part_is c.post.part p e) ∙ post)) ∙ skipped.reads.others p (λ e. not_skip (sym (part_is c.skip.part p e) ∙ skip));
      first = first;
      post_later = omega (arith, posted.counted.later);
      skip_later = omega (arith, skipped.counted.later);
      post = λ small.
          let few : v.post.count < 2 ^ 64 - 1 = omega (arith, small) in
          let exact : d2.reads Post ≡ raised (d1.reads Post) (v.post.count - c.post.count) = posted.counted.exact Post (ap Some post) few in
          let by : v.post.count - c.post.count ≡ post_pages v - post_pages c = omega (arith, few, posted.counted.later) in
          exact ∙ ap (λ n. raised n (v.post.count - c.post.count)) post_stays ∙ ap (raised (d0.reads Post)) by;
      skip = λ small.
          let few : v.skip.count < 2 ^ 64 - 1 = omega (arith, small) in
          let exact : d1.reads Skip ≡ raised (d0.reads Skip) (v.skip.count - c.skip.count) = skipped.counted.exact Skip (ap Some skip) few in
          let by : v.skip.count - c.skip.count ≡ skip_pages v - skip_pages c = omega (arith, few, skipped.counted.later) in
          skip_stays ∙ exact ∙ ap (raised (d0.reads Skip)) by;
    }

-- a block was entered, or reading it was refused
pub raised_by : (count now entered more : ℕ) → entered < 2 ^ 64 → min count (2 ^ 64 - 1) ≤ entered → now ≤ count + more →
    (entered ≤ min (entered + more) (2 ^ 64 - 1)) × (min now (2 ^ 64 - 1) ≤ min (entered + more) (2 ^ 64 - 1))
raised_by count now entered more small first step = (omega (arith, small), omega (arith, first, step))

pub raised_most : (entered read pages : ℕ) → read ≤ pages → min (entered + read) (2 ^ 64 - 1) ≤ min (entered + pages) (2 ^ 64 - 1)
raised_most entered read pages le = omega (arith, le)

-- ---- refusals

-- where the parts stand, a refusal is a device's failure
pub refused_answer : {A B : Type 0} (refusal : Refusal) (own : Part) (e : PartErr) (f : A → Type 0) (h : B → Type 0) → IsRefused refusal own e →
    OrDevice {T = A} (Err refusal) f → AnswersList {T = B} (Err e) h
refused_answer {A} {B} Device own e f h is got = subst (λ x. AnswersList {T = B} (Err x) h) (sym is) tt
refused_answer (Damaged at) own e f h is got = absurd got
