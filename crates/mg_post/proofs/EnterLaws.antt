-- What stands where a block is entered.
use Rattle.std.proofs.Common.{arith, suc, zero, ◌≡◌, ◌+◌, ◌*◌, ◌^◌, ◌≤◌, ◌<◌, ◌-◌, ℕ, List, [], ◌∷◌, ◌++◌, length}
use Rattle.std.proofs.Common.{take, drop, min, Option, Some, None, Result, Ok, Err, refl, sym, ◌∙◌, ap, subst, length-append}
use Rattle.std.proofs.lemmas.Grind.{common_steps}
use Rattle.std.proofs.lemmas.List.{take-append-drop, drop-drop, length-drop}
use Rattle.std.proofs.Math.Seq.{take-add}
use Rattle.mg_dev.specs.declared.part.Part.{Part}
use Rattle.mg_defs.specs.Bits.{Shows}
use Rattle.mg_defs.specs.declared.Posting.{Posting}
use Rattle.mg_defs.specs.Lists.{bits_after, last_doc, Rises, doc_before, bits_before, block_of, block_pages}
use Rattle.mg_defs.specs.PagesOf.{pages}
use Rattle.mg_defs.proofs.ListLaws.{bits_append, rises_left, rises_right, rest_stands, block_last}
use Rattle.mg_dev.specs.Files.{Files}
use Rattle.mg_bits.specs.Feed.{Feeding, Device as Seen, Read, ReadsWithin, to_read}
use Rattle.mg_bits.specs.Reading.{Reading}
use Rattle.mg_post.specs.declared.enter.ListPlace.{ListPlace}
use Rattle.mg_post.specs.declared.find.Found.{Found}
use Rattle.mg_post.specs.declared.refusal.Refusal.{Refusal}
use Rattle.mg_post.specs.Entering.{EntersFound}
use Rattle.mg_post.specs.Reading.{ReadsFeed}
use Rattle.mg_post.specs.PagesOnce.{ReadsOn}
use Rattle.mg_post.specs.Stands.{BlockStands}
use Rattle.mg_post.specs.Finding.{IsFoundAt}
use Rattle.mg_post.specs.Cursor.{Entered, forward_to, head_of}
use Rattle.mg_post.proofs.ForwardLaws.{forward_some}
use Rattle.mg_post.proofs.ReadLaws.{any_refused}
use Rattle.mg_post.specs.Answers.{OrDevice}

parted : (b n : ℕ) (ps : List Posting) → bits_after b 0 ps ≡ bits_after b 0 (take n ps) ++ bits_after b (doc_before n ps) (drop n ps)
unfolding doc_before
parted b n ps = ap (bits_after b 0) (sym (take-append-drop n ps)) ∙ bits_append b 0 (take n ps) (drop n ps)

parted_length : (b n : ℕ) (ps : List Posting) → length (bits_after b 0 ps) ≡ bits_before b n ps + length (bits_after b (doc_before n ps) (drop n ps))
unfolding bits_before
parted_length b n ps = ap length (parted b n ps) ∙ length-append (bits_after b 0 (take n ps)) (bits_after b (doc_before n ps) (drop n ps))

rest_rises : (all n : ℕ) (ps : List Posting) → Rises all 0 ps → Rises all (doc_before n ps) (drop n ps)
unfolding doc_before
rest_rises all n ps h = rises_right all 0 (take n ps) (drop n ps) (subst (Rises all 0) (sym (take-append-drop n ps)) h)

rest_shown : (told : Option (List ℕ)) (post_at place b n : ℕ) (ps : List Posting) → place ≡ post_at + bits_before b n ps → Shows told post_at (bits_after b 0 ps) →
    Shows told place (bits_after b (doc_before n ps) (drop n ps))
rest_shown None post_at place b n ps is h = h
rest_shown (Some bytes) post_at place b n ps is h = rw is (rw drop-drop at (rest_stands b n ps _ h))

pub blocks_next : (k : ℕ) (ps : List Posting) → take (64 * (k + 1)) ps ≡ take (64 * k) ps ++ block_of k ps
unfolding block_of
blocks_next k ps =
    let e : 64 * (k + 1) ≡ 64 * k + 64 = omega arith in
    ap (λ n. take n ps) e ∙ take-add (64 * k) 64 ps

pub bits_next : (b k : ℕ) (ps : List Posting) → bits_before b (64 * (k + 1)) ps ≡ bits_before b (64 * k) ps + length (bits_after b (doc_before (64 * k) ps) (block_of k ps))
unfolding bits_before doc_before
bits_next b k ps =
    ap (λ l. length (bits_after b 0 l)) (blocks_next k ps) ∙ ap length (bits_append b 0 (take (64 * k) ps) (block_of k ps))
    ∙ length-append (bits_after b 0 (take (64 * k) ps)) (bits_after b (last_doc 0 (take (64 * k) ps)) (block_of k ps))

pub doc_next : (k : ℕ) (ps : List Posting) → doc_before (64 * (k + 1)) ps ≡ last_doc (doc_before (64 * k) ps) (block_of k ps)
doc_next k ps = sym (block_last k ps)

pub block_rises : (all k : ℕ) (ps : List Posting) → Rises all 0 ps → Rises all (doc_before (64 * k) ps) (block_of k ps)
unfolding block_of
block_rises all k ps h = rises_left all (doc_before (64 * k) ps) (take 64 (drop (64 * k) ps)) (drop 64 (drop (64 * k) ps))
    (subst (Rises all (doc_before (64 * k) ps)) (sym (take-append-drop 64 (drop (64 * k) ps))) (rest_rises all (64 * k) ps h))

take_least : (n : ℕ) (qs : List Posting) → take (min (length qs) n) qs ≡ take n qs
take_least n [] = grind (arith, common_steps)
take_least zero (q ∷ qs) = grind (arith, common_steps)
take_least (suc n) (q ∷ qs) =
    let e : min (length (q ∷ qs)) (suc n) ≡ suc (min (length qs) n) = omega arith in
    ap (λ m. take m (q ∷ qs)) e ∙ ap (λ l. q ∷ l) (take_least n qs)

take_block : (docs k : ℕ) (ps : List Posting) → docs ≡ length ps → take (min (docs - 64 * k) 64) (drop (64 * k) ps) ≡ block_of k ps
unfolding block_of
take_block docs k ps is =
    let e : docs - 64 * k ≡ length (drop (64 * k) ps) = omega (arith, length-drop (64 * k) ps) in
    ap (λ n. take (min n 64) (drop (64 * k) ps)) e ∙ take_least 64 (drop (64 * k) ps)

block_is : (count docs k : ℕ) (ps : List Posting) → count ≡ min (docs - 64 * k) 64 → docs ≡ length ps → take count (drop (64 * k) ps) ≡ block_of k ps
block_is count docs k ps counted whole = ap (λ n. take n (drop (64 * k) ps)) counted ∙ take_block docs k ps whole

-- the answer of a block's read
pub block_answer : (told : Option (List ℕ)) (post_at all b place before count docs k : ℕ) (ps held : List Posting) (result : Result ℕ Refusal) → count ≡ min (docs - 64 * k) 64 → docs ≡ length ps →
    before ≡ doc_before (64 * k) ps → place ≡ post_at + bits_before b (64 * k) ps → Rises all 0 ps → Shows told post_at (bits_after b 0 ps) → post_at + length (bits_after b 0 ps) ≤ 2 ^ 63 →
    ((qs : List Posting) → Rises all before qs → count ≤ length qs → place + length (bits_after b before qs) ≤ 2 ^ 63 →
    Shows told place (bits_after b before qs) → OrDevice result (λ u. held ≡ take count qs)) →
    OrDevice result (λ u. held ≡ block_of k ps)
block_answer told post_at all b place before count docs k ps held result counted whole from at rises shows small answers =
    let got : OrDevice result (λ u. held ≡ take count (drop (64 * k) ps)) =
    answers (drop (64 * k) ps) (rw from (rest_rises all (64 * k) ps rises)) (omega (arith, length-drop (64 * k) ps))
    (rw from (omega (arith, parted_length b (64 * k) ps))) (rw from (rest_shown told post_at place b (64 * k) ps at shows)) in
    subst (λ l. OrDevice result (λ u. held ≡ l)) (block_is count docs k ps counted whole) got

pub head_none : (qs : List Posting) → head_of qs ≡ None → length qs ≡ 0
head_none [] h = refl
head_none (q ∷ qs) h = absurd cc

pub found_some : (all b blocks doc k before last at : ℕ) (ps : List Posting) → Rises all 0 ps → IsFoundAt b ps blocks doc k before last at → 0 < length (forward_to doc (block_of k ps))
found_some all b blocks doc k before last at ps rises found =
    forward_some all (doc_before (64 * k) ps) doc (block_of k ps) (block_rises all k ps rises) found.range.after (rw doc_next at found.range.within)

-- a block that was read ends with the document that was found
pub block_ends : (b blocks doc k before last at end : ℕ) (ps held : List Posting) → IsFoundAt b ps blocks doc k before last at → held ≡ block_of k ps → end ≡ last_doc before held → end ≡ last
block_ends b blocks doc k before last at end ps held found is ends =
    ends ∙ ap (λ d. last_doc d held) found.from ∙ ap (last_doc (doc_before (64 * k) ps)) is ∙ sym (doc_next k ps) ∙ sym found.to

-- ---- pages

pub to_read_most : (held : Option ℕ) (from to : ℕ) → to_read 4096 held from to ≤ pages from to
to_read_most None from to = grind (arith, common_steps)
to_read_most (Some h) from to = grind (arith, common_steps)

pub count_most : (f0 f1 : Feeding) (d0 d1 : Seen) (from to : ℕ) → f0.page ≡ 4096 → ReadsWithin f0 f1 d0 d1 from to → f1.count ≤ f0.count + pages from to
count_most f0 f1 d0 d1 from to is within =
    let some : f1.count ≤ f0.count + to_read 4096 f0.held from to = subst (λ n. f1.count ≤ f0.count + to_read n f0.held from to) is within.feed in
    omega (arith, some, to_read_most f0.held from to)

-- the device's count of a feed's own part
pub device_most : (f0 f1 : Feeding) (d0 d1 : Seen) (part : Part) (from to : ℕ) → f0.page ≡ 4096 → f0.part ≡ Some part → ReadsWithin f0 f1 d0 d1 from to →
    d1.reads part ≤ d0.reads part + pages from to
device_most f0 f1 d0 d1 part from to is own within =
    let some : d1.reads part ≤ d0.reads part + to_read 4096 f0.held from to = subst (λ n. d1.reads part ≤ d0.reads part + to_read n f0.held from to) is (within.device part own) in
    omega (arith, some, to_read_most f0.held from to)

-- the bit behind a block, by the place where it was read from and to
pub end_of : (b post_at place end k before : ℕ) (ps filled : List Posting) → filled ≡ block_of k ps → before ≡ doc_before (64 * k) ps →
    place ≡ post_at + bits_before b (64 * k) ps → end ≡ place + length (bits_after b before filled) → end ≡ post_at + bits_before b (64 * (k + 1)) ps
end_of b post_at place end k before ps filled is from at ends =
    let e : length (bits_after b before filled) ≡ length (bits_after b (doc_before (64 * k) ps) (block_of k ps)) = ap (λ l. length (bits_after b before l)) is
    ∙ ap (λ d. length (bits_after b d (block_of k ps))) from in
    omega (arith, bits_next b k ps)

-- a block that was read was read on from the page that was held
pub read_on : {T : Type 0} (x : T) (b post_at place end k before : ℕ) (ps filled : List Posting) (f0 f1 : Feeding) (d0 d1 : Seen) → f0.page ≡ 4096 →
    filled ≡ block_of k ps → before ≡ doc_before (64 * k) ps → place ≡ post_at + bits_before b (64 * k) ps → end ≡ place + length (bits_after b before filled) →
    Read f0 f1 d0 d1 place end → ReadsOn (post_at + bits_before b (64 * k) ps) (post_at + bits_before b (64 * (k + 1)) ps) (Ok x) f0 f1
read_on x b post_at place end k before ps filled f0 f1 d0 d1 page is from at ends read =
    let end_is = end_of b post_at place end k before ps filled is from at ends in
    record { count = rw (page, at, end_is) at read.pages.feed; held = rw (page, at, end_is) at read.held }

-- the pages of a block, by the place where it was read from and to
pub pages_is : (b post_at place end k before : ℕ) (ps filled : List Posting) → filled ≡ block_of k ps → before ≡ doc_before (64 * k) ps →
    place ≡ post_at + bits_before b (64 * k) ps → end ≡ place + length (bits_after b before filled) →
    pages place end ≡ block_pages b post_at k ps
unfolding block_pages
pages_is b post_at place end k before ps filled is from at ends =
    let end_is = end_of b post_at place end k before ps filled is from at ends in
    ap (λ n. pages n end) at ∙ ap (λ n. pages (post_at + bits_before b (64 * k) ps) n) end_is

pub entered : (b post_at place end block doc before counted : ℕ) (ps filled held : List Posting) (p : Posting) → filled ≡ block_of block ps → held ≡ forward_to doc filled → head_of held ≡ Some p →
    before ≡ doc_before (64 * block) ps → place ≡ post_at + bits_before b (64 * block) ps → end ≡ place + length (bits_after b before filled) →
    counted ≡ pages place end → Entered b ps post_at block doc p held counted
entered b post_at place end block doc before counted ps filled held p is forward current from at ends pages_are = record {
  held_is = forward ∙ ap (forward_to doc) is;
  current = current;
  pages = pages_are ∙ pages_is b post_at place end block before ps filled is from at ends;
}

-- a block that was refused was read on its pages alone
pub block_within : (told : Option (List ℕ)) (f0 f1 : Feeding) (d0 d1 : Seen) (post_at all b place before count docs k : ℕ) (ps : List Posting) →
    count ≡ min (docs - 64 * k) 64 → docs ≡ length ps →
    before ≡ doc_before (64 * k) ps → place ≡ post_at + bits_before b (64 * k) ps → Rises all 0 ps → Shows told post_at (bits_after b 0 ps) → post_at + length (bits_after b 0 ps) ≤ 2 ^ 63 →
    ((qs : List Posting) → Rises all before qs → count ≤ length qs → place + length (bits_after b before qs) ≤ 2 ^ 63 →
    Shows told place (bits_after b before qs) → ReadsWithin f0 f1 d0 d1 place (place + length (bits_after b before (take count qs)))) →
    (to : ℕ) × ReadsWithin f0 f1 d0 d1 place to × (to ≡ post_at + bits_before b (64 * (k + 1)) ps) × (pages place to ≡ block_pages b post_at k ps)
block_within told f0 f1 d0 d1 post_at all b place before count docs k ps counted whole from at rises shows small answers =
    let within : ReadsWithin f0 f1 d0 d1 place (place + length (bits_after b before (take count (drop (64 * k) ps)))) =
    answers (drop (64 * k) ps) (rw from (rest_rises all (64 * k) ps rises)) (omega (arith, length-drop (64 * k) ps))
    (rw from (omega (arith, parted_length b (64 * k) ps))) (rw from (rest_shown told post_at place b (64 * k) ps at shows)) in (
      place + length (bits_after b before (take count (drop (64 * k) ps))),
      within,
      end_of b post_at place (place + length (bits_after b before (take count (drop (64 * k) ps)))) k before ps (take count (drop (64 * k) ps)) (block_is count docs k ps counted whole) from at refl,
      pages_is b post_at place (place + length (bits_after b before (take count (drop (64 * k) ps)))) k before ps (take count (drop (64 * k) ps)) (block_is count docs k ps counted whole) from at refl,
    )

-- and on from the page that was held
pub refused_on : {T : Type 0} (refusal : Refusal) (told : Option (List ℕ)) (f0 f1 : Feeding) (d0 d1 : Seen) (post_at all b place before count docs k : ℕ) (ps : List Posting) →
    f0.page ≡ 4096 → count ≡ min (docs - 64 * k) 64 → docs ≡ length ps →
    before ≡ doc_before (64 * k) ps → place ≡ post_at + bits_before b (64 * k) ps → Rises all 0 ps → Shows told post_at (bits_after b 0 ps) → post_at + length (bits_after b 0 ps) ≤ 2 ^ 63 →
    ((qs : List Posting) → Rises all before qs → count ≤ length qs → place + length (bits_after b before qs) ≤ 2 ^ 63 →
    Shows told place (bits_after b before qs) → ReadsWithin f0 f1 d0 d1 place (place + length (bits_after b before (take count qs)))) →
    ReadsOn {T = T} (post_at + bits_before b (64 * k) ps) (post_at + bits_before b (64 * (k + 1)) ps) (Err refusal) f0 f1
refused_on refusal told f0 f1 d0 d1 post_at all b place before count docs k ps page counted whole from at rises shows small answers =
    let w = block_within told f0 f1 d0 d1 post_at all b place before count docs k ps counted whole from at rises shows small answers in
    let step : f1.count ≤ f0.count + to_read 4096 f0.held place w.0 = subst (λ n. f1.count ≤ f0.count + to_read n f0.held place w.0) page w.1.feed in
    let from_it : f1.count ≤ f0.count + to_read 4096 f0.held (post_at + bits_before b (64 * k) ps) w.0 =
    subst (λ n. f1.count ≤ f0.count + to_read 4096 f0.held n w.0) at step in
    record { count = subst (λ n. f1.count ≤ f0.count + to_read 4096 f0.held (post_at + bits_before b (64 * k) ps) n) w.2 from_it; held = tt }

pub refused_pages : (told : Option (List ℕ)) (f0 f1 : Feeding) (d0 d1 : Seen) (post_at all b place before count docs k : ℕ) (ps : List Posting) →
    f0.page ≡ 4096 → count ≡ min (docs - 64 * k) 64 → docs ≡ length ps →
    before ≡ doc_before (64 * k) ps → place ≡ post_at + bits_before b (64 * k) ps → Rises all 0 ps → Shows told post_at (bits_after b 0 ps) → post_at + length (bits_after b 0 ps) ≤ 2 ^ 63 →
    ((qs : List Posting) → Rises all before qs → count ≤ length qs → place + length (bits_after b before qs) ≤ 2 ^ 63 →
    Shows told place (bits_after b before qs) → ReadsWithin f0 f1 d0 d1 place (place + length (bits_after b before (take count qs)))) →
    f1.count ≤ f0.count + block_pages b post_at k ps
refused_pages told f0 f1 d0 d1 post_at all b place before count docs k ps page counted whole from at rises shows small answers =
    let w = block_within told f0 f1 d0 d1 post_at all b place before count docs k ps counted whole from at rises shows small answers in
    omega (arith, count_most f0 f1 d0 d1 place w.0 page w.1, w.3)

-- ---- one block alone

whole_front : (n : ℕ) (ps : List Posting) → length ps ≡ n → take n ps ≡ ps
whole_front n [] is = grind (arith, common_steps)
whole_front zero (p ∷ ps) is = absurd (omega (arith, is))
whole_front (suc n) (p ∷ ps) is = ap (λ l. p ∷ l) (whole_front n ps (omega (arith, is)))

-- the answer of the read of a block that stands
pub block_filled : (told : Option (List ℕ)) (all b at count before last place : ℕ) (ps held : List Posting) (result : Result ℕ Refusal) → BlockStands all b told at count before last ps → place ≡ at →
    ((qs : List Posting) → Rises all before qs → count ≤ length qs → place + length (bits_after b before qs) ≤ 2 ^ 63 →
    Shows told place (bits_after b before qs) → OrDevice result (λ u. held ≡ take count qs)) →
    OrDevice result (λ u. held ≡ ps)
block_filled told all b at count before last place ps held result stands is answers =
    let got : OrDevice result (λ u. held ≡ take count ps) =
    answers ps stands.rises (omega (arith, stands.count_is)) (omega (arith, is, stands.small)) (subst (λ n. Shows told n (bits_after b before ps)) (sym is) stands.bits) in
    subst (λ l. OrDevice result (λ u. held ≡ l)) (whole_front count ps stands.count_is) got

-- it has a posting from a document of its range on
pub filled_some : (told : Option (List ℕ)) (all b at count before last doc : ℕ) (ps : List Posting) → before < doc → doc ≤ last →
    BlockStands all b told at count before last ps → 0 < length (forward_to doc ps)
filled_some told all b at count before last doc ps after within stands = forward_some all before doc ps stands.rises after (omega (arith, within, stands.last_is))

-- what a refusal tells is told whatever postings are at hand
pub refused_beside : {Fed Dev : Type 0} {agrees : Fed → Option Files → Type 0} {feeding : Fed → Feeding} {device : Dev → Seen} {old new : Reading Fed} {d e : Dev}
    {list : ListPlace} {found : Found} {doc : ℕ} {held other : List Posting} {refusal : Refusal} →
    ReadsFeed (EntersFound list found doc held) agrees feeding device old new d e (Err refusal) →
    ReadsFeed (EntersFound list found doc other) agrees feeding device old new d e (Err refusal)
refused_beside {refusal = refusal} s = record {
  does = record {
    sound = tt;
    from = tt;
    current = tt;
    whole = λ is. tt;
    shows = tt;
    count = tt;
    listed = λ ps blocks rises whole shows small there.
        let got = s.does.listed ps blocks rises whole shows small there in
        record { told = any_refused refusal _ _ got.told; most = got.most; once = got.once };
    block = s.does.block;
    lacks = s.does.lacks;
  };
  fits = s.fits;
  calm = s.calm;
  cause = s.cause;
}
