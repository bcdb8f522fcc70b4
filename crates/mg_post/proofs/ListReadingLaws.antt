-- Whole lists that are read: what each way out of a reader's call promises.
use Rattle.std.proofs.Common.{arith, suc, zero, ◌≡◌, ◌+◌, ◌-◌, ◌*◌, ◌^◌, ◌≤◌, ◌<◌, ℕ, List, [], ◌∷◌, ◌++◌, length, take, drop, min}
use Rattle.std.proofs.Common.{Option, Some, None, Ok, Err, IfSome, refl, sym, ◌∙◌, ap, subst, inl, inr}
use Rattle.std.proofs.lemmas.List.{drop-drop, length-drop, take-append-drop}
use Rattle.mg_dev.specs.Files.{Files, Reads, bytes_at}
use Rattle.mg_dev.specs.Names.{full_name}
use Rattle.mg_dev.specs.declared.part.Part.TheVariants.{Post, Skip}
use Rattle.mg_dev.specs.declared.part_err.PartErr.{PartErr}
use Rattle.mg_bits.specs.Feed.{Device as Seen, ReadsWithin, told_at}
use Rattle.mg_bits.specs.Pages.{Fits, Paging, feeding_of}
use Rattle.mg_bits.specs.Reading.{Reading}
use Rattle.mg_bits.proofs.CallerLemmas.{is_told}
use Rattle.mg_defs.specs.Bits.{Shows}
use Rattle.mg_defs.specs.declared.Posting.{Posting}
use Rattle.mg_defs.specs.Codes.{golomb_parameter}
use Rattle.mg_defs.specs.Lexicon as defs
use Rattle.mg_defs.specs.Split.{documents}
use Rattle.mg_defs.specs.Lists.{Rises, bits_after, bits_before, block_count, block_of, block_pages, doc_before, from_doc, last_doc, list_byte, postings}
use Rattle.mg_defs.specs.PageBounds.{list_bit, list_pages, parameter_of, whole_pages}
use Rattle.mg_defs.specs.PagesOf.{pages}
use Rattle.mg_defs.proofs.ListLaws.{from_above, from_here, from_next, list_rises, rises_right}
use Rattle.mg_laws.proofs.BoundLaws.{whole_more, whole_rises}
use Rattle.mg_laws.proofs.LedLists.{length_postings}
use Rattle.mg_laws.proofs.MetBlocks.{from_from, number_is, term_some}
use Rattle.mg_layout.specs.declared.term_info.TermInfo.{TermInfo}
use Rattle.mg_post.specs.Answers.{IsRefused, OnDamage}
use Rattle.mg_post.specs.Cursor.{HeldRises, IsFrom, head_of, next_doc}
use Rattle.mg_post.specs.ListReading.{AnswersReader, ListReading, OpensList, ReadStep, ReaderFor, WalksOn, doc_in, left_behind, read_pages, span_to}
use Rattle.mg_post.specs.Missing.{LacksPosting}
use Rattle.mg_post.specs.Reading.{FillsBlock}
use Rattle.mg_post.specs.TermLists.{ListsStand}
use Rattle.mg_post.specs.declared.refusal.Refusal.{Refusal}
use Rattle.mg_post.proofs.CursorLaws.{Suffix, after_current, from_suffix, head_front, order, part_is, refused_answer, same_file}
use Rattle.mg_post.proofs.EnterLaws.{bits_next, block_answer, block_within, device_most, doc_next, end_of, pages_is}
use Rattle.mg_post.proofs.ForwardLaws.{forward_all}
use Rattle.mg_post.proofs.SoundLaws.{block_held, in_held, names_own, next_held, own_cause}
use Rattle.mg_post.proofs.StandLaws.{term_stands}
use Rattle.mg_post.proofs.StepLaws.{not_memory, part_cause}
use Rattle.mg_post.proofs.WalkPages.{HoldsLast, span_next, span_within, walk_holds}

-- ---- postings

head_first : (held rest : List Posting) (p : Posting) → head_of held ≡ Some p → head_of (held ++ rest) ≡ Some p
head_first [] rest p is = absurd cc
head_first (q ∷ held) rest p is = is

from_least : (d : ℕ) (ps : List Posting) (p : Posting) → head_of (from_doc d ps) ≡ Some p → d ≤ p.doc
unfolding from_doc
from_least d [] p is = absurd cc
from_least d (q ∷ ps) p is =
    elim (order q.doc d) [
      | inl below ↦ from_least d ps p (sym (ap head_of (from_next d q ps below)) ∙ is)
      | inr above ↦ (let e : Some q ≡ Some p = sym (ap head_of (from_here d q ps above)) ∙ is in let same : q ≡ p = cc in omega (arith, ap (λ (x : Posting). x.doc) same, above))
    ]

-- all postings are behind 0
from_first : (all : ℕ) (ps : List Posting) → Rises all 0 ps → from_doc (0 + 1) ps ≡ ps
from_first all ps rises = from_above all 0 1 ps rises (omega arith)

-- what is left behind the first of those that are left behind a document
next_left : (all last : ℕ) (ps held rest : List Posting) (p : Posting) → Rises all 0 ps → head_of held ≡ Some p → held ++ rest ≡ from_doc (last + 1) ps →
    drop 1 held ++ rest ≡ from_doc (p.doc + 1) ps
next_left all last ps [] rest p rises is whole = absurd cc
next_left all last ps (q ∷ held) rest p rises is whole =
    let same : q ≡ p = cc in
    let s : Suffix ps (from_doc (last + 1) ps) = from_suffix all 0 (last + 1) ps rises in
    let behind : Rises all (last_doc 0 s.passed) (from_doc (last + 1) ps) = rises_right all 0 s.passed (from_doc (last + 1) ps) (subst (Rises all 0) (sym s.is) rises) in
    let mine : Rises all (last_doc 0 s.passed) (q ∷ (held ++ rest)) = subst (Rises all (last_doc 0 s.passed)) (sym whole) behind in
    let low : last + 1 ≤ p.doc = from_least (last + 1) ps p (ap head_of (sym whole) ∙ is) in
    sym (after_current all (last_doc 0 s.passed) q (held ++ rest) mine).1
    ∙ ap (λ (x : Posting). from_doc (x.doc + 1) (q ∷ (held ++ rest))) same
    ∙ ap (from_doc (p.doc + 1)) whole
    ∙ from_from (last + 1) (p.doc + 1) ps (omega (arith, low))

few_left : (held : List Posting) → length held ≤ 1 → drop 1 held ≡ []
few_left [] few = refl
few_left (p ∷ []) few = refl
few_left (p ∷ q ∷ held) few = absurd (omega (arith, few))

none_left : (n : ℕ) (ps : List Posting) → length ps ≤ n → drop n ps ≡ []
none_left zero [] le = refl
none_left (suc n) [] le = refl
none_left zero (p ∷ ps) le = absurd (omega (arith, le))
none_left (suc n) (p ∷ ps) le = none_left n ps (omega (arith, le))

-- a block, and what is behind it
block_rest : (k : ℕ) (ps : List Posting) → block_of k ps ++ drop (64 * (k + 1)) ps ≡ drop (64 * k) ps
unfolding block_of
block_rest k ps =
    let e : 64 * (k + 1) ≡ 64 * k + 64 = omega arith in
    let split : take 64 (drop (64 * k) ps) ++ drop (64 * k + 64) ps ≡ drop (64 * k) ps = rw drop-drop at (take-append-drop 64 (drop (64 * k) ps)) in
    ap (λ n. take 64 (drop (64 * k) ps) ++ drop n ps) e ∙ split

-- its bits, where it was read
block_bits : (b before k : ℕ) (ps block : List Posting) → block ≡ block_of k ps → before ≡ doc_before (64 * k) ps →
    length (bits_after b before block) ≡ length (bits_after b (doc_before (64 * k) ps) (block_of k ps))
block_bits b before k ps block is from = ap (λ l. length (bits_after b before l)) is ∙ ap (λ d. length (bits_after b d (block_of k ps))) from

-- a block whose documents rise behind one
pub block_whole : (all before last : ℕ) (block : List Posting) → Rises all before block → last ≡ last_doc before block → HeldRises all last block
block_whole all before last block rises is = block_held all before last last (before + 1) block block rises is refl (sym (forward_all all before block rises))

-- the document of the current posting
current_last : (all last : ℕ) (held : List Posting) → HeldRises all last held → length held ≤ 1 → doc_in last held ≡ last
unfolding last_doc
current_last all last [] rises few = refl
current_last all last (p ∷ []) rises few = rises.ends (omega arith)
current_last all last (p ∷ q ∷ held) rises few = absurd (omega (arith, few))

current_next : (last : ℕ) (held : List Posting) → 1 < length held → next_doc held ≡ doc_in last held + 1
current_next last [] more = absurd (omega (arith, more))
current_next last (p ∷ held) more = refl

current_is : (last : ℕ) (held : List Posting) (found : Option Posting) → found ≡ head_of held → IfSome found (λ p. doc_in last held ≡ p.doc)
current_is last held None is = tt
current_is last [] (Some p) is = absurd cc
current_is last (q ∷ held) (Some p) is = let same : q ≡ p = cc in ap (λ (x : Posting). x.doc) same

-- none is passed over
walks_on : (r v : ListReading) (found : Option Posting) → found ≡ head_of v.held → 0 < length v.held → left_behind r ≡ length v.held + (v.docs - 64 * v.reached) → WalksOn r v found
walks_on r v None is some left = absurd (head_empty v.held (sym is) some)
  where
    head_empty : (held : List Posting) → head_of held ≡ None → 0 < length held → ⊥
    head_empty [] e lt = omega (arith, lt)
    head_empty (q ∷ held) e lt = cc
walks_on r v (Some p) is some left = omega (arith, some, left)

-- ---- the list of a term

-- the pages of the first blocks are within those of the list
pub pages_read : (collection t : List ℕ) (n : ℕ) → n ≤ block_count (length (postings collection t)) →
    whole_pages (parameter_of collection t) (list_bit collection t) n (postings collection t) ≤ list_pages collection t
unfolding list_pages
pages_read collection t n le =
    whole_rises (parameter_of collection t) (list_bit collection t) n (block_count (length (postings collection t))) (postings collection t) le

-- the pages of a block, by the parameter of a reader over the list
own_block : (collection t : List ℕ) (b k : ℕ) → b ≡ parameter_of collection t →
    block_pages b (list_bit collection t) k (postings collection t) ≡ block_pages (parameter_of collection t) (list_bit collection t) k (postings collection t)
own_block collection t b k is = ap (λ x. block_pages x (list_bit collection t) k (postings collection t)) is

-- the list that a reader is over stands where it reads it
record ListIn (r : ListReading) (files : Option Files) (at : ℕ) (ps : List Posting) : Type 0 where
  rises : Rises r.all 0 ps
  bits : Shows (told_at files r.post.name) at (bits_after r.parameter 0 ps)
  small : at + length (bits_after r.parameter 0 ps) ≤ 2 ^ 63

list_in : (base collection t : List ℕ) (last : ℕ) (files : Option Files) (r : ListReading) → ListsStand base files collection → ReaderFor base collection t last r →
    ListIn r files (list_bit collection t) (postings collection t)
list_in base collection t last files r stand f =
    let ps = postings collection t in
    let b = parameter_of collection t in
    let list = term_stands collection f.number t (bytes_at files (full_name base Post)) (bytes_at files (full_name base Skip)) stand.short stand.few stand.post stand.skip f.term stand.small in
    let post_is : told_at files r.post.name ≡ Some (bytes_at files (full_name base Post)) = ap (told_at files) f.post ∙ is_told files (full_name base Post) stand.told in
    let at : list_bit collection t ≡ 8 * list_byte collection f.number = ap (λ k. 8 * list_byte collection k) (number_is collection f.number t f.term) in
    record {
      rises = subst (λ n. Rises n 0 (postings collection t)) (sym f.all) list.entries.rises;
      bits =
          subst (λ o. Shows o (list_bit collection t) (bits_after r.parameter 0 (postings collection t))) (sym post_is)
          (subst (λ n. Shows (Some (bytes_at files (full_name base Post))) n (bits_after r.parameter 0 (postings collection t))) (sym at)
          (subst (λ x. Shows (Some (bytes_at files (full_name base Post))) (8 * list_byte collection f.number) (bits_after x 0 (postings collection t))) (sym f.parameter) list.bits));
      small = omega (arith, list.small, at, ap (λ x. length (bits_after x 0 (postings collection t))) f.parameter);
    }

-- ---- a list is opened

pub opens : (info : TermInfo) (r v : ListReading) → v.post ≡ r.post → v.all ≡ r.all → v.place ≡ min (8 * info.post_at) (2 ^ 64 - 1) →
    (1 ≤ info.docs → v.parameter ≡ golomb_parameter r.all info.docs) → v.docs ≡ info.docs → v.reached ≡ 0 → v.last ≡ 0 → v.held ≡ [] → OpensList info r v
unfolding bits_before doc_before last_doc bits_after
opens info r v post all place parameter docs reached last held = record {
  post = post;
  all = all;
  place = place;
  parameter = parameter;
  first = ap (doc_in v.last) held ∙ last;
  whole = omega (arith, ap length held, reached, docs);
  list = λ base collection t files stand told all_is name.
      let ps = postings collection t in
      let docs_is : info.docs ≡ length (postings collection t) = ap (λ (i : defs.TermInfo). i.docs) told.is ∙ sym (length_postings collection t) in
      let some : 1 ≤ info.docs = omega (arith, ap (λ (i : defs.TermInfo). i.docs) told.is, term_some collection info.number t told.number) in
      let list = term_stands collection info.number t (bytes_at files (full_name base Post)) (bytes_at files (full_name base Skip))
      stand.short stand.few stand.post stand.skip told.number stand.small in
      let at : info.post_at ≡ list_byte collection info.number = ap (λ (i : defs.TermInfo). i.post_at) told.is in
      let bit : list_bit collection t ≡ 8 * list_byte collection info.number = ap (λ k. 8 * list_byte collection k) (number_is collection info.number t told.number) in
      let rises = list_rises collection t stand.short in
      record {
        number = info.number;
        term = told.number;
        post = ap (λ (p : Paging). p.name) post ∙ name;
        all = all ∙ all_is;
        docs = docs ∙ docs_is;
        parameter = parameter some ∙ ap (λ x. golomb_parameter x info.docs) all_is ∙ ap (golomb_parameter (length (documents collection))) docs_is;
        reached = omega (arith, reached);
        place =
            let none : bits_before v.parameter (64 * v.reached) (postings collection t) ≡ 0 = ap (λ n. bits_before v.parameter (64 * n) (postings collection t)) reached in
            omega (arith, place, at, bit, list.small, none);
        before = last ∙ sym (ap (λ n. doc_before (64 * n) (postings collection t)) reached);
        page = λ some. absurd (omega (arith, some, place, at, bit));
        left =
            ap (λ l. drop 1 l ++ drop (64 * v.reached) (postings collection t)) held ∙ ap (λ n. drop (64 * n) (postings collection t)) reached
            ∙ sym (from_first (length (documents collection)) (postings collection t) rises);
      };
}

-- ---- nothing is read

-- the block at hand has a next posting
pub read_inside : (r : ListReading) (held : List Posting) (p : Posting) (files : Option Files) (reads : Reads) (faults : ℕ) → Fits r.post files → HeldRises r.all r.last r.held →
    1 < length r.held → held ≡ drop 1 r.held → head_of held ≡ Some p → ReadStep r (record r { held = held }) (Ok (Some p)) files files reads reads faults faults
read_inside r held p files reads faults fits rises more went here =
    let less : length held ≡ length r.held - 1 = ap length went ∙ length-drop 1 r.held in
    record {
      fits = fits;
      same = record { post = refl; all = refl };
      answer = λ last base collection t stand f.
          let rest = drop (64 * r.reached) (postings collection t) in
          let left : held ++ drop (64 * r.reached) (postings collection t) ≡ from_doc (last + 1) (postings collection t) = ap (λ l. l ++ drop (64 * r.reached) (postings collection t)) went ∙ f.left in
          record {
            found_is = sym (head_first held rest p here) ∙ ap head_of left;
            reader = record {
              number = f.number;
              term = f.term;
              post = f.post;
              all = f.all;
              docs = f.docs;
              parameter = f.parameter;
              reached = f.reached;
              place = f.place;
              before = f.before;
              page = f.page;
              left = next_left (length (documents collection)) last (postings collection t) held rest p (list_rises collection t stand.short) here left;
            };
          };
      post = λ last base collection t stand f. omega arith;
      most = λ last base collection t stand f. omega (arith, pages_read collection t r.reached f.reached);
      once = λ last base collection t stand f. omega arith;
      once_most = λ last base collection t stand f. omega (arith, span_within collection t r.reached f.reached);
      sound = subst (λ d. IsFrom d r.all p) (current_next r.last r.held more) (next_held r.all r.last r.held held p rises more went here);
      current = current_is r.last held (Some p) (sym here);
      walk = omega (arith, less, more);
      part = tt;
      lacks = tt;
      kept = tt;
      later = λ q. omega arith;
      others = λ q not. refl;
      files = refl;
      memory = λ same. cc;
      cause = record { later = omega arith; device = tt };
    }

-- all blocks were read
pub read_ended : (r : ListReading) (files : Option Files) (reads : Reads) (faults : ℕ) → Fits r.post files → length r.held ≤ 1 → r.docs ≤ 64 * r.reached →
    ReadStep r r (Ok None) files files reads reads faults faults
read_ended r files reads faults fits few all = record {
  fits = fits;
  same = record { post = refl; all = refl };
  answer = λ last base collection t stand f.
      let none : drop (64 * r.reached) (postings collection t) ≡ [] = none_left (64 * r.reached) (postings collection t) (omega (arith, all, f.docs)) in
      let both : drop 1 r.held ++ drop (64 * r.reached) (postings collection t) ≡ [] =
      ap (λ l. l ++ drop (64 * r.reached) (postings collection t)) (few_left r.held few) ∙ none in
      record { found_is = ap head_of (sym both ∙ f.left); reader = tt };
  post = λ last base collection t stand f. omega arith;
  most = λ last base collection t stand f. omega (arith, pages_read collection t r.reached f.reached);
  once = λ last base collection t stand f. omega arith;
  once_most = λ last base collection t stand f. omega (arith, span_within collection t r.reached f.reached);
  sound = tt;
  current = tt;
  walk = omega (arith, few, all);
  part = tt;
  lacks = tt;
  kept = tt;
  later = λ q. omega arith;
  others = λ q not. refl;
  files = refl;
  memory = λ same. cc;
  cause = record { later = omega arith; device = tt };
}

-- ---- the next block is read

-- a reader that has no next posting at hand, over so many of the next block
pub record MayRead (r : ListReading) (files : Option Files) (count : ℕ) : Type 0 where
  pub fits : Fits r.post files
  pub part : r.post.part ≡ Post
  pub rises : HeldRises r.all r.last r.held
  pub few : length r.held ≤ 1
  pub more : 64 * r.reached < r.docs
  pub size : count ≡ min (r.docs - 64 * r.reached) 64

pub may_read : (r : ListReading) (files : Option Files) (count : ℕ) → Fits r.post files → r.post.part ≡ Post → HeldRises r.all r.last r.held → length r.held ≤ 1 → 64 * r.reached < r.docs →
    count ≡ min (r.docs - 64 * r.reached) 64 → MayRead r files count
may_read r files count fits part rises few more is = record { fits = fits; part = part; rises = rises; few = few; more = more; size = is }

-- a reader of bits at a place
abbrev reader : Paging → ℕ → Reading Paging
reader feed place = record { feed = feed; place = place }

module _ {Dev : Type 0} {device : Dev → Seen} {r : ListReading} {d0 d1 : Dev} {count : ℕ} {block : List Posting} {post : Reading Paging} (k : MayRead r (device d0).files count) where
  -- its postings were refused
  pub read_refused : {refusal : Refusal} (held : List Posting) (e : PartErr) →
      FillsBlock r.all r.parameter r.last count block Fits (feeding_of 4096) device (reader r.post r.place) post d0 d1 (Err refusal) → held ≡ [] → IsRefused refusal Post e →
      ReadStep r (record r { post = post.feed; place = post.place; held = held }) (Err e) (device d0).files (device d1).files
      (device d0).reads (device d1).reads (device d0).faults (device d1).faults
  read_refused {refusal = refusal} held e w clear is = record {
    fits = w.fits;
    same = record { post = (same_file r.post post.feed _ _ w.calm).name; all = refl };
    answer = λ last base collection t stand f.
        let l = list_in base collection t last (device d0).files r stand f in
        refused_answer refusal Post e _ _ is
        (block_answer (told_at (device d0).files r.post.name) (list_bit collection t) r.all r.parameter r.place r.last count r.docs r.reached (postings collection t) block
        (Err refusal) k.size f.docs f.before f.place l.rises l.bits l.small w.told);
    post = λ last base collection t stand f. tt;
    most = λ last base collection t stand f.
        let ps = postings collection t in
        let at = list_bit collection t in
        let within = block_refused last base collection t stand f in
        let most = device_most (feeding_of 4096 r.post) (feeding_of 4096 post.feed) (device d0) (device d1) Post r.place within.0 refl (ap Some k.part) within.1 in
        let own = own_block collection t r.parameter r.reached f.parameter in
        omega (arith, most, within.3, own, whole_more (parameter_of collection t) at r.reached ps, pages_read collection t (r.reached + 1) (omega (arith, k.more, f.docs)));
    once = λ last base collection t stand f. tt;
    once_most = λ last base collection t stand f.
        let within = block_refused last base collection t stand f in
        omega (
          arith,
          span_next collection t r.parameter r.reached r.place within.0 _ _ _ _ Post f.parameter f.place within.2 refl (ap Some k.part) f.page within.1,
          span_within collection t (r.reached + 1) (omega (arith, k.more, f.docs)),
        );
    sound = tt;
    current = tt;
    walk = tt;
    part = names_own refusal Post e is;
    lacks = own_cause refusal Post e _ is
        (subst (λ n. OnDamage refusal (LacksPosting r.all r.parameter (told_at (device d0).files r.post.name) r.last r.place n)) k.size w.lacks);
    kept = record { place = w.place; reached = refl; last = refl };
    later = w.calm.reads.later;
    others = λ p not. w.calm.reads.others p (λ same. not (sym (part_is r.post.part p same) ∙ k.part));
    files = w.calm.files;
    memory = λ same. not_memory refusal Post e is cc;
    cause = record { later = w.calm.faults; device = part_cause ℕ (Option Posting) refusal Post e _ _ is w.cause };
  }
    where
      -- the block is read on its pages alone
      block_refused : (last : ℕ) (base collection t : List ℕ) → ListsStand base (device d0).files collection → ReaderFor base collection t last r →
          (to : ℕ) × ReadsWithin (feeding_of 4096 r.post) (feeding_of 4096 post.feed) (device d0) (device d1) r.place to
          × (to ≡ list_bit collection t + bits_before r.parameter (64 * (r.reached + 1)) (postings collection t))
          × (pages r.place to ≡ block_pages r.parameter (list_bit collection t) r.reached (postings collection t))
      block_refused last base collection t stand f =
          let l = list_in base collection t last (device d0).files r stand f in
          block_within (told_at (device d0).files r.post.name) (feeding_of 4096 r.post) (feeding_of 4096 post.feed) (device d0) (device d1) (list_bit collection t)
          r.all r.parameter r.place r.last count r.docs r.reached (postings collection t) k.size f.docs f.before f.place l.rises l.bits l.small w.pages

  -- it is at hand
  pub read_filled : {end : ℕ} (found : Option Posting) → FillsBlock r.all r.parameter r.last count block Fits (feeding_of 4096) device (reader r.post r.place) post d0 d1 (Ok end) →
      found ≡ head_of block →
      ReadStep r (record r { post = post.feed; place = post.place; reached = r.reached + 1; last = end; held = block }) (Ok found) (device d0).files (device d1).files
      (device d0).reads (device d1).reads (device d0).faults (device d1).faults
  read_filled {end = end} found w got =
      let some : 0 < length block = omega (arith, w.whole, k.size, k.more) in
      let now : doc_in r.last r.held ≡ r.last = current_last r.all r.last r.held k.rises k.few in
      let held : HeldRises r.all end block = block_whole r.all r.last end block w.rises w.last in
      record {
        fits = w.fits;
        same = record { post = (same_file r.post post.feed _ _ w.calm).name; all = refl };
        answer = λ last base collection t stand f. answers last base collection t stand f;
        post = λ last base collection t stand f. more_pages last base collection t stand f;
        most = λ last base collection t stand f.
            omega (arith, more_pages last base collection t stand f, pages_read collection t (r.reached + 1) (omega (arith, k.more, f.docs)));
        once = λ last base collection t stand f. pages_once last base collection t stand f;
        once_most = λ last base collection t stand f.
            omega (arith, pages_once last base collection t stand f, span_within collection t (r.reached + 1) (omega (arith, k.more, f.docs)));
        sound = subst (λ d. IfSome found (IsFrom (d + 1) r.all)) (sym now)
            (in_held r.all end (r.last + 1) block block found held (sym (forward_all r.all r.last block w.rises)) got);
        current = current_is end block found got;
        walk = walks_on r (record r { post = post.feed; place = post.place; reached = r.reached + 1; last = end; held = block }) found got some
            (omega (arith, w.whole, k.size, k.more, k.few));
        part = tt;
        lacks = tt;
        kept = tt;
        later = w.calm.reads.later;
        others = λ p not. w.calm.reads.others p (λ same. not (sym (part_is r.post.part p same) ∙ k.part));
        files = w.calm.files;
        memory = λ same. cc;
        cause = record { later = w.calm.faults; device = tt };
      }
    where
      -- the block of the list
      block_read : (last : ℕ) (base collection t : List ℕ) → ListsStand base (device d0).files collection → ReaderFor base collection t last r → block ≡ block_of r.reached (postings collection t)
      block_read last base collection t stand f =
          let l = list_in base collection t last (device d0).files r stand f in
          block_answer (told_at (device d0).files r.post.name) (list_bit collection t) r.all r.parameter r.place r.last count r.docs r.reached (postings collection t) block
          (Ok end) k.size f.docs f.before f.place l.rises l.bits l.small w.told

      more_pages : (last : ℕ) (base collection t : List ℕ) → ListsStand base (device d0).files collection → ReaderFor base collection t last r →
          (device d1).reads Post + read_pages collection t r ≤ (device d0).reads Post + whole_pages (parameter_of collection t) (list_bit collection t) (r.reached + 1) (postings collection t)
      more_pages last base collection t stand f =
          let ps = postings collection t in
          let at = list_bit collection t in
          let to = r.place + length (bits_after r.parameter r.last block) in
          let is = block_read last base collection t stand f in
          let most = device_most (feeding_of 4096 r.post) (feeding_of 4096 post.feed) (device d0) (device d1) Post r.place to refl (ap Some k.part) w.read.pages in
          let own = own_block collection t r.parameter r.reached f.parameter in
          omega (arith, most, pages_is r.parameter at r.place to r.reached r.last ps block is f.before f.place refl, own, whole_more (parameter_of collection t) at r.reached ps)

      -- the bit behind it
      block_end : (last : ℕ) (base collection t : List ℕ) → ListsStand base (device d0).files collection → ReaderFor base collection t last r →
          r.place + length (bits_after r.parameter r.last block) ≡ list_bit collection t + bits_before r.parameter (64 * (r.reached + 1)) (postings collection t)
      block_end last base collection t stand f =
          end_of r.parameter (list_bit collection t) r.place _ r.reached r.last (postings collection t) block (block_read last base collection t stand f) f.before f.place refl

      pages_once : (last : ℕ) (base collection t : List ℕ) → ListsStand base (device d0).files collection → ReaderFor base collection t last r →
          (device d1).reads Post + span_to collection t r.reached ≤ (device d0).reads Post + span_to collection t (r.reached + 1)
      pages_once last base collection t stand f =
          span_next collection t r.parameter r.reached r.place _ _ _ _ _ Post f.parameter f.place (block_end last base collection t stand f) refl (ap Some k.part) f.page w.read.pages

      answers : (last : ℕ) (base collection t : List ℕ) → ListsStand base (device d0).files collection → ReaderFor base collection t last r →
          AnswersReader base collection t last (record r { post = post.feed; place = post.place; reached = r.reached + 1; last = end; held = block }) found
      answers last base collection t stand f = record { found_is = got ∙ sym (head_front block rest some) ∙ ap head_of left; reader = by_found found got }
        where
          ps : List Posting
          ps = postings collection t

          rest : List Posting
          rest = drop (64 * (r.reached + 1)) (postings collection t)

          some : 0 < length block
          some = omega (arith, w.whole, k.size, k.more)

          is : block ≡ block_of r.reached (postings collection t)
          is = block_read last base collection t stand f

          left : block ++ drop (64 * (r.reached + 1)) (postings collection t) ≡ from_doc (last + 1) (postings collection t)
          left =
              ap (λ l. l ++ drop (64 * (r.reached + 1)) (postings collection t)) is ∙ block_rest r.reached (postings collection t)
              ∙ sym (ap (λ l. l ++ drop (64 * r.reached) (postings collection t)) (few_left r.held k.few)) ∙ f.left

          by_found : (o : Option Posting) → o ≡ head_of block →
              IfSome o (λ p. ReaderFor base collection t p.doc (record r { post = post.feed; place = post.place; reached = r.reached + 1; last = end; held = block }))
          by_found None e = tt
          by_found (Some p) e = record {
            number = f.number;
            term = f.term;
            post = (same_file r.post post.feed _ _ w.calm).name ∙ f.post;
            all = f.all;
            docs = f.docs;
            parameter = f.parameter;
            reached = omega (arith, k.more, f.docs);
            place =
                let same = block_bits r.parameter r.last r.reached (postings collection t) block is f.before in
                omega (arith, w.place, f.place, same, bits_next r.parameter r.reached (postings collection t));
            before =
                w.last ∙ ap (last_doc r.last) is ∙ ap (λ d. last_doc d (block_of r.reached (postings collection t))) f.before
                ∙ sym (doc_next r.reached (postings collection t));
            page = subst (λ n. HoldsLast (list_bit collection t) n post.feed.held) (sym w.place)
                (walk_holds (list_bit collection t) r.place _ r.post.held post.feed.held (omega arith) f.page w.read.held);
            left = next_left (length (documents collection)) last (postings collection t) block (drop (64 * (r.reached + 1)) (postings collection t)) p
                (list_rises collection t stand.short) (sym e) left;
          }
