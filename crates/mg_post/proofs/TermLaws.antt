-- A cursor over the list of a term of a collection.
use Rattle.std.proofs.Common.{arith, ◌≡◌, ◌+◌, ◌*◌, ◌≤◌, ℕ, List, length, refl, sym, ap, subst, ◌∙◌, Option, Some, Ok, Err}
use Rattle.std.specs.Prelude.{Result}
use Rattle.mg_dev.specs.Files.{Files, Reads, bytes_at}
use Rattle.mg_dev.specs.Names.{full_name}
use Rattle.mg_dev.specs.declared.part.Part.TheVariants.{Post, Skip}
use Rattle.mg_dev.specs.declared.part_err.PartErr.{PartErr}
use Rattle.mg_dev.specs.declared.part_err.PartErr.TheVariants as err
use Rattle.mg_bits.specs.Feed.{told_at}
use Rattle.mg_defs.specs.declared.Posting.{Posting}
use Rattle.mg_defs.specs.Codes.{golomb_parameter}
use Rattle.mg_defs.specs.Split.{documents}
use Rattle.mg_defs.specs.Lists.{postings, from_doc, bits_before, block_count, list_byte}
use Rattle.mg_defs.specs.PagesOf.{pages}
use Rattle.mg_defs.proofs.PageLaws.{pages_within}
use Rattle.mg_defs.specs.Lexicon as defs
use Rattle.mg_defs.specs.PageBounds.{list_bit, list_pages, met_pages, pages_for, parameter_of}
use Rattle.mg_laws.proofs.LedLists.{length_postings}
use Rattle.mg_laws.proofs.MetBlocks.{from_zero, from_from, met_all, number_is, term_some}
use Rattle.mg_layout.specs.Infos.{IsInfoOf}
use Rattle.mg_layout.specs.declared.term_info.TermInfo.{TermInfo}
use Rattle.mg_post.specs.Answers.{AnswersList}
use Rattle.mg_post.specs.Cursor.{AnswersRest, Cursoring, CursorStands, IsOver, SameList, StandsAt, head_of, entered_pages, post_pages, Enters, ReadsTwo}
use Rattle.mg_post.specs.CursorSteps.{CursorStep}
use Rattle.mg_post.specs.PagesOnce.{PostReads, ReadsOnce, front_pages, span_pages}
use Rattle.mg_post.proofs.PagesOnceLaws.{blocks_pages, blocks_whole, whole_rises}
use Rattle.mg_post.specs.TermLists.{AnswersAsk, CursorFor, IsAmong, ListsStand, MayAsk, PagesWithin}
use Rattle.mg_bits.proofs.CallerLemmas.{is_told}
use Rattle.mg_post.proofs.StandLaws.{term_stands}
use Rattle.mg_post.proofs.LifeLaws.{entered_more, entered_most, pages_few, reads_after}

pub term_starts : (base collection asked t : List ℕ) (n all : ℕ) (info : TermInfo) (c : Cursoring) → IsInfoOf collection t info →
    all ≡ length (documents collection) → IsOver c (full_name base Post) (full_name base Skip) info.post_at info.skip_at info.docs all →
    (1 ≤ info.docs → c.parameter ≡ golomb_parameter all info.docs) → ((ps : List Posting) → StandsAt c ps ps) → entered_pages c ≡ 0 →
    post_pages c ≤ entered_pages c → ((ps : List Posting) → PostReads c ps) → CursorFor base collection asked t n c
term_starts base collection asked t n all info c told all_is over parameter at none first once =
    let docs_is : info.docs ≡ length (postings collection t) = ap (λ (i : defs.TermInfo). i.docs) told.is ∙ sym (length_postings collection t) in
    let some : 1 ≤ info.docs = omega (arith, ap (λ (i : defs.TermInfo). i.docs) told.is, term_some collection info.number t told.number) in
    record {
      number = info.number;
      term = told.number;
      over = record {
        post_is = over.post_is;
        skip_is = over.skip_is;
        post_at_is = over.post_at_is ∙ ap (λ (i : defs.TermInfo). i.post_at) told.is;
        skip_at_is = over.skip_at_is ∙ ap (λ (i : defs.TermInfo). i.skip_at) told.is;
        docs_is = over.docs_is ∙ docs_is;
        all_is = over.all_is ∙ all_is;
      };
      parameter = parameter some ∙ ap (λ x. golomb_parameter x info.docs) all_is ∙ ap (golomb_parameter (length (documents collection))) docs_is;
      reached_doc = 0;
      early = omega arith;
      at = subst (StandsAt c (postings collection t)) (sym (from_zero (postings collection t))) (at (postings collection t));
      first = first;
      within = omega (arith, none);
      once = once (postings collection t);
    }

pub cursor_stands : (base collection asked t : List ℕ) (n : ℕ) (files : Option Files) (c : Cursoring) → ListsStand base files collection →
    CursorFor base collection asked t n c → CursorStands c files (postings collection t)
cursor_stands base collection asked t n files c stand f =
    let list = term_stands collection f.number t (bytes_at files (full_name base Post)) (bytes_at files (full_name base Skip)) stand.short stand.few stand.post stand.skip f.term stand.small in
    let post_is : told_at files c.post.name ≡ Some (bytes_at files (full_name base Post)) = ap (told_at files) f.over.post_is ∙ is_told files (full_name base Post) stand.told in
    let skip_is : told_at files c.skip.name ≡ Some (bytes_at files (full_name base Skip)) = ap (told_at files) f.over.skip_is ∙ is_told files (full_name base Skip) stand.told in
    record { list = rw (post_is, skip_is, f.over.post_at_is, f.over.skip_at_is, f.over.docs_is, f.over.all_is, f.parameter) list }

-- after a call that was answered
after_posting : (base collection asked t : List ℕ) (doc : ℕ) (c v : Cursoring) (found : Option Posting) (f : CursorFor base collection asked t doc c) →
    IsAmong asked (postings collection t) doc → SameList c v → c.reached ≤ v.reached → post_pages v ≤ entered_pages v →
    (found ≡ head_of (from_doc doc (from_doc f.reached_doc (postings collection t)))) × StandsAt v (postings collection t)
    (from_doc doc (from_doc f.reached_doc (postings collection t))) → Enters (Ok found) (postings collection t) c doc v →
    PostReads v (postings collection t) → AnswersAsk base collection asked t doc found v
after_posting base collection asked t doc c v found f may same forward first answer enters once =
    let ps = postings collection t in
    let left_is : from_doc doc (from_doc f.reached_doc ps) ≡ from_doc doc ps = from_from f.reached_doc doc ps f.early in
    record {
      found_is = answer.0 ∙ ap head_of left_is;
      cursor = record {
        number = f.number;
        term = f.term;
        over = record {
          post_is = same.post ∙ f.over.post_is;
          skip_is = same.skip ∙ f.over.skip_is;
          post_at_is = same.post_at ∙ f.over.post_at_is;
          skip_at_is = same.skip_at ∙ f.over.skip_at_is;
          docs_is = same.docs ∙ f.over.docs_is;
          all_is = same.all ∙ f.over.all_is;
        };
        parameter = same.parameter ∙ f.parameter;
        reached_doc = doc;
        early = omega arith;
        at = subst (StandsAt v ps) left_is answer.1;
        first = first;
        within = entered_more asked ps c v doc found may same forward enters f.within;
        once = once;
      };
    }

-- which block a call enters wherever the cursor stands
abbrev Entered : Option Files → Cursoring → ℕ → Result (Option Posting) PartErr → Cursoring → Type 0
Entered files c doc r v = (ps left : List Posting) → CursorStands c files ps → StandsAt c ps left → Enters r ps c doc v

-- a call for a document, of a cursor over the list of a term
module _ {base collection asked t : List ℕ} {doc wanted : ℕ} {c v : Cursoring} {r : Result (Option Posting) PartErr} {f g : Option Files} {before now : Reads} {m n : ℕ}
    (may : MayAsk base collection asked t doc f c) (step : CursorStep c v doc wanted (from_doc doc) r f g before now m n) where
  -- the postings of the list that are left
  abbrev left : List Posting
  left = from_doc may.cursor.reached_doc (postings collection t)

  stands : CursorStands c f (postings collection t)
  stands = cursor_stands base collection asked t doc f c may.stand may.cursor

  pub asked_once : ReadsOnce (postings collection t) v r
  asked_once = step.once (postings collection t) left stands may.cursor.at may.cursor.once

  pub asked_answer : AnswersList r (λ found. AnswersAsk base collection asked t doc found v)
  asked_answer = by_result r (step.answer (postings collection t) left stands may.cursor.at) (step.entered (postings collection t) left stands may.cursor.at) asked_once
    where
      by_result : (x : Result (Option Posting) PartErr) → AnswersRest x v (postings collection t) (from_doc doc left) → Enters x (postings collection t) c doc v →
          ReadsOnce (postings collection t) v x → AnswersList x (λ found. AnswersAsk base collection asked t doc found v)
      by_result (Ok found) answer enters once = after_posting base collection asked t doc c v found may.cursor may.among step.same step.forward step.first answer enters once.again
      by_result (Err err.Device) answer enters once = tt
      by_result (Err err.Memory) answer enters once = answer
      by_result (Err (err.Bad bad)) answer enters once = answer

-- ---- how many pages

pub pages_are : (base collection asked t : List ℕ) (n : ℕ) (c : Cursoring) → CursorFor base collection asked t n c →
    met_pages asked c.parameter (8 * c.post_at) (block_count (length (postings collection t))) (postings collection t) ≡ pages_for collection asked t
unfolding pages_for
pages_are base collection asked t n c f =
    let ps = postings collection t in
    let at : 8 * c.post_at ≡ list_bit collection t = ap (λ x. 8 * x) f.over.post_at_is ∙ ap (λ k. 8 * list_byte collection k) (sym (number_is collection f.number t f.term)) in
    ap (λ x. met_pages asked x (8 * c.post_at) (block_count (length ps)) ps) f.parameter ∙ ap (λ x. met_pages asked (parameter_of collection t) x (block_count (length ps)) ps) at

pub asked_pages : (base collection asked t : List ℕ) (doc : ℕ) (files : Option Files) (c v : Cursoring) (r : Result (Option Posting) PartErr)
    (before now : Reads) → MayAsk base collection asked t doc files c → ReadsTwo c v before now → Entered files c doc r v →
    PagesWithin (pages_for collection asked t) (post_pages c) (post_pages v) before now
asked_pages base collection asked t doc files c v r before now m two enters =
    let ps = postings collection t in
    let stands = cursor_stands base collection asked t doc files c m.stand m.cursor in
    let most = entered_most asked (postings collection t) c v doc r m.among
    (enters (postings collection t) (from_doc m.cursor.reached_doc (postings collection t)) stands m.cursor.at) m.cursor.within in
    let few = pages_few asked (postings collection t) files c stands in
    let same = pages_are base collection asked t doc c m.cursor in
    record { within = omega (arith, two.first, most, same); post = reads_after c v before now two (omega (arith, most, few)) }

pub pages_few_for : (base collection asked t : List ℕ) (n : ℕ) (c : Cursoring) → CursorFor base collection asked t n c → post_pages c ≤ pages_for collection asked t
pages_few_for base collection asked t n c f = omega (arith, f.first, f.within, met_all asked c.parameter (8 * c.post_at) c.reached (postings collection t), pages_are base collection asked t n c f)

-- ---- each page once

pub once_for : (base collection asked t : List ℕ) (n : ℕ) (c : Cursoring) → CursorFor base collection asked t n c →
    post_pages c ≤ front_pages c c.reached (postings collection t)
once_for base collection asked t n c f =
    omega (arith, blocks_pages (8 * c.post_at) c.parameter c.reached (postings collection t) c.post.held c.post.count f.once)

-- the pages of all blocks are those of the list
pub span_is : (base collection asked t : List ℕ) (n : ℕ) (c v : Cursoring) → CursorFor base collection asked t n c → SameList c v →
    front_pages v (block_count v.docs) (postings collection t) ≡ span_pages collection t
span_is base collection asked t n c v f same =
    let ps = postings collection t in
    let at : 8 * v.post_at ≡ list_bit collection t = ap (λ x. 8 * x) (same.post_at ∙ f.over.post_at_is)
    ∙ ap (λ k. 8 * list_byte collection k) (sym (number_is collection f.number t f.term)) in
    let bits : bits_before v.parameter (64 * block_count v.docs) ps ≡ bits_before (parameter_of collection t) (64 * block_count (length ps)) ps =
    ap (λ b. bits_before b (64 * block_count v.docs) ps) (same.parameter ∙ f.parameter)
    ∙ ap (λ d. bits_before (parameter_of collection t) (64 * block_count d) ps) (same.docs ∙ f.over.docs_is) in
    ap (λ x. pages x (x + bits_before v.parameter (64 * block_count v.docs) ps)) at ∙ ap (λ b. pages (list_bit collection t) (list_bit collection t + b)) bits

pub span_for : (base collection asked t : List ℕ) (n : ℕ) (c : Cursoring) → CursorFor base collection asked t n c → post_pages c ≤ span_pages collection t
span_for base collection asked t n c f =
    omega (
      arith,
      once_for base collection asked t n c f,
      pages_within (8 * c.post_at) (8 * c.post_at) _ _ (omega arith) (whole_rises (8 * c.post_at) c.parameter c.reached c.docs (postings collection t) f.over.docs_is),
      span_is base collection asked t n c c f (record { post = refl; skip = refl; post_at = refl; skip_at = refl; docs = refl; all = refl; parameter = refl }),
    )

-- and no more than those of each block
pub span_in_list : (collection t : List ℕ) → span_pages collection t ≤ list_pages collection t
unfolding list_pages
span_in_list collection t = blocks_whole (parameter_of collection t) (list_bit collection t) (block_count (length (postings collection t))) (postings collection t)

pub cursor_later : (base collection asked t : List ℕ) (m n : ℕ) (c : Cursoring) → m ≤ n → CursorFor base collection asked t m c → CursorFor base collection asked t n c
cursor_later base collection asked t m n c le f = record {
  number = f.number;
  term = f.term;
  over = f.over;
  parameter = f.parameter;
  reached_doc = f.reached_doc;
  early = omega (arith, f.early, le);
  at = f.at;
  first = f.first;
  within = f.within;
  once = f.once;
}
