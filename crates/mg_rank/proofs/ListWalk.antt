-- A list that is added, as far as it has come: what the loop keeps, and what each way out of it promises.
use Rattle.std.proofs.Common.{arith, ◌≡◌, ◌+◌, ◌-◌, ◌*◌, ◌^◌, ◌≤◌, ◌<◌, ℕ, List, length, refl, sym, subst, ◌∙◌, Option, Some, None, Ok, Err}
use Rattle.std.specs.Prelude.{Result, IfErr, OnOk}
use Rattle.mg_dev.specs.Files.{Files, Reads}
use Rattle.mg_dev.specs.PartCauses.{HasPartCause}
use Rattle.mg_dev.specs.declared.part.Part.TheVariants as part
use Rattle.mg_dev.specs.declared.bad.Bad.{Bad}
use Rattle.mg_dev.specs.declared.part_err.PartErr.{PartErr}
use Rattle.mg_dev.specs.declared.part_err.PartErr.TheVariants as err
use Rattle.mg_dev.proofs.CallerLemmas.{cause_err, cause_ok}
use Rattle.mg_defs.specs.declared.Posting.{Posting}
use Rattle.mg_defs.specs.Split.{documents}
use Rattle.mg_defs.specs.Lists.{postings}
use Rattle.mg_defs.specs.Weights.{weight_in_doc, weight_of_term, wt}
use Rattle.mg_defs.proofs.ListLaws.{list_rises}
use Rattle.mg_defs.specs.PageBounds.{list_pages, numbers_in}
use Rattle.mg_layout.specs.Infos.{IsInfoOf}
use Rattle.mg_layout.specs.declared.term_info.TermInfo.{TermInfo}
use Rattle.mg_post.specs.Cursor.{CursorFits, Cursoring, IsFrom, post_pages, skip_pages}
use Rattle.mg_post.specs.PagesOnce.{span_pages}
use Rattle.mg_post.specs.TermLists.{ListsStand, ReadsLists}
use Rattle.mg_post.specs.WholeLists.{WalkStep}
use Rattle.mg_post.proofs.CallerLemmas.{cursor_later, none_at}
use Rattle.mg_rank.specs.Added.{AddsWhole}
use Rattle.mg_rank.specs.Calls.{AddsBehind, AddsList, IsBefore}
use Rattle.mg_rank.specs.Damages.{TellsTerm}
use Rattle.mg_rank.specs.Ranked.{AddsTerm, ListFor, SumsFor, list_entries}
use Rattle.mg_rank.specs.Sums.{AreApart, AreWithin, sum_of, with_more}
use Rattle.mg_rank.specs.WeightReads.{ascents_in}
use Rattle.mg_rank.proofs.AddedLaws.{Adding, adding_end, adding_next, adding_start}
use Rattle.mg_rank.proofs.Adding.{apart_more, within_more}
use Rattle.mg_rank.proofs.AscentLaws.{AddsAscent, ascent_next, ascent_start}
use Rattle.mg_rank.proofs.DamageLaws.{lists_not_lex, not_lex, other_tells}
use Rattle.mg_rank.proofs.EndLaws.{list_third, lists_on}
use Rattle.mg_rank.proofs.SumLaws.{Bounded, Walking, bounded_next, bounded_start, head_sound, walk_end, walk_next, walk_start}
use Rattle.mg_rank.proofs.WalkLaws.{or_list, told}

-- nothing was read yet, and the sums are as they were
pub adds_nothing : {base : List ℕ} {info : TermInfo} {all : ℕ} {old new : List (ℕ × ℕ)} {f : Option Files} {r : Reads} {n : ℕ} (e : PartErr) → new ≡ old →
    AddsTerm {T = Unit {0}} base f info all old new (Err e) → HasPartCause {T = Unit {0}} n n (Err e) → TellsTerm all info e →
    AddsList base info all old new (Err e) f f r r n n
adds_nothing {old = old} e same answer cause lexicon = record {
  answer = answer;
  whole = tt;
  small = λ k small d. subst (λ s. sum_of d s ≤ k + 2 ^ 29) (sym same) (omega (arith, small d));
  within = λ h. subst (AreWithin _) (sym same) h;
  apart = λ h. subst AreApart (sym same) h;
  ascents = subst (λ s. ascents_in s ≤ ascents_in old + 1) (sym same) (omega arith);
  pages = λ collection t stand i all_is. omega arith;
  once = λ collection t stand i all_is. omega arith;
  skips = omega arith;
  reads = record { later = λ p. omega arith; others = λ p a b. refl };
  files = refl;
  cause = cause;
  lexicon = lexicon;
}

-- The postings up to a document were added, and the cursor stands on that of it. This holds whichever list it is.
pub record Going (all last : ℕ) (old now : List (ℕ × ℕ)) (c : Cursoring) (files_before files_now : Option Files) (reads_before reads_now : Reads)
    (faults_before faults_now : ℕ) : Type 0 where
  pub most : last ≤ all
  pub fits : CursorFits c files_now
  pub all_is : c.all ≡ all
  pub files : files_now ≡ files_before
  pub reads : ReadsLists reads_before reads_now
  pub ascents : AddsAscent last old now
  pub faults : faults_before ≤ faults_now
  pub bounded : (n : ℕ) → ((d : ℕ) → sum_of d old ≤ n) → Bounded n last now
  pub within : AreWithin all old → AreWithin all now
  pub apart : AreApart old → AreApart now

-- and this, where the lexicon tells so of the list
pub record Under (base : List ℕ) (info : TermInfo) (all last : ℕ) (old now : List (ℕ × ℕ)) (c : Cursoring) (files_before : Option Files) (reads_before reads_now : Reads) : Type 0 where
  pub skip_at : c.skip_at ≡ info.skip_at
  pub docs : c.docs ≡ info.docs
  pub third : skip_pages c ≤ list_entries info
  pub skips : reads_now part.Skip ≤ reads_before part.Skip + skip_pages c
  pub whole : Adding all info last old now c
  pub walk : (collection t : List ℕ) (done : List (List ℕ)) → ListsStand base files_before collection → IsInfoOf collection t info →
      all ≡ length (documents collection) → SumsFor collection done old → Walking collection done t last now
  pub list : (collection t : List ℕ) → ListsStand base files_before collection → IsInfoOf collection t info → all ≡ length (documents collection) →
      ListFor base collection t last c
  pub post : (collection t : List ℕ) → ListsStand base files_before collection → IsInfoOf collection t info → all ≡ length (documents collection) →
      reads_now part.Post ≤ reads_before part.Post + post_pages c

-- what the loop keeps, where the cursor began so
pub record Keeps (start : Cursoring) (weight last : ℕ) (old now : List (ℕ × ℕ)) (c : Cursoring) (files_before files_now : Option Files) (reads_before reads_now : Reads)
    (faults_before faults_now : ℕ) : Type 0 where
  pub going : Going start.all last old now c files_before files_now reads_before reads_now faults_before faults_now
  pub under : (base : List ℕ) (info : TermInfo) → IsBefore base info start.all start → weight ≡ weight_of_term info.docs start.all →
      Under base info start.all last old now c files_before reads_before reads_now

pub walk_first : {c : Cursoring} {weight : ℕ} {old : List (ℕ × ℕ)} {f : Option Files} {r : Reads} {n : ℕ} → CursorFits c f → Keeps c weight 0 old old c f f r r n n
walk_first {c} {weight} {old} fits = record {
  going = record {
    most = omega arith;
    fits = fits;
    all_is = refl;
    files = refl;
    reads = record { later = λ p. omega arith; others = λ p a b. refl };
    ascents = ascent_start old old refl;
    faults = omega arith;
    bounded = λ n small. bounded_start n old small;
    within = λ h. h;
    apart = λ h. h;
  };
  under = λ base info is weight_is. record {
    skip_at = is.over.skip_at_is;
    docs = is.over.docs_is;
    third = omega (arith, is.skip);
    skips = omega arith;
    whole = adding_start c.all info old old c refl is.whole is.held;
    walk = λ collection t done stand i all_is s. walk_start collection done t old s;
    list = λ collection t stand i all_is. is.term collection (numbers_in (postings collection t)) t 0 i all_is;
    post = λ collection t stand i all_is. omega arith;
  };
}

-- the promise of a walk is that of the list before which it began
pub adds_of : {base : List ℕ} {info : TermInfo} {all weight : ℕ} {c : Cursoring} {before old new : List (ℕ × ℕ)} {result : Result (Unit {0}) PartErr} {f g : Option Files} {r s : Reads} {m n : ℕ} →
    IsBefore base info all c → weight ≡ weight_of_term info.docs all → old ≡ before → AddsBehind c weight old new result f g r s m n → AddsList base info all before new result f g r s m n
adds_of {base} {info} {all} {weight} {c} {before} {old} {new} {result} {f} {g} {r} {s} {m} {n} is weight_is same adds =
    subst (λ sums. AddsList base info all sums new result f g r s m n) same
    (subst (λ k. IsBefore base info k c → weight ≡ weight_of_term info.docs k → AddsList base info k old new result f g r s m n) is.over.all_is (adds base info) is weight_is)

module _ {base : List ℕ} {info : TermInfo} {all last : ℕ} {old now : List (ℕ × ℕ)} {c v : Cursoring} {f g h : Option Files} {r s t : Reads} {l m n : ℕ} {result : Result (Option Posting) PartErr}
    (k : Going all last old now c f g r s l m) (u : Under base info all last old now c f r s) (w : WalkStep c v last result g h s t m n) where
  stand_now : (collection : List ℕ) → ListsStand base f collection → ListsStand base g collection
  stand_now collection stand = subst (λ fs. ListsStand base fs collection) (sym k.files) stand

  -- the cursor was asked for the next posting, and none was added to the sums
  adds_now : (answer : Result (Unit {0}) PartErr) (new : List (ℕ × ℕ)) → new ≡ now → AddsTerm base f info all old new answer → OnOk answer (AddsWhole all info old new) →
      HasPartCause l n answer → IfErr answer (TellsTerm all info) → AddsList base info all old new answer f h r t l n
  adds_now answer new same is whole cause lexicon = record {
    answer = is;
    whole = whole;
    small = λ n small d. subst (λ s. sum_of d s ≤ n + 2 ^ 29) (sym same) ((k.bounded n small).each d);
    within = λ h. subst (AreWithin all) (sym same) (k.within h);
    apart = λ h. subst AreApart (sym same) (k.apart h);
    ascents = subst (λ s. ascents_in s ≤ ascents_in old + 1) (sym same) k.ascents.few;
    pages = λ collection t stand i all_is.
        let list = u.list collection t stand i all_is in
        omega (arith, u.post collection t stand i all_is, w.post base collection t (stand_now collection stand) list, w.within base collection t (stand_now collection stand) list);
    once = λ collection t stand i all_is.
        let list = u.list collection t stand i all_is in
        omega (arith, u.post collection t stand i all_is, w.post base collection t (stand_now collection stand) list, w.span base collection t (stand_now collection stand) list);
    skips = omega (arith, u.skips, w.skips, list_third info c v u.skip_at u.docs w.same w.third);
    reads = lists_on k.reads w.reads;
    files = w.files ∙ k.files;
    cause = cause;
    lexicon = lexicon;
  }

-- the list has no posting more
pub walk_none : {start c v : Cursoring} {weight last : ℕ} {old now : List (ℕ × ℕ)} {f g h : Option Files} {r s t : Reads} {l m n : ℕ} →
    Keeps start weight last old now c f g r s l m → WalkStep c v last (Ok None) g h s t m n → AddsBehind start weight old now (Ok tt) f h r t l n
walk_none {start} {c} {v} {weight} {last} {old} {now} k w = λ base info is weight_is.
    let u = k.under base info is weight_is in
    adds_now k.going u w (Ok tt) now refl
    (λ collection t done stand i all_is s.
    let a = w.answer base collection t (stand_now k.going u w collection stand) (u.list collection t stand i all_is) in
    walk_end collection done t last now (u.walk collection t done stand i all_is s) (λ d low le. none_at collection t last d (sym a.found_is) low le))
    (adding_end start.all info last old now c u.whole (w.next u.whole.next).0 is.docs)
    (cause_ok (omega (arith, k.going.faults, w.cause.later))) tt

-- the cursor refused
pub walk_err : {start c v : Cursoring} {weight last : ℕ} {old now : List (ℕ × ℕ)} {f g h : Option Files} {r s t : Reads} {l m n : ℕ} (e : PartErr) →
    Keeps start weight last old now c f g r s l m → WalkStep c v last (Err e) g h s t m n → AddsBehind start weight old now (Err e) f h r t l n
walk_err {now = now} e k w = λ base info is weight_is.
    let u = k.under base info is weight_is in
    adds_now k.going u w (Err e) now refl
    (λ collection t done stand i all_is s. or_list e _ _ (w.answer base collection t (stand_now k.going u w collection stand) (u.list collection t stand i all_is)))
    tt (cause_err k.going.faults w.cause) (other_tells _ e (lists_not_lex e w.part))

-- memory was wanting for a sum more
pub walk_lack : {start c v : Cursoring} {weight last : ℕ} {old now new : List (ℕ × ℕ)} {p : Posting} {f g h : Option Files} {r s t : Reads} {l m n : ℕ} → new ≡ now →
    Keeps start weight last old now c f g r s l m → WalkStep c v last (Ok (Some p)) g h s t m n → AddsBehind start weight old new (Err err.Memory) f h r t l n
walk_lack {new = new} same k w = λ base info is weight_is.
    adds_now k.going (k.under base info is weight_is) w (Err err.Memory) new same (λ collection t done stand i all_is s. tt) tt
    (record { later = omega (arith, k.going.faults, w.cause.later); device = tt }) tt

-- no set has so many documents
pub walk_over : {start c : Cursoring} {weight last : ℕ} {old now : List (ℕ × ℕ)} {f g : Option Files} {r s : Reads} {l m : ℕ} (bad : Bad) → bad.part ≡ part.Post →
    Keeps start weight last old now c f g r s l m → 2 ^ 32 - 1 ≤ last →
    ((base collection t : List ℕ) → ListFor base collection t last c → (post_pages c ≤ list_pages collection t) × (post_pages c ≤ span_pages collection t)) →
    AddsBehind start weight old now (Err (err.Bad bad)) f g r s l m
walk_over bad post k over few = λ base info is weight_is.
    let u = k.under base info is weight_is in
    record {
      answer = λ collection t done stand i all_is s. absurd (omega (arith, over, k.going.most, all_is, stand.few));
      whole = tt;
      small = λ n small d. (k.going.bounded n small).each d;
      within = k.going.within;
      apart = k.going.apart;
      ascents = k.going.ascents.few;
      pages = λ collection t stand i all_is. omega (arith, u.post collection t stand i all_is, (few base collection t (u.list collection t stand i all_is)).0);
      once = λ collection t stand i all_is. omega (arith, u.post collection t stand i all_is, (few base collection t (u.list collection t stand i all_is)).1);
      skips = omega (arith, u.skips, u.third);
      reads = k.going.reads;
      files = k.going.files;
      cause = record { later = k.going.faults; device = tt };
      lexicon = λ is. absurd (not_lex bad post (λ same. cc) is);
    }

-- a posting was added
pub walk_more : {start c v : Cursoring} {weight last : ℕ} {old now new : List (ℕ × ℕ)} {p : Posting} {f g h : Option Files} {r s t : Reads} {l m n : ℕ} →
    Keeps start weight last old now c f g r s l m → WalkStep c v last (Ok (Some p)) g h s t m n → new ≡ with_more p.doc (weight_in_doc p.freq * weight) now →
    weight_in_doc p.freq * weight ≤ 2 ^ 29 → Keeps start weight p.doc old new v f h r t l n
walk_more {start} {c} {v} {weight} {last} {old} {now} {new} {p} k w is few =
    let b = k.going in
    let later : last < p.doc = omega (arith, w.sound.from) in
    let within : p.doc ≤ start.all = omega (arith, w.sound.within, b.all_is) in
    record {
      going = record {
        most = within;
        fits = w.fits;
        all_is = w.same.all ∙ b.all_is;
        files = w.files ∙ b.files;
        reads = lists_on b.reads w.reads;
        ascents = ascent_next last p.doc _ old now new later is b.ascents;
        faults = omega (arith, b.faults, w.cause.later);
        bounded = λ n small. rw is (bounded_next n last p.doc _ now (b.bounded n small) later few);
        within = λ h. rw is (within_more start.all p.doc _ now (omega (arith, later)) within (b.within h));
        apart = λ h. rw is (apart_more p.doc _ now (b.apart h));
      };
      under = λ base info before weight_is.
          let u = k.under base info before weight_is in
          record {
            skip_at = w.same.skip_at ∙ u.skip_at;
            docs = w.same.docs ∙ u.docs;
            third = list_third info c v u.skip_at u.docs w.same w.third;
            skips = omega (arith, u.skips, w.skips);
            whole = adding_next start.all info last weight old now new c v p u.whole (w.next u.whole.next) (subst (λ n. IsFrom (last + 1) n p) b.all_is w.sound) weight_is is;
            walk = λ collection t done stand i all_is s.
                let a = w.answer base collection t (stand_now b u w collection stand) (u.list collection t stand i all_is) in
                let front = head_sound (length (documents collection)) 0 (last + 1) (postings collection t) p (list_rises collection t stand.short) (sym a.found_is) in
                let is_weight : weight ≡ wt collection t = weight_is ∙ (told collection t info start.all i all_is).weight in
                rw is (walk_next collection done t last now p weight (u.walk collection t done stand i all_is s) (sym a.found_is) (omega (arith, front.0)) front.1 is_weight);
            list = λ collection t stand i all_is.
                let a = w.answer base collection t (stand_now b u w collection stand) (u.list collection t stand i all_is) in
                let front = head_sound (length (documents collection)) 0 (last + 1) (postings collection t) p (list_rises collection t stand.short) (sym a.found_is) in
                cursor_later base collection (numbers_in (postings collection t)) t (last + 1) p.doc _ front.0 a.cursor;
            post = λ collection t stand i all_is.
                omega (arith, u.post collection t stand i all_is, w.post base collection t (stand_now b u w collection stand) (u.list collection t stand i all_is));
          };
    }
