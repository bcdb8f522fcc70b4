-- What each way out of a cursor's call promises.
use Rattle.std.proofs.Common.{arith, ◌≡◌, ◌+◌, ◌-◌, ◌*◌, ◌^◌, ◌≤◌, ◌<◌, ℕ, Bool, true, false, List, [], ◌∷◌, length, drop, min, Option, Some, None, Ok, Err, IfSome, refl, sym, ◌∙◌, ap, subst}
use Rattle.std.proofs.lemmas.List.{length-drop}
use Rattle.std.specs.Prelude.{IfOk, Result}
use Rattle.mg_dev.specs.Files.{Files, Reads}
use Rattle.mg_dev.specs.PartCauses.{IsCaused}
use Rattle.mg_dev.specs.declared.part.Part.{Part}
use Rattle.mg_dev.specs.declared.part.Part.TheVariants.{Post, Skip}
use Rattle.mg_dev.specs.declared.part_err.PartErr.{PartErr}
use Rattle.mg_dev.specs.declared.part_err.PartErr.TheVariants as err
use Rattle.mg_bits.specs.Feed.{Device as Seen, told_at}
use Rattle.mg_bits.specs.Pages.{Fits, Paging, feeding_of}
use Rattle.mg_bits.specs.Reading.{Reading}
use Rattle.mg_bits.proofs.CallerLemmas.{calm_none}
use Rattle.mg_defs.specs.Bits.{Shows}
use Rattle.mg_defs.specs.declared.Posting.{Posting}
use Rattle.mg_defs.specs.Lists.{bits_after, block_count, block_pages, from_doc}
use Rattle.mg_post.specs.Answers.{IsRefused, OnDamage, RefusalCause}
use Rattle.mg_post.specs.Cursor.{AnswersRest, CursorFits, Cursoring, Enters, ForList, GoesToNext, HeldNone, HeldRises, IsFrom}
use Rattle.mg_post.specs.Cursor.{SameList, StandsAt, StandsOn, after, entered_pages, forward_to, head_of, next_doc, post_pages}
use Rattle.mg_post.specs.CursorSteps.{CursorStep}
use Rattle.mg_post.specs.Entering.{EntersFound, HoldsFound}
use Rattle.mg_post.specs.Shown.{AnswersShown, StandsShown}
use Rattle.mg_post.specs.Finding.{IsFoundAt, LacksAnEntry, entries_pages}
use Rattle.mg_post.specs.Reading.{ReadsFeed}
use Rattle.mg_post.specs.Searching.{SearchesBlock}
use Rattle.mg_post.specs.Stands.{BlockStands, ListStands, SkipStands}
use Rattle.mg_post.specs.declared.enter.Inside.{Inside}
use Rattle.mg_post.specs.declared.enter.ListPlace.{ListPlace}
use Rattle.mg_post.specs.declared.find.Found.{Found}
use Rattle.mg_post.specs.declared.find.SkipSearch.{SkipSearch}
use Rattle.mg_post.specs.declared.refusal.Refusal.{Refusal}
use Rattle.mg_post.specs.declared.refusal.Refusal.TheVariants.{Device, Damaged}
use Rattle.mg_post.proofs.CursorLaws.{at_end, in_block, next_beyond, next_low, next_within, on_block, raised_by, raised_most, reads_two, refused_answer, same_file, walks_of}
use Rattle.mg_post.proofs.FindLaws.{any_cause, reads_within}
use Rattle.mg_post.proofs.LifeLaws.{skips_after}
use Rattle.mg_post.proofs.PagesOnceLaws.{once_answered, once_past, once_read, once_refused}
use Rattle.mg_post.proofs.ShownLaws.{forward_behind, next_some, shown_ended, shown_entered, shown_past, shown_within, walks_shown}
use Rattle.mg_post.proofs.SoundLaws.{current_low, goes_next, in_held, names_none, names_own, names_post, names_skip, next_few, next_held}
use Rattle.mg_post.proofs.SoundLaws.{next_inside, next_is, next_sound, no_entry_cause, own_cause, post_cause, skip_cause, step_rises}

-- ---- refusals

pub not_memory : (refusal : Refusal) (own : Part) (e : PartErr) → IsRefused refusal own e → e ≡ err.Memory → ⊥
not_memory Device own e is same = cc
not_memory (Damaged at) own err.Device is same = is
not_memory (Damaged at) own err.Memory is same = is
not_memory (Damaged at) own (err.Bad bad) is same = cc

pub part_cause : (T V : Type 0) (refusal : Refusal) (own : Part) (e : PartErr) (before now : ℕ) → IsRefused refusal own e → RefusalCause {T = T} (Err refusal) before now →
    IsCaused {T = V} before now (Err e)
part_cause T V Device own e before now is rose = subst (λ x. IsCaused {T = V} before now (Err x)) (sym is) rose
part_cause T V (Damaged at) own err.Device before now is rose = absurd is
part_cause T V (Damaged at) own err.Memory before now is rose = absurd is
part_cause T V (Damaged at) own (err.Bad bad) before now is rose = tt

min_low : (a b most : ℕ) → a ≤ b → min a most ≤ b
min_low a b most le = omega arith

-- ---- nothing is read

-- the postings at hand go on
step_unread : (c : Cursoring) (held : List Posting) (doc wanted : ℕ) (rest : List Posting → List Posting) (found : Option Posting) (files : Option Files) (reads : Reads) (faults : ℕ) →
    CursorFits c files → post_pages c ≤ entered_pages c → c.reached ≤ block_count c.docs → found ≡ head_of held → IfSome found (IsFrom doc c.all) →
    (doc ≡ next_doc c.held → GoesToNext c (record c { held = held }) found) →
    ((n : ℕ) → n ≤ doc → StandsShown c files n → AnswersShown c (record c { held = held }) files files doc found) →
    ForList c files (λ ps left. (found ≡ head_of (rest left)) × StandsAt (record c { held = held }) ps (rest left)) →
    ForList c files (λ ps left. Enters (Ok found) ps c doc (record c { held = held })) →
    CursorStep c (record c { held = held }) doc wanted rest (Ok found) files files reads reads faults faults
step_unread c held doc wanted rest found files reads faults fits first reached current sound next shows answer entered = record {
  fits = record { post = fits.post; skip = fits.skip; entries = fits.entries };
  same = record { post = refl; skip = refl; post_at = refl; skip_at = refl; docs = refl; all = refl; parameter = refl };
  answer = answer;
  entered = entered;
  first = first;
  once = λ ps left stands at reads. once_answered (record c { held = held }) ps found reached reads;
  third = min_low c.skip.count (entries_pages c.skip_at (block_count c.docs)) (2 ^ 64 - 1) (reads_within c.skip_at c.reached (block_count c.docs) c.skip.count c.skip.held fits.entries reached);
  reads = record {
    later = λ p. omega arith;
    others = λ p a b. refl;
    first = first;
    post_later = omega arith;
    skip_later = omega arith;
    post = λ small. omega arith;
    skip = λ small. omega arith;
  };
  skips = omega arith;
  current = current;
  sound = sound;
  next = next;
  shows = shows;
  forward = omega arith;
  part = tt;
  post = λ ps left stands at. tt;
  block = tt;
  entry = tt;
  kept = tt;
  files = refl;
  memory = λ same. cc;
  cause = record { later = omega arith; device = tt };
}

ended_left : (b : Bool) (ps : List Posting) (reached last : ℕ) (held left : List Posting) → b ≡ true → StandsOn b ps reached last held left → left ≡ []
ended_left true ps reached last held left is stands = stands.1
ended_left false ps reached last held left is stands = absurd cc

pub after_nothing : (held : List Posting) → after held [] ≡ []
after_nothing [] = refl
after_nothing (p ∷ held) = refl

-- it has ended
pub step_ended : (c : Cursoring) (doc wanted : ℕ) (rest : List Posting → List Posting) (files : Option Files) (reads : Reads) (faults : ℕ) →
    CursorFits c files → post_pages c ≤ entered_pages c → c.reached ≤ block_count c.docs → c.ended ≡ true → c.held ≡ [] → HeldNone c.docs c.reached c.last c.held c.ended → rest [] ≡ [] →
    CursorStep c c doc wanted rest (Ok None) files files reads reads faults faults
step_ended c doc wanted rest files reads faults fits first reached ended empty all none =
    step_unread c c.held doc wanted rest None files reads faults fits first reached (sym (ap head_of empty)) tt
    (λ is. (omega (arith, ap length empty, all.all ended), all.all ended))
    (λ n le stands. shown_ended ended le stands)
    (λ ps left stands at.
    let is : left ≡ [] = ended_left c.ended ps c.reached c.last c.held left ended at.on in
    let e : rest left ≡ [] = ap rest is ∙ none in
    (sym (ap head_of e), record { on = subst (StandsOn c.ended ps c.reached c.last c.held) (is ∙ sym e) at.on }))
    (λ ps left stands at. (λ le. refl, λ lt. refl))

-- the document lies in the block at hand
pub step_within : (c : Cursoring) (held : List Posting) (doc : ℕ) (found : Option Posting) (files : Option Files) (reads : Reads) (faults : ℕ) →
    CursorFits c files → post_pages c ≤ entered_pages c → c.reached ≤ block_count c.docs → HeldRises c.all c.last c.held →
    HeldNone c.docs c.reached c.last c.held c.ended → c.ended ≡ false → 1 ≤ doc → doc ≤ c.last →
    held ≡ forward_to doc c.held → found ≡ head_of held → CursorStep c (record c { held = held }) doc doc (from_doc doc) (Ok found) files files reads reads faults faults
step_within c held doc found files reads faults fits first reached rises none on some within went got =
    step_unread c held doc doc (from_doc doc) found files reads faults fits first reached got (in_held c.all c.last doc c.held held found rises went got)
    (λ is.
    let n = next_inside c.all c.last doc c.held held rises (λ empty. (none.first on empty).1) within went is in
    goes_next c (record c { held = held }) found got n.1 (omega (arith, n.0)))
    (λ n le stands. shown_within held found on (λ empty. (none.first on empty).1) some within went got le stands)
    (λ ps left stands at.
    let r = in_block c.ended c.all doc ps c.reached c.last c.held left held found on stands.list.entries.rises some within at.on went got in
    (r.0, record { on = r.1 }))
    (λ ps left stands at. (λ le. refl, λ lt. absurd (omega (arith, lt, within))))

-- the block at hand has a next posting
pub step_next : (c : Cursoring) (held : List Posting) (p : Posting) (files : Option Files) (reads : Reads) (faults : ℕ) →
    CursorFits c files → post_pages c ≤ entered_pages c → c.reached ≤ block_count c.docs → HeldRises c.all c.last c.held → c.ended ≡ false →
    1 < length c.held → held ≡ drop 1 c.held → head_of held ≡ Some p →
    CursorStep c (record c { held = held }) (next_doc c.held) (c.last + 1) (after c.held) (Ok (Some p)) files files reads reads faults faults
step_next c held p files reads faults fits first reached rises on more went here =
    let less : length held ≡ length c.held - 1 = ap length went ∙ length-drop 1 c.held in
    step_unread c held (next_doc c.held) (c.last + 1) (after c.held) (Some p) files reads faults fits first reached (sym here) (next_held c.all c.last c.held held p rises more went here)
    (λ is. goes_next c (record c { held = held }) (Some p) (sym here) (omega (arith, less, more)) (omega (arith, less, more)))
    (λ n le stands.
    let low = current_low c.all c.last held p (step_rises c.all c.last (Some p) c.held held (more, went, here) rises) here in
    shown_within held (Some p) on (λ empty. absurd (omega (arith, empty, more))) (next_some c.held)
    (omega (arith, low, (next_held c.all c.last c.held held p rises more went here).from)) (forward_behind c.all c.last c.held held rises more went) (sym here) le stands)
    (λ ps left stands at.
    let r = next_within c.ended ps c.reached c.last c.held left held p on more went here at.on in
    (r.0, record { on = r.1 }))
    (λ ps left stands at.
    let low = next_low c.ended c.all ps c.reached c.last c.held left on stands.list.entries.rises more at.on in
    (λ le. refl, λ lt. absurd (omega (arith, lt, low))))

-- where the block at hand has no next posting, the next is behind the block's last document
pub step_beyond : (c v : Cursoring) (result : Result (Option Posting) PartErr) (f g : Option Files) (r s : Reads) (m n : ℕ) → c.ended ≡ false → HeldRises c.all c.last c.held →
    HeldNone c.docs c.reached c.last c.held c.ended → length c.held ≤ 1 →
    CursorStep c v (c.last + 1) (c.last + 1) (from_doc (c.last + 1)) result f g r s m n →
    CursorStep c v (next_doc c.held) (c.last + 1) (after c.held) result f g r s m n
step_beyond c v result f g r s m n on rises none few step = record {
  fits = step.fits;
  same = step.same;
  answer = λ ps left stands at.
      subst (λ qs. AnswersRest result v ps qs) (next_beyond c.ended c.all ps c.reached c.last c.held left on stands.list.entries.rises few at.on).1 (step.answer ps left stands at);
  entered = λ ps left stands at.
      subst (λ d. Enters result ps c d v) (next_beyond c.ended c.all ps c.reached c.last c.held left on stands.list.entries.rises few at.on).0 (step.entered ps left stands at);
  first = step.first;
  once = step.once;
  third = step.third;
  reads = step.reads;
  skips = step.skips;
  current = step.current;
  sound = next_sound c.all c.last c.held result rises few step.sound;
  next = λ is. step.next (next_is c.all c.last c.held rises (λ empty. (none.first on empty).1) few);
  shows = λ n le stands.
      let is = next_is c.all c.last c.held rises (λ empty. (none.first on empty).1) few in
      subst (λ d. IfOk result (AnswersShown c v f g d)) is (step.shows n (omega (arith, le, is)) stands);
  forward = step.forward;
  part = step.part;
  post = step.post;
  block = step.block;
  entry = step.entry;
  kept = step.kept;
  files = step.files;
  memory = step.memory;
  cause = step.cause;
}

-- ---- the block of the document is searched

-- a cursor that may go beyond its block, over so many blocks
pub record MayGo (c : Cursoring) (files : Option Files) (doc blocks : ℕ) : Type 0 where
  pub fits : CursorFits c files
  pub first : post_pages c ≤ entered_pages c
  pub small : entered_pages c < 2 ^ 64
  pub post : c.post.part ≡ Post
  pub skip : c.skip.part ≡ Skip
  pub on : c.ended ≡ false
  pub rises : HeldRises c.all c.last c.held
  pub none : HeldNone c.docs c.reached c.last c.held c.ended
  pub beyond : c.last < doc
  pub count : blocks ≡ block_count c.docs
  pub reached : c.reached ≤ blocks
  pub few : c.docs < 2 ^ 32

pub may_go : (c : Cursoring) (files : Option Files) (doc blocks : ℕ) → CursorFits c files → post_pages c ≤ entered_pages c → entered_pages c < 2 ^ 64 → c.post.part ≡ Post → c.skip.part ≡ Skip →
    c.ended ≡ false → HeldRises c.all c.last c.held → HeldNone c.docs c.reached c.last c.held c.ended → c.last < doc → blocks ≡ block_count c.docs → c.reached ≤ block_count c.docs → c.docs < 2 ^ 32 →
    MayGo c files doc blocks
may_go c files doc blocks fits first small post skip on rises none beyond count reached few = record {
  fits = fits;
  first = first;
  small = small;
  post = post;
  skip = skip;
  on = on;
  rises = rises;
  none = none;
  beyond = beyond;
  count = count;
  reached = subst (λ n. c.reached ≤ n) (sym count) reached;
  few = few;
}

-- where the next posting is asked for beyond the block at hand, at most one posting is at hand, and the next block is searched
goes_beyond : (c : Cursoring) (files : Option Files) (doc blocks : ℕ) → MayGo c files doc blocks → doc ≡ next_doc c.held → (length c.held ≤ 1) × (doc ≡ c.last + 1)
goes_beyond c files doc blocks k is =
    let few = next_few c.all c.last doc c.held k.rises k.beyond is in
    (few, is ∙ sym (next_is c.all c.last c.held k.rises (λ empty. (k.none.first k.on empty).1) few))

within_blocks : {c : Cursoring} {files : Option Files} {doc blocks : ℕ} → MayGo c files doc blocks → c.reached ≤ block_count c.docs
within_blocks {c} k = subst (λ n. c.reached ≤ n) k.count k.reached

abbrev pub search_of : Cursoring → ℕ → ℕ → SkipSearch
search_of c doc blocks = record { skip_at = c.skip_at; blocks = blocks; reached = c.reached; last = c.last; all = c.all; doc = doc }

abbrev pub list_of : (c : Cursoring) → 1 ≤ c.parameter → c.parameter < 2 ^ 48 → ListPlace
list_of c some small = record {
  post_at = c.post_at;
  skip_at = c.skip_at;
  docs = c.docs;
  parameter = record { value = c.parameter; some = some; small = small };
  all = c.all;
}

-- a reader at a place
abbrev reader : Paging → ℕ → Reading Paging
reader feed place = record { feed = feed; place = place }

at_blocks : (c : Cursoring) (files : Option Files) (blocks : ℕ) (ps : List Posting) → blocks ≡ block_count c.docs →
    SkipStands c.all c.parameter (told_at files c.skip.name) c.skip_at (block_count c.docs) ps →
    SkipStands c.all c.parameter (told_at files c.skip.name) c.skip_at blocks ps
at_blocks c files blocks ps count entries = subst (λ n. SkipStands c.all c.parameter (told_at files c.skip.name) c.skip_at n ps) (sym count) entries

third_of : (c : Cursoring) (blocks count : ℕ) → blocks ≡ block_count c.docs → count ≤ entries_pages c.skip_at blocks → min count (2 ^ 64 - 1) ≤ entries_pages c.skip_at (block_count c.docs)
third_of c blocks count is most = subst (λ n. min count (2 ^ 64 - 1) ≤ entries_pages c.skip_at n) is (min_low count (entries_pages c.skip_at blocks) (2 ^ 64 - 1) most)

module _ {Dev : Type 0} {device : Dev → Seen} {c : Cursoring} {d0 d1 : Dev} {doc blocks place : ℕ} {skip : Reading Paging} (k : MayGo c (device d0).files doc blocks) where
  -- an entry was refused
  pub step_unfound : {refusal : Refusal} (e : PartErr) →
      ReadsFeed (SearchesBlock (search_of c doc blocks)) Fits (feeding_of 4096) device (reader c.skip place) skip d0 d1 (Err refusal) → IsRefused refusal Skip e →
      CursorStep c (record c { skip = skip.feed }) doc doc (from_doc doc) (Err e) (device d0).files (device d1).files (device d0).reads (device d1).reads (device d0).faults (device d1).faults
  step_unfound {refusal = refusal} e s is = record {
    fits = tt;
    same = record { post = refl; skip = (same_file c.skip skip.feed _ _ s.calm).name; post_at = refl; skip_at = refl; docs = refl; all = refl; parameter = refl };
    answer = λ ps left stands at.
        refused_answer refusal Skip e _ _ is
        (s.does.told ps c.parameter (at_blocks c (device d0).files blocks ps k.count stands.list.entries) (walks_of c.ended ps c.reached c.last c.held left k.on at.on).last_is);
    entered = λ ps left stands at. (omega arith, λ lt. absurd (omega arith));
    first = k.first;
    once = λ ps left stands at reads.
        let most = (once_answered c ps None (within_blocks k) reads).most in
        record { again = tt; reached = tt; most = most };
    third = third_of c blocks skip.feed.count k.count s.does.most;
    reads = reads_two c (record c { skip = skip.feed }) (device d0) (device d1) (device d1) k.post k.skip s.calm (calm_none (feeding_of 4096 c.post) (device d1)) k.first;
    skips = skips_after c (record c { skip = skip.feed }) _ _ k.few (third_of c blocks skip.feed.count k.count s.does.most)
        (reads_two c (record c { skip = skip.feed }) (device d0) (device d1) (device d1) k.post k.skip s.calm (calm_none (feeding_of 4096 c.post) (device d1)) k.first);
    current = tt;
    sound = tt;
    next = λ next. tt;
    shows = λ n le stands. tt;
    forward = omega arith;
    part = names_skip refusal e is;
    post = λ ps left stands at.
        names_none refusal Skip Post e _ is
        (s.does.told ps c.parameter (at_blocks c (device d0).files blocks ps k.count stands.entries) (walks_of c.ended ps c.reached c.last c.held left k.on at.on).last_is);
    block = skip_cause refusal e c (device d0).files doc is;
    entry = own_cause refusal Skip e _ is (subst (λ n. OnDamage refusal (LacksAnEntry (told_at (device d0).files c.skip.name) c.skip_at c.all c.last c.reached n)) k.count s.does.lacks);
    kept = record { reached = refl; last = refl; held = refl; ended = refl };
    files = s.calm.files;
    memory = λ same. not_memory refusal Skip e is cc;
    cause = record { later = s.calm.faults; device = part_cause (Option Found) (Option Posting) refusal Skip e _ _ is s.cause };
  }

  -- all blocks end before the document
  pub step_past : (held : List Posting) → ReadsFeed (SearchesBlock (search_of c doc blocks)) Fits (feeding_of 4096) device (reader c.skip place) skip d0 d1 (Ok None) → held ≡ [] →
      CursorStep c (record c { skip = skip.feed; reached = blocks; held = held; ended = true }) doc doc (from_doc doc) (Ok None) (device d0).files
      (device d1).files (device d0).reads (device d1).reads (device d0).faults (device d1).faults
  step_past held s empty = record {
    fits = record { post = subst (Fits c.post) (sym s.calm.files) k.fits.post; skip = s.fits; entries = s.does.reads };
    same = record { post = refl; skip = (same_file c.skip skip.feed _ _ s.calm).name; post_at = refl; skip_at = refl; docs = refl; all = refl; parameter = refl };
    answer = λ ps left stands at.
        let entries = at_blocks c (device d0).files blocks ps k.count stands.list.entries in
        let past = s.does.told ps c.parameter entries (walks_of c.ended ps c.reached c.last c.held left k.on at.on).last_is in
        let r = at_end c.ended c.all doc ps c.reached c.last blocks blocks c.held left held k.on entries.rises k.beyond entries.whole past at.on empty in
        (r.0, record { on = r.1 });
    entered = λ ps left stands at. (λ le. refl, λ lt. refl);
    first = k.first;
    once = λ ps left stands at reads.
        once_answered (record c { skip = skip.feed; reached = blocks; held = held; ended = true }) ps None (omega (arith, k.count))
        (once_past c blocks ps k.reached reads);
    third = third_of c blocks skip.feed.count k.count s.does.most;
    reads = reads_two c (record c { skip = skip.feed; reached = blocks; held = held; ended = true }) (device d0) (device d1) (device d1) k.post k.skip s.calm
        (calm_none (feeding_of 4096 c.post) (device d1)) k.first;
    skips = skips_after c (record c { skip = skip.feed; reached = blocks; held = held; ended = true }) _ _ k.few (third_of c blocks skip.feed.count k.count s.does.most)
        (reads_two c (record c { skip = skip.feed; reached = blocks; held = held; ended = true }) (device d0) (device d1) (device d1) k.post k.skip s.calm
        (calm_none (feeding_of 4096 c.post) (device d1)) k.first);
    current = sym (ap head_of empty);
    sound = tt;
    next = λ next.
        let beyond = goes_beyond c (device d0).files doc blocks k next in
        let all : c.reached ≡ blocks = s.does.next beyond.1 in
        (omega (arith, beyond.0, all, k.count), k.count);
    shows = λ n le stands.
        let same : SameList c (record c { skip = skip.feed; reached = blocks; held = held; ended = true }) =
        record { post = refl; skip = (same_file c.skip skip.feed _ _ s.calm).name; post_at = refl; skip_at = refl; docs = refl; all = refl; parameter = refl } in
        subst (λ f. AnswersShown c (record c { skip = skip.feed; reached = blocks; held = held; ended = true }) (device d0).files f doc None) (sym s.calm.files)
        (shown_past same refl k.count k.reached (walks_shown k.on stands) s.does.past);
    forward = k.reached;
    part = tt;
    post = λ ps left stands at. tt;
    block = tt;
    entry = tt;
    kept = tt;
    files = s.calm.files;
    memory = λ same. cc;
    cause = record { later = s.calm.faults; device = tt };
  }

  -- the list as it stands once its block was found
  shows_at : {found : Found} → ReadsFeed (SearchesBlock (search_of c doc blocks)) Fits (feeding_of 4096) device (reader c.skip place) skip d0 d1 (Ok (Some found)) → (ps : List Posting) →
      ListStands c.all c.parameter (told_at (device d0).files c.post.name) (told_at (device d0).files c.skip.name) (8 * c.post_at) c.skip_at c.docs (block_count c.docs) ps →
      Shows (told_at (device d1).files c.post.name) (8 * c.post_at) (bits_after c.parameter 0 ps)
  shows_at s ps list = subst (λ f. Shows (told_at f c.post.name) (8 * c.post_at) (bits_after c.parameter 0 ps)) (sym s.calm.files) list.bits

  found_at : {found : Found} → ReadsFeed (SearchesBlock (search_of c doc blocks)) Fits (feeding_of 4096) device (reader c.skip place) skip d0 d1 (Ok (Some found)) → (ps left : List Posting) →
      SkipStands c.all c.parameter (told_at (device d0).files c.skip.name) c.skip_at blocks ps → StandsAt c ps left → IsFoundAt c.parameter ps blocks doc found.block found.before found.last found.at
  found_at s ps left entries stands = s.does.told ps c.parameter entries (walks_of c.ended ps c.reached c.last c.held left k.on stands.on).last_is

  -- ---- the block that was found is entered

  module _ {d2 : Dev} {found : Found} {at : ℕ} {post : Reading Paging}
      (s : ReadsFeed (SearchesBlock (search_of c doc blocks)) Fits (feeding_of 4096) device (reader c.skip place) skip d0 d1 (Ok (Some found))) where
    -- its postings were refused
    pub step_missing : {refusal : Refusal} {held : List Posting} {some : 1 ≤ c.parameter} {low : c.parameter < 2 ^ 48} (e : PartErr) (read entered : ℕ) →
        ReadsFeed (EntersFound (list_of c some low) found doc held) Fits (feeding_of 4096) device (reader c.post at) post d1 d2 (Err refusal) →
        IsRefused refusal Post e → read ≡ post.feed.count - c.post.count → entered ≡ min (c.entered + read) (2 ^ 64 - 1) →
        CursorStep c (record c { skip = skip.feed; post = post.feed; entered = entered }) doc doc (from_doc doc) (Err e) (device d0).files (device d2).files
        (device d0).reads (device d2).reads (device d0).faults (device d2).faults
    step_missing {refusal = refusal} {held = held} e read entered w is counted raised =
        let up = raised_by c.post.count post.feed.count c.entered read k.small k.first (omega (arith, counted, w.calm.counted.later)) in
        let first : min post.feed.count (2 ^ 64 - 1) ≤ entered = omega (arith, raised, up.1) in
        let least : c.entered ≤ entered = omega (arith, raised, up.0) in
        record {
          fits = tt;
          same = record {
            post = (same_file c.post post.feed _ _ w.calm).name;
            skip = (same_file c.skip skip.feed _ _ s.calm).name;
            post_at = refl;
            skip_at = refl;
            docs = refl;
            all = refl;
            parameter = refl;
          };
          answer = λ ps left stands on.
              let entries = at_blocks c (device d0).files blocks ps k.count stands.list.entries in
              refused_answer refusal Post e _ _ is
              (w.does.listed ps blocks entries.rises stands.list.whole (shows_at s ps stands.list) stands.list.small (found_at s ps left entries on)).told;
          entered = λ ps left stands on.
              let entries = at_blocks c (device d0).files blocks ps k.count stands.list.entries in
              let f = found_at s ps left entries on in
              let most = (w.does.listed ps blocks entries.rises stands.list.whole (shows_at s ps stands.list) stands.list.small f).most in (
                least,
                λ lt. record {
                  block = found.block;
                  range = f.range;
                  before = s.does.found.from;
                  least = least;
                  most = subst (λ n. n ≤ min (c.entered + block_pages c.parameter (8 * c.post_at) found.block ps) (2 ^ 64 - 1)) (sym raised)
                      (raised_most c.entered read (block_pages c.parameter (8 * c.post_at) found.block ps) (omega (arith, counted, most)));
                },
              );
          first = first;
          once = λ ps left stands on reads.
              let entries = at_blocks c (device d0).files blocks ps k.count stands.list.entries in
              let read = (w.does.listed ps blocks entries.rises stands.list.whole (shows_at s ps stands.list) stands.list.small (found_at s ps left entries on)).once in
              let most = once_refused refusal c post.feed found.block ps s.does.found.from (omega (arith, s.does.found.there, k.count)) read reads in
              record { again = tt; reached = tt; most = most };
          third = third_of c blocks skip.feed.count k.count s.does.most;
          reads = reads_two c (record c { skip = skip.feed; post = post.feed; entered = entered }) (device d0) (device d1) (device d2) k.post k.skip s.calm w.calm first;
          skips = skips_after c (record c { skip = skip.feed; post = post.feed; entered = entered }) _ _ k.few (third_of c blocks skip.feed.count k.count s.does.most)
              (reads_two c (record c { skip = skip.feed; post = post.feed; entered = entered }) (device d0) (device d1) (device d2) k.post k.skip s.calm w.calm first);
          current = tt;
          sound = tt;
          next = λ next. tt;
          shows = λ n le stands. tt;
          forward = omega arith;
          part = names_post refusal e is;
          post = λ ps left stands on. names_own refusal Post e is;
          block = post_cause refusal e c (device d0).files doc is
              (λ bit damaged. record {
                block = found.block;
                before = found.before;
                last = found.last;
                bits = found.at;
                from = s.does.found.from;
                there = omega (arith, s.does.found.there, k.count);
                after = s.does.found.below;
                within = s.does.found.within;
                most = s.does.found.most;
                told = s.does.tells;
                missing = λ ps stands.
                    let answer = w.does.block ps s.does.found.below s.does.found.within
                    (subst (λ f. BlockStands c.all c.parameter (told_at f c.post.name) (8 * c.post_at + found.at) (min (c.docs - 64 * found.block) 64)
                    found.before found.last ps) (sym s.calm.files) stands) in
                    rw damaged at answer;
                at_is =
                    let lacks = rw damaged at w.does.lacks in
                    rw s.calm.files at (lacks s.does.found.below s.does.found.within);
              });
          entry = no_entry_cause refusal e _ is;
          kept = record { reached = refl; last = refl; held = refl; ended = refl };
          files = w.calm.files ∙ s.calm.files;
          memory = λ same. not_memory refusal Post e is cc;
          cause = record {
            later = omega (arith, s.calm.faults, w.calm.faults);
            device = part_cause Inside (Option Posting) refusal Post e _ _ is (any_cause Inside Inside refusal _ _ _ s.calm.faults w.cause);
          };
        }

    pub step_entered : {inside : Inside} {block : List Posting} {some : 1 ≤ c.parameter} {low : c.parameter < 2 ^ 48} (held : List Posting) (entered : ℕ) →
        ReadsFeed (EntersFound (list_of c some low) found doc block) Fits (feeding_of 4096) device (reader c.post at) post d1 d2 (Ok inside) →
        held ≡ block → entered ≡ min (c.entered + inside.pages) (2 ^ 64 - 1) →
        CursorStep c (record c { skip = skip.feed; post = post.feed; reached = found.block + 1; last = found.last; held = held; entered = entered }) doc doc (from_doc doc) (Ok (Some inside.posting))
        (device d0).files (device d2).files (device d0).reads (device d2).reads (device d0).faults (device d2).faults
    step_entered {inside = inside} {block = block} {some = some} {low = low} held entered w swapped raised =
        let up = raised_by c.post.count post.feed.count c.entered inside.pages k.small k.first w.does.count in
        let first : min post.feed.count (2 ^ 64 - 1) ≤ entered = omega (arith, raised, up.1) in
        record {
          fits = record { post = w.fits; skip = subst (Fits skip.feed) (sym w.calm.files) s.fits; entries = s.does.reads };
          same = record {
            post = (same_file c.post post.feed _ _ w.calm).name;
            skip = (same_file c.skip skip.feed _ _ s.calm).name;
            post_at = refl;
            skip_at = refl;
            docs = refl;
            all = refl;
            parameter = refl;
          };
          answer = λ ps left stands on.
              let entries = at_blocks c (device d0).files blocks ps k.count stands.list.entries in
              let f = found_at s ps left entries on in
              let e = (w.does.listed ps blocks entries.rises stands.list.whole (shows_at s ps stands.list) stands.list.small f).told in
              let r = on_block c.ended c.all doc c.parameter ps c.reached c.last blocks found.block found.before found.last found.at (8 * c.post_at)
              inside.pages c.held left block held inside.posting k.on entries.rises k.beyond on.on f e swapped in
              (r.0, record { on = r.1 });
          entered = λ ps left stands on.
              let entries = at_blocks c (device d0).files blocks ps k.count stands.list.entries in
              let f = found_at s ps left entries on in
              let e = (w.does.listed ps blocks entries.rises stands.list.whole (shows_at s ps stands.list) stands.list.small f).told in (
                λ le. absurd (omega (arith, le, k.beyond)),
                λ lt. record {
                  block = found.block;
                  range = f.range;
                  before = s.does.found.from;
                  reached = refl;
                  pages = raised ∙ ap (λ n. min (c.entered + n) (2 ^ 64 - 1)) e.pages;
                },
              );
          first = first;
          once = λ ps left stands on reads.
              let entries = at_blocks c (device d0).files blocks ps k.count stands.list.entries in
              let read = (w.does.listed ps blocks entries.rises stands.list.whole (shows_at s ps stands.list) stands.list.small (found_at s ps left entries on)).once in
              let v : Cursoring = record c { skip = skip.feed; post = post.feed; reached = found.block + 1; last = found.last; held = held; entered = entered } in
              once_answered v ps (Some inside.posting) (omega (arith, s.does.found.there, k.count)) (once_read inside c post.feed found.block ps s.does.found.from read reads);
          third = third_of c blocks skip.feed.count k.count s.does.most;
          reads = reads_two c (record c { skip = skip.feed; post = post.feed; reached = found.block + 1; last = found.last; held = held; entered = entered })
              (device d0) (device d1) (device d2) k.post k.skip s.calm w.calm first;
          skips = skips_after c (record c { skip = skip.feed; post = post.feed; reached = found.block + 1; last = found.last; held = held; entered = entered })
              _ _ k.few (third_of c blocks skip.feed.count k.count s.does.most)
              (reads_two c (record c { skip = skip.feed; post = post.feed; reached = found.block + 1; last = found.last; held = held; entered = entered })
              (device d0) (device d1) (device d2) k.post k.skip s.calm w.calm first);
          current = sym (ap head_of swapped ∙ w.does.current);
          sound = w.does.from;
          next = λ next.
              let beyond = goes_beyond c (device d0).files doc blocks k next in
              let at_next = s.does.next beyond.1 in
              let whole : length block ≡ min (c.docs - 64 * found.block) 64 = w.does.whole (omega (arith, beyond.1, at_next.1)) in
              let same : length held ≡ length block = ap length swapped in
              let there : 64 * found.block < c.docs = omega (arith, s.does.found.there, k.count) in
              goes_next c (record c { skip = skip.feed; post = post.feed; reached = found.block + 1; last = found.last; held = held; entered = entered }) (Some inside.posting)
              (sym (ap head_of swapped ∙ w.does.current)) (omega (arith, whole, same, there)) (omega (arith, whole, same, there, beyond.0, at_next.0));
          shows = λ n le stands.
              let v : Cursoring = record c { skip = skip.feed; post = post.feed; reached = found.block + 1; last = found.last; held = held; entered = entered } in
              let same : SameList c v = record {
                post = (same_file c.post post.feed _ _ w.calm).name;
                skip = (same_file c.skip skip.feed _ _ s.calm).name;
                post_at = refl;
                skip_at = refl;
                docs = refl;
                all = refl;
                parameter = refl;
              } in
              let holds : HoldsFound (told_at (device d0).files c.post.name) (list_of c some low) doc found block =
              subst (λ f. HoldsFound (told_at f c.post.name) (list_of c some low) doc found block) s.calm.files w.does.shows in
              subst (λ f. AnswersShown c v (device d0).files f doc (Some inside.posting)) (sym (w.calm.files ∙ s.calm.files))
              (shown_entered same k.on refl refl k.count (walks_shown k.on stands) s.does.tells s.does.found
              (subst (HoldsFound (told_at (device d0).files c.post.name) (list_of c some low) doc found) (sym swapped) holds) (ap head_of swapped ∙ w.does.current));
          forward = omega (arith, s.does.found.from);
          part = tt;
          post = λ ps left stands on. tt;
          block = tt;
          entry = tt;
          kept = tt;
          files = w.calm.files ∙ s.calm.files;
          memory = λ same. cc;
          cause = record { later = omega (arith, s.calm.faults, w.calm.faults); device = tt };
        }
