-- What stands where a posting is read.
use Rattle.std.proofs.Common.{arith, ◌≡◌, ◌+◌, ◌^◌, ◌≤◌, ◌<◌, ◌-◌, ℕ, List, [], ◌∷◌, ◌++◌, length, take, drop, Option, Some}
use Rattle.std.proofs.Common.{None, Result, Ok, Err, inl, refl, sym, ◌∙◌, ap, subst, length-append, length-take, append-nil, get_or, drop-cons, add-one}
use Rattle.std.proofs.lemmas.List.{take-append-drop, drop-drop, take_more}
use Rattle.std.proofs.Math.Seq.{take-add}
use Rattle.mg_defs.specs.declared.Posting.{Posting}
use Rattle.mg_defs.specs.Bits.{Bits, Begins, FromPlace, Shows}
use Rattle.mg_defs.specs.Codes.{gamma, golomb}
use Rattle.mg_defs.specs.Answers.{UpTo}
use Rattle.mg_defs.specs.Lists.{posting_bits, bits_after, last_doc, Rises, Follows}
use Rattle.mg_defs.proofs.CodeLaws.{gamma_free, golomb_free}
use Rattle.mg_defs.proofs.FrontLaws.{begins_both, shows_left, shows_right}
use Rattle.mg_defs.proofs.ListLaws.{bits_append, rises_right, last_append}
use Rattle.mg_bits.specs.CodeAnswers.{AnswersCode, CodeCause, IsGot, OnlyPagesOf}
use Rattle.mg_bits.specs.Feed.{Feeding, Device as Seen, Read, ReadsWithin}
use Rattle.mg_bits.proofs.CallerLemmas.{told_got, within_more, within_wider}
use Rattle.mg_bits.specs.declared.code_err.CodeErr.{CodeErr}
use Rattle.mg_bits.specs.declared.code_err.CodeErr.TheVariants as code
use Rattle.mg_post.specs.declared.refusal.Refusal.{Refusal}
use Rattle.mg_post.specs.declared.refusal.Refusal.TheVariants.{Device, Damaged}
use Rattle.mg_post.specs.Answers.{OnDamage, OrDevice, RefusalCause, of_code}
use Rattle.mg_post.specs.Missing.{IsBitOfPosting, LacksPosting}
use Rattle.mg_defs.proofs.StandLists.{length_posting}

-- the pages that a refused reader of a code read
told_pages : (within : ℕ → Type 0) (words : ℕ → Bits) (told : Option (List ℕ)) (place y : ℕ) (f0 f1 : Feeding) (d0 d1 : Seen) → within y → Shows told place (words y) →
    FromPlace told place (OnlyPagesOf within words f0 f1 d0 d1 place) → ReadsWithin f0 f1 d0 d1 place (place + length (words y))
told_pages within words None place y f0 f1 d0 d1 taken shows pages = absurd shows
told_pages within words (Some bytes) place y f0 f1 d0 d1 taken shows pages = pages y taken shows

gap_shown : (told : Option (List ℕ)) (place b before : ℕ) (p : Posting) → Shows told place (posting_bits b before p) → Shows told place (golomb b (p.doc - before))
unfolding posting_bits
gap_shown told place b before p h = shows_left told place _ (gamma p.freq) h

freq_shown : (told : Option (List ℕ)) (place next b before : ℕ) (p : Posting) → next ≡ place + length (golomb b (p.doc - before)) →
    Shows told place (posting_bits b before p) → Shows told next (gamma p.freq)
unfolding posting_bits
freq_shown told place next b before p e h = shows_right told place next (golomb b (p.doc - before)) _ e h

gap_within : (before all limit : ℕ) (p : Posting) → limit ≡ all - before → Follows all before p → UpTo limit (p.doc - before)
gap_within before all limit p is follows = (omega (arith, follows.after), omega (arith, follows.within, follows.after))

freq_within : (before all : ℕ) (p : Posting) → Follows all before p → UpTo 4294967295 p.freq
freq_within before all p follows = (follows.some, omega (arith, follows.fits))

pub refused_posting : (refusal : CodeErr) (place y : ℕ) (p : Posting) → IsGot (Err refusal) y → OrDevice {T = Posting} (Err (of_code refusal place)) (λ q. q ≡ p)
refused_posting code.Device place y p h = tt
refused_posting (code.End at) place y p h = h
refused_posting (code.Over at most) place y p h = h

pub code_told : (refusal : CodeErr) (place : ℕ) (fact : ℕ → Type 0) → (((y : ℕ) → IsGot (Err refusal) y → ⊥) → fact place) → OnDamage (of_code refusal place) fact
code_told code.Device place fact h = tt
code_told (code.End at) place fact h = h (λ y got. got)
code_told (code.Over at most) place fact h = h (λ y got. got)

pub code_cause : (T V : Type 0) (refusal : CodeErr) (place a b c : ℕ) → a ≤ b → CodeCause {T = T} (Err refusal) b c → RefusalCause {T = V} (Err (of_code refusal place)) a c
code_cause T V code.Device place a b c le rose = omega (arith, le, rose)
code_cause T V (code.End at) place a b c le rose = tt
code_cause T V (code.Over at most) place a b c le rose = tt

-- where no gap is read, none stands
pub gap_refused : (told : Option (List ℕ)) (refusal : CodeErr) (limit place b before all : ℕ) → 1 ≤ b → b < 2 ^ 48 → limit ≡ all - before →
    FromPlace told place (AnswersCode (Err refusal) (UpTo limit) (golomb b) limit place) →
    OnDamage (of_code refusal place) (IsBitOfPosting all b told before place)
gap_refused told refusal limit place b before all some small is answers =
    code_told refusal place (IsBitOfPosting all b told before place) (λ no. inl record { missing = λ gap range low shows. no gap (none gap range shows); at_is = refl })
  where
    none : (gap : ℕ) → UpTo (all - before) gap → Shows told place (golomb b gap) → IsGot (Err refusal) gap
    none gap range shows = told_got (UpTo limit) (golomb b) (golomb_free b limit some (omega (arith, small))) told (Err refusal) limit place gap (rw is range) shows answers

-- ---- what was read stands

pub code_stands : (told : Option (List ℕ)) (place limit x : ℕ) (within : ℕ → Type 0) (words : ℕ → Bits) →
    FromPlace told place (AnswersCode (Ok x) within words limit place) → FromPlace told place (Begins (words x))
code_stands None place limit x within words answers = tt
code_stands (Some bytes) place limit x within words answers = answers.1

pub none_stand : (told : Option (List ℕ)) (place : ℕ) → FromPlace told place (Begins [])
none_stand None place = tt
none_stand (Some bytes) place = refl

both_stand : (told : Option (List ℕ)) (place next : ℕ) (one two : Bits) → next ≡ place + length one → FromPlace told place (Begins one) →
    FromPlace told next (Begins two) → FromPlace told place (Begins (one ++ two))
both_stand None place next one two at first second = tt
both_stand (Some bytes) place next one two at first second = begins_both one two _ first (rw drop-drop (rw at at second))

pub posting_stands : (told : Option (List ℕ)) (place next b before gap freq : ℕ) → next ≡ place + length (golomb b gap) →
    FromPlace told place (Begins (golomb b gap)) → FromPlace told next (Begins (gamma freq)) →
    let p : Posting = record { doc = before + gap; freq = freq } in FromPlace told place (Begins (posting_bits b before p))
unfolding posting_bits
posting_stands told place next b before gap freq at one two =
    let e : before + gap - before ≡ gap = omega arith in
    rw e (both_stand told place next (golomb b gap) (gamma freq) at one two)

pub postings_stand : (told : Option (List ℕ)) (start place b before last : ℕ) (a : List Posting) (p : Posting) → last ≡ last_doc before a → place ≡ start + length (bits_after b before a) →
    FromPlace told start (Begins (bits_after b before a)) → FromPlace told place (Begins (posting_bits b last p)) → FromPlace told start (Begins (bits_after b before (a ++ p ∷ [])))
unfolding bits_after
postings_stand told start place b before last a p is at one two =
    rw (bits_append b before a (p ∷ []), ← is, append-nil (posting_bits b last p)) (both_stand told start place (bits_after b before a) (posting_bits b last p) at one two)

-- where a posting was refused, those before it stand and it does not
pub lacks_next : (told now : Option (List ℕ)) (refusal : Refusal) (all b before start last place i count : ℕ) (out : List Posting) → now ≡ told → i < count →
    last ≡ last_doc before (take i out) → place ≡ start + length (bits_after b before (take i out)) →
    Rises all before (take i out) → FromPlace told start (Begins (bits_after b before (take i out))) →
    ((p : Posting) → Follows all last p → place + length (posting_bits b last p) ≤ 2 ^ 63 → Shows now place (posting_bits b last p) → OrDevice {T = Posting} (Err refusal) (λ q. q ≡ p)) →
    OnDamage refusal (IsBitOfPosting all b now last place) → OnDamage refusal (LacksPosting all b told before start count)
lacks_next told now Device all b before start last place i count out same lt doc at rises stands answers bit = tt
lacks_next told now (Damaged bad) all b before start last place i count out same lt doc at rises stands answers bit = record {
  first = take i out;
  few = omega (arith, length-take i out, lt);
  rises = rises;
  bits = stands;
  last = last;
  last_is = doc;
  next = place;
  next_is = at;
  missing = λ p follows small shows. answers p follows small (subst (λ t. Shows t place (posting_bits b last p)) (sym same) shows);
  at_is = subst (λ t. IsBitOfPosting all b t last place bad) same bit;
}

pub gap_got : (told : Option (List ℕ)) (result : Result ℕ CodeErr) (limit place b before all : ℕ) (p : Posting) → 1 ≤ b → b < 2 ^ 48 → limit ≡ all - before → Follows all before p →
    Shows told place (posting_bits b before p) → FromPlace told place (AnswersCode result (UpTo limit) (golomb b) limit place) → IsGot result (p.doc - before)
gap_got told result limit place b before all p some small is follows shows answers =
    told_got (UpTo limit) (golomb b) (golomb_free b limit some (omega (arith, small))) told result limit place (p.doc - before)
    (gap_within before all limit p is follows) (gap_shown told place b before p shows) answers

pub gap_pages : (told : Option (List ℕ)) (limit place b before all : ℕ) (p : Posting) (f0 f1 : Feeding) (d0 d1 : Seen) → limit ≡ all - before → Follows all before p →
    Shows told place (posting_bits b before p) → FromPlace told place (OnlyPagesOf (UpTo limit) (golomb b) f0 f1 d0 d1 place) →
    ReadsWithin f0 f1 d0 d1 place (place + length (golomb b (p.doc - before)))
gap_pages told limit place b before all p f0 f1 d0 d1 is follows shows pages =
    told_pages (UpTo limit) (golomb b) told place (p.doc - before) f0 f1 d0 d1 (gap_within before all limit p is follows) (gap_shown told place b before p shows) pages

pub freq_got : (told : Option (List ℕ)) (result : Result ℕ CodeErr) (place next b before all gap : ℕ) (p : Posting) → next ≡ place + length (golomb b gap) →
    gap ≡ p.doc - before → Follows all before p →
    Shows told place (posting_bits b before p) → FromPlace told next (AnswersCode result (UpTo 4294967295) gamma 4294967295 next) → IsGot result p.freq
freq_got told result place next b before all gap p at is follows shows answers =
    told_got (UpTo 4294967295) gamma (gamma_free 4294967295 (omega arith)) told result 4294967295 next p.freq (freq_within before all p follows)
    (freq_shown told place next b before p (at ∙ ap (λ n. place + length (golomb b n)) is) shows) answers

pub freq_pages : (told : Option (List ℕ)) (place next b before all gap : ℕ) (p : Posting) (f0 f1 : Feeding) (d0 d1 : Seen) →
    next ≡ place + length (golomb b gap) → gap ≡ p.doc - before → Follows all before p →
    Shows told place (posting_bits b before p) → FromPlace told next (OnlyPagesOf (UpTo 4294967295) gamma f0 f1 d0 d1 next) → ReadsWithin f0 f1 d0 d1 next (next + length (gamma p.freq))
freq_pages told place next b before all gap p f0 f1 d0 d1 at is follows shows pages =
    told_pages (UpTo 4294967295) gamma told next p.freq f0 f1 d0 d1 (freq_within before all p follows)
    (freq_shown told place next b before p (at ∙ ap (λ n. place + length (golomb b n)) is) shows) pages

-- the pages of a posting of which the gap alone was read, or a part of it
pub posting_pages : (f0 f1 : Feeding) (d0 d1 : Seen) (place b before : ℕ) (p : Posting) → 0 < f0.page →
    ReadsWithin f0 f1 d0 d1 place (place + length (golomb b (p.doc - before))) → ReadsWithin f0 f1 d0 d1 place (place + length (posting_bits b before p))
posting_pages f0 f1 d0 d1 place b before p some within = within_wider f0 f1 d0 d1 place (place + length (golomb b (p.doc - before))) _ some (omega arith)
    (omega (arith, length_posting b before p)) within

-- the pages of a posting whose gap was read, and a part of its count
pub posting_pages_more : (f0 f1 f2 : Feeding) (d0 d1 d2 : Seen) (place next b before gap : ℕ) (p : Posting) → 0 < f0.page → gap ≡ p.doc - before → next ≡ place + length (golomb b gap) →
    Read f0 f1 d0 d1 place (place + length (golomb b gap)) → ReadsWithin f1 f2 d1 d2 next (next + length (gamma p.freq)) → ReadsWithin f0 f2 d0 d2 place (place + length (posting_bits b before p))
posting_pages_more f0 f1 f2 d0 d1 d2 place next b before gap p some is at one two =
    let second : ReadsWithin f1 f2 d1 d2 (place + length (golomb b gap)) (place + length (golomb b gap) + length (gamma p.freq)) =
    subst (λ n. ReadsWithin f1 f2 d1 d2 n (n + length (gamma p.freq))) at two in
    let both : ReadsWithin f0 f2 d0 d2 place (place + length (golomb b gap) + length (gamma p.freq)) =
    within_more f0 f1 f2 d0 d1 d2 place (place + length (golomb b gap)) _ some (omega arith) (omega arith) one.calm.part one.calm.page one.held one.pages second in
    let e : place + length (golomb b gap) + length (gamma p.freq) ≡ place + length (posting_bits b before p) = omega (arith, ap (λ n. length (golomb b n)) is, length_posting b before p) in
    subst (ReadsWithin f0 f2 d0 d2 place) e both

pub same_posting : (before gap freq all : ℕ) (p : Posting) → Follows all before p → gap ≡ p.doc - before → freq ≡ p.freq → let q : Posting = record { doc = before + gap; freq = freq } in q ≡ p
same_posting before gap freq all p follows one two =
    let e : before + gap ≡ p.doc = omega (arith, follows.after) in
    ap (λ d. let q : Posting = record { doc = d; freq = freq } in q) e ∙ ap (λ n. let q : Posting = record { doc = p.doc; freq = n } in q) two

pub posting_length : (b before gap freq : ℕ) → let p : Posting = record { doc = before + gap; freq = freq } in length (posting_bits b before p) ≡ length (golomb b gap) + length (gamma freq)
posting_length b before gap freq =
    let e : before + gap - before ≡ gap = omega arith in
    let p : Posting = record { doc = before + gap; freq = freq } in
    length_posting b before p ∙ ap (λ n. length (golomb b n) + length (gamma freq)) e

pub rises_more : (all before last : ℕ) (a : List Posting) (p : Posting) → last ≡ last_doc before a → Rises all before a → Follows all last p → Rises all before (a ++ p ∷ [])
unfolding Rises last_doc
rises_more all before last [] p is h follows = (subst (λ n. Follows all n p) is follows, tt)
rises_more all before last (q ∷ a) p is h follows = (h.0, rises_more all q.doc last a p is h.1 follows)

pub last_more : (before : ℕ) (a : List Posting) (p : Posting) → last_doc before (a ++ p ∷ []) ≡ p.doc
unfolding last_doc
last_more before a p = last_append before a (p ∷ [])

pub bits_more : (b before last : ℕ) (a : List Posting) (p : Posting) → last ≡ last_doc before a →
    length (bits_after b before (a ++ p ∷ [])) ≡ length (bits_after b before a) + length (posting_bits b last p)
unfolding bits_after
bits_more b before last a p is =
    rw (bits_append b before a (p ∷ []), ← is)
    (length-append (bits_after b before a) (posting_bits b last p ++ []) ∙ ap (λ n. length (bits_after b before a) + n) (ap length (append-nil (posting_bits b last p))))

-- the posting that stands next
pub record NextHere (told : Option (List ℕ)) (place all b last i : ℕ) (ps : List Posting) : Type 0 where
  pub posting : Posting
  pub follows : Follows all last posting
  pub shows : Shows told place (posting_bits b last posting)
  pub small : place + length (posting_bits b last posting) ≤ 2 ^ 63
  pub more : take (i + 1) ps ≡ take i ps ++ posting ∷ []

no_posting : Posting
no_posting = record { doc = 0; freq = 0 }

next_split : (told : Option (List ℕ)) (start place all b before last i : ℕ) (ps a rest : List Posting) (q : Posting) → ps ≡ a ++ q ∷ rest → take (i + 1) ps ≡ take i ps ++ q ∷ [] →
    last ≡ last_doc before a → place ≡ start + length (bits_after b before a) → Rises all before ps → start + length (bits_after b before ps) ≤ 2 ^ 63 →
    Shows told start (bits_after b before ps) → NextHere told place all b last i ps
unfolding Rises bits_after
next_split told start place all b before last i ps a rest q is more doc at rises small shows =
    let r : Rises all (last_doc before a) (q ∷ rest) = rises_right all before a (q ∷ rest) (rw is at rises) in
    let e : bits_after b before ps ≡ bits_after b before a ++ (posting_bits b last q ++ bits_after b q.doc rest) =
    ap (bits_after b before) is ∙ bits_append b before a (q ∷ rest) ∙ ap (λ n. bits_after b before a ++ bits_after b n (q ∷ rest)) (sym doc) in
    let s : Shows told start (bits_after b before a ++ (posting_bits b last q ++ bits_after b q.doc rest)) = subst (Shows told start) e shows in
    let l : length (bits_after b before ps) ≡ length (bits_after b before a) + (length (posting_bits b last q) + length (bits_after b q.doc rest)) =
    ap length e ∙ length-append (bits_after b before a) (posting_bits b last q ++ bits_after b q.doc rest)
    ∙ ap (λ n. length (bits_after b before a) + n) (length-append (posting_bits b last q) (bits_after b q.doc rest)) in
    record {
      posting = q;
      follows = subst (λ n. Follows all n q) (sym doc) r.0;
      shows = shows_left told place (posting_bits b last q) (bits_after b q.doc rest) (shows_right told start place (bits_after b before a) _ at s);
      small = omega arith;
      more = more;
    }

pub next_here : (told : Option (List ℕ)) (start place all b before last i : ℕ) (out ps : List Posting) → i < length ps → take i out ≡ take i ps →
    last ≡ last_doc before (take i out) → place ≡ start + length (bits_after b before (take i out)) → Rises all before ps → start + length (bits_after b before ps) ≤ 2 ^ 63 →
    Shows told start (bits_after b before ps) → NextHere told place all b last i ps
next_here told start place all b before last i out ps lt same doc at rises small shows =
    let split : ps ≡ take i ps ++ get_or ps i no_posting ∷ drop (i + 1) ps =
    sym (take-append-drop i ps) ∙ ap (λ l. take i ps ++ l) (rw (add-one) (drop-cons ps i no_posting lt)) in
    next_split told start place all b before last i ps (take i ps) _ (get_or ps i no_posting) split (take_more ps i no_posting lt)
    (doc ∙ ap (last_doc before) same) (at ∙ ap (λ l. start + length (bits_after b before l)) same) rises small shows

pub next_answer : (told now : Option (List ℕ)) (place all b last i : ℕ) (ps : List Posting) (result : Result Posting Refusal) → now ≡ told → (next : NextHere told place all b last i ps) →
    ((p : Posting) → Follows all last p → place + length (posting_bits b last p) ≤ 2 ^ 63 → Shows now place (posting_bits b last p) → OrDevice result (λ q. q ≡ p)) →
    OrDevice result (λ q. q ≡ next.posting)
next_answer told now place all b last i ps result same next answers =
    answers next.posting next.follows next.small (subst (λ t. Shows t place (posting_bits b last next.posting)) (sym same) next.shows)

-- the bits of a part of a list that has one posting more are at most those of the whole part
pub next_bits : (told : Option (List ℕ)) (place all b before last i count : ℕ) (ps out : List Posting) → (next : NextHere told place all b last i ps) →
    take i out ≡ take i ps → last ≡ last_doc before (take i out) → i < count →
    length (bits_after b before (take i out)) + length (posting_bits b last next.posting) ≤ length (bits_after b before (take count ps))
next_bits told place all b before last i count ps out next same doc lt =
    let one : length (bits_after b before (take (i + 1) ps)) ≡ length (bits_after b before (take i ps)) + length (posting_bits b last next.posting) =
    ap (λ l. length (bits_after b before l)) next.more ∙ bits_more b before last (take i ps) next.posting (doc ∙ ap (last_doc before) same) in
    let e : count ≡ i + 1 + (count - (i + 1)) = omega (arith, lt) in
    let split : take count ps ≡ take (i + 1) ps ++ take (count - (i + 1)) (drop (i + 1) ps) = ap (λ n. take n ps) e ∙ take-add (i + 1) (count - (i + 1)) ps in
    let more : length (bits_after b before (take count ps)) ≡ length (bits_after b before (take (i + 1) ps))
    + length (bits_after b (last_doc before (take (i + 1) ps)) (take (count - (i + 1)) (drop (i + 1) ps))) =
    ap (λ l. length (bits_after b before l)) split ∙ ap length (bits_append b before (take (i + 1) ps) (take (count - (i + 1)) (drop (i + 1) ps)))
    ∙ length-append (bits_after b before (take (i + 1) ps)) (bits_after b (last_doc before (take (i + 1) ps)) (take (count - (i + 1)) (drop (i + 1) ps))) in
    omega (arith, one, more, ap (λ l. length (bits_after b before l)) same)

-- the pages of a block of which some postings were read, and a part of the next
pub block_pages_more : {told now : Option (List ℕ)} {f0 f1 f2 : Feeding} {d0 d1 d2 : Seen} (start place all b before last i count : ℕ) (ps out : List Posting) →
    0 < f0.page → now ≡ told → (next : NextHere told place all b last i ps) → take i out ≡ take i ps →
    last ≡ last_doc before (take i out) → i < count → place ≡ start + length (bits_after b before (take i out)) →
    Read f0 f1 d0 d1 start (start + length (bits_after b before (take i out))) →
    ((p : Posting) → Follows all last p → Shows now place (posting_bits b last p) → ReadsWithin f1 f2 d1 d2 place (place + length (posting_bits b last p))) →
    ReadsWithin f0 f2 d0 d2 start (start + length (bits_after b before (take count ps)))
block_pages_more {told} {now} {f0} {f1} {f2} {d0} {d1} {d2} start place all b before last i count ps out some same next front doc lt at one pages =
    let m : ℕ = start + length (bits_after b before (take i out)) in
    let n : ℕ = length (posting_bits b last next.posting) in
    let two : ReadsWithin f1 f2 d1 d2 place (place + n) = pages next.posting next.follows (subst (λ t. Shows t place (posting_bits b last next.posting)) (sym same) next.shows) in
    let second : ReadsWithin f1 f2 d1 d2 m (m + n) = subst (λ k. ReadsWithin f1 f2 d1 d2 k (k + n)) at two in
    let both : ReadsWithin f0 f2 d0 d2 start (m + n) = within_more f0 f1 f2 d0 d1 d2 start m (m + n) some (omega arith) (omega arith) one.calm.part one.calm.page one.held one.pages second in
    within_wider f0 f2 d0 d2 start (m + n) _ some (omega arith) (omega (arith, next_bits told place all b before last i count ps out next front doc lt)) both

pub any_refused : {A B : Type 0} (refusal : Refusal) (f : A → Type 0) (h : B → Type 0) → OrDevice {T = A} (Err refusal) f → OrDevice {T = B} (Err refusal) h
any_refused Device f h got = tt
any_refused (Damaged at) f h got = got
