-- Loading the model of a stream and of both, by how each step of it ends.
use Rattle.std.proofs.Common.{◌≡◌, ◌≢◌, ℕ, ◌*◌, ◌≤◌, List, length, refl, sym, subst, ◌∙◌, arith, inl, inr, Ok, Err, Result}
use Rattle.std.specs.Option.{IsSome}
use Rattle.std.specs.declared.option.Option.{Option}
use Rattle.mg_dev.specs.declared.bad.Bad as declared
use Rattle.mg_dev.specs.declared.part.Part.{Part}
use Rattle.mg_dev.specs.declared.part.Part.TheVariants as part
use Rattle.mg_dev.specs.declared.part_err.PartErr.{PartErr}
use Rattle.mg_dev.specs.declared.part_err.PartErr.TheVariants.{Device, Memory, Bad}
use Rattle.mg_dev.specs.Files.{Files, Reads, SameReads, part_bytes}
use Rattle.mg_dev.specs.Names.{full_name}
use Rattle.mg_dev.specs.PartCauses.{HasPartCause}
use Rattle.mg_defs.specs.CodedText.{StreamCode, TextCode}
use Rattle.mg_model.specs.declared.reading.ReadPieces.{ReadPieces}
use Rattle.mg_model.specs.Damage.{AnswersLoad, AnswersRoom, AnswersStream, IsDamage, IsPart}
use Rattle.mg_model.specs.Loading.{LoadsModel, LoadsStream}
use Rattle.mg_model.specs.Read.{AnswersEntries, ReadOnce, ReadWithin, ReadsPieces, ToldUnread, code_read}
use Rattle.mg_model.proofs.Standing.{second-damage}
use Rattle.mg_dev.proofs.CallerLemmas.{cause_err}

-- ---- how often a part was read

read-any : {T : Type 0} (p : Part) (count : ℕ) (bytes : List ℕ) (r s : Reads) (result : Result T PartErr) → ReadWithin p bytes 0 r s → ReadOnce p count bytes r s result
read-any p count bytes r s (Ok x) within = within
read-any p count bytes r s (Err Device) within = omega (arith, within)
read-any p count bytes r s (Err Memory) within = within
read-any p count bytes r s (Err (Bad bad)) within = inl within

read-behind : (T U : Type 0) (p : Part) (count : ℕ) (bytes : List ℕ) (r s t : Reads) (refusal : PartErr) → s p ≡ r p →
    ReadOnce {T = T} p count bytes s t (Err refusal) → ReadOnce {T = U} p count bytes r t (Err refusal)
read-behind T U p count bytes r s t Device same once = omega (arith, same, once)
read-behind T U p count bytes r s t Memory same once = omega (arith, same, once)
read-behind T U p count bytes r s t (Bad bad) same (inl within) = inl (omega (arith, same, within))
read-behind T U p count bytes r s t (Bad bad) same (inr (damage, within)) = inr (damage, omega (arith, same, within))

-- ---- the model of one stream

short-part : (p : Part) (count : ℕ) (bytes : List ℕ) (refusal : PartErr) → AnswersRoom {T = Unit {0}} p count bytes (Err refusal) → AnswersStream p count bytes (Err refusal)
short-part p count bytes Device h = tt
short-part p count bytes Memory h = absurd h
short-part p count bytes (Bad bad) h = inl h

-- its part is too short
pub load-short : {base : List ℕ} {p : Part} {count : ℕ} {refusal : PartErr} {f g : Option Files} {r s : Reads} {a b : ℕ} → g ≡ f → SameReads r s →
    HasPartCause {T = Unit {0}} a b (Err refusal) → (IsSome f → AnswersRoom {T = Unit {0}} p count (part_bytes base p f) (Err refusal)) →
    LoadsStream base p count (Err refusal) f g r s a b
load-short {base} {p} {count} {refusal} {f} {g} {r} {s} same reads cause room = record {
  answer = λ told. short-part p count (part_bytes base p f) refusal (room told);
  looked = record { files = same; faults = cause.later; later = λ q. omega (arith, reads q); others = λ q _. reads q };
  once = λ told. read-any {T = StreamCode} p count (part_bytes base p f) r s (Err refusal) (omega (arith, reads p));
  unread = λ told short. reads p;
  cause = cause_err (omega arith) cause;
}

broken-part : (p : Part) (count : ℕ) (bytes : List ℕ) (refusal : PartErr) → 2 * count ≤ length bytes → AnswersEntries p count bytes (Err refusal) → AnswersStream p count bytes (Err refusal)
broken-part p count bytes Device room h = tt
broken-part p count bytes Memory room h = room
broken-part p count bytes (Bad bad) room h = inr (room, inl h)

own-cause : (result : Result StreamCode PartErr) {m n : ℕ} → m ≤ n → result ≢ Err Device → HasPartCause m n result
own-cause (Ok it) later own = record { later = later; device = tt }
own-cause (Err Device) later own = absurd (own refl)
own-cause (Err Memory) later own = record { later = later; device = tt }
own-cause (Err (Bad bad)) later own = record { later = later; device = tt }

module _ {base : List ℕ} {p : Part} {count : ℕ} {f g h : Option Files} {r s t : Reads} {a b c : ℕ} (same : g ≡ f) (reads : SameReads r s) (later : a ≤ b)
    (room : IsSome f → 2 * count ≤ length (part_bytes base p f)) where
  -- its entries are damaged
  pub load-broken : {refusal : PartErr} → ReadsPieces (full_name base p) p count (Err refusal) g h s t b c → LoadsStream base p count (Err refusal) f h r t a c
  load-broken {refusal} step =
      let read = subst (λ x. ReadsPieces (full_name base p) p count (Err refusal) x h s t b c) same step in
      record {
        answer = λ told. broken-part p count (part_bytes base p f) refusal (room told) (read.answer told);
        looked = record {
          files = read.looked.files;
          faults = omega (arith, later, read.looked.faults);
          later = λ q. omega (arith, reads q, read.looked.later q);
          others = λ q apart. read.looked.others q apart ∙ reads q;
        };
        once = λ told. read-behind ReadPieces StreamCode p count (part_bytes base p f) r s t refusal (reads p) (read.once told);
        unread = λ told short. absurd (omega (arith, short, room told));
        cause = cause_err later read.cause;
      }

  -- its entries were read
  pub load-read : {read : ReadPieces} {result : Result StreamCode PartErr} → ReadsPieces (full_name base p) p count (Ok read) g h s t b c →
      ((n : ℕ) (bytes : List ℕ) → IsPart n bytes (code_read read) → AnswersStream p n bytes result) → result ≢ Err Device →
      LoadsStream base p count result f h r t a c
  load-read {read} {result} step answers own =
      let all = subst (λ x. ReadsPieces (full_name base p) p count (Ok read) x h s t b c) same step in
      record {
        answer = λ told. answers count (part_bytes base p f) (all.answer told);
        looked = record {
          files = all.looked.files;
          faults = omega (arith, later, all.looked.faults);
          later = λ q. omega (arith, reads q, all.looked.later q);
          others = λ q apart. all.looked.others q apart ∙ reads q;
        };
        once = λ told. read-any p count (part_bytes base p f) r t result (omega (arith, reads p, all.once told));
        unread = λ told short. absurd (omega (arith, short, room told));
        cause = own-cause result (omega (arith, later, all.looked.faults)) own;
      }

-- ---- the model of both

first-damage : (words others : ℕ) (word_bytes other_bytes : List ℕ) (refusal : PartErr) → AnswersStream part.Words words word_bytes (Err refusal) →
    AnswersLoad words others word_bytes other_bytes (Err refusal)
first-damage words others word_bytes other_bytes Device h = tt
first-damage words others word_bytes other_bytes Memory h = h
first-damage words others word_bytes other_bytes (Bad bad) h = inl h

told-unread : (r s : Reads) (refusal : PartErr) → s part.Nonwords ≡ r part.Nonwords → ToldUnread {T = TextCode} r s (Err refusal)
told-unread r s Device same = tt
told-unread r s Memory same = tt
told-unread r s (Bad bad) same = λ _. same

-- Words is refused
pub words-refused : {base : List ℕ} {words others : ℕ} {refusal : PartErr} {f g : Option Files} {r s : Reads} {a b : ℕ} →
    LoadsStream base part.Words words (Err refusal) f g r s a b → LoadsModel base words others (Err refusal) f g r s a b
words-refused {base} {words} {others} {refusal} {f} {g} {r} {s} one =
    let unread = one.looked.others part.Nonwords refl in
    record {
      answer = λ told. first-damage words others (part_bytes base part.Words f) (part_bytes base part.Nonwords f) refusal (one.answer told);
      looked = record { files = one.looked.files; faults = one.looked.faults; later = one.looked.later; others = λ q apart _. one.looked.others q apart };
      words_once = λ told. read-behind StreamCode TextCode part.Words words (part_bytes base part.Words f) r r s refusal refl (one.once told);
      others_once = λ told. read-any {T = TextCode} part.Nonwords others (part_bytes base part.Nonwords f) r s (Err refusal) (omega (arith, unread));
      words_unread = one.unread;
      others_unread = λ told short. unread;
      words_first = λ told. inl unread;
      words_told = λ told. told-unread r s refusal unread;
      cause = cause_err (omega arith) one.cause;
    }

damage-names : {p : Part} {count : ℕ} {bytes : List ℕ} {bad : declared.Bad} → IsDamage p count bytes bad → bad.part ≡ p
damage-names (inl d) = d.told.part_is
damage-names (inr (room, inl (inl d))) = d.told.part_is
damage-names (inr (room, inl (inr d))) = d.told.part_is
damage-names (inr (room, inr (inl d))) = d.told.part_is
damage-names (inr (room, inr (inr d))) = d.told.part_is

words-are-not : part.Words ≡ part.Nonwords → ⊥
words-are-not same = cc

told-others : (others : ℕ) (bytes : List ℕ) (r s : Reads) (refusal : PartErr) → AnswersStream part.Nonwords others bytes (Err refusal) → ToldUnread {T = TextCode} r s (Err refusal)
told-others others bytes r s Device h = tt
told-others others bytes r s Memory h = tt
told-others others bytes r s (Bad bad) h = λ names. absurd (words-are-not (sym names ∙ damage-names h))

module _ {base : List ℕ} {words others : ℕ} {it : StreamCode} {f g h : Option Files} {r s t : Reads} {a b c : ℕ} (one : LoadsStream base part.Words words (Ok it) f g r s a b) where
  -- Nonwords is refused
  pub others-refused : {refusal : PartErr} → LoadsStream base part.Nonwords others (Err refusal) g h s t b c → LoadsModel base words others (Err refusal) f h r t a c
  others-refused {refusal} step =
      let two = subst (λ x. LoadsStream base part.Nonwords others (Err refusal) x h s t b c) one.looked.files step in
      let first = one.looked.others part.Nonwords refl in
      let second = two.looked.others part.Words refl in
      record {
        answer = λ told. second-damage words others (part_bytes base part.Words f) (part_bytes base part.Nonwords f) it refusal (one.answer told) (two.answer told);
        looked = record {
          files = two.looked.files;
          faults = omega (arith, one.looked.faults, two.looked.faults);
          later = λ q. omega (arith, one.looked.later q, two.looked.later q);
          others = λ q x y. two.looked.others q y ∙ one.looked.others q x;
        };
        words_once = λ told. read-any {T = TextCode} part.Words words (part_bytes base part.Words f) r t (Err refusal) (omega (arith, second, one.once told));
        others_once = λ told. read-behind StreamCode TextCode part.Nonwords others (part_bytes base part.Nonwords f) r s t refusal first (two.once told);
        words_unread = λ told short. second ∙ one.unread told short;
        others_unread = λ told short. two.unread told short ∙ first;
        words_first = λ told. inr (it, one.answer told);
        words_told = λ told. told-others others (part_bytes base part.Nonwords f) r t refusal (two.answer told);
        cause = cause_err one.looked.faults two.cause;
      }

  -- both are loaded
  pub both-loaded : {other : StreamCode} → LoadsStream base part.Nonwords others (Ok other) g h s t b c →
      LoadsModel base words others (Ok (record { words = it; others = other })) f h r t a c
  both-loaded {other} step =
      let two = subst (λ x. LoadsStream base part.Nonwords others (Ok other) x h s t b c) one.looked.files step in
      let first = one.looked.others part.Nonwords refl in
      let second = two.looked.others part.Words refl in
      record {
        answer = λ told. (one.answer told, two.answer told);
        looked = record {
          files = two.looked.files;
          faults = omega (arith, one.looked.faults, two.looked.faults);
          later = λ q. omega (arith, one.looked.later q, two.looked.later q);
          others = λ q x y. two.looked.others q y ∙ one.looked.others q x;
        };
        words_once = λ told. omega (arith, second, one.once told);
        others_once = λ told. omega (arith, first, two.once told);
        words_unread = λ told short. second ∙ one.unread told short;
        others_unread = λ told short. two.unread told short ∙ first;
        words_first = λ told. inr (it, one.answer told);
        words_told = λ told. tt;
        cause = record { later = omega (arith, one.looked.faults, two.looked.faults); device = tt };
      }
