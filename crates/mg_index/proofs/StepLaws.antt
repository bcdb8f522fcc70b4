-- Steps that take postings from a merge: one behind another, and what is a step.
use Rattle.std.proofs.Common.{arith, ◌≡◌, ◌≢◌, ◌≤◌, ◌∙◌, ℕ, List, ap, subst, Ok, Err, is_some}
use Rattle.std.specs.declared.option.Option.{Option}
use Rattle.std.specs.declared.result.Result.{Result}
use Rattle.mg_dev.specs.Causes.{HasPutCause}
use Rattle.mg_dev.specs.Files.{Files, Reads, SameReads, file_at}
use Rattle.mg_dev.specs.Names.{full_name}
use Rattle.mg_dev.specs.declared.device.PutErr.{PutErr}
use Rattle.mg_dev.specs.declared.device.PutErr.TheVariants as put
use Rattle.mg_dev.specs.declared.part.Part.{Part as AnyPart}
use Rattle.mg_dev.specs.declared.part.Part.TheVariants.{Lex, LexAt, Post, Skip}
use Rattle.mg_runs.specs.Left.{Merging}
use Rattle.mg_index.specs.Listing.{OfPostings}
use Rattle.mg_index.specs.Steps.{MergeLook, MergeStep, PutStep}
use Rattle.mg_index.specs.Written.{OfLists, WroteParts}
use Rattle.mg_index.proofs.Causes.{rose_behind}
use Rattle.mg_index.proofs.ListFrames.{same_more, same_none, wrote_lex, wrote_lists, wrote_more, wrote_none, wrote_wider}

-- ---- what is a step

-- nothing was done
pub step_none : {parts : AnyPart → Type 0} {base : List ℕ} {merge : Merging} {f g : Option Files} {q r : Reads} {m n : ℕ} →
    g ≡ f → SameReads q r → m ≤ n → MergeStep parts base merge merge f g q r m n
step_none {parts} {base} {merge} {f} {g} same reads later = record {
  same = same_none merge;
  wrote = wrote_none parts base f g same;
  reads = λ p run first second. reads p;
  later = later;
}

-- a posting was taken, and nothing was written
pub step_look : {parts : AnyPart → Type 0} {base : List ℕ} {a b : Merging} {f g : Option Files} {q r : Reads} {m n : ℕ} →
    MergeLook a b f g q r m n → MergeStep parts base a b f g q r m n
step_look {parts} {base} {f = f} {g = g} look = record {
  same = look.same;
  wrote = wrote_none parts base f g look.files;
  reads = look.reads;
  later = look.later;
}

-- parts were written, and no posting was taken
pub step_put : {T : Type 0} {parts : AnyPart → Type 0} {base : List ℕ} {merge : Merging} {result : Result T PutErr} {f g : Option Files} {q r : Reads} {m n : ℕ} →
    PutStep parts base result f g q r m n → MergeStep parts base merge merge f g q r m n
step_put {merge = merge} put = record {
  same = same_none merge;
  wrote = put.wrote;
  reads = λ p run first second. put.reads p;
  later = put.cause.later;
}

-- the writer of lists wrote
pub step_lists : {base post skip : List ℕ} {merge : Merging} {f g : Option Files} {q r : Reads} {m n : ℕ} → post ≡ full_name base Post → skip ≡ full_name base Skip →
    is_some g ≡ is_some f → ((name : List ℕ) → name ≢ post → name ≢ skip → file_at g name ≡ file_at f name) → SameReads q r → m ≤ n →
    MergeStep OfPostings base merge merge f g q r m n
step_lists {base} {post} {skip} {merge} {f} {g} post_is skip_is told others reads later = record {
  same = same_none merge;
  wrote = wrote_lists base post skip f g post_is skip_is told others;
  reads = λ p run first second. reads p;
  later = later;
}

-- the writer of the lexicon wrote
pub step_lex : {base own : List ℕ} {merge : Merging} {f g : Option Files} {q r : Reads} {m n : ℕ} → own ≡ base → is_some g ≡ is_some f →
    ((name : List ℕ) → name ≢ full_name own Lex → name ≢ full_name own LexAt → file_at g name ≡ file_at f name) → SameReads q r → m ≤ n →
    MergeStep OfLists base merge merge f g q r m n
step_lex {base} {own} {merge} {f} {g} own_is told others reads later = record {
  same = same_none merge;
  wrote = subst (λ b. WroteParts OfLists b f g) own_is (wrote_lex own f g told others);
  reads = λ p run first second. reads p;
  later = later;
}

-- ---- one behind another

pub step_for : {parts : AnyPart → Type 0} {base own : List ℕ} {a b : Merging} {f g : Option Files} {q r : Reads} {m n : ℕ} →
    own ≡ base → MergeStep parts own a b f g q r m n → MergeStep parts base a b f g q r m n
step_for {parts} {f = f} {g = g} own_is step = record {
  same = step.same;
  wrote = subst (λ b. WroteParts parts b f g) own_is step.wrote;
  reads = step.reads;
  later = step.later;
}

pub step_more : {parts : AnyPart → Type 0} {base : List ℕ} {a b c : Merging} {f g h : Option Files} {q r s : Reads} {l m n : ℕ} →
    MergeStep parts base a b f g q r l m → MergeStep parts base b c g h r s m n → MergeStep parts base a c f h q s l n
step_more {parts} {base} {a} {b} {c} {f} {g} {h} one two = record {
  same = same_more a b c one.same two.same;
  wrote = wrote_more parts base f g h one.wrote two.wrote;
  reads = λ p run first second. two.reads p run first second ∙ one.reads p run first second;
  later = omega (arith, one.later, two.later);
}

-- the second one by the base of the merge as the first one left it
pub step_then : {parts : AnyPart → Type 0} {a b c : Merging} {f g h : Option Files} {q r s : Reads} {l m n : ℕ} →
    MergeStep parts a.base a b f g q r l m → MergeStep parts b.base b c g h r s m n → MergeStep parts a.base a c f h q s l n
step_then one two = step_more one (step_for one.same.base two)

-- behind a call that leaves the store as it was
pub step_begun : {X : Type 0} {parts : AnyPart → Type 0} {base : List ℕ} {a b : Merging} {s t : X} {g : Option Files} {r : Reads} {n : ℕ}
    (files : X → Option Files) (reads : X → Reads) (faults : X → ℕ) → t ≡ s →
    MergeStep parts base a b (files t) g (reads t) r (faults t) n → MergeStep parts base a b (files s) g (reads s) r (faults s) n
step_begun {parts = parts} {base = base} {a = a} {b = b} {g = g} {r = r} {n = n} files reads faults same step =
    subst (λ x. MergeStep parts base a b (files x) g (reads x) r (faults x) n) same step

-- lists are among what is written of them and of the lexicon
pub step_wider : {parts more : AnyPart → Type 0} {base : List ℕ} {a b : Merging} {f g : Option Files} {q r : Reads} {m n : ℕ} →
    ((p : AnyPart) → parts p → more p) → MergeStep parts base a b f g q r m n → MergeStep more base a b f g q r m n
step_wider wider step = record {
  same = step.same;
  wrote = record { told = step.wrote.told; others = λ name apart. step.wrote.others name (λ p of. apart p (wider p of)) };
  reads = step.reads;
  later = step.later;
}

-- ---- what is refused by a store or a want of memory

pub put_cause : {T U : Type 0} {e : PutErr} {m n : ℕ} → HasPutCause {T = T} m n (Err e) → HasPutCause {T = U} m n (Err e)
put_cause {e = e} cause = record { later = cause.later; failed = λ is. let same : e ≡ put.Failed = cc in cause.failed (ap Err same) }

-- the same behind another call
pub cause_then : {T U : Type 0} {e : PutErr} {l m n : ℕ} → l ≤ m → HasPutCause {T = T} m n (Err e) → HasPutCause {T = U} l n (Err e)
cause_then {e = e} {l = l} {m = m} {n = n} less cause = record {
  later = omega (arith, less, cause.later);
  failed = λ is. let same : e ≡ put.Failed = cc in rose_behind l m n less (cause.failed (ap Err same));
}

-- and where nothing is refused
pub cause_done : {T : Type 0} {x : T} {m n : ℕ} → m ≤ n → HasPutCause m n (Ok x)
cause_done less = record { later = less; failed = λ is. absurd cc }

-- a refusal that is passed on
pub put_err : {T U : Type 0} {parts : AnyPart → Type 0} {base : List ℕ} {e : PutErr} {f g : Option Files} {q r : Reads} {m n : ℕ} →
    PutStep {T = T} parts base (Err e) f g q r m n → PutStep {T = U} parts base (Err e) f g q r m n
put_err put = record { wrote = put.wrote; reads = put.reads; cause = put_cause put.cause }

-- an answer that is made of another
pub put_ok : {T U : Type 0} {parts : AnyPart → Type 0} {base : List ℕ} {x : T} {y : U} {f g : Option Files} {q r : Reads} {m n : ℕ} →
    PutStep parts base (Ok x) f g q r m n → PutStep parts base (Ok y) f g q r m n
put_ok put = record { wrote = put.wrote; reads = put.reads; cause = cause_done put.cause.later }

pub put_more : {T U : Type 0} {parts : AnyPart → Type 0} {base : List ℕ} {x : T} {result : Result U PutErr} {f g h : Option Files} {q r s : Reads} {l m n : ℕ} →
    PutStep parts base (Ok x) f g q r l m → PutStep parts base result g h r s m n → PutStep parts base result f h q s l n
put_more {parts = parts} {base = base} {f = f} {g = g} {h = h} {l = l} {m = m} {n = n} one two = record {
  wrote = wrote_more parts base f g h one.wrote two.wrote;
  reads = λ p. two.reads p ∙ one.reads p;
  cause = record {
    later = omega (arith, one.cause.later, two.cause.later);
    failed = λ is. rose_behind l m n one.cause.later (two.cause.failed is);
  };
}

pub put_wider : {T : Type 0} {parts more : AnyPart → Type 0} {base : List ℕ} {result : Result T PutErr} {f g : Option Files} {q r : Reads} {m n : ℕ} →
    ((p : AnyPart) → parts p → more p) → PutStep parts base result f g q r m n → PutStep more base result f g q r m n
put_wider wider put = record {
  wrote = record { told = put.wrote.told; others = λ name apart. put.wrote.others name (λ p of. apart p (wider p of)) };
  reads = put.reads;
  cause = put.cause;
}

pub put_lists : {T : Type 0} {base post skip : List ℕ} {result : Result T PutErr} {f g : Option Files} {q r : Reads} {m n : ℕ} →
    post ≡ full_name base Post → skip ≡ full_name base Skip → is_some g ≡ is_some f →
    ((name : List ℕ) → name ≢ post → name ≢ skip → file_at g name ≡ file_at f name) → SameReads q r → HasPutCause m n result →
    PutStep OfLists base result f g q r m n
put_lists {base = base} {post} {skip} {f = f} {g = g} post_is skip_is told others reads cause = record {
  wrote = wrote_wider base f g (wrote_lists base post skip f g post_is skip_is told others);
  reads = reads;
  cause = cause;
}

pub put_lex : {T : Type 0} {base : List ℕ} {result : Result T PutErr} {f g : Option Files} {q r : Reads} {m n : ℕ} → is_some g ≡ is_some f →
    ((name : List ℕ) → name ≢ full_name base Lex → name ≢ full_name base LexAt → file_at g name ≡ file_at f name) → SameReads q r → HasPutCause m n result →
    PutStep OfLists base result f g q r m n
put_lex {base = base} {f = f} {g = g} told others reads cause = record {
  wrote = wrote_lex base f g told others;
  reads = reads;
  cause = cause;
}
