-- One reading call after another, and what reading an entry tells at each way out.
use Rattle.std.proofs.Common.{arith, ◌≡◌, ◌+◌, ◌%◌, ◌==◌, ◌≤◌, ℕ, List, drop, Some, None, Ok, Err, Result, IsSome, refl, ◌∙◌, ap, subst, cond}
use Rattle.std.specs.declared.option.Option.{Option}
use Rattle.std.proofs.lemmas.Grind.{common_steps}
use Rattle.mg_dev.specs.declared.device.Failed.{Failed}
use Rattle.mg_dev.specs.Causes.{HasCause}
use Rattle.mg_dev.specs.Files.{Files, Reads, bytes_at}
use Rattle.mg_bits.specs.Pages.{Fits, Looked, Paging, SameFile}
use Rattle.mg_bits.proofs.CallerLemmas.{looked_then}
use Rattle.mg_defs.specs.Front.{Found, read_cut, read_entry, read_whole}
use Rattle.mg_front.specs.declared.entry.EntryAt.{EntryAt}
use Rattle.mg_front.specs.declared.entry.FrontEntry.{FrontEntry}
use Rattle.mg_front.specs.Entries.{FoundFrom, ReadsEntry, found_of}
use Rattle.mg_front.specs.Looks.{ReadOn, ReadsPiece, ReadsUpTo}
use Rattle.mg_front.proofs.ReadPages.{on_after, on_same, on_to, to_more, to_wider}

-- ---- causes

cause_later : {T : Type 0} {a b c : ℕ} (result : Result T Failed) → a ≤ b → HasCause b c result → HasCause a c result
cause_later (Ok value) before cause = record { later = omega (arith, before, cause.later); failed = tt }
cause_later (Err failed) before cause = record { later = omega (arith, before, cause.later); failed = omega (arith, before, cause.failed) }

-- ---- steps

pub reads_wider : {T : Type 0} {result : Result T Failed} {a b : Paging} {p q u : ℕ} {f g : Option Files} {r s : Reads} {x y : ℕ} → q ≤ u →
    ReadsUpTo a b p q result f g r s x y → ReadsUpTo a b p u result f g r s x y
reads_wider wider one = record { fits = one.fits; file = one.file; looked = one.looked; read_to = to_wider wider one.read_to; cause = one.cause }

-- what was read is answered
pub reads_ended : {T U : Type 0} {result : Result T Failed} {a b : Paging} {p q : ℕ} {f g : Option Files} {r s : Reads} {x y : ℕ} (value : U) →
    ReadsUpTo a b p q result f g r s x y → ReadsUpTo a b p q (Ok value) f g r s x y
reads_ended value one = record { fits = one.fits; file = one.file; looked = one.looked; read_to = one.read_to; cause = record { later = one.cause.later; failed = tt } }

-- a refusal goes up
pub reads_failed : {T U : Type 0} {failed : Failed} {a b : Paging} {p q : ℕ} {f g : Option Files} {r s : Reads} {x y : ℕ} →
    ReadsUpTo {T = T} a b p q (Err failed) f g r s x y → ReadsUpTo {T = U} a b p q (Err failed) f g r s x y
reads_failed one = record {
  fits = one.fits;
  file = one.file;
  looked = one.looked;
  read_to = one.read_to;
  cause = record { later = one.cause.later; failed = one.cause.failed };
}

-- a call that reads on where the one before it has ended
pub reads_then : {T U : Type 0} {first : Result T Failed} {result : Result U Failed} {a b c : Paging} {p q q_most u : ℕ} {f g h : Option Files} {r s t : Reads} {x y z : ℕ} →
    ReadsUpTo a b p q_most first f g r s x y → ReadOn a b r s p q → ReadsUpTo b c q u result g h s t y z → ReadsUpTo a c p u result f h r t x z
reads_then {result = result} one on two = record {
  fits = two.fits;
  file = record { name = two.file.name ∙ one.file.name; part = two.file.part ∙ one.file.part };
  looked = looked_then one.file.part one.looked two.looked;
  read_to = to_more one.file.part on two.read_to;
  cause = cause_later result one.cause.later two.cause;
}

-- ---- pieces that are answered

module _ {T U : Type 0} {a b : Paging} {p q u : ℕ} {tells : List ℕ → T → Type 0} {all : T → Type 0 → Type 0} {f g : Option Files} {r s : Reads} {x y : ℕ} (within : q ≤ u) where
  -- the device failed
  pub piece_failed : {failed : Failed} → ReadsUpTo {T = U} a b p q (Err failed) f g r s x y → ReadsPiece a b p u (Err failed) tells all f g r s x y
  piece_failed one = record { read = reads_wider within (reads_failed one); told = λ told. tt; read_on = tt }

  -- what was read is answered
  pub piece_read : {result : Result U Failed} (answer : T) → ReadsUpTo a b p q result f g r s x y → (IsSome f → tells (bytes_at f a.name) answer) → all answer (ReadOn a b r s p u) →
      ReadsPiece a b p u (Ok answer) tells all f g r s x y
  piece_read answer one told on = record { read = reads_wider within (reads_ended answer one); told = told; read_on = on }

-- calls that read on from a place, as far as they have come
pub record ReadsOn (old new : Paging) (from to : ℕ) (files_before files_now : Option Files) (reads_before reads_now : Reads) (faults_before faults_now : ℕ) : Type 0 where
  pub fits : Fits new files_now
  pub file : SameFile old new
  pub looked : Looked old.part files_before files_now reads_before reads_now faults_before faults_now
  pub read_on : ReadOn old new reads_before reads_now from to

pub on_start : {a : Paging} {p : ℕ} {f : Option Files} {r : Reads} {x : ℕ} → Fits a f → ReadsOn a a p p f f r r x x
on_start {a} {p} {f} {r} fits = record {
  fits = fits;
  file = record { name = refl; part = refl };
  looked = record { files = refl; faults = omega arith; later = λ q. omega arith; others = λ q apart. refl };
  read_on = on_same a r p;
}

-- one entry more
pub on_entry : {a b c : Paging} {p q : ℕ} {at : EntryAt} {meaning : List ℕ → Option Found} {out : FrontEntry} {f g h : Option Files} {r s t : Reads} {x y z : ℕ} (size : ℕ) → at.place ≡ q →
    ReadsOn a b p q f g r s x y → ReadsEntry b c at meaning out (Ok (Some size)) g h s t y z → ReadsOn a c p (q + size) f h r t x z
on_entry {b = b} {c} {s = s} {t} size same so_far one = record {
  fits = one.read.fits;
  file = record { name = one.read.file.name ∙ so_far.file.name; part = one.read.file.part ∙ so_far.file.part };
  looked = looked_then so_far.file.part so_far.looked one.read.looked;
  read_on = on_after refl so_far.file.part so_far.read_on (subst (λ n. ReadOn b c s t n (n + size)) same one.passed.read_on);
}

-- a call that ends them
pub on_stop : {U : Type 0} {result : Result U Failed} {a b c : Paging} {p q u : ℕ} {f g h : Option Files} {r s t : Reads} {x y z : ℕ} → ReadsOn a b p q f g r s x y →
    ReadsUpTo b c q u result g h s t y z → ReadsUpTo a c p u result f h r t x z
on_stop {result = result} so_far one = record {
  fits = one.fits;
  file = record { name = one.file.name ∙ so_far.file.name; part = one.file.part ∙ so_far.file.part };
  looked = looked_then so_far.file.part so_far.looked one.looked;
  read_to = to_more so_far.file.part so_far.read_on one.read_to;
  cause = cause_later result so_far.looked.faults one.cause;
}

-- what they read is answered
pub on_done : {U : Type 0} {a b : Paging} {p q u : ℕ} {f g : Option Files} {r s : Reads} {x y : ℕ} (value : U) → q ≤ u → ReadsOn a b p q f g r s x y → ReadsUpTo a b p u (Ok value) f g r s x y
on_done value within so_far = record {
  fits = so_far.fits;
  file = so_far.file;
  looked = so_far.looked;
  read_to = on_to within so_far.read_on;
  cause = record { later = so_far.looked.faults; failed = tt };
}

-- ---- the ways out of reading an entry

pub entry_failed : {T : Type 0} {failed : Failed} {a b : Paging} {at : EntryAt} {meaning : List ℕ → Option Found} {out : FrontEntry} {q : ℕ} {f g : Option Files} {r s : Reads} {x y : ℕ} →
    q ≤ at.place + 281 → ReadsUpTo {T = T} a b at.place q (Err failed) f g r s x y → ReadsEntry a b at meaning out (Err failed) f g r s x y
entry_failed within one = record { read = reads_wider within (reads_failed one); told = λ told. tt; passed = tt }

pub entry_none : {T : Type 0} {result : Result T Failed} {a b : Paging} {at : EntryAt} {meaning : List ℕ → Option Found} {out : FrontEntry} {q : ℕ} {f g : Option Files} {r s : Reads} {x y : ℕ} →
    q ≤ at.place + 281 → ReadsUpTo a b at.place q result f g r s x y → (IsSome f → meaning (drop at.place (bytes_at f a.name)) ≡ None) →
    ReadsEntry a b at meaning out (Ok None) f g r s x y
entry_none within one none = record { read = reads_wider within (reads_ended None one); told = none; passed = tt }

pub entry_some : {T : Type 0} {result : Result T Failed} {a b : Paging} {at : EntryAt} {meaning : List ℕ → Option Found} {out : FrontEntry} {q : ℕ} {f g : Option Files} {r s : Reads} {x y : ℕ} →
    (size : ℕ) → size ≤ 281 → q ≡ at.place + size → ReadsUpTo a b at.place q result f g r s x y → ReadOn a b r s at.place q →
    (IsSome f → meaning (drop at.place (bytes_at f a.name)) ≡ found_of at.width out (Some size)) → ReadsEntry a b at meaning out (Ok (Some size)) f g r s x y
entry_some {a = a} {b} {at} {r = r} {s} size small end one on some = record {
  read = reads_wider (omega arith) (reads_ended (Some size) one);
  told = some;
  passed = record { most = small; read_on = rw (← end) on };
}

-- the same bytes, by another word for what they mean
pub entry_as : {a b : Paging} {at : EntryAt} {meaning : List ℕ → Option Found} (other : List ℕ → Option Found) →
    {out : FrontEntry} {result : Result (Option ℕ) Failed} {f g : Option Files} {r s : Reads} {x y : ℕ} →
    ((bytes : List ℕ) → other bytes ≡ meaning bytes) → ReadsEntry a b at meaning out result f g r s x y → ReadsEntry a b at other out result f g r s x y
entry_as {a} {b} {at} {meaning} other {out} {result} {f} same one = record { read = one.read; told = told_as result one.told; passed = one.passed }
  where
    told_as : (result : Result (Option ℕ) Failed) → FoundFrom a f at.place meaning result (found_of at.width out) → FoundFrom a f at.place other result (found_of at.width out)
    told_as (Ok size) found told = same _ ∙ found told
    told_as (Err failed) found told = tt

pub whole_meant : (width number : ℕ) (before bytes : List ℕ) → number % 4 ≡ 0 → read_entry width number before bytes ≡ read_whole width number before bytes
unfolding read_entry
whole_meant width number before bytes is = ap (λ n. cond (n == 0) (read_whole width number before bytes) (read_cut width before bytes)) is

pub cut_meant : (width number : ℕ) (before bytes : List ℕ) → (number % 4 ≡ 0 → ⊥) → read_entry width number before bytes ≡ read_cut width before bytes
unfolding read_entry
cut_meant width number before bytes other = grind (arith, common_steps)
