-- What finishing the runs does, at its ways out.
use Rattle.std.proofs.Common.{◌≡◌, ◌<◌, ◌≤◌, ◌++◌, ◌∙◌, ℕ, List, [], Ok, Err, IsSome, refl, subst, arith}
use Rattle.std.specs.declared.option.Option.{Option}
use Rattle.std.proofs.lemmas.List.{nil_from_length}
use Rattle.mg_dev.specs.Files.{Files, Reads}
use Rattle.mg_dev.specs.Names.{full_name}
use Rattle.mg_dev.specs.PartCauses.{HasPartCause}
use Rattle.mg_dev.specs.declared.part.Part.TheVariants.{Run}
use Rattle.mg_dev.specs.declared.part_err.PartErr.{PartErr}
use Rattle.mg_dev.proofs.CallerLemmas.{cause_err}
use Rattle.mg_defs.specs.Bits.{Bits, digits, to_byte}
use Rattle.mg_defs.specs.RunBits.{run_part_bits}
use Rattle.mg_defs.specs.Runs.{runs_of}
use Rattle.mg_bits.specs.BitWriting.{bits_put}
use Rattle.mg_bits.specs.Writer.{WroteTo}
use Rattle.mg_bits.proofs.CallerLemmas.{to_more, to_none}
use Rattle.mg_runs.specs.Cursors.{NoDamage}
use Rattle.mg_runs.specs.Damages.{NamesItsPart}
use Rattle.mg_runs.specs.Fed.{ForFed, Inverting, IsFed, cap_of, starts}
use Rattle.mg_runs.specs.Merged.{EndsRun, RunsFinished}
use Rattle.mg_runs.specs.Pooled.{Pooled, used}
use Rattle.mg_runs.specs.declared.round.Round.{Round}
use Rattle.mg_runs.proofs.LastRun.{last_bits, no_entries_used, no_last_bits, some_entries}
use Rattle.mg_runs.proofs.RoundsFirst.{fed_places, fed_places_none}
use Rattle.mg_runs.proofs.Steps.{undamaged_as}

pub no_entries_left : (pool : Pooled) (u : ℕ) → u ≡ used pool → u ≤ 0 → pool.entries ≡ []
no_entries_left pool u e none = nil_from_length pool.entries (no_entries_used pool u e none)

-- a writer went on that writes to this file
pub wrote_more : {name own : List ℕ} {f g h : Option Files} {r s t : Reads} → WroteTo name f g r s → own ≡ name → WroteTo own g h s t → WroteTo name f h r t
wrote_more {name = name} {f = f} {g = g} {h = h} {r = r} {s = s} {t = t} one same two =
    to_more name f g h r s t one (subst (λ n. WroteTo n g h s t) same two)

-- all entries of the pool are in runs that were put, of which the last bits may be missing
pub record AllPut (old now : Inverting) (f g : Option Files) (r s : Reads) (m n : ℕ) : Type 0 where
  pub name : now.writer.name ≡ full_name old.base Run
  pub wrote : WroteTo (full_name old.base Run) f g r s
  pub later : m ≤ n
  pub bits : ForFed old f (λ fed. IsSome f → (bits : Bits) → bits ≡ bits_put now.writer g ++ digits (to_byte now.writer.place) 0 → bits ≡ run_part_bits (cap_of old.pool) fed)
  pub places : ForFed old f (λ fed. now.places ≡ starts 0 (runs_of (cap_of old.pool) fed))
  pub entries : now.pool.entries ≡ []
  pub limit : now.pool.limit ≡ old.pool.limit
  pub peak : now.pool.peak ≡ old.pool.peak
  pub base : now.base ≡ old.base

-- the last run was written
pub put_last : {old now : Inverting} {f g : Option Files} {r s : Reads} {m n u : ℕ} (fed : List (ℕ × ℕ)) → IsFed old f fed → 0 < u → u ≡ used old.pool → now.base ≡ old.base →
    EndsRun {T = Unit {0}} old.pool now.pool old.writer now.writer old.places now.places (Ok tt) f g r s m n → AllPut old now f g r s m n
put_last {old = old} {now = now} {f = f} {g = g} {r = r} {s = s} {u = u} fed is more used base ends =
    let some = some_entries old.pool u used is.slots more in
    record {
      name = ends.spilled.name ∙ is.name;
      wrote = subst (λ n. WroteTo n f g r s) is.name ends.spilled.wrote;
      later = ends.spilled.cause.later;
      bits = λ fed was told bits e. last_bits old f g fed now.writer bits was some told ends.spilled.bits ends.spilled.whole e;
      places = λ fed was. ends.places ∙ fed_places old f fed was some;
      entries = ends.spilled.empty;
      limit = ends.spilled.limit;
      peak = ends.spilled.peak;
      base = base;
    }

-- there was none to write
pub put_none : {old : Inverting} {f : Option Files} {r : Reads} {m u : ℕ} (fed : List (ℕ × ℕ)) → IsFed old f fed → u ≤ 0 → u ≡ used old.pool → AllPut old old f f r r m m
put_none {old = old} {f = f} {r = r} {u = u} fed is less used =
    let none = no_entries_used old.pool u used less in
    record {
      name = is.name;
      wrote = to_none _ f r;
      later = omega arith;
      bits = λ fed was told bits e. no_last_bits old f fed bits was none told e;
      places = λ fed was. fed_places_none old f fed was none;
      entries = no_entries_left old.pool u used less;
      limit = refl;
      peak = refl;
      base = refl;
    }

pub finish_err : {old : Inverting} {f g : Option Files} {r s : Reads} {m n : ℕ} (e : PartErr) → WroteTo (full_name old.base Run) f g r s →
    HasPartCause {T = ℕ} m n (Err e) → NoDamage {T = ℕ} (Err e) → NamesItsPart e → RunsFinished old (Err e) f g r s m n
finish_err e wrote cause undamaged names = record {
  run = λ told fed is. tt;
  bytes = λ told. tt;
  places = λ fed is. tt;
  undamaged = undamaged_as ℕ Round e undamaged;
  entries = tt;
  limit = tt;
  peak = tt;
  base = tt;
  part = tt;
  wrote = wrote;
  cause = cause_err {T = ℕ} {U = Round} (omega arith) cause;
  names = names;
}
