-- Steps: what is one, one behind another, and one with another answer.
use Rattle.std.proofs.Common.{◌≡◌, ◌≤◌, ◌∙◌, ℕ, List, [], Ok, Err, refl, sym, ap, subst, arith, get_or, set}
use Rattle.std.proofs.lemmas.List.{set-get_or, set-set}
use Rattle.std.specs.Prelude.{IfOk}
use Rattle.std.specs.declared.option.Option.{Option}
use Rattle.std.specs.declared.result.Result.{Result}
use Rattle.mg_dev.specs.Files.{Files, Reads}
use Rattle.mg_dev.specs.PartCauses.{HasPartCause, IsCaused}
use Rattle.mg_dev.specs.declared.file_ref.FileRef.{FileRef}
use Rattle.mg_dev.specs.declared.part.Part.{Part}
use Rattle.mg_dev.specs.declared.part_err.PartErr.{PartErr}
use Rattle.mg_dev.specs.declared.part_err.PartErr.TheVariants.{Device, Memory, Bad}
use Rattle.mg_dev.proofs.CallerLemmas.{cause_err, cause_ok, cause_then}
use Rattle.mg_bits.specs.BitWriting.{BitWriting, Holds}
use Rattle.mg_bits.specs.Pages.{Looked}
use Rattle.mg_bits.specs.Writer.{WroteTo}
use Rattle.mg_runs.specs.Cursors.{NoMemory}
use Rattle.mg_runs.specs.Damages.{NamesPart, TellsBit, TellsBitOf}
use Rattle.mg_runs.specs.Pooled.{Pooled, SamePool}
use Rattle.mg_runs.specs.Reading.{GroupShaped}
use Rattle.mg_runs.specs.Steps.{GroupLook, GroupStep, GroupWrite, HasSlots, LookStep, PassStep, PoolBack, RefusesAt, RunStep, SlotStep, WriterStep}
use Rattle.mg_runs.specs.declared.group.Group.{Group}
use Rattle.mg_runs.proofs.Joins.{passed_looked, passed_more, passed_none, passed_wrote}
use Rattle.mg_runs.proofs.Steps.{looked_more, looked_none, memory_as, pool_more}

-- ---- causes

caused_as : (T U : Type 0) (f g : ℕ) (e : PartErr) → IsCaused {T = T} f g (Err e) → IsCaused {T = U} f g (Err e)
caused_as T U f g Device rose = rose
caused_as T U f g Memory rose = tt
caused_as T U f g (Bad bad) rose = tt

-- a refusal with no cause in the store
cause_bad : {U : Type 0} (e : PartErr) {m n : ℕ} → m ≤ n → ((f g : ℕ) → IsCaused {T = ℕ} f g (Err e)) → HasPartCause {T = U} m n (Err e)
cause_bad {U} e {m} {n} le caused = record { later = le; device = caused_as ℕ U m n e (caused m n) }

-- ---- looks

pub look_none : {T : Type 0} {x : T} {part : Part} (f : Option Files) (r : Reads) (n : ℕ) → LookStep part (Ok x) f f r r n n
look_none {part = part} f r n = record { looked = looked_none part f r n; cause = cause_ok (omega arith); names = tt }

pub look_ok : {T U : Type 0} {x : T} {y : U} {part : Part} {f g : Option Files} {r s : Reads} {m n : ℕ} →
    LookStep part (Ok x) f g r s m n → LookStep part (Ok y) f g r s m n
look_ok look = record { looked = look.looked; cause = cause_ok look.cause.later; names = tt }

pub look_err : {T U : Type 0} {e : PartErr} {part : Part} {f g : Option Files} {r s : Reads} {m n : ℕ} →
    LookStep {T = T} part (Err e) f g r s m n → LookStep {T = U} part (Err e) f g r s m n
look_err {T} {U} look = record { looked = look.looked; cause = cause_err {T = T} {U = U} (omega arith) look.cause; names = look.names }

-- a refusal after what was done
pub look_bad : {T U : Type 0} {x : T} (e : PartErr) {part : Part} {f g : Option Files} {r s : Reads} {m n : ℕ} →
    LookStep part (Ok x) f g r s m n → ((f g : ℕ) → IsCaused {T = ℕ} f g (Err e)) → NamesPart part e → LookStep {T = U} part (Err e) f g r s m n
look_bad {U = U} e look caused names = record { looked = look.looked; cause = cause_bad {U = U} e look.cause.later caused; names = names }

pub look_then : {T U : Type 0} {x : T} {result : Result U PartErr} {part : Part} {f g h : Option Files} {r s t : Reads} {l m n : ℕ} →
    LookStep part (Ok x) f g r s l m → LookStep part result g h s t m n → LookStep part result f h r t l n
look_then {result = result} one two = record {
  looked = looked_more one.looked two.looked;
  cause = cause_then result one.cause.later two.cause;
  names = two.names;
}

-- what was read, and done
pub look_of : {T : Type 0} {x : T} {part : Part} {f g : Option Files} {r s : Reads} {m n : ℕ} → Looked part f g r s m n → LookStep part (Ok x) f g r s m n
look_of looked = record { looked = looked; cause = cause_ok looked.faults; names = tt }

-- ---- bits in memory

pub refuses_ok : {T : Type 0} {x : T} {part : Part} {at : ℕ} → RefusesAt part at (Ok x)
refuses_ok = record { caused = λ f g. tt; memory = tt; names = tt; bit = tt }

pub refuses_bad : {U : Type 0} (e : PartErr) {part : Part} {at : ℕ} → ((f g : ℕ) → IsCaused {T = ℕ} f g (Err e)) → NoMemory {T = ℕ} (Err e) → NamesPart part e → TellsBit at e →
    RefusesAt {T = U} part at (Err e)
refuses_bad {U} e caused memory names bit = record {
  caused = λ f g. caused_as ℕ U f g e (caused f g);
  memory = memory_as ℕ U e memory;
  names = names;
  bit = bit;
}

-- ---- slots

pub slot_none : {T : Type 0} {x : T} {part : Part} (slot : ℕ) (a : Pooled) (f : Option Files) (r : Reads) (n : ℕ) → SlotStep slot part a a (Ok x) f f r r n n
slot_none slot a f r n = record {
  slots = sym (set-get_or a.slots slot []);
  pool = record { entries = λ e. e; peak = refl; limit = refl };
  memory = tt;
  look = look_none f r n;
}

pub slot_ok : {T U : Type 0} {x : T} {y : U} {slot : ℕ} {part : Part} {a b : Pooled} {f g : Option Files} {r s : Reads} {m n : ℕ} →
    SlotStep slot part a b (Ok x) f g r s m n → SlotStep slot part a b (Ok y) f g r s m n
slot_ok step = record { slots = step.slots; pool = step.pool; memory = tt; look = look_ok step.look }

pub slot_err : {T U : Type 0} {e : PartErr} {slot : ℕ} {part : Part} {a b : Pooled} {f g : Option Files} {r s : Reads} {m n : ℕ} →
    SlotStep {T = T} slot part a b (Err e) f g r s m n → SlotStep {T = U} slot part a b (Err e) f g r s m n
slot_err {T} {U} {e} step = record { slots = step.slots; pool = step.pool; memory = memory_as T U e step.memory; look = look_err {T = T} {U = U} step.look }

pub slot_then : {T U : Type 0} {x : T} {result : Result U PartErr} {slot : ℕ} {part : Part} {a b c : Pooled} {f g h : Option Files} {r s t : Reads} {l m n : ℕ} →
    SlotStep slot part a b (Ok x) f g r s l m → SlotStep slot part b c result g h s t m n → SlotStep slot part a c result f h r t l n
slot_then {slot = slot} {a = a} {c = c} one two = record {
  slots = two.slots ∙ ap (λ (s : List (List ℕ)). set s slot (get_or c.slots slot [])) one.slots ∙ set-set a.slots slot _ _;
  pool = pool_more one.pool two.pool;
  memory = two.memory;
  look = look_then one.look two.look;
}

-- a slot was filled, and its bytes were read
pub slot_refuses : {T U : Type 0} {x : T} {result : Result U PartErr} {slot at : ℕ} {part : Part} {a b : Pooled} {f g : Option Files} {r s : Reads} {m n : ℕ} →
    SlotStep slot part a b (Ok x) f g r s m n → RefusesAt part at result → SlotStep slot part a b result f g r s m n
slot_refuses step read = record {
  slots = step.slots;
  pool = step.pool;
  memory = read.memory;
  look = record { looked = step.look.looked; cause = record { later = step.look.cause.later; device = read.caused _ _ }; names = read.names };
}

-- ---- looks at a group

pub group_none : {T : Type 0} {x : T} (a : Group) (f : Option Files) (r : Reads) (n : ℕ) → GroupLook a a (Ok x) f f r r n n
group_none a f r n = record { pool = record { entries = λ e. e; peak = refl; limit = refl }; file = refl; look = look_none f r n }

pub group_ok : {T U : Type 0} {x : T} {y : U} {a b : Group} {f g : Option Files} {r s : Reads} {m n : ℕ} →
    GroupLook a b (Ok x) f g r s m n → GroupLook a b (Ok y) f g r s m n
group_ok read = record { pool = read.pool; file = read.file; look = look_ok read.look }

pub group_err : {T U : Type 0} {e : PartErr} {a b : Group} {f g : Option Files} {r s : Reads} {m n : ℕ} →
    GroupLook {T = T} a b (Err e) f g r s m n → GroupLook {T = U} a b (Err e) f g r s m n
group_err {T} {U} read = record { pool = read.pool; file = read.file; look = look_err {T = T} {U = U} read.look }

pub group_bad : {T U : Type 0} {x : T} (e : PartErr) {a b : Group} {f g : Option Files} {r s : Reads} {m n : ℕ} →
    GroupLook a b (Ok x) f g r s m n → ((f g : ℕ) → IsCaused {T = ℕ} f g (Err e)) → NamesPart b.file.part e → GroupLook {T = U} a b (Err e) f g r s m n
group_bad {U = U} e read caused names = record {
  pool = read.pool;
  file = read.file;
  look = look_bad {U = U} e read.look caused (subst (λ d. NamesPart d.part e) read.file names);
}

pub group_then : {T U : Type 0} {x : T} {result : Result U PartErr} {a b c : Group} {f g h : Option Files} {r s t : Reads} {l m n : ℕ} →
    GroupLook a b (Ok x) f g r s l m → GroupLook b c result g h s t m n → GroupLook a c result f h r t l n
group_then {result = result} {f = f} {g = g} {h = h} {r = r} {s = s} {t = t} {l = l} {m = m} {n = n} one two = record {
  pool = pool_more one.pool two.pool;
  file = two.file ∙ one.file;
  look = look_then one.look (subst (λ d. LookStep d.part result g h s t m n) one.file two.look);
}

-- what a look at a group read, by the file of the group
pub look_group : {T : Type 0} {result : Result T PartErr} {a b : Group} {d : FileRef} {f g : Option Files} {r s : Reads} {m n : ℕ} →
    a.file ≡ d → GroupLook a b result f g r s m n → LookStep d.part result f g r s m n
look_group {result = result} {f = f} {g = g} {r = r} {s = s} {m = m} {n = n} same read =
    subst (λ k. LookStep k.part result f g r s m n) same read.look

-- ---- steps of a group

pub step_none : {T : Type 0} {x : T} (a : Group) (f : Option Files) (r : Reads) (n : ℕ) → GroupShaped a → GroupStep a a (Ok x) f f r r n n
step_none a f r n shape = record { shape = shape; rest = omega arith; memory = tt; bit = tt; read = group_none a f r n }

pub step_ok : {T U : Type 0} {x : T} {y : U} {a b : Group} {f g : Option Files} {r s : Reads} {m n : ℕ} →
    GroupStep a b (Ok x) f g r s m n → GroupStep a b (Ok y) f g r s m n
step_ok step = record { shape = step.shape; rest = step.rest; memory = tt; bit = tt; read = group_ok step.read }

pub step_err : {T U : Type 0} {e : PartErr} {a b : Group} {f g : Option Files} {r s : Reads} {m n : ℕ} →
    GroupStep {T = T} a b (Err e) f g r s m n → GroupStep {T = U} a b (Err e) f g r s m n
step_err {T} {U} {e} step = record { shape = tt; rest = step.rest; memory = memory_as T U e step.memory; bit = step.bit; read = group_err {T = T} {U = U} step.read }

pub step_then : {T U : Type 0} {x : T} {result : Result U PartErr} {a b c : Group} {f g h : Option Files} {r s t : Reads} {l m n : ℕ} →
    GroupStep a b (Ok x) f g r s l m → GroupStep b c result g h s t m n → GroupStep a c result f h r t l n
step_then one two = record {
  shape = two.shape;
  rest = omega (arith, one.rest, two.rest);
  memory = two.memory;
  bit = two.bit;
  read = group_then one.read two.read;
}

-- a damage that is told at 0
pub step_bad : {T U : Type 0} {x : T} (e : PartErr) {a b : Group} {f g : Option Files} {r s : Reads} {m n : ℕ} →
    GroupStep a b (Ok x) f g r s m n → ((f g : ℕ) → IsCaused {T = ℕ} f g (Err e)) → NoMemory {T = ℕ} (Err e) → NamesPart b.file.part e →
    TellsBitOf b.cursors.items e → GroupStep {T = U} a b (Err e) f g r s m n
step_bad {U = U} e step caused memory names bit = record {
  shape = tt;
  rest = step.rest;
  memory = memory_as ℕ U e memory;
  bit = bit;
  read = group_bad {U = U} e step.read caused names;
}

-- ---- the pool

pub back_same : {n : ℕ} {a b c : Pooled} → PoolBack n a b → SamePool b c → PoolBack n a c
back_same back same = record { entries = same.entries back.entries; limit = same.limit ∙ back.limit; peak = same.peak ∙ back.peak }

-- slots that were in use before
pub slots_back : {n : ℕ} {a b : Pooled} → HasSlots a n → PoolBack n a b → HasSlots b n
slots_back ready back = record {
  some = ready.some;
  room = omega (arith, ready.room, back.limit);
  limit = omega (arith, ready.limit, back.limit);
  entries = back.entries;
}

pub back_twice : {n : ℕ} {a b c : Pooled} → PoolBack n a b → PoolBack n b c → PoolBack n a c
back_twice one two = record { entries = two.entries; limit = two.limit ∙ one.limit; peak = omega (arith, one.peak, two.peak) }

pub back_then : {n : ℕ} {a b : Pooled} (result : Result Pooled PartErr) → PoolBack n a b → IfOk result (λ made. PoolBack n b made) → IfOk result (λ made. PoolBack n a made)
back_then (Ok made) one two = back_twice one two
back_then (Err e) one two = tt

-- ---- steps that write

pub pass_none : {T : Type 0} {x : T} {part : Part} {name : List ℕ} (f : Option Files) (r : Reads) (n : ℕ) → PassStep part name (Ok x) f f r r n n
pass_none f r n = record { passed = passed_none _ _ f r n; cause = cause_ok (omega arith); names = tt }

pub pass_look : {T : Type 0} {result : Result T PartErr} {part : Part} {name : List ℕ} {f g : Option Files} {r s : Reads} {m n : ℕ} →
    LookStep part result f g r s m n → PassStep part name result f g r s m n
pass_look look = record { passed = passed_looked look.looked; cause = look.cause; names = look.names }

-- a writer wrote
pub pass_wrote : {T : Type 0} {x : T} {part : Part} {name : List ℕ} {f g : Option Files} {r s : Reads} {m n : ℕ} →
    WroteTo name f g r s → m ≤ n → PassStep part name (Ok x) f g r s m n
pass_wrote wrote le = record { passed = passed_wrote wrote le; cause = cause_ok le; names = tt }

-- a writer refused
pub pass_refused : {T U : Type 0} {e : PartErr} {part : Part} {name : List ℕ} {f g : Option Files} {r s : Reads} {m n : ℕ} →
    WroteTo name f g r s → HasPartCause {T = T} m n (Err e) → ((p : Part) → NamesPart p e) → PassStep {T = U} part name (Err e) f g r s m n
pass_refused {T = T} {U = U} {part = part} wrote cause names = record {
  passed = passed_wrote wrote cause.later;
  cause = cause_err {T = T} {U = U} (omega arith) cause;
  names = names part;
}

pub pass_ok : {T U : Type 0} {x : T} {y : U} {part : Part} {name : List ℕ} {f g : Option Files} {r s : Reads} {m n : ℕ} →
    PassStep part name (Ok x) f g r s m n → PassStep part name (Ok y) f g r s m n
pass_ok pass = record { passed = pass.passed; cause = cause_ok pass.cause.later; names = tt }

pub pass_err : {T U : Type 0} {e : PartErr} {part : Part} {name : List ℕ} {f g : Option Files} {r s : Reads} {m n : ℕ} →
    PassStep {T = T} part name (Err e) f g r s m n → PassStep {T = U} part name (Err e) f g r s m n
pass_err {T} {U} pass = record { passed = pass.passed; cause = cause_err {T = T} {U = U} (omega arith) pass.cause; names = pass.names }

pub pass_bad : {T U : Type 0} {x : T} (e : PartErr) {part : Part} {name : List ℕ} {f g : Option Files} {r s : Reads} {m n : ℕ} →
    PassStep part name (Ok x) f g r s m n → ((f g : ℕ) → IsCaused {T = ℕ} f g (Err e)) → NamesPart part e → PassStep {T = U} part name (Err e) f g r s m n
pass_bad {U = U} e pass caused names = record { passed = pass.passed; cause = cause_bad {U = U} e pass.cause.later caused; names = names }

pub pass_then : {T U : Type 0} {x : T} {result : Result U PartErr} {part : Part} {name : List ℕ} {f g h : Option Files} {r s t : Reads} {l m n : ℕ} →
    PassStep part name (Ok x) f g r s l m → PassStep part name result g h s t m n → PassStep part name result f h r t l n
pass_then {result = result} one two = record {
  passed = passed_more one.passed two.passed;
  cause = cause_then result one.cause.later two.cause;
  names = two.names;
}

-- ---- steps of a writer

pub writer_none : {T : Type 0} {x : T} {part : Part} {w : BitWriting} (f : Option Files) (r : Reads) (n : ℕ) → Holds w f → WriterStep part w w (Ok x) f f r r n n
writer_none f r n holds = record { holds = holds; name = refl; pass = pass_none f r n }

-- it was not written to
pub writer_look : {T : Type 0} {x : T} {part : Part} {w : BitWriting} {f g : Option Files} {r s : Reads} {m n : ℕ} →
    Holds w f → LookStep part (Ok x) f g r s m n → WriterStep part w w (Ok x) f g r s m n
writer_look {w = w} holds look = record { holds = subst (λ d. Holds w d) (sym look.looked.files) holds; name = refl; pass = pass_look look }

pub writer_look_err : {T U : Type 0} {e : PartErr} {part : Part} {w : BitWriting} {f g : Option Files} {r s : Reads} {m n : ℕ} →
    LookStep {T = T} part (Err e) f g r s m n → WriterStep {T = U} part w w (Err e) f g r s m n
writer_look_err {T} {U} look = record { holds = tt; name = refl; pass = pass_err {T = T} {U = U} (pass_look look) }

pub writer_wrote : {T : Type 0} {x : T} {part : Part} {v w : BitWriting} {f g : Option Files} {r s : Reads} {m n : ℕ} →
    Holds w g → w.name ≡ v.name → WroteTo v.name f g r s → m ≤ n → WriterStep part v w (Ok x) f g r s m n
writer_wrote holds name wrote le = record { holds = holds; name = name; pass = pass_wrote wrote le }

pub writer_refused : {T U : Type 0} {e : PartErr} {part : Part} {v w : BitWriting} {f g : Option Files} {r s : Reads} {m n : ℕ} →
    w.name ≡ v.name → WroteTo v.name f g r s → HasPartCause {T = T} m n (Err e) → ((p : Part) → NamesPart p e) → WriterStep {T = U} part v w (Err e) f g r s m n
writer_refused {T} {U} name wrote cause names = record { holds = tt; name = name; pass = pass_refused {T = T} {U = U} wrote cause names }

pub writer_ok : {T U : Type 0} {x : T} {y : U} {part : Part} {v w : BitWriting} {f g : Option Files} {r s : Reads} {m n : ℕ} →
    WriterStep part v w (Ok x) f g r s m n → WriterStep part v w (Ok y) f g r s m n
writer_ok step = record { holds = step.holds; name = step.name; pass = pass_ok step.pass }

pub writer_err : {T U : Type 0} {e : PartErr} {part : Part} {v w : BitWriting} {f g : Option Files} {r s : Reads} {m n : ℕ} →
    WriterStep {T = T} part v w (Err e) f g r s m n → WriterStep {T = U} part v w (Err e) f g r s m n
writer_err {T} {U} step = record { holds = tt; name = step.name; pass = pass_err {T = T} {U = U} step.pass }

pub writer_bad : {T U : Type 0} {x : T} (e : PartErr) {part : Part} {v w : BitWriting} {f g : Option Files} {r s : Reads} {m n : ℕ} →
    WriterStep part v w (Ok x) f g r s m n → ((f g : ℕ) → IsCaused {T = ℕ} f g (Err e)) → NamesPart part e → WriterStep {T = U} part v w (Err e) f g r s m n
writer_bad {U = U} e step caused names = record { holds = tt; name = step.name; pass = pass_bad {U = U} e step.pass caused names }

pub writer_then : {T U : Type 0} {x : T} {result : Result U PartErr} {part : Part} {u v w : BitWriting} {f g h : Option Files} {r s t : Reads} {l m n : ℕ} →
    WriterStep part u v (Ok x) f g r s l m → WriterStep part v w result g h s t m n → WriterStep part u w result f h r t l n
writer_then {result = result} {part = part} {f = f} {g = g} {h = h} {r = r} {s = s} {t = t} {l = l} {m = m} {n = n} one two = record {
  holds = two.holds;
  name = two.name ∙ one.name;
  pass = pass_then one.pass (subst (λ k. PassStep part k result g h s t m n) one.name two.pass);
}

-- ---- whole runs

pub run_err : {T : Type 0} {e : PartErr} {part : Part} {v w : BitWriting} {f g : Option Files} {r s : Reads} {m n : ℕ} →
    WriterStep {T = T} part v w (Err e) f g r s m n → RunStep {T = T} part v w (Err e) f g r s m n
run_err step = record { place = tt; whole = tt; writer = step }

pub run_none : {T : Type 0} {x : T} {part : Part} {w : BitWriting} (f : Option Files) (r : Reads) (n : ℕ) → w.place ≡ 0 → Holds w f → RunStep part w w (Ok x) f f r r n n
run_none f r n place holds = record { place = omega (arith, place); whole = omega (arith, place); writer = writer_none f r n holds }

pub run_ok : {T U : Type 0} {x : T} {y : U} {part : Part} {v w : BitWriting} {f g : Option Files} {r s : Reads} {m n : ℕ} →
    RunStep part v w (Ok x) f g r s m n → RunStep part v w (Ok y) f g r s m n
run_ok step = record { place = step.place; whole = step.whole; writer = writer_ok step.writer }

-- the writer did something before
pub run_then : {T U : Type 0} {x : T} {result : Result U PartErr} {part : Part} {u v w : BitWriting} {f g h : Option Files} {r s t : Reads} {l m n : ℕ} →
    WriterStep part u v (Ok x) f g r s l m → RunStep part v w result g h s t m n → RunStep part u w result f h r t l n
run_then one two = record { place = two.place; whole = two.whole; writer = writer_then one two.writer }

-- ---- steps of a group and a writer

pub write_none : {T : Type 0} {x : T} (a : Group) {w : BitWriting} (f : Option Files) (r : Reads) (n : ℕ) → Holds w f → GroupWrite a a w w (Ok x) f f r r n n
write_none a f r n holds = record { pool = record { entries = λ e. e; peak = refl; limit = refl }; file = refl; writer = writer_none f r n holds }

-- runs were read, and nothing was written
pub write_look : {T : Type 0} {x : T} {a b : Group} {w : BitWriting} {f g : Option Files} {r s : Reads} {m n : ℕ} →
    Holds w f → GroupLook a b (Ok x) f g r s m n → GroupWrite a b w w (Ok x) f g r s m n
write_look holds read = record { pool = read.pool; file = read.file; writer = writer_look holds read.look }

pub write_look_err : {T U : Type 0} {e : PartErr} {a b : Group} {w : BitWriting} {f g : Option Files} {r s : Reads} {m n : ℕ} →
    GroupLook {T = T} a b (Err e) f g r s m n → GroupWrite {T = U} a b w w (Err e) f g r s m n
write_look_err {T} {U} read = record { pool = read.pool; file = read.file; writer = writer_look_err {T = T} {U = U} read.look }

-- and the writer did this
pub write_more : {T U : Type 0} {x : T} {result : Result U PartErr} {a b : Group} {u v w : BitWriting} {f g h : Option Files} {r s t : Reads} {l m n : ℕ} →
    GroupWrite a b u v (Ok x) f g r s l m → WriterStep a.file.part v w result g h s t m n → GroupWrite a b u w result f h r t l n
write_more one two = record { pool = one.pool; file = one.file; writer = writer_then one.writer two }

pub write_bad : {T U : Type 0} {x : T} (e : PartErr) {a b : Group} {v w : BitWriting} {f g : Option Files} {r s : Reads} {m n : ℕ} →
    GroupWrite a b v w (Ok x) f g r s m n → ((f g : ℕ) → IsCaused {T = ℕ} f g (Err e)) → NamesPart b.file.part e → GroupWrite {T = U} a b v w (Err e) f g r s m n
write_bad {U = U} e step caused names = record {
  pool = step.pool;
  file = step.file;
  writer = writer_bad {U = U} e step.writer caused (subst (λ d. NamesPart d.part e) step.file names);
}

pub write_ok : {T U : Type 0} {x : T} {y : U} {a b : Group} {v w : BitWriting} {f g : Option Files} {r s : Reads} {m n : ℕ} →
    GroupWrite a b v w (Ok x) f g r s m n → GroupWrite a b v w (Ok y) f g r s m n
write_ok step = record { pool = step.pool; file = step.file; writer = writer_ok step.writer }

pub write_err : {T U : Type 0} {e : PartErr} {a b : Group} {v w : BitWriting} {f g : Option Files} {r s : Reads} {m n : ℕ} →
    GroupWrite {T = T} a b v w (Err e) f g r s m n → GroupWrite {T = U} a b v w (Err e) f g r s m n
write_err {T} {U} step = record { pool = step.pool; file = step.file; writer = writer_err {T = T} {U = U} step.writer }

pub write_then : {T U : Type 0} {x : T} {result : Result U PartErr} {a b c : Group} {u v w : BitWriting} {f g h : Option Files} {r s t : Reads} {l m n : ℕ} →
    GroupWrite a b u v (Ok x) f g r s l m → GroupWrite b c v w result g h s t m n → GroupWrite a c u w result f h r t l n
write_then {result = result} {v = v} {w = w} {g = g} {h = h} {s = s} {t = t} {m = m} {n = n} one two = record {
  pool = pool_more one.pool two.pool;
  file = two.file ∙ one.file;
  writer = writer_then one.writer (subst (λ d. WriterStep d.part v w result g h s t m n) one.file two.writer);
}

-- what the writer did, by the file of the group
pub writer_of : {T : Type 0} {result : Result T PartErr} {a b : Group} {d : FileRef} {v w : BitWriting} {f g : Option Files} {r s : Reads} {m n : ℕ} →
    a.file ≡ d → GroupWrite a b v w result f g r s m n → WriterStep d.part v w result f g r s m n
writer_of {result = result} {v = v} {w = w} {f = f} {g = g} {r = r} {s = s} {m = m} {n = n} same step =
    subst (λ k. WriterStep k.part v w result f g r s m n) same step.writer
