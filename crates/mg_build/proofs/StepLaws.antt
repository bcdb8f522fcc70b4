-- The steps of a pass, one behind the other.
use Rattle.std.proofs.Common.{arith, ◌≡◌, ◌∙◌, ℕ, List, [], Option, Some, Ok, Err, IsSome, refl, sym, subst}
use Rattle.std.specs.Prelude.{IfErr, OnOk, Result}
use Rattle.mg_bits.specs.Pages.{Looked, Paging}
use Rattle.mg_bits.proofs.CallerLemmas.{looked_twice}
use Rattle.mg_dev.specs.Files.{Files, Reads, file_at}
use Rattle.mg_dev.specs.Moments.{StoreAt, StoreRose}
use Rattle.mg_dev.specs.Names.{full_name}
use Rattle.mg_dev.specs.declared.fault.Fault.{Fault}
use Rattle.mg_dev.specs.declared.part.Part.{Part}
use Rattle.mg_dev.specs.declared.part.Part.TheVariants.{Head, Plain}
use Rattle.mg_make.specs.Putting.{OthersSame, Putting}
use Rattle.mg_make.specs.SetSteps.{SliceStep}
use Rattle.mg_make.proofs.CallerLemmas.{others_more, others_none}
use Rattle.mg_build.specs.Building.{PassStops}
use Rattle.mg_build.specs.Sources.{Sourcing, TellsSize}
use Rattle.mg_build.specs.Steps.{CountsSource, TurnsPage, WritesOn}
use Rattle.mg_build.proofs.PassLaws.{still_told}

pub looked_again : {part : Part} {f g h : Option Files} {r s t : Reads} {a b c : ℕ} → Looked part f g r s a b → Looked part g h s t b c → Looked part f h r t a c
looked_again {part} {f} {g} {h} {r} {s} {t} {a} {b} {c} one two = looked_twice part f g h r s t a b c one two

-- what is so whatever a call answers is so where it is done
pub on_ok : {T : Type 0} (r : Result T Fault) (P : Type 0) → P → OnOk r P
on_ok (Ok value) P is = is
on_ok (Err fault) P is = tt

-- ---- a page

-- a page that was read, and one that was not, for an answer of another type
pub turn_done : {T U : Type 0} {at size : ℕ} {feed feed_now : Paging} {store store_now : StoreAt} {value : T} {other : U} →
    TurnsPage {T = T} at size feed feed_now store store_now (Ok value) → TurnsPage {T = U} at size feed feed_now store store_now (Ok other)
turn_done turns = record { fits = turns.fits; file = turns.file; turned = turns.turned; refused = tt; tells = tt; looked = turns.looked }

pub turn_refused : {T U : Type 0} {at size : ℕ} {feed feed_now : Paging} {store store_now : StoreAt} {fault : Fault} →
    TurnsPage {T = T} at size feed feed_now store store_now (Err fault) → TurnsPage {T = U} at size feed feed_now store store_now (Err fault)
turn_refused turns = record { fits = turns.fits; file = turns.file; turned = tt; refused = turns.refused; tells = turns.tells; looked = turns.looked }

-- ---- the first pass

-- all bytes were counted, and the counts gave this answer
pub counts_ended : {T U : Type 0} {source source_now : Sourcing} {store store_now : StoreAt} {value : T} (r : Result U Fault) →
    CountsSource {T = T} source source_now store store_now (Ok value) → IfErr r (PassStops (StoreRose store store_now) store.files source.feed.name source.size) →
    IfErr r (TellsSize source.size) → CountsSource {T = U} source source_now store store_now r
counts_ended r counts stop tells = record {
  fits = counts.fits;
  file = counts.file;
  size = counts.size;
  small = counts.small;
  whole = λ none. on_ok r _ (counts.whole none);
  refused = stop;
  tells = tells;
  looked = counts.looked;
}

-- they were not all counted
pub counts_refused : {T U : Type 0} {source source_now : Sourcing} {store store_now : StoreAt} {fault : Fault} →
    CountsSource {T = T} source source_now store store_now (Err fault) → CountsSource {T = U} source source_now store store_now (Err fault)
counts_refused counts = record {
  fits = counts.fits;
  file = counts.file;
  size = counts.size;
  small = counts.small;
  whole = λ none. tt;
  refused = counts.refused;
  tells = counts.tells;
  looked = counts.looked;
}

-- ---- the second pass

-- nothing was put yet
pub writes_none : {w : Putting} {store : StoreAt} → (IsSome store.files → file_at store.files (full_name w.base Head) ≡ Some []) → WritesOn w w store store
writes_none {w} {store} head = record {
  base = refl;
  plan = refl;
  limit = refl;
  head = head;
  others = others_none w.base store.files store.files refl;
  plain = omega arith;
  later = omega arith;
}

-- a page of the collection was read
pub writes_look : {w v : Putting} {store middle now : StoreAt} → WritesOn w v store middle →
    Looked Plain middle.files now.files middle.reads now.reads middle.faults now.faults → WritesOn w v store now
writes_look {w} {store = store} goes looked = record {
  base = goes.base;
  plan = goes.plan;
  limit = goes.limit;
  head = λ told. subst (λ f. file_at f (full_name w.base Head) ≡ Some []) (sym looked.files) (goes.head told);
  others = subst (λ f. OthersSame w.base store.files f) (sym looked.files) goes.others;
  plain = omega (arith, goes.plain, looked.later Plain);
  later = omega (arith, goes.later, looked.faults);
}

-- bytes were put, or not all of them
pub writes_more : {w v u : Putting} {bytes : List ℕ} {r : Result (Unit {0}) Fault} {store middle now : StoreAt} → WritesOn w v store middle →
    SliceStep v u bytes r middle.files now.files middle.reads now.reads middle.faults now.faults → WritesOn w u store now
writes_more {w} {store = store} {middle} {now} goes step = record {
  base = step.base ∙ goes.base;
  plan = step.plan ∙ goes.plan;
  limit = step.limit ∙ goes.limit;
  head = λ told. subst (λ base. file_at now.files (full_name base Head) ≡ Some []) goes.base (step.head (still_told store.files middle.files goes.others.told told));
  others = others_more w.base store.files middle.files now.files goes.others (subst (λ base. OthersSame base middle.files now.files) goes.base step.others);
  plain = omega (arith, goes.plain, step.reads Plain);
  later = omega (arith, goes.later, step.later);
}
