-- Marks that are written in parts, one part after another.
use Rattle.std.proofs.Common.{◌≤◌, ◌++◌, ℕ, List, [], refl, sym, ap, ◌∙◌, subst, append_assoc, append-nil, Ok, Err}
use Rattle.std.specs.Prelude.{IfErr, OnOk}
use Rattle.std.specs.declared.option.Option.{Option}
use Rattle.std.specs.declared.result.Result.{Result}
use Rattle.mg_dev.specs.Causes.{Rose}
use Rattle.mg_dev.specs.Files.{Files}
use Rattle.mg_dev.specs.declared.fault.Fault.{Fault}
use Rattle.mg_dev.specs.declared.fault.Fault.TheVariants.{Changed, Memory, StoreFault}
use Rattle.mg_defs.specs.Marks.{Mark, piece, start, stop}
use Rattle.mg_defs.specs.Pieces.{other_kind}
use Rattle.mg_make.specs.Fronts.{IsFrontOf}
use Rattle.mg_count.specs.Meeting.{Meeting, only_if}
use Rattle.mg_count.specs.Plans.{IsPlanOf, Plan}
use Rattle.mg_make.specs.Second.{HasWritten, Inversion, IsNext, SamePass, StopsBefore, WroteMarks}
use Rattle.mg_make.specs.Changes.{TellsChange}
use Rattle.mg_make.specs.Written.{SecondStops}
use Rattle.mg_make.proofs.CallerLemmas.{rose_behind}

front_first : (met a b : List Mark) (collection : List ℕ) → IsFrontOf (met ++ (a ++ b)) collection → IsFrontOf (met ++ a) collection
front_first met a b collection f = record {
  after = b ++ f.after;
  whole = f.whole ∙ ap (λ m. m ++ f.after) (sym (append_assoc met a b)) ∙ append_assoc (met ++ a) b f.after;
  few = f.few;
}

front_then : (met a b : List Mark) (collection : List ℕ) → IsFrontOf (met ++ (a ++ b)) collection → IsFrontOf ((met ++ a) ++ b) collection
front_then met a b collection f = subst (λ (m : List Mark). IsFrontOf m collection) (sym (append_assoc met a b)) f

pub next_first : (s : Inversion) (f : Option Files) (a b : List Mark) → IsNext s f (a ++ b) → IsNext s f a
next_first s f a b n = record { met = n.met; collection = n.collection; written = n.written; front = front_first n.met a b n.collection n.front }

pub next_then : (s t : Inversion) (f g : Option Files) (a b : List Mark) → IsNext s f (a ++ b) → WroteMarks s t f g a → IsNext t g b
next_then s t f g a b n wrote = record { met = n.met ++ a; collection = n.collection; written = wrote.behind n.met n.written; front = front_then n.met a b n.collection n.front }

pub marks_both : (s t u : Inversion) (f g h : Option Files) (a b : List Mark) → WroteMarks s t f g a → WroteMarks t u g h b → WroteMarks s u f h (a ++ b)
marks_both s t u f g h a b first then_b = record { behind = λ met is. subst (λ (m : List Mark). HasWritten u h m) (append_assoc met a b) (then_b.behind (met ++ a) (first.behind met is)) }

pub marks_none : (s : Inversion) (f : Option Files) → WroteMarks s s f f []
marks_none s f = record { behind = λ met is. subst (λ (m : List Mark). HasWritten s f m) (sym (append-nil met)) is }

pub same_none : (s : Inversion) → SamePass s s
same_none s = record { base = refl; plan = refl; limit = refl }

pub same_both : (s t u : Inversion) → SamePass s t → SamePass t u → SamePass s u
same_both s t u a b = record { base = b.base ∙ a.base; plan = b.plan ∙ a.plan; limit = b.limit ∙ a.limit }

pub stops_more : (rose now same : Type 0) (fault : Fault) → (rose → now) → SecondStops rose same fault → SecondStops now same fault
stops_more rose now same StoreFault more stops = more stops
stops_more rose now same Memory more stops = tt
stops_more rose now same (Changed what first second) more stops = stops
stops_more rose now same fault more stops = absurd stops

pub stops_first : (s : Inversion) (f : Option Files) (a b : List Mark) (rose : Type 0) (fault : Fault) → StopsBefore s f a rose fault → StopsBefore s f (a ++ b) rose fault
stops_first s f a b rose fault stops = record {
  cause = λ met collection is front. stops.cause met collection is (front_first met a b collection front);
  tells = λ met collection is front. stops.tells met collection is (front_first met a b collection front);
}

pub stops_then : (s t : Inversion) (f g : Option Files) (a b : List Mark) (x y z : ℕ) (fault : Fault) → x ≤ y → SamePass s t → WroteMarks s t f g a →
    StopsBefore t g b (Rose y z) fault → StopsBefore s f (a ++ b) (Rose x z) fault
stops_then s t f g a b x y z fault less same wrote stops = record {
  cause = λ met collection is front.
      subst (λ (p : Plan). SecondStops (Rose x z) (IsPlanOf p collection) fault) same.plan
      (stops_more (Rose y z) (Rose x z) (IsPlanOf t.plan collection) fault (rose_behind x y z less)
      (stops.cause (met ++ a) collection (wrote.behind met is) (front_then met a b collection front)));
  tells = λ met collection is front.
      subst (λ (p : Plan). TellsChange p collection fault) same.plan (stops.tells (met ++ a) collection (wrote.behind met is) (front_then met a b collection front));
}

-- ---- results

pub on_ok : {T E : Type 0} → (r : Result T E) (P Q : Type 0) → (P → Q) → OnOk r P → OnOk r Q
on_ok (Ok x) P Q more is = more is
on_ok (Err e) P Q more is = tt

pub if_err : {T E : Type 0} → (r : Result T E) (P Q : E → Type 0) → ((e : E) → P e → Q e) → IfErr r P → IfErr r Q
if_err (Ok x) P Q more is = tt
if_err (Err e) P Q more is = more e is

-- ---- the marks of one byte

abbrev pub begin_part : Meeting → List Mark
begin_part m = only_if m.begins start

abbrev pub piece_part : Meeting → List Mark
piece_part m = only_if m.has_piece (piece m.kind m.bytes)

abbrev pub other_part : Meeting → List Mark
other_part m = only_if m.has_other (piece (other_kind m.kind) [])

abbrev pub end_part : Meeting → List Mark
end_part m = only_if m.ends stop
