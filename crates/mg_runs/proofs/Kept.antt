-- What stands for occurrences or has postings left does so as long as the files of the runs stay as they are.
use Rattle.std.proofs.Common.{◌≡◌, ℕ, List, [], None, Some, Ok, Err, sym, ap, ◌∙◌, drop, subst, is_some, unwrap_or}
use Rattle.std.specs.Prelude.{IfOk, OnOk}
use Rattle.std.specs.declared.option.Option.{Option}
use Rattle.std.specs.declared.result.Result.{Result}
use Rattle.mg_dev.specs.declared.part_err.PartErr.{PartErr}
use Rattle.mg_dev.specs.Files.{Files, Reads, bytes_at, file_at}
use Rattle.mg_dev.specs.Names.{full_name}
use Rattle.mg_dev.specs.declared.part.Part.{Part}
use Rattle.mg_dev.specs.declared.part.Part.TheVariants.{Run}
use Rattle.mg_defs.specs.declared.TermPosting.{TermPosting}
use Rattle.mg_bits.proofs.CallerLemmas.{bits_stay, holds_stay}
use Rattle.mg_runs.specs.Merging.{AreLeft, first}
use Rattle.mg_runs.specs.Reading.{ForLeft, GroupHas}
use Rattle.mg_runs.specs.Steps.{GroupStep}
use Rattle.mg_runs.specs.Joins.{IsRunPart}
use Rattle.mg_runs.specs.Fed.{Inverting, IsFed}
use Rattle.mg_runs.specs.Left.{Merging, IsLeftIn, IsMerging}
use Rattle.mg_runs.specs.declared.group.Group.{Group}

left_kept : (group : Option Group) (base : List ℕ) (f g : Option Files) (left : List TermPosting) → is_some g ≡ is_some f →
    ((part : Part) → IsRunPart part → file_at g (full_name base part) ≡ file_at f (full_name base part)) → IsLeftIn group f base left →
    IsLeftIn group g base left
left_kept None base f g left told same is = λ t. is (sym told ∙ t)
left_kept (Some group) base f g left told same is =
    let name : full_name group.file.base.now group.file.part ≡ full_name base group.file.part = ap (λ b. full_name b group.file.part) is.same_base in
    let here : file_at g (full_name group.file.base.now group.file.part) ≡ file_at f (full_name group.file.base.now group.file.part)
    = ap (λ n. file_at g n) name ∙ same group.file.part is.part ∙ ap (λ n. file_at f n) (sym name) in
    let bytes : bytes_at g (full_name group.file.base.now group.file.part) ≡ bytes_at f (full_name group.file.base.now group.file.part) = ap (λ b. unwrap_or b []) here in
    record {
      shape = is.shape;
      same_base = is.same_base;
      part = is.part;
      told = λ t. subst (λ b. AreLeft group.pool.slots group.cursors.items b left) (sym bytes) (is.told (sym told ∙ t));
    }

pub merging_kept : (merge : Merging) (f g : Option Files) (left : List TermPosting) → is_some g ≡ is_some f →
    ((part : Part) → IsRunPart part → file_at g (full_name merge.base part) ≡ file_at f (full_name merge.base part)) → IsMerging merge f left →
    IsMerging merge g left
merging_kept merge f g left told same is = record { has = left_kept merge.group merge.base f g left told same is.has }

pub fed_kept : (runs : Inverting) (f g : Option Files) (fed : List (ℕ × ℕ)) → is_some g ≡ is_some f →
    file_at g (full_name runs.base Run) ≡ file_at f (full_name runs.base Run) → IsFed runs f fed → IsFed runs g fed
fed_kept runs f g fed told same is =
    let here : file_at g runs.writer.name ≡ file_at f runs.writer.name = ap (λ n. file_at g n) is.name ∙ same ∙ ap (λ n. file_at f n) (sym is.name) in
    record {
      least = is.least;
      most = is.most;
      slots = is.slots;
      entries = is.entries;
      peak = is.peak;
      name = is.name;
      holds = holds_stay runs.writer f g told here is.holds;
      written = λ t. bits_stay runs.writer f g here ∙ is.written (sym told ∙ t);
      place = is.place;
      whole = is.whole;
      below = is.below;
      places = is.places;
      occurrences = is.occurrences;
      few = is.few;
    }

-- what is left of a merge once its next posting was taken
pub next_left : {a b : Group} {f g : Option Files} {base : List ℕ} {left : List TermPosting} {r s : Reads} {m n : ℕ} (runs peak : ℕ)
    (result : Result (Option TermPosting) PartErr) → IsLeftIn (Some a) f base left →
    ForLeft a f (λ bytes left. IfOk result (λ p. (p ≡ first left) × GroupHas b bytes (drop 1 left))) → GroupStep a b result f g r s m n →
    OnOk result (IsMerging (record { group = Some b; base = base; runs = runs; peak = peak }) g (drop 1 left))
next_left runs peak (Err e) is told step = tt
next_left {left = left} runs peak (Ok p) is told step = record {
  has = record {
    shape = step.shape;
    same_base = ap (λ f. f.base.now) step.read.file ∙ is.same_base;
    part = subst (λ f. IsRunPart f.part) (sym step.read.file) is.part;
    told = λ t.
        let before = ap (λ x. is_some x) (sym step.read.look.looked.files) ∙ t in
        rw (step.read.look.looked.files, step.read.file) ((told before left (is.told before)).1);
  };
}
