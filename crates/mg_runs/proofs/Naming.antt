-- A refusal that names a part of runs names one of the three, and a bit where a cursor stands.
use Rattle.std.proofs.Common.{◌≡◌, ◌<◌, ◌∙◌, inl, inr, ℕ, List, ap, get_or, length, refl, sym, subst}
use Rattle.std.specs.Prelude.{IfErr, Ok, Err}
use Rattle.std.specs.declared.result.Result.{Result}
use Rattle.mg_dev.specs.declared.part.Part.{Part}
use Rattle.mg_dev.specs.declared.part_err.PartErr.{PartErr}
use Rattle.mg_dev.specs.declared.part_err.PartErr.TheVariants.{Device, Memory, Bad}
use Rattle.mg_runs.specs.Damages.{NamesItsPart, NamesPart, TellsBit, TellsBitOf}
use Rattle.mg_runs.specs.Joins.{IsRunPart}
use Rattle.mg_runs.specs.Merging.{no_cursor}
use Rattle.mg_runs.specs.declared.cursor.Cursor.{Cursor}

pub names_its : (part : Part) (e : PartErr) → IsRunPart part → NamesPart part e → NamesItsPart e
names_its part Device is names = tt
names_its part Memory is names = tt
names_its part (Bad bad) is names =
    (subst (λ p. IsRunPart p) (sym names.part_is) is, record { part_is = refl; at_is = refl; low_is = names.low_is; high_is = names.high_is; found_is = names.found_is })

pub refusal_names_its : {T : Type 0} (part : Part) (r : Result T PartErr) → IsRunPart part → IfErr r (λ e. NamesPart part e) → IfErr r (λ e. NamesItsPart e)
refusal_names_its part (Ok value) is names = tt
refusal_names_its part (Err e) is names = names_its part e is names

pub bit_of_cursor : (cursors : List Cursor) (k : ℕ) (c : Cursor) (e : PartErr) → k < length cursors → c ≡ get_or cursors k no_cursor → TellsBit c.place e → TellsBitOf cursors e
bit_of_cursor cursors k c Device h same tells = tt
bit_of_cursor cursors k c Memory h same tells = tt
bit_of_cursor cursors k c (Bad bad) h same tells = inr (k, h, tells ∙ ap (λ (x : Cursor). x.place) same)

pub bit_of_none : (cursors : List Cursor) (e : PartErr) → TellsBit 0 e → TellsBitOf cursors e
bit_of_none cursors Device tells = tt
bit_of_none cursors Memory tells = tt
bit_of_none cursors (Bad bad) tells = inl tells
