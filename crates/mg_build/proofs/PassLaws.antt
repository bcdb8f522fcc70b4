-- Bytes that are read one after the other, and why a pass over them stops.
use Rattle.std.proofs.Common.{arith, ◌+◌, ◌^◌, ◌≡◌, ◌≤◌, ◌<◌, ℕ, List, [], ◌∷◌, ◌++◌, length, take, drop, Option, Some, refl, sym, ◌∙◌, ap, subst, inl, inr, Ok, Err}
use Rattle.std.proofs.Common.{append-nil, length-append, length-take-le, take-add}
use Rattle.std.proofs.lemmas.List.{take-append-drop, take-take, take_all, append_assoc}
use Rattle.std.specs.Prelude.{IfErr, IfOk, Result}
use Rattle.std.specs.Option.{IsSome, is_some, unwrap_or}
use Rattle.mg_dev.specs.Files.{Files, Reads, bytes_at, file_at}
use Rattle.mg_dev.specs.declared.fault.Fault.{Fault}
use Rattle.mg_dev.specs.declared.fault.Fault.TheVariants as cause
use Rattle.mg_dev.specs.Names.{full_name}
use Rattle.mg_dev.specs.declared.part.Part.{Part}
use Rattle.mg_dev.specs.declared.part.Part.TheVariants.{Head}
use Rattle.mg_defs.specs.Limits.{version_2}
use Rattle.mg_defs.specs.Marks.{Mark, PassesFirst, piece, start}
use Rattle.mg_bits.specs.Pages.{Looked, Paging, SameFile}
use Rattle.mg_layout.specs.Stands.{StandsForNone}
use Rattle.mg_make.specs.Counting.{CountStops, EndStops, PassWith}
use Rattle.mg_make.specs.Listing.{ListStops}
use Rattle.mg_make.specs.Putting.{IsUnbuilt}
use Rattle.mg_make.specs.Written.{SecondStops}
use Rattle.mg_make.specs.Plans.{IsPlanOf, Plan}
use Rattle.mg_make.specs.Outcomes.{Left}
pub use Rattle.mg_make.proofs.CallerLemmas.{others_more, rose_behind}
use Rattle.mg_make.specs.Changes.{TellsAtEnd, TellsChange}
use Rattle.mg_build.specs.Building.{IsPlanFor, PassStops, TellsRead, WriteStops}
use Rattle.mg_build.specs.Sources.{AreRead, ByteStops, IsFrom, IsOfOnePage, TellsSize}

-- ---- bytes

pub read_none : (files : Option Files) (name : List ℕ) → AreRead files name 0 []
read_none files name = record { size = refl; told = λ told. refl }

-- the first bytes of a block were read behind them
pub read_front_of : (files : Option Files) (name : List ℕ) (n k : ℕ) (fed block : List ℕ) → k ≤ length block → (IsSome files → IsFrom n (bytes_at files name) block) →
    AreRead files name n fed → AreRead files name (n + k) (fed ++ take k block)
read_front_of files name n k fed block within is before = record {
  size = omega (arith, length-append fed (take k block), length-take-le k block within, before.size);
  told = λ told.
      ap (λ front. front ++ take k block) (before.told told)
      ∙ ap (λ more. take n (bytes_at files name) ++ more) (ap (take k) (is told) ∙ take-take k (length block) (drop n (bytes_at files name)) within)
      ∙ sym (take-add n k (bytes_at files name));
}

-- all of them were
pub read_block : (files : Option Files) (name : List ℕ) (n : ℕ) (fed block : List ℕ) → (IsSome files → IsFrom n (bytes_at files name) block) →
    AreRead files name n fed → AreRead files name (n + length block) (fed ++ block)
read_block files name n fed block is before = subst (λ more. AreRead files name (n + length block) (fed ++ more)) (take_all (length block) block (omega arith))
    (read_front_of files name n (length block) fed block (omega arith) is before)

-- all bytes were read
pub read_all : (files : Option Files) (name : List ℕ) (size : ℕ) (fed : List ℕ) → AreRead files name size fed → IsSome files → length (bytes_at files name) ≡ size → fed ≡ bytes_at files name
read_all files name size fed are told whole = are.told told ∙ sym (ap (λ k. take k (bytes_at files name)) whole) ∙ take_length (bytes_at files name)
  where
    take_length : (xs : List ℕ) → take (length xs) xs ≡ xs
    take_length [] = refl
    take_length (x ∷ xs) = ap (λ rest. x ∷ rest) (take_length xs)

-- what was read, and what is not read yet, are all bytes
pub read_front : (files : Option Files) (name : List ℕ) (n : ℕ) (fed : List ℕ) → AreRead files name n fed → IsSome files → fed ++ drop n (bytes_at files name) ≡ bytes_at files name
read_front files name n fed are told = ap (λ front. front ++ drop n (bytes_at files name)) (are.told told) ∙ take-append-drop n (bytes_at files name)

-- ---- files

-- a store that told its files still does
pub still_told : (before now : Option Files) → is_some now ≡ is_some before → IsSome before → IsSome now
still_told before now same told = same ∙ told

-- the bytes of a file that is there as before
pub same_bytes : (f g : Option Files) (one other : List ℕ) → one ≡ other → file_at g other ≡ file_at f other → bytes_at g one ≡ bytes_at f other
same_bytes f g one other same is = ap (λ n. bytes_at g n) same ∙ ap (λ (file : Option (List ℕ)). unwrap_or file []) is

-- a block that is read of the file, as it was
pub block_so_far : {given block : List ℕ} → (before now : Option Files) (name same : List ℕ) (at : ℕ) → given ≡ block → (IsSome before → IsSome now) → bytes_at now same ≡ bytes_at before name →
    (IsSome now → IsFrom at (bytes_at now same) block) → IsSome before → IsFrom at (bytes_at before name) given
block_so_far {given} {block} before now name same at is still bytes from told =
    subst (λ (b : List ℕ). IsFrom at (bytes_at before name) b) (sym is) (subst (λ (file : List ℕ). IsFrom at file block) bytes (from (still told)))

-- the same where no file changed
pub block_here : {given block : List ℕ} → (before now : Option Files) (name same : List ℕ) (at : ℕ) → given ≡ block → now ≡ before → same ≡ name →
    (IsSome now → IsFrom at (bytes_at now same) block) → IsSome before → IsFrom at (bytes_at before name) given
block_here before now name same at is files names from = block_so_far before now name same at is (λ told. subst (λ f. IsSome f) (sym files) told)
    (ap (λ n. bytes_at now n) names ∙ ap (λ f. bytes_at f name) files) from

-- the page that it is of
pub page_of_block : {given block : List ℕ} {at size : ℕ} → given ≡ block → IsOfOnePage at (length block) size → IsOfOnePage at (length given) size
page_of_block {at = at} {size} is page = subst (λ bytes. IsOfOnePage at (length bytes) size) (sym is) page

pub same_file_none : (f : Paging) → SameFile f f
same_file_none f = record { name = refl; part = refl }

pub same_file_more : (f g h : Paging) → SameFile f g → SameFile g h → SameFile f h
same_file_more f g h one two = record { name = two.name ∙ one.name; part = two.part ∙ one.part }

pub looked_nowhere : (part : Part) (f : Option Files) (r : Reads) (n : ℕ) → Looked part f f r r n n
looked_nowhere part f r n = record { files = refl; faults = omega arith; later = λ p. omega arith; others = λ p x. refl }

-- ---- the first pass

-- a byte that is not read
pub pass_byte : {rose now : Type 0} {files later : Option Files} {name same : List ℕ} {size kept : ℕ} (fault : Fault) → (rose → now) → later ≡ files →
    same ≡ name → kept ≡ size → ByteStops rose later same kept fault → PassStops now files name size fault
pass_byte {rose} {now} {files} {later} {name} {same} {size} {kept} fault more f n k stop =
    refused fault (subst (λ x. ByteStops rose x name size fault) f
    (subst (λ x. ByteStops rose later x size fault) n (subst (λ x. ByteStops rose later same x fault) k stop)))
  where
    refused : (fault : Fault) → ByteStops rose files name size fault → PassStops now files name size fault
    refused cause.StoreFault stop = more stop
    refused (cause.Changed what first second) stop = stop
    refused cause.Usage stop = absurd stop
    refused cause.ReadFault stop = absurd stop
    refused cause.WriteFault stop = absurd stop
    refused cause.NotBuilt stop = absurd stop
    refused (cause.Damaged bad) stop = absurd stop
    refused cause.NoCollection stop = absurd stop
    refused (cause.TooLarge bytes most) stop = absurd stop
    refused cause.TooManyDocuments stop = absurd stop
    refused (cause.TooManyPieces stream) stop = absurd stop
    refused cause.Memory stop = absurd stop
    refused (cause.NameClash p) stop = absurd stop
    refused cause.InputTooLong stop = absurd stop
    refused cause.SameName stop = absurd stop
    refused (cause.TooManyRotations count) stop = absurd stop

passes : (files : Option Files) (name fed : List ℕ) (size n : ℕ) (mark : Mark) → size < 2 ^ 32 → AreRead files name n fed → IsSome files →
    length (bytes_at files name) ≡ size → PassWith fed mark → PassesFirst version_2 (bytes_at files name) mark
passes files name fed size n mark few are told whole pass = subst (λ bytes. PassesFirst version_2 bytes mark) all (pass (drop n (bytes_at files name)))
  where
    all : fed ++ drop n (bytes_at files name) ≡ bytes_at files name
    all = read_front files name n fed are told

-- a byte that is not counted
pub pass_count : (now : Type 0) (files : Option Files) (name fed : List ℕ) (size n : ℕ) (fault : Fault) → size < 2 ^ 32 → AreRead files name n fed →
    CountStops fed fault → PassStops now files name size fault
pass_count now files name fed size n cause.TooManyDocuments few are stop = λ told whole. passes files name fed size n _ few are told whole stop
pass_count now files name fed size n (cause.TooManyPieces stream) few are stop = λ told whole. (stop.0, passes files name fed size n _ few are told whole stop.1)
pass_count now files name fed size n cause.Memory few are stop = tt
pass_count now files name fed size n cause.Usage few are stop = absurd stop
pass_count now files name fed size n cause.StoreFault few are stop = absurd stop
pass_count now files name fed size n cause.ReadFault few are stop = absurd stop
pass_count now files name fed size n cause.WriteFault few are stop = absurd stop
pass_count now files name fed size n cause.NotBuilt few are stop = absurd stop
pass_count now files name fed size n (cause.Damaged bad) few are stop = absurd stop
pass_count now files name fed size n cause.NoCollection few are stop = absurd stop
pass_count now files name fed size n (cause.TooLarge bytes most) few are stop = absurd stop
pass_count now files name fed size n (cause.Changed what first second) few are stop = absurd stop
pass_count now files name fed size n (cause.NameClash p) few are stop = absurd stop
pass_count now files name fed size n cause.InputTooLong few are stop = absurd stop
pass_count now files name fed size n cause.SameName few are stop = absurd stop
pass_count now files name fed size n (cause.TooManyRotations count) few are stop = absurd stop

-- the end
pub pass_end : (now : Type 0) (files : Option Files) (name fed : List ℕ) (size : ℕ) (fault : Fault) → AreRead files name size fed → EndStops fed fault → PassStops now files name size fault
pass_end now files name fed size cause.TooManyDocuments are stop = λ told whole. subst (λ bytes. PassesFirst version_2 bytes start) (read_all files name size fed are told whole) stop
pass_end now files name fed size (cause.TooManyPieces stream) are stop = λ told whole.
    (stop.0, subst (λ bytes. PassesFirst version_2 bytes (piece stream stop.0)) (read_all files name size fed are told whole) stop.1)
pass_end now files name fed size cause.Memory are stop = tt
pass_end now files name fed size cause.Usage are stop = absurd stop
pass_end now files name fed size cause.StoreFault are stop = absurd stop
pass_end now files name fed size cause.ReadFault are stop = absurd stop
pass_end now files name fed size cause.WriteFault are stop = absurd stop
pass_end now files name fed size cause.NotBuilt are stop = absurd stop
pass_end now files name fed size (cause.Damaged bad) are stop = absurd stop
pass_end now files name fed size cause.NoCollection are stop = absurd stop
pass_end now files name fed size (cause.TooLarge bytes most) are stop = absurd stop
pass_end now files name fed size (cause.Changed what first second) are stop = absurd stop
pass_end now files name fed size (cause.NameClash p) are stop = absurd stop
pass_end now files name fed size cause.InputTooLong are stop = absurd stop
pass_end now files name fed size cause.SameName are stop = absurd stop
pass_end now files name fed size (cause.TooManyRotations count) are stop = absurd stop

-- what counts them tells no change
pub tells_count : (fed : List ℕ) (size : ℕ) (fault : Fault) → CountStops fed fault → TellsSize size fault
tells_count fed size cause.TooManyDocuments stop = tt
tells_count fed size (cause.TooManyPieces stream) stop = tt
tells_count fed size cause.Memory stop = tt
tells_count fed size fault stop = absurd stop

tells_end : (fed : List ℕ) (size : ℕ) (fault : Fault) → EndStops fed fault → TellsSize size fault
tells_end fed size cause.TooManyDocuments stop = tt
tells_end fed size (cause.TooManyPieces stream) stop = tt
tells_end fed size cause.Memory stop = tt
tells_end fed size fault stop = absurd stop

pub tells_end_all : {T : Type 0} (r : Result T Fault) (P : List ℕ → Type 0) (fed : List ℕ) (size : ℕ) → P fed
    → IfErr r (λ fault. (x : List ℕ) → P x → EndStops x fault) → IfErr r (TellsSize size)
tells_end_all (Ok value) P fed size counted stop = tt
tells_end_all (Err fault) P fed size counted stop = tells_end fed size fault (stop fed counted)

-- the plan is that of the bytes that were read
pub plan_with : {R : Type 0} {files : Option Files} {name : List ℕ} {size : ℕ} (r : Result (Plan × R) Fault) (fed : List ℕ) → AreRead files name size fed →
    IfOk r (λ made. IsPlanOf made.0 fed) → IfOk r (λ made. (read : List ℕ) × AreRead files name size read × IsPlanOf made.0 read)
plan_with (Ok made) fed are planned = (fed, are, planned)
plan_with (Err fault) fed are planned = tt

-- and that of the file, where all of it was read
pub plan_of_file : {R : Type 0} {files : Option Files} {name : List ℕ} {size : ℕ} (r : Result (Plan × R) Fault) (fed : List ℕ) → AreRead files name size fed →
    IfOk r (λ made. IsPlanOf made.0 fed) → IsSome files → length (bytes_at files name) ≡ size → IfOk r (λ made. IsPlanFor made.0 files name size)
plan_of_file {files = files} {name} {size} (Ok made) fed are planned told whole = record {
  told = told;
  whole = whole;
  counted = subst (λ bytes. IsPlanOf made.0 bytes) (read_all files name size fed are told whole) planned;
}
plan_of_file (Err fault) fed are planned told whole = tt

-- ---- the second pass

-- a byte that is not read
pub write_byte : {rose now : Type 0} (plan : Plan) (first later : Option Files) (name same : List ℕ) {size kept : ℕ} (fault : Fault) → (rose → now) →
    (IsSome first → IsSome later) → bytes_at later same ≡ bytes_at first name → kept ≡ size
    → ByteStops rose later same kept fault → WriteStops now (IsPlanFor plan first name size) fault
write_byte plan first later name same cause.StoreFault more still bytes k stop = more stop
write_byte plan first later name same (cause.Changed what one two) more still bytes k stop = (stop.0, λ is. stop.1 (still is.told) (ap length bytes ∙ is.whole ∙ sym k))
write_byte plan first later name same cause.Usage more still bytes k stop = absurd stop
write_byte plan first later name same cause.ReadFault more still bytes k stop = absurd stop
write_byte plan first later name same cause.WriteFault more still bytes k stop = absurd stop
write_byte plan first later name same cause.NotBuilt more still bytes k stop = absurd stop
write_byte plan first later name same (cause.Damaged bad) more still bytes k stop = absurd stop
write_byte plan first later name same cause.NoCollection more still bytes k stop = absurd stop
write_byte plan first later name same (cause.TooLarge most_size most) more still bytes k stop = absurd stop
write_byte plan first later name same cause.TooManyDocuments more still bytes k stop = absurd stop
write_byte plan first later name same (cause.TooManyPieces stream) more still bytes k stop = absurd stop
write_byte plan first later name same cause.Memory more still bytes k stop = absurd stop
write_byte plan first later name same (cause.NameClash p) more still bytes k stop = absurd stop
write_byte plan first later name same cause.InputTooLong more still bytes k stop = absurd stop
write_byte plan first later name same cause.SameName more still bytes k stop = absurd stop
write_byte plan first later name same (cause.TooManyRotations count) more still bytes k stop = absurd stop

-- bytes of which the last is not written
pub write_put : (rose now : Type 0) (plan : Plan) (files : Option Files) (name fed run : List ℕ) (size n : ℕ) (fault : Fault) → (rose → now) → size < 2 ^ 32 →
    n ≤ size → AreRead files name n (fed ++ run)
    → ((more : List ℕ) → length (fed ++ (run ++ more)) < 2 ^ 32 → SecondStops rose (IsPlanOf plan (fed ++ (run ++ more))) fault) → WriteStops now (IsPlanFor plan files name size) fault
write_put rose now plan files name fed run size n fault grows few below are stop = by fault stop
  where
    short : length (fed ++ (run ++ [])) < 2 ^ 32
    short = subst (λ k. k < 2 ^ 32) (sym (ap length (ap (λ r. fed ++ r) (append-nil run)) ∙ are.size)) (omega (arith, few, below))

    all : IsSome files → fed ++ (run ++ drop n (bytes_at files name)) ≡ bytes_at files name
    all told = sym (append_assoc fed run (drop n (bytes_at files name))) ∙ read_front files name n (fed ++ run) are told

    by : (fault : Fault) → ((more : List ℕ) → length (fed ++ (run ++ more)) < 2 ^ 32 → SecondStops rose (IsPlanOf plan (fed ++ (run ++ more))) fault) →
        WriteStops now (IsPlanFor plan files name size) fault
    by cause.StoreFault stop = grows (stop [] short)
    by cause.Memory stop = tt
    by (cause.Changed what first second) stop = (
      (stop [] short).0,
      λ same.
          (stop (drop n (bytes_at files name)) (subst (λ k. k < 2 ^ 32) (sym (ap length (all same.told) ∙ same.whole)) few)).1
          (subst (λ bytes. IsPlanOf plan bytes) (sym (all same.told)) same.counted),
    )
    by cause.Usage stop = stop [] short
    by cause.ReadFault stop = stop [] short
    by cause.WriteFault stop = stop [] short
    by cause.NotBuilt stop = stop [] short
    by (cause.Damaged bad) stop = absurd (stop [] short)
    by cause.NoCollection stop = stop [] short
    by (cause.TooLarge size most) stop = stop [] short
    by cause.TooManyDocuments stop = stop [] short
    by (cause.TooManyPieces stream) stop = stop [] short
    by (cause.NameClash part) stop = stop [] short
    by cause.InputTooLong stop = stop [] short
    by cause.SameName stop = stop [] short
    by (cause.TooManyRotations count) stop = stop [] short

-- and what it tells
pub tells_put : (plan : Plan) (files : Option Files) (name fed run : List ℕ) (size n : ℕ) (fault : Fault) → size < 2 ^ 32 → n ≤ size →
    AreRead files name n (fed ++ run) → ((more : List ℕ) → length (fed ++ (run ++ more)) < 2 ^ 32 → TellsChange plan (fed ++ (run ++ more)) fault) →
    TellsRead plan files name size fault
tells_put plan files name fed run size n fault few below are tells = inr (record {
  read = fed ++ run;
  within = omega (arith, are.size, below);
  are = subst (λ k. AreRead files name k (fed ++ run)) (sym are.size) are;
  tells = inl (subst (λ bytes. TellsChange plan bytes fault) none (tells [] (omega (arith, ap length none, are.size, below, few))));
})
  where
    none : fed ++ (run ++ []) ≡ fed ++ run
    none = ap (λ r. fed ++ r) (append-nil run)

-- the end
pub write_end : (rose now : Type 0) (plan : Plan) (first later : Option Files) (name fed : List ℕ) (size : ℕ) (fault : Fault) → (rose → now) →
    (IsSome first → IsSome later) → AreRead first name size fed
    → ListStops rose (IsSome later × IsPlanOf plan fed) fault → WriteStops now (IsPlanFor plan first name size) fault
write_end rose now plan first later name fed size fault grows still are stop = by fault stop
  where
    whole : IsPlanFor plan first name size → IsSome later × IsPlanOf plan fed
    whole same = (still same.told, subst (λ bytes. IsPlanOf plan bytes) (sym (read_all first name size fed are same.told same.whole)) same.counted)

    by : (fault : Fault) → ListStops rose (IsSome later × IsPlanOf plan fed) fault → WriteStops now (IsPlanFor plan first name size) fault
    by cause.StoreFault stop = grows stop
    by cause.Memory stop = tt
    by (cause.Changed what one two) stop = (stop.0, λ same. stop.1 (whole same))
    by (cause.Damaged bad) stop = λ same. stop (whole same)
    by cause.Usage stop = absurd stop
    by cause.ReadFault stop = absurd stop
    by cause.WriteFault stop = absurd stop
    by cause.NotBuilt stop = absurd stop
    by cause.NoCollection stop = absurd stop
    by (cause.TooLarge bytes most) stop = absurd stop
    by cause.TooManyDocuments stop = absurd stop
    by (cause.TooManyPieces stream) stop = absurd stop
    by (cause.NameClash p) stop = absurd stop
    by cause.InputTooLong stop = absurd stop
    by cause.SameName stop = absurd stop
    by (cause.TooManyRotations count) stop = absurd stop

-- ---- from one moment to another

-- a plan of the file's bytes is one as long as that file stays
pub plan_later : (plan : Plan) (before now : Option Files) (name : List ℕ) (size : ℕ) → is_some now ≡ is_some before → file_at now name ≡ file_at before name →
    IsPlanFor plan before name size → IsPlanFor plan now name size
plan_later plan before now name size told same is = record {
  told = still_told before now told is.told;
  whole = ap length bytes ∙ is.whole;
  counted = subst (λ b. IsPlanOf plan b) (sym bytes) is.counted;
}
  where
    bytes : bytes_at now name ≡ bytes_at before name
    bytes = same_bytes before now name name refl same

-- a cause still is one where failures still rose and less is the same
pub write_wider : (rose now same less : Type 0) (fault : Fault) → (rose → now) → (less → same) → WriteStops rose same fault → WriteStops now less fault
write_wider rose now same less cause.StoreFault grows back stop = grows stop
write_wider rose now same less cause.Memory grows back stop = tt
write_wider rose now same less (cause.Changed what first second) grows back stop = (stop.0, λ is. stop.1 (back is))
write_wider rose now same less (cause.Damaged bad) grows back stop = λ is. stop (back is)
write_wider rose now same less cause.Usage grows back stop = absurd stop
write_wider rose now same less cause.ReadFault grows back stop = absurd stop
write_wider rose now same less cause.WriteFault grows back stop = absurd stop
write_wider rose now same less cause.NotBuilt grows back stop = absurd stop
write_wider rose now same less cause.NoCollection grows back stop = absurd stop
write_wider rose now same less (cause.TooLarge bytes most) grows back stop = absurd stop
write_wider rose now same less cause.TooManyDocuments grows back stop = absurd stop
write_wider rose now same less (cause.TooManyPieces stream) grows back stop = absurd stop
write_wider rose now same less (cause.NameClash p) grows back stop = absurd stop
write_wider rose now same less cause.InputTooLong grows back stop = absurd stop
write_wider rose now same less cause.SameName grows back stop = absurd stop
write_wider rose now same less (cause.TooManyRotations count) grows back stop = absurd stop

-- what a start that was refused leaves
pub left_by_start : (base collection : List ℕ) (before now : Option Files) → IsSome before →
    (file_at now (full_name base Head) ≡ Some [] → StandsForNone now base) → IsUnbuilt base before now → Left base before now collection
left_by_start base collection before now told none (inl same) = inl same
left_by_start base collection before now told none (inr gone) = inr (inl (none (gone told)))

-- what a refusal at the end tells
pub write_end_all : {T : Type 0} (r : Result T Fault) (P : List ℕ → Type 0) (rose now : Type 0) (plan : Plan) (first later : Option Files) (name fed : List ℕ)
    (size : ℕ) → (rose → now) → (IsSome first → IsSome later) → AreRead first name size fed → P fed
    → IfErr r (λ fault. (x : List ℕ) → P x → ListStops rose (IsSome later × IsPlanOf plan x) fault) → IfErr r (WriteStops now (IsPlanFor plan first name size))
write_end_all (Ok value) P rose now plan first later name fed size grows still are put stop = tt
write_end_all (Err fault) P rose now plan first later name fed size grows still are put stop = write_end rose now plan first later name fed size fault grows still are (stop fed put)

pub pass_end_all : {T : Type 0} (r : Result T Fault) (P : List ℕ → Type 0) (now : Type 0) (files : Option Files) (name fed : List ℕ) (size : ℕ) → AreRead files name size fed → P fed
    → IfErr r (λ fault. (x : List ℕ) → P x → EndStops x fault) → IfErr r (PassStops now files name size)
pass_end_all (Ok value) P now files name fed size are counted stop = tt
pass_end_all (Err fault) P now files name fed size are counted stop = pass_end now files name fed size fault are (stop fed counted)

-- and what a change tells there
pub tells_end_put : {T : Type 0} (r : Result T Fault) (P : List ℕ → Type 0) (plan : Plan) (files : Option Files) (name fed : List ℕ) (size : ℕ) →
    AreRead files name size fed → P fed → IfErr r (λ fault. (x : List ℕ) → P x → TellsAtEnd plan x fault) → IfErr r (TellsRead plan files name size)
tells_end_put (Ok value) P plan files name fed size are put tells = tt
tells_end_put (Err fault) P plan files name fed size are put tells = inr (record {
  read = fed;
  within = omega (arith, are.size);
  are = subst (λ k. AreRead files name k fed) (sym are.size) are;
  tells = tells fed put;
})

-- what was read of a file was read of it as it was before
pub tells_still : (plan : Plan) (before now : Option Files) (name : List ℕ) (size : ℕ) (fault : Fault) → is_some now ≡ is_some before → bytes_at now name ≡ bytes_at before name →
    TellsRead plan now name size fault → TellsRead plan before name size fault
tells_still plan before now name size fault told same (inl ended) = inl ended
tells_still plan before now name size fault told same (inr other) = inr (record {
  read = other.read;
  within = other.within;
  are = record { size = other.are.size; told = λ is. other.are.told (still_told before now told is) ∙ ap (take (length other.read)) same };
  tells = other.tells;
})
