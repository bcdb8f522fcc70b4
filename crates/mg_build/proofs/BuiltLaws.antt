-- What a build does on each way out.
use Rattle.std.proofs.Common.{arith, ◌≡◌, ◌≢◌, ◌<◌, ◌≤◌, ◌∙◌, ℕ, List, [], length, Option, None, Some, Ok, Err, IsSome, refl, sym, ap, subst, inl, inr}
use Rattle.std.specs.Prelude.{IfErr, Result}
use Rattle.std.proofs.lemmas.Result.{IfErr-weaker}
use Rattle.std.specs.Option.{option_map, unwrap_or}
use Rattle.mg_dev.specs.Files.{Files, HasSize, SameReads, bytes_at, file_at}
use Rattle.mg_dev.specs.Laws.{size_is}
use Rattle.mg_dev.specs.Moments.{KeptFiles, StoreAt, StoreRose}
use Rattle.mg_dev.specs.Names.{full_name}
use Rattle.mg_dev.specs.Runs.{IfStopped, IsDone, RefusedFor, StoppedFor}
use Rattle.mg_dev.specs.declared.fault.Fault.{Fault}
use Rattle.mg_dev.specs.declared.fault.Fault.TheVariants as cause
use Rattle.mg_dev.specs.declared.part.Part.{Part}
use Rattle.mg_dev.specs.declared.part.Part.TheVariants.{Plain}
use Rattle.mg_dev.specs.declared.status.Status.{Status}
use Rattle.mg_dev.specs.declared.status.Status.TheVariants.{Done, Stopped}
use Rattle.mg_defs.specs.declared.Stream.{Stream}
use Rattle.mg_defs.specs.Limits.{version_2}
use Rattle.mg_defs.specs.Marks.{PassesFirst, piece, start}
use Rattle.mg_defs.specs.Summaries.{run_cap}
use Rattle.mg_defs.specs.WithinLimits.{IsWithinLimits}
use Rattle.mg_make.specs.Outcomes.{HasSummaryOf, Left, MakesSet, most_bytes}
use Rattle.mg_make.specs.Plans.{IsPlanOf, Plan}
use Rattle.mg_make.specs.Putting.{IsApart, OthersSame}
use Rattle.mg_make.specs.declared.summary.Summary.{Summary}
use Rattle.mg_make.proofs.CallerLemmas.{others_none, rose_behind}
use Rattle.mg_build.specs.Building.{BuildStops, HasItsSize, IsPlanAt, IsPlanFor, PassStops, TellsRead, TellsTwoReadings}
use Rattle.mg_build.specs.Made.{AreMade, Made}
use Rattle.mg_build.specs.Sources.{AreRead, OpenStops, ReadsPages, Sourcing}
use Rattle.mg_build.specs.Steps.{BuildsSet, CountsSource, WritesSource}
use Rattle.mg_build.proofs.BuildLaws.{cause_all, done_all, done_or_lacks, early_all, is_told, its_bytes, pass_documents, pass_only, pass_pieces, text_all, within_passes}
use Rattle.mg_build.proofs.MadeLaws.{made_by}
use Rattle.mg_build.proofs.ReadLaws.{whole_read}

-- a refusal while no file has changed
module _ (name base : List ℕ) (budget : ℕ) (store store_now : StoreAt) (fault : Fault) (same : KeptFiles store store_now) (later : store.faults ≤ store_now.faults)
    (stops : BuildStops (StoreRose store store_now) store.files name base fault) (tells : TellsTwoReadings store.files name fault)
    (clash : (p : Part) → p ≢ Plain → name ≡ full_name base p → ◌≡◌ {A = Result Summary Fault} (Err fault) (Err (cause.NameClash p)))
    (missing : IsSome store.files → IsApart base name → file_at store.files name ≡ None → RefusedFor {T = Summary} (Err fault) cause.NoCollection)
    (large : IsSome store.files → IsApart base name → most_bytes < length (bytes_at store.files name) →
    RefusedFor {T = Summary} (Err fault) (cause.TooLarge (length (bytes_at store.files name)) most_bytes))
    (documents : (bytes : List ℕ) → file_at store.files name ≡ Some bytes → IsApart base name → length bytes ≤ most_bytes → PassesFirst version_2 bytes start →
    RefusedFor {T = Summary} (Err fault) cause.TooManyDocuments)
    (pieces : (bytes : List ℕ) (stream : Stream) (word : List ℕ) → file_at store.files name ≡ Some bytes → IsApart base name → length bytes ≤ most_bytes →
    PassesFirst version_2 bytes (piece stream word) → RefusedFor {T = Summary} (Err fault) (cause.TooManyPieces stream))
    (complete : (bytes : List ℕ) → file_at store.files name ≡ Some bytes → IsApart base name → IsWithinLimits 2 bytes → ¬ StoreRose store store_now →
    IsDone {T = Summary} (Err fault)) where
  not_built : BuildsSet name base budget store store_now (Err fault)
  not_built = record {
    made = made_by {T = Summary} name base budget store store_now (Err fault) (λ told. tt) (λ told. tt) (λ told. tt) (λ told. tt) (others_none base store.files store_now.files same)
        (λ told. inl same) (λ early. same) (λ differ. absurd (differ same)) stops clash missing large documents pieces complete;
    summary = λ told. tt;
    tells = tells;
    later = later;
  }

-- ---- the collection has the name of a part

pub clash_refused : (name base : List ℕ) (budget : ℕ) (store : StoreAt) (part : Part) → part ≢ Plain → name ≡ full_name base part →
    ((p : Part) → p ≢ Plain → name ≡ full_name base p → part ≡ p) → BuildsSet name base budget store store (Err (cause.NameClash part))
clash_refused name base budget store part plain is one = not_built name base budget store store (cause.NameClash part) refl (omega arith) (plain, is) (inl (0, tt))
    (λ p other same. ap (λ q. Err (cause.NameClash q)) (one p other same))
    (λ told apart none. absurd (apart part plain is)) (λ told apart more. absurd (apart part plain is)) (λ bytes there apart few first. absurd (apart part plain is))
    (λ bytes stream word there apart few first. absurd (apart part plain is)) (λ bytes there apart limits never. absurd (apart part plain is))

-- ---- the collection is not opened

-- a file that is there has bytes, and one that is missing has none
there_or_none : {A : Type 0} (files : Option Files) (name bytes : List ℕ) → file_at files name ≡ Some bytes → file_at files name ≡ None → A
there_or_none {A} files name bytes there none = never (sym there ∙ none)
  where
    never : ◌≡◌ {A = Option (List ℕ)} (Some bytes) None → A
    never bad = cc

no_bytes : (files : Option Files) (name : List ℕ) → file_at files name ≡ None → length (bytes_at files name) ≡ 0
no_bytes files name none = ap (λ (file : Option (List ℕ)). length (unwrap_or file [])) none

size_of : (files : Option Files) (name bytes : List ℕ) → file_at files name ≡ Some bytes → length (bytes_at files name) ≡ length bytes
size_of files name bytes there = ap length (its_bytes files name bytes there)

too_large : (a b m n : ℕ) → a ≡ b → m ≡ n → ◌≡◌ {A = Result Summary Fault} (Err (cause.TooLarge a m)) (Err (cause.TooLarge b n))
too_large a b m n one two = cc

module _ (name base : List ℕ) (budget : ℕ) (store store_now : StoreAt) (same : KeptFiles store store_now) (later : store.faults ≤ store_now.faults)
    (apart : IsApart base name) where
  pub not_opened : (fault : Fault) → OpenStops (StoreRose store store_now) store.files name fault → BuildsSet name base budget store store_now (Err fault)
  not_opened cause.StoreFault stop = not_built name base budget store store_now cause.StoreFault same later stop (inl (0, tt)) (λ p plain is. absurd (apart p plain is))
      (λ told a none. inr (inl refl)) (λ told a more. inr (inl refl)) (λ bytes there a few first. inr (inl refl))
      (λ bytes stream word there a few first. inr (inl refl)) (λ bytes there a limits never. absurd (never stop))
  not_opened cause.Memory stop = not_built name base budget store store_now cause.Memory same later tt (inl (0, tt)) (λ p plain is. absurd (apart p plain is))
      (λ told a none. inr (inr refl)) (λ told a more. inr (inr refl)) (λ bytes there a few first. inr (inr refl))
      (λ bytes stream word there a few first. inr (inr refl)) (λ bytes there a limits never. tt)
  not_opened cause.NoCollection stop = not_built name base budget store store_now cause.NoCollection same later stop (inl (0, tt)) (λ p plain is. absurd (apart p plain is))
      (λ told a none. inl refl)
      (λ told a more. let none : length (bytes_at store.files name) ≡ 0 = no_bytes store.files name (stop told) in absurd (omega (arith, more, none)))
      (λ bytes there a few first. there_or_none store.files name bytes there (stop (is_told store.files name bytes there)))
      (λ bytes stream word there a few first. there_or_none store.files name bytes there (stop (is_told store.files name bytes there)))
      (λ bytes there a limits never. there_or_none store.files name bytes there (stop (is_told store.files name bytes there)))
  not_opened (cause.TooLarge size most) stop = not_built name base budget store store_now (cause.TooLarge size most) same later stop (inl (0, tt)) (λ p plain is. absurd (apart p plain is))
      (λ told a none. let lacks : length (bytes_at store.files name) ≡ 0 = no_bytes store.files name none in absurd (omega (arith, stop.1, stop.2 told, lacks)))
      (λ told a more. inl (too_large size (length (bytes_at store.files name)) most most_bytes (sym (stop.2 told)) stop.0))
      (λ bytes there a few first. absurd (within bytes there few))
      (λ bytes stream word there a few first. absurd (within bytes there few))
      (λ bytes there a limits never. absurd (within bytes there limits.bytes))
    where
      within : (bytes : List ℕ) → file_at store.files name ≡ Some bytes → length bytes ≤ most_bytes → ⊥
      within bytes there few = omega (arith, few, stop.0, stop.1, stop.2 (is_told store.files name bytes there), size_of store.files name bytes there)
  not_opened cause.Usage stop = absurd stop
  not_opened cause.ReadFault stop = absurd stop
  not_opened cause.WriteFault stop = absurd stop
  not_opened cause.NotBuilt stop = absurd stop
  not_opened (cause.Damaged bad) stop = absurd stop
  not_opened cause.TooManyDocuments stop = absurd stop
  not_opened (cause.TooManyPieces stream) stop = absurd stop
  not_opened (cause.Changed what first second) stop = absurd stop
  not_opened (cause.NameClash p) stop = absurd stop
  not_opened cause.InputTooLong stop = absurd stop
  not_opened cause.SameName stop = absurd stop
  not_opened (cause.TooManyRotations count) stop = absurd stop

-- ---- the collection is not counted

pass_cause : (rose : Type 0) (files : Option Files) (name base : List ℕ) (size : ℕ) (fault : Fault) → HasSize files name size → PassStops rose files name size fault →
    BuildStops rose files name base fault
pass_cause rose files name base size cause.StoreFault has stop = stop
pass_cause rose files name base size cause.Memory has stop = tt
pass_cause rose files name base size cause.TooManyDocuments has stop = λ told. stop told (size_is files name size (has told))
pass_cause rose files name base size (cause.TooManyPieces stream) has stop = λ told. stop told (size_is files name size (has told))
pass_cause rose files name base size (cause.Changed what one two) has stop = (stop.0, λ told. stop.1 told (size_is files name size (has told)))
pass_cause rose files name base size cause.Usage has stop = absurd stop
pass_cause rose files name base size cause.ReadFault has stop = absurd stop
pass_cause rose files name base size cause.WriteFault has stop = absurd stop
pass_cause rose files name base size cause.NotBuilt has stop = absurd stop
pass_cause rose files name base size (cause.Damaged bad) has stop = absurd stop
pass_cause rose files name base size cause.NoCollection has stop = absurd stop
pass_cause rose files name base size (cause.TooLarge bytes most) has stop = absurd stop
pass_cause rose files name base size (cause.NameClash p) has stop = absurd stop
pass_cause rose files name base size cause.InputTooLong has stop = absurd stop
pass_cause rose files name base size cause.SameName has stop = absurd stop
pass_cause rose files name base size (cause.TooManyRotations count) has stop = absurd stop

-- a file that has a size is there
has_file : {A : Type 0} (files : Option Files) (name : List ℕ) (size : ℕ) → HasSize files name size → IsSome files → file_at files name ≡ None → A
has_file {A} files name size has told none = never (has told ∙ ap (λ file. option_map length file) none)
  where
    never : ◌≡◌ {A = Option ℕ} (Some size) None → A
    never bad = cc

pub not_counted : {T : Type 0} (base : List ℕ) (budget : ℕ) (source source_now : Sourcing) (store store_now : StoreAt) (fault : Fault) →
    HasSize store.files source.feed.name source.size → IsApart base source.feed.name → CountsSource {T = T} source source_now store store_now (Err fault) →
    BuildsSet source.feed.name base budget store store_now (Err fault)
not_counted base budget source source_now store store_now fault has apart counts =
    let files = store.files in
    let name = source.feed.name in
    let size = source.size in
    let rose = StoreRose store store_now in
    not_built name base budget store store_now fault counts.looked.files counts.looked.faults (pass_cause rose files name base size fault has counts.refused) (inl (size, counts.tells))
    (λ p plain is. absurd (apart p plain is))
    (λ told a none. has_file files name size has told none) (λ told a more. absurd (omega (arith, more, counts.small, size_is files name size (has told))))
    (λ bytes there a few first. pass_documents rose files name bytes size fault there has first counts.refused)
    (λ bytes stream word there a few first. pass_pieces rose files name bytes size stream word fault there has first counts.refused)
    (λ bytes there a limits never. done_or_lacks Summary rose fault never (pass_only rose files name bytes size fault there has limits counts.refused))

-- ---- its set is written, or not

-- what a second reading tells, by the plan of the bytes of the first one
tells_both : (plan : Plan) (files : Option Files) (name : List ℕ) (size : ℕ) (first : List ℕ) (fault : Fault) → AreRead files name size first → IsPlanOf plan first →
    TellsRead plan files name size fault → TellsTwoReadings files name fault
tells_both plan files name size first fault are planned (inl ended) = inl (size, ended)
tells_both plan files name size first fault are planned (inr other) = inr (record { size = size; first = first; plan = plan; are = are; planned = planned; second = other })

module _ {P : Type 0} {made : P} (plan : Plan) (limit budget : ℕ) (base : List ℕ) (source read : Sourcing) (store middle store_now : StoreAt) (r : Result Summary Fault)
    (has : HasSize store.files source.feed.name source.size) (unread : source.feed.held ≡ None) (apart : IsApart base source.feed.name)
    (counts : CountsSource {T = P} source read store middle (Ok made)) (pool : limit ≡ budget)
    (of : IsSome store.files → HasItsSize store.files source → IsPlanAt plan store.files source)
    (first : (fed : List ℕ) × AreRead store.files source.feed.name source.size fed × IsPlanOf plan fed) where
  -- the plan is that of the collection, where it is told, and so it is when it was counted
  planned : IsSome store.files → IsPlanAt plan middle.files read
  planned told =
      let is : IsPlanFor plan store.files source.feed.name source.size = of told (size_is store.files source.feed.name source.size (has told)) in
      subst (λ f. IsPlanFor plan f read.feed.name read.size) (sym counts.looked.files)
      (subst (λ name. IsPlanFor plan store.files name read.size) (sym counts.file.name) (subst (λ size. IsPlanFor plan store.files source.feed.name size) (sym counts.size) is))

  same : bytes_at middle.files read.feed.name ≡ bytes_at store.files source.feed.name
  same = ap (λ f. bytes_at f read.feed.name) counts.looked.files ∙ ap (λ name. bytes_at store.files name) counts.file.name

  limits : (bytes : List ℕ) → file_at store.files source.feed.name ≡ Some bytes → IsWithinLimits 2 bytes
  limits bytes there = subst (λ b. IsWithinLimits 2 b) (same ∙ its_bytes store.files source.feed.name bytes there) (planned (is_told store.files source.feed.name bytes there)).counted.limits

  pub built : WritesSource plan limit base read middle store_now r → BuildsSet source.feed.name base budget store store_now r
  built wrote = record {
    made = made_by source.feed.name base budget store store_now r
        stands (λ told. text_all r (run_cap budget) store_now.files base (bytes_at store.files source.feed.name) (stands told))
        (λ told. wrote.written.merge_a (bytes_at store.files source.feed.name) (planned told, same)) (λ told. wrote.written.merge_b (bytes_at store.files source.feed.name) (planned told, same))
        (subst (λ f. OthersSame base f store_now.files) counts.looked.files wrote.written.others)
        (λ told. subst (λ f. Left base f store_now.files (bytes_at store.files source.feed.name)) counts.looked.files
        (wrote.written.left (bytes_at store.files source.feed.name) (planned told, same)))
        (early_all r (StoreRose middle store_now) (IsPlanAt plan middle.files read) (KeptFiles store store_now) wrote.refused)
        (λ differ. whole_read store.files source.feed.name source.size (store.reads Plain) (middle.reads Plain) (store_now.reads Plain) has (counts.whole unread) wrote.plain)
        (cause_all r (StoreRose middle store_now) (StoreRose store store_now) (IsPlanAt plan middle.files read) store.files source.feed.name base rises planned wrote.refused)
        (λ p plain is. absurd (apart p plain is))
        (λ told a none. has_file store.files source.feed.name source.size has told none)
        (λ told a more. absurd (omega (arith, more, counts.small, size_is store.files source.feed.name source.size (has told))))
        (λ bytes there a few first. absurd (within_passes bytes start (limits bytes there) first))
        (λ bytes stream word there a few first. absurd (within_passes bytes (piece stream word) (limits bytes there) first))
        (λ bytes there a within never. done_all r (StoreRose middle store_now) (StoreRose store store_now) (IsPlanAt plan middle.files read) rises never
        (planned (is_told store.files source.feed.name bytes there)) wrote.refused);
    summary = λ told. subst (λ n. HasSummaryOf n r (bytes_at store.files source.feed.name)) pool (wrote.written.summary (bytes_at store.files source.feed.name) (planned told, same));
    tells = IfErr-weaker r (TellsRead plan middle.files read.feed.name read.size) (TellsTwoReadings store.files source.feed.name)
        (λ fault tells. tells_both plan store.files source.feed.name source.size first.0 fault first.1 first.2 (of_source fault tells)) wrote.tells;
    later = omega (arith, counts.looked.faults, wrote.written.later);
  }
    where
      of_source : (fault : Fault) → TellsRead plan middle.files read.feed.name read.size fault → TellsRead plan store.files source.feed.name source.size fault
      of_source fault tells = subst (λ f. TellsRead plan f source.feed.name source.size fault) counts.looked.files
          (subst (λ name. TellsRead plan middle.files name source.size fault) counts.file.name
          (subst (λ size. TellsRead plan middle.files read.feed.name size fault) counts.size tells))

      stands : IsSome store.files → MakesSet budget store_now.files base r (bytes_at store.files source.feed.name)
      stands told = subst (λ n. MakesSet n store_now.files base r (bytes_at store.files source.feed.name)) pool
          (wrote.written.stands (bytes_at store.files source.feed.name) (planned told, same))

      rises : StoreRose middle store_now → StoreRose store store_now
      rises rose = rose_behind store.faults middle.faults store_now.faults counts.looked.faults rose

-- ---- from before the collection was opened on

-- a cause still is one where failures still rose
cause_wider : (rose now : Type 0) (files : Option Files) (name base : List ℕ) (fault : Fault) → (rose → now) → BuildStops rose files name base fault → BuildStops now files name base fault
cause_wider rose now files name base cause.StoreFault grows stop = grows stop
cause_wider rose now files name base (cause.Damaged bad) grows stop = stop
cause_wider rose now files name base cause.NoCollection grows stop = stop
cause_wider rose now files name base (cause.TooLarge size most) grows stop = stop
cause_wider rose now files name base cause.TooManyDocuments grows stop = stop
cause_wider rose now files name base (cause.TooManyPieces stream) grows stop = stop
cause_wider rose now files name base (cause.Changed what first second) grows stop = stop
cause_wider rose now files name base cause.Memory grows stop = tt
cause_wider rose now files name base (cause.NameClash p) grows stop = stop
cause_wider rose now files name base cause.Usage grows stop = absurd stop
cause_wider rose now files name base cause.ReadFault grows stop = absurd stop
cause_wider rose now files name base cause.WriteFault grows stop = absurd stop
cause_wider rose now files name base cause.NotBuilt grows stop = absurd stop
cause_wider rose now files name base cause.InputTooLong grows stop = absurd stop
cause_wider rose now files name base cause.SameName grows stop = absurd stop
cause_wider rose now files name base (cause.TooManyRotations count) grows stop = absurd stop

stop_wider : (rose now : Type 0) (files : Option Files) (name base : List ℕ) (status : Status) → (rose → now) →
    IfStopped status (BuildStops rose files name base) → IfStopped status (BuildStops now files name base)
stop_wider rose now files name base Done grows stop = tt
stop_wider rose now files name base (Stopped fault) grows stop = cause_wider rose now files name base fault grows stop

-- a store that was not written since, and whose reads are the same
module _ {name base : List ℕ} {budget : ℕ} {store opened store_now : StoreAt} {status : Status} (files : KeptFiles store opened)
    (reads : SameReads store.reads opened.reads) (later : store.faults ≤ opened.faults) (made : Made name base budget opened store_now status) where
  still : IsSome store.files → IsSome opened.files
  still told = subst (λ f. IsSome f) (sym files) told

  there : (bytes : List ℕ) → file_at store.files name ≡ Some bytes → file_at opened.files name ≡ Some bytes
  there bytes is = subst (λ f. file_at f name ≡ Some bytes) (sym files) is

  rises : StoreRose opened store_now → StoreRose store store_now
  rises rose = rose_behind store.faults opened.faults store_now.faults later rose

  made_before : Made name base budget store store_now status
  made_before = record {
    done = λ told end. subst (λ f. AreMade store_now.files base (bytes_at f name) budget) files (made.done (still told) end);
    unchanged = λ fault early end. made.unchanged fault early end ∙ files;
    changed = λ differ. subst (λ n. ReadsPages (length (bytes_at store.files name)) n (store_now.reads Plain)) (reads Plain)
        (subst (λ f. ReadsPages (length (bytes_at f name)) (opened.reads Plain) (store_now.reads Plain)) files (made.changed (λ kept. differ (kept ∙ files))));
    left = λ told. subst (λ f. Left base f store_now.files (bytes_at f name)) files (made.left (still told));
    others = subst (λ f. OthersSame base f store_now.files) files made.others;
    cause = stop_wider (StoreRose opened store_now) (StoreRose store store_now) store.files name base status rises
        (subst (λ f. IfStopped status (BuildStops (StoreRose opened store_now) f name base)) files made.cause);
    clash = made.clash;
    missing = λ told apart none. made.missing (still told) apart (subst (λ f. file_at f name ≡ None) (sym files) none);
    large = subst (λ f. IsSome f → IsApart base name → most_bytes < length (bytes_at f name) → StoppedFor status (cause.TooLarge (length (bytes_at f name)) most_bytes)) files made.large;
    documents = λ bytes is apart few first. made.documents bytes (there bytes is) apart few first;
    pieces = λ bytes stream word is apart few first. made.pieces bytes stream word (there bytes is) apart few first;
    complete = λ bytes is apart within never. made.complete bytes (there bytes is) apart within (λ rose. never (rises rose));
  }

pub built_before : {name base : List ℕ} {budget : ℕ} {store opened store_now : StoreAt} {r : Result Summary Fault} → KeptFiles store opened →
    SameReads store.reads opened.reads → store.faults ≤ opened.faults → BuildsSet name base budget opened store_now r → BuildsSet name base budget store store_now r
built_before {name} {budget = budget} {r = r} files reads later builds = record {
  made = made_before files reads later builds.made;
  summary = λ told. subst (λ f. HasSummaryOf budget r (bytes_at f name)) files (builds.summary (subst (λ f. IsSome f) (sym files) told));
  tells = subst (λ f. IfErr r (TellsTwoReadings f name)) files builds.tells;
  later = omega (arith, later, builds.later);
}
