-- Occurrences taken one after the other.
use Rattle.std.proofs.Common.{◌≡◌, ℕ, zero, suc, ◌+◌, ◌-◌, ◌*◌, ◌/◌, ◌%◌, ◌<◌, ◌≤◌, ◌^◌, min, max, List, [], ◌∷◌, ◌++◌, length, sym, ap, ◌∙◌, subst}
use Rattle.std.proofs.Common.{arith, drop, map, IsSome, is_some, length-append, append-nil}
use Rattle.std.specs.declared.option.Option.{Option}
use Rattle.std.proofs.Math.Nat.{lt-div-mul-add}
use Rattle.std.proofs.lemmas.List.{length-map}
use Rattle.std.proofs.lemmas.List.Concat.{flat_map-append}
use Rattle.mg_dev.specs.Files.{Files}
use Rattle.mg_dev.specs.Names.{full_name}
use Rattle.mg_dev.specs.declared.part.Part.TheVariants.{Run}
use Rattle.mg_defs.specs.Bits.{filled}
use Rattle.mg_defs.specs.declared.TermPosting.{TermPosting}
use Rattle.mg_defs.specs.Postings.{once, gathered, term_postings}
use Rattle.mg_defs.specs.Runs.{first_runs}
use Rattle.mg_runs.specs.FinishedRuns.{finished}
use Rattle.mg_defs.specs.RunBits.{run_bits, runs_bits}
use Rattle.mg_runs.proofs.Occurrences.{occurrences_drop, occurrences_end, entries_of, length_end, length_rest, drop_end, drop_all}
use Rattle.mg_runs.proofs.Segments.{finished-room, finished-full, finished-low, none_finished, first_runs-more, first_runs-full, map_end}
use Rattle.mg_bits.specs.BitWriting.{Holds, WroteBits, bits_put}
use Rattle.mg_runs.specs.Bytes.{AreEntries}
use Rattle.mg_runs.specs.Fed.{Inverting, IsFed, IsOccurrence, cap_of, starts}
use Rattle.mg_runs.specs.Merged.{MayEnd}
use Rattle.mg_runs.proofs.RoundsBits.{starts_more}

some_cap : (limit : ℕ) → 4096 ≤ limit → 1 ≤ limit / 12
some_cap limit h = omega arith

-- nothing was taken
pub fed_start : (runs : Inverting) (files : Option Files) → 4096 ≤ runs.pool.limit → runs.pool.limit ≤ 2 ^ 30 → runs.pool.entries ≡ [] →
    runs.pool.slots ≡ [] → runs.pool.peak ≡ 0 → runs.writer.name ≡ full_name runs.base Run → Holds runs.writer files →
    (IsSome files → bits_put runs.writer files ≡ []) → runs.writer.place ≡ 0 → runs.places ≡ [] → IsFed runs files []
fed_start runs files least most entries slots peak name holds empty place places =
    let none : finished (cap_of runs.pool) 0 ≡ 0 = none_finished (cap_of runs.pool) (some_cap runs.pool.limit least) in
    let rs : first_runs (cap_of runs.pool) (finished (cap_of runs.pool) 0) [] ≡ [] = ap (λ k. first_runs (cap_of runs.pool) k []) none in
    let z : 0 * cap_of runs.pool ≡ 0 = omega arith in
    record {
      least = least;
      most = most;
      slots = slots;
      entries = entries ∙ ap (λ k. map once (drop k [])) (sym (ap (λ k. k * cap_of runs.pool) none ∙ z));
      peak = peak ∙ omega arith;
      name = name;
      holds = holds;
      written = λ told. empty told ∙ ap (λ xs. runs_bits xs) (sym rs);
      place = place ∙ ap (λ xs. length (runs_bits xs)) (sym rs);
      whole = omega arith;
      below = omega arith;
      places = places ∙ ap (λ xs. starts 0 xs) (sym rs);
      occurrences = tt;
      few = omega arith;
    }

-- ---- one occurrence more

pub fed_entries : (runs : Inverting) (files : Option Files) (fed : List (ℕ × ℕ)) → IsFed runs files fed → AreEntries runs.pool.entries
fed_entries runs files fed is =
    subst (λ xs. AreEntries xs) (sym is.entries) (entries_of _ (occurrences_drop (finished (cap_of runs.pool) (length fed) * cap_of runs.pool) fed is.occurrences))

pub fed_length : (runs : Inverting) (files : Option Files) (fed : List (ℕ × ℕ)) → IsFed runs files fed →
    length runs.pool.entries ≡ length fed - finished (cap_of runs.pool) (length fed) * cap_of runs.pool
fed_length runs files fed is =
    ap (λ xs. length xs) is.entries ∙ length-map (drop (finished (cap_of runs.pool) (length fed) * cap_of runs.pool) fed) once
    ∙ length_rest fed (finished (cap_of runs.pool) (length fed) * cap_of runs.pool)

finished-high : (cap n : ℕ) → 1 ≤ cap → n - 1 < suc (finished cap n) * cap
finished-high cap n some = let high = lt-div-mul-add {a = n - 1} {b = cap} some in let next : suc (finished cap n) * cap ≡ cap + finished cap n * cap = omega arith in omega (arith, high)

-- the writer may put a run behind those that are finished
pub fed_may_end : (runs : Inverting) (files : Option Files) (fed : List (ℕ × ℕ)) → IsFed runs files fed → MayEnd runs.writer files
fed_may_end runs files fed is =
    let cap : ℕ = cap_of runs.pool in
    let below : runs.writer.place ≤ 512 * (finished cap (length fed) * cap) = is.below in
    record { holds = is.holds; place = omega (arith, below, finished-low cap (length fed) (some_cap runs.pool.limit is.least), is.few); whole = is.whole }

pub fed_most : (runs : Inverting) (files : Option Files) (fed : List (ℕ × ℕ)) → IsFed runs files fed → length runs.pool.entries ≤ cap_of runs.pool
fed_most runs files fed is =
    let cap : ℕ = cap_of runs.pool in
    let q : ℕ = finished cap (length fed) in
    let some : 1 ≤ cap = some_cap runs.pool.limit is.least in
    let high : length fed - 1 < suc q * cap = finished-high cap (length fed) some in
    let next : suc q * cap ≡ cap + q * cap = omega arith in
    let len : length runs.pool.entries ≡ length fed - q * cap = fed_length runs files fed is in
    omega arith

-- the peak, where the pool has room: none was finished, or one was
peak_room : (n q cap len p0 p1 : ℕ) → len ≡ n - q * cap → len < cap → q * cap ≤ n - 1 → p0 ≡ 12 * min n cap → p1 ≡ max p0 (12 * (len + 1)) → p1 ≡ 12 * min (n + 1) cap
peak_room n zero cap len p0 p1 is room low old new = let z : zero * cap ≡ 0 = omega arith in omega arith
peak_room n (suc q) cap len p0 p1 is room low old new = let z : suc q * cap ≡ cap + q * cap = omega arith in omega arith

pub fed_room : (r0 r1 : Inverting) (f : Option Files) (fed : List (ℕ × ℕ)) (o : ℕ × ℕ) → IsFed r0 f fed → length r0.pool.entries < cap_of r0.pool →
    IsOccurrence o → length fed < 2 ^ 32 - 1 → r1.pool.entries ≡ r0.pool.entries ++ once o ∷ [] → r1.pool.slots ≡ [] →
    r1.pool.peak ≡ max r0.pool.peak (12 * length r1.pool.entries + 64 * length r1.pool.slots) → r1.pool.limit ≡ r0.pool.limit → r1.writer ≡ r0.writer →
    r1.places ≡ r0.places → r1.base ≡ r0.base → IsFed r1 f (fed ++ o ∷ [])
fed_room r0 r1 f fed o is room doc room_left entries slots peak limit writer places base =
    let n : ℕ = length fed in
    let cap : ℕ = cap_of r0.pool in
    let q : ℕ = finished cap n in
    let some : 1 ≤ cap = some_cap r0.pool.limit is.least in
    let len : length r0.pool.entries ≡ n - q * cap = fed_length r0 f fed is in
    let low : q * cap ≤ n - 1 = finished-low cap n some in
    let e0 : cap_of r1.pool ≡ cap = ap (λ l. l / 12) limit in
    let e1 : length (fed ++ o ∷ []) ≡ n + 1 = length_end fed o in
    let e2 : finished cap (length (fed ++ o ∷ [])) ≡ q = ap (λ k. finished cap k) e1 ∙ finished-room cap n some (omega arith) in
    let e3 : finished (cap_of r1.pool) (length (fed ++ o ∷ [])) ≡ q = ap (λ k. finished k (length (fed ++ o ∷ []))) e0 ∙ e2 in
    let runs : first_runs (cap_of r1.pool) (finished (cap_of r1.pool) (length (fed ++ o ∷ []))) (fed ++ o ∷ []) ≡ first_runs cap q fed
    = ap (λ k. first_runs k (finished k (length (fed ++ o ∷ []))) (fed ++ o ∷ [])) e0 ∙ ap (λ k. first_runs cap k (fed ++ o ∷ [])) e2
    ∙ first_runs-more cap q fed o (omega arith) in
    let at : finished (cap_of r1.pool) (length (fed ++ o ∷ [])) * cap_of r1.pool ≡ q * cap = ap (λ k. k * cap_of r1.pool) e3 ∙ ap (λ k. q * k) e0 in
    let len1 : length r1.pool.entries ≡ length r0.pool.entries + 1 = ap (λ l. length l) entries ∙ length-append r0.pool.entries (once o ∷ []) in
    let none : length r1.pool.slots ≡ 0 = ap (λ l. length l) slots in
    let top : r1.pool.peak ≡ 12 * min (n + 1) cap = peak_room n q cap (length r0.pool.entries) r0.pool.peak r1.pool.peak len room low is.peak (peak ∙ ap (λ k. max r0.pool.peak k) (omega arith)) in
    record {
      least = let l = is.least in omega arith;
      most = let l = is.most in omega arith;
      slots = slots;
      entries = entries ∙ ap (λ xs. xs ++ once o ∷ []) is.entries ∙ sym (map_end once (drop (q * cap) fed) o)
          ∙ ap (λ xs. map once xs) (sym (drop_end fed (q * cap) o (omega arith)) ∙ ap (λ k. drop k (fed ++ o ∷ [])) (sym at));
      peak = top ∙ ap (λ k. 12 * min k cap) (sym e1) ∙ ap (λ k. 12 * min (length (fed ++ o ∷ [])) k) (sym e0);
      name = ap (λ w. w.name) writer ∙ is.name ∙ ap (λ b. full_name b Run) (sym base);
      holds = subst (λ w. Holds w f) (sym writer) is.holds;
      written = λ told. ap (λ w. bits_put w f) writer ∙ is.written told ∙ ap (λ rs. runs_bits rs) (sym runs);
      place = ap (λ w. w.place) writer ∙ is.place ∙ ap (λ rs. length (runs_bits rs)) (sym runs);
      whole = ap (λ w. w.place % 8) writer ∙ is.whole;
      below = subst (λ k. r1.writer.place ≤ 512 * k) (sym at) (subst (λ w. w.place ≤ 512 * (q * cap)) (sym writer) is.below);
      places = places ∙ is.places ∙ ap (λ rs. starts 0 rs) (sym runs);
      occurrences = occurrences_end fed o is.occurrences doc;
      few = omega (arith, e1, room_left);
    }

place-step : (q cap p0 p1 at : ℕ) → at ≡ suc q * cap → 1 ≤ cap → p0 ≤ 512 * (q * cap) → p1 ≤ p0 + 128 + 256 * cap → p1 ≤ 512 * at
place-step q cap p0 p1 at e some a b =
    let f : suc q * cap ≡ cap + q * cap = omega arith in
    omega arith

pub fed_full : (r0 r1 : Inverting) (f0 f1 : Option Files) (fed : List (ℕ × ℕ)) (o : ℕ × ℕ) → IsFed r0 f0 fed → length r0.pool.entries ≡ cap_of r0.pool →
    IsOccurrence o → length fed < 2 ^ 32 - 1 → is_some f1 ≡ is_some f0 →
    WroteBits r0.writer r1.writer f0 f1 (filled (run_bits (gathered r0.pool.entries))) → Holds r1.writer f1 → r1.writer.place % 8 ≡ 0 →
    r1.writer.place ≤ r0.writer.place + 128 + 256 * length r0.pool.entries → r1.pool.entries ≡ once o ∷ [] → r1.pool.slots ≡ [] →
    r1.pool.peak ≡ max r0.pool.peak (12 * length r1.pool.entries + 64 * length r1.pool.slots) → r1.pool.limit ≡ r0.pool.limit →
    r1.places ≡ r0.places ++ r0.writer.place ∷ [] → r1.base ≡ r0.base → IsFed r1 f1 (fed ++ o ∷ [])
fed_full r0 r1 f0 f1 fed o is full doc room_left told wrote holds whole below entries slots peak limit places base =
    let n : ℕ = length fed in
    let cap : ℕ = cap_of r0.pool in
    let q : ℕ = finished cap n in
    let some : 1 ≤ cap = some_cap r0.pool.limit is.least in
    let len : length r0.pool.entries ≡ n - q * cap = fed_length r0 f0 fed is in
    let low : q * cap ≤ n - 1 = finished-low cap n some in
    let next : suc q * cap ≡ cap + q * cap = omega arith in
    let whole_n : n ≡ suc q * cap = omega arith in
    let fits : suc q * cap ≤ n = omega arith in
    let e0 : cap_of r1.pool ≡ cap = ap (λ l. l / 12) limit in
    let e1 : length (fed ++ o ∷ []) ≡ n + 1 = length_end fed o in
    let e2 : finished cap (length (fed ++ o ∷ [])) ≡ suc q = ap (λ k. finished cap k) e1 ∙ finished-full cap n some (sym len ∙ full) in
    let e3 : finished (cap_of r1.pool) (length (fed ++ o ∷ [])) ≡ suc q = ap (λ k. finished k (length (fed ++ o ∷ []))) e0 ∙ e2 in
    let at : finished (cap_of r1.pool) (length (fed ++ o ∷ [])) * cap_of r1.pool ≡ suc q * cap = ap (λ k. k * cap_of r1.pool) e3 ∙ ap (λ k. suc q * k) e0 in
    let run : List TermPosting = term_postings (drop (q * cap) fed) in
    let run_is : gathered r0.pool.entries ≡ run = ap (λ xs. gathered xs) is.entries in
    let runs : first_runs (cap_of r1.pool) (finished (cap_of r1.pool) (length (fed ++ o ∷ []))) (fed ++ o ∷ []) ≡ first_runs cap q fed ++ run ∷ []
    = ap (λ k. first_runs k (finished k (length (fed ++ o ∷ []))) (fed ++ o ∷ [])) e0 ∙ ap (λ k. first_runs cap k (fed ++ o ∷ [])) e2
    ∙ first_runs-more cap (suc q) fed o fits ∙ first_runs-full cap q fed whole_n in
    let bits : runs_bits (first_runs cap q fed ++ run ∷ []) ≡ runs_bits (first_runs cap q fed) ++ filled (run_bits (gathered r0.pool.entries)) =
    flat_map-append (λ r. filled (run_bits r)) (first_runs cap q fed) (run ∷ [])
    ∙ ap (λ t. runs_bits (first_runs cap q fed) ++ t) (append-nil (filled (run_bits run)) ∙ ap (λ xs. filled (run_bits xs)) (sym run_is)) in
    let none : drop (suc q * cap) fed ≡ [] = drop_all fed (suc q * cap) (omega arith) in
    let len1 : length r1.pool.entries ≡ 1 = ap (λ l. length l) entries in
    let no_slots : length r1.pool.slots ≡ 0 = ap (λ l. length l) slots in
    let old_peak = is.peak in
    let top : r1.pool.peak ≡ 12 * min (n + 1) cap = peak ∙ omega arith in
    record {
      least = let l = is.least in omega arith;
      most = let l = is.most in omega arith;
      slots = slots;
      entries = entries ∙ ap (λ xs. map once (xs ++ o ∷ [])) (sym none) ∙ ap (λ xs. map once xs) (sym (drop_end fed (suc q * cap) o fits) ∙ ap (λ k. drop k (fed ++ o ∷ [])) (sym at));
      peak = top ∙ ap (λ k. 12 * min k cap) (sym e1) ∙ ap (λ k. 12 * min (length (fed ++ o ∷ [])) k) (sym e0);
      name = wrote.name ∙ is.name ∙ ap (λ b. full_name b Run) (sym base);
      holds = holds;
      written = λ t. wrote.told (sym told ∙ t) ∙ ap (λ l. l ++ filled (run_bits (gathered r0.pool.entries))) (is.written (sym told ∙ t)) ∙ sym bits ∙ ap (λ rs. runs_bits rs) (sym runs);
      place = wrote.place ∙ ap (λ k. k + length (filled (run_bits (gathered r0.pool.entries)))) is.place
          ∙ sym (length-append (runs_bits (first_runs cap q fed)) (filled (run_bits (gathered r0.pool.entries)))) ∙ ap (λ l. length l) (sym bits)
          ∙ ap (λ rs. length (runs_bits rs)) (sym runs);
      whole = whole;
      below = place-step q cap r0.writer.place r1.writer.place _ at some is.below (subst (λ k. r1.writer.place ≤ r0.writer.place + 128 + 256 * k) full below);
      places = places ∙ ap (λ l. l ++ r0.writer.place ∷ []) is.places ∙ ap (λ k. starts 0 (first_runs cap q fed) ++ k ∷ []) is.place
          ∙ sym (starts_more (first_runs cap q fed) run) ∙ ap (λ rs. starts 0 rs) (sym runs);
      occurrences = occurrences_end fed o is.occurrences doc;
      few = omega (arith, e1, room_left);
    }
