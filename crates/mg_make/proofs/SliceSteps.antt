-- A set that is being written, as the bytes of a slice are put one after another.
use Rattle.std.proofs.Common.{append-nil, arith, ◌≡◌, ◌≤◌, ◌<◌, ◌^◌, ◌+◌, ◌-◌, ◌∙◌, ℕ, List, [], ◌∷◌, ◌++◌, length, take, drop, get_or, refl, sym, ap, subst, IsSome, Some, Ok, Err}
use Rattle.std.proofs.lemmas.List.{append_assoc, take_more}
use Rattle.std.proofs.Common.{length-append, length-take-le, take-add, take-append-drop}
use Rattle.std.proofs.Math.Seq.{take-append-add}
use Rattle.std.specs.declared.option.Option.{Option}
use Rattle.mg_dev.specs.Causes.{Rose}
use Rattle.mg_dev.specs.declared.fault.Fault.{Fault}
use Rattle.mg_dev.specs.declared.part.Part.TheVariants.{Head}
use Rattle.mg_dev.specs.Files.{Files, Reads, file_at}
use Rattle.mg_dev.specs.Names.{full_name}
use Rattle.mg_defs.specs.Marks.{Mark}
use Rattle.mg_count.specs.Plans.{IsPlanOf, Plan}
use Rattle.mg_make.specs.Putting.{HasPut, OthersSame, Putting}
use Rattle.mg_count.specs.Scanning.{HasMet, Scanning}
use Rattle.mg_make.specs.Second.{Inversion}
use Rattle.mg_make.specs.SetSteps.{ByteStep, SliceStep, WentOn}
use Rattle.mg_make.specs.Steps.{PassStep}
use Rattle.mg_make.specs.Changes.{TellsChange}
use Rattle.mg_make.specs.Written.{SecondStops}
use Rattle.mg_make.proofs.CallerLemmas.{others_more, rose_behind}
use Rattle.mg_make.proofs.PutSteps.{put_head, put_more, put_others, put_stops, put_tells, writing}
use Rattle.mg_count.specs.Whole.{between}
use Rattle.mg_count.proofs.CallerLemmas.{between-joins, between-length, one_more, rest-behind, rest_is}
use Rattle.mg_make.proofs.Taking.{stops_more}

-- bytes that go on the piece that is read
pub went_on : {w : Putting} {scanned : Scanning} {run : List ℕ} {count : ℕ} → length run ≡ count →
    ((fed : List ℕ) (met : List Mark) → HasMet w.scanning fed met → HasMet scanned (fed ++ run) met) →
    WentOn w (writing w.base w.plan w.limit w.sums (w.size + count) scanned w.pass) run
went_on {w} {scanned} {run} {count} long takes = record {
  put = λ files fed own. record {
    met = own.met;
    scanned = takes fed own.met own.scanned;
    written = own.written;
    base_is = own.base_is;
    plan_is = own.plan_is;
    limit_is = own.limit_is;
    head = own.head;
    models = own.models;
    sums_are = own.sums_are;
    size_is = omega (arith, own.size_is, long, length-append fed run);
  };
  base = refl;
  plan = refl;
  limit = refl;
}

-- no byte
pub slice_none : {w : Putting} {f : Option Files} {q : Reads} {m : ℕ} → (fed : List ℕ) → HasPut w f fed → SliceStep w w [] (Ok tt) f f q q m m
slice_none {w} {f} fed own = record {
  put = λ fed own. subst (λ bytes. HasPut w f bytes) (sym (append-nil fed)) own;
  base = refl;
  plan = refl;
  limit = refl;
  head = own.head;
  others = record { told = refl; others = λ name apart. refl };
  reads = λ p. refl;
  later = omega arith;
  refused = tt;
}

-- the same bytes
pub slice_as : {w v : Putting} {xs ys : List ℕ} {f g : Option Files} {q r : Reads} {m n : ℕ} → xs ≡ ys → SliceStep w v xs (Ok tt) f g q r m n →
    SliceStep w v ys (Ok tt) f g q r m n
slice_as {w} {v} {f = f} {g} {q} {r} {m} {n} same step = subst (λ bytes. SliceStep w v bytes (Ok tt) f g q r m n) same step

-- and then bytes that go on
slice_then : {w u v : Putting} {xs ys : List ℕ} {f g : Option Files} {q r : Reads} {m n : ℕ} → SliceStep w u xs (Ok tt) f g q r m n → WentOn u v ys →
    SliceStep w v (xs ++ ys) (Ok tt) f g q r m n
slice_then {w} {u} {v} {xs} {ys} {f} {g} step on = record {
  put = λ fed own. subst (λ bytes. HasPut v g bytes) (append_assoc fed xs ys) (on.put g (fed ++ xs) (step.put fed own));
  base = on.base ∙ step.base;
  plan = on.plan ∙ step.plan;
  limit = on.limit ∙ step.limit;
  head = step.head;
  others = step.others;
  reads = step.reads;
  later = step.later;
  refused = tt;
}

pub slice_on : {w u v : Putting} {f g : Option Files} {q r : Reads} {m n : ℕ} → (bytes : List ℕ) (at count : ℕ) → SliceStep w u (take at bytes) (Ok tt) f g q r m n →
    WentOn u v (take count (take (length bytes - at) (drop at bytes))) → SliceStep w v (take (at + count) bytes) (Ok tt) f g q r m n
slice_on {v = v} bytes at count step on =
    let joined : take at bytes ++ take count (take (length bytes - at) (drop at bytes)) ≡ take (at + count) bytes
    = ap (λ rest. take at bytes ++ take count rest) (rest_is bytes at) ∙ sym (take-add at count bytes) in
    slice_as joined (slice_then {v = v} step on)

-- ---- a byte more, to each of its two ends

module _ {w u : Putting} {xs : List ℕ} {f g : Option Files} {q r : Reads} {a b : ℕ} (step : SliceStep w u xs (Ok tt) f g q r a b) where
  -- the head stays empty
  head_behind : (h : Option Files) → (IsSome g → file_at h (full_name u.base Head) ≡ Some []) → IsSome f → file_at h (full_name w.base Head) ≡ Some []
  head_behind h head told = subst (λ base. file_at h (full_name base Head) ≡ Some []) step.base (head (step.others.told ∙ told))

  -- and other files stay
  others_behind : (h : Option Files) → OthersSame u.base g h → OthersSame w.base f h
  others_behind h others = others_more w.base f g h step.others (subst (λ base. OthersSame base g h) step.base others)

pub slice_more : {w u v : Putting} {x : Unit {0}} {f g h : Option Files} {q r s : Reads} {a b c : ℕ} → (bytes : List ℕ) (at : ℕ) → at < length bytes →
    SliceStep w u (take at bytes) (Ok tt) f g q r a b → ByteStep u v (get_or bytes at 0) (Ok x) g h r s b c → SliceStep w v (take (at + 1) bytes) (Ok tt) f h q s a c
slice_more {w} {u} {v} {f = f} {g} {h} bytes at below step more = record {
  put = λ fed own. subst (λ all. HasPut v h all) (one_more fed bytes at below) (more.put (fed ++ take at bytes) (step.put fed own));
  base = more.base ∙ step.base;
  plan = more.plan ∙ step.plan;
  limit = more.limit ∙ step.limit;
  head = head_behind step h more.head;
  others = others_behind step h more.others;
  reads = λ p. more.reads p ∙ step.reads p;
  later = omega (arith, step.later, more.later);
  refused = tt;
}

-- and then others behind them
pub slice_both : {w u v : Putting} {xs ys : List ℕ} {f g h : Option Files} {q r s : Reads} {a b c : ℕ} → SliceStep w u xs (Ok tt) f g q r a b → SliceStep u v ys (Ok tt) g h r s b c →
    SliceStep w v (xs ++ ys) (Ok tt) f h q s a c
slice_both {w} {u} {v} {xs} {ys} {f} {g} {h} step more = record {
  put = λ fed own. subst (λ bytes. HasPut v h bytes) (append_assoc fed xs ys) (more.put (fed ++ xs) (step.put fed own));
  base = more.base ∙ step.base;
  plan = more.plan ∙ step.plan;
  limit = more.limit ∙ step.limit;
  head = head_behind step h more.head;
  others = others_behind step h more.others;
  reads = λ p. more.reads p ∙ step.reads p;
  later = omega (arith, step.later, more.later);
  refused = tt;
}

-- one of those behind them is refused
pub slice_stops : {w u v : Putting} {xs ys : List ℕ} {fault : Fault} {f g h : Option Files} {q r s : Reads} {a b c : ℕ} → SliceStep w u xs (Ok tt) f g q r a b →
    SliceStep u v ys (Err fault) g h r s b c → SliceStep w v (xs ++ ys) (Err fault) f h q s a c
slice_stops {w} {u} {v} {xs} {ys} {fault} {f} {g} {h} {a = a} {b} {c} step more =
    let taken : ℕ = more.refused.taken in
    let some : take (length xs + taken) (xs ++ ys) ≡ xs ++ take taken ys = take-append-add xs ys taken in
    let count : length xs + taken + 1 ≡ length xs + (taken + 1) = omega arith in
    let with_it : take (length xs + taken + 1) (xs ++ ys) ≡ xs ++ take (taken + 1) ys = ap (λ n. take n (xs ++ ys)) count ∙ take-append-add xs ys (taken + 1) in
    record {
      put = tt;
      base = more.base ∙ step.base;
      plan = more.plan ∙ step.plan;
      limit = more.limit ∙ step.limit;
      head = head_behind step h more.head;
      others = others_behind step h more.others;
      reads = λ p. more.reads p ∙ step.reads p;
      later = omega (arith, step.later, more.later);
      refused = record {
        taken = length xs + taken;
        within = omega (arith, more.refused.within, length-append xs ys);
        middle = more.refused.middle;
        files_then = more.refused.files_then;
        put = λ fed own. subst (λ bytes. HasPut more.refused.middle more.refused.files_then bytes) (append_assoc fed xs (take taken ys) ∙ ap (λ run. fed ++ run) (sym some))
            (more.refused.put (fed ++ xs) (step.put fed own));
        stops = λ fed tail own few.
            let joined = behind-more fed xs ys tail taken with_it in
            let all = fed ++ (take (length xs + taken + 1) (xs ++ ys) ++ tail) in
            stops_more (Rose b c) (Rose a c) (IsPlanOf w.plan all) fault (rose_behind a b c step.later)
            (subst (λ (p : Plan). SecondStops (Rose b c) (IsPlanOf p all) fault) step.plan
            (subst (λ (x : List ℕ). SecondStops (Rose b c) (IsPlanOf u.plan x) fault) (sym joined)
            (more.refused.stops (fed ++ xs) tail (step.put fed own) (subst (λ (x : List ℕ). length x < 2 ^ 32) joined few))));
        tells = λ fed tail own few.
            let joined = behind-more fed xs ys tail taken with_it in
            let all = fed ++ (take (length xs + taken + 1) (xs ++ ys) ++ tail) in
            subst (λ (p : Plan). TellsChange p all fault) step.plan
            (subst (λ (x : List ℕ). TellsChange u.plan x fault) (sym joined)
            (more.refused.tells (fed ++ xs) tail (step.put fed own) (subst (λ (x : List ℕ). length x < 2 ^ 32) joined few)));
      };
    }
  where
    behind-more : (fed xs ys tail : List ℕ) (taken : ℕ) → take (length xs + taken + 1) (xs ++ ys) ≡ xs ++ take (taken + 1) ys →
        fed ++ (take (length xs + taken + 1) (xs ++ ys) ++ tail) ≡ (fed ++ xs) ++ (take (taken + 1) ys ++ tail)
    behind-more fed xs ys tail taken with_it =
        ap (λ run. fed ++ (run ++ tail)) with_it ∙ ap (λ run. fed ++ run) (append_assoc xs (take (taken + 1) ys) tail)
        ∙ sym (append_assoc fed xs (take (taken + 1) ys ++ tail))

-- ---- the bytes between two places

pub length_behind : (fed bytes : List ℕ) (from at : ℕ) → at ≤ length bytes → length (fed ++ between from at bytes) ≡ length fed + (at - from)
length_behind fed bytes from at within = omega (arith, length-append fed (between from at bytes), between-length from at bytes within)

pub slice_between : {w u v : Putting} {f g h : Option Files} {q r s : Reads} {a b c : ℕ} → (bytes : List ℕ) (from at next : ℕ) → from ≤ at → at ≤ next →
    SliceStep w u (between from at bytes) (Ok tt) f g q r a b → SliceStep u v (between at next bytes) (Ok tt) g h r s b c → SliceStep w v (between from next bytes) (Ok tt) f h q s a c
slice_between {v = v} bytes from at next after then step more = slice_as (between-joins from at next bytes after then) (slice_both {v = v} step more)

-- behind the first so many
pub slice_front : {w u v : Putting} {f g h : Option Files} {q r s : Reads} {a b c : ℕ} → (bytes : List ℕ) (at next : ℕ) → at ≤ next →
    SliceStep w u (take at bytes) (Ok tt) f g q r a b → SliceStep u v (between at next bytes) (Ok tt) g h r s b c → SliceStep w v (take next bytes) (Ok tt) f h q s a c
slice_front {v = v} bytes at next then step more =
    let count : at + (next - at) ≡ next = omega (arith, then) in
    slice_as (sym (take-add at (next - at) bytes) ∙ ap (λ n. take n bytes) count) (slice_both {v = v} step more)

-- one of those that are left is refused
stops_as : {w v : Putting} {xs ys : List ℕ} {fault : Fault} {f g : Option Files} {q r : Reads} {m n : ℕ} → xs ≡ ys → SliceStep w v xs (Err fault) f g q r m n →
    SliceStep w v ys (Err fault) f g q r m n
stops_as {w} {v} {fault = fault} {f} {g} {q} {r} {m} {n} same step = subst (λ bytes. SliceStep w v bytes (Err fault) f g q r m n) same step

pub stops_between : {w u v : Putting} {fault : Fault} {f g h : Option Files} {q r s : Reads} {a b c : ℕ} → (bytes : List ℕ) (from at : ℕ) → from ≤ at →
    SliceStep w u (between from at bytes) (Ok tt) f g q r a b → SliceStep u v (drop at bytes) (Err fault) g h r s b c → SliceStep w v (drop from bytes) (Err fault) f h q s a c
stops_between {v = v} bytes from at after step more = stops_as (rest-behind from at bytes after) (slice_stops {v = v} step more)

pub stops_front : {w u v : Putting} {fault : Fault} {f g h : Option Files} {q r s : Reads} {a b c : ℕ} → (bytes : List ℕ) (at : ℕ) →
    SliceStep w u (take at bytes) (Ok tt) f g q r a b → SliceStep u v (drop at bytes) (Err fault) g h r s b c → SliceStep w v bytes (Err fault) f h q s a c
stops_front {v = v} bytes at step more = stops_as (take-append-drop at bytes) (slice_stops {v = v} step more)

-- ---- a piece

-- it is written
pub piece_done : {w : Putting} {scanned : Scanning} {pass : Inversion} {run : List ℕ} {next : List Mark} {count : ℕ} {x : Unit {0}} {f g : Option Files} {q r : Reads} {m n : ℕ} →
    length run ≡ count → ((fed : List ℕ) (met : List Mark) → HasMet w.scanning fed met → HasMet scanned (fed ++ run) (met ++ next)) → (fed : List ℕ) → HasPut w f fed →
    PassStep w.pass pass next (Ok x) f g q r m n → SliceStep w (writing w.base w.plan w.limit w.sums (w.size + count) scanned pass) run (Ok tt) f g q r m n
piece_done {w} {scanned} {pass} {run} {next} {count} {f = f} {g = g} long takes fed put step = record {
  put = λ fed put. put_more w scanned pass f g run next takes fed count long step.written step.same step.wrote put;
  base = refl;
  plan = refl;
  limit = refl;
  head = put_head w scanned pass f g run next takes fed step.wrote put;
  others = put_others w scanned pass f g run next takes fed step.wrote put;
  reads = step.reads;
  later = step.faults;
  refused = tt;
}

-- it is refused with the byte that follows it
pub piece_refused : {w : Putting} {scanned mid : Scanning} {pass : Inversion} {bytes : List ℕ} {next : List Mark} {fault : Fault} {f g : Option Files} {q r : Reads} {m n : ℕ} →
    (taken : ℕ) → taken < length bytes → ((fed : List ℕ) (met : List Mark) → HasMet w.scanning fed met → HasMet mid (fed ++ take taken bytes) met) →
    ((fed : List ℕ) (met : List Mark) → HasMet w.scanning fed met → HasMet scanned (fed ++ take (taken + 1) bytes) (met ++ next)) → (fed : List ℕ) → HasPut w f fed →
    PassStep w.pass pass next (Err fault) f g q r m n → SliceStep w (writing w.base w.plan w.limit w.sums w.size scanned pass) bytes (Err fault) f g q r m n
piece_refused {w} {scanned} {mid} {pass} {bytes} {next} {fault} {f} {g} {m = m} {n = n} taken below read takes fed put step =
    let run : List ℕ = take (taken + 1) bytes in
    record {
      put = tt;
      base = refl;
      plan = refl;
      limit = refl;
      head = put_head w scanned pass f g run next takes fed step.wrote put;
      others = put_others w scanned pass f g run next takes fed step.wrote put;
      reads = step.reads;
      later = step.faults;
      refused = record {
        taken = taken;
        within = below;
        middle = writing w.base w.plan w.limit w.sums (w.size + taken) mid w.pass;
        files_then = f;
        put = λ fed own. (went_on (length-take-le taken bytes (omega (arith, below))) read).put f fed own;
        stops = λ fed more own few. put_stops w scanned pass f g run next takes (Rose m n) fault fed more step.refused own few;
        tells = λ fed more own few. put_tells w scanned pass f g run next takes (Rose m n) fault fed more step.refused own few;
      };
    }

-- the bytes up to one, and more
joined-more : (fed bytes more : List ℕ) (at : ℕ) → at < length bytes →
    fed ++ (take (at + 1) bytes ++ more) ≡ (fed ++ take at bytes) ++ (get_or bytes at 0 ∷ more)
joined-more fed bytes more at below =
    ap (λ run. fed ++ (run ++ more)) (take_more bytes at 0 below) ∙ ap (λ run. fed ++ run) (append_assoc (take at bytes) (get_or bytes at 0 ∷ []) more)
    ∙ sym (append_assoc fed (take at bytes) (get_or bytes at 0 ∷ more))

pub slice_refused : {w u v : Putting} {fault : Fault} {f g h : Option Files} {q r s : Reads} {a b c : ℕ} → (bytes : List ℕ) (at : ℕ) → at < length bytes →
    SliceStep w u (take at bytes) (Ok tt) f g q r a b → ByteStep u v (get_or bytes at 0) (Err fault) g h r s b c → SliceStep w v bytes (Err fault) f h q s a c
slice_refused {w} {u} {v} {fault} {f} {g} {h} {a = a} {b} {c} bytes at below step more = record {
  put = tt;
  base = more.base ∙ step.base;
  plan = more.plan ∙ step.plan;
  limit = more.limit ∙ step.limit;
  head = head_behind step h more.head;
  others = others_behind step h more.others;
  reads = λ p. more.reads p ∙ step.reads p;
  later = omega (arith, step.later, more.later);
  refused = record {
    taken = at;
    within = below;
    middle = u;
    files_then = g;
    put = step.put;
    stops = λ fed tail own few.
        let joined = joined-more fed bytes tail at below in
        let all = fed ++ (take (at + 1) bytes ++ tail) in
        stops_more (Rose b c) (Rose a c) (IsPlanOf w.plan all) fault (rose_behind a b c step.later)
        (subst (λ (p : Plan). SecondStops (Rose b c) (IsPlanOf p all) fault) step.plan
        (subst (λ (x : List ℕ). SecondStops (Rose b c) (IsPlanOf u.plan x) fault) (sym joined)
        (more.refused (fed ++ take at bytes) tail (step.put fed own) (subst (λ (x : List ℕ). length x < 2 ^ 32) joined few))));
    tells = λ fed tail own few.
        let joined = joined-more fed bytes tail at below in
        let all = fed ++ (take (at + 1) bytes ++ tail) in
        subst (λ (p : Plan). TellsChange p all fault) step.plan
        (subst (λ (x : List ℕ). TellsChange u.plan x fault) (sym joined)
        (more.tells (fed ++ take at bytes) tail (step.put fed own) (subst (λ (x : List ℕ). length x < 2 ^ 32) joined few)));
  };
}
