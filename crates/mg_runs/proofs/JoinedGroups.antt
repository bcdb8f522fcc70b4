-- Groups of runs, joined one after the other.
use Rattle.std.proofs.Common.{◌≡◌, ℕ, Bool, ◌+◌, ◌-◌, ◌<◌, ◌≤◌, List, [], ◌∷◌, ◌++◌, length, sym, ap, ◌∙◌, subst, arith, take, drop, min, is_some, IsSome, ◌≢◌, ◌%◌}
use Rattle.std.specs.declared.option.Option.{Option}
use Rattle.std.proofs.lemmas.List.{nil_from_length}
use Rattle.mg_dev.specs.Files.{Files}
use Rattle.mg_dev.specs.Names.{full_name}
use Rattle.mg_dev.specs.declared.part.Part.{Part}
use Rattle.mg_dev.specs.declared.part.Part.TheVariants.{Run, MergeA, MergeB}
use Rattle.mg_defs.specs.Bits.{bits_of, digits, filled, to_byte}
use Rattle.mg_defs.specs.Postings.{merged}
use Rattle.mg_defs.specs.RunBits.{run_bits, runs_bits}
use Rattle.mg_defs.specs.declared.TermPosting.{TermPosting}
use Rattle.mg_bits.specs.BitWriting.{BitWriting, Holds, WroteBits, bits_put}
use Rattle.mg_bits.proofs.CallerLemmas.{bits_more, bits_none}
use Rattle.mg_runs.specs.Merging.{AreRunsAt}
use Rattle.mg_runs.specs.Rounds.{AreJoined, AreStored, IsGroupAt, joined_runs}
use Rattle.mg_runs.specs.Joins.{IsJoining, IsJoined, IsRunPart, other}
use Rattle.mg_runs.proofs.Parts.{apart}
use Rattle.mg_runs.proofs.RoundsFirst.{finished_bits}
use Rattle.mg_runs.proofs.RoundsLoop.{joined_none, joined_group, joined_bits, joined_places, group_at, stored_count, stored_group, stored_next}

pub joining_none : (width : ℕ) (runs : List (List TermPosting)) (f : Option Files) (w : BitWriting) → 1 ≤ width → IsJoining width runs 0 [] f f w w
joining_none width runs f w some = record { bits = []; joined = joined_none width runs some; wrote = bits_none f w }

-- the place is the number of the bits so far
joining_place : (width : ℕ) (runs : List (List TermPosting)) (at : ℕ) (made : List ℕ) (f0 f1 : Option Files) (w0 w1 : BitWriting) (is : IsJoining width runs at made f0 f1 w0 w1) →
    w0.place ≡ 0 → w1.place ≡ length is.bits
joining_place width runs at made f0 f1 w0 w1 is zero = let p = is.wrote.place in omega arith

-- the next group may be joined
pub joining_next : (file places : List ℕ) (whole : List TermPosting) (width at end : ℕ) (made : List ℕ) (f0 f1 : Option Files) (w0 w1 : BitWriting) (is : AreStored file places whole) →
    IsJoining width is.runs at made f0 f1 w0 w1 → w0.place ≡ 0 → 1 ≤ width → width < length places → at < length places →
    end ≡ at + min width (length places - at) →
    AreRunsAt file (take (end - at) (drop at places)) (take width (drop at is.runs)) × IsGroupAt (take width (drop at is.runs)) w1.place
joining_next file places whole width at end made f0 f1 w0 w1 is joining zero some more less e =
    let size : length is.runs ≡ length places = stored_count file places whole is in
    let place : w1.place ≡ length joining.bits = joining_place width is.runs at made f0 f1 w0 w1 joining zero in (
      stored_group file places whole width at end is (omega arith) less,
      subst (λ p. IsGroupAt (take width (drop at is.runs)) p) (sym place) (group_at width at is.runs joining.bits made joining.joined some (omega arith) (omega arith) is.written),
    )

-- the next group is joined, and its place is kept
pub joining_more : {file places : List ℕ} {whole : List TermPosting} {width at end : ℕ} {made now : List ℕ} {f0 f1 f2 : Option Files} {w0 w1 w2 : BitWriting}
    (is : AreStored file places whole) →
    IsJoining width is.runs at made f0 f1 w0 w1 → w0.place ≡ 0 → at < length places → end ≡ at + min width (length places - at) →
    is_some f1 ≡ is_some f0 → WroteBits w1 w2 f1 f2 (filled (run_bits (merged (take width (drop at is.runs))))) → now ≡ made ++ w1.place ∷ [] →
    IsJoining width is.runs end now f0 f2 w0 w2
joining_more {file} {places} {whole} {width} {at} {end} {made} {now} {f0} {f1} {f2} {w0} {w1} {w2} is joining zero less e told wrote push =
    let size : length is.runs ≡ length places = stored_count file places whole is in
    let place : w1.place ≡ length joining.bits = joining_place width is.runs at made f0 f1 w0 w1 joining zero in
    let group : List Bool = filled (run_bits (merged (take width (drop at is.runs)))) in
    record {
      bits = joining.bits ++ group;
      joined = subst (λ p. AreJoined width is.runs end (joining.bits ++ group) p) (sym (push ∙ ap (λ p. made ++ p ∷ []) place))
          (joined_group width at end is.runs joining.bits made joining.joined (omega arith) (omega arith));
      wrote = bits_more f0 f1 f2 w0 w1 w2 joining.bits group told joining.wrote wrote;
    }

pub joining_end : (file places : List ℕ) (whole : List TermPosting) (width at : ℕ) (made : List ℕ) (f0 f1 : Option Files) (w0 w1 : BitWriting) (is : AreStored file places whole) →
    IsJoining width is.runs at made f0 f1 w0 w1 → 1 ≤ width → length places ≤ at → IsJoined width is.runs made f0 f1 w0 w1
joining_end file places whole width at made f0 f1 w0 w1 is joining some all =
    let size : length is.runs ≡ length places = stored_count file places whole is in
    record {
      wrote = subst (λ b. WroteBits w0 w1 f0 f1 b) (joined_bits width at is.runs joining.bits made joining.joined some (omega arith)) joining.wrote;
      stand = joined_places width at is.runs joining.bits made joining.joined some (omega arith);
    }

-- a part and the one that the next round writes have different names
pub other_apart : (base : List ℕ) (part : Part) → IsRunPart part → full_name base part ≢ full_name base (other part)
other_apart base Run is = apart base Run MergeA (λ e. omega arith)
other_apart base MergeA is = apart base MergeA MergeB (λ e. omega arith)
other_apart base MergeB is = apart base MergeB MergeA (λ e. omega arith)
other_apart base part is = absurd (omega (arith, is.low, is.high))

-- nothing was put by a writer that stands at the first bit
nothing_put : (w : BitWriting) (f : Option Files) → IsSome f → Holds w f → w.place ≡ 0 → bits_put w f ≡ []
nothing_put w f told holds zero = nil_from_length (bits_put w f) (holds.count told ∙ zero)

-- the runs that a round leaves
pub round_stored : (file places : List ℕ) (whole : List TermPosting) (width : ℕ) (next made : List ℕ) (f0 f1 : Option Files) (w0 w1 : BitWriting) (is : AreStored file places whole) →
    IsJoined width is.runs made f0 f1 w0 w1 → IsSome f0 → Holds w0 f0 → w0.place ≡ 0 → w1.place % 8 ≡ 0 →
    bits_of next ≡ bits_put w1 f1 ++ digits (to_byte w1.place) 0 → 1 ≤ width → width < length places → AreStored next made whole
round_stored file places whole width next made f0 f1 w0 w1 is joined told holds zero aligned bits some more =
    let empty = nothing_put w0 f0 told holds zero in
    let put : bits_put w1 f1 ≡ runs_bits (joined_runs width is.runs) = joined.wrote.told told ∙ ap (λ b. b ++ runs_bits (joined_runs width is.runs)) empty in
    stored_next file places next made whole width is some more (bits ∙ finished_bits w1.place (bits_put w1 f1) aligned ∙ put) joined.stand
