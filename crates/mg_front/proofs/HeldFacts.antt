-- What is taken of the page that is held.
use Rattle.std.proofs.Common.{arith, zero, suc, ◌≡◌, ◌+◌, ◌*◌, ◌≤◌, ◌<◌, ◌++◌, ◌∙◌, ℕ, List, length, take, drop, Some, Ok, IsSome, refl, sym, ap, subst, length-take, append_assoc}
use Rattle.std.specs.declared.option.Option.{Option}
use Rattle.std.proofs.Math.Seq.{take-append-add}
use Rattle.std.proofs.lemmas.List.{take-take, take-append-drop}
use Rattle.mg_dev.specs.Files.{Files, Reads, bytes_at}
use Rattle.mg_bits.specs.Feed.{HoldsBits, ReadsWithin, held_after, of_store}
use Rattle.mg_bits.specs.Pages.{Fits, Paging, feeding_of}
use Rattle.mg_bits.proofs.CallerLemmas.{holds_inside, read_held}
use Rattle.mg_defs.specs.Front.{Found, entry_bytes, read_entry}
use Rattle.mg_defs.proofs.EntryLaws.{read_stands, read_written}
use Rattle.mg_front.specs.declared.entry.EntryAt.{EntryAt}
use Rattle.mg_front.specs.declared.entry.FrontEntry.{FrontEntry}
use Rattle.mg_front.specs.Entries.{ReadsEntry, TookEntry, TookHeld}
use Rattle.mg_front.specs.Looks.{ReadOn}
use Rattle.mg_front.proofs.ReadPages.{bytes_on_as, on_to}

-- of what was put behind the first bytes of a string, the first ones
pub put_fewer : (from count n : ℕ) (old new bytes : List ℕ) → count ≤ n → from ≤ length old → take (from + n) new ≡ take from old ++ take n bytes →
    take (from + count) new ≡ take from old ++ take count bytes
put_fewer from count n old new bytes fewer room put =
    let long : length (take from old) ≡ from = omega (arith, length-take from old) in
    sym (take-take (from + count) (from + n) new (omega arith)) ∙ ap (take (from + count)) put ∙ ap (λ k. take (k + count) (take from old ++ take n bytes)) (sym long)
    ∙ take-append-add (take from old) (take n bytes) count ∙ ap (λ t. take from old ++ t) (take-take count n bytes fewer)

-- the same bytes, by another word for what they mean
pub held_as : (width : ℕ) (meaning other : Option Found) (long size : ℕ) (before now out : FrontEntry) → other ≡ meaning →
    TookHeld width meaning long before now out size → TookHeld width other long before now out size
held_as width meaning other long size before now out same took = subst (λ m. TookHeld width m long before now out size) (sym same) took

pub was_taken : (width : ℕ) (meaning : Option Found) (long size : ℕ) (before now out : FrontEntry) → 0 < size → TookHeld width meaning long before now out size →
    TookEntry width meaning long now out size
was_taken width meaning long zero before now out some took = absurd (omega (arith, some))
was_taken width meaning long (suc n) before now out some took = took

pub was_left : (width : ℕ) (meaning : Option Found) (long size : ℕ) (before now out : FrontEntry) → size ≤ 0 → TookHeld width meaning long before now out size →
    now ≡ before
was_left width meaning long zero before now out none took = took.1
was_left width meaning long (suc n) before now out none took = absurd (omega (arith, none))

-- an entry that is read of the first bytes is read of all
read_longer : (width i : ℕ) (before page bytes : List ℕ) (it : Found) → page ≡ take (length page) bytes → read_entry width i before page ≡ Some it →
    read_entry width i before bytes ≡ Some it
read_longer width i before page bytes it first read =
    let stands = read_stands width i before page it read in
    let code = entry_bytes i before it.entry in
    let all : bytes ≡ code ++ (drop it.size page ++ drop (length page) bytes) = sym (take-append-drop (length page) bytes)
    ∙ ap (λ t. t ++ drop (length page) bytes) (sym first ∙ stands.front) ∙ append_assoc code (drop it.size page) (drop (length page) bytes) in
    ap (read_entry width i before) all ∙ read_written width i before it.entry (drop it.size page ++ drop (length page) bytes) stands.entry
    ∙ ap (λ (n : ℕ). Some (record { entry = it.entry; size = n })) (sym stands.size)

-- bytes of the page that is held are read on with no read
held_on : (a : Paging) (f : Option Files) (x : ℕ) (r : Reads) (at size n : ℕ) → 0 < size → size ≤ n → HoldsBits (feeding_of 4096 a) (8 * at) (8 * n) →
    ReadOn a a r r at (at + size)
held_on a f x r at size n some within holds =
    let inside = holds_inside (feeding_of 4096 a) (8 * at) (8 * at) (8 * n) (8 * size) (omega arith) (omega arith) (omega arith) (omega arith) holds in
    let read = read_held (feeding_of 4096 a) (of_store f x r) (8 * at) (8 * size) (omega arith) inside in
    let end : 8 * at + 8 * size ≡ 8 * (at + size) = omega arith in
    bytes_on_as a a r r at size size refl
    (subst (λ (e : ℕ). ReadsWithin (feeding_of 4096 a) (feeding_of 4096 a) (of_store f x r) (of_store f x r) (8 * at) e) end read.pages)
    (read.held ∙ ap (λ (e : ℕ). held_after 4096 a.held (8 * at) e) end)

-- an entry that was taken of the page that is held was read
pub entry_held : {a : Paging} {out last : FrontEntry} {f : Option Files} {r : Reads} {x : ℕ} (at : EntryAt) (size : ℕ) (before page : List ℕ) →
    Fits a f → ((files : Option Files) → Fits a files → IsSome files → page ≡ take (length page) (drop at.place (bytes_at files a.name))) →
    (0 < length page → HoldsBits (feeding_of 4096 a) (8 * at.place) (8 * length page)) → 0 < size →
    TookEntry at.width (read_entry at.width at.number before page) (length page) last out size →
    ReadsEntry a a at (read_entry at.width at.number before) out (Ok (Some size)) f f r r x x
entry_held {a} {out} {last} {f} {r} {x} at size before page fits told holds some took =
    let on = held_on a f x r at.place size (length page) some took.within (holds (omega (arith, some, took.within))) in
    record {
      read = record {
        fits = fits;
        file = record { name = refl; part = refl };
        looked = record { files = refl; faults = omega arith; later = λ q. omega arith; others = λ q apart. refl };
        read_to = on_to (omega (arith, took.most)) on;
        cause = record { later = omega arith; failed = tt };
      };
      told = λ is. read_longer at.width at.number before page (drop at.place (bytes_at f a.name)) _ (told f fits is) took.told;
      passed = record { most = took.most; read_on = on };
    }
