use Rattle.std.proofs.Common.{arith, ◌≡◌, ◌≤◌, ◌+◌, ◌-◌, ◌++◌, ℕ, Bool, true, false, List, length, take, drop, ap, ◌∙◌, length-take, length-drop}
use Rattle.std.proofs.lemmas.Slice.{take-put_mid}
use borrow.Rule.Slice.PartMut.{put_mid}
use Rattle.mg_dev.specs.Files.{bytes_at}
use Rattle.mg_bits.specs.Pages.{IsFilled}
use Rattle.mg_front.specs.Entries.{IsPut}
use Rattle.mg_front.proofs.ReadFacts.{if_ok}
use Rattle.mg_front.proofs.ReadPages.{bytes_to_as, bytes_on_as}
use Rattle.mg_front.proofs.entry.read_bytes.Goals as goal

put_told : (whole : Bool) (old buf bytes : List ℕ) (from count at : ℕ) → length buf ≡ length (take (from + count - from) (drop from old)) → from + count ≤ length old → IsFilled whole buf at
    bytes → IsPut whole old (put_mid from (from + count - from) old buf) from count at bytes
put_told true old buf bytes from count at long room filled =
    let n : length buf ≡ count = omega (arith, long, length-take (from + count - from) (drop from old), length-drop from old) in (
      take-put_mid from (from + count - from) old buf (from + count) (omega arith) (omega arith) ∙ ap (λ t. take from old ++ t) (filled ∙ ap (λ m. take m (drop at bytes)) n),
      omega (arith, n, ap length filled ∙ length-take (length buf) (drop at bytes)),
    )
put_told false old buf bytes from count at long room filled =
    let n : length buf ≡ count = omega (arith, long, length-take (from + count - from) (drop from old), length-drop from old) in
    omega arith

long : (from count : ℕ) (old : List ℕ) → from + count ≤ length old → length (take (from + count - from) (drop from old)) ≡ count
long from count old room = omega (arith, length-take (from + count - from) (drop from old), length-drop from old)

pub returns : goal.returns
returns g c =
    let e = c.fill.ensures in
    let count = long c.args.from c.args.count c.args.out.now c.requires.room in
    record {
      read = record {
        fits = e.fits;
        file = e.file;
        looked = e.looked;
        read_to = bytes_to_as c.args.feed.now c.fill.new.self _ _ c.args.at _ _ count e.part.pages;
        cause = e.cause;
      };
      told = λ told.
          if_ok c.fill.result _ _
          (λ whole filled. put_told whole _ _ (bytes_at (g.S.Store.files c.args.store.now) c.args.feed.now.name) c.args.from c.args.count c.args.at c.fill.auto.buf c.requires.room filled)
          (e.told told);
      read_on = if_ok c.fill.result _ _ (λ whole held is. bytes_on_as c.args.feed.now c.fill.new.self _ _ c.args.at _ _ count e.part.pages (held is)) e.held;
    }
