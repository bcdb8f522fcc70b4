use Rattle.std.proofs.Common.{arith, refl, sym, ◌∙◌, ◌≡◌, ◌<◌, ◌+◌, ◌*◌, ℕ, Bool, true, false, List, length, take, drop, ap, length-drop}
use Rattle.mg_defs.specs.Numbers.{four}
use Rattle.mg_dev.specs.Files.{bytes_at}
use Rattle.mg_bits.specs.Pages.{IsFilled}
use Rattle.mg_front.proofs.ReadPages.{four_page}
use Rattle.mg_front.proofs.reader.place_of.Goals as goal

read_four : (whole : Bool) (buf bytes : List ℕ) (at place n m : ℕ) → whole ≡ true → length buf ≡ 4 → IsFilled whole buf at bytes → four n ≡ buf → m ≡ n →
    at ≡ place → take 4 (drop place bytes) ≡ four m
read_four false buf bytes at place n m yes_whole long filled is same here = absurd cc
read_four true buf bytes at place n m yes_whole long filled is same here = ap (λ p. take 4 (drop p bytes)) (sym here)
    ∙ ap (λ k. take k (drop at bytes)) (sym long) ∙ sym filled ∙ sym is ∙ ap four (sym same)

no_four : (whole : Bool) (buf bytes : List ℕ) (at place : ℕ) → whole ≡ false → length buf ≡ 4 → IsFilled whole buf at bytes → at ≡ place → length bytes < place + 4
no_four true buf bytes at place ends long filled here = absurd cc
no_four false buf bytes at place ends long filled here = omega (arith, filled, long, here, length-drop at bytes)

pub returns-in-Ok-false : goal.returns-in-Ok-false
returns-in-Ok-false g c =
    let e = c.in-Ok-false.ensures in
    record {
      fits = e.fits;
      file = e.file;
      looked = e.looked;
      page = four_page c.args.places.now c.fill.new.self _ _ c.from.result e.part.pages;
      answer = record {
        is = record { part_is = c.part.ensures ∙ e.file.part; at_is = ap (λ n. 4 * n) c.from-in-Ok-false.ensures; low_is = refl; high_is = refl; found_is = refl };
        short = λ told. no_four c.in-Ok-false.field-0 c.fill.new.buf (bytes_at (g.S.Store.files c.args.store.now) c.args.places.now.name) (4 * c.from.result) (4 * c.args.block)
            c.in-Ok-false.field-0-test c.fill.auto.buf (e.told told) (ap (λ n. 4 * n) c.from.ensures);
      };
      cause = record { later = e.cause.later; device = tt };
    }

pub returns-in-Err : goal.returns-in-Err
returns-in-Err g c =
    let e = c.in-Err.ensures in
    record {
      fits = e.fits;
      file = e.file;
      looked = e.looked;
      page = four_page c.args.places.now c.fill.new.self _ _ c.from.result e.part.pages;
      answer = tt;
      cause = record { later = e.cause.later; device = e.cause.failed };
    }

pub returns : goal.returns
returns g c =
    let e = c.in-Ok-true.ensures in
    record {
      fits = e.fits;
      file = e.file;
      looked = e.looked;
      page = four_page c.args.places.now c.fill.new.self _ _ c.from.result e.part.pages;
      answer = (
        omega (arith, c.from-2.ensures),
        λ told. read_four c.in-Ok-true.field-0 c.fill.new.buf (bytes_at (g.S.Store.files c.args.store.now) c.args.places.now.name) (4 * c.from.result) (4 * c.args.block)
            c.number_of.result c.from-2.result c.in-Ok-true.field-0-test c.fill.auto.buf (e.told told) c.number_of.ensures c.from-2.ensures (ap (λ n. 4 * n) c.from.ensures),
      );
      cause = record { later = e.cause.later; device = tt };
    }
