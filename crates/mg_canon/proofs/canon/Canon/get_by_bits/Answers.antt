use Rattle.std.proofs.Common.{◌≡◌, ℕ, ◌+◌, ◌-◌, ◌*◌, ◌++◌, [], ◌∷◌, suc, refl, sym, ap, get_or, ◌∙◌, subst, arith, add-one}
use Rattle.mg_defs.specs.Bits.{digits}
use Rattle.mg_defs.proofs.BitLaws.{length_digits}
use Rattle.mg_bits.proofs.CallerLemmas.{read_a_bit, read_nothing}
use Rattle.mg_canon.specs.Tables.{IsSymbolAt}
use Rattle.mg_canon.proofs.Decoding.{Walk, by_tables, digits-more, ends_nowhere, ends_with, tables_good, walk_start}
use Rattle.mg_canon.proofs.SymbolReads.{symbol_cut, symbol_none, symbol_read}
use Rattle.mg_canon.proofs.canon.Canon.get_by_bits.Goals as goal

pub loop-reader-init : goal.loop-reader-init
unfolding digits
loop-reader-init g c = record {
  read = read_nothing c.requires.fits;
  walk = walk_start _ (tables_good _ _ _ _ _ c.self.invariant.tables);
}

pub bit-requires-clause-place : goal.bit-requires-clause-place
bit-requires-clause-place g c = omega (arith, c.loop-reader.invariant.read.place, length_digits c.loop-reader.read c.loop-reader.value, c.loop-reader.invariant.walk.short)

pub loop-reader-smaller : goal.loop-reader-smaller
loop-reader-smaller g c =
    let goes = by_tables c.self.invariant.tables (rw (← c.self.view_is) at c.requires.some) c.loop-reader.invariant.walk c.loop-reader-test.ensures.more in
    omega (arith, goes.on)

pub loop-reader-preserved : goal.loop-reader-preserved
loop-reader-preserved g c =
    let i = c.loop-reader.invariant in
    let goes = by_tables c.self.invariant.tables (rw (← c.self.view_is) at c.requires.some) i.walk c.loop-reader-test.ensures.more in
    let next : digits (c.loop-reader.read + 1) (2 * c.loop-reader.value + c.number_of.result) ≡ digits c.loop-reader.read c.loop-reader.value ++ c.in-Ok.bit ∷ [] =
    ap (λ n. digits n (2 * c.loop-reader.value + c.number_of.result)) (add-one c.loop-reader.read)
    ∙ ap (λ r. digits (suc c.loop-reader.read) (2 * c.loop-reader.value + r)) c.number_of.ensures ∙ digits-more c.loop-reader.read c.loop-reader.value c.in-Ok.bit in
    record {
      read = rw next (read_a_bit (g.met.F.Feed.whole_pages c.args.reader.now.feed).some i.read c.in-Ok.ensures);
      walk = subst (λ r. Walk c.self.inside.lengths.items (c.loop-reader.read + 1) (2 * c.loop-reader.value + r)) (sym c.number_of.ensures) (goes.more c.in-Ok.bit);
    }

pub returns-in-Err : goal.returns-in-Err
returns-in-Err g c =
    rw (← c.self.view_is, c.refused.ensures, c.place-start.ensures)
    (symbol_cut c.loop-reader.invariant.read (g.met.F.Feed.whole_pages c.args.reader.now.feed).some
    (by_tables c.self.invariant.tables (rw (← c.self.view_is) at c.requires.some) c.loop-reader.invariant.walk c.loop-reader-test.ensures.more)
    c.in-Err.ensures c.seek.ensures.feed (omega (arith, c.seek.ensures.place, c.place-start.ensures)))

pub returns-in-None : goal.returns-in-None
returns-in-None g c =
    rw (← c.self.view_is, c.place-start.ensures)
    (symbol_none c.loop-reader.invariant.read
    (ends_nowhere c.self.invariant.tables (rw (← c.self.view_is) at c.requires.some) c.loop-reader.invariant.walk c.loop-reader-test.ensures.some
    c.loop-reader-test.ensures.stop (rw (← c.self.view_is) at c.in-None.ensures.none))
    c.seek-in-None.ensures.feed (omega (arith, c.seek-in-None.ensures.place, c.place-start.ensures)))

pub returns-in-Some : goal.returns-in-Some
returns-in-Some g c =
    let place : ℕ = get_or c.self.inside.offsets c.loop-reader.read 0 + (c.loop-reader.value - get_or c.self.inside.firsts c.loop-reader.read 0) in
    rw (← c.self.view_is)
    (symbol_read c.loop-reader.invariant.read
    (ends_with c.self.invariant.tables (rw (← c.self.view_is) at c.requires.some) c.loop-reader.invariant.walk c.loop-reader-test.ensures.some
    c.loop-reader-test.ensures.stop c.in-Some.symbol place refl (rw (← c.self.view_is) at c.in-Some.ensures.within)
    (subst (λ l. IsSymbolAt l place c.in-Some.symbol) (sym c.self.view_is) c.in-Some.ensures.is)))
