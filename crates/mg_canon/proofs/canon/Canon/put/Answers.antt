use Rattle.std.proofs.Common.{◌≡◌, ℕ, ◌<◌, List, length, get_or, sym, ap, ◌∙◌, subst, arith, OnOk}
use Rattle.std.proofs.lemmas.List.{get_or_default}
use Rattle.mg_defs.specs.Bits.{digits}
use Rattle.mg_defs.specs.Canon.{codeword, codeword_value}
use Rattle.mg_bits.specs.BitWriting.{WroteBits}
use Rattle.mg_canon.proofs.Decoding.{tables_good, codeword-digits}
use Rattle.mg_canon.proofs.canon.Canon.put.Goals as goal

at_zero : (items : List ℕ) (i x : ℕ) → x ≡ get_or items i x → i < length items → x ≡ get_or items i 0
at_zero items i x e h = e ∙ get_or_default items i x 0 h

pub returns-clause-bits : goal.returns-clause-bits
returns-clause-bits g c =
    let s = c.self.inside in
    let t = c.self.invariant.tables in
    let symbol : ℕ = c.args.symbol in
    let there : symbol < length s.lengths.items = subst (λ l. symbol < length l) (sym c.self.view_is) c.requires.symbol in
    let in_values : symbol < length s.values.items = omega (arith, t.value_count) in
    let value : c.from-value.result ≡ codeword_value s.lengths.items symbol = omega (
      arith,
      at_zero s.values.items symbol c.index.result.now c.index.ensures in_values,
      t.value_at symbol there,
    ) in
    let bits : c.from-length.result ≡ get_or s.lengths.items symbol 0 = omega (arith, at_zero s.lengths.items symbol c.index-2.result.now c.index-2.ensures there) in
    let code : codeword s.lengths.items symbol ≡ digits c.from-length.result c.from-value.result =
    codeword-digits s.lengths.items symbol (tables_good s.lengths.items s.values.items s.firsts s.offsets s.symbols.items t) there
    ∙ ap (λ v. digits (get_or s.lengths.items symbol 0) v) (sym value) ∙ ap (λ l. digits l c.from-value.result) (sym bits) in
    let put = subst (λ b. OnOk c.put.result (WroteBits c.args.writer.now c.put.new.self (g.S.Store.files c.args.store.now) (g.S.Store.files c.put.new.store) b)) (sym code) c.put.ensures.bits in
    subst (λ l. OnOk c.put.result (WroteBits c.args.writer.now c.put.new.self (g.S.Store.files c.args.store.now) (g.S.Store.files c.put.new.store) (codeword l symbol))) c.self.view_is put
