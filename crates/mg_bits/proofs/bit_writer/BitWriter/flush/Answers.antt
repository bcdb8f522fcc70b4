use Rattle.std.proofs.Common.{◌≡◌, ◌%◌, ℕ, sym, ◌∙◌}
use Rattle.mg_bits.proofs.PutLaws.{bytes_out, nothing_held}
use Rattle.mg_bits.proofs.bit_writer.BitWriter.flush.Goals as goal

no_rest : (count place : ℕ) → place % 8 ≡ 0 → place % 8 ≡ count → count ≡ 0
no_rest count place whole is = sym is ∙ whole

pub returns-clause-put : goal.returns-clause-put
returns-clause-put g c =
    rw (← c.self.view_is)
    (bytes_out c.self.inside.rest _ (no_rest c.self.inside.count c.self.inside.place (rw (← c.self.view_is) at c.requires.whole) c.self.invariant.2) c.finish.ensures)

pub returns-clause-nothing : goal.returns-clause-nothing
returns-clause-nothing g c =
    nothing_held c.finish.new.self c.self.inside.rest _ c.self.inside.place _
    (no_rest c.self.inside.count c.self.inside.place (rw (← c.self.view_is) at c.requires.whole) c.self.invariant.2) c.finish.ensures.nothing
