use Rattle.std.proofs.Common.{refl, ◌∙◌, arith}
use Rattle.mg_gen.proofs.Words.{rest-is}
use Rattle.mg_gen.proofs.Making.{capital_made, no_capital}
use Rattle.mg_gen.proofs.writer.Writer.capital_pick.Goals as goal

pub returns-in_default-clause-made : goal.returns-in_default-clause-made
returns-in_default-clause-made c =
    no_capital c.args.self.now c.as_slice.result.now (c.as_slice.ensures.value ∙ c.pick-word.ensures.word) (omega arith) refl c.pick-word.ensures.state

pub returns-in-len1-up-clause-made : goal.returns-in-len1-up-clause-made
returns-in-len1-up-clause-made c =
    capital_made c.args.self.now c.as_slice.result.now c.to_ascii_uppercase.result _
    (c.as_slice.ensures.value ∙ c.pick-word.ensures.word) (omega arith) c.push.ensures.items c.to_ascii_uppercase.ensures.value (rest-is c.as_slice.result.now)
    c.pick-word.ensures.state c.put.ensures.made
