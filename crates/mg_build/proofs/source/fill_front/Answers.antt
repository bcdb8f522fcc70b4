use Rattle.std.proofs.Common.{◌≡◌, ◌+◌, ◌*◌, ◌∙◌, length, take, length-take-le, subst}
use Rattle.std.proofs.lemmas.Result.{IfOk-weaker}
use Rattle.mg_dev.specs.Files.{bytes_at}
use Rattle.mg_bits.specs.Feed.{held_after}
use Rattle.mg_build.proofs.BlockLaws.{front_told}
use Rattle.mg_build.proofs.source.fill_front.Goals as goal

pub returns-clause-told : goal.returns-clause-told
returns-clause-told g c = λ told.
    let long : length c.fill.new.buf ≡ c.args.count = c.fill.auto.buf ∙ length-take-le c.args.count c.args.block.now c.requires.room in
    IfOk-weaker c.fill.result _ _
    (λ whole filled. front_told whole c.args.block.now c.fill.new.buf (bytes_at (g.S.Store.files c.args.store.now) c.args.feed.now.name) c.args.count c.args.count c.args.at long filled)
    (c.fill.ensures.told told)

pub returns-clause-held : goal.returns-clause-held
returns-clause-held g c =
    let long : length (take c.args.count c.args.block.now) ≡ c.args.count = length-take-le c.args.count c.args.block.now c.requires.room in
    IfOk-weaker c.fill.result _ _
    (λ whole held is. subst (λ n. c.fill.new.self.held ≡ held_after 4096 c.args.feed.now.held (8 * c.args.at) (8 * (c.args.at + n))) long (held is))
    c.fill.ensures.held
