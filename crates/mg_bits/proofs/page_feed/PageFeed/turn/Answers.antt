use Rattle.std.proofs.Common.{arith, ap, ◌∙◌, ◌≡◌, length, refl}
use Rattle.std.proofs.lemmas.Nat.{div-add-mod'}
use Rattle.mg_bits.proofs.WindowLaws.{asks_byte, lent_back}
use Rattle.mg_bits.proofs.page_feed.PageFeed.turn.Goals as goal

pub returns : goal.returns
returns g c =
    let e = c.window_byte-answer.ensures in
    let items = c.self.inside.page.items in
    let before : length c.deref_mut.result.now ≡ length items = ap length c.deref_mut.ensures.value in
    let long : length c.deref_mut.result.now ≡ 4096 = before ∙ c.self.invariant.0 in
    let now : length c.window_byte-answer.new.page ≡ length c.deref_mut.result.now = c.window_byte-answer.auto.page in
    let back = lent_back c.window_byte-answer.new.page items c.self.inside.page.len (now ∙ before) (omega (arith, c.self.inside.page.ok.0)) in
    rw (← c.self.view_is)
    (asks_byte (record { held = rw back (rw (now ∙ long) at e.window.agrees) }) (record { name = refl; part = refl }) (rw (long, div-add-mod' c.args.at 4096) at e.byte))
