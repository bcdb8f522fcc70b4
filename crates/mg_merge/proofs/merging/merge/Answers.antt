use Rattle.std.proofs.Common.{◌≡◌, inl, inr, refl, rules}
use Rattle.mg_merge.proofs.AnswerLaws.{same_by}
use Rattle.mg_merge.proofs.merging.merge.Goals as goal

pub returns-then-eq-clause-joined : goal.returns-then-eq-clause-joined
returns-then-eq-clause-joined g c =
    let same : c.args.new.now ≡ c.args.first.now = search rules in
    same_by _ _ _ _ _ (record { files = refl; unread = refl }) (inl same)

pub returns-then-eq-2-clause-joined : goal.returns-then-eq-2-clause-joined
returns-then-eq-2-clause-joined g c =
    let same : c.args.new.now ≡ c.args.second.now = search rules in
    same_by _ _ _ _ _ (record { files = refl; unread = refl }) (inr same)
