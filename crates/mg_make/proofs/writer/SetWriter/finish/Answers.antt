use Rattle.std.proofs.Common.{arith, ◌≡◌, ◌∙◌, IsSome, length, ap, inl, inr, refl, subst, sym}
use Rattle.mg_dev.specs.Causes.{Rose}
use Rattle.mg_dev.specs.declared.fault.Fault.{Fault}
use Rattle.mg_index.specs.Listing.{ListStops}
use Rattle.mg_count.specs.Plans.{IsPlanOf}
use Rattle.mg_dev.specs.Files.{GrewInPart, grown}
use Rattle.mg_dev.specs.Names.{full_name}
use Rattle.mg_dev.specs.declared.part.Part.TheVariants.{Head, Plain}
use Rattle.mg_defs.specs.Heads as heads
use Rattle.mg_defs.specs.Heads.{IsWithin}
use Rattle.mg_defs.specs.Stands.{head_of}
use Rattle.mg_defs.specs.Summaries.{run_cap}
use Rattle.mg_layout.specs.HeadAnswers.{fields_of}
use Rattle.mg_make.specs.Putting.{IsReady, OthersSame, Putting}
use Rattle.mg_make.specs.Summaries.{summary_by}
use Rattle.mg_make.proofs.HeadLaws.{empty_stands_for_none}
use Rattle.mg_make.proofs.HeadSteps.{append_others, append_stops, grown_whole, left_here, merge_a_here, merge_b_here, stands_here, stands_of}
use Rattle.mg_make.proofs.CallerLemmas.{others_more}
use Rattle.mg_make.proofs.Stopping.{tells_store}
use Rattle.mg_make.proofs.writer.SetWriter.finish.Goals as goal

pub returns-in-Err-clause-left : goal.returns-in-Err-clause-left
returns-in-Err-clause-left g c = λ fed told put plan_of. inl (empty_stands_for_none c.args.self.base (g.S.Store.files c.write_parts.new.store) (c.in-Err.ensures.gone told))

pub returns-in-Ok-write-clause-stands : goal.returns-in-Ok-write-clause-stands
returns-in-Ok-write-clause-stands g c = λ fed told put plan_of.
    let cap = run_cap c.args.self.limit in
    let piece = heads.head_bytes (head_of 2 cap c.args.self.plan.code fed) in
    let head : fields_of c.in-Ok.made.0 ≡ head_of 2 cap c.args.self.plan.code fed = c.in-Ok.ensures.head fed told put plan_of in
    let within : IsWithin (head_of 2 cap c.args.self.plan.code fed) = subst (λ h. IsWithin h) head c.in-Ok.ensures.within in
    let ready : IsReady cap (g.S.Store.files c.write_parts.new.store) c.args.self.base c.args.self.plan.code fed = c.in-Ok.ensures.ready fed told put plan_of in
    let gone = c.in-Ok.ensures.gone told in
    let still : IsSome (g.S.Store.files c.write_parts.new.store) = c.in-Ok.ensures.others.told ∙ told in
    let grew : (g.S.Store.files c.write.new.store) ≡ grown (g.S.Store.files c.write_parts.new.store) (full_name c.args.self.base Head) piece =
    subst (λ h. (g.S.Store.files c.write.new.store) ≡ grown (g.S.Store.files c.write_parts.new.store) (full_name c.args.self.base Head)
    (heads.head_bytes h)) head
    (subst (λ b. (g.S.Store.files c.write.new.store) ≡ grown (g.S.Store.files c.write_parts.new.store) (full_name b Head)
    (heads.head_bytes (fields_of c.in-Ok.made.0))) (ap (λ (v : Putting). v.base) c.self.view_is) c.in-Ok-write.ensures.content) in
    stands_here c.args.self.base fed cap c.args.self.plan.code (g.S.Store.files c.write_parts.new.store) (g.S.Store.files c.write.new.store) (length piece)
    still ready gone within.cap_low within.cap_high (grown_whole (g.S.Store.files c.write_parts.new.store) (g.S.Store.files c.write.new.store)
    (full_name c.args.self.base Head) piece grew) (omega arith)

pub returns-in-Ok-write-clause-merge_a : goal.returns-in-Ok-write-clause-merge_a
returns-in-Ok-write-clause-merge_a g c = λ fed told put plan_of.
    let cap = run_cap c.args.self.limit in
    let piece = heads.head_bytes (head_of 2 cap c.args.self.plan.code fed) in
    let head : fields_of c.in-Ok.made.0 ≡ head_of 2 cap c.args.self.plan.code fed = c.in-Ok.ensures.head fed told put plan_of in
    let within : IsWithin (head_of 2 cap c.args.self.plan.code fed) = subst (λ h. IsWithin h) head c.in-Ok.ensures.within in
    let ready : IsReady cap (g.S.Store.files c.write_parts.new.store) c.args.self.base c.args.self.plan.code fed = c.in-Ok.ensures.ready fed told put plan_of in
    let gone = c.in-Ok.ensures.gone told in
    let still : IsSome (g.S.Store.files c.write_parts.new.store) = c.in-Ok.ensures.others.told ∙ told in
    let grew : (g.S.Store.files c.write.new.store) ≡ grown (g.S.Store.files c.write_parts.new.store) (full_name c.args.self.base Head) piece =
    subst (λ h. (g.S.Store.files c.write.new.store) ≡ grown (g.S.Store.files c.write_parts.new.store) (full_name c.args.self.base Head)
    (heads.head_bytes h)) head
    (subst (λ b. (g.S.Store.files c.write.new.store) ≡ grown (g.S.Store.files c.write_parts.new.store) (full_name b Head)
    (heads.head_bytes (fields_of c.in-Ok.made.0))) (ap (λ (v : Putting). v.base) c.self.view_is) c.in-Ok-write.ensures.content) in
    merge_a_here c.args.self.base fed cap c.args.self.plan.code (g.S.Store.files c.write_parts.new.store) (g.S.Store.files c.write.new.store) (length piece)
    still ready gone within.cap_low within.cap_high (grown_whole (g.S.Store.files c.write_parts.new.store) (g.S.Store.files c.write.new.store)
    (full_name c.args.self.base Head) piece grew)

pub returns-in-Ok-write-clause-merge_b : goal.returns-in-Ok-write-clause-merge_b
returns-in-Ok-write-clause-merge_b g c = λ fed told put plan_of.
    let cap = run_cap c.args.self.limit in
    let piece = heads.head_bytes (head_of 2 cap c.args.self.plan.code fed) in
    let head : fields_of c.in-Ok.made.0 ≡ head_of 2 cap c.args.self.plan.code fed = c.in-Ok.ensures.head fed told put plan_of in
    let within : IsWithin (head_of 2 cap c.args.self.plan.code fed) = subst (λ h. IsWithin h) head c.in-Ok.ensures.within in
    let ready : IsReady cap (g.S.Store.files c.write_parts.new.store) c.args.self.base c.args.self.plan.code fed = c.in-Ok.ensures.ready fed told put plan_of in
    let gone = c.in-Ok.ensures.gone told in
    let still : IsSome (g.S.Store.files c.write_parts.new.store) = c.in-Ok.ensures.others.told ∙ told in
    let grew : (g.S.Store.files c.write.new.store) ≡ grown (g.S.Store.files c.write_parts.new.store) (full_name c.args.self.base Head) piece =
    subst (λ h. (g.S.Store.files c.write.new.store) ≡ grown (g.S.Store.files c.write_parts.new.store) (full_name c.args.self.base Head)
    (heads.head_bytes h)) head
    (subst (λ b. (g.S.Store.files c.write.new.store) ≡ grown (g.S.Store.files c.write_parts.new.store) (full_name b Head)
    (heads.head_bytes (fields_of c.in-Ok.made.0))) (ap (λ (v : Putting). v.base) c.self.view_is) c.in-Ok-write.ensures.content) in
    merge_b_here c.args.self.base fed cap c.args.self.plan.code (g.S.Store.files c.write_parts.new.store) (g.S.Store.files c.write.new.store) (length piece)
    still ready gone within.cap_low within.cap_high (grown_whole (g.S.Store.files c.write_parts.new.store) (g.S.Store.files c.write.new.store)
    (full_name c.args.self.base Head) piece grew)

pub returns-in-Ok-write-clause-left : goal.returns-in-Ok-write-clause-left
returns-in-Ok-write-clause-left g c = λ fed told put plan_of.
    let cap = run_cap c.args.self.limit in
    let piece = heads.head_bytes (head_of 2 cap c.args.self.plan.code fed) in
    let head : fields_of c.in-Ok.made.0 ≡ head_of 2 cap c.args.self.plan.code fed = c.in-Ok.ensures.head fed told put plan_of in
    let within : IsWithin (head_of 2 cap c.args.self.plan.code fed) = subst (λ h. IsWithin h) head c.in-Ok.ensures.within in
    let ready : IsReady cap (g.S.Store.files c.write_parts.new.store) c.args.self.base c.args.self.plan.code fed = c.in-Ok.ensures.ready fed told put plan_of in
    let gone = c.in-Ok.ensures.gone told in
    let still : IsSome (g.S.Store.files c.write_parts.new.store) = c.in-Ok.ensures.others.told ∙ told in
    let grew : (g.S.Store.files c.write.new.store) ≡ grown (g.S.Store.files c.write_parts.new.store) (full_name c.args.self.base Head) piece =
    subst (λ h. (g.S.Store.files c.write.new.store) ≡ grown (g.S.Store.files c.write_parts.new.store) (full_name c.args.self.base Head)
    (heads.head_bytes h)) head
    (subst (λ b. (g.S.Store.files c.write.new.store) ≡ grown (g.S.Store.files c.write_parts.new.store) (full_name b Head)
    (heads.head_bytes (fields_of c.in-Ok.made.0))) (ap (λ (v : Putting). v.base) c.self.view_is) c.in-Ok-write.ensures.content) in
    inr (stands_of cap (g.S.Store.files c.write.new.store) c.args.self.base fed
    (stands_here c.args.self.base fed cap c.args.self.plan.code (g.S.Store.files c.write_parts.new.store) (g.S.Store.files c.write.new.store) (length piece)
    still ready gone within.cap_low within.cap_high (grown_whole (g.S.Store.files c.write_parts.new.store) (g.S.Store.files c.write.new.store)
    (full_name c.args.self.base Head) piece grew) (omega arith)))

pub returns-in-Ok-write-clause-summary : goal.returns-in-Ok-write-clause-summary
returns-in-Ok-write-clause-summary g c = λ fed told put plan_of.
    let head : fields_of c.in-Ok.made.0 ≡ head_of 2 (run_cap c.args.self.limit) c.args.self.plan.code fed = c.in-Ok.ensures.head fed told put plan_of in
    c.of.ensures ∙ ap (λ (v : Putting). summary_by (fields_of c.in-Ok.made.0) c.in-Ok.made.1 v.limit) c.self.view_is
    ∙ ap (λ h. summary_by h c.in-Ok.made.1 c.args.self.limit) head
    ∙ ap (λ n. summary_by (head_of 2 (run_cap c.args.self.limit) c.args.self.plan.code fed) n c.args.self.limit) (c.in-Ok.ensures.peak fed put plan_of)

pub returns-in-Ok-write-clause-others : goal.returns-in-Ok-write-clause-others
returns-in-Ok-write-clause-others g c = others_more c.args.self.base (g.S.Store.files c.args.store.now) (g.S.Store.files c.write_parts.new.store)
    (g.S.Store.files c.write.new.store) c.in-Ok.ensures.others
    (subst (λ b. OthersSame b (g.S.Store.files c.write_parts.new.store) (g.S.Store.files c.write.new.store)) (ap (λ (v : Putting). v.base) c.self.view_is)
    (append_others c.self.inside.base.now _ (g.S.Store.files c.write_parts.new.store) (g.S.Store.files c.write.new.store) c.write.result
    c.write.ensures.content))

pub returns-in-Err-write-clause-left : goal.returns-in-Err-write-clause-left
returns-in-Err-write-clause-left g c = λ fed told put plan_of.
    let cap = run_cap c.args.self.limit in
    let piece = heads.head_bytes (head_of 2 cap c.args.self.plan.code fed) in
    let head : fields_of c.in-Ok.made.0 ≡ head_of 2 cap c.args.self.plan.code fed = c.in-Ok.ensures.head fed told put plan_of in
    let within : IsWithin (head_of 2 cap c.args.self.plan.code fed) = subst (λ h. IsWithin h) head c.in-Ok.ensures.within in
    let ready : IsReady cap (g.S.Store.files c.write_parts.new.store) c.args.self.base c.args.self.plan.code fed = c.in-Ok.ensures.ready fed told put plan_of in
    let gone = c.in-Ok.ensures.gone told in
    let still : IsSome (g.S.Store.files c.write_parts.new.store) = c.in-Ok.ensures.others.told ∙ told in
    left_here c.args.self.base fed cap c.args.self.plan.code (g.S.Store.files c.write_parts.new.store) (g.S.Store.files c.write.new.store) still ready gone within.cap_low within.cap_high
    (subst (λ h. GrewInPart (g.S.Store.files c.write_parts.new.store) (g.S.Store.files c.write.new.store) (full_name c.args.self.base Head) (heads.head_bytes h)) head
    (subst (λ b. GrewInPart (g.S.Store.files c.write_parts.new.store) (g.S.Store.files c.write.new.store) (full_name b Head)
    (heads.head_bytes (fields_of c.in-Ok.made.0))) (ap (λ (v : Putting). v.base) c.self.view_is) c.in-Err-write.ensures.content))

pub returns-in-Err-write-clause-others : goal.returns-in-Err-write-clause-others
returns-in-Err-write-clause-others g c = others_more c.args.self.base (g.S.Store.files c.args.store.now) (g.S.Store.files c.write_parts.new.store)
    (g.S.Store.files c.write.new.store) c.in-Ok.ensures.others
    (subst (λ b. OthersSame b (g.S.Store.files c.write_parts.new.store) (g.S.Store.files c.write.new.store)) (ap (λ (v : Putting). v.base) c.self.view_is)
    (append_others c.self.inside.base.now _ (g.S.Store.files c.write_parts.new.store) (g.S.Store.files c.write.new.store) c.write.result
    c.write.ensures.content))

pub returns-in-Err-write-clause-refused : goal.returns-in-Err-write-clause-refused
returns-in-Err-write-clause-refused g c = λ fed put. subst
    (λ (fault : Fault). ListStops (Rose (g.S.Store.faults c.args.store.now) (g.S.Store.faults c.write.new.store))
    (IsSome (g.S.Store.files c.args.store.now) × IsPlanOf c.args.self.plan fed) fault) (sym c.of_store.ensures)
    (append_stops _ _ _ c.in-Err-write.refusal _ c.in-Ok.ensures.later c.in-Err-write.ensures.cause)

pub returns-in-Err-clause-tells : goal.returns-in-Err-clause-tells
returns-in-Err-clause-tells g c = c.in-Err.ensures.tells

pub returns-in-Err-write-clause-tells : goal.returns-in-Err-write-clause-tells
returns-in-Err-write-clause-tells g c = λ fed put. inl (tells_store _ fed c.in-Err-write.refusal _ c.of_store.ensures)

pub returns-in-Err-clause-reads : goal.returns-in-Err-clause-reads
returns-in-Err-clause-reads g c = c.write_parts.ensures.reads

pub returns-in-Ok-write-clause-reads : goal.returns-in-Ok-write-clause-reads
returns-in-Ok-write-clause-reads g c = λ p run first second. c.write.ensures.reads p ∙ c.write_parts.ensures.reads p run first second

pub returns-in-Err-write-clause-reads : goal.returns-in-Err-write-clause-reads
returns-in-Err-write-clause-reads g c = λ p run first second. c.write.ensures.reads p ∙ c.write_parts.ensures.reads p run first second

pub returns-in-Err-clause-plain : goal.returns-in-Err-clause-plain
returns-in-Err-clause-plain g c = omega (arith, c.write_parts.ensures.reads Plain refl refl refl)

pub returns-in-Ok-write-clause-plain : goal.returns-in-Ok-write-clause-plain
returns-in-Ok-write-clause-plain g c = omega (arith, c.write_parts.ensures.reads Plain refl refl refl, c.write.ensures.reads Plain)

pub returns-in-Err-write-clause-plain : goal.returns-in-Err-write-clause-plain
returns-in-Err-write-clause-plain g c = omega (arith, c.write_parts.ensures.reads Plain refl refl refl, c.write.ensures.reads Plain)
