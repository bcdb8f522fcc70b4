use Rattle.std.proofs.Common.{arith, ◌≡◌, ◌≤◌, ◌∙◌, List, ℕ, length, inl, inr, refl, rules, ap, sym, subst, Err}
use Rattle.std.specs.Prelude.{IfOk, OnOk}
use Rattle.mg_dev.specs.Causes.{Rose}
use Rattle.mg_dev.specs.Runs.{IsDone, RefusedFor}
use Rattle.mg_dev.specs.declared.fault.Fault.TheVariants as fault
use Rattle.mg_dev.specs.declared.part.Part.TheVariants.{MergeA, MergeB}
use Rattle.mg_defs.specs.Join.{join}
use Rattle.mg_layout.specs.HeadAnswers.{fields_of}
use Rattle.mg_layout.specs.Stands.{StandsIn}
use Rattle.mg_make.specs.Putting.{IsEmptied, OthersSame}
use Rattle.mg_make.specs.Summaries.{summary_of}
use Rattle.mg_make.specs.declared.summary.Summary.{Summary}
use Rattle.mg_make.specs.Outcomes.{Left, most_bytes}
use Rattle.mg_make.proofs.CallerLemmas.{rose_behind}
use Rattle.mg_merge.specs.Merging.{BothStand, budget_of, joined_size}
use Rattle.mg_merge.specs.Texts.{AreSetsBy, TextsStand}
use Rattle.mg_merge.proofs.AnswerLaws.{joined_by, refused_by}
use Rattle.mg_merge.proofs.MergeLaws.{apart_of, both_in, cap_of, documents_all, done_all, early_at, one_size, pieces_all, refused_other, sets_by}
use Rattle.mg_merge.proofs.LookLaws.{outside_index}
use Rattle.mg_merge.proofs.LimitLaws.{cause_by_heads, early_by_heads, same_by_heads}
use Rattle.mg_merge.proofs.StopLaws.{heads_cause, heads_of_both, heads_only, none_missing, only_done, only_refused, read_cause, read_only}
use Rattle.mg_merge.proofs.TextLaws.{size_of_sets}
use Rattle.mg_merge.proofs.merging.merge_apart.Goals as goal

-- ---- the heads were not loaded

pub returns-in-Err-clause-joined : goal.returns-in-Err-clause-joined
returns-in-Err-clause-joined g c =
    let files = g.S.Store.files c.args.store.now in
    let first = c.args.first.now in
    let second = c.args.second.now in
    let refusal = c.in-Err.refusal in
    let stops = c.in-Err.ensures.refused in
    refused_by {T = Summary} first second c.args.new.now _ _ refusal (record { files = c.in-Err.ensures.looks.files; unread = c.in-Err.ensures.looks.unread }) c.requires.one c.requires.other
    (heads_cause _ _ files first second c.args.new.now refusal (λ rose. rose) stops)
    (λ told missing. refused_other refusal fault.NotBuilt (c.in-Err.ensures.missing told missing))
    (λ size told is big. only_refused _ refusal (fault.TooLarge size most_bytes) (heads_only _ files first second is.a is.b refusal told is.are stops))
    (λ a b both few. let heads = heads_of_both files first second a b both in
    only_refused _ refusal fault.TooManyDocuments (heads_only _ files first second heads.0 heads.1 refusal both.first_stands.told heads.2 stops))
    (λ a b stream both few. let heads = heads_of_both files first second a b both in
    only_refused _ refusal (fault.TooManyPieces stream) (heads_only _ files first second heads.0 heads.1 refusal both.first_stands.told heads.2 stops))
    (λ a b both limits never. let heads = heads_of_both files first second a b both in
    only_done Summary _ refusal never (heads_only _ files first second heads.0 heads.1 refusal both.first_stands.told heads.2 stops))

-- ---- both are too large by their heads

pub returns-then-size-gt-COLLECTION_BYTES-clause-joined : goal.returns-then-size-gt-COLLECTION_BYTES-clause-joined
returns-then-size-gt-COLLECTION_BYTES-clause-joined g c =
    let files = g.S.Store.files c.args.store.now in
    let first = c.args.first.now in
    let second = c.args.second.now in
    let one = c.in-Ok.heads.0 in
    let other = c.in-Ok.heads.1 in
    let size : ((a b : List ℕ) → BothStand files first second a b → joined_size (fields_of one) (fields_of other) ≡ length (join a b))
    = λ a b both. size_of_sets files first second a b one other (sets_by files files first second a b one other refl (c.in-Ok.ensures.heads both.first_stands.told) both) in
    let never : ((a b : List ℕ) → BothStand files first second a b → length (join a b) ≤ most_bytes → ⊥)
    = λ a b both few. omega (arith, few, size a b both, c.joined_size-size.ensures, c.if-size-gt-COLLECTION_BYTES.true) in
    refused_by {T = Summary} first second c.args.new.now _ _ (fault.TooLarge c.joined_size-size.result most_bytes) (record { files = c.in-Ok.ensures.looks.files; unread = c.in-Ok.ensures.looks.unread }) c.requires.one c.requires.other (
      refl,
      omega (arith, c.if-size-gt-COLLECTION_BYTES.true),
      λ told. record { a = fields_of one; b = fields_of other; are = c.in-Ok.ensures.heads told; size_is = c.joined_size-size.ensures },
    )
    (λ told missing. absurd (none_missing files first second (fields_of one) (fields_of other) (c.in-Ok.ensures.heads told) missing))
    (λ size told is big. inl (ap (λ n. Err (fault.TooLarge n most_bytes)) (c.joined_size-size.ensures
    ∙ one_size files first second (fields_of one) (fields_of other) size (c.in-Ok.ensures.heads told) is)))
    (λ a b both few. absurd (never a b both few))
    (λ a b stream both few. absurd (never a b both few))
    (λ a b both limits rose. absurd (never a b both limits.bytes))

-- ---- the texts were not loaded

pub returns-in-Err-load-clause-joined : goal.returns-in-Err-load-clause-joined
returns-in-Err-load-clause-joined g c =
    let files = g.S.Store.files c.args.store.now in
    let loaded = g.S.Store.files c.load_heads.new.store in
    let first = c.args.first.now in
    let second = c.args.second.now in
    let one = c.in-Ok.heads.0 in
    let other = c.in-Ok.heads.1 in
    let refusal = c.in-Err-load.refusal in
    let stops = c.in-Err-load.ensures.refused in
    let sets : ((a b : List ℕ) → BothStand files first second a b → AreSetsBy one other loaded first second a b)
    = λ a b both. sets_by files loaded first second a b one other c.in-Ok.ensures.looks.files (c.in-Ok.ensures.heads both.first_stands.told) both in
    refused_by {T = Summary} first second c.args.new.now _ _ refusal
    (record { files = c.in-Err-load.ensures.looks.files ∙ c.in-Ok.ensures.looks.files; unread = c.in-Err-load.ensures.looks.unread ∙ c.in-Ok.ensures.looks.unread }) c.requires.one c.requires.other
    (read_cause _ _ _ files first second c.args.new.now refusal (λ rose. rose_behind _ _ _ c.in-Ok.ensures.looks.later rose) (λ a b both. (a, b, sets a b both)) stops)
    (λ told missing. absurd (none_missing files first second (fields_of one) (fields_of other) (c.in-Ok.ensures.heads told) missing))
    (λ size told is big.
    let same : joined_size (fields_of one) (fields_of other) ≡ size = one_size files first second (fields_of one) (fields_of other) size (c.in-Ok.ensures.heads told) is in
    absurd (omega (arith, big, same, c.joined_size-size.ensures, c.if-size-gt-COLLECTION_BYTES.false)))
    (λ a b both few. only_refused _ refusal fault.TooManyDocuments (read_only _ _ refusal (a, b, sets a b both) stops))
    (λ a b stream both few. only_refused _ refusal (fault.TooManyPieces stream) (read_only _ _ refusal (a, b, sets a b both) stops))
    (λ a b both limits never.
    only_done Summary (Rose (g.S.Store.faults c.load_heads.new.store) (g.S.Store.faults c.load.new.store)) refusal (λ rose. never (rose_behind _ _ _ c.in-Ok.ensures.looks.later rose))
    (read_only _ _ refusal (a, b, sets a b both) stops))

-- ---- both passes

pub returns-clause-joined : goal.returns-clause-joined
returns-clause-joined g c =
    let files = g.S.Store.files c.args.store.now in
    let loaded = g.S.Store.files c.load_heads.new.store in
    let now = g.S.Store.files c.merge_texts-answer.new.store in
    let first = c.args.first.now in
    let second = c.args.second.now in
    let new = c.args.new.now in
    let one = c.in-Ok.heads.0 in
    let other = c.in-Ok.heads.1 in
    let answer = c.merge_texts-answer.result in
    let result = c.answer_by_heads.result in
    let made = c.merge_texts-answer.ensures.merged in
    let same = c.in-Ok-load.ensures.looks.files ∙ c.in-Ok.ensures.looks.files in
    let unread = c.in-Ok-load.ensures.looks.unread ∙ c.in-Ok.ensures.looks.unread in
    let rises : (Rose (g.S.Store.faults c.load.new.store) (g.S.Store.faults c.merge_texts-answer.new.store) → Rose (g.S.Store.faults c.args.store.now) (g.S.Store.faults c.merge_texts-answer.new.store))
    = λ rose. rose_behind _ _ _ (omega (arith, c.in-Ok.ensures.looks.later, c.in-Ok-load.ensures.looks.later)) rose in
    let stand : (List ℕ → Type 0) = TextsStand (g.D.Documents.texts c.in-Ok-load.texts) (g.S.Store.files c.load.new.store) in
    let sets : ((a b : List ℕ) → BothStand files first second a b → AreSetsBy one other loaded first second a b)
    = λ a b both. sets_by files loaded first second a b one other c.in-Ok.ensures.looks.files (c.in-Ok.ensures.heads both.first_stands.told) both in
    let stands : ((a b : List ℕ) → BothStand files first second a b → stand (join a b)) = λ a b both. c.in-Ok-load.ensures.stands a b (sets a b both) in
    let told : ((a b : List ℕ) → BothStand files first second a b → result ≡ answer)
    = λ a b both. same_by_heads loaded first second a b one other (sets a b both) answer result _ stand (stands a b both) made.refused c.answer_by_heads.ensures in
    joined_by first second new _ _ result
    (λ version cap a b is two.
    let both = both_in version cap files first second a b is two in
    let pool = cap_of version cap c.budget_of-budget.result files first second a one other is (c.in-Ok.ensures.heads is.told) c.budget_of-budget.ensures in
    subst (λ r. OnOk r (StandsIn 2 cap now new (join a b))) (sym (told a b both))
    (subst (λ n. OnOk answer (StandsIn 2 n now new (join a b))) pool.1 (made.written.stands (join a b) (stands a b both))))
    (λ a b both. subst (λ r. OnOk r (IsEmptied now new MergeA)) (sym (told a b both)) (made.written.merge_a (join a b) (stands a b both)))
    (λ a b both. subst (λ r. OnOk r (IsEmptied now new MergeB)) (sym (told a b both)) (made.written.merge_b (join a b) (stands a b both)))
    (subst (λ f. OthersSame new f now) same made.written.others)
    (made.index ∙ outside_index _ _ unread)
    (λ a b both. subst (λ f. Left new f now (join a b)) same (made.written.left (join a b) (stands a b both)))
    (early_by_heads (fields_of one) (fields_of other) answer result _ c.answer_by_heads.ensures (early_at answer _ _ (λ untouched. record { files = untouched.files ∙ same; unread = untouched.unread ∙ unread }) made.early))
    (cause_by_heads answer result _ _ stand files loaded first second new one other rises stands sets c.in-Ok.ensures.heads made.refused c.answer_by_heads.ensures)
    (λ is. elim is [ inl is ↦ absurd (c.requires.one is) | inr is ↦ absurd (c.requires.other is) ])
    (λ given apart_one apart_other missing. absurd (none_missing files first second _ _ (c.in-Ok.ensures.heads given) missing))
    (λ size given apart_one apart_other is big.
    let by_heads : joined_size (fields_of one) (fields_of other) ≡ size = one_size files first second (fields_of one) (fields_of other) size (c.in-Ok.ensures.heads given) is in
    absurd (omega (arith, big, by_heads, c.joined_size-size.ensures, c.if-size-gt-COLLECTION_BYTES.false)))
    (λ a b both apart_one apart_other few passes. subst (λ r. RefusedFor r fault.TooManyDocuments) (sym (told a b both))
    (documents_all answer _ stand (join a b) (stands a b both) passes (made.limits (join a b) (stands a b both)) made.refused))
    (λ a b stream x both apart_one apart_other few passes. subst (λ r. RefusedFor r (fault.TooManyPieces stream)) (sym (told a b both))
    (pieces_all answer _ stand (join a b) stream x (stands a b both) passes (made.limits (join a b) (stands a b both)) made.refused))
    (λ a b both apart_one apart_other limits never. subst (λ r. IsDone r) (sym (told a b both))
    (done_all answer _ (Rose (g.S.Store.faults c.args.store.now) (g.S.Store.faults c.merge_texts-answer.new.store)) stand (join a b) (stands a b both) limits rises never made.refused))

pub returns-clause-summary : goal.returns-clause-summary
returns-clause-summary g c = λ version cap a b is two.
    let files = g.S.Store.files c.args.store.now in
    let loaded = g.S.Store.files c.load_heads.new.store in
    let first = c.args.first.now in
    let second = c.args.second.now in
    let one = c.in-Ok.heads.0 in
    let other = c.in-Ok.heads.1 in
    let answer = c.merge_texts-answer.result in
    let made = c.merge_texts-answer.ensures.merged in
    let both = both_in version cap files first second a b is two in
    let sets = sets_by files loaded first second a b one other c.in-Ok.ensures.looks.files (c.in-Ok.ensures.heads is.told) both in
    let stand : (List ℕ → Type 0) = TextsStand (g.D.Documents.texts c.in-Ok-load.texts) (g.S.Store.files c.load.new.store) in
    let stands : stand (join a b) = c.in-Ok-load.ensures.stands a b sets in
    let pool = cap_of version cap c.budget_of-budget.result files first second a one other is (c.in-Ok.ensures.heads is.told) c.budget_of-budget.ensures in
    subst (λ r. IfOk r (λ (summary : Summary). summary ≡ summary_of (budget_of cap) (join a b)))
    (sym (same_by_heads loaded first second a b one other sets answer c.answer_by_heads.result _ stand stands made.refused c.answer_by_heads.ensures))
    (subst (λ n. IfOk answer (λ (summary : Summary). summary ≡ summary_of n (join a b))) pool.0 (made.written.summary (join a b) stands))

pub merge_texts-answer-requires : goal.merge_texts-answer-requires
merge_texts-answer-requires g c =
    let apart = apart_of c.args.new.now c.args.first.now c.args.second.now (g.D.Documents.texts c.in-Ok-load.texts) c.names_apart.ensures.bases c.requires.one
    c.requires.other c.in-Ok-load.ensures.of in
    λ k. ((refl, tt), (search rules, (search rules, record { fits = c.in-Ok-load.ensures.fits; apart = apart })))
