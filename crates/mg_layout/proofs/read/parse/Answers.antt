use Rattle.std.proofs.Common.{arith, ◌≡◌, ◌≢◌, take, sym, ◌∙◌, ap, subst, slice_index}
use Rattle.std.proofs.lemmas.List.{take_all}
use Rattle.mg_layout.proofs.HeadFacts.{NarrowRead, WideRead, after_magic, all_is, is_part, narrow_answers, same_index, small_part}
use Rattle.mg_layout.proofs.HeadFacts.{tells_magic, tells_narrow_size, tells_wide_size, wide_answers, within_of}
use Rattle.mg_layout.proofs.read.parse.Goals as goal

pub returns-in-Err-clause-told : goal.returns-in-Err-clause-told
returns-in-Err-clause-told c = λ all is agree. tells_magic c.args.low c.args.high c.args.size c.args.bytes.now all c.in-Err.bad c.requires.size is agree c.in-Err.ensures

pub returns-then-size-ne-NARROW-clause-told : goal.returns-then-size-ne-NARROW-clause-told
returns-then-size-ne-NARROW-clause-told c = λ all is agree.
    let same : slice_index c.args.bytes.now 6 ≡ slice_index all 6 = same_index c.args.size c.args.bytes.now all 6 c.requires.size agree (omega arith) in
    tells_narrow_size all c.args.size c.bad.result _ _ (after_magic c.args.low c.args.high c.args.size c.args.bytes.now all c.requires.size is agree
    c.in-Ok.ensures.0) (omega (arith, same, c.in-Ok.ensures.1, c.if-version-eq1.true)) is c.if-size-ne-NARROW.true c.exactly.ensures c.bad.ensures

pub returns-then-size-ne-WIDE-clause-told : goal.returns-then-size-ne-WIDE-clause-told
returns-then-size-ne-WIDE-clause-told c = λ all is agree.
    let same : slice_index c.args.bytes.now 6 ≡ slice_index all 6 = same_index c.args.size c.args.bytes.now all 6 c.requires.size agree (omega arith) in
    let other : slice_index all 6 ≢ 49 = λ e. c.if-version-eq1.false (omega (arith, same, c.in-Ok.ensures.1, e)) in
    tells_wide_size all c.args.size c.bad-then-size-ne-WIDE.result _ _
    (after_magic c.args.low c.args.high c.args.size c.args.bytes.now all c.requires.size is agree c.in-Ok.ensures.0) other is c.if-size-ne-WIDE.true
    c.exactly-then-size-ne-WIDE.ensures c.bad-then-size-ne-WIDE.ensures

pub returns-else-size-ne-NARROW-clause-told : goal.returns-else-size-ne-NARROW-clause-told
returns-else-size-ne-NARROW-clause-told c = λ all is agree.
    let size_is : c.args.size ≡ 64 = omega (arith, c.if-size-ne-NARROW.false) in
    let same : slice_index c.args.bytes.now 6 ≡ slice_index all 6 = same_index c.args.size c.args.bytes.now all 6 c.requires.size agree (omega arith) in
    let whole : take c.args.size c.args.bytes.now ≡ all = all_is c.args.size c.args.bytes.now all is (omega arith) agree in
    let read : NarrowRead (take 64 c.args.bytes.now) c.read_narrow.result = c.read_narrow.ensures in
    narrow_answers c.args.low c.args.high all c.read_narrow.result c.requires.versions.first c.requires.versions.last
    (small_part c.args.size c.args.bytes.now all whole c.fits-bytes)
    (after_magic c.args.low c.args.high c.args.size c.args.bytes.now all c.requires.size is agree c.in-Ok.ensures.0)
    (omega (arith, same, c.in-Ok.ensures.1, c.if-version-eq1.true)) (is ∙ size_is) (subst (λ xs. NarrowRead xs c.read_narrow.result) (ap (λ n. take n c.args.bytes.now) (sym size_is) ∙ whole) read)

pub returns-else-size-ne-WIDE-clause-told : goal.returns-else-size-ne-WIDE-clause-told
returns-else-size-ne-WIDE-clause-told c = λ all is agree.
    let size_is : c.args.size ≡ 80 = omega (arith, c.if-size-ne-WIDE.false) in
    let same : slice_index c.args.bytes.now 6 ≡ slice_index all 6 = same_index c.args.size c.args.bytes.now all 6 c.requires.size agree (omega arith) in
    let other : slice_index all 6 ≢ 49 = λ e. c.if-version-eq1.false (omega (arith, same, c.in-Ok.ensures.1, e)) in
    let whole : take c.args.size c.args.bytes.now ≡ all = all_is c.args.size c.args.bytes.now all is (omega arith) agree in
    let read : WideRead c.args.bytes.now c.read_wide.result = c.read_wide.ensures in
    let full : c.args.bytes.now ≡ all = sym (take_all c.args.size c.args.bytes.now (omega (arith, size_is, c.told-bytes))) ∙ whole in
    wide_answers c.args.low c.args.high all c.read_wide.result c.requires.versions.first c.requires.versions.last (small_part c.args.size c.args.bytes.now all whole c.fits-bytes)
    (after_magic c.args.low c.args.high c.args.size c.args.bytes.now all c.requires.size is agree c.in-Ok.ensures.0)
    other (is ∙ size_is) (subst (λ xs. WideRead xs c.read_wide.result) full read)

pub returns-else-size-ne-NARROW-clause-within : goal.returns-else-size-ne-NARROW-clause-within
returns-else-size-ne-NARROW-clause-within c =
    let p = is_part c.args.size c.args.bytes.now (omega (arith, c.if-size-ne-NARROW.false)) c.told-bytes in
    within_of c.args.low c.args.high (take c.args.size c.args.bytes.now) c.read_narrow.result (returns-else-size-ne-NARROW-clause-told c (take c.args.size c.args.bytes.now) p.0 p.1)

pub returns-else-size-ne-WIDE-clause-within : goal.returns-else-size-ne-WIDE-clause-within
returns-else-size-ne-WIDE-clause-within c =
    let p = is_part c.args.size c.args.bytes.now (omega (arith, c.if-size-ne-WIDE.false)) c.told-bytes in
    within_of c.args.low c.args.high (take c.args.size c.args.bytes.now) c.read_wide.result (returns-else-size-ne-WIDE-clause-told c (take c.args.size c.args.bytes.now) p.0 p.1)
