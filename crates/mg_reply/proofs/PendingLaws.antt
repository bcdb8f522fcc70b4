-- Laws of bytes on the way to a sink.
use Rattle.std.proofs.Common.{arith, ◌≡◌, ℕ, ◌≤◌, List, [], ◌++◌, Ok, Err, sym, ◌∙◌, ap, subst, append_assoc, append-nil}
use Rattle.std.specs.declared.result.Result.{Result}
use Rattle.std.specs.declared.option.Option.{Option}
use Rattle.mg_dev.specs.Causes.{HasLack, HasPutCause}
use Rattle.mg_dev.specs.Streams.{appended, AfterPut, GrewByPrefix}
use Rattle.mg_dev.specs.StreamLaws.{appended-nil, appended-appended, grew_first, grew_second}
use Rattle.mg_dev.specs.declared.device.PutErr.{PutErr}
use Rattle.mg_dev.specs.declared.sink.Sink as sinks
use Rattle.mg_reply.specs.Pending.{Passed, AfterPass, PassesText, PutsText}

pub pass_nothing : (w : Option (List ℕ)) (waiting : List ℕ) → Passed w w waiting waiting []
pass_nothing w waiting = record { sent = []; given = sym (appended-nil w); whole = sym (append-nil waiting) }

-- they wait
pub pass_kept : (w : Option (List ℕ)) (waited waiting bytes : List ℕ) → waiting ≡ waited ++ bytes → Passed w w waited waiting bytes
pass_kept w waited waiting bytes e = record { sent = []; given = sym (appended-nil w); whole = e }

-- what waited went to the sink, and then these wait
pub pass_after : (w0 w1 : Option (List ℕ)) (waited waiting bytes : List ℕ) → w1 ≡ appended w0 waited → waiting ≡ bytes → Passed w0 w1 waited waiting bytes
pass_after w0 w1 waited waiting bytes given e = record { sent = waited; given = given; whole = ap (λ b. waited ++ b) e }

-- all went to the sink, the bytes after what waited
pub pass_through : {T E : Type 0} (w0 w1 w2 : Option (List ℕ)) (waited waiting bytes : List ℕ) (r : Result T E) → w1 ≡ appended w0 waited → waiting ≡ [] →
    AfterPut w1 w2 bytes r → AfterPass w0 w2 waited waiting bytes r
pass_through w0 w1 w2 waited waiting bytes (Ok t) first none after = record {
  sent = waited ++ bytes;
  given = after ∙ ap (λ w. appended w bytes) first ∙ appended-appended w0 waited bytes;
  whole = ap (λ x. (waited ++ bytes) ++ x) none ∙ append-nil (waited ++ bytes);
}
pass_through w0 w1 w2 waited waiting bytes (Err e) first none grew = grew_second w0 w1 w2 waited bytes first grew

-- bytes after bytes
pub pass_both : (w0 w1 w2 : Option (List ℕ)) (p0 p1 p2 x y : List ℕ) → Passed w0 w1 p0 p1 x → Passed w1 w2 p1 p2 y → Passed w0 w2 p0 p2 (x ++ y)
pass_both w0 w1 w2 p0 p1 p2 x y one two = record {
  sent = one.sent ++ two.sent;
  given = two.given ∙ ap (λ w. appended w two.sent) one.given ∙ appended-appended w0 one.sent two.sent;
  whole = append_assoc one.sent two.sent p2 ∙ ap (λ t. one.sent ++ t) two.whole ∙ sym (append_assoc one.sent p1 y) ∙ ap (λ t. t ++ y) one.whole ∙ append_assoc p0 x y;
}

pub both_passed : {w0 w1 w2 : Option (List ℕ)} {p0 p1 p2 x y : List ℕ} → Passed w0 w1 p0 p1 x → Passed w1 w2 p1 p2 y → Passed w0 w2 p0 p2 (x ++ y)
both_passed {w0} {w1} {w2} {p0} {p1} {p2} {x} {y} = pass_both w0 w1 w2 p0 p1 p2 x y

-- the bytes after them were refused
pub pass_cut : (w0 w1 w2 : Option (List ℕ)) (p0 p1 x y : List ℕ) → Passed w0 w1 p0 p1 x → GrewByPrefix w1 w2 (p1 ++ y) → GrewByPrefix w0 w2 (p0 ++ (x ++ y))
pass_cut w0 w1 w2 p0 p1 x y one grew =
    subst (GrewByPrefix w0 w2) (sym (append_assoc one.sent p1 y) ∙ ap (λ t. t ++ y) one.whole ∙ append_assoc p0 x y) (grew_second w0 w1 w2 one.sent (p1 ++ y) one.given grew)

pub pass_more : {T E : Type 0} (w0 w1 w2 : Option (List ℕ)) (p0 p1 p2 x y : List ℕ) (r : Result T E) → Passed w0 w1 p0 p1 x → AfterPass w1 w2 p1 p2 y r → AfterPass w0 w2 p0 p2 (x ++ y) r
pass_more w0 w1 w2 p0 p1 p2 x y (Ok t) one two = pass_both w0 w1 w2 p0 p1 p2 x y one two
pass_more w0 w1 w2 p0 p1 p2 x y (Err e) one grew = pass_cut w0 w1 w2 p0 p1 x y one grew

pub then_passes : {T E : Type 0} {w0 w1 : Option (List ℕ)} {p0 p1 x : List ℕ} (w2 : Option (List ℕ)) (p2 y : List ℕ) (r : Result T E) → Passed w0 w1 p0 p1 x →
    AfterPass w1 w2 p1 p2 y r → AfterPass w0 w2 p0 p2 (x ++ y) r
then_passes {w0} {w1} {p0} {p1} {x} w2 p2 y r = pass_more w0 w1 w2 p0 p1 p2 x y r

-- the first of them were refused
pub pass_part : (w0 w1 : Option (List ℕ)) (p x y : List ℕ) → GrewByPrefix w0 w1 (p ++ x) → GrewByPrefix w0 w1 (p ++ (x ++ y))
pass_part w0 w1 p x y grew = subst (GrewByPrefix w0 w1) (append_assoc p x y) (grew_first w0 w1 (p ++ x) y grew)

-- what waits goes to the sink at last
pub pass_put : {T E : Type 0} (w0 w1 w2 : Option (List ℕ)) (p0 p1 x : List ℕ) (r : Result T E) → p0 ≡ [] → Passed w0 w1 p0 p1 x → AfterPut w1 w2 p1 r → AfterPut w0 w2 x r
pass_put w0 w1 w2 p0 p1 x (Ok t) none one after =
    after ∙ ap (λ w. appended w p1) one.given ∙ appended-appended w0 one.sent p1 ∙ ap (appended w0) (one.whole ∙ ap (λ p. p ++ x) none)
pass_put w0 w1 w2 p0 p1 x (Err e) none one grew =
    subst (GrewByPrefix w0 w2) (one.whole ∙ ap (λ p. p ++ x) none) (grew_second w0 w1 w2 one.sent p1 one.given grew)

pub pass_refused : (w0 w1 : Option (List ℕ)) (p x : List ℕ) → p ≡ [] → GrewByPrefix w0 w1 (p ++ x) → GrewByPrefix w0 w1 x
pass_refused w0 w1 p x none grew = subst (λ q. GrewByPrefix w0 w1 (q ++ x)) none grew

-- ---- why a call stops, after others

-- a failure's cause, and that of want of memory, stand behind an earlier moment
pub cause_behind : {T : Type 0} {f0 f1 f2 : ℕ} {r : Result T PutErr} → f0 ≤ f1 → HasPutCause f1 f2 r → HasPutCause f0 f2 r
cause_behind later cause = record { later = omega (arith, later, cause.later); failed = λ is. omega (arith, later, cause.failed is) }

pub lack_behind : {T : Type 0} {l0 l1 l2 : ℕ} {r : Result T PutErr} → l0 ≤ l1 → HasLack l1 l2 r → HasLack l0 l2 r
lack_behind later lack = record { later = omega (arith, later, lack.later); lacked = λ is. omega (arith, later, lack.lacked is) }

-- nothing was refused
pub no_cause : {T : Type 0} {f0 f1 : ℕ} {t : T} → f0 ≤ f1 → HasPutCause f0 f1 (Ok t)
no_cause later = record { later = later; failed = λ is. absurd cc }

pub no_lack : {T : Type 0} {l0 l1 : ℕ} {t : T} → l0 ≤ l1 → HasLack l0 l1 (Ok t)
no_lack later = record { later = later; lacked = λ is. absurd cc }

-- ---- a text that is passed on

-- nothing is
pub passes_nothing : {Y : Type 0} {of : sinks.Ghosts Y} {out : Y} {waiting : List ℕ} → PassesText of out out waiting waiting (Ok tt) []
passes_nothing = record { content = pass_nothing _ _; cause = no_cause (omega arith); lack = no_lack (omega arith) }

-- it waits
pub passes_kept : {Y : Type 0} {of : sinks.Ghosts Y} {out : Y} {waited waiting text : List ℕ} → waiting ≡ waited ++ text →
    PassesText of out out waited waiting (Ok tt) text
passes_kept is = record { content = pass_kept _ _ _ _ is; cause = no_cause (omega arith); lack = no_lack (omega arith) }

-- what waited was put, and then it waits
pub passes_after : {Y : Type 0} {of : sinks.Ghosts Y} {out out_now : Y} {waited waiting none text : List ℕ} → PutsText of out out_now (Ok tt) waited →
    none ≡ [] → waiting ≡ none ++ text → PassesText of out out_now waited waiting (Ok tt) text
passes_after {text = text} put empty is = record {
  content = pass_after _ _ _ _ _ put.content (is ∙ ap (λ x. x ++ text) empty);
  cause = no_cause put.cause.later;
  lack = no_lack put.lack.later;
}

-- what waited was put, and so was the text
pub passes_through : {Y : Type 0} {of : sinks.Ghosts Y} {out mid out_now : Y} {waited waiting text : List ℕ} {r : Result (Unit {0}) PutErr} →
    PutsText of out mid (Ok tt) waited → waiting ≡ [] → PutsText of mid out_now r text → PassesText of out out_now waited waiting r text
passes_through {r = r} first empty put = record {
  content = pass_through _ _ _ _ _ _ r first.content empty put.content;
  cause = cause_behind first.cause.later put.cause;
  lack = lack_behind first.lack.later put.lack;
}

-- what waited was refused
pub passes_none : {Y : Type 0} {of : sinks.Ghosts Y} {out out_now : Y} {waited waiting : List ℕ} {error : PutErr} (text : List ℕ) →
    PutsText of out out_now (Err error) waited → PassesText of out out_now waited waiting (Err error) text
passes_none text put = record { content = grew_first _ _ _ text put.content; cause = put.cause; lack = put.lack }

-- one behind another
pub passes_both : {Y : Type 0} {of : sinks.Ghosts Y} {out mid out_now : Y} {p0 p1 p2 x y : List ℕ} {r : Result (Unit {0}) PutErr} →
    PassesText of out mid p0 p1 (Ok tt) x → PassesText of mid out_now p1 p2 r y → PassesText of out out_now p0 p2 r (x ++ y)
passes_both {r = r} first then = record {
  content = then_passes _ _ _ r first.content then.content;
  cause = cause_behind first.cause.later then.cause;
  lack = lack_behind first.lack.later then.lack;
}

-- the first of them was refused
pub passes_part : {Y : Type 0} {of : sinks.Ghosts Y} {out out_now : Y} {p0 p1 x : List ℕ} {error : PutErr} (y : List ℕ) →
    PassesText of out out_now p0 p1 (Err error) x → PassesText of out out_now p0 p1 (Err error) (x ++ y)
passes_part y first = record { content = pass_part _ _ _ _ y first.content; cause = first.cause; lack = first.lack }

-- ---- a text that is put at once

-- it was passed on where nothing had waited, and then put
pub puts_passed : {Y : Type 0} {of : sinks.Ghosts Y} {out mid out_now : Y} {p0 p1 x : List ℕ} {r : Result (Unit {0}) PutErr} → p0 ≡ [] →
    PassesText of out mid p0 p1 (Ok tt) x → PutsText of mid out_now r p1 → PutsText of out out_now r x
puts_passed {r = r} none passed put = record {
  content = pass_put _ _ _ _ _ _ r none passed.content put.content;
  cause = cause_behind passed.cause.later put.cause;
  lack = lack_behind passed.lack.later put.lack;
}

-- it was refused
pub puts_refused : {Y : Type 0} {of : sinks.Ghosts Y} {out out_now : Y} {p0 p1 x : List ℕ} {error : PutErr} → p0 ≡ [] →
    PassesText of out out_now p0 p1 (Err error) x → PutsText of out out_now (Err error) x
puts_refused none passed = record { content = pass_refused _ _ _ _ none passed.content; cause = passed.cause; lack = passed.lack }

-- it is the same text
pub puts_same : {Y : Type 0} {of : sinks.Ghosts Y} {out out_now : Y} {x y : List ℕ} {r : Result (Unit {0}) PutErr} → x ≡ y → PutsText of out out_now r x →
    PutsText of out out_now r y
puts_same {of = of} {out = out} {out_now = out_now} {r = r} is put = subst (λ (text : List ℕ). PutsText of out out_now r text) is put
