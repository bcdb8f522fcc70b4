-- Bytes on their way to a sink.
use Rattle.std.proofs.Common.{arith, ◌≡◌, ◌≤◌, ℕ, List, [], ◌++◌, length, Option, Result, Ok, Err, refl, sym, ◌∙◌, ap, subst, append-nil, append_assoc, length-append, length-take, take}
use Rattle.mg_dev.specs.Moments.{SinkAt}
use Rattle.mg_dev.specs.Streams.{AfterPut, appended, GrewByPrefix}
use Rattle.mg_dev.specs.StreamLaws.{appended-nil, appended-appended, grew_nothing, grew_second}
use Rattle.mg_dev.specs.declared.device.PutErr.{PutErr}
use Rattle.mg_text.specs.Decoding.{Added, AddedOf, Gathering, Keeps, Shown, bytes_to_come}

-- nothing was shown yet, and nothing is held
pub shown_none : (w : Option (List ℕ)) (b : Gathering) → b.held ≡ [] → Shown w w b [] b.left
shown_none w b empty = record { sent = []; told = sym (appended-nil w); whole = empty; rest = omega arith }

-- what is held stands for itself
pub shown_from : (w : Option (List ℕ)) (b : Gathering) → Shown w w b b.held (bytes_to_come b)
shown_from w b = record { sent = []; told = sym (appended-nil w); whole = refl; rest = refl }

-- what a buffer still takes may come behind what it holds
pub gather_fits : (b : Gathering) (doc : List ℕ) → length doc ≤ b.left → length (b.held ++ doc) ≤ bytes_to_come b
gather_fits b doc short = omega (arith, length-append b.held doc, short)

-- two pieces are held, one behind the other
pub keeps_both : (b0 b1 b2 : Gathering) (x y : List ℕ) → Keeps b0 b1 x → Keeps b1 b2 y → Keeps b0 b2 (x ++ y)
keeps_both b0 b1 b2 x y one two = record {
  held = two.held ∙ ap (λ h. h ++ y) one.held ∙ append_assoc b0.held x y;
  left = omega (arith, one.left, two.left, length-append x y);
}

-- as many bytes may come as before
pub keeps_most : (b b_now : Gathering) (piece : List ℕ) → Keeps b b_now piece → bytes_to_come b_now ≤ bytes_to_come b
keeps_most b b_now piece keeps = omega (arith, ap length keeps.held, length-append b.held piece, keeps.left)

pub shown_held : (before now : Option (List ℕ)) (b b_now : Gathering) (bytes piece : List ℕ) {most : ℕ} → Shown before now b bytes most → Keeps b b_now piece →
    Shown before now b_now (bytes ++ piece) most
shown_held before now b b_now bytes piece {most} shown keeps = record {
  sent = shown.sent;
  told = shown.told;
  whole = ap (λ h. shown.sent ++ h) keeps.held ∙ sym (append_assoc shown.sent b.held piece) ∙ ap (λ b. b ++ piece) shown.whole;
  rest = omega (arith, length-append bytes piece, shown.rest, keeps.left);
}

-- what was held went to the sink
pub shown_sent : (before now next : Option (List ℕ)) (b b_now : Gathering) (bytes : List ℕ) {most : ℕ} → Shown before now b bytes most → next ≡ appended now b.held →
    b_now ≡ record { held = []; left = b.left } → Shown before next b_now bytes most
shown_sent before now next b b_now bytes {most} shown sent empty = rw empty record {
  sent = shown.sent ++ b.held;
  told = sent ∙ ap (λ w. appended w b.held) shown.told ∙ appended-appended before shown.sent b.held;
  whole = append-nil (shown.sent ++ b.held) ∙ shown.whole;
  rest = shown.rest;
}

pub shown_grew : (before now next : Option (List ℕ)) (b : Gathering) (bytes : List ℕ) {most : ℕ} → Shown before now b bytes most → GrewByPrefix now next b.held → GrewByPrefix before next bytes
shown_grew before now next b bytes {most} shown grew = subst (GrewByPrefix before next) shown.whole (grew_second before now next shown.sent b.held shown.told grew)

-- what went to the sink is a prefix
pub shown_prefix : (before now : Option (List ℕ)) (b : Gathering) (bytes : List ℕ) {most : ℕ} → Shown before now b bytes most → GrewByPrefix before now bytes
shown_prefix before now b bytes {most} shown = shown_grew before now now b bytes shown (grew_nothing now b.held)

-- a buffer was emptied into the sink
pub shown_put : (r : Result (Unit {0}) PutErr) (before now next : Option (List ℕ)) (b : Gathering) (bytes : List ℕ) {most : ℕ} → Shown before now b bytes most →
    AfterPut now next b.held r → AfterPut before next bytes r
shown_put (Ok done) before now next b bytes {most} shown sent =
    sent ∙ ap (λ w. appended w b.held) shown.told ∙ appended-appended before shown.sent b.held ∙ ap (appended before) shown.whole
shown_put (Err refusal) before now next b bytes {most} shown grew = shown_grew before now next b bytes shown grew

pub added_none : (w : Option (List ℕ)) (f l : ℕ) → Added w w f f l l
added_none w f l = record { faults = omega arith; lacks = omega arith; bytes = []; told = sym (appended-nil w) }

pub added_more : (w0 w1 w2 : Option (List ℕ)) (f0 f1 f2 l0 l1 l2 : ℕ) → Added w0 w1 f0 f1 l0 l1 → Added w1 w2 f1 f2 l1 l2 → Added w0 w2 f0 f2 l0 l2
added_more w0 w1 w2 f0 f1 f2 l0 l1 l2 one two = record {
  faults = omega (arith, one.faults, two.faults);
  lacks = omega (arith, one.lacks, two.lacks);
  bytes = one.bytes ++ two.bytes;
  told = two.told ∙ ap (λ w. appended w two.bytes) one.told ∙ appended-appended w0 one.bytes two.bytes;
}

-- ---- the same of so many bytes at most

-- nothing was added, and no more may come
pub adds_none : {most most_now : ℕ} {out : SinkAt} → most_now ≤ most → AddedOf most most_now out out
adds_none {most} {most_now} {out} le = record { faults = omega arith; lacks = omega arith; bytes = []; told = sym (appended-nil out.written); few = omega (arith, le) }

pub adds_more : {a b c : ℕ} {out mid now : SinkAt} → AddedOf a b out mid → AddedOf b c mid now → AddedOf a c out now
adds_more {a} {b} {c} {out} {mid} {now} one two = record {
  faults = omega (arith, one.faults, two.faults);
  lacks = omega (arith, one.lacks, two.lacks);
  bytes = one.bytes ++ two.bytes;
  told = two.told ∙ ap (λ w. appended w two.bytes) one.told ∙ appended-appended out.written one.bytes two.bytes;
  few = omega (arith, length-append one.bytes two.bytes, one.few, two.few);
}

-- no more may come than might
pub adds_less : {a b c : ℕ} {out now : SinkAt} → AddedOf a b out now → c ≤ b → AddedOf a c out now
adds_less {a} {b} {c} {out} {now} one le = record {
  faults = one.faults;
  lacks = one.lacks;
  bytes = one.bytes;
  told = one.told;
  few = omega (arith, one.few, le);
}

-- so many at most, whatever may still come
pub adds_within : {a b : ℕ} {out now : SinkAt} (most : ℕ) → AddedOf a b out now → a ≤ most → AddedOf most 0 out now
adds_within {a} {b} {out} {now} most one le = record {
  faults = one.faults;
  lacks = one.lacks;
  bytes = one.bytes;
  told = one.told;
  few = omega (arith, one.few, le);
}

-- what was added, without how many bytes it is
pub adds_some : {a b : ℕ} {out now : SinkAt} → AddedOf a b out now → Added out.written now.written out.faults now.faults out.lacks now.lacks
adds_some {a} {b} {out} {now} one = record { faults = one.faults; lacks = one.lacks; bytes = one.bytes; told = one.told }

-- a buffer was emptied into the sink
pub put_adds : (r : Result (Unit {0}) PutErr) (b b_now : Gathering) (out now : SinkAt) → AfterPut out.written now.written b.held r → out.faults ≤ now.faults → out.lacks ≤ now.lacks →
    b_now ≡ record { held = []; left = b.left } → AddedOf (bytes_to_come b) (bytes_to_come b_now) out now
put_adds (Ok done) b b_now out now sent faults lacks empty = record {
  faults = faults;
  lacks = lacks;
  bytes = b.held;
  told = sent;
  few = rw empty (omega arith);
}
put_adds (Err refusal) b b_now out now grew faults lacks empty = record {
  faults = faults;
  lacks = lacks;
  bytes = take grew.count b.held;
  told = grew.is;
  few = rw empty (omega (arith, length-take grew.count b.held, grew.within));
}
