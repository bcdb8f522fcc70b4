-- A document's text on its way to a sink: its header, what waits, the text, and what closes it.
use Rattle.std.proofs.Common.{◌≡◌, ℕ, List, [], ◌++◌, sym, ◌∙◌, ap, subst, append_assoc, append-nil}
use Rattle.std.specs.declared.option.Option.{Option}
use Rattle.mg_dev.specs.Streams.{GrewByPrefix, appended}
use Rattle.mg_dev.specs.StreamLaws.{appended-appended, grew_second}
use Rattle.mg_reply.specs.Pending.{Passed}
use Rattle.mg_reply.proofs.CallerLemmas.{pass_both, pass_cut, pass_part}

-- all that waited went to the sink
pub pass_flushed : {w0 w1 w2 : Option (List ℕ)} {p0 p1 p2 x : List ℕ} → Passed w0 w1 p0 p1 x → w2 ≡ appended w1 p1 → p2 ≡ [] → Passed w0 w2 p0 p2 x
pass_flushed {w0} {w1} {w2} {p0} {p1} {p2} {x} one given none = record {
  sent = one.sent ++ p1;
  given = given ∙ ap (λ w. appended w p1) one.given ∙ appended-appended w0 one.sent p1;
  whole = ap (λ p. (one.sent ++ p1) ++ p) none ∙ append-nil (one.sent ++ p1) ∙ one.whole;
}

pub flush_cut : (w0 w1 w2 : Option (List ℕ)) (p0 p1 x : List ℕ) → Passed w0 w1 p0 p1 x → GrewByPrefix w1 w2 p1 → GrewByPrefix w0 w2 (p0 ++ x)
flush_cut w0 w1 w2 p0 p1 x one grew = subst (GrewByPrefix w0 w2) one.whole (grew_second w0 w1 w2 one.sent p1 one.given grew)

-- bytes went straight to the sink where none waited
pass_straight : (w0 w1 w2 : Option (List ℕ)) (p0 p1 x y : List ℕ) → Passed w0 w1 p0 p1 x → p1 ≡ [] → w2 ≡ appended w1 y → Passed w0 w2 p0 p1 (x ++ y)
pass_straight w0 w1 w2 p0 p1 x y one none given =
    pass_both w0 w1 w2 p0 p1 p1 x y one (record { sent = y; given = given; whole = ap (λ p. y ++ p) none ∙ append-nil y ∙ ap (λ p. p ++ y) (sym none) })

-- ---- a document

pub header_cut : (w0 w1 : Option (List ℕ)) (p0 h d k : List ℕ) → GrewByPrefix w0 w1 (p0 ++ h) → GrewByPrefix w0 w1 (p0 ++ (h ++ (d ++ k)))
header_cut w0 w1 p0 h d k grew = pass_part w0 w1 p0 h (d ++ k) grew

pub doc_cut : {w0 w1 w2 : Option (List ℕ)} {p0 p1 h d : List ℕ} (k : List ℕ) → Passed w0 w1 p0 p1 h → p1 ≡ [] → GrewByPrefix w1 w2 d → GrewByPrefix w0 w2 (p0 ++ (h ++ (d ++ k)))
doc_cut {w0} {w1} {w2} {p0} {p1} {h} {d} k one none grew =
    let cut : GrewByPrefix w0 w2 (p0 ++ (h ++ d)) = pass_cut w0 w1 w2 p0 p1 h d one (subst (λ p. GrewByPrefix w1 w2 (p ++ d)) (sym none) grew) in
    subst (λ t. GrewByPrefix w0 w2 (p0 ++ t)) (append_assoc h d k) (pass_part w0 w2 p0 (h ++ d) k cut)

pub doc_closed : {w0 w1 w2 w3 : Option (List ℕ)} {p0 p1 p3 h k : List ℕ} (d : List ℕ) → Passed w0 w1 p0 p1 h → p1 ≡ [] → w2 ≡ appended w1 d → Passed w2 w3 p1 p3 k →
    Passed w0 w3 p0 p3 (h ++ (d ++ k))
doc_closed {w0} {w1} {w2} {w3} {p0} {p1} {p3} {h} {k} d one none given closed =
    subst (Passed w0 w3 p0 p3) (append_assoc h d k) (pass_both w0 w2 w3 p0 p1 p3 (h ++ d) k (pass_straight w0 w1 w2 p0 p1 h d one none given) closed)

pub close_cut : {w0 w1 w2 w3 : Option (List ℕ)} {p0 p1 h : List ℕ} (d k : List ℕ) → Passed w0 w1 p0 p1 h → p1 ≡ [] → w2 ≡ appended w1 d → GrewByPrefix w2 w3 (p1 ++ k) →
    GrewByPrefix w0 w3 (p0 ++ (h ++ (d ++ k)))
close_cut {w0} {w1} {w2} {w3} {p0} {p1} {h} d k one none given grew =
    subst (λ t. GrewByPrefix w0 w3 (p0 ++ t)) (append_assoc h d k) (pass_cut w0 w2 w3 p0 p1 (h ++ d) k (pass_straight w0 w1 w2 p0 p1 h d one none given) grew)
