-- The bits of a list of postings are those of no other list.
use Rattle.std.proofs.Common.{arith, ◌≡◌, ◌*◌, ◌-◌, ◌^◌, ◌≤◌, ◌<◌, ℕ, List, [], ◌∷◌, length, take, drop, refl, sym, ◌∙◌, ap, subst}
use Rattle.std.proofs.lemmas.List.{take-append-drop}
use Rattle.mg_defs.specs.declared.Posting.{Posting}
use Rattle.mg_defs.specs.Bits.{Bits, Begins}
use Rattle.mg_defs.specs.Answers.{UpTo}
use Rattle.mg_defs.specs.Codes.{golomb, gamma}
use Rattle.mg_defs.specs.Lists.{posting_bits, bits_after, last_doc, doc_before, bits_before, block_of, Follows, Rises}
use Rattle.mg_defs.proofs.FrontLaws.{begins_first, begins_second, one_stands}
use Rattle.mg_defs.proofs.CodeLaws.{golomb_free, gamma_free}
use Rattle.mg_defs.proofs.ListLaws.{block_stands, rises_left, rises_right}

same_posting : (d : ℕ) (p q : Posting) → d < p.doc → d < q.doc → p.doc - d ≡ q.doc - d → p.freq ≡ q.freq → p ≡ q
same_posting d p q lp lq gap freq =
    let doc : p.doc ≡ q.doc = omega arith in
    ap (λ n. let r : Posting = record { doc = n; freq = p.freq } in r) doc ∙ ap (λ n. let r : Posting = record { doc = q.doc; freq = n } in r) freq

pub one_posting : (b all d : ℕ) (p q : Posting) (s : Bits) → 1 ≤ b → b ≤ 2 ^ 64 → Follows all d p → Follows all d q → Begins (posting_bits b d p) s → Begins (posting_bits b d q) s → p ≡ q
unfolding posting_bits
one_posting b all d p q s some small fp fq hp hq =
    let gap : p.doc - d ≡ q.doc - d = one_stands (UpTo all) (golomb b) s (p.doc - d) (q.doc - d) (golomb_free b all some small)
    (omega (arith, fp.after), omega (arith, fp.within)) (omega (arith, fq.after), omega (arith, fq.within)) (begins_first _ _ s hp)
    (begins_first _ _ s hq) in
    let rest : Begins (gamma q.freq) (drop (length (golomb b (p.doc - d))) s) = subst (λ n. Begins (gamma q.freq) (drop (length (golomb b n)) s)) (sym gap) (begins_second _ _ s hq) in
    let freq : p.freq ≡ q.freq = one_stands (UpTo 4294967295) gamma _ p.freq q.freq (gamma_free 4294967295 (omega arith)) (fp.some, omega (arith, fp.fits))
    (fq.some, omega (arith, fq.fits)) (begins_second _ _ s hp) rest in
    same_posting d p q fp.after fq.after gap freq

pub one_list : (b all d : ℕ) (ps qs : List Posting) (s : Bits) → 1 ≤ b → b ≤ 2 ^ 64 → Rises all d ps → Rises all d qs → length ps ≡ length qs →
    Begins (bits_after b d ps) s → Begins (bits_after b d qs) s → ps ≡ qs
unfolding Rises bits_after
one_list b all d [] [] s some small rp rq same hp hq = refl
one_list b all d [] (q ∷ qs) s some small rp rq same hp hq = absurd (omega (arith, same))
one_list b all d (p ∷ ps) [] s some small rp rq same hp hq = absurd (omega (arith, same))
one_list b all d (p ∷ ps) (q ∷ qs) s some small rp rq same hp hq =
    let first : p ≡ q = one_posting b all d p q s some small rp.0 rq.0 (begins_first _ _ s hp) (begins_first _ _ s hq) in
    let rest : Rises all p.doc qs = subst (λ (r : Posting). Rises all r.doc qs) (sym first) rq.1 in
    let more : Begins (bits_after b p.doc qs) (drop (length (posting_bits b d p)) s) =
    subst (λ (r : Posting). Begins (bits_after b r.doc qs) (drop (length (posting_bits b d r)) s)) (sym first) (begins_second _ _ s hq) in
    let tail : ps ≡ qs = one_list b all p.doc ps qs (drop (length (posting_bits b d p)) s) some small rp.1 rest (omega (arith, same)) (begins_second _ _ s hp) more in
    ap (λ r. r ∷ ps) first ∙ ap (λ l. q ∷ l) tail

block_rises : (all k : ℕ) (ps : List Posting) → Rises all 0 ps → Rises all (doc_before (64 * k) ps) (block_of k ps)
unfolding doc_before block_of
block_rises all k ps h =
    rises_left all _ (take 64 (drop (64 * k) ps)) (drop 64 (drop (64 * k) ps))
    (subst (Rises all (last_doc 0 (take (64 * k) ps))) (sym (take-append-drop 64 (drop (64 * k) ps)))
    (rises_right all 0 (take (64 * k) ps) (drop (64 * k) ps) (subst (Rises all 0) (sym (take-append-drop (64 * k) ps)) h)))

pub one_block : (b all : ℕ) (ps qs : List Posting) (k : ℕ) (bits : Bits) → 1 ≤ b → b ≤ 2 ^ 64 → Rises all 0 ps → Begins (bits_after b 0 ps) bits →
    Rises all (doc_before (64 * k) ps) qs → length qs ≡ length (block_of k ps) → Begins (bits_after b (doc_before (64 * k) ps) qs) (drop (bits_before b (64 * k) ps) bits) → qs ≡ block_of k ps
one_block b all ps qs k bits some small rises stands rises_too same begins =
    one_list b all (doc_before (64 * k) ps) qs (block_of k ps) _ some small rises_too (block_rises all k ps rises) same begins (block_stands b ps k bits stands)
