use Rattle.std.proofs.Common.{◌+◌, ◌-◌, ◌∙◌, ℕ, Some, ap, arith}
use Rattle.mg_defs.specs.RunBits.{doc_gap}
use Rattle.mg_runs.specs.declared.decode.Decoded.{Decoded}
use Rattle.mg_runs.proofs.Decoding.{plan, none_or_some, one_some}
use Rattle.mg_runs.proofs.decode.posting_in.Goals as goal

pub returns-in-None : goal.returns-in-None
returns-in-None c = record {
  told = λ x before small more e.
      let p = plan _ c.args.at c.args.last.now x more before small e in
      let a = c.number_in.ensures.told (x.term - c.args.last.now.term + 1) p.behind_gap p.gap p.first in
      absurd (none_or_some _ _ c.in-None.is a);
  in_document = tt;
  next = tt;
  onward = tt;
}

pub returns-in-None-number_in : goal.returns-in-None-number_in
returns-in-None-number_in c = record {
  told = λ x before small more e.
      let p = plan _ c.args.at c.args.last.now x more before small e in
      let a = one_some _ _ _ c.in-Some.is (c.number_in.ensures.told (x.term - c.args.last.now.term + 1) p.behind_gap p.gap p.first) in
      let b = rw a at c.number_in-2.ensures.told (doc_gap c.args.last.now x) p.behind_doc p.doc in
      absurd (none_or_some _ _ c.in-None-number_in.is (b p.second));
  in_document = tt;
  next = tt;
  onward = tt;
}

pub returns-in-None-number_in-2 : goal.returns-in-None-number_in-2
returns-in-None-number_in-2 c = record {
  told = λ x before small more e.
      let p = plan _ c.args.at c.args.last.now x more before small e in
      let a = one_some _ _ _ c.in-Some.is (c.number_in.ensures.told (x.term - c.args.last.now.term + 1) p.behind_gap p.gap p.first) in
      let b = rw a at c.number_in-2.ensures.told (doc_gap c.args.last.now x) p.behind_doc p.doc in
      let d = one_some _ _ _ c.in-Some-number_in.is (b p.second) in
      let f = rw d at c.number_in-3.ensures.told x.count more p.count in
      absurd (none_or_some _ _ c.in-None-number_in-2.is (f p.third));
  in_document = tt;
  next = tt;
  onward = tt;
}

pub returns-in-None-behind : goal.returns-in-None-behind
returns-in-None-behind c = record {
  told = λ x before small more e.
      let p = plan _ c.args.at c.args.last.now x more before small e in
      let a = one_some _ _ _ c.in-Some.is (c.number_in.ensures.told (x.term - c.args.last.now.term + 1) p.behind_gap p.gap p.first) in
      let b = rw a at c.number_in-2.ensures.told (doc_gap c.args.last.now x) p.behind_doc p.doc in
      let d = one_some _ _ _ c.in-Some-number_in.is (b p.second) in
      absurd (none_or_some _ _ c.in-None-behind.is (c.behind.ensures.told x before small (ap (λ n. n.value) a) (ap (λ n. n.value) d)));
  in_document = tt;
  next = tt;
  onward = tt;
}

pub returns : goal.returns
returns c = record {
  told = λ x before small more e.
      let p = plan _ c.args.at c.args.last.now x more before small e in
      let a = one_some _ _ _ c.in-Some.is (c.number_in.ensures.told (x.term - c.args.last.now.term + 1) p.behind_gap p.gap p.first) in
      let b = rw a at c.number_in-2.ensures.told (doc_gap c.args.last.now x) p.behind_doc p.doc in
      let d = one_some _ _ _ c.in-Some-number_in.is (b p.second) in
      let f = rw d at c.number_in-3.ensures.told x.count more p.count in
      let n = one_some _ _ _ c.in-Some-number_in-2.is (f p.third) in
      let h = one_some _ _ _ c.in-Some-behind.is (c.behind.ensures.told x before small (ap (λ k. k.value) a) (ap (λ k. k.value) d)) in
      let mk : ℕ → ℕ → ℕ → ℕ → Decoded = λ t u v w. record { posting = record { term = t; doc = u; count = v }; next = w } in
      let next = ap (λ k. k.next) n ∙ p.total in
      ap (λ k. Some (mk k c.in-Some-behind.found.1 c.in-Some-number_in-2.number.value c.in-Some-number_in-2.number.next)) (ap (λ k. k.0) h)
      ∙ ap (λ k. Some (mk x.term k c.in-Some-number_in-2.number.value c.in-Some-number_in-2.number.next)) (ap (λ k. k.1) h)
      ∙ ap (λ k. Some (mk x.term x.doc k c.in-Some-number_in-2.number.next)) (ap (λ k. k.value) n)
      ∙ ap (λ k. Some (mk x.term x.doc x.count k)) next;
  in_document = record { doc = c.in-Some-behind.ensures.doc; count = c.in-Some-number_in-2.ensures.range.0 };
  next = omega (arith, c.in-Some.ensures.next, c.in-Some-number_in.ensures.next, c.in-Some-number_in-2.ensures.next);
  onward = omega (arith, c.in-Some.ensures.onward, c.in-Some-number_in.ensures.onward, c.in-Some-number_in-2.ensures.onward);
}
