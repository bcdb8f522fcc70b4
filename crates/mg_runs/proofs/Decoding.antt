-- Numbers and postings that stand first are read.
use Rattle.std.proofs.Common.{◌≡◌, ℕ, ◌+◌, ◌-◌, ◌<◌, ◌≤◌, ◌^◌, List, ◌++◌, length, sym, ap, ◌∙◌, subst, arith, drop, Some, None, Ok, Err, append_assoc, length-append}
use Rattle.std.specs.declared.option.Option.{Option}
use Rattle.std.proofs.lemmas.Bool.Decides.{nat_tests}
use Rattle.std.proofs.lemmas.List.{drop-drop}
use Rattle.std.proofs.Math.Seq.{drop-append-add}
use Rattle.mg_defs.specs.Answers.{Answer, Answers, UpTo, value, end, over}
use Rattle.mg_defs.specs.Bits.{Bits}
use Rattle.mg_defs.specs.Codes.{gamma}
use Rattle.mg_defs.specs.Postings.{IsBefore}
use Rattle.mg_defs.specs.RunBits.{run_posting_bits, doc_gap}
use Rattle.mg_defs.specs.declared.TermPosting.{TermPosting}
use Rattle.mg_bits.specs.Feed.{over_slice}
use Rattle.mg_bits.specs.CodeAnswers.{AnswersCode, CodeCause}
use Rattle.mg_bits.specs.declared.code_err.CodeErr.{CodeErr}
use Rattle.mg_bits.specs.declared.code_err.CodeErr.TheVariants.{Device, End, Over}
use Rattle.mg_runs.specs.Decoding.{IsSmall}

-- what was put is got
abbrev pub GammaLaw : Type 0
GammaLaw = (limit x : ℕ) (more : Bits) (a : Answer) → limit < 2 ^ 64 → UpTo limit x → Answers (UpTo limit) gamma (gamma x ++ more) a → a ≡ value x

pub number_is : GammaLaw → (limit x v place : ℕ) (bits more : Bits) → limit ≤ 2 ^ 32 → UpTo limit x → bits ≡ gamma x ++ more → AnswersCode (Ok v) (UpTo limit) gamma limit place bits → v ≡ x
number_is law limit x v place bits more small taken e answers =
    let a : Answers (UpTo limit) gamma (gamma x ++ more) (value v) = subst (λ b. Answers (UpTo limit) gamma b (value v)) e answers in
    let same : value v ≡ value x = law limit x more (value v) (omega arith) taken a in
    cc

pub not_refused : GammaLaw → (e : CodeErr) (limit x place : ℕ) (bits more : Bits) → limit ≤ 2 ^ 32 → UpTo limit x → bits ≡ gamma x ++ more →
    AnswersCode (Err e) (UpTo limit) gamma limit place bits → CodeCause {T = ℕ} (Err e) 0 0 → ⊥
not_refused law Device limit x place bits more small taken e answers cause = absurd (omega (arith, cause))
not_refused law (End at) limit x place bits more small taken e answers cause =
    let a : Answers (UpTo limit) gamma (gamma x ++ more) end = subst (λ b. Answers (UpTo limit) gamma b end) e answers.1 in
    let same : end ≡ value x = law limit x more end (omega arith) taken a in
    cc
not_refused law (Over at most) limit x place bits more small taken e answers cause =
    let a : Answers (UpTo limit) gamma (gamma x ++ more) over = subst (λ b. Answers (UpTo limit) gamma b over) e answers.2 in
    let same : over ≡ value x = law limit x more over (omega arith) taken a in
    cc

-- a feed over bytes reads these bytes
pub over_same : (a b : List ℕ) → over_slice a ≡ over_slice b → a ≡ b
over_same a b e =
    let s : ◌≡◌ {A = Option (List ℕ)} (Some a) (Some b) = ap (λ f. f.source None) e in
    cc

-- what stands behind a code
pub behind_code : (at : ℕ) (bits code rest : Bits) → drop at bits ≡ code ++ rest → drop (at + length code) bits ≡ rest
behind_code at bits code rest e =
    let z : length code ≡ length code + 0 = omega arith in
    sym (drop-drop (length code) at bits) ∙ ap (λ b. drop (length code) b) e ∙ ap (λ n. drop n (code ++ rest)) z ∙ drop-append-add code rest 0

-- the three numbers of a posting, one behind the other
pub record Plan (bits : Bits) (at : ℕ) (last x : TermPosting) (more : Bits) : Type 0 where
  pub gap : UpTo (2 ^ 32) (x.term - last.term + 1)
  pub doc : UpTo (2 ^ 32 - 1) (doc_gap last x)
  pub count : UpTo (2 ^ 32 - 1) x.count
  pub behind_gap : Bits
  pub behind_doc : Bits
  pub first : drop at bits ≡ gamma (x.term - last.term + 1) ++ behind_gap
  pub second : drop (at + length (gamma (x.term - last.term + 1))) bits ≡ gamma (doc_gap last x) ++ behind_doc
  pub third : drop (at + length (gamma (x.term - last.term + 1)) + length (gamma (doc_gap last x))) bits ≡ gamma x.count ++ more
  pub total : at + length (gamma (x.term - last.term + 1)) + length (gamma (doc_gap last x)) + length (gamma x.count) ≡ at + length (run_posting_bits last x)

gap_fits : (last x : TermPosting) → IsBefore last x → IsSmall x → UpTo (2 ^ 32 - 1) (doc_gap last x)
gap_fits last x before small =
    let d = before.doc in let some = small.doc_some in let most = small.doc in let t = before.term in
    (grind (arith, nat_tests), grind (arith, nat_tests))

pub plan : (bits : Bits) (at : ℕ) (last x : TermPosting) (more : Bits) → IsBefore last x → IsSmall x → drop at bits ≡ run_posting_bits last x ++ more → Plan bits at last x more
unfolding run_posting_bits
plan bits at last x more before small e =
    let g : Bits = gamma (x.term - last.term + 1) in
    let d : Bits = gamma (doc_gap last x) in
    let n : Bits = gamma x.count in
    let t = small.term in
    let c = small.count in
    let first : drop at bits ≡ g ++ ((d ++ n) ++ more) = e ∙ append_assoc g (d ++ n) more in
    let second : drop (at + length g) bits ≡ d ++ (n ++ more) = behind_code at bits g ((d ++ n) ++ more) first ∙ append_assoc d n more in
    record {
      gap = (omega arith, omega arith);
      doc = gap_fits last x before small;
      count = (small.count_some, omega arith);
      behind_gap = (d ++ n) ++ more;
      behind_doc = n ++ more;
      first = first;
      second = second;
      third = behind_code (at + length g) bits d (n ++ more) second;
      total = omega (arith, length-append g (d ++ n), length-append d n);
    }

pub none_or_some : {T : Type 0} (r : Option T) (v : T) → r ≡ None → r ≡ Some v → ⊥
none_or_some r v a b = absurd (cc)

pub one_some : {T : Type 0} (r : Option T) (v w : T) → r ≡ Some v → r ≡ Some w → v ≡ w
one_some r v w a b = cc
