-- Laws of a Boolean answer.
use Rattle.std.proofs.Common.{◌≡◌, ℕ, ◌+◌, ◌≤◌, ◌^◌, true, false, List, [], ◌∷◌, ◌++◌, length, refl, sym, ◌∙◌, ap, subst, arith, append_assoc, append-nil, length-append}
use Rattle.std.specs.Prelude.{flat_map}
use Rattle.std.specs.declared.option.Option.{Option}
use Rattle.std.specs.declared.result.Result.{Result}
use Rattle.mg_dev.specs.Streams.{GrewByPrefix, AfterPut}
use Rattle.mg_dev.specs.StreamLaws.{grew_first}
use Rattle.mg_defs.specs.Split.{documents}
use Rattle.mg_defs.specs.Terms.{document}
use Rattle.mg_defs.specs.Sat.{Query, satisfies}
use Rattle.mg_defs.specs.declared.session.Settings.{Settings}
use Rattle.mg_defs.specs.Weights.{limited_to}
use Rattle.mg_defs.specs.Texts.{count}
use Rattle.mg_defs.specs.ShownAnswers.{plain, found, shown, answer_text, satisfying}
use Rattle.mg_defs.specs.Replies.{hit_text}
use Rattle.mg_defs.proofs.ReplyLaws.{none_first, hit_adds, reply-front, found-hit, found-miss, document_at}
use Rattle.mg_reply.specs.Pending.{Passed}
use Rattle.mg_reply.proofs.CallerLemmas.{pass_nothing, pass_both, pass_cut, pass_put}
use Rattle.mg_plain.specs.BooleanUnderWay.{FoundSoFar}
use Rattle.mg_plain.proofs.DocumentLaws.{few_documents, short_document}

-- ---- one document after another

pub so_far_start : (collection : List ℕ) (q : Query) (now : Settings) (w : Option (List ℕ)) → FoundSoFar collection q now w w [] 0 0 (documents collection)
so_far_start collection q now w = record {
  front = [];
  docs_is = refl;
  count = refl;
  so_far = [];
  split = refl;
  total_is = refl;
  passed = subst (λ xs. Passed w w [] [] (flat_map (shown collection now.mode) xs)) (sym (none_first now.most)) (pass_nothing w []);
}

pub so_far_miss : {collection : List ℕ} {q : Query} {now : Settings} {w0 w : Option (List ℕ)} {waiting : List ℕ} {number total : ℕ} {doc : List ℕ}
    {before rest : List (List ℕ)} → FoundSoFar collection q now w0 w waiting number total before → before ≡ doc ∷ rest → satisfies q doc ≡ false →
    FoundSoFar collection q now w0 w waiting (number + 1) total rest
so_far_miss {q} {number} {doc} {rest} s e miss = record {
  front = s.front ++ doc ∷ [];
  docs_is = s.docs_is ∙ ap (λ r. s.front ++ r) e ∙ sym (append_assoc s.front (doc ∷ []) rest);
  count = omega (arith, length-append s.front (doc ∷ []), s.count);
  so_far = s.so_far;
  split = s.split ∙ ap (λ r. s.so_far ++ found q (number + 1) r) e ∙ ap (λ r. s.so_far ++ r) (found-miss q (number + 1) doc rest miss);
  total_is = s.total_is;
  passed = s.passed;
}

is_there : {collection : List ℕ} {q : Query} {now : Settings} {w0 w : Option (List ℕ)} {waiting : List ℕ} {number total : ℕ} {doc : List ℕ}
    {before rest : List (List ℕ)} → FoundSoFar collection q now w0 w waiting number total before → before ≡ doc ∷ rest →
    document collection (number + 1) ≡ doc
is_there {collection} {number} {doc} {rest} s e =
    document_at collection doc s.front rest (number + 1) (s.docs_is ∙ ap (λ r. s.front ++ r) e) (omega (arith, s.count))

pub so_far_hit : {collection : List ℕ} {q : Query} {now : Settings} {w0 w w2 : Option (List ℕ)} {waiting waiting2 : List ℕ} {number total : ℕ}
    {doc : List ℕ} {before rest : List (List ℕ)} → FoundSoFar collection q now w0 w waiting number total before → before ≡ doc ∷ rest →
    satisfies q doc ≡ true → Passed w w2 waiting waiting2 (hit_text doc now.mode now.most total (plain (number + 1))) →
    FoundSoFar collection q now w0 w2 waiting2 (number + 1) (total + 1) rest
so_far_hit {collection} {q} {now} {w0} {w} {w2} {waiting} {waiting2} {number} {total} {doc} {rest} s e hit given =
    let whole : Passed w0 w2 [] waiting2 (flat_map (shown collection now.mode) (limited_to now.most s.so_far) ++ hit_text doc now.mode now.most total (plain (number + 1))) =
    pass_both w0 w w2 [] waiting waiting2 (flat_map (shown collection now.mode) (limited_to now.most s.so_far)) (hit_text doc now.mode now.most total (plain (number + 1))) s.passed given in
    record {
      front = s.front ++ doc ∷ [];
      docs_is = s.docs_is ∙ ap (λ r. s.front ++ r) e ∙ sym (append_assoc s.front (doc ∷ []) rest);
      count = omega (arith, length-append s.front (doc ∷ []), s.count);
      so_far = s.so_far ++ plain (number + 1) ∷ [];
      split = s.split ∙ ap (λ r. s.so_far ++ found q (number + 1) r) e ∙ ap (λ r. s.so_far ++ r) (found-hit q (number + 1) doc rest hit)
          ∙ sym (append_assoc s.so_far (plain (number + 1) ∷ []) (found q (number + 1 + 1) rest));
      total_is = omega (arith, length-append s.so_far (plain (number + 1) ∷ []), s.total_is);
      passed = subst (Passed w0 w2 [] waiting2) (sym (hit_adds collection now doc s.so_far (plain (number + 1)) total
          (is_there s e) s.total_is)) whole;
    }

-- a refused hit: what was printed is a prefix of the reply
pub so_far_part : {collection : List ℕ} {q : Query} {now : Settings} {w0 w w2 : Option (List ℕ)} {waiting : List ℕ} {number total : ℕ} {doc : List ℕ}
    {before rest : List (List ℕ)} → FoundSoFar collection q now w0 w waiting number total before → before ≡ doc ∷ rest → satisfies q doc ≡ true →
    GrewByPrefix w w2 (waiting ++ hit_text doc now.mode now.most total (plain (number + 1))) →
    GrewByPrefix w0 w2 (answer_text collection now (satisfying collection q))
so_far_part {collection} {q} {now} {w0} {w} {w2} {waiting} {number} {total} {doc} {rest} s e hit grew =
    let x = plain (number + 1) in
    let g = shown collection now.mode in
    let text = hit_text doc now.mode now.most total x in
    let all : found q 1 (documents collection) ≡ (s.so_far ++ x ∷ []) ++ found q (number + 1 + 1) rest =
    s.split ∙ ap (λ r. s.so_far ++ found q (number + 1) r) e ∙ ap (λ r. s.so_far ++ r) (found-hit q (number + 1) doc rest hit) ∙ sym (append_assoc s.so_far (x ∷ []) (found q (number + 1 + 1) rest)) in
    let front = reply-front collection now (s.so_far ++ x ∷ []) (found q (number + 1 + 1) rest) in
    let adds = hit_adds collection now doc s.so_far x total (is_there s e) s.total_is in
    let is_text : answer_text collection now (satisfying collection q) ≡ (flat_map g (limited_to now.most s.so_far) ++ text) ++ front.0 =
    ap (answer_text collection now) all ∙ front.1 ∙ ap (λ t. t ++ front.0) adds in
    let part : GrewByPrefix w0 w2 (flat_map g (limited_to now.most s.so_far) ++ text) =
    pass_cut w0 w w2 [] waiting (flat_map g (limited_to now.most s.so_far)) text s.passed grew in
    subst (GrewByPrefix w0 w2) (sym is_text) (grew_first w0 w2 (flat_map g (limited_to now.most s.so_far) ++ text) front.0 part)

-- all documents were scanned
pub so_far_text : {collection : List ℕ} {q : Query} {now : Settings} {w0 w : Option (List ℕ)} {waiting : List ℕ} {number total : ℕ} {rest : List (List ℕ)} →
    FoundSoFar collection q now w0 w waiting number total rest → rest ≡ [] → (shown_part : List ℕ)
    × Passed w0 w [] waiting shown_part × (answer_text collection now (satisfying collection q) ≡ shown_part ++ count total)
unfolding answer_text found
so_far_text {collection} {q} {now} {number} s none =
    let all : found q 1 (documents collection) ≡ s.so_far = s.split ∙ ap (λ r. s.so_far ++ found q (number + 1) r) none ∙ append-nil s.so_far in (
      flat_map (shown collection now.mode) (limited_to now.most s.so_far),
      s.passed,
      ap (λ xs. flat_map (shown collection now.mode) (limited_to now.most xs) ++ count (length xs)) all
          ∙ ap (λ n. flat_map (shown collection now.mode) (limited_to now.most s.so_far) ++ count n) s.total_is,
    )

pub so_far_count : {collection : List ℕ} {q : Query} {now : Settings} {w0 w : Option (List ℕ)} {waiting : List ℕ} {number total : ℕ}
    {before rest : List (List ℕ)} {doc : List ℕ} → FoundSoFar collection q now w0 w waiting number total before → before ≡ doc ∷ rest →
    length collection ≤ 2 ^ 28 → (number + 1 ≤ 2 ^ 28) × (length doc ≤ 2 ^ 28)
so_far_count {collection} {before} {rest} {doc} s e small = (
  omega (arith, few_documents collection, ap length s.docs_is, length-append s.front before, ap length e, s.count),
  omega (arith, short_document collection doc s.front rest (s.docs_is ∙ ap (λ r. s.front ++ r) e), small),
)

-- the count was passed on, and what waited was put
pub counted_text : {T E : Type 0} {collection : List ℕ} {q : Query} {now : Settings} {w0 w w2 : Option (List ℕ)} {waiting waiting2 : List ℕ}
    {number total : ℕ} {rest : List (List ℕ)} (w3 : Option (List ℕ)) (r : Result T E) → FoundSoFar collection q now w0 w waiting number total rest → rest ≡ [] →
    Passed w w2 waiting waiting2 (count total) → AfterPut w2 w3 waiting2 r → AfterPut w0 w3 (answer_text collection now (satisfying collection q)) r
counted_text {w0} {w} {w2} {waiting} {waiting2} {total} w3 r s none counted put =
    let t = so_far_text s none in
    let whole : Passed w0 w2 [] waiting2 (t.0 ++ count total) = pass_both w0 w w2 [] waiting waiting2 t.0 (count total) t.1 counted in
    subst (λ x. AfterPut w0 w3 x r) (sym t.2) (pass_put w0 w2 w3 [] waiting2 (t.0 ++ count total) r refl whole put)

-- the count was refused
pub refused_text : {collection : List ℕ} {q : Query} {now : Settings} {w0 w w2 : Option (List ℕ)} {waiting : List ℕ} {number total : ℕ}
    {rest : List (List ℕ)} → FoundSoFar collection q now w0 w waiting number total rest → rest ≡ [] → GrewByPrefix w w2 (waiting ++ count total) →
    GrewByPrefix w0 w2 (answer_text collection now (satisfying collection q))
refused_text {w0} {w} {w2} {waiting} {total} s none grew =
    let t = so_far_text s none in
    subst (GrewByPrefix w0 w2) (sym t.2) (pass_cut w0 w w2 [] waiting t.0 (count total) t.1 grew)
