-- How what is made is handed on.
use Rattle.std.proofs.Common.{Ok, Err, ◌≡◌, ℕ, suc, ◌+◌, ◌-◌, ◌≤◌, List, [], ◌++◌, sym, ◌∙◌, ap, subst, arith, append_assoc, append-nil}
use Rattle.std.specs.declared.option.Option.{Option}
use Rattle.std.specs.declared.result.Result.{Result}
use Rattle.std.specs.Result.{IsErr}
use Rattle.mg_dev.specs.Streams.{appended, GrewByPrefix, AfterPut}
use Rattle.mg_dev.specs.StreamLaws.{appended-nil, appended-appended, grew_first, grew_second}
use Rattle.mg_defs.specs.Generator.{Made, made_bytes, repeated}
use Rattle.mg_gen.specs.declared.writer.Writer.{Writer}
use Rattle.mg_gen.specs.Grew.{Grew, Handed}
use Rattle.mg_gen.proofs.Making.{repeated_last, repeated_front}

pub handed_none : (told : Option (List ℕ)) (w : Writer) (each : ℕ → Made) (seed : ℕ) → w.text.items ≡ [] → w.generator.state ≡ seed → Handed told told w (repeated 0 each seed)
unfolding repeated made_bytes
handed_none told w each seed none state = record { done = []; out = sym (appended-nil told); bytes = sym none; state = state }

pub handed_more : {old new : Option (List ℕ)} {w later : Writer} {each : ℕ → Made} (n seed : ℕ) → Handed old new w (repeated n each seed) → Grew w later each →
    Handed old new later (repeated (suc n) each seed)
handed_more {old} {new} {w} {later} {each} n seed handed grew =
    let last = repeated_last n each seed in
    record {
      done = handed.done;
      out = handed.out;
      bytes = last.bytes ∙ ap (λ l. l ++ (each (repeated n each seed).state).bytes) handed.bytes
          ∙ ap (λ x. (handed.done ++ w.text.items) ++ (each x).bytes) (sym handed.state)
          ∙ append_assoc handed.done w.text.items (each w.generator.state).bytes
          ∙ ap (λ l. handed.done ++ l) (sym grew.bytes);
      state = grew.state ∙ ap (λ x. (each x).state) handed.state ∙ sym last.state;
    }

pub handed_put : {old mid new : Option (List ℕ)} {w later : Writer} {made : Made} → Handed old mid w made → new ≡ appended mid w.text.items → later.text.items ≡ [] →
    later.generator.state ≡ w.generator.state → Handed old new later made
handed_put {old} {mid} {new} {w} {later} {made} handed put none same = record {
  done = handed.done ++ w.text.items;
  out = put ∙ ap (λ m. appended m w.text.items) handed.out ∙ appended-appended old handed.done w.text.items;
  bytes = handed.bytes ∙ sym (append-nil (handed.done ++ w.text.items)) ∙ ap (λ l. (handed.done ++ w.text.items) ++ l) (sym none);
  state = same ∙ handed.state;
}

pub handed_all : {old mid new : Option (List ℕ)} {w : Writer} {made : Made} → Handed old mid w made → new ≡ appended mid w.text.items → new ≡ appended old made.bytes
handed_all {old} {mid} {new} {w} {made} handed put =
    put ∙ ap (λ m. appended m w.text.items) handed.out ∙ appended-appended old handed.done w.text.items ∙ ap (appended old) (sym handed.bytes)

-- a refused put left a prefix of all
pub handed_part : {old mid new : Option (List ℕ)} {w : Writer} (each : ℕ → Made) (n docs seed : ℕ) → n ≤ docs → Handed old mid w (repeated n each seed) →
    GrewByPrefix mid new w.text.items → GrewByPrefix old new (repeated docs each seed).bytes
handed_part {old} {mid} {new} {w} each n docs seed le handed grew =
    let rest : List ℕ = (repeated (docs - n) each (repeated n each seed).state).bytes in
    let e : n + (docs - n) ≡ docs = omega (arith, le) in
    let so_far : GrewByPrefix old new (handed.done ++ w.text.items) = grew_second old mid new handed.done w.text.items handed.out grew in
    subst (GrewByPrefix old new)
    (ap (λ l. l ++ rest) (sym handed.bytes) ∙ sym (repeated_front n (docs - n) each seed) ∙ ap (λ k. (repeated k each seed).bytes) e)
    (grew_first old new (handed.done ++ w.text.items) rest so_far)

pub handed_so_far : {old new : Option (List ℕ)} {w later : Writer} (each : ℕ → Made) (n seed : ℕ) → Handed old new w (repeated n each seed) →
    Grew w later each → Handed old new later (repeated (n + 1) each seed)
handed_so_far {old} {new} {w} {later} each n seed handed grew =
    let e : suc n ≡ n + 1 = omega arith in subst (λ k. Handed old new later (repeated k each seed)) e (handed_more n seed handed grew)

-- the last put
pub handed_last : {T E : Type 0} {old mid : Option (List ℕ)} {w : Writer} (new : Option (List ℕ)) (each : ℕ → Made) (n docs seed : ℕ) (result : Result T E) →
    Handed old mid w (repeated n each seed) → n ≡ docs →
    AfterPut mid new w.text.items result → AfterPut old new (repeated docs each seed).bytes result
handed_last {T} {E} {old} {mid} {w} new each n docs seed (Ok x) handed e put = handed_all (subst (λ k. Handed old mid w (repeated k each seed)) e handed) put
handed_last {T} {E} {old} {mid} {w} new each n docs seed (Err x) handed e grew = handed_part each n docs seed (omega (arith, e)) handed grew

-- the bytes of a put, by what they are
pub put_is : {T E : Type 0} (old new : Option (List ℕ)) (bytes all : List ℕ) (result : Result T E) → bytes ≡ all → AfterPut old new bytes result → AfterPut old new all result
put_is old new bytes all result e put = subst (λ b. AfterPut old new b result) e put

pub refused : {T E : Type 0} (old new : Option (List ℕ)) (all : List ℕ) (result : Result T E) → IsErr result → GrewByPrefix old new all → AfterPut old new all result
refused old new all (Ok x) h grew = absurd cc
refused old new all (Err x) h grew = grew
