-- How a text grows part by part.
use Rattle.std.proofs.Common.{◌≡◌, ℕ, zero, suc, ◌+◌, ◌<◌, ◌≤◌, List, [], ◌∷◌, ◌++◌, length, drop, get_or, refl, sym, ◌∙◌, ap, subst, arith, append_assoc, append-nil}
use Rattle.std.specs.Char.{to_ascii_uppercase}
use Rattle.mg_defs.specs.Generator.{Made, stepped, made_bytes, made_both, made_in_turn, repeated, pick, capital, capital_pick}
use Rattle.mg_gen.specs.declared.writer.Writer.{Writer}
use Rattle.mg_gen.specs.Grew.{Grew}
use Rattle.mg_gen.proofs.Words.{capital-is, capital-none}

-- bytes that are put after the generator went on
pub put_made : {mid new : Writer} (old : Writer) (each : ℕ → Made) (bytes : List ℕ) → mid.text.items ≡ old.text.items → mid.generator.state ≡ (each old.generator.state).state →
    bytes ≡ (each old.generator.state).bytes → Grew mid new (made_bytes bytes) → Grew old new each
unfolding made_bytes
put_made old each bytes same state is grew = record {
  bytes = grew.bytes ∙ ap (λ l. l ++ bytes) same ∙ ap (λ b. old.text.items ++ b) is;
  state = grew.state ∙ state;
}

-- a word with a capital
pub capital_made : {mid new : Writer} (old : Writer) (word : List ℕ) (upper : ℕ) (rest : List ℕ) → word ≡ (pick old.generator.state).bytes → 1 ≤ length word →
    mid.text.items ≡ old.text.items ++ upper ∷ [] → upper ≡ to_ascii_uppercase (get_or word 0 0) → rest ≡ drop 1 word →
    mid.generator.state ≡ (pick old.generator.state).state → Grew mid new (made_bytes rest) → Grew old new capital_pick
unfolding made_bytes capital_pick
capital_made old word upper rest is some pushed up tail state grew = record {
  bytes = grew.bytes ∙ ap (λ l. l ++ rest) pushed ∙ append_assoc old.text.items (upper ∷ []) rest ∙ ap (λ b. old.text.items ++ b) (whole ∙ ap capital is);
  state = grew.state ∙ state;
}
  where
    whole : upper ∷ rest ≡ capital word
    whole = ap (λ u. u ∷ rest) up ∙ ap (λ r. to_ascii_uppercase (get_or word 0 0) ∷ r) tail ∙ sym (capital-is word some)

pub no_capital : {new : Writer} (old : Writer) (word : List ℕ) → word ≡ (pick old.generator.state).bytes → length word < 1 → new.text.items ≡ old.text.items →
    new.generator.state ≡ (pick old.generator.state).state → Grew old new capital_pick
unfolding capital_pick
no_capital old word is none same state = record {
  bytes = same ∙ sym (append-nil old.text.items) ∙ ap (λ b. old.text.items ++ b) (sym (capital-none word none) ∙ ap capital is);
  state = state;
}

pub grew_both : {a b c : Writer} {first next : ℕ → Made} → Grew a b first → Grew b c next → Grew a c (made_both first next)
unfolding made_both
grew_both {a} {b} {c} {first} {next} g h = record {
  bytes = h.bytes ∙ ap (λ l. l ++ (next b.generator.state).bytes) g.bytes
      ∙ ap (λ x. (a.text.items ++ (first a.generator.state).bytes) ++ (next x).bytes) g.state
      ∙ append_assoc a.text.items (first a.generator.state).bytes (next (first a.generator.state).state).bytes;
  state = h.state ∙ ap (λ x. (next x).state) g.state;
}

-- these parts were added in turn
pub record GrewAll (old new : Writer) (parts : List (ℕ → Made)) : Type 0 where
  pub made : Grew old new (made_in_turn parts)

pub grew_none : (w : Writer) → GrewAll w w []
unfolding made_in_turn made_bytes
grew_none w = record { made = record { bytes = sym (append-nil w.text.items); state = refl } }

pub grew_all : {a b c : Writer} {first : ℕ → Made} {rest : List (ℕ → Made)} → Grew a b first → GrewAll b c rest → GrewAll a c (first ∷ rest)
unfolding made_in_turn
grew_all g h = record { made = grew_both g h.made }

pub grew_start : (w : Writer) (each : ℕ → Made) → Grew w w (repeated 0 each)
unfolding repeated made_bytes
grew_start w each = record { bytes = sym (append-nil w.text.items); state = refl }

pub record IsLast (n : ℕ) (each : ℕ → Made) (x : ℕ) : Type 0 where
  pub bytes : (repeated (suc n) each x).bytes ≡ (repeated n each x).bytes ++ (each (repeated n each x).state).bytes
  pub state : (repeated (suc n) each x).state ≡ (each (repeated n each x).state).state

pub repeated_last : (n : ℕ) (each : ℕ → Made) (x : ℕ) → IsLast n each x
unfolding repeated made_both made_bytes
repeated_last zero each x = record { bytes = append-nil (each x).bytes; state = refl }
repeated_last (suc n) each x =
    let next = repeated_last n each (each x).state in
    record {
      bytes = ap (λ l. (each x).bytes ++ l) next.bytes
          ∙ sym (append_assoc (each x).bytes (repeated n each (each x).state).bytes (each (repeated n each (each x).state).state).bytes);
      state = next.state;
    }

pub grew_again : {a b c : Writer} {each : ℕ → Made} (n : ℕ) → Grew a b (repeated n each) → Grew b c each → Grew a c (repeated (suc n) each)
grew_again {a} {b} {c} {each} n g h =
    let last = repeated_last n each a.generator.state in
    record {
      bytes = h.bytes ∙ ap (λ l. l ++ (each b.generator.state).bytes) g.bytes
          ∙ ap (λ x. (a.text.items ++ (repeated n each a.generator.state).bytes) ++ (each x).bytes) g.state
          ∙ append_assoc a.text.items (repeated n each a.generator.state).bytes (each (repeated n each a.generator.state).state).bytes
          ∙ ap (λ l. a.text.items ++ l) (sym last.bytes);
      state = h.state ∙ ap (λ x. (each x).state) g.state ∙ sym last.state;
    }

-- the first of several, and the others
pub repeated_front : (i k : ℕ) (each : ℕ → Made) (x : ℕ) → (repeated (i + k) each x).bytes ≡ (repeated i each x).bytes ++ (repeated k each (repeated i each x).state).bytes
unfolding repeated made_both made_bytes
repeated_front zero k each x = let e : zero + k ≡ k = omega arith in ap (λ n. (repeated n each x).bytes) e
repeated_front (suc i) k each x =
    let e : suc i + k ≡ suc (i + k) = omega arith in
    ap (λ n. (repeated n each x).bytes) e ∙ ap (λ l. (each x).bytes ++ l) (repeated_front i k each (each x).state)
    ∙ sym (append_assoc (each x).bytes (repeated i each (each x).state).bytes (repeated k each (repeated i each (each x).state).state).bytes)

-- a number was drawn first, and the rest depends on it
pub drawn_first : {mid new : Writer} (old : Writer) (each rest : ℕ → Made) → mid.text.items ≡ old.text.items → mid.generator.state ≡ stepped old.generator.state →
    each old.generator.state ≡ rest (stepped old.generator.state) → Grew mid new rest → Grew old new each
drawn_first {mid} {new} old each rest same state is grew = record {
  bytes = grew.bytes ∙ ap (λ l. l ++ (rest mid.generator.state).bytes) same ∙ ap (λ x. old.text.items ++ (rest x).bytes) state ∙ ap (λ (m : Made). old.text.items ++ m.bytes) (sym is);
  state = grew.state ∙ ap (λ x. (rest x).state) state ∙ ap (λ (m : Made). m.state) (sym is);
}

pub grew_so_far : {a b c : Writer} {each : ℕ → Made} (n : ℕ) → Grew a b (repeated n each) → Grew b c each → Grew a c (repeated (n + 1) each)
grew_so_far {a} {b} {c} {each} n g h = let e : suc n ≡ n + 1 = omega arith in subst (λ k. Grew a c (repeated k each)) e (grew_again n g h)

pub grew_count : {a b : Writer} (each : ℕ → Made) (n m : ℕ) → n ≡ m → Grew a b (repeated n each) → Grew a b (repeated m each)
grew_count {a} {b} each n m e g = subst (λ k. Grew a b (repeated k each)) e g

-- all that a writer has
pub from_nothing : {start w : Writer} {each : ℕ → Made} → start.text.items ≡ [] → Grew start w each → w.text.items ≡ (each start.generator.state).bytes
from_nothing {start} {w} {each} none grew = grew.bytes ∙ ap (λ l. l ++ (each start.generator.state).bytes) none
