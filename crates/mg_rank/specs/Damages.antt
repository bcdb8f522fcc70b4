-- Which damage of the lexicon is told of the terms of a ranked answer.
use Rattle.std.specs.Prelude.{◌≡◌, ◌≤◌, ◌<◌, ℕ, List, length, slice_index_or}
use Rattle.mg_dev.specs.Bads.{IsBad}
use Rattle.mg_dev.specs.declared.bad as declared
use Rattle.mg_dev.specs.declared.part.Part.TheVariants as part
use Rattle.mg_dev.specs.declared.part_err.PartErr.{PartErr}
use Rattle.mg_dev.specs.declared.part_err.PartErr.TheVariants.{Device, Memory, Bad}
use Rattle.mg_layout.specs.declared.term_info.TermInfo.{TermInfo}

-- the lexicon tells of a term that at least one document has it, and at most so many
abbrev pub HasSome : ℕ → TermInfo → Type 0
HasSome all info = (1 ≤ info.docs) × (info.docs ≤ all)

-- the lexicon tells of a term that other than 1 to so many documents have it: the place that is told is the term's number
abbrev pub IsTermDamage : ℕ → TermInfo → declared.Bad.Bad → Type 0
IsTermDamage all info bad = IsBad bad part.Lex info.number 1 all info.docs

-- that is the refusal
abbrev pub RefusesTerm : ℕ → TermInfo → PartErr → Type 0
RefusesTerm all info Device = ⊥
RefusesTerm all info Memory = ⊥
RefusesTerm all info (Bad bad) = IsTermDamage all info bad

-- this fact on a damage of the lexicon
abbrev pub IfOfLex : PartErr → (declared.Bad.Bad → Type 0) → Type 0
IfOfLex Device fact = Unit {0}
IfOfLex Memory fact = Unit {0}
IfOfLex (Bad bad) fact = bad.part ≡ part.Lex → fact bad

-- no damage of the lexicon is told
abbrev pub IsNotOfLex : PartErr → Type 0
IsNotOfLex refusal = IfOfLex refusal (λ bad. ⊥)

-- a damage of the lexicon is this term's
abbrev pub TellsTerm : ℕ → TermInfo → PartErr → Type 0
TellsTerm all info refusal = IfOfLex refusal (IsTermDamage all info)

-- the damage is that of the first of these terms of which the lexicon tells so
pub record IsFirstDamage (all : ℕ) (terms : List TermInfo) (bad : declared.Bad.Bad) : Type 0 where
  pub place : ℕ
  pub there : place < length terms
  pub is : (info : TermInfo) → slice_index_or terms place info ≡ info → IsTermDamage all info bad
  pub first : (k : ℕ) (info : TermInfo) → k < place → slice_index_or terms k info ≡ info → HasSome all info

-- a damage of the lexicon is that of the first of these terms that has one
abbrev pub TellsFirstOf : ℕ → List TermInfo → PartErr → Type 0
TellsFirstOf all terms refusal = IfOfLex refusal (IsFirstDamage all terms)
