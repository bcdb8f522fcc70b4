-- Lists that are written anew: what rises, and how far they go.
use Rattle.std.proofs.Common.{arith, ◌≡◌, ◌+◌, ℕ, List, ◌∷◌, ◌∙◌, Ok, Err, refl, subst, sym}
use Rattle.std.specs.declared.option.Option.{Option}
use Rattle.std.specs.declared.result.Result.{Result}
use Rattle.mg_dev.proofs.CallerLemmas.{cause_err, cause_then}
use Rattle.mg_dev.specs.Files.{Files, Reads}
use Rattle.mg_dev.specs.PartCauses.{HasPartCause}
use Rattle.mg_dev.specs.declared.part_err.PartErr.{PartErr}
use Rattle.mg_defs.specs.declared.Posting.{Posting}
use Rattle.mg_defs.specs.Lists.{Follows, Rises}
use Rattle.mg_post.specs.Writing.{Listing, Pushed, PushedMore, SameFiles}
use Rattle.mg_check_index.specs.Anew.{PutsLists}

pub first_follows : (all last : ℕ) (p : Posting) (left : List Posting) → Rises all last (p ∷ left) → Follows all last p
unfolding Rises
first_follows all last p left h = h.0

pub rest_rises : (all last : ℕ) (p : Posting) (left : List Posting) → Rises all last (p ∷ left) → Rises all p.doc left
unfolding Rises
rest_rises all last p left h = h.1

pub pushed_more : (a b c : Listing) (n doc : ℕ) → PushedMore a b n → Pushed b c doc → PushedMore a c (n + 1)
pushed_more a b c n doc first second = record { docs = second.docs ∙ first.docs; pushed = omega (arith, first.pushed, second.pushed); total = omega (arith, first.total, second.total) }

pub names_more : (a b c : Listing) → SameFiles a b → SameFiles b c → SameFiles a c
names_more a b c first second = record { post = second.post ∙ first.post; skip = second.skip ∙ first.skip; all = second.all ∙ first.all }

pub names_same : (a : Listing) → SameFiles a a
names_same a = record { post = refl; skip = refl; all = refl }

-- ---- lists that are put into a store

-- the store is as it was
pub puts_none : {T : Type 0} {old new : Listing} {result : Result T PartErr} (f : Option Files) (r : Reads) (n : ℕ) → SameFiles old new → HasPartCause n n result →
    PutsLists old new result f f r r n n
puts_none f r n same cause = record { same = same; told = refl; reads = λ p. refl; cause = cause }

-- some behind others
pub puts_then : {T U : Type 0} {a b d : Listing} {one : Result T PartErr} {two : Result U PartErr} {f g h : Option Files} {r s t : Reads} {l m n : ℕ} →
    PutsLists a b one f g r s l m → PutsLists b d two g h s t m n → PutsLists a d two f h r t l n
puts_then {two = two} first second = record {
  same = names_more _ _ _ first.same second.same;
  told = second.told ∙ first.told;
  reads = λ p. second.reads p ∙ first.reads p;
  cause = cause_then two first.cause.later second.cause;
}

-- another answer
pub puts_done : {T U : Type 0} {x : U} {old new : Listing} {result : Result T PartErr} {f g : Option Files} {r s : Reads} {m n : ℕ} → PutsLists old new result f g r s m n →
    PutsLists old new (Ok x) f g r s m n
puts_done puts = record { same = puts.same; told = puts.told; reads = puts.reads; cause = record { later = puts.cause.later; device = tt } }

pub puts_err : {T U : Type 0} {e : PartErr} {old new : Listing} {f g : Option Files} {r s : Reads} {m n : ℕ} → PutsLists {T = T} old new (Err e) f g r s m n →
    PutsLists {T = U} old new (Err e) f g r s m n
puts_err {T} {U} puts = record { same = puts.same; told = puts.told; reads = puts.reads; cause = cause_err {T = T} {U = U} (omega arith) puts.cause }

-- the store was not asked
module _ {X : Type 0} (files : X → Option Files) (reads : X → Reads) (faults : X → ℕ) where
  pub puts_nowhere : {T : Type 0} {old new : Listing} {result : Result T PartErr} (s t : X) → t ≡ s → SameFiles old new → ((n : ℕ) → HasPartCause n n result) →
      PutsLists old new result (files s) (files t) (reads s) (reads t) (faults s) (faults t)
  puts_nowhere {old = old} {new = new} {result = result} s t is same cause =
      subst (λ x. PutsLists old new result (files s) (files x) (reads s) (reads x) (faults s) (faults x)) (sym is) (puts_none (files s) (reads s) (faults s) same (cause (faults s)))
