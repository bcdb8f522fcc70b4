use Rattle.std.proofs.Common.{arith, ◌≡◌, ◌≤◌, ◌<◌, ◌∙◌, ap, false, length, refl, sym}
use Rattle.std.proofs.lemmas.Bool.Decides.{nat_tests}
use Rattle.mg_dev.specs.Names.{number, same_part}
use Rattle.mg_dev.specs.declared.part.Part.{Part}
use Rattle.mg_dev.specs.declared.part.Part.TheVariants as part
use Rattle.mg_dev.specs.StreamLaws.{grew_nothing}
use Rattle.mg_defs.specs.Heads as defs
use Rattle.mg_defs.specs.Split.{has_open_end}
use Rattle.mg_text.specs.Decoding.{Gathering}
use Rattle.mg_text.proofs.CallerLemmas.{adds_none, set_is_text}
use Rattle.mg_decode.proofs.StopLaws.{load_bad, load_stops, show_stops}
use Rattle.mg_decode.proofs.decoding.show_set.Goals as goal

-- a part behind the places is none of those before it
behind : (p q : Part) → 5 ≤ number p → number q < 5 → same_part p q ≡ false
behind p q high low = grind (arith, nat_tests)

pub returns-in-Err : goal.returns-in-Err
returns-in-Err g c = record {
  content = λ code collection stands. grew_nothing _ collection;
  never_bad = λ code collection stands. tt;
  added = adds_none (omega arith);
  cause = (refl, refl);
  files = refl;
  reads = λ p high. refl;
  later = omega arith;
}

pub returns-in-Err-load : goal.returns-in-Err-load
returns-in-Err-load g c = record {
  content = λ code collection stands. grew_nothing _ collection;
  never_bad = λ code collection stands. load_bad c.in-Err-load.refusal (c.in-Err-load.ensures.never_bad code collection (set_is_text _ _ _ code collection stands));
  added = adds_none (omega arith);
  cause = load_stops c.in-Err-load.refusal _ _ _ _ _ (c.in-Err-load.ensures.looked.others part.Text refl refl) c.in-Err-load.ensures.cause;
  files = c.in-Err-load.ensures.looked.files;
  reads = λ p high. c.in-Err-load.ensures.looked.others p (behind p part.Words high (omega arith)) (behind p part.Nonwords high (omega arith));
  later = c.in-Err-load.ensures.looked.faults;
}

pub returns : goal.returns
returns g c = record {
  content = λ code collection stands.
      let ends : has_open_end collection ≡ c.args.head.now.open_end = sym (ap (λ (h : defs.Head). h.open_end) stands.head_is) in
      let size : length collection ≡ c.args.head.now.collection = sym (ap (λ (h : defs.Head). h.collection) stands.head_is) in
      c.show_documents.ensures.content collection (c.in-Ok-load.ensures.stands code collection (set_is_text _ _ _ code collection stands)) ends (size ∙ sym (ap (λ (b : Gathering). b.left) c.in-Ok.ensures));
  never_bad = λ code collection stands.
      let ends : has_open_end collection ≡ c.args.head.now.open_end = sym (ap (λ (h : defs.Head). h.open_end) stands.head_is) in
      let size : length collection ≡ c.args.head.now.collection = sym (ap (λ (h : defs.Head). h.collection) stands.head_is) in
      c.show_documents.ensures.never_bad collection (c.in-Ok-load.ensures.stands code collection (set_is_text _ _ _ code collection stands)) ends (size ∙ sym (ap (λ (b : Gathering). b.left) c.in-Ok.ensures));
  added = rw (ap (λ (b : Gathering). b.left) c.in-Ok.ensures) at c.show_documents.ensures.added;
  cause = show_stops c.show_documents.result _ _ _ _ _ _ _ c.in-Ok-load.ensures.looked.faults c.show_documents.ensures.cause;
  files = c.show_documents.ensures.looked.files ∙ c.in-Ok-load.ensures.looked.files;
  reads = λ p high.
      c.show_documents.ensures.looked.others p (behind p part.Text high (omega arith)) (behind p part.Places high (omega arith))
      ∙ c.in-Ok-load.ensures.looked.others p (behind p part.Words high (omega arith)) (behind p part.Nonwords high (omega arith));
  later = omega (arith, c.in-Ok-load.ensures.looked.faults, c.show_documents.ensures.looked.faults);
}
