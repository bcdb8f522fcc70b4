use Rattle.std.proofs.Common.{◌++◌, ◌∷◌, ◌∙◌, ℕ, [], ap, length-append, subst, sym, arith}
use Rattle.mg_dev.specs.declared.part.Part.TheVariants.{Run}
use Rattle.mg_laws.proofs.DocCountLaws.{last_is_low}
use Rattle.mg_count.specs.DocCounting.{AreDocCounts}
use Rattle.mg_index.proofs.CallerLemmas.{cause_done}
use Rattle.mg_make.specs.Indexes.{Indexing}
use Rattle.mg_make.proofs.inverter.Inverter.add.Goals as goal

pub returns-in-Err : goal.returns-in-Err
returns-in-Err g c =
    let taken = rw (← c.self.view_is) at c.requires.taken.2 in
    let e = c.add.ensures in
    record {
      taken = tt;
      base = e.base ∙ ap (λ (i : Indexing). i.runs.base) c.self.view_is;
      limit = e.limit ∙ ap (λ (i : Indexing). i.runs.pool.limit) c.self.view_is;
      wrote = rw (← c.self.view_is) (record { told = e.wrote.told; others = λ name apart. e.wrote.others name (λ is. apart Run tt (is ∙ taken.runs.name)) });
      reads = e.wrote.reads;
      cause = c.in-Err.ensures.cause;
    }

pub count-requires-clause-counts : goal.count-requires-clause-counts
count-requires-clause-counts g c =
    let fed = c.requires.taken.1 in
    let taken = rw (← c.self.view_is) at c.requires.taken.2 in
    (fed, subst (λ (n : ℕ). AreDocCounts c.self.inside.counts n fed) (sym taken.counts.doc_size) taken.counts, last_is_low c.args.term c.args.doc fed c.requires.taken.3.order)

pub returns : goal.returns
returns g c =
    let now = rw (← c.self.view_is) at c.requires.taken.2 in
    let e = c.add.ensures in
    record {
      taken = λ terms fed was may.
          let taken = rw (← c.self.view_is) at was in
          let size = taken.counts.doc_size in
          let counts = c.count.ensures.counts fed (subst (λ (n : ℕ). AreDocCounts c.self.inside.counts n fed) (sym size) taken.counts) (last_is_low c.args.term c.args.doc fed may.order) in
          record {
            runs = c.in-Ok.ensures.fed fed may.few taken.runs;
            counts = subst (λ (n : ℕ). AreDocCounts c.count.new.self n (fed ++ (c.args.term, c.args.doc) ∷ [])) size counts;
            occurrences = omega (arith, taken.occurrences, length-append fed ((c.args.term, c.args.doc) ∷ []));
          };
      base = e.base ∙ ap (λ (i : Indexing). i.runs.base) c.self.view_is;
      limit = e.limit ∙ ap (λ (i : Indexing). i.runs.pool.limit) c.self.view_is;
      wrote = rw (← c.self.view_is) (record { told = e.wrote.told; others = λ name apart. e.wrote.others name (λ is. apart Run tt (is ∙ now.runs.name)) });
      reads = e.wrote.reads;
      cause = cause_done e.cause.later;
    }
