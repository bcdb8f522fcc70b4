use Rattle.std.proofs.Common.{arith, refl, ◌≡◌, ◌∷◌, ◌∙◌, [], ap, length-append, sym, subst}
use Rattle.mg_dev.specs.declared.part.Part.TheVariants.{Plain}
use Rattle.mg_count.specs.Scanning.{Scanning}
use Rattle.mg_make.specs.Putting.{HasPut, Putting}
use Rattle.mg_make.specs.SetSteps.{ByteStep}
use Rattle.mg_make.proofs.PutSteps.{writing}
use Rattle.mg_make.proofs.writer.SetWriter.take.Goals as goal

-- the byte goes on the piece that is read, and nothing is written
pub returns-then-goes_on : goal.returns-then-goes_on
returns-then-goes_on g c =
    let i = c.self.inside in
    record {
      put = λ fed put.
          let own : HasPut (writing i.base.now i.plan.now i.limit i.sums.items i.size i.scanner i.pass) (g.S.Store.files c.args.store.now) fed =
          subst (λ (w : Putting). HasPut w (g.S.Store.files c.args.store.now) fed) (sym c.self.view_is) put in
          record {
            met = own.met;
            scanned = c.goes_on.ensures.met c.if-goes_on.true fed own.met own.scanned;
            written = own.written;
            base_is = own.base_is;
            plan_is = own.plan_is;
            limit_is = own.limit_is;
            head = own.head;
            models = own.models;
            sums_are = own.sums_are;
            size_is = omega (arith, own.size_is, length-append fed (c.args.byte ∷ []));
          };
      base = ap (λ (w : Putting). w.base) c.self.view_is;
      plan = ap (λ (w : Putting). w.plan) c.self.view_is;
      limit = ap (λ (w : Putting). w.limit) c.self.view_is;
      head = c.requires.put.1.head;
      others = record { told = refl; others = λ name apart. refl };
      reads = λ p. refl;
      plain = omega arith;
      later = omega arith;
      refused = tt;
      tells = tt;
    }

-- it may end a piece, or begin or end a document
pub returns : goal.returns
returns g c =
    let i = c.self.inside in
    let same : c.goes_on.new.self ≡ i.scanner = c.goes_on.ensures.same c.if-goes_on.false in
    let whole : writing i.base.now i.plan.now i.limit i.sums.items i.size c.goes_on.new.self i.pass ≡ c.args.self.now =
    ap (λ (s : Scanning). writing i.base.now i.plan.now i.limit i.sums.items i.size s i.pass) same ∙ c.self.view_is in
    let step = subst (λ (w : Putting). ByteStep w c.take_other.new.self c.args.byte c.take_other.result (g.S.Store.files c.args.store.now) (g.S.Store.files c.take_other.new.store)
    (g.S.Store.reads c.args.store.now) (g.S.Store.reads c.take_other.new.store) (g.S.Store.faults c.args.store.now) (g.S.Store.faults c.take_other.new.store)) whole c.take_other.ensures in
    record {
      put = step.put;
      base = step.base;
      plan = step.plan;
      limit = step.limit;
      head = step.head;
      others = step.others;
      reads = step.reads;
      plain = omega (arith, step.reads Plain);
      later = step.later;
      refused = step.refused;
      tells = step.tells;
    }
