use Rattle.std.proofs.Common.{◌≡◌, ◌≤◌, length, arith, refl, rules, ◌∙◌}
use Rattle.mg_dev.specs.Laws.{with_read-other, full_name-Plain}
use Rattle.mg_plain.proofs.LoadLaws.{loaded, not_changed, vec_front}
use Rattle.mg_plain.proofs.plain.read_whole.Goals as goal

pub returns-in-Err-read_at : goal.returns-in-Err-read_at
returns-in-Err-read_at g c = record {
  content = λ told. tt;
  cause = search rules;
  files = c.in-Err-read_at.ensures.files;
  reads = λ p apart. c.in-Err-read_at.ensures.reads p ∙ with_read-other _ _ _ apart;
  later = search rules;
}

pub returns-then-count-len : goal.returns-then-count-len
returns-then-count-len g c =
    let long : length c.read_at.new.buf ≡ c.args.size = omega arith in
    let within : c.in-Ok-read_at.count ≤ length c.read_at.new.buf = omega (arith, c.in-Ok-read_at.ensures.bound) in
    record {
      content = λ told. tt;
      cause = (
        refl,
        λ e. c.if-count-len.true (omega (arith, e)),
        λ told. c.if-count-len.true (let all = not_changed _ _ _ _ _ _ _ (full_name-Plain c.args.name.now) refl c.requires.known c.in-Ok-read_at.ensures.bytes within long told in omega (arith, all)),
      );
      files = c.in-Ok-read_at.ensures.files;
      reads = λ p apart. c.in-Ok-read_at.ensures.reads p ∙ with_read-other _ _ _ apart;
      later = search rules;
    }

pub returns : goal.returns
returns g c = record {
  content = λ told.
      let long : length c.read_at.new.buf ≡ c.args.size = omega arith in
      let all : c.in-Ok-read_at.count ≡ length c.read_at.new.buf = omega arith in
      let size : c.in-Ok.bytes.len ≡ length c.read_at.new.buf = omega arith in
      rw (vec_front _ _ _ size) (loaded _ _ _ _ _ _ _ (full_name-Plain c.args.name.now) refl c.requires.known c.in-Ok-read_at.ensures.bytes all long told);
  cause = tt;
  files = c.in-Ok-read_at.ensures.files;
  reads = λ p apart. c.in-Ok-read_at.ensures.reads p ∙ with_read-other _ _ _ apart;
  later = search rules;
}
