use Rattle.std.proofs.Common.{rules, ◌≡◌, ◌∙◌, None, map, string_bytes, option_map, ap, sym}
use Rattle.std.specs.Option.{option_copied}
use Rattle.mg_args.specs.Plain.{Word}
use Rattle.mg_args.specs.Tasks.{name_asked, task_at}
use Rattle.mg_args.proofs.read.read_named.Goals as goal

pub returns-in-None : goal.returns-in-None
returns-in-None c =
    let is : option_copied c.in_ok-name.field-0 ≡ None = ap option_copied c.in-None.is in record {
      refused = λ none. search rules;
      asks = record {
        is = ap (option_map (task_at c.args.named)) (sym is ∙ c.in_ok-name.ensures.is)
            ∙ ap (λ (id : Word). option_map (task_at c.args.named) (name_asked id c.args.tool.now (map string_bytes c.args.rest.now))) c.id.ensures.is;
        within = tt;
      };
    }
