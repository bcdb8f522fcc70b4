-- What stands for what a lexicon told of a term.
use Rattle.std.proofs.Common.{◌≡◌, ℕ, List, take, Some, sym, ◌∙◌, ap, subst}
use Rattle.std.specs.declared.option.Option.{Option}
use Rattle.mg_dev.specs.Files.{Files}
use Rattle.mg_defs.specs.Lexicon.{info_bytes}
use Rattle.mg_front.specs.Entries.{entry_of}
use Rattle.mg_front.specs.Reading.{Fronted}
use Rattle.mg_front.specs.Stood.{FindStands}
use Rattle.mg_front.specs.declared.entry.FrontEntry.{FrontEntry}
use Rattle.mg_layout.specs.Infos.{info_of}
use Rattle.mg_layout.specs.declared.term_info.TermInfo.{TermInfo}
use Rattle.mg_lex.specs.Stood.{TermTold}

-- a string that was found
pub term_stands : (r : Fronted) (files : Option Files) (term : List ℕ) (out : FrontEntry) (number : ℕ) (info : TermInfo) → r.width ≡ 16 → info.number ≡ number →
    info_bytes (info_of info) ≡ take 16 out.field → FindStands r files term out (Some number) → TermTold r files term (Some info)
term_stands r files term out number info width is field found =
    let at = subst (λ n. FindStands r files term out (Some n)) (sym is) found in
    record {
      among = at.0;
      entry = entry_of r.width out;
      stands = at.1;
      string = at.2;
      field = ap (λ w. take w out.field) width ∙ sym field;
    }
