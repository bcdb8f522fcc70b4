use Rattle.mg_check_text.proofs.held.Held.new.Goals as goal

pub returns : goal.returns
returns g c = λ files. record { text = c.in_ok-page_of.ensures files; places = c.in_ok-page_of-2.ensures files }
