-- What the lines of a session printed by the parts that were opened is told by the files alone.
use Rattle.std.proofs.Common.{◌≡◌, ◌∙◌, ℕ, List, Some, Ok, IsSome, Option, subst}
use Rattle.std.specs.Prelude.{Result}
use Rattle.mg_dev.specs.Files.{Files}
use Rattle.mg_dev.specs.Moments.{SinkAt, SourceAt, StoreAt}
use Rattle.mg_dev.specs.Runs.{status_of}
use Rattle.mg_dev.specs.declared.fault.Fault.{Fault}
use Rattle.mg_dev.specs.declared.fault.Fault.TheVariants.{ReadFault}
use Rattle.mg_dev.specs.declared.part_err.PartErr.{PartErr}
use Rattle.mg_dev.specs.declared.status.Status.TheVariants.{Done, Stopped}
use Rattle.mg_dev.proofs.CallerLemmas.{err_by, when_ok}
use Rattle.mg_defs.specs.Commands.{first_settings}
use Rattle.mg_defs.specs.Lines.{lines}
use Rattle.mg_defs.specs.Session.{Question}
use Rattle.mg_defs.specs.declared.session.Hearing.{Hearing}
use Rattle.mg_defs.specs.declared.session.Settings.{Settings}
use Rattle.mg_layout.specs.declared.head.Head.{Head}
use Rattle.mg_reply.proofs.CallerLemmas.{rule_of_lines, taken_too}
use Rattle.mg_reply.specs.PrintedLines.{AnsweredBroken, InputPrints, PrintRule}
use Rattle.mg_session.specs.Decided.{OpenedParts, PrintsOver}
use Rattle.mg_session.specs.Opening.{HeadOpened}
use Rattle.mg_session.specs.Searching.{Opened, Searching}
use Rattle.mg_session.specs.Served.{LinesServed}

module _ (IsPrinted : Option Files → Opened → PrintRule) (base : List ℕ) (s0 s1 : StoreAt) (old new : Searching) (i i1 : SourceAt) (o o1 : SinkAt) (head : Head)
    (r : Result (Unit {0}) Fault) {hearing : Hearing} {Answers : Searching → (Settings → List ℕ → List ℕ) → Type 0}
    {After : Searching → Searching → List Question → Type 0} {MayStop : Searching → Searching → PartErr → Type 0} (h : HeadOpened base s0 s1 (Ok head))
    (same : old.files ≡ s1.files) (parts : OpenedParts base head old.opened)
    (served : LinesServed hearing Answers After (λ (s : Searching). IsPrinted s.files s.opened) MayStop old new i i1 o o1 r) where
  by_files : IsSome s0.files → (question : Question) (before now : Option (List ℕ)) → IsPrinted old.files old.opened question before now →
      PrintsOver IsPrinted base s0.files question before now
  by_files told question before now printed = record {
    head = head;
    head_is = h.head told;
    opened = old.opened;
    parts = parts;
    printed = subst (λ (f : Option Files). IsPrinted f old.opened question before now) (same ∙ h.files) printed;
  }

  -- each line was answered
  pub printed_over : (given : List ℕ) → IsSome s0.files → i.left ≡ Some given → status_of r ≡ Done →
      InputPrints hearing (PrintsOver IsPrinted base s0.files) o.written o1.written given
  printed_over given told some end =
      rule_of_lines hearing first_settings (lines given) o.written o1.written (by_files told) (when_ok _ r end (served.printed given some))

  -- or the whole lines that were taken of an input that failed
  pub broken_over : (given : List ℕ) → IsSome s0.files → i.left ≡ Some given → status_of r ≡ Stopped ReadFault →
      AnsweredBroken hearing (PrintsOver IsPrinted base s0.files) o.written o1.written i1.left given
  broken_over given told some end =
      taken_too (λ front. rule_of_lines hearing first_settings (lines front) o.written o1.written (by_files told)) (served.answered_broken given some (err_by r _ end))
