-- What callers may cite: parts that are compared as their bytes come, lists and lexicon, runs and tallies.
pub use Rattle.mg_check_index.proofs.ComparedLaws.{not_bad_refutes}
pub use Rattle.mg_check_index.proofs.Comparing.{on_ok, where_bad}
pub use Rattle.mg_check_index.proofs.EndLaws.{can_on, compared_on, if_err, lexicon_on, lists_stand_on, rooms_of, rooms_stay, start_on, took_all}
pub use Rattle.mg_check_index.proofs.LexiconLaws.{refutes_wider}
pub use Rattle.mg_check_index.proofs.PackedLaws.{often_beside}
pub use Rattle.mg_check_index.proofs.RangedLaws.{same_more}
pub use Rattle.mg_check_index.proofs.RunSteps.{same_runs}
pub use Rattle.mg_check_index.proofs.TallySteps.{length_of_doc, occ_is}
