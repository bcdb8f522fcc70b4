-- The summaries of three collections and the lines of a trial, computed.
use Rattle.std.proofs.Common.{◌≡◌, [], refl}
use Rattle.std.specs.Prelude.{codes}
use Rattle.std.specs.Fmt.{digits}
use Rattle.mg_defs.specs.Parse.{parse}
use Rattle.mg_defs.specs.Summaries.{summary_text, trial_lines}
use Rattle.mg_defs.proofs.CollectionExamples.{k}
use Rattle.mg_defs.specs.Tokens.{sign_of}
use Rattle.mg_defs.specs.Texts.{row, count}
use Rattle.mg_defs.specs.Commands.{command, words, dot_of, set_query, set_mode, set_most, set_of, value, is_most}
use Rattle.mg_defs.specs.ShownAnswers.{answer_text, found}
use Rattle.mg_defs.specs.Session.{heard_session, replies, line_text, after_line, ends}
use Rattle.mg_defs.specs.Read.{boolean, query_of}
use Rattle.mg_defs.specs.Replies.{refusal, reply, session}

the_empty_collection : summary_text [] 16777216 ≡ codes "documents 0\nwords 0\nothers 0\nterms 0\noccurrences 0\nruns 0\npool 0 of 16777216\n"
unfolding summary_text digits parse
the_empty_collection = refl

three_documents : summary_text k 16777216 ≡ codes "documents 3\nwords 5\nothers 5\nterms 4\noccurrences 8\nruns 1\npool 96 of 16777216\n"
unfolding summary_text digits parse
three_documents = refl

four_words : summary_text (codes "a a a a ") 16777216 ≡ codes "documents 1\nwords 1\nothers 1\nterms 1\noccurrences 4\nruns 1\npool 64 of 16777216\n"
unfolding summary_text digits parse
four_words = refl

three_documents_tried : trial_lines 3 k (codes "cat & !the\ncat dog | sat\ncat & (dog\ncat ) dog\ncat & | dog\n!zebra\nzebra\n")
    ≡ codes "documents 3\ncollection 39 bytes\nterms 4\noccurrences 8\nreplies 71 bytes\ndecode same\nqueries 40 same\n"
unfolding trial_lines boolean query_of sign_of refusal reply session heard_session replies line_text after_line ends command words dot_of set_query set_mode
    set_most set_of value is_most answer_text found row count digits parse
three_documents_tried = refl
