-- The reply to a line, and the session over a collection.
use Rattle.std.specs.Prelude.{ℕ, nat_lt, if◌then◌else◌, Bool, true, false, List, [], ◌++◌, codes, decimal, Option, Some, None}
use Rattle.mg_defs.specs.Sat.{Query}
use Rattle.mg_defs.specs.declared.session.Mode.{Mode}
use Rattle.mg_defs.specs.declared.session.Settings.{Settings}
use Rattle.mg_defs.specs.Read.{boolean, ranked}
use Rattle.mg_defs.specs.Refusals.{Refusal, syntax, too_deep, too_long, too_many, Reading, reads, refused}
use Rattle.mg_defs.specs.ShownAnswers.{Shown, shown_as, satisfying, ranking, answer_text}
use Rattle.mg_defs.specs.Session.{session_of}

unfoldable pub refusal : Refusal → List ℕ
refusal (syntax at) = codes "? syntax at " ++ decimal at ++ codes "\n"
refusal (too_deep at) = codes "? too deep at " ++ decimal at ++ codes "\n"
refusal (too_long at) = codes "? word too long at " ++ decimal at ++ codes "\n"
refusal (too_many at) = codes "? too many words at " ++ decimal at ++ codes "\n"

abbrev pub boolean_reply : List ℕ → Settings → Reading Query → List ℕ
boolean_reply collection now (reads q) = answer_text collection now (satisfying collection q)
boolean_reply collection now (refused r) = refusal r

abbrev pub ranked_reply : List ℕ → Settings → Reading (List (List ℕ)) → List ℕ
ranked_reply collection now (reads terms) = answer_text collection now (ranking collection terms)
ranked_reply collection now (refused r) = refusal r

abbrev pub reply_as : Bool → List ℕ → Settings → List ℕ → List ℕ
reply_as false collection now line = boolean_reply collection now (boolean line)
reply_as true collection now line = ranked_reply collection now (ranked line)

unfoldable pub reply : List ℕ → Settings → List ℕ → List ℕ
reply collection now line = reply_as now.ranked collection now line

unfoldable pub session : List ℕ → List ℕ → List ℕ
session collection input = session_of (reply collection) input

-- ---- the documents of an answer, one after another

-- whether one more is shown after so many
abbrev pub shows : Option ℕ → ℕ → Bool
shows None n = true
shows (Some k) n = nat_lt n k

-- what is printed for a document of the answer, after so many of them
unfoldable pub hit_text : List ℕ → Mode → Option ℕ → ℕ → Shown → List ℕ
hit_text doc mode most total hit = if shows most total then shown_as doc mode hit else []
