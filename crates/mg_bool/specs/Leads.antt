-- The place that leads, as it is found.
use Rattle.std.specs.Prelude.{◌≡◌, ℕ, ◌-◌, ◌<◌, ◌≤◌, List, [], length, get_or, nat_le, if◌then◌else◌, Bool, false, Option, Some, None, IfSome}
use Rattle.mg_defs.specs.Sat.{Query}
use Rattle.mg_defs.specs.QueryTerms.{query_terms}
use Rattle.mg_defs.specs.Terms.{docs}
use Rattle.mg_defs.specs.PageBounds.{leading, leftmost_fewest}
use Rattle.mg_query.specs.Holds.{holds}
use Rattle.mg_layout.specs.declared.term_info.TermInfo.{TermInfo}
use Rattle.mg_bool.specs.Places.{TellFirst}
use Rattle.mg_bool.specs.declared.lead.Lead.{Lead}

-- the place is that of the leftmost leading term with the fewest documents; it is told by how many places there are from it on, of `size`
abbrev pub IsLead : List ℕ → Query → ℕ → Option Lead → Type 0
IsLead collection q size None = leading q ≡ []
IsLead collection q size (Some lead) = (leftmost_fewest collection (leading q)
    ≡ Some (get_or (query_terms q) (size - lead.left) []))
    × (lead.docs ≡ docs collection (get_or (query_terms q) (size - lead.left) []))

-- the place is one of the query's
abbrev pub IsPlaceOf : Query → ℕ → Option Lead → Type 0
IsPlaceOf q size None = Unit {0}
IsPlaceOf q size (Some lead) = (lead.left ≤ size) × (size - lead.left < length (query_terms q))

-- the one with fewer documents, the first where they have as many
abbrev pub better : Option Lead → Option Lead → Option Lead
better None second = second
better (Some a) None = Some a
better (Some a) (Some b) = if nat_le a.docs b.docs then Some a else Some b

-- where the terms of the query are told first, this place leads it
abbrev pub FindsLead : Query → List (Option TermInfo) → Option Lead → Type 0
FindsLead q infos lead = (collection : List ℕ) → TellFirst collection (query_terms q) infos →
    IsLead collection q (length infos) lead

-- where the term of a place isn't there, the query fails, whichever others are
abbrev pub NeedsPlace : Query → ℕ → Type 0
NeedsPlace q place = (there : List Bool) → get_or there place false ≡ false → holds q there ≡ false

-- the query needs the place that leads it, of so many from it on
abbrev pub NeedsLead : Query → ℕ → Option Lead → Type 0
NeedsLead q size lead = IfSome lead (λ l. NeedsPlace q (size - l.left))
