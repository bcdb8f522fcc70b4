-- What a query means: the definitions' query.
use Rattle.mg_defs.specs.Sat.{Query as Meant, term, both, either, without}
use Rattle.mg_query.specs.declared.query.Query.{Query, Term, And', Or', Not'}

abbrev pub query_of : Query → Meant
query_of (Term t) = term t
query_of (And' p l q r) = both (query_of l) (query_of r)
query_of (Or' p l q r) = either (query_of l) (query_of r)
query_of (Not' p l) = without (query_of l)
