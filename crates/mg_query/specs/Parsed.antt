-- What a call of the parser has read, and where it stopped.
use Rattle.std.specs.Prelude.{◌≡◌, ℕ, Bool, true, false, Some, List, ◌∷◌, ◌++◌, Result, IfErr, IfOk, IfSome, OnOk}
use Rattle.std.specs.Bool.{OnTrue, OnFalse}
use Rattle.mg_defs.specs.Sat.{Query as Meant}
use Rattle.mg_defs.specs.Tokens.{Token, PlacedToken, placed, bare}
use Rattle.mg_defs.specs.Grammar.{Level, Derives}
use Rattle.mg_defs.specs.Walk.{Spot}
use Rattle.mg_defs.specs.Read.{refusal_from}
use Rattle.mg_query.specs.Ahead.{StopsOn, IsNotAhead}
use Rattle.mg_query.specs.AheadOf.{ahead}
use Rattle.mg_query.specs.declared.parser.Parser.{Parser}
use Rattle.mg_query.specs.declared.query.Query.{Query}
use Rattle.mg_query.specs.declared.query_err.QueryErr.{QueryErr}
use Rattle.mg_query.specs.QueryOf.{query_of}
use Rattle.mg_query.specs.RefusalOf.{refusal_of}

abbrev pub at_depth : Bool → ℕ → Spot
at_depth wants depth = record { wants = wants; depth = depth }

-- The tokens before are some that read as the query on the level, and then those after. None of the former is refused at this depth of parentheses.
pub record Reads (level : Level) (depth size : ℕ) (before after : List PlacedToken) (q : Meant) : Type 0 where
  pub read : List Token
  pub whole : bare before ≡ read ++ bare after
  pub derives : Derives level read q
  pub goes_on : (wants : Bool) → refusal_from (at_depth wants depth) size before
      ≡ refusal_from (at_depth false depth) size after

-- The error is the first refusal of the tokens before, where an operand must come next.
abbrev pub IsStopped : QueryErr → ℕ → ℕ → List PlacedToken → Type 0
IsStopped e depth size before = IfSome (refusal_of e) (λ why. refusal_from (at_depth true depth) size before ≡ Some why)

-- A call of the parser answers on a level, at a depth of parentheses.
pub record Parses (level : Level) (depth : ℕ) (old new : Parser) (result : Result Query QueryErr) : Type 0 where
  -- a query is what the tokens that it took read as
  pub reads : IfOk result (λ q. Reads level depth old.end (ahead old) (ahead new) (query_of q))
  -- and behind them stands what ends a list on the level
  pub stops : OnOk result (StopsOn level (ahead new))
  -- an error is the first refusal of the tokens ahead
  pub stopped : IfErr result (λ e. IsStopped e depth old.end (ahead old))
  pub end : new.end ≡ old.end

-- A sign is taken where it is the next token, and only there.
pub record Takes (sign : Token) (old new : Parser) (taken : Bool) : Type 0 where
  pub yes : OnTrue taken ((at : ℕ) × (ahead old ≡ placed at sign ∷ ahead new))
  pub no : OnFalse taken (IsNotAhead sign (ahead old))
  pub same : OnFalse taken (ahead new ≡ ahead old)
  pub end : new.end ≡ old.end
