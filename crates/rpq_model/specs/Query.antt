-- Query definitions, as contracts see them, and the path queries that they mean.
use Rattle.std.specs.Prelude.{ℕ, List, Option, Result, bytes_eq}
use Rattle.std.specs.List.{position}
use Rattle.std.specs.Option.{ok_or}
use Rattle.rpq_base.specs.declared.data.Label.{Label}
use Rattle.path_syntax.specs.Expression.{Expression}
use Rattle.path_syntax.specs.Language.{In}
use Rattle.rpq_model.specs.declared.mode.Mode.{Mode}
use Rattle.rpq_model.specs.Window.{WindowValue}
use Rattle.rpq_model.specs.Answers.{PathQuery}

-- a name, the window, the paths that the query takes, and its expression
pub record Query : Type 0 where
  pub name : List ℕ
  pub window : WindowValue
  pub mode : Mode
  pub expr : Expression

-- the language of a query: that of its expression
abbrev pub language_of : Query → List Label → Type 0
language_of query word = In query.expr word

-- the path query that a definition means
abbrev pub path_query : Query → PathQuery
path_query query = record { language = language_of query; mode = query.mode; window = query.window }

-- the place of the first query with this name, from 0
abbrev pub place_named : List Query → List ℕ → Option ℕ
place_named queries name = position (λ query. bytes_eq query.name name) queries

-- its place as its number, or this fault where no query has the name
unfoldable pub query_named : {F : Type 0} → F → List Query → List ℕ → Result ℕ F
query_named unknown queries name = ok_or (place_named queries name) unknown
