use Rattle.std.proofs.Common.{◌<◌, All, take}
use Rattle.engine_loop.proofs.definitions.windows_move.Given as goal

-- the windows of the queries so far move
abbrev pub invariant-loop-query : goal.invariant-loop-query
invariant-loop-query l =
    All (λ query. 0 < query.window.slide) (take l.query-index l.queries)
