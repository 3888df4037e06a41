-- The ledger of a search is that of its blank.
use Rattle.source_tree.proofs.steps.remove_edge.Given as goal

abbrev pub ghosts-search_removed : goal.ghosts-search_removed
ghosts-search_removed a = record { name = a.blank.name; parts = a.blank.parts }
