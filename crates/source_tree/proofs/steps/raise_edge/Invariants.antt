-- The ledger of a search is that of its blank.
use Rattle.source_tree.proofs.steps.raise_edge.Given as goal

abbrev pub ghosts-search_raised : goal.ghosts-search_raised
ghosts-search_raised a = record { name = a.blank.name; parts = a.blank.parts }
