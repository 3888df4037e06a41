use Rattle.dfa_table.proofs.Places.{labels_have_places}
use Rattle.dfa_table.proofs.laws.labels_have_places.Goals as goal

pub returns : goal.returns
returns c = labels_have_places
