use Rattle.query_index.proofs.Starting.{more_named}
use Rattle.query_index.proofs.laws.more_names_keep_indexes.Goals as goal

pub returns : goal.returns
returns c = more_named c.stores_follow.ensures
