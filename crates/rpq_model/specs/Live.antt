-- Live entries as the code gives them: places and references.
use Rattle.rpq_model.specs.declared.live.Live.{Live}
use Rattle.rpq_model.specs.Window.{Placed}

-- the entry that a reference points to, with its place
abbrev pub placed_entry : Live → Placed
placed_entry live = record { place = live.place; entry = live.entry.now }
