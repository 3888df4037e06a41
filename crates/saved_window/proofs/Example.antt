-- What is saved of a small history, computed.
use Rattle.std.proofs.Common.{refl}
use Rattle.std.specs.Fmt.{digits}
use Rattle.saved_window.specs.Saved.{kept_tuples}
use Rattle.saved_window.specs.Example.{SavedExample}

pub saved_example : SavedExample
unfolding kept_tuples digits
saved_example query is = record {
  tuples = rw is refl;
  text = refl;
  no_query = refl;
  no_tick = rw is refl;
  no_entry = refl;
  more = rw is refl;
  saved_more = rw is refl;
}
