-- Indexes of the empty history, and indexes by the numbers of more names.
use Rattle.std.proofs.Common.{◌≡◌, false, [], arith}
use Rattle.edge_store.specs.Edges.{IsEmpty}
use Rattle.delta_forest.specs.Forest.{IsIndexed}
use Rattle.index_laws.specs.LawsOfIndexes.{StoresFollow}
use Rattle.query_file.specs.Compiled.{CompiledValue}
use Rattle.query_index.specs.IndexValue.{IndexValue}
use Rattle.query_index.specs.declared.stale.StaleRoots.TheVariants.{Every}
use Rattle.query_index.specs.Index.{IsIndexFor}
use Rattle.query_index.specs.IndexLaws.{MoreNamesKeepIndexes}
use Rattle.query_index.proofs.Untouched.{bare_named, no_rows, rows_by_more}

pub index_starts : StoresFollow → (query : CompiledValue) (index : IndexValue) →
    index.clock.size ≡ query.def.window.size → index.clock.slide ≡ query.def.window.slide →
    index.clock.clock ≡ 0 → index.forest.dfa ≡ query.dfa → IsEmpty index.forest.store →
    index.forest.trees ≡ [] → IsIndexed index.forest → index.forest.broken ≡ false →
    index.forest.calls ≡ 0 → index.shown ≡ [] → index.stale ≡ Every →
    IsIndexFor query [] 0 [] index
index_starts follow query index size slide start automaton empty bare indexed unbroken calls shown
    stale = record {
      size = size;
      slide = slide;
      time = start;
      automaton = automaton;
      holds = follow.start query.def.window [] index.forest.dfa index.forest.store empty;
      indexed = indexed;
      unbroken = unbroken;
      few = omega (arith, calls);
      rows = no_rows query.def.mode [] index (bare_named [] index.forest bare) shown stale;
    }

pub more_named : StoresFollow → MoreNamesKeepIndexes
more_named follow query history fed names more index keeps is = record {
  size = is.size;
  slide = is.slide;
  time = is.time;
  automaton = is.automaton;
  holds = follow.more_names query.def.window history names more index.forest.dfa index.forest.store
      keeps is.holds;
  indexed = is.indexed;
  unbroken = is.unbroken;
  few = is.few;
  rows = rows_by_more query.def.mode names more index keeps is.rows;
}
