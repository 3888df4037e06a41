use Rattle.std.proofs.Common.{[], ap, sym, ◌∙◌}
use Rattle.std.specs.List.{filter_map}
use Rattle.std.proofs.lemmas.List.{append-nil}
use Rattle.place_table.specs.Reading.{gain_of}
use Rattle.place_table.specs.Table.{TableValue, node_at}
use Rattle.place_table.proofs.Chosen.{place_shown, nothing_at, gains_are}
use Rattle.place_table.proofs.Found.{ok_then}
use Rattle.place_table.proofs.Listed.{none_once}
use Rattle.place_table.proofs.table.PlaceTable.gains_at.Goals as goal

pub returns-in-Some : goal.returns-in-Some
returns-in-Some c =
    ok_then c.add_gains.result c.add_gains.ensures.added (λ is. (
      filter_map (gain_of c.args.above c.args.most) c.at.result.now.nodes,
      is,
      gains_are c.self.inside.puts c.args.self.now c.args.id c.at.result.now.nodes
          (λ root. sym (ap (λ (t : TableValue). node_at t root c.args.id) c.self.view_is)
          ∙ place_shown c.self.inside.puts c.self.inside.places c.args.id c.in-Some.number
          c.at.result.now c.in-Some.ensures c.at.ensures.place c.at.ensures.kept root)
          c.add_gains.ensures.once c.args.above c.args.most,
    ))

pub returns-in-None : goal.returns-in-None
returns-in-None c = (
  [],
  sym (append-nil _),
  gains_are c.self.inside.puts c.args.self.now c.args.id []
      (λ root. sym (ap (λ (t : TableValue). node_at t root c.args.id) c.self.view_is)
      ∙ nothing_at c.self.inside.puts c.self.inside.places c.args.id c.in-None.ensures root)
      none_once c.args.above c.args.most,
)
