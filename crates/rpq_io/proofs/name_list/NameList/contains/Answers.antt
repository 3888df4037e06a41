use Rattle.std.proofs.Common.{bytes_eq, string_bytes, sym, ap, ◌∙◌}
use Rattle.std.specs.List.{list_any}
use Rattle.rpq_io.proofs.Names.{list_any-map}
use Rattle.rpq_io.specs.Names.{NameRoom}
use Rattle.rpq_io.proofs.name_list.NameList.contains.Goals as goal

pub returns : goal.returns
returns c =
    c.is_among.ensures
    ∙ ap (λ names. list_any (λ noted. bytes_eq (string_bytes noted) c.args.name.now) names) c.as_slice.ensures.value
    ∙ sym (list_any-map (λ noted. bytes_eq noted c.args.name.now)
    (λ noted. string_bytes noted) c.self.inside.names.items)
    ∙ ap (λ (list : NameRoom). list_any (λ noted. bytes_eq noted c.args.name.now) list.names) c.self.view_is
