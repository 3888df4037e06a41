use Rattle.std.proofs.Common.{◌≡◌, sym, ap, ◌∙◌}
use Rattle.std.specs.BTreeSet.{contains}
use Rattle.rpq_base.specs.declared.data.Entry.{Entry}
use Rattle.rpq_base.specs.declared.data.Act.TheVariants.{Delete}
use Rattle.rpq_model.specs.Deleted.{key_cmp}
use Rattle.rpq_model.proofs.LiveEdges.{one_deleted}
use Rattle.rpq_model.proofs.live.add_deleted.Goals as goal

pub returns-in_ok-insert : goal.returns-in_ok-insert
returns-in_ok-insert c key =
    let act = c.args.entry.now.tuple.act in
    let act_is : act ≡ Delete c.in-Delete.edge = ap (λ (entry : Entry). entry.tuple.act) (sym c.entry.view_is) ∙ c.in-Delete.is in
    one_deleted c.key_of.result key c.in-Delete.edge act (contains key_cmp c.args.deleted.now key) (contains key_cmp c.insert.new.self key)
    c.key_of.ensures act_is (c.in_ok-insert.ensures.updates.0 key)
