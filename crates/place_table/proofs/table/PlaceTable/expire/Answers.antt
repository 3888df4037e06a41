use Rattle.std.proofs.Common.{◌≡◌, refl, sym, ap, subst, arith}
use Rattle.place_table.specs.Queue.{with_lost}
use Rattle.delta_tree.specs.Changes.{Expires}
use Rattle.place_table.specs.Sound.{tree_kept}
use Rattle.place_table.specs.Table.{TableValue, tree_in}
use Rattle.place_table.proofs.Found.{ok_then}
use Rattle.place_table.proofs.Leaving.{pending_taken}
use Rattle.place_table.proofs.Expiry.{AreTold, expiring_after, none_told, told_after, both_ok}
use Rattle.place_table.proofs.Expired.{trees_expire, sound_after, lost_after}
use Rattle.place_table.proofs.table.PlaceTable.expire.Goals as goal

pub loop-next-init : goal.loop-next-init
loop-next-init c = record {
  expiring = record {
    lives = λ id. refl;
    noted = λ id kept is. c.self.invariant.noted id.root id.id kept is;
  };
  root = refl;
  puts = refl;
  marked = refl;
  told = subst (AreTold c.args.now c.self.inside.places c.self.inside.places)
      (sym c.clear.ensures.items) (none_told c.args.now c.self.inside.places);
}

pub loop-next-smaller : goal.loop-next-smaller
loop-next-smaller c =
    omega (
      arith,
      c.drop_or_note-value.ensures.pending,
      pending_taken c.args.now c.loop-next.self-inside.dues.items
          c.next_due.new.self.items c.in-Some.next c.in-Some.ensures.next,
    )

pub loop-next-preserved : goal.loop-next-preserved
loop-next-preserved c =
    let first = c.self.inside.places in
    let old = c.loop-next.self-inside.places in
    let new = c.drop_or_note-value.new.places in
    record {
      expiring = expiring_after c.args.now old new c.in-Some.next.item
          (λ each. c.drop_or_note-value.ensures.nodes each.root each.id)
          first c.loop-next.self-inside.dues.items
          c.next_due.new.self.items c.drop_or_note-value.new.dues.items c.in-Some.next refl
          c.loop-next.invariant.expiring c.in-Some.ensures.next c.drop_or_note-value.ensures.kept
          c.drop_or_note-value.ensures.noted;
      root = c.loop-next.invariant.root;
      puts = c.loop-next.invariant.puts;
      marked = c.loop-next.invariant.marked;
      told = both_ok c.loop-next.outcome c.add_lost-outcome.result c.loop-next.invariant.told
          c.add_lost-outcome.ensures.before c.add_lost-outcome.ensures.added
          (λ (told : AreTold c.args.now first old c.loop-next.lost.items)
          (is : c.add_lost-outcome.new.lost.items
          ≡ with_lost c.loop-next.lost.items c.in-Some.next.item c.drop_or_note-value.result).
          subst (AreTold c.args.now first new) (sym is)
          (told_after c.args.now first old new c.in-Some.next.item
          (λ each. c.drop_or_note-value.ensures.nodes each.root each.id)
          c.loop-next.lost.items told c.drop_or_note-value.result
          c.drop_or_note-value.ensures.dropped));
    }

pub invariant_of-self : goal.invariant_of-self
invariant_of-self c =
    sound_after c.self.inside.puts c.args.now c.self.inside.places c.loop-next.self-inside.places
    c.loop-next.self-inside.dues.items c.loop-next.invariant.expiring c.in_default.ensures.later
    c.self.invariant.trees c.loop-next.self-inside.puts c.next_due.new.self.items
    c.loop-next.invariant.puts c.in_default.ensures.same

pub returns-clause-gone : goal.returns-clause-gone
returns-clause-gone c root =
    subst (λ (table : TableValue). Expires (tree_in table root)
    (tree_kept c.loop-next.self-inside.puts c.loop-next.self-inside.places root) c.args.now)
    c.self.view_is
    (subst (λ puts. Expires (tree_kept c.self.inside.puts c.self.inside.places root)
    (tree_kept puts c.loop-next.self-inside.places root) c.args.now)
    (sym c.loop-next.invariant.puts)
    (trees_expire c.self.inside.puts c.args.now c.self.inside.places
    c.loop-next.self-inside.places c.loop-next.self-inside.dues.items
    c.loop-next.invariant.expiring c.in_default.ensures.later root))

pub returns-clause-lost : goal.returns-clause-lost
returns-clause-lost c =
    ok_then c.loop-next.outcome c.loop-next.invariant.told (λ told.
    lost_after c.self.inside.puts c.args.now c.self.inside.places
    c.loop-next.self-inside.places c.loop-next.self-inside.dues.items
    c.loop-next.invariant.expiring c.in_default.ensures.later c.args.self.now
    c.loop-next.lost.items
    (λ root. sym (ap (λ (table : TableValue). tree_in table root) c.self.view_is)) told)
