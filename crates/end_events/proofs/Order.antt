-- The order of numbered pairs is total, and it is that of their names.
use Rattle.std.proofs.Common.{◌≡◌, ◌≢◌, ◌<◌, ℕ, List, Ordering, refl, sym, ap, ap₂, ◌∙◌, arith}
use Rattle.std.specs.declared.cmp.Ordering.TheVariants.{Less, Equal, Greater}
use Rattle.std.specs.Cmp.{IsTotalOrder}
use Rattle.std.specs.Ordering.{nat_cmp, ordering_then}
use Rattle.std.proofs.lemmas.Cmp.{by_ranked, nat_cmp_total, nat_list_cmp_total, on_total, ranked, then_total}
use Rattle.rpq_base.specs.Order.{name_cmp, pair_cmp}
use Rattle.name_table.specs.Names.{name_at}
use Rattle.name_table.proofs.Keys.{beginning_decides}
use Rattle.end_events.specs.declared.pairs.NumberedPair.{NumberedPair}
use Rattle.end_events.specs.Order.{keyed_cmp, numbered_cmp}
use Rattle.end_events.specs.Pairs.{pair_at, IsNamed, IsNumbered}

-- numbered pairs are in a total order
pub numbered_total : (names : List (List ℕ)) → IsTotalOrder (numbered_cmp names)
numbered_total names =
    then_total
    (then_total
    (on_total (λ (pair : NumberedPair). pair.root_key) nat_cmp_total)
    (on_total (λ (pair : NumberedPair). name_at names pair.root) nat_list_cmp_total))
    (then_total
    (on_total (λ (pair : NumberedPair). pair.vertex_key) nat_cmp_total)
    (on_total (λ (pair : NumberedPair). name_at names pair.vertex) nat_list_cmp_total))

-- where the first parts differ, the second don't count
pub by_first : (first second : Ordering) → first ≢ Equal → ordering_then first second ≡ first
by_first Less second differ = refl
by_first Equal second differ = absurd (differ refl)
by_first Greater second differ = refl

-- keys that are the names' beginnings leave the order of the names
keyed_is : (names : List (List ℕ)) (first first_key second second_key : ℕ) →
    IsNamed names first first_key → IsNamed names second second_key →
    keyed_cmp names first first_key second second_key ≡ name_cmp (name_at names first) (name_at names second)
keyed_is names first first_key second second_key here there =
    let rest = name_cmp (name_at names first) (name_at names second) in
    let decided : first_key ≢ second_key → nat_cmp first_key second_key ≡ rest =
    beginning_decides (name_at names first) (name_at names second) first_key second_key here.bytes there.bytes here.key_is there.key_is in
    by_ranked (first_key < second_key) (first_key ≡ second_key) (second_key < first_key) (nat_cmp first_key second_key)
    (ranked first_key second_key (nat_cmp first_key second_key) refl)
    (λ is before. ap (λ order. ordering_then order rest) is ∙ sym is ∙ decided (λ same. absurd (omega (arith, before, same))))
    (λ is same. ap (λ order. ordering_then order rest) is)
    (λ is after. ap (λ order. ordering_then order rest) is ∙ sym is ∙ decided (λ same. absurd (omega (arith, after, same))))

-- numbered pairs are in the order of their names
pub numbered_is : (names : List (List ℕ)) (first second : NumberedPair) → IsNumbered names first → IsNumbered names second →
    numbered_cmp names first second ≡ pair_cmp (pair_at names first) (pair_at names second)
numbered_is names first second here there =
    ap₂ ordering_then
    (keyed_is names first.root first.root_key second.root second.root_key here.from there.from)
    (keyed_is names first.vertex first.vertex_key second.vertex second.vertex_key here.to there.to)
