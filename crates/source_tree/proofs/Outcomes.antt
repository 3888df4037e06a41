-- What becomes of an end: it comes, it goes, or neither.
use Rattle.std.proofs.Common.{◌≡◌, ℕ, Option, None, refl, sym, ap, ◌∙◌, true≢false}
use Rattle.std.specs.Prelude.{IsSome, is_some}
use Rattle.source_tree.specs.Ends.{HasOutcome}
use Rattle.source_tree.specs.declared.change.Outcome.{Outcome}
use Rattle.source_tree.specs.declared.change.Outcome.TheVariants.{Lost, Gained}

-- no end is there and isn't
not_both : (end : Option ℕ) → IsSome end → end ≡ None → ⊥
not_both end some none = true≢false (sym some ∙ ap is_some none)

-- an end has one outcome at most
pub one_outcome : (first second : Outcome) (before after : Option ℕ) →
    HasOutcome first before after → HasOutcome second before after → first ≡ second
one_outcome Lost Lost before after one other = refl
one_outcome Lost Gained before after one other = absurd (not_both before one.0 other.0)
one_outcome Gained Lost before after one other = absurd (not_both before other.0 one.0)
one_outcome Gained Gained before after one other = refl

-- it has none where it is as it was
pub none_kept : (outcome : Outcome) (before after : Option ℕ) → before ≡ after →
    HasOutcome outcome before after → ⊥
none_kept Lost before after same has = not_both before has.0 (same ∙ has.1)
none_kept Gained before after same has = not_both after has.1 (sym same ∙ has.0)

-- and none where it is there before and after
pub none_both : (outcome : Outcome) (before after : Option ℕ) → IsSome before → IsSome after →
    HasOutcome outcome before after → ⊥
none_both Lost before after had some has = not_both after some has.1
none_both Gained before after had some has = not_both before had has.0
