-- Small histories that are seen alike, and some that aren't.
use Rattle.std.specs.Prelude.{ℕ, false, [], ◌∷◌, List, None, codes}
use Rattle.rpq_base.specs.declared.data.Act.{Act}
use Rattle.rpq_base.specs.declared.data.Act.TheVariants.{Insert, Tick}
use Rattle.rpq_base.specs.declared.data.Edge.{Edge}
use Rattle.rpq_base.specs.declared.data.Entry.{Entry}
use Rattle.rpq_model.specs.Window.{WindowValue}
use Rattle.alike_histories.specs.Alike.{SeeAlike}

-- the edge from x to y by the label a
abbrev pub one_edge : Edge
one_edge = record {
  from = codes "x";
  label = record { name = codes "a"; back = false };
  to = codes "y";
}

-- the entry of the first stream with this act at this time
abbrev pub acts_at : ℕ → Act → Entry
acts_at time act = record { stream = 1; tuple = record { time = time; act = act } }

-- the edge is inserted at this time, and the clock moves to 20
abbrev pub insert_then_tick : ℕ → List Entry
insert_then_tick time = acts_at time (Insert one_edge None) ∷ acts_at 20 Tick ∷ []

-- the clock is at this time, and nothing was inserted
abbrev pub only_tick : ℕ → List Entry
only_tick time = acts_at time Tick ∷ []

-- windows of size 10 that move at the multiples of 5
abbrev pub ten_by_five : WindowValue
ten_by_five = record { size = 10; slide = 5 }

-- at 20 the window has lost an edge of time 3, nobody sees that it was there; one of time 18 is
-- still in it; one of time 12 is in it, too, and leaves it sooner; and clocks count by themselves
pub record AlikeExamples : Type 0 where
  pub lost : SeeAlike ten_by_five (insert_then_tick 3) (only_tick 20)
  pub there : SeeAlike ten_by_five (insert_then_tick 18) (only_tick 20) → ⊥
  pub sooner : SeeAlike ten_by_five (insert_then_tick 18) (insert_then_tick 12) → ⊥
  pub clocks : SeeAlike ten_by_five (only_tick 20) (only_tick 21) → ⊥
