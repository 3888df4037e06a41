-- What the definitions are meant to say, as laws.
use Rattle.std.specs.Prelude.{◌≡◌, ℕ, ◌-◌, ◌^◌, true, false, ⊤, List, [], ◌∷◌, ◌++◌, All, codes}
use Rattle.rpq_base.specs.declared.data.Event.{Event}
use Rattle.standing.specs.Objects.{ObjectValue}
use Rattle.standing.specs.Told.{counted}
use Rattle.standing.specs.Circles.{CircleValue, TellsEach, TellsFront}
use Rattle.standing.specs.Stood.{HaveStood}
use Rattle.standing.specs.Said.{numbers_text, tail_text}
use Rattle.standing.specs.Tails.{last_of}

-- a gain of a query
abbrev pub gain : ℕ → List ℕ → List ℕ → Event
gain query from to = record { query = query; added = true; pair = record { from = from; to = to } }

-- a loss of a query
abbrev pub loss : ℕ → List ℕ → List ℕ → Event
loss query from to = record { query = query; added = false; pair = record { from = from; to = to } }

-- objects stand from the beginning, and while a circle of them is told of more events
pub record StandByTelling : Type 0 where
  pub begun : (objects : List ObjectValue) → HaveStood objects [] ⊤ objects []
  pub all : (objects : List ObjectValue) (events more : List Event) (old new : CircleValue) →
      HaveStood objects events ⊤ old.members old.left → TellsEach more old new →
      HaveStood objects (events ++ more) ⊤ new.members new.left
  pub front : (objects : List ObjectValue) (events more : List Event) (old new : CircleValue) →
      HaveStood objects events ⊤ old.members old.left → TellsFront more old new →
      HaveStood objects (events ++ more) ⊥ new.members new.left

-- where no object was gone at first, none of those that stayed is, whether they heard all or not
abbrev pub NoneGoneStays : Type 0
NoneGoneStays =
    (objects : List ObjectValue) (events : List Event) (stayed left : List ObjectValue) →
    HaveStood objects events ⊥ stayed left →
    All (λ object. object.gone ≡ false) objects → All (λ object. object.gone ≡ false) stayed

-- numbers that are counted on, up to the greatest
pub record CountingExamples : Type 0 where
  pub small : counted 3 2 ≡ 5
  pub up_to : counted (2 ^ 64 - 3) 2 ≡ 2 ^ 64 - 1
  pub beyond : counted (2 ^ 64 - 3) 5 ≡ 2 ^ 64 - 1
  pub there : counted (2 ^ 64 - 1) 1 ≡ 2 ^ 64 - 1

-- what objects say, and what a tail keeps
pub record TextExamples : Type 0 where
  pub tally : numbers_text (codes "tally") (record { added = 2; retracted = 0 }) ≡ codes "tally 2 0"
  pub roll : numbers_text (codes "roll") (record { added = 10; retracted = 7 }) ≡ codes "roll 10 7"
  pub none : tail_text [] ≡ codes "tail"
  pub gains : tail_text (gain 0 (codes "y") (codes "x") ∷ gain 0 (codes "y") (codes "y") ∷ [])
      ≡ codes "tail +0,y,x +0,y,y"
  pub loss : tail_text (loss 12 (codes "u") (codes "v") ∷ []) ≡ codes "tail -12,u,v"
  pub last : last_of {X = ℕ} 2 (1 ∷ 2 ∷ 3 ∷ []) ≡ 2 ∷ 3 ∷ []
  pub few : last_of {X = ℕ} 2 (1 ∷ []) ≡ 1 ∷ []
