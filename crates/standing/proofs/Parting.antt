-- The places of objects that hear an event: of those that stay, and of those that leave at it.
use Rattle.std.proofs.Common.{◌≡◌, ℕ, ◌+◌, ◌<◌, Bool, true, false, not, cond, List, [], ◌∷◌, ◌++◌, filter, refl, arith}
use Rattle.std.specs.List.{AllZip, AllByRecursion}
use Rattle.rpq_base.specs.declared.data.Event.{Event}
use Rattle.standing.specs.Objects.{ObjectValue}
use Rattle.standing.specs.Told.{HasHeard}
use Rattle.standing.specs.Circles.{leaves, stays}
use Rattle.standing.specs.Stood.{times}
use Rattle.standing.proofs.Places.{Rises, times-cons}

-- the places are parted into those of the objects that stay and those of the ones that go: they
-- keep their order, each stands as often as it did, and what is said of the objects holds there
pub record ArePlaces (P Q : ℕ → ObjectValue → Type 0) (places : List ℕ) (staying going : List ObjectValue) : Type 0 where
  pub stay : List ℕ
  pub go : List ℕ
  pub above : (bound : ℕ) → AllByRecursion (λ each. bound < each) places → AllByRecursion (λ each. bound < each) stay
  pub rising : Rises places → Rises stay
  pub count : (place : ℕ) → times place places ≡ times place stay + times place go
  pub each_stays : AllZip P stay staying
  pub each_goes : AllZip Q go going

-- nobody goes
none_go : (P Q : ℕ → ObjectValue → Type 0) (places : List ℕ) (staying : List ObjectValue) → AllZip P places staying →
    ArePlaces P Q places staying []
none_go P Q places staying each = record {
  stay = places;
  go = [];
  above = λ bound all. all;
  rising = λ rises. rises;
  count = λ place. omega arith;
  each_stays = each;
  each_goes = tt;
}

-- one more that stays
one_stays : (P Q : ℕ → ObjectValue → Type 0) (place : ℕ) (places : List ℕ) (object : ObjectValue) (staying going : List ObjectValue) →
    P place object → ArePlaces P Q places staying going → ArePlaces P Q (place ∷ places) (object ∷ staying) going
unfolding Rises
one_stays P Q place places object staying going is rest = record {
  stay = place ∷ rest.stay;
  go = rest.go;
  above = λ bound all. (all.0, rest.above bound all.1);
  rising = λ rises. (rest.above place rises.0, rest.rising rises.1);
  count = λ each. omega (arith, times-cons each place places, times-cons each place rest.stay, rest.count each);
  each_stays = (is, rest.each_stays);
  each_goes = rest.each_goes;
}

-- one more that goes
one_goes : (P Q : ℕ → ObjectValue → Type 0) (place : ℕ) (places : List ℕ) (object : ObjectValue) (staying going : List ObjectValue) →
    Q place object → ArePlaces P Q places staying going → ArePlaces P Q (place ∷ places) staying (object ∷ going)
unfolding Rises
one_goes P Q place places object staying going is rest = record {
  stay = rest.stay;
  go = place ∷ rest.go;
  above = λ bound all. rest.above bound all.1;
  rising = λ rises. rest.rising rises.1;
  count = λ each. omega (arith, times-cons each place places, times-cons each place rest.go, rest.count each);
  each_stays = rest.each_stays;
  each_goes = (is, rest.each_goes);
}

-- what an object that heard the event is, as it stays or goes
abbrev pub PartsAt : (before P Q : ℕ → ObjectValue → Type 0) → Event → Type 0
PartsAt before P Q event = (place : ℕ) (old new : ObjectValue) → HasHeard (event ∷ []) old new → before place old →
    (leaves event new ≡ false → P place new) × (leaves event new ≡ true → Q place new)

one_parted : (P Q : ℕ → ObjectValue → Type 0) (goes : Bool) (place : ℕ) (places : List ℕ) (object : ObjectValue) (staying untold going : List ObjectValue) →
    (goes ≡ false → P place object) → (goes ≡ true → Q place object) → ArePlaces P Q places (staying ++ untold) going →
    ArePlaces P Q (place ∷ places) (cond (not goes) (object ∷ staying) staying ++ untold) (cond goes (object ∷ going) going)
one_parted P Q true place places object staying untold going as_staying as_going rest =
    one_goes P Q place places object (staying ++ untold) going (as_going refl) rest
one_parted P Q false place places object staying untold going as_staying as_going rest =
    one_stays P Q place places object (staying ++ untold) going (as_staying refl) rest

-- all that hear the event are parted, and those behind them stay
pub parted : (before P Q : ℕ → ObjectValue → Type 0) (event : Event) (places : List ℕ) (first told untold : List ObjectValue) →
    PartsAt before P Q event → ((behind : List ℕ) → AllZip before behind untold → AllZip P behind untold) →
    AllZip (HasHeard (event ∷ [])) first told → AllZip before places (first ++ untold) →
    ArePlaces P Q places (filter (stays event) told ++ untold) (filter (leaves event) told)
parted before P Q event places [] [] untold parts behind heard each = none_go P Q places untold (behind places each)
parted before P Q event places [] (new ∷ told) untold parts behind heard each = absurd heard
parted before P Q event places (old ∷ first) [] untold parts behind heard each = absurd heard
parted before P Q event [] (old ∷ first) (new ∷ told) untold parts behind heard each = absurd each
parted before P Q event (place ∷ places) (old ∷ first) (new ∷ told) untold parts behind heard each =
    let one = parts place old new heard.0 each.0 in
    one_parted P Q (leaves event new) place places new (filter (stays event) told) untold (filter (leaves event) told) one.0 one.1
    (parted before P Q event places first told untold parts behind heard.1 each.1)
