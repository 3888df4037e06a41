-- Seeds and what is drawn with them.
use Rattle.std.proofs.Common.{◌≡◌, ℕ, zero, suc, ◌+◌, ◌-◌, ◌*◌, ◌^◌, ◌<◌, refl, sym, ap, arith}
use Rattle.tuple_generator.specs.Seeds.{next_seed, seed, drawn}
use Rattle.tuple_generator.specs.Generator.{tuple_of, generated_tuple, seed_after}
use Rattle.tuple_generator.specs.Laws.{SeedsAreSmall, SeedsGoOn, TuplesByDraws}

-- a seed that follows one is below the modulus
pub next_small : (before : ℕ) → next_seed before < 2 ^ 31
unfolding next_seed
next_small before = omega arith

pub seeds_are_small : SeedsAreSmall
unfolding seed
seeds_are_small zero = omega arith
seeds_are_small (suc place) = next_small (seed place)

-- three places on
three_on : (place later : ℕ) → later ≡ suc (suc (suc place)) → seed later ≡ seed_after (seed place)
unfolding seed
three_on place later is = ap seed is

pub seeds_go_on : SeedsGoOn
unfolding seed
seeds_go_on = record {
  first = refl;
  next = λ position some. three_on (3 * position - 3) (3 * (position + 1) - 3) (omega (arith, some));
}

-- the tuple that is made with the seed at a place, by what is drawn at the three places behind it
by_draws : (position before first second third : ℕ) → first ≡ suc before → second ≡ suc (suc before) → third ≡ suc (suc (suc before)) →
    generated_tuple position (seed before) ≡ tuple_of position (drawn first) (drawn second) (drawn third)
unfolding seed generated_tuple
by_draws position before first second third one two three =
    λ i. tuple_of position (drawn (sym one i)) (drawn (sym two i)) (drawn (sym three i))

pub tuples_by_draws : TuplesByDraws
tuples_by_draws position some = by_draws position (3 * position - 3) (3 * position - 2) (3 * position - 1) (3 * position)
    (omega (arith, some)) (omega (arith, some)) (omega (arith, some))
