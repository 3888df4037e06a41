-- Seeds, each of which gives the next one, and the numbers that are drawn with them.
use Rattle.std.specs.Prelude.{ℕ, zero, suc, ◌+◌, ◌*◌, ◌/◌, ◌%◌, ◌^◌}

-- the seed that follows a seed, by a linear congruence
unfoldable pub next_seed : ℕ → ℕ
next_seed before = (before * 1103515245 + 12345) % 2 ^ 31

-- the seeds in their order, from place 0 on; the first is 1
unfoldable pub seed : ℕ → ℕ
seed zero = 1
seed (suc place) = next_seed (seed place)

-- the number that is drawn with a given seed: what stands above its low 16 bits
abbrev pub number_of : ℕ → ℕ
number_of given = given / 65536

-- the numbers that are drawn, in the order of the seeds
abbrev pub drawn : ℕ → ℕ
drawn place = number_of (seed place)
