-- How many bytes a stream may have, by how many entries its history may have.
use Rattle.std.proofs.Common.{◌≡◌, ℕ, ◌^◌, ◌<◌, ◌≤◌, refl}
use Rattle.std.proofs.lemmas.Bool.{le-leb, lt-leb}
use Rattle.stream_tuples.specs.Limits.{byte_limit, endless_byte_limit, byte_limit_of}

-- a history of at most 2^30 entries keeps them all
pub kept_limit : (cap : ℕ) → cap ≤ 2 ^ 30 → byte_limit_of cap ≡ byte_limit
unfolding byte_limit_of
kept_limit cap few = rw (le-leb cap (2 ^ 30) few) refl

-- one of more doesn't
pub endless_limit : (cap : ℕ) → 2 ^ 30 < cap → byte_limit_of cap ≡ endless_byte_limit
unfolding byte_limit_of
endless_limit cap many = rw (lt-leb cap (2 ^ 30) many) refl
