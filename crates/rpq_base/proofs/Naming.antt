-- When bytes are a name.
use Rattle.std.proofs.Common.{◌≡◌, ℕ, ◌<◌, true, false, List, length, get_or}
use Rattle.std.specs.List.{AllPass}
use Rattle.std.proofs.lemmas.List.Sums.{list_all-from_AllPass}
use Rattle.std.proofs.lemmas.List.Folds.{list_all_at}
use Rattle.rpq_base.specs.Names.{is_name_byte, has_name_length, is_name, IsName}

-- bytes of the right number, each of which may stand in a name, are one
pub name_from_parts : (bytes : List ℕ) → has_name_length bytes ≡ true → AllPass is_name_byte bytes → IsName bytes
unfolding is_name
name_from_parts bytes right allowed = rw (right, list_all-from_AllPass is_name_byte bytes allowed)

-- bytes of the wrong number are no name
pub no_name_from_length : (bytes : List ℕ) → has_name_length bytes ≡ false → is_name bytes ≡ false
unfolding is_name
no_name_from_length bytes wrong = rw wrong

-- bytes of which one may not stand in a name are no name
pub no_name_from_byte : (bytes : List ℕ) (index : ℕ) → has_name_length bytes ≡ true → index < length bytes →
    is_name_byte (get_or bytes index 0) ≡ false → is_name bytes ≡ false
unfolding is_name
no_name_from_byte bytes index right within bad = rw (right, list_all_at is_name_byte bytes index 0 within bad)

pub ruleset parts_of_names = (name_from_parts, no_name_from_length, no_name_from_byte)
