-- The sort keys of names: how great they are, and that they are in the order of names.
use Rattle.std.proofs.Common.{◌≡◌, ◌≢◌, ◌<◌, ◌≤◌, ◌+◌, ◌*◌, ◌/◌, ◌^◌, ℕ, List, [], refl, sym, ap, ◌∙◌, arith}
use Rattle.std.specs.Ordering.{nat_cmp}
use Rattle.std.proofs.Math.Nat.{pow-le-pow_right}
use Rattle.rpq_base.specs.Order.{name_cmp}
use Rattle.rpq_base.specs.Leading.{leading, AreBytes}
use Rattle.rpq_base.proofs.Leading.{digit_more, leading_below, leading_decides, none_leading}
use Rattle.name_table.specs.Keys.{beginning, sort_key}

-- ---- their size

-- there is room for a digit more
pub has_room : (place : ℕ) (name : List ℕ) (byte : ℕ) → AreBytes name → place < 16 → byte < 256 →
    leading place name * 256 + byte < 2 ^ 128
has_room place name byte bytes within small =
    let most : 256 ^ place ≤ 256 ^ 15 = pow-le-pow_right (omega arith) {i = place} {j = 15} (omega (arith, within)) in
    omega (arith, leading_below place name bytes, most, small)

-- all 16 digits are the key
pub all_digits : (place : ℕ) (name : List ℕ) → place ≡ 16 → leading place name ≡ sort_key name
unfolding sort_key
all_digits place name is = ap (λ places. leading places name) is

-- ---- their order

-- names whose beginnings differ are in the order of these
pub beginning_decides : (first second : List ℕ) (key other : ℕ) → AreBytes first → AreBytes second →
    key ≡ beginning first → other ≡ beginning second → key ≢ other → nat_cmp key other ≡ name_cmp first second
unfolding beginning
beginning_decides first second key other bytes others is also differ =
    leading_decides 8 first second key other bytes others is also differ

-- names whose keys differ are in the order of these
pub key_decides : (first second : List ℕ) (key other : ℕ) → AreBytes first → AreBytes second →
    key ≡ sort_key first → other ≡ sort_key second → key ≢ other → nat_cmp key other ≡ name_cmp first second
unfolding sort_key
key_decides first second key other bytes others is also differ =
    leading_decides 16 first second key other bytes others is also differ

-- no bytes have the key 0
pub no_key : (name : List ℕ) → [] ≡ name → 0 ≡ sort_key name
unfolding sort_key
no_key name is = sym (none_leading 16) ∙ ap (leading 16) is

-- the first half of the sort key is the beginning
pub beginning_is : (name : List ℕ) (key : ℕ) → AreBytes name → key ≡ sort_key name → key / 2 ^ 64 ≡ beginning name
unfolding sort_key beginning
beginning_is name key bytes is =
    let more = digit_more name in
    omega (
      arith,
      is,
      more 8 9 refl,
      more 9 10 refl,
      more 10 11 refl,
      more 11 12 refl,
      more 12 13 refl,
      more 13 14 refl,
      more 14 15 refl,
      more 15 16 refl,
      bytes 8,
      bytes 9,
      bytes 10,
      bytes 11,
      bytes 12,
      bytes 13,
      bytes 14,
      bytes 15,
    )
