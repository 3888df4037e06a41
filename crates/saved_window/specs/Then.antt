-- Two sources that are read one after the other.
use Rattle.std.specs.Prelude.{◌≡◌, ℕ, ◌+◌, Bool, true, false, List, [], ◌++◌, Option, Some, None}
use Rattle.std.specs.Prelude.{IfSome, ◌⊎◌, Result, OnErr}
use Rattle.rpq_io.specs.Counts.{Rose}

-- the source that is read first, if there is one, and the one that is read then
pub record TwoSources (S : Type 0) : Type 0 where
  pub first : Option S
  pub second : S

-- how many there are: one or none
abbrev pub count_of : {A : Type 0} → Option A → ℕ
count_of None = 0
count_of (Some one) = 1

-- known bytes, followed by other known bytes
abbrev pub join_known : Option (List ℕ) → Option (List ℕ) → Option (List ℕ)
join_known None second = None
join_known (Some bytes) None = None
join_known (Some bytes) (Some others) = Some (bytes ++ others)

-- what the first source has left: no byte where there is none
abbrev pub left_of_first : {S : Type 0} → (S → Option (List ℕ)) → Option S → Option (List ℕ)
left_of_first left None = Some []
left_of_first left (Some source) = left source

-- what the first source has left, followed by what the second has left
abbrev pub left_of_both : {S : Type 0} → (S → Option (List ℕ)) → TwoSources S → Option (List ℕ)
left_of_both left sources = join_known (left_of_first left sources.first) (left sources.second)

-- how many reads of the first source failed: none where there is none
abbrev pub faults_of_first : {S : Type 0} → (S → ℕ) → Option S → ℕ
faults_of_first faults None = 0
faults_of_first faults (Some source) = faults source

-- how many reads of both sources failed: the sum has no limit of its own, and where a count rose
-- the sum did
abbrev pub faults_of_both : {S : Type 0} → (S → ℕ) → TwoSources S → ℕ
faults_of_both faults sources = faults_of_first faults sources.first + faults sources.second

-- whether the first source is over: it told its end, or there is none
abbrev pub is_over : {S : Type 0} → (S → Bool) → Option S → Bool
is_over has_told_end None = true
is_over has_told_end (Some source) = has_told_end source

-- there are so many first sources, one or none; and it is known whether it is over, and then it has
-- no byte left
pub record IsKnownOver {S : Type 0} (left : S → Option (List ℕ)) (has_told_end : S → Bool)
    (firsts : ℕ) (first : Option S) (over : Bool) : Type 0 where
  pub there : count_of first ≡ firsts
  pub told : over ≡ is_over has_told_end first
  pub none_left : over ≡ true → IfSome (left_of_first left first) (λ rest. rest ≡ [])

-- a read went by the order: the first source isn't read once it is over, and the second isn't
-- before; and where it failed, a read of one of them did
pub record ReadsInOrder {S A E : Type 0} (has_told_end : S → Bool) (faults : S → ℕ)
    (old new : TwoSources S) (result : Result A E) : Type 0 where
  pub first : is_over has_told_end old.first ≡ true → new.first ≡ old.first
  pub second : is_over has_told_end new.first ≡ false → new.second ≡ old.second
  pub failed : OnErr result
      (Rose (faults_of_first faults old.first) (faults_of_first faults new.first)
      ⊎ Rose (faults old.second) (faults new.second))
