-- What an answer tells, as one fact follows from another.
use Rattle.std.proofs.Common.{◌≡◌, Option, Some, None, Result, Ok, Err}
use Rattle.std.specs.Prelude.{IsSome, OnOk, OnErr}

pub then_ok : {A E P Q : Type 0} (result : Result A E) → OnOk result P → (P → Q) → OnOk result Q
then_ok (Ok x) fact follows = follows fact
then_ok (Err e) fact follows = tt

pub then_err : {A E P Q : Type 0} (result : Result A E) → OnErr result P → (P → Q) → OnErr result Q
then_err (Ok x) fact follows = tt
then_err (Err e) fact follows = follows fact

-- something that was found isn't none
pub some_not_none : {V : Type 0} (value : V) (looked : Option V) → Some value ≡ looked → looked ≡ None → ⊥
some_not_none value None is none = cc
some_not_none value (Some x) is none = cc

-- none isn't something
pub none_is_none : {V : Type 0} (found : Option V) → found ≡ None → IsSome found → ⊥
none_is_none None is there = cc
none_is_none (Some x) is there = cc
