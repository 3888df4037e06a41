-- What the definitions are meant to say, as laws.
use Rattle.std.specs.Prelude.{◌≡◌, ◌≢◌, ◌↔◌, List, [], length}
use Rattle.rpq_base.specs.declared.data.Label.{Label}
use Rattle.containment_test.specs.Containment.{IsLeastTriple}
use Rattle.containment_test.specs.Verdict.{IsVerdict}
use Rattle.containment_test.specs.declared.verdict.Verdict.{Verdict}

-- a language has one verdict at most
abbrev pub OneVerdict : (List Label → Type 0) → Type 0
OneVerdict language = (first second : Verdict) →
    IsVerdict language first → IsVerdict language second → first ≡ second

-- languages with the same nonempty words have the same verdict
abbrev pub EmptyWordIsNoMatter : (language other : List Label → Type 0) → Type 0
EmptyWordIsNoMatter language other =
    ((word : List Label) → word ≢ [] → language word ↔ other word) →
    (verdict : Verdict) → IsVerdict language verdict ↔ IsVerdict other verdict

-- of the least words that show that a language isn't contained, the second is one label
abbrev pub SecondIsOneLabel : (List Label → Type 0) → Type 0
SecondIsOneLabel language = (p q w : List Label) → IsLeastTriple language p q w → length q ≡ 1
