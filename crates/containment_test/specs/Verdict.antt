-- Verdicts on languages.
use Rattle.std.specs.Prelude.{List}
use Rattle.rpq_base.specs.declared.data.Label.{Label}
use Rattle.containment_test.specs.Containment.{Contained, IsLeastTriple}
use Rattle.containment_test.specs.declared.verdict.Verdict.{Verdict}
use Rattle.containment_test.specs.declared.verdict.Verdict.TheVariants.{Yes, No}

-- yes where the language has the property of containment, else no with the least words that show
-- that it hasn't
abbrev pub IsVerdict : (List Label → Type 0) → Verdict → Type 0
IsVerdict language Yes = Contained language
IsVerdict language (No p q w) = IsLeastTriple language p q w
