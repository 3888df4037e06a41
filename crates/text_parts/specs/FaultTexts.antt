-- Faults as they are told.
use Rattle.std.specs.Prelude.{ℕ, List, codes}
use Rattle.text_parts.specs.declared.numbers.NumberFault.{NumberFault}
use Rattle.text_parts.specs.declared.numbers.NumberFault.TheVariants.{NotDigits, TooLarge}

-- why a text is no number, as it is told
abbrev pub number_fault_text : NumberFault → List ℕ
number_fault_text NotDigits = codes "not digits"
number_fault_text TooLarge = codes "number too large"
