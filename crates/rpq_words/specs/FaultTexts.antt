-- Faults as they are told.
use Rattle.std.specs.Prelude.{ℕ, List, codes}
use Rattle.rpq_base.specs.FaultTexts.{memory_text}
use Rattle.rpq_words.specs.declared.fault.WordsFault.{WordsFault}
use Rattle.rpq_words.specs.declared.fault.WordsFault.TheVariants.{Refused, Memory}

-- why words aren't taken, as it is told
abbrev pub words_fault_text : WordsFault → List ℕ
words_fault_text Refused = codes "words"
words_fault_text Memory = memory_text
