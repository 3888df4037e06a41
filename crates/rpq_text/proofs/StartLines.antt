-- The lines of runs that don't begin, by the texts of their faults.
use Rattle.std.proofs.Common.{◌≡◌, ◌≢◌, ℕ, List, ◌++◌, refl, sym, ap, ◌∙◌, append_assoc}
use Rattle.std.specs.Prelude.{codes, decimal}
use Rattle.rpq_text.specs.declared.ends.Which.TheVariants.{Queries, Joins, Asks, From, Stream}
use Rattle.rpq_text.specs.declared.ends.Which.TheVariants.{Replies, Save, FaultsOf, AsksOf}
use Rattle.rpq_text.specs.declared.ends.Which.TheVariants.{RepliesOf}
use Rattle.rpq_text.specs.declared.ends.StartFault.{StartFault}
use Rattle.rpq_text.specs.declared.ends.StartFault.TheVariants.{Words, Queries as QueriesFault}
use Rattle.rpq_text.specs.declared.ends.StartFault.TheVariants.{Joins as JoinsFaulty}
use Rattle.rpq_text.specs.declared.ends.StartFault.TheVariants.{Asks as AsksFault, Open, Read, Long}
use Rattle.rpq_text.specs.declared.ends.StartFault.TheVariants.{Memory}
use Rattle.rpq_text.specs.ErrorLines.{asks_text, file_text, joins_text, query_text, start_line}
use Rattle.rpq_text.specs.FaultTexts.{StartLinesTellFaults, start_fault_text}

-- digits, a text behind them, and the end of the line, put together in either order
digits_first : (digits text end : List ℕ) →
    digits ++ (codes ": " ++ (text ++ end)) ≡ digits ++ codes ": " ++ text ++ end
digits_first digits text end =
    sym (append_assoc (digits ++ codes ": ") text end ∙ append_assoc digits (codes ": ") (text ++ end))

tells : (fault : StartFault) → fault ≢ Words →
    start_line fault ≡ codes "rpq: " ++ (start_fault_text fault ++ codes "\n")
unfolding query_text joins_text asks_text
tells Words other = absurd (other refl)
tells (QueriesFault fault) other = ap (λ (t : List ℕ). codes "rpq: queries line " ++ t)
    (digits_first (decimal fault.line) _ (codes "\n"))
tells (JoinsFaulty fault) other = ap (λ (t : List ℕ). codes "rpq: joins line " ++ t)
    (digits_first (decimal fault.line) _ (codes "\n"))
tells (AsksFault fault) other = ap (λ (t : List ℕ). codes "rpq: asks line " ++ t)
    (digits_first (decimal fault.line) _ (codes "\n"))
tells (Open Queries) other = refl
tells (Open Joins) other = refl
tells (Open Asks) other = refl
tells (Open From) other = refl
tells (Open (Stream number)) other = refl
tells (Open Replies) other = refl
tells (Open Save) other = refl
tells (Open (FaultsOf number)) other = refl
tells (Open (AsksOf number)) other = refl
tells (Open (RepliesOf number)) other = refl
tells (Read which) other = refl
tells (Long which) other =
    sym (append_assoc (codes "rpq: " ++ file_text which) (codes ": too long") (codes "\n"))
tells Memory other = refl

pub start_lines_tell_faults : StartLinesTellFaults
start_lines_tell_faults = record { words = refl; others = tells }
