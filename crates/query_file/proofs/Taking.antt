-- One line after another.
use Rattle.std.proofs.Common.{Bool, ◌≡◌, ◌≢◌, ℕ, suc, ◌+◌, List, [], ◌∷◌, ◌++◌, map, Result, Ok, Err, refl, sym, ap, subst, arith}
use Rattle.text_parts.specs.Lines.{lines, raw_lines, without_return}
use Rattle.rpq_model.specs.Query.{Query}
use Rattle.query_file.specs.declared.fault.QueryFault.{QueryFault}
use Rattle.query_file.specs.declared.fault.QueryKind.{QueryKind}
use Rattle.query_file.specs.declared.fault.QueryKind.TheVariants.{NoQuery}
use Rattle.query_file.specs.Compiled.{CompiledValue}
use Rattle.query_file.specs.Queries.{IsQueryLine, Gives, AtEnd, NoneAtEnd, PassedOver, OneMore, Faulty, fault_at, QueriesOf}
use Rattle.query_file.specs.QueryLine.{IsFirstFault}
use Rattle.query_file.specs.Takes.{defs, Takes, PassesOver, TakesOne, GivesSo}

-- what the lines give that follow a line which is taken
pub takes_gives : (inverses : Bool) (before : List Query) (line : List ℕ) (after : List Query) (count : ℕ) (rest : List (List ℕ)) (outcome : Result (List Query) QueryFault) →
    Takes inverses before line after → Gives inverses after (suc count) rest outcome → Gives inverses before count (line ∷ rest) outcome
takes_gives inverses before line _ count rest outcome (PassesOver over) gives = PassedOver before count line rest outcome over gives
takes_gives inverses before line _ count rest outcome (TakesOne query is line_of) gives = OneMore before count line rest outcome query is line_of gives

-- one query more behind the others
pub defs_push : (list : List CompiledValue) (one : CompiledValue) → defs (list ++ one ∷ []) ≡ defs list ++ one.def ∷ []
defs_push [] one = refl
defs_push (first ∷ list) one = ap (λ (qs : List Query). first.def ∷ qs) (defs_push list one)

-- ---- the lines of a text

pub lines_first : (text line after : List ℕ) → raw_lines text ≡ line ∷ raw_lines after → lines text ≡ without_return line ∷ lines after
lines_first text line after first = ap (λ (ls : List (List ℕ)). map without_return ls) first

lines_none : (text : List ℕ) → raw_lines text ≡ [] → lines text ≡ []
lines_none text none = ap (λ (ls : List (List ℕ)). map without_return ls) none

-- one line more is taken
pub turn : (inverses : Bool) (bytes text line after : List ℕ) (before queries : List Query) (count : ℕ) → GivesSo inverses before count (lines text) [] 0 (lines bytes) →
    raw_lines text ≡ line ∷ raw_lines after → Takes inverses before (without_return line) queries → GivesSo inverses queries (count + 1) (lines after) [] 0 (lines bytes)
turn inverses bytes text line after before queries count so_far first takes outcome gives =
    so_far outcome (subst (λ (ls : List (List ℕ)). Gives inverses before count ls outcome) (sym (lines_first text line after first))
    (takes_gives inverses before (without_return line) queries count (lines after) outcome takes
    (subst (λ n. Gives inverses queries n (lines after) outcome) (omega arith) gives)))

-- a line has a fault
pub stop : (inverses : Bool) (bytes text line after : List ℕ) (before : List Query) (count : ℕ) (kind : QueryKind) → GivesSo inverses before count (lines text) [] 0 (lines bytes) →
    raw_lines text ≡ line ∷ raw_lines after → IsQueryLine (without_return line) → IsFirstFault inverses before (without_return line) kind →
    QueriesOf inverses bytes (Err (fault_at (count + 1) kind))
stop inverses bytes text line after before count kind so_far first is fault =
    so_far (Err (fault_at (count + 1) kind)) (subst (λ (ls : List (List ℕ)). Gives inverses before count ls (Err (fault_at (count + 1) kind))) (sym (lines_first text line after first))
    (subst (λ n. Gives inverses before count (without_return line ∷ lines after) (Err (fault_at n kind))) (omega arith)
    (Faulty before count (without_return line) (lines after) kind is fault)))

-- the lines end behind queries
pub end : (inverses : Bool) (bytes text : List ℕ) (queries : List Query) (count : ℕ) → GivesSo inverses queries count (lines text) [] 0 (lines bytes) → raw_lines text ≡ [] →
    queries ≢ [] → QueriesOf inverses bytes (Ok queries)
end inverses bytes text queries count so_far none some =
    so_far (Ok queries) (subst (λ (ls : List (List ℕ)). Gives inverses queries count ls (Ok queries)) (sym (lines_none text none)) (AtEnd queries count some))

-- and behind none
pub no_end : (inverses : Bool) (bytes text : List ℕ) (queries : List Query) (count : ℕ) → GivesSo inverses queries count (lines text) [] 0 (lines bytes) → raw_lines text ≡ [] →
    queries ≡ [] → QueriesOf inverses bytes (Err (fault_at count NoQuery))
no_end inverses bytes text queries count so_far none empty =
    so_far (Err (fault_at count NoQuery)) (subst (λ (ls : List (List ℕ)). Gives inverses queries count ls (Err (fault_at count NoQuery))) (sym (lines_none text none))
    (subst (λ (qs : List Query). Gives inverses qs count [] (Err (fault_at count NoQuery))) (sym empty) (NoneAtEnd count)))
