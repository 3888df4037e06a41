-- What the answers of the calls say of the lines.
use Rattle.std.proofs.Common.{◌≡◌, ◌==◌, ℕ, Bool, List, [], ◌∷◌, Option, Some, None, length}
use Rattle.std.proofs.Common.{refl, sym, ap, ◌∙◌, inl, ⊎_elim, arith, Result, Err}
use Rattle.std.specs.Prelude.{◌↔◌, IsTrue}
use Rattle.std.proofs.lemmas.Bool.{eqb-true}
use Rattle.rpq_base.proofs.Members.{cons_members, none_in}
use Rattle.history_model.specs.declared.line.Why.{Why}
use Rattle.history_model.specs.declared.line.Line.{Line}
use Rattle.history_model.specs.Lines.{entries, AllEnded, IsShutFor}
use Rattle.stream_history.specs.Journal.{JournalValue, IsFullAt}
use Rattle.stream_history.specs.Kept.{AreOpen, IsReason}
use Rattle.stream_history.specs.declared.fault.AppendFault.{AppendFault}
use Rattle.stream_history.specs.declared.fault.AppendFault.TheVariants.{Closed, Full}
use Rattle.stream_history.proofs.Keeping.{goes_on}

-- the reasons of two refusals are the same where these are
same_reason : (why other : Why) →
    ◌≡◌ {A = Result ℕ AppendFault} (Err (Closed why)) (Err (Closed other)) → why ≡ other
same_reason why other same = cc

same_cap : (cap other : ℕ) → ◌≡◌ {A = Result ℕ AppendFault} (Err (Full cap)) (Err (Full other)) →
    cap ≡ other
same_cap cap other same = cc

same_some : (why other : Why) → Some why ≡ Some other → why ≡ other
same_some why other same = cc

-- closed, for the reason that is kept
pub closed_for : (lines : List Line) (reason : Option Why) (kept : Why) → IsReason lines reason →
    reason ≡ Some kept → (why : Why) →
    ◌≡◌ {A = Result ℕ AppendFault} (Err (Closed kept)) (Err (Closed why)) ↔ IsShutFor lines why
closed_for lines reason kept are is why = (
  (λ same. (are why).0 (is ∙ ap Some (same_reason kept why same))),
  (λ shut. ap (λ (each : Why). Err (Closed each)) (same_some kept why (sym is ∙ (are why).1 shut))),
)

-- and so not full
pub closed_not_full : (journal : JournalValue) (reason : Option Why) (kept : Why) →
    IsReason journal.lines reason → reason ≡ Some kept → (cap : ℕ) →
    ◌≡◌ {A = Result ℕ AppendFault} (Err (Closed kept)) (Err (Full cap)) ↔ IsFullAt journal cap
closed_not_full journal reason kept are is cap =
    ((λ same. cc), (λ full. absurd (full.goes_on (kept, (are kept).0 is))))

-- whatever else is answered where there is no reason
pub not_closed : (result : Result ℕ AppendFault) (lines : List Line) (reason : Option Why) →
    IsReason lines reason → reason ≡ None → (why : Why) →
    (result ≡ Err (Closed why) → ⊥) → (result ≡ Err (Closed why)) ↔ IsShutFor lines why
not_closed result lines reason are none why other =
    ((λ same. absurd (other same)), (λ shut. absurd (goes_on lines reason are none (why, shut))))

-- full, with as many entries as it takes
pub full_at : (journal : JournalValue) (reason : Option Why) → IsReason journal.lines reason →
    reason ≡ None →
    length (entries journal.lines) ≡ journal.terms.cap → (cap : ℕ) →
    ◌≡◌ {A = Result ℕ AppendFault} (Err (Full journal.terms.cap)) (Err (Full cap))
    ↔ IsFullAt journal cap
full_at journal reason are none full cap = (
  (λ same. record {
    cap_is = sym (same_cap journal.terms.cap cap same);
    goes_on = goes_on journal.lines reason are none;
    full = full ∙ same_cap journal.terms.cap cap same;
  }),
  (λ is. ap (λ (each : ℕ). Err (Full each)) (sym is.cap_is)),
)

-- the streams have ended where none is open
pub all_ended : (streams : ℕ) (lines : List Line) (open_streams : List ℕ) (answer : Bool) →
    AreOpen streams lines open_streams →
    answer ≡ (length open_streams == 0) → IsTrue answer ↔ AllEnded streams lines
all_ended streams lines [] answer are is = (
  (λ said stream within. ⊎_elim (λ ended. ended) (λ has. absurd (none_in stream has))
      (are.others stream within)),
  (λ all. is),
)
all_ended streams lines (first ∷ rest) answer are is =
    let going = are.going first ((cons_members first rest first).1 (inl refl)) in (
      (λ said. absurd (omega (arith, eqb-true (length (first ∷ rest)) 0 (sym is ∙ said)))),
      (λ all. absurd (going.1 (all first going.0))),
    )
