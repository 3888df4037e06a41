-- One entry more at the end of a history, and the store.
use Rattle.std.proofs.Common.{◌≡◌, ◌≢◌, ℕ, zero, suc, ◌+◌, ◌<◌, ◌≤◌, Bool, true, false, cond}
use Rattle.std.proofs.Common.{nat_lt, List, [], ◌∷◌, ◌++◌, Option, Some, None, refl, ap, subst}
use Rattle.std.proofs.Common.{◌⊎◌, inl, inr, ⊎_elim, arith}
use Rattle.std.specs.Prelude.{◌↔◌}
use Rattle.std.proofs.lemmas.Bool.{ltb-true, ltb-false, cases_lt}
use Rattle.std.proofs.lemmas.Option.{none-some}
use Rattle.rpq_base.specs.declared.data.Edge.{Edge}
use Rattle.rpq_base.specs.declared.data.Act.TheVariants.{Delete}
use Rattle.rpq_base.specs.declared.data.Entry.{Entry}
use Rattle.rpq_model.specs.Window.{WindowValue, Inserts, clock}
use Rattle.rpq_model.specs.WindowLaws.{IsTupleDeadline, IsSeenInsert}
use Rattle.rpq_model.proofs.LiveEdges.{inserts_no_delete}
use Rattle.rpq_model.proofs.OwnDeadlines.{seen_below_deadline}
use Rattle.rpq_model.proofs.OneMore.{one_entry_more}
use Rattle.rpq_model.proofs.Places.{live_by_places}
use Rattle.rpq_model.proofs.Ticks.{clock_more}
use Rattle.edge_store.specs.Edges.{raised, above}
use Rattle.tree_insert.specs.Best.{IsAtLeast}
use Rattle.tree_insert.proofs.Bests.{greatest_one}
use Rattle.index_laws.specs.Store.{clock_after, HasDeadline}
use Rattle.index_laws.specs.LawsOfStores.{AreOneApart, StoreSteps}
use Rattle.index_laws.proofs.Values.{same, live_above, value_above}

-- ---- values that are told by what they reach above a clock

-- a value is above the clock where it is there at all
abbrev IsAbove : ℕ → Option ℕ → Type 0
IsAbove now value = (number : ℕ) → IsAtLeast number value → IsAtLeast (now + 1) value

-- above the clock both values reach the same numbers
abbrev ReachSame : ℕ → Option ℕ → Option ℕ → Type 0
ReachSame now first second =
    (later : ℕ) → now ≤ later → IsAtLeast (later + 1) first ↔ IsAtLeast (later + 1) second

-- what one value reaches another does
reaches : (value number now : ℕ) (other : Option ℕ) → IsAbove now (Some value) → number ≡ value →
    ReachSame now (Some value) other → IsAtLeast number other
reaches value zero now other high is both = absurd (omega (arith, high 0 (omega (arith, is)), is))
reaches value (suc number) now other high is both =
    let next : number + 1 ≡ suc number = omega arith in
    subst (λ (each : ℕ). IsAtLeast each other) next
    ((both number (omega (arith, high value (omega arith), is))).0 (omega (arith, is)))

same_above : (first second : Option ℕ) (now : ℕ) → IsAbove now first → IsAbove now second →
    ReachSame now first second → first ≡ second
same_above None None now high other both = refl
same_above None (Some value) now high other both =
    absurd (reaches value value now None other refl
    (λ later le. ((both later le).1, (both later le).0)))
same_above (Some value) None now high other both =
    absurd (reaches value value now None high refl both)
same_above (Some value) (Some second) now high other both =
    let le : value ≤ second = reaches value value now (Some second) high refl both in
    let ge : second ≤ value = reaches second second now (Some value) other refl
    (λ later le. ((both later le).1, (both later le).0)) in
    let is : value ≡ second = omega (arith, le, ge) in
    ap Some is

-- a value that is kept only above a clock
above_by : (test : Bool) (now value number : ℕ) → nat_lt now value ≡ test → now < number →
    IsAtLeast number (cond test (Some value) None) ↔ (number ≤ value)
above_by true now value number is over = ((λ reached. reached), (λ reached. reached))
above_by false now value number is over = (
  (λ reached. absurd reached),
  (λ reached. let low = ltb-false now value is in absurd (omega (arith, low, over, reached))),
)

above_reaches : (value : Option ℕ) (now number : ℕ) → now < number →
    IsAtLeast number (above now value) ↔ IsAtLeast number value
above_reaches None now number over = ((λ reached. reached), (λ reached. reached))
above_reaches (Some value) now number over = above_by (nat_lt now value) now value number refl over

above_is_above : (value : Option ℕ) (now : ℕ) → IsAbove now (above now value)
above_is_above None now number reached = reached
above_is_above (Some value) now number reached = by_test (nat_lt now value) refl reached
  where
    by_test : (test : Bool) → nat_lt now value ≡ test →
        IsAtLeast number (cond test (Some value) None) →
        IsAtLeast (now + 1) (cond test (Some value) None)
    by_test true is reached = let less = ltb-true now value is in omega (arith, less)
    by_test false is reached = reached

-- a raised value
raised_reaches : (value : Option ℕ) (new number : ℕ) →
    (number ≤ raised value new) ↔ ((number ≤ new) ⊎ IsAtLeast number value)
raised_reaches None new number = (
  (λ reached. inl reached),
  (λ either. ⊎_elim (λ here. here) (λ none. absurd none) either),
)
raised_reaches (Some value) new number = (
  (λ reached. ⊎_elim
      (λ less. inr (omega (arith, reached, less)))
      (λ le. inl (omega (arith, reached, le)))
      (cases_lt new value)),
  (λ either. ⊎_elim (λ here. omega (arith, here)) (λ there. omega (arith, there)) either),
)

-- ---- one entry more

module _ (window : WindowValue) (history : List Entry) (last : Entry)
    (before after : Edge → Option ℕ) (are : AreOneApart window history last before after) where
  abbrev now : ℕ
  now = clock_after history last

  later_on : (later : ℕ) → now ≤ later → clock history ≤ later
  later_on later le = omega (arith, clock_more history last, le)

  -- what an edge reaches afterwards: by the insert, or as before if it isn't deleted
  abbrev Reaches : Edge → ℕ → Type 0
  Reaches edge later = IsSeenInsert window later last edge
      ⊎ (IsAtLeast (later + 1) (before edge) × (last.tuple.act ≡ Delete edge → ⊥))

  after_reaches : (edge : Edge) (later : ℕ) → now ≤ later →
      IsAtLeast (later + 1) (after edge) ↔ Reaches edge later
  after_reaches edge later le =
      let more = (one_entry_more same window later history last).edges edge in
      let old = live_above window history before are.slide are.was later edge (later_on later le) in
      let new = live_above window (history ++ last ∷ []) after are.slide are.is later edge le in (
        (λ reached. ⊎_elim
            (λ seen. inl seen)
            (λ both. inr (old.0 both.0, both.1))
            (more.0 (new.1 reached))),
        (λ either. new.0 (more.1 (⊎_elim
            (λ seen. inl seen)
            (λ both. inr (old.1 both.0, both.1))
            either))),
      )

  after_is_above : (edge : Edge) → IsAbove now (after edge)
  after_is_above edge number reached =
      value_above window (history ++ last ∷ []) after are.slide are.is number edge reached

  no_delete : (edge : Edge) → Inserts last.tuple.act edge → last.tuple.act ≡ Delete edge → ⊥
  no_delete edge inserts deletes = inserts_no_delete last.tuple.act edge edge inserts deletes

  -- a seen insert has a deadline above the clock
  seen_above : (edge : Edge) (deadline later : ℕ) → IsTupleDeadline window last.tuple deadline →
      IsSeenInsert window later last edge → later < deadline
  seen_above edge deadline later due seen =
      (seen_below_deadline window later last.tuple deadline are.slide due).0 seen.1

  -- where no insert is seen and the edge isn't deleted
  pub only_expired : (edge : Edge) → (last.tuple.act ≡ Delete edge → ⊥) →
      ((later : ℕ) → now ≤ later → IsSeenInsert window later last edge → ⊥) →
      after edge ≡ above now (before edge)
  only_expired edge stays unseen =
      same_above (after edge) (above now (before edge)) now (after_is_above edge)
      (above_is_above (before edge) now)
      (λ later le.
      let reached = after_reaches edge later le in
      let kept = above_reaches (before edge) now (later + 1) (omega (arith, le)) in (
        (λ there. ⊎_elim
            (λ seen. absurd (unseen later le seen))
            (λ both. kept.1 both.0)
            (reached.0 there)),
        (λ there. reached.1 (inr (kept.0 there, stays))),
      ))

  pub insert : (edge : Edge) (deadline : ℕ) → Inserts last.tuple.act edge →
      IsTupleDeadline window last.tuple deadline → now < deadline →
      after edge ≡ Some (raised (above now (before edge)) deadline)
  insert edge deadline inserts due over =
      let kept = above now (before edge) in
      same_above (after edge) (Some (raised kept deadline)) now (after_is_above edge)
      (λ number reached. (raised_reaches kept deadline (now + 1)).1 (inl (omega (arith, over))))
      (λ later le.
      let reached = after_reaches edge later le in
      let either = raised_reaches kept deadline (later + 1) in
      let old = above_reaches (before edge) now (later + 1) (omega (arith, le)) in
      let seen = seen_below_deadline window later last.tuple deadline are.slide due in (
        (λ there. either.1 (⊎_elim
            (λ here. let less = seen.0 here.1 in inl (omega (arith, less)))
            (λ both. inr (old.1 both.0))
            (reached.0 there))),
        (λ there. reached.1 (⊎_elim
            (λ less. inl (inserts, seen.1 (omega (arith, less))))
            (λ more. inr (old.0 more, no_delete edge inserts))
            (either.0 there))),
      ))

  pub late : (edge : Edge) (deadline : ℕ) → Inserts last.tuple.act edge →
      IsTupleDeadline window last.tuple deadline → deadline ≤ now →
      after edge ≡ above now (before edge)
  late edge deadline inserts due past = only_expired edge (no_delete edge inserts)
      (λ later le seen.
      let less = seen_above edge deadline later due seen in absurd (omega (arith, less, le, past)))

  pub delete : (edge : Edge) → last.tuple.act ≡ Delete edge → after edge ≡ None
  delete edge deletes =
      same_above (after edge) None now (after_is_above edge) (λ number reached. reached)
      (λ later le. (
        (λ there. ⊎_elim
            (λ seen. no_delete edge seen.0 deletes)
            (λ both. both.1 deletes)
            ((after_reaches edge later le).0 there)),
        (λ none. absurd none),
      ))

  pub other : (edge : Edge) → (Inserts last.tuple.act edge → ⊥) → last.tuple.act ≢ Delete edge →
      after edge ≡ above now (before edge)
  other edge no_insert stays = only_expired edge stays (λ later le seen. no_insert seen.0)

-- no entry, no deadline
pub no_deadline : (window : WindowValue) (edge : Edge) (deadline : ℕ) →
    HasDeadline window [] edge deadline → ⊥
no_deadline window edge deadline has =
    let live = (live_by_places same window (clock []) [] has.live).0 has.member in
    none-some has.live.entry live.1.undeleted.there

pub store_steps : StoreSteps
store_steps = record {
  nothing = λ window store edge is.
      greatest_one (store edge) None (HasDeadline window [] edge) (is edge)
      (no_deadline window edge);
  step = λ window history last before after edge are. record {
    insert = insert window history last before after are edge;
    late = late window history last before after are edge;
    delete = delete window history last before after are edge;
    other = other window history last before after are edge;
  };
}
