-- Going through the events of joins.
use Rattle.std.proofs.Common.{◌≡◌, ℕ, Bool, true, false, ◌==◌, ◌&&◌, ◌||◌, List, [], ◌∷◌, refl, sym, ap, subst, ◌∙◌, ◌⊎◌, inl, inr, ⊎_elim}
use Rattle.std.specs.Prelude.{◌↔◌, IsTrue, Contains, slice_get, if◌then◌else◌}
use Rattle.std.specs.Bool.{Decides}
use Rattle.std.specs.List.{list_any}
use Rattle.std.proofs.lemmas.Bool.{false≢true, and_parts, or_cases, eqb-true, eq-eqb}
use Rattle.std.proofs.lemmas.List.Folds.{list_any_at}
use Rattle.std.proofs.lemmas.Option.{same_Some}
use Rattle.std.proofs.lemmas.Slice.Eq.{slice_eq-Decides}
use Rattle.rpq_base.proofs.Equality.{names as name_test}
use Rattle.rpq_base.proofs.Members.{cons_members}
use Rattle.join_file.specs.Joins.{JoinValue}
use Rattle.join_bindings.specs.Bindings.{IsBinding}
use Rattle.join_bindings.specs.declared.event.JoinEvent.{JoinEvent}
use Rattle.join_bindings.specs.Events.{IsLost, same_names, join_held_from}
use Rattle.join_bindings.specs.Laws.{BindingsHold}
use Rattle.join_bindings.proofs.Losing.{still_or_not, unmet_gone}

-- whether an event is of a join's binding
abbrev about : ℕ → List (List ℕ) → JoinEvent → Bool
about number names event = event.join == number && same_names event.binding names

same_lists : (first second : List (List ℕ)) → Decides (same_names first second) (first ≡ second)
same_lists first second = slice_eq-Decides name_test first second (same_names first second) refl

-- some member passes
passes_any : {X : Type 0} (test : X → Bool) (xs : List X) → list_any test xs ≡ true → (x : X) × Contains xs x × (test x ≡ true)
passes_any test [] e = absurd (false≢true e)
passes_any test (x ∷ xs) e = ⊎_elim
    (λ here. (x, (cons_members x xs x).1 (inl refl), here))
    (λ there. let further = passes_any test xs there in (further.0, (cons_members x xs further.0).1 (inr further.1), further.2))
    (or_cases (test x) (list_any test xs) e)

or_is_false : (first second : Bool) → (first || second) ≡ false → (first ≡ false) × (second ≡ false)
or_is_false true second e = absurd (false≢true (sym e))
or_is_false false second e = (refl, e)

-- events of other bindings change nothing
none_about : (events : List JoinEvent) (held : Bool) (number : ℕ) (names : List (List ℕ)) → list_any (about number names) events ≡ false →
    join_held_from held number names events ≡ held
none_about [] held number names none = refl
none_about (event ∷ events) held number names none =
    let both = or_is_false (about number names event) (list_any (about number names) events) none in
    ap (λ (test : Bool). join_held_from (if test then event.added else held) number names events) both.0
    ∙ none_about events held number names both.1

-- those of the binding that are all of one kind leave it so
all_about : (events : List JoinEvent) (held kind : Bool) (number : ℕ) (names : List (List ℕ)) →
    ((event : JoinEvent) → Contains events event → about number names event ≡ true → event.added ≡ kind) →
    (held ≡ kind) ⊎ (list_any (about number names) events ≡ true) → join_held_from held number names events ≡ kind
all_about [] held kind number names kinds either = ⊎_elim (λ is. is) (λ e. absurd (false≢true e)) either
all_about (event ∷ events) held kind number names kinds either =
    one_more (about number names event) refl
    (λ now. all_about events now kind number names (λ each member. kinds each ((cons_members event events each).1 (inr member))))
  where
    one_more : (test : Bool) → about number names event ≡ test →
        ((now : Bool) → (now ≡ kind) ⊎ (list_any (about number names) events ≡ true) → join_held_from now number names events ≡ kind) →
        join_held_from held number names (event ∷ events) ≡ kind
    one_more true is further =
        ap (λ (test : Bool). join_held_from (if test then event.added else held) number names events) is
        ∙ further event.added (inl (kinds event ((cons_members event events event).1 (inl refl)) is))
    one_more false is further =
        ap (λ (test : Bool). join_held_from (if test then event.added else held) number names events) is
        ∙ further held (⊎_elim
        (λ same. inl same)
        (λ some. ⊎_elim (λ here. absurd (false≢true (sym is ∙ here))) (λ there. inr there) (or_cases (about number names event) (list_any (about number names) events) some))
        either)

pub bindings_hold : BindingsHold
bindings_hold joins number join before after events held names there are holds = by_test (list_any (about number names) events) refl
  where
    -- what an event of the binding says
    says : (event : JoinEvent) → Contains events event → about number names event ≡ true →
        ((event.added ≡ false) × IsLost join before after names) ⊎ ((event.added ≡ true) × IsLost join after before names)
    says event member is =
        let parts = and_parts (event.join == number) (same_names event.binding names) is in
        let change = (are.exact event).0 member in
        let number_is : event.join ≡ number = eqb-true event.join number parts.0 in
        let names_are : event.binding ≡ names = (same_lists event.binding names).0 parts.1 in
        let join_is : change.0 ≡ join = same_Some change.0 join (sym change.1 ∙ (ap (slice_get joins) number_is ∙ there)) in
        ⊎_elim
        (λ lost. inl (
          lost.0,
          subst (λ (each : List (List ℕ)). IsLost join before after each) names_are
              (subst (λ (one : JoinValue). IsLost one before after event.binding) join_is lost.1),
        ))
        (λ gained. inr (
          gained.0,
          subst (λ (each : List (List ℕ)). IsLost join after before each) names_are
              (subst (λ (one : JoinValue). IsLost one after before event.binding) join_is gained.1),
        ))
        change.2

    -- an event of the binding
    of_it : Bool → JoinEvent
    of_it added = record { join = number; added = added; binding = names }

    is_about : (added : Bool) → about number names (of_it added) ≡ true
    is_about added = rw (eq-eqb number number refl, (same_lists names names).1 refl) refl

    there_is : (added : Bool) → Contains events (of_it added) → list_any (about number names) events ≡ true
    there_is added member = list_any_at (about number names) events member.0 (of_it added) member.1 (ap (about number names) member.2 ∙ is_about added)

    held_it : list_any (about number names) events ≡ false → (test : Bool) → held ≡ test → IsBinding join after names → held ≡ true
    held_it none true is binding = is
    held_it none false is binding = absurd (false≢true (sym none ∙ there_is true ((are.exact (of_it true)).1 (
      join,
      there,
      inr (refl, record { was = binding; gone = λ before_it. false≢true (sym is ∙ holds.1 before_it) }),
    ))))

    by_test : (test : Bool) → list_any (about number names) events ≡ test →
        IsTrue (join_held_from held number names events) ↔ IsBinding join after names
    by_test true some =
        let found = passes_any (about number names) events some in
        ⊎_elim
        (λ lost.
        let is : join_held_from held number names events ≡ false =
        all_about events held false number names (λ event member of. ⊎_elim
        (λ loss. loss.0)
        (λ gain. absurd (gain.1.gone lost.1.was))
        (says event member of)) (inr some) in (
          (λ holds_it. absurd (false≢true (sym is ∙ holds_it))),
          (λ binding. absurd (lost.1.gone binding)),
        ))
        (λ gained.
        let is : join_held_from held number names events ≡ true =
        all_about events held true number names (λ event member of. ⊎_elim
        (λ loss. absurd (loss.1.gone gained.1.was))
        (λ gain. gain.0)
        (says event member of)) (inr some) in (
          (λ holds_it. gained.1.was),
          (λ binding. is),
        ))
        (says found.0 found.1 found.2)
    by_test false none =
        let same = none_about events held number names none in (
          (λ holds_it.
              let was = holds.0 (sym same ∙ holds_it) in
              ⊎_elim
              (λ still. still)
              (λ unmet. absurd (false≢true (sym none ∙ there_is false ((are.exact (of_it false)).1 (
                join,
                there,
                inl (refl, record { was = was; gone = unmet_gone join after names unmet.atom unmet.pair unmet.among unmet.has unmet.lacks }),
              )))))
              (still_or_not join before after names was)),
          (λ binding. same ∙ held_it none held refl binding),
        )
