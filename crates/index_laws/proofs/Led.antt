-- Where arrows lead, one after another.
use Rattle.std.proofs.Common.{◌≡◌, List, [], ◌∷◌, refl, sym, subst, ◌⊎◌, inl, inr, ⊎_elim}
use Rattle.std.specs.Prelude.{Contains}
use Rattle.rpq_base.proofs.Members.{cons_members, none_in}
use Rattle.index_laws.proofs.Told.{OrNot, either_or_not, both_or_not}

module _ {N A : Type 0} (start end : A → N) where
  -- some of the arrows lead from one node to another, by whether the first is taken
  abbrev pub IsLed : List A → N → N → Type 0
  IsLed [] from to = from ≡ to
  IsLed (arrow ∷ arrows) from to =
      IsLed arrows from to ⊎ (IsLed arrows from (start arrow) × IsLed arrows (end arrow) to)

  pub led_nowhere : (arrows : List A) (from : N) → IsLed arrows from from
  led_nowhere [] from = refl
  led_nowhere (arrow ∷ arrows) from = inl (led_nowhere arrows from)

  -- the first arrow before
  led_at_first : (rest : List A) (first : A) (to : N) → IsLed (first ∷ rest) (end first) to →
      IsLed (first ∷ rest) (start first) to
  led_at_first rest first to led = ⊎_elim
      (λ on. inr (led_nowhere rest (start first), on))
      (λ both. inr (led_nowhere rest (start first), both.1))
      led

  -- one arrow before
  pub led_before : (arrows : List A) (arrow : A) (to : N) → Contains arrows arrow →
      IsLed arrows (end arrow) to → IsLed arrows (start arrow) to
  led_before [] arrow to member led = absurd (none_in arrow member)
  led_before (first ∷ rest) arrow to member led = ⊎_elim
      (λ here. subst (λ each. IsLed (first ∷ rest) (start each) to) here
      (led_at_first rest first to
      (subst (λ each. IsLed (first ∷ rest) (end each) to) (sym here) led)))
      (λ later. ⊎_elim
      (λ on. inl (led_before rest arrow to later on))
      (λ both. inr (led_before rest arrow (start first) later both.0, both.1))
      led)
      ((cons_members first rest arrow).0 member)

  pub led_or_not : ((first second : N) → OrNot (first ≡ second)) → (arrows : List A)
      (from to : N) → OrNot (IsLed arrows from to)
  led_or_not told [] from to = told from to
  led_or_not told (arrow ∷ arrows) from to =
      either_or_not (led_or_not told arrows from to)
      (both_or_not (led_or_not told arrows from (start arrow))
      (led_or_not told arrows (end arrow) to))

  -- what holds of no arrow, of each, and of two parts where it holds of both, holds where they lead
  pub led_holds : (arrows : List A) (holds : N → N → Type 0) → ((at : N) → holds at at) →
      ((from middle to : N) → holds from middle → holds middle to → holds from to) →
      ((arrow : A) → Contains arrows arrow → holds (start arrow) (end arrow)) →
      (from to : N) → IsLed arrows from to → holds from to
  led_holds [] holds still on each from to led = subst (holds from) led (still from)
  led_holds (first ∷ rest) holds still on each from to led =
      let later = λ (arrow : A) (member : Contains rest arrow).
      each arrow ((cons_members first rest arrow).1 (inr member)) in
      let further = led_holds rest holds still on later in
      let here = each first ((cons_members first rest first).1 (inl refl)) in
      ⊎_elim
      (λ on_rest. further from to on_rest)
      (λ both.
      on from (start first) to (further from (start first) both.0)
      (on (start first) (end first) to here (further (end first) to both.1)))
      led
