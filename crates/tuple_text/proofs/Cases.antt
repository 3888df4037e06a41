-- The tuple of some fields, or their first fault.
use Rattle.std.proofs.Common.{◌≡◌, ℕ, ◌≤◌, Bool, true, false, Some, None, Result, Ok, Err}
use Rattle.std.proofs.Common.{List, [], ◌∷◌, length, ◌⊎◌}
use Rattle.std.proofs.Common.{codes, refl, sym, ap, ap₂, ◌∙◌, arith, inl, inr}
use Rattle.std.proofs.lemmas.Bool.{false≢true}
use Rattle.text_parts.specs.Numbers.{number_of}
use Rattle.rpq_base.specs.Names.{is_name, IsName}
use Rattle.rpq_base.specs.declared.data.Edge.{Edge}
use Rattle.rpq_base.specs.declared.data.Act.{Act}
use Rattle.rpq_base.specs.declared.data.Act.TheVariants.{Insert, Delete, Tick}
use Rattle.rpq_base.specs.declared.data.Tuple.{Tuple}
use Rattle.tuple_text.specs.declared.read.BadLine.{BadLine}
use Rattle.tuple_text.specs.declared.read.BadLine.TheVariants.{Fields, Time, TimeRange, BadName, Op}
use Rattle.tuple_text.specs.declared.read.BadLine.TheVariants.{Until, Memory}
use Rattle.tuple_text.specs.Reading.{◌>>=◌, time_of, edge_of, edge_named, act_of, ending_of, end_of}
use Rattle.tuple_text.specs.Reading.{done_at, change_of, lasting_of, tuple_at, tuple_of_fields}
use Rattle.tuple_text.specs.Parts.{IsStreamEdge, IsActOf, IsTimeText, IsTupleOf}
use Rattle.tuple_text.specs.Parts.{HasFault, IsFirstFault, rank}
use Rattle.tuple_text.proofs.Order.{Passes, of_one, of_four, of_five, of_six, of_seven, counted, timed, ranged, named}
use Rattle.tuple_text.proofs.Order.{signed, ended}
use Rattle.tuple_text.proofs.Steps.{not_digits, too_large, written, time_cases, time_not_digits}
use Rattle.tuple_text.proofs.Steps.{time_too_large, time_text_read, edge_bad_source, edge_bad_label}
use Rattle.tuple_text.proofs.Steps.{edge_bad_target, edge_read, SignCase, plus, minus, neither}
use Rattle.tuple_text.proofs.Steps.{sign_cases, UntilCase, right_end, wrong_sign, wrong_end, until_cases}
use Rattle.tuple_text.proofs.Steps.{end_read, ending_read, change_bad_time, change_bad_edge, change_read}
use Rattle.tuple_text.proofs.Steps.{tick_bad_time, tick_read}

-- how some fields end
pub data Ends (list : List (List ℕ)) : Type 0 where
  well : (tuple : Tuple) → IsTupleOf tuple list → Passes 9 list → tuple_of_fields list ≡ Ok tuple
      → Ends list
  badly : (fault : BadLine) → IsFirstFault fault list → tuple_of_fields list ≡ Err fault → Ends list

-- how the fields of an insert or delete end before the act
data Front (time source label target : List ℕ) (more : List (List ℕ)) : Type 0 where
  faulty : (fault : BadLine) → IsFirstFault fault (time ∷ source ∷ label ∷ target ∷ more)
      → ((acts : Edge → Result Act BadLine) → done_at time source label target acts ≡ Err fault)
      → Front time source label target more
  right : IsTimeText (number_of time) time → IsStreamEdge (edge_named source label target)
      → Passes 7 (time ∷ source ∷ label ∷ target ∷ more)
      → ((acts : Edge → Result Act BadLine)
      → done_at time source label target acts
      ≡ (acts (edge_named source label target) >>= λ act. Ok (tuple_at (number_of time) act)))
      → Front time source label target more

-- what isn't a name
not_named : (field : List ℕ) → is_name field ≡ false → ¬ (IsName field)
not_named field e h = false≢true (sym e ∙ h)

-- the fields of an insert or delete, with those behind its edge
abbrev change_fields : List ℕ → List ℕ → List ℕ → List ℕ → List (List ℕ) → List (List ℕ)
change_fields time source label target more = time ∷ source ∷ label ∷ target ∷ more

front : (time source label target : List ℕ) (more : List (List ℕ))
    → Passes 2 (change_fields time source label target more) → Front time source label target more
front time source label target more p =
    elim (time_cases time) [
      | not_digits bad ↦ faulty Time (record { has = bad; first = p }) (λ acts. change_bad_time time source label target acts Time (time_not_digits time bad))
      | too_large digits above ↦
          faulty TimeRange (record { has = (digits, above); first = timed (change_fields time source label target more) p digits })
          (λ acts. change_bad_time time source label target acts TimeRange (time_too_large time digits above))
      | written is ↦
          source_named is (is_name source) refl
          (ranged (change_fields time source label target more) (timed (change_fields time source label target more) p is.digits) is.range)
    ]
  where
    read_time : IsTimeText (number_of time) time → time_of time ≡ Ok (number_of time)
    read_time is = time_text_read (number_of time) time is

    bad_edge : (place : ℕ) → IsTimeText (number_of time) time
        → edge_of source label target ≡ Err (BadName place) → (acts : Edge → Result Act BadLine)
        → done_at time source label target acts ≡ Err (BadName place)
    bad_edge place is e acts = change_bad_edge time source label target acts (number_of time) (BadName place) (read_time is) e

    target_named : IsTimeText (number_of time) time → IsName source → IsName label → (t : Bool)
        → is_name target ≡ t → Passes 6 (change_fields time source label target more)
        → Front time source label target more
    target_named is s l false bad q =
        faulty (BadName 4)
        (record { has = (omega arith, omega arith, omega arith, not_named target bad); first = q })
        (bad_edge 4 is (edge_bad_target source label target s l bad))
    target_named is s l true t q =
        right is (record { from = s; label = l; to = t; forwards = refl })
        (named 4 (change_fields time source label target more) (omega arith) (omega arith) q t)
        (λ acts. change_read time source label target acts (number_of time)
        (edge_named source label target) (read_time is) (edge_read source label target s l t))

    label_named : IsTimeText (number_of time) time → IsName source → (l : Bool) → is_name label ≡ l
        → Passes 5 (change_fields time source label target more)
        → Front time source label target more
    label_named is s false bad q =
        faulty (BadName 3)
        (record { has = (omega arith, omega arith, omega arith, not_named label bad); first = q })
        (bad_edge 3 is (edge_bad_label source label target s bad))
    label_named is s true l q =
        target_named is s l (is_name target) refl (named 3 (change_fields time source label target more) (omega arith) (omega arith) q l)

    source_named : IsTimeText (number_of time) time → (s : Bool) → is_name source ≡ s
        → Passes 4 (change_fields time source label target more)
        → Front time source label target more
    source_named is false bad q =
        faulty (BadName 2)
        (record { has = (omega arith, omega arith, omega arith, not_named source bad); first = q })
        (bad_edge 2 is (edge_bad_source source label target bad))
    source_named is true s q =
        label_named is s (is_name label) refl (named 2 (change_fields time source label target more) (omega arith) (omega arith) q s)

-- a line of no right number of fields
miscounted : (list : List (List ℕ)) → HasFault (Fields (length list)) list
    → tuple_of_fields list ≡ Err (Fields (length list)) → Ends list
miscounted list has e = badly (Fields (length list)) (record { has = has; first = first }) e
  where
    first : (other : BadLine) → HasFault other list → 1 ≤ rank other
    first (Fields n) f = omega arith
    first Time f = omega arith
    first TimeRange f = omega arith
    first (BadName place) f = omega (arith, f.0)
    first Op f = omega arith
    first Until f = omega arith
    first Memory f = omega arith

-- the fields of a tick
tick_ends : (time : List ℕ) → Ends (time ∷ [])
unfolding tuple_of_fields
tick_ends time =
    let p = counted (time ∷ []) (of_one refl) in
    elim (time_cases time) [
      | not_digits bad ↦ badly Time (record { has = bad; first = p }) (tick_bad_time time Time (time_not_digits time bad))
      | too_large digits above ↦
          badly TimeRange (record { has = (digits, above); first = timed (time ∷ []) p digits })
          (tick_bad_time time TimeRange (time_too_large time digits above))
      | written is ↦
          well (tuple_at (number_of time) Tick) (time, [], refl, is, refl) (faults is (ranged (time ∷ []) (timed (time ∷ []) p is.digits) is.range))
          (tick_read time (number_of time) (time_text_read (number_of time) time is))
    ]
  where
    faults : IsTimeText (number_of time) time → Passes 4 (time ∷ []) → Passes 9 (time ∷ [])
    faults is q (Fields n) f = absurd (omega (arith, q (Fields n) f))
    faults is q Time f = absurd (omega (arith, q Time f))
    faults is q TimeRange f = absurd (omega (arith, q TimeRange f))
    faults is q (BadName place) f = absurd (omega (arith, f.0, f.2))
    faults is q Op (inl f) = absurd (omega (arith, f.0))
    faults is q Op (inr f) = absurd (omega (arith, f.0))
    faults is q Until (inl f) = absurd (omega (arith, f.0))
    faults is q Until (inr f) = absurd (omega (arith, f.0))
    faults is q Memory f = omega arith

-- a list of up to five fields has no end that could be wrong
no_ends : (list : List (List ℕ)) → length list ≤ 5 → HasFault Until list → ⊥
no_ends list few (inl f) = omega (arith, few, f.0)
no_ends list few (inr f) = omega (arith, few, f.0)

-- the fields of an insert without a sign
insert_ends : (time source label target : List ℕ) → Ends (time ∷ source ∷ label ∷ target ∷ [])
unfolding tuple_of_fields change_of act_of
insert_ends time source label target =
    let list : List (List ℕ) = time ∷ source ∷ label ∷ target ∷ [] in
    elim (front time source label target [] (counted list (of_four refl))) [
      | faulty fault first e ↦ badly fault first (e (λ edge. act_of edge (codes "+")))
      | right is edge p e ↦
          well (tuple_at (number_of time) (Insert (edge_named source label target) None))
          (time, source ∷ label ∷ target ∷ [], refl, is, (edge, inl refl))
          (ended list (signed list p unsigned) (no_ends list (omega arith))) (e (λ edge. act_of edge (codes "+")))
    ]
  where
    unsigned : HasFault Op (time ∷ source ∷ label ∷ target ∷ []) → ⊥
    unsigned (inl f) = omega (arith, f.0)
    unsigned (inr f) = omega (arith, f.0)

-- the fields of an insert or a delete with a sign
signed_ends : (time source label target sign : List ℕ)
    → Ends (time ∷ source ∷ label ∷ target ∷ sign ∷ [])
unfolding tuple_of_fields change_of
signed_ends time source label target sign =
    let list : List (List ℕ) = time ∷ source ∷ label ∷ target ∷ sign ∷ [] in
    elim (front time source label target (sign ∷ []) (counted list (of_five refl))) [
      | faulty fault first e ↦ badly fault first (e (λ edge. act_of edge sign))
      | right is edge p e ↦ by_sign is edge p (e (λ edge. act_of edge sign)) (sign_cases (edge_named source label target) sign)
    ]
  where
    passed : Passes 7 (time ∷ source ∷ label ∷ target ∷ sign ∷ []) → (sign ≡ codes "+") ⊎ (sign ≡ codes "-")
        → Passes 9 (time ∷ source ∷ label ∷ target ∷ sign ∷ [])
    passed p is =
        let list : List (List ℕ) = time ∷ source ∷ label ∷ target ∷ sign ∷ [] in
        ended list (signed list p (λ f. sign_right is f)) (no_ends list (omega arith))
      where
        sign_right : (sign ≡ codes "+") ⊎ (sign ≡ codes "-") → HasFault Op (time ∷ source ∷ label ∷ target ∷ sign ∷ []) → ⊥
        sign_right (inl e) (inl f) = f.1 e
        sign_right (inr e) (inl f) = f.2 e
        sign_right is (inr f) = omega (arith, f.0)

    by_sign : IsTimeText (number_of time) time → IsStreamEdge (edge_named source label target)
        → Passes 7 (time ∷ source ∷ label ∷ target ∷ sign ∷ [])
        → done_at time source label target (λ edge. act_of edge sign) ≡ (act_of (edge_named source label target) sign >>= λ act. Ok (tuple_at (number_of time) act))
        → SignCase (edge_named source label target) sign → Ends (time ∷ source ∷ label ∷ target ∷ sign ∷ [])
    by_sign is edge p e (plus same acts) =
        well (tuple_at (number_of time) (Insert (edge_named source label target) None))
        (time, source ∷ label ∷ target ∷ sign ∷ [], refl, is, (edge, inr (ap (λ (s : List ℕ). source ∷ label ∷ target ∷ s ∷ []) same)))
        (passed p (inl same)) (e ∙ ap (λ act. act >>= λ act. Ok (tuple_at (number_of time) act)) acts)
    by_sign is edge p e (minus same acts) =
        well (tuple_at (number_of time) (Delete (edge_named source label target)))
        (time, source ∷ label ∷ target ∷ sign ∷ [], refl, is, (edge, ap (λ (s : List ℕ). source ∷ label ∷ target ∷ s ∷ []) same))
        (passed p (inr same)) (e ∙ ap (λ act. act >>= λ act. Ok (tuple_at (number_of time) act)) acts)
    by_sign is edge p e (neither no_plus no_minus acts) =
        badly Op (record { has = inl (refl, no_plus, no_minus); first = p }) (e ∙ ap (λ act. act >>= λ act. Ok (tuple_at (number_of time) act)) acts)

-- the fields of an insert with an end and no sign
until_ends : (time source label target word field : List ℕ)
    → Ends (time ∷ source ∷ label ∷ target ∷ word ∷ field ∷ [])
unfolding tuple_of_fields lasting_of
until_ends time source label target word field =
    let list : List (List ℕ) = time ∷ source ∷ label ∷ target ∷ word ∷ field ∷ [] in
    let acts : Edge → Result Act BadLine = λ edge. ending_of edge (codes "+") (end_of word field) in
    elim (front time source label target (word ∷ field ∷ []) (counted list (of_six refl))) [
      | faulty fault first e ↦ badly fault first (e acts)
      | right is edge p e ↦ by_end is edge p (e acts) (until_cases (edge_named source label target) (codes "+") word field)
    ]
  where
    unsigned : HasFault Op (time ∷ source ∷ label ∷ target ∷ word ∷ field ∷ []) → ⊥
    unsigned (inl f) = omega (arith, f.0)
    unsigned (inr f) = omega (arith, f.0)

    end_right : word ≡ codes "until" → IsTimeText (number_of field) field
        → HasFault Until (time ∷ source ∷ label ∷ target ∷ word ∷ field ∷ []) → ⊥
    end_right same is (inl (_, inl other)) = other same
    end_right same is (inl (_, inr none)) = none (number_of field, is)
    end_right same is (inr f) = omega (arith, f.0)

    by_end : IsTimeText (number_of time) time → IsStreamEdge (edge_named source label target)
        → Passes 7 (time ∷ source ∷ label ∷ target ∷ word ∷ field ∷ [])
        → done_at time source label target (λ edge. ending_of edge (codes "+") (end_of word field)) ≡ (ending_of (edge_named source label target) (codes "+") (end_of word field) >>= λ act. Ok (tuple_at (number_of time) act))
        → UntilCase (edge_named source label target) (codes "+") word field → Ends (time ∷ source ∷ label ∷ target ∷ word ∷ field ∷ [])
    by_end is edge p e (right_end plain same end acts) =
        well (tuple_at (number_of time) (Insert (edge_named source label target) (Some (number_of field))))
        (time, source ∷ label ∷ target ∷ word ∷ field ∷ [], refl, is, (edge, (field, end, inl (ap (λ (w : List ℕ). source ∷ label ∷ target ∷ w ∷ field ∷ []) same))))
        (ended (time ∷ source ∷ label ∷ target ∷ word ∷ field ∷ []) (signed (time ∷ source ∷ label ∷ target ∷ word ∷ field ∷ []) p unsigned) (end_right same end))
        (e ∙ ap (λ act. act >>= λ act. Ok (tuple_at (number_of time) act)) acts)
    by_end is edge p e (wrong_sign other acts) = absurd (other refl)
    by_end is edge p e (wrong_end plain none acts) =
        badly Until (record { has = inl (refl, none); first = signed (time ∷ source ∷ label ∷ target ∷ word ∷ field ∷ []) p unsigned })
        (e ∙ ap (λ act. act >>= λ act. Ok (tuple_at (number_of time) act)) acts)

-- the fields of an insert with a sign and an end
signed_until_ends : (time source label target sign word field : List ℕ)
    → Ends (time ∷ source ∷ label ∷ target ∷ sign ∷ word ∷ field ∷ [])
unfolding tuple_of_fields lasting_of
signed_until_ends time source label target sign word field =
    let list : List (List ℕ) = time ∷ source ∷ label ∷ target ∷ sign ∷ word ∷ field ∷ [] in
    let acts : Edge → Result Act BadLine = λ edge. ending_of edge sign (end_of word field) in
    elim (front time source label target (sign ∷ word ∷ field ∷ []) (counted list (of_seven refl))) [
      | faulty fault first e ↦ badly fault first (e acts)
      | right is edge p e ↦ by_end is edge p (e acts) (until_cases (edge_named source label target) sign word field)
    ]
  where
    sign_right : sign ≡ codes "+" → HasFault Op (time ∷ source ∷ label ∷ target ∷ sign ∷ word ∷ field ∷ []) → ⊥
    sign_right same (inl f) = omega (arith, f.0)
    sign_right same (inr f) = f.1 same

    end_right : word ≡ codes "until" → IsTimeText (number_of field) field
        → HasFault Until (time ∷ source ∷ label ∷ target ∷ sign ∷ word ∷ field ∷ []) → ⊥
    end_right same is (inl f) = omega (arith, f.0)
    end_right same is (inr (_, inl other)) = other same
    end_right same is (inr (_, inr none)) = none (number_of field, is)

    by_end : IsTimeText (number_of time) time → IsStreamEdge (edge_named source label target)
        → Passes 7 (time ∷ source ∷ label ∷ target ∷ sign ∷ word ∷ field ∷ [])
        → done_at time source label target (λ edge. ending_of edge sign (end_of word field)) ≡ (ending_of (edge_named source label target) sign (end_of word field) >>= λ act. Ok (tuple_at (number_of time) act))
        → UntilCase (edge_named source label target) sign word field → Ends (time ∷ source ∷ label ∷ target ∷ sign ∷ word ∷ field ∷ [])
    by_end is edge p e (right_end plain same end acts) =
        well (tuple_at (number_of time) (Insert (edge_named source label target) (Some (number_of field))))
        (time, source ∷ label ∷ target ∷ sign ∷ word ∷ field ∷ [], refl, is, (edge, (field, end, inr (ap₂ (λ (s w : List ℕ). source ∷ label ∷ target ∷ s ∷ w ∷ field ∷ []) plain same))))
        (ended (time ∷ source ∷ label ∷ target ∷ sign ∷ word ∷ field ∷ []) (signed (time ∷ source ∷ label ∷ target ∷ sign ∷ word ∷ field ∷ []) p (sign_right plain)) (end_right same end))
        (e ∙ ap (λ act. act >>= λ act. Ok (tuple_at (number_of time) act)) acts)
    by_end is edge p e (wrong_sign other acts) =
        badly Op (record { has = inr (refl, other); first = p }) (e ∙ ap (λ act. act >>= λ act. Ok (tuple_at (number_of time) act)) acts)
    by_end is edge p e (wrong_end plain none acts) =
        badly Until (record { has = inr (refl, none); first = signed (time ∷ source ∷ label ∷ target ∷ sign ∷ word ∷ field ∷ []) p (sign_right plain) })
        (e ∙ ap (λ act. act >>= λ act. Ok (tuple_at (number_of time) act)) acts)

-- all fields give a tuple or have a first fault
pub ends : (list : List (List ℕ)) → Ends list
unfolding tuple_of_fields
ends [] = miscounted [] (refl, λ e. omega (arith, e), λ e. omega (arith, e), λ e. omega (arith, e), λ e. omega (arith, e), λ e. omega (arith, e)) refl
ends (time ∷ []) = tick_ends time
ends (a ∷ b ∷ []) = miscounted (a ∷ b ∷ []) (refl, λ e. omega (arith, e), λ e. omega (arith, e), λ e. omega (arith, e), λ e. omega (arith, e), λ e. omega (arith, e)) refl
ends (a ∷ b ∷ c ∷ []) = miscounted (a ∷ b ∷ c ∷ []) (refl, λ e. omega (arith, e), λ e. omega (arith, e), λ e. omega (arith, e), λ e. omega (arith, e), λ e. omega (arith, e)) refl
ends (time ∷ source ∷ label ∷ target ∷ []) = insert_ends time source label target
ends (time ∷ source ∷ label ∷ target ∷ sign ∷ []) = signed_ends time source label target sign
ends (time ∷ source ∷ label ∷ target ∷ word ∷ field ∷ []) = until_ends time source label target word field
ends (time ∷ source ∷ label ∷ target ∷ sign ∷ word ∷ field ∷ []) = signed_until_ends time source label target sign word field
ends (a ∷ b ∷ c ∷ d ∷ e ∷ f ∷ g ∷ h ∷ more) = miscounted (a ∷ b ∷ c ∷ d ∷ e ∷ f ∷ g ∷ h ∷ more) (refl, λ e. omega (arith, e), λ e. omega (arith, e), λ e. omega (arith, e), λ e. omega (arith, e), λ e. omega (arith, e)) refl

-- the edge of three names that point forwards
edge_again : (edge : Edge) → edge.label.back ≡ false
    → edge_named edge.from edge.label.name edge.to ≡ edge
edge_again edge e = ap (λ (back : Bool). record { from = edge.from; label = record { name = edge.label.name; back = back }; to = edge.to }) (sym e)

-- what is written of an edge is read so
change_again : (time : ℕ) (text : List ℕ) (edge : Edge) (acts : Edge → Result Act BadLine) (act : Act)
    → IsTimeText time text → IsStreamEdge edge → acts edge ≡ Ok act
    → done_at text edge.from edge.label.name edge.to acts ≡ Ok (tuple_at time act)
change_again time text edge acts act is named reads =
    change_read text edge.from edge.label.name edge.to acts time edge (time_text_read time text is)
    (edge_read edge.from edge.label.name edge.to named.from named.label named.to ∙ ap (λ edge. Ok edge) (edge_again edge named.forwards))
    ∙ ap (λ act. act >>= λ act. Ok (tuple_at time act)) reads

-- an edge with a text of an end
until_again : (edge : Edge) (end : ℕ) (field : List ℕ) → IsTimeText end field
    → ending_of edge (codes "+") (end_of (codes "until") field) ≡ Ok (Insert edge (Some end))
until_again edge end field is =
    ending_read edge (codes "+") (end_of (codes "until") field) refl
    ∙ ap (λ (until : Result ℕ BadLine). until >>= λ end. Ok (Insert edge (Some end))) (end_read (codes "until") field end refl is)

-- the fields of a tuple give it
pub complete : (time : ℕ) (act : Act) (text : List ℕ) (rest : List (List ℕ)) → IsTimeText time text
    → IsActOf act rest → tuple_of_fields (text ∷ rest) ≡ Ok (tuple_at time act)
unfolding tuple_of_fields change_of lasting_of act_of
complete time Tick text rest is e = ap (λ fields. tuple_of_fields (text ∷ fields)) e ∙ tick_read text time (time_text_read time text is)
complete time (Insert edge None) text rest is (named, short_or_long) =
    let again = change_again time text edge (λ edge. act_of edge (codes "+")) (Insert edge None) is named refl in
    elim short_or_long [
      | inl e ↦ ap (λ fields. tuple_of_fields (text ∷ fields)) e ∙ again
      | inr e ↦ ap (λ fields. tuple_of_fields (text ∷ fields)) e ∙ again
    ]
complete time (Insert edge (Some end)) text rest is (named, (field, ends_at, short_or_long)) =
    let again = change_again time text edge (λ edge. ending_of edge (codes "+") (end_of (codes "until") field)) (Insert edge (Some end)) is named (until_again edge end field ends_at) in
    elim short_or_long [
      | inl e ↦ ap (λ fields. tuple_of_fields (text ∷ fields)) e ∙ again
      | inr e ↦ ap (λ fields. tuple_of_fields (text ∷ fields)) e ∙ again
    ]
complete time (Delete edge) text rest is (named, e) =
    ap (λ fields. tuple_of_fields (text ∷ fields)) e ∙ change_again time text edge (λ edge. act_of edge (codes "-")) (Delete edge) is named refl
