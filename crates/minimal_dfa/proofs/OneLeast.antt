-- Least automata that accept the same words are alike, and so one.
use Rattle.std.proofs.Common.{◌≡◌, ℕ, zero, suc, ◌<◌, false, List, [], ◌∷◌, ◌++◌, Option, Some, None, refl, sym, ap, ◌∙◌, ⊎_elim, arith}
use Rattle.std.specs.Prelude.{◌↔◌, IsSome, unwrap_or, option_map}
use Rattle.std.specs.Cmp.{both_ways}
use Rattle.std.proofs.lemmas.Bool.{false≢true, cases_order}
use Rattle.std.proofs.lemmas.Option.{same_Some}
use Rattle.rpq_base.specs.declared.data.Label.{Label}
use Rattle.dfa_table.specs.DfaValue.{DfaValue, IsDfa, is_final}
use Rattle.dfa_table.specs.Laws.{AreAlike}
use Rattle.dfa_table.specs.Runs.{run_from, Accepts, accepts_from}
use Rattle.dfa_table.proofs.Numbering.{one_numbering}
use Rattle.dfa_table.proofs.Runs.{runs_join, runs_stay_within, start_is_apart, accepted_words_pass}
use Rattle.state_pairs.specs.Pairs.{accepts_at}
use Rattle.minimal_dfa.specs.Laws.{OneLeast}
use Rattle.minimal_dfa.specs.Least.{IsLeast}

-- both accept the same words
abbrev pub AcceptAlike : DfaValue → DfaValue → Type 0
AcceptAlike first second = (word : List Label) → Accepts first word ↔ Accepts second word

pub mirrored : (first second : DfaValue) → AcceptAlike first second → AcceptAlike second first
mirrored first second alike = λ word. ((alike word).1, (alike word).0)

same_start : (first second : DfaValue) → AcceptAlike first second → (word : List Label) → accepts_from first 0 word ≡ accepts_from second 0 word
same_start first second alike word =
    both_ways (accepts_from first 0 word) (accepts_from second 0 word)
    (λ is. (accepted_words_pass second word).0 ((alike word).0 ((accepted_words_pass first word).1 is)))
    (λ is. (accepted_words_pass first word).0 ((alike word).1 ((accepted_words_pass second word).1 is)))

-- a word and then another is accepted where the second is from where the first leads to
accepts_joined : (dfa : DfaValue) (o : Option ℕ) (front rest : List Label) → run_from dfa 0 front ≡ o → accepts_from dfa 0 (front ++ rest) ≡ accepts_at dfa o rest
accepts_joined dfa o front rest leads =
    ap (λ (end : Option ℕ). unwrap_or (option_map (is_final dfa) end) false) (runs_join dfa 0 front rest)
    ∙ ap (λ (from : Option ℕ). accepts_at dfa from rest) leads

-- ---- a word leads somewhere where it can be completed to an accepted one

pub leads_too : (o other : Option ℕ) (first second : DfaValue) (word : List Label) → IsLeast first → AcceptAlike first second → run_from first 0 word ≡ o → run_from second 0 word ≡ other →
    IsSome o → IsSome other
leads_too None other first second word least alike leads leads2 some = absurd (false≢true some)
leads_too (Some state) (Some target) first second word least alike leads leads2 some = refl
leads_too (Some state) None first second word least alike leads leads2 some =
    let within = runs_stay_within first 0 state word least.valid (omega (arith, least.valid.some)) leads in
    let final = least.trim.reaches state within in
    let accepted = accepts_joined first (Some state) word final.0 leads ∙ final.1 in
    absurd (false≢true (sym (accepts_joined second None word final.0 leads2) ∙ (sym (same_start first second alike (word ++ final.0)) ∙ accepted)))

-- ---- two words lead to one state where they can be completed alike

-- a word that leads to the start is empty
is_empty : (word : List Label) (dfa : DfaValue) → IsDfa dfa → run_from dfa 0 word ≡ Some 0 → word ≡ []
is_empty [] dfa valid leads = refl
is_empty (label ∷ word) dfa valid leads = absurd (start_is_apart.back dfa 0 label word valid leads)

-- where one word leads to the start of the second automaton, so does the other
to_start : (first second : DfaValue) (one other : List Label) (target : ℕ) → IsDfa first → IsDfa second → run_from first 0 one ≡ run_from first 0 other →
    run_from second 0 one ≡ Some 0 → run_from second 0 other ≡ Some target → 0 ≡ target
to_start first second one other target valid valid2 same leads leads2 =
    let empty = is_empty one second valid2 leads in
    let back : run_from first 0 other ≡ Some 0 = sym same ∙ ap (run_from first 0) empty in
    let empty2 = is_empty other first valid back in
    same_Some 0 target (sym (ap (run_from second 0) empty2) ∙ leads2)

-- states of the second that are told apart aren't those of words that lead to one state of the first
not_apart : (first second : DfaValue) (one other : List Label) (state target : ℕ) → IsLeast second → AcceptAlike first second → run_from first 0 one ≡ run_from first 0 other →
    run_from second 0 one ≡ Some state → run_from second 0 other ≡ Some target → 0 < state → state < target → ⊥
not_apart first second one other state target least2 alike same leads leads2 above before =
    let within = runs_stay_within second 0 target other least2.valid (omega (arith, least2.valid.some)) leads2 in
    let told = least2.apart state target above before within in
    let rest = told.0 in
    told.1 (sym (accepts_joined second (Some state) one rest leads)
    ∙ (sym (same_start first second alike (one ++ rest))
    ∙ (accepts_joined first (run_from first 0 other) one rest same
    ∙ (sym (accepts_joined first (run_from first 0 other) other rest refl)
    ∙ (same_start first second alike (other ++ rest)
    ∙ accepts_joined second (Some target) other rest leads2)))))

pub one_state : (first second : DfaValue) (one other : List Label) (state target : ℕ) → IsDfa first → IsLeast second → AcceptAlike first second → run_from first 0 one ≡ run_from first 0 other →
    run_from second 0 one ≡ Some state → run_from second 0 other ≡ Some target → state ≡ target
one_state first second one other zero target valid least2 alike same leads leads2 = to_start first second one other target valid least2.valid same leads leads2
one_state first second one other (suc state) zero valid least2 alike same leads leads2 = sym (to_start first second other one (suc state) valid least2.valid (sym same) leads2 leads)
one_state first second one other (suc state) (suc target) valid least2 alike same leads leads2 = ⊎_elim
    (λ equal. equal)
    (λ different. ⊎_elim
    (λ before. absurd (not_apart first second one other (suc state) (suc target) least2 alike same leads leads2 (omega arith) before))
    (λ after. absurd (not_apart first second other one (suc target) (suc state) least2 alike (sym same) leads2 leads (omega arith) after))
    different)
    (cases_order (suc state) (suc target))

-- where the first automaton leads both words to one place, so does the second
led_same : (o other : Option ℕ) (first second : DfaValue) (one two : List Label) → IsLeast first → IsLeast second → AcceptAlike first second → run_from first 0 one ≡ run_from first 0 two →
    run_from second 0 one ≡ o → run_from second 0 two ≡ other → o ≡ other
led_same None None first second one two least least2 alike same leads leads2 = refl
led_same (Some state) (Some target) first second one two least least2 alike same leads leads2 =
    ap (λ (n : ℕ). Some n) (one_state first second one two state target least.valid least2 alike same leads leads2)
led_same None (Some target) first second one two least least2 alike same leads leads2 =
    let back = leads_too (Some target) (run_from first 0 two) second first two least2 (mirrored first second alike) leads2 refl refl in
    absurd (false≢true (leads_too (run_from first 0 two) None first second one least alike same leads back))
led_same (Some state) None first second one two least least2 alike same leads leads2 =
    let back = leads_too (Some state) (run_from first 0 one) second first one least2 (mirrored first second alike) leads refl refl in
    absurd (false≢true (leads_too (run_from first 0 one) None first second two least alike (sym same) leads2 back))

same_too : (first second : DfaValue) (one other : List Label) → IsLeast first → IsLeast second → AcceptAlike first second → run_from first 0 one ≡ run_from first 0 other →
    run_from second 0 one ≡ run_from second 0 other
same_too first second one other least least2 alike same =
    led_same (run_from second 0 one) (run_from second 0 other) first second one other least least2 alike same refl refl

are_alike : (first second : DfaValue) → IsLeast first → IsLeast second → first.labels ≡ second.labels → AcceptAlike first second → AreAlike first second
are_alike first second least least2 labels alike =
    let back = mirrored first second alike in record {
      labels = labels;
      leads = λ word. (
        leads_too (run_from first 0 word) (run_from second 0 word) first second word least alike refl refl,
        leads_too (run_from second 0 word) (run_from first 0 word) second first word least2 back refl refl,
      );
      same = λ one other. (same_too first second one other least least2 alike, same_too second first one other least2 least back);
      accepts = alike;
    }

pub one_least : OneLeast
one_least first second least least2 labels alike =
    one_numbering first second
    (record { valid = least.valid; reached = least.trim.reached; order = least.order })
    (record { valid = least2.valid; reached = least2.trim.reached; order = least2.order })
    (are_alike first second least least2 labels alike)
