use Rattle.std.proofs.Common.{◌≡◌, ℕ, ◌<◌, List, [], ◌∷◌, length, Some, sym, subst, rules}
use Rattle.std.specs.Prelude.{All}
use Rattle.rpq_base.specs.declared.data.Label.{Label}
use Rattle.dfa_table.specs.DfaValue.{DfaValue}
use Rattle.dfa_table.specs.Runs.{Accepts}
use Rattle.state_pairs.specs.Goals.{ReachesGoal}
use Rattle.state_pairs.specs.Pairs.{IsLeastExtra}
use Rattle.containment_test.specs.Containment.{IsLeastTriple}
use Rattle.containment_test.specs.Needed.{AreNeeded, IsFront, state_graph}
use Rattle.containment_test.proofs.Triples.{spell, contained_of, least_triple, front_within, label_of_front}
use Rattle.containment_test.proofs.decision.contained.Goals as goal

pub returns-in_default : goal.returns-in_default
returns-in_default c =
    let dfa = c.args.dfa.now in
    let list = c.in_ok-needed.needed.items in
    let are = subst (λ (d : DfaValue). AreNeeded d list) c.in_ok-pairs.ensures c.in_ok-needed.ensures in
    let none : (word : List ℕ) → ReachesGoal (state_graph dfa list) 0 word → ⊥ = search rules in
    contained_of dfa list are none

pub spell-requires : goal.spell-requires
spell-requires c =
    let dfa = c.args.dfa.now in
    let list = c.in_ok-needed.needed.items in
    let word = c.in-Some.front.word.items in
    let state = c.in-Some.front.state in
    let needed = c.in-Some.front.needed in
    let are = subst (λ (d : DfaValue). AreNeeded d list) c.in_ok-pairs.ensures c.in_ok-needed.ensures in
    let front : IsFront dfa list word state needed = search rules in
    subst (λ (numbers : List ℕ). All (λ number. number < length dfa.labels) numbers) (sym c.deref-2.ensures.value)
    (front_within dfa list word state needed are.valid front)

pub spell-requires-2 : goal.spell-requires-2
spell-requires-2 c =
    let dfa = c.args.dfa.now in
    let list = c.in_ok-needed.needed.items in
    let word = c.in-Some.front.word.items in
    let state = c.in-Some.front.state in
    let needed = c.in-Some.front.needed in
    let are = subst (λ (d : DfaValue). AreNeeded d list) c.in_ok-pairs.ensures c.in_ok-needed.ensures in
    let front : IsFront dfa list word state needed = search rules in
    label_of_front dfa list word state needed are front

pub returns : goal.returns
returns c =
    let dfa = c.args.dfa.now in
    let list = c.in_ok-needed.needed.items in
    let word = c.in-Some.front.word.items in
    let state = c.in-Some.front.state in
    let needed = c.in-Some.front.needed in
    let rest = c.in_ok-rest.rest.items in
    let are = subst (λ (d : DfaValue). AreNeeded d list) c.in_ok-pairs.ensures c.in_ok-needed.ensures in
    let front : IsFront dfa list word state needed = search rules in
    let last : IsLeastExtra dfa (Some state) needed.next rest = search rules in
    let least = least_triple dfa list word state needed rest (record { are = are; front = front; last = last }) in
    let p : c.in_ok-p.p ≡ spell dfa word = search rules in
    let q : c.in_ok-q.q ≡ spell dfa (needed.label ∷ []) = search rules in
    let w : c.in_ok-w.w ≡ spell dfa rest = search rules in
    subst (λ (first : List Label). IsLeastTriple (Accepts dfa) first c.in_ok-q.q c.in_ok-w.w) (sym p)
    (subst (λ (second : List Label). IsLeastTriple (Accepts dfa) (spell dfa word) second c.in_ok-w.w) (sym q)
    (subst (λ (third : List Label). IsLeastTriple (Accepts dfa) (spell dfa word) (spell dfa (needed.label ∷ [])) third) (sym w) least))
