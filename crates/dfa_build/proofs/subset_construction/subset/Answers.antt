use Rattle.std.proofs.Common.{ℕ, List, length, map, Option, Vec, Global, Err, ap, subst, sym, arith}
use Rattle.dfa_table.specs.DfaValue.{IsDfa}
use Rattle.std.proofs.lemmas.List.{length-map}
use Rattle.dfa_build.specs.StateSets.{set_of, sets_of}
use Rattle.dfa_build.specs.declared.fault.BuildFault.{BuildFault}
use Rattle.dfa_build.specs.declared.fault.BuildFault.TheVariants.{TooManyStates}
use Rattle.dfa_build.proofs.Assembled.{table_is_dfa, passed_on}
use Rattle.dfa_build.proofs.Counting.{many_sets, all_sets, few_sets}
use Rattle.rpq_base.proofs.Outcomes.{handed_on}
use Rattle.dfa_build.proofs.Runs.{IsSubsetDfa}
use Rattle.dfa_build.proofs.Theorem.{accepts_same, state_per_set}
use Rattle.dfa_build.proofs.subset_construction.subset.Goals as goal

pub returns-in_err-states-clause-many : goal.returns-in_err-states-clause-many
returns-in_err-states-clause-many c = λ is.
    let sets = c.in_ok-of_positions.of_positions in
    let fault = handed_on c.from_residual-in_err-states.result c.in_err-states.field-0.0 TooManyStates c.from_residual-in_err-states.ensures.1 is in
    let many = c.in_err-states.ensures.full (ap (λ (e : BuildFault). Err e) fault) in
    many_sets c.args.positions.now sets.labels.items sets.first sets.last sets.follow.items sets.masks.items
    (record { are = c.requires; sets = c.in_ok-of_positions.ensures.sets }) many

pub new-requires : goal.new-requires
new-requires c =
    let items : Vec (Option ℕ) Global → List (Option ℕ) = λ row. row.items in
    let sets = c.in_ok-of_positions.of_positions in
    let states = c.in_ok-states.states in
    table_is_dfa sets.labels.items c.in_ok-finals.finals.items sets.follow.items sets.masks.items sets.first (sets_of states.nodes.items) (map items states.rows.items)
    c.in_ok-states.ensures.states c.in_ok-of_positions.ensures.sorted
    (omega (arith, c.in_ok-of_positions.ensures.few, c.requires.few))
    c.in_ok-of_positions.ensures.sets.as_many_masks
    (omega (arith, c.in_ok-finals.ensures.length, ap length c.deref.ensures.value, length-map states.nodes.items set_of))
    c.in_ok-finals.ensures.start

pub returns : goal.returns
returns c =
    let items : Vec (Option ℕ) Global → List (Option ℕ) = λ row. row.items in
    let positions = c.args.positions.now in
    let sets = c.in_ok-of_positions.of_positions in
    let states = c.in_ok-states.states in
    let dfa = c.in_ok-new.field-0 in
    let whole : IsSubsetDfa positions sets.first sets.last sets.follow.items sets.masks.items (sets_of states.nodes.items) dfa =
    subst (IsSubsetDfa positions sets.first sets.last sets.follow.items sets.masks.items (sets_of states.nodes.items)) (sym c.in_ok-new.ensures)
    (passed_on positions sets.labels.items c.in_ok-finals.finals.items sets.first sets.last sets.follow.items sets.masks.items states.nodes.items
    c.deref.result.now (map items states.rows.items) c.requires c.in_ok-of_positions.ensures.sets c.deref.ensures.value
    c.in_ok-states.ensures.states c.in_ok-finals.ensures.start c.in_ok-finals.ensures.sets) in
    record {
      automaton = record {
        accepts = accepts_same positions sets.first sets.last sets.follow.items sets.masks.items (sets_of states.nodes.items) dfa whole;
        sets = state_per_set positions sets.first sets.last sets.follow.items sets.masks.items (sets_of states.nodes.items) dfa whole;
        labels = whole.moves.sets.labels_of_atoms;
        order = whole.rows.order;
        valid = subst IsDfa (sym c.in_ok-new.ensures)
            (table_is_dfa sets.labels.items c.in_ok-finals.finals.items sets.follow.items sets.masks.items sets.first (sets_of states.nodes.items) (map items states.rows.items)
            c.in_ok-states.ensures.states c.in_ok-of_positions.ensures.sorted
            (omega (arith, c.in_ok-of_positions.ensures.few, c.requires.few))
            c.in_ok-of_positions.ensures.sets.as_many_masks
            (omega (arith, c.in_ok-finals.ensures.length, ap length c.deref.ensures.value, length-map states.nodes.items set_of))
            c.in_ok-finals.ensures.start);
      };
      states = all_sets positions sets.first sets.last sets.follow.items sets.masks.items (sets_of states.nodes.items) dfa whole;
      many = λ e. cc;
      few = few_sets positions sets.first sets.last sets.follow.items sets.masks.items (sets_of states.nodes.items) dfa whole;
      atoms = λ n e. cc;
    }
