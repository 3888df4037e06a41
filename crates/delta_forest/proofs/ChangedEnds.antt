-- The ends that a change takes away or brings.
use Rattle.std.proofs.Common.{◌≡◌, ℕ, Bool, true, false, cond, List, [], filter, Option, Some, None, sym, ap, subst, ◌∙◌, inr, ⊎_elim, Contains, arith}
use Rattle.std.specs.Prelude.{AllPairs, flat_map, option_map}
use Rattle.std.specs.Option.{unwrap_or}
use Rattle.std.proofs.lemmas.List.Kept.{AllPairs-from_increasing}
use Rattle.std.proofs.lemmas.Map.Keys.{IsStrictlyIncreasing-from_sorted}
use Rattle.rpq_base.proofs.Members.{none_in}
use Rattle.edge_store.specs.Edges.{Edges}
use Rattle.dfa_table.specs.DfaValue.{DfaValue}
use Rattle.source_tree.specs.declared.change.Change.{Change}
use Rattle.source_tree.specs.declared.change.EndChange.{EndChange}
use Rattle.source_tree.specs.Ends.{HasOutcome, SourceValue, end_in}
use Rattle.source_tree.specs.Product.{AreFinals, product_of}
use Rattle.source_tree.specs.Taking.{HasTaken}
use Rattle.source_tree.proofs.Outcomes.{none_kept}
use Rattle.source_table.specs.Sources.{source_in}
use Rattle.delta_forest.specs.Forest.{ForestValue, IsEnd, IsFinalValue}
use Rattle.delta_forest.specs.Changes.{AreEndChangesOf}
use Rattle.delta_forest.specs.Keeping.{forest_with}
use Rattle.delta_forest.specs.Settling.{log_at, log_of, touched_at}
use Rattle.delta_forest.specs.declared.index.Index.{Index}
use Rattle.delta_forest.proofs.Ends.{end_from, ends_are_one, greatest_like}
use Rattle.delta_forest.proofs.Logs.{AreApart, joined_members, logs_once}
use Rattle.delta_forest.proofs.Sources.{found_or_not, found_root, listed_or_not}
use Rattle.delta_forest.proofs.Grown.{grown_tree}
use Rattle.delta_forest.proofs.Following.{Follows, after}
use Rattle.delta_forest.proofs.Settled.{settled_tree}
use Rattle.delta_forest.proofs.Touched.{new_value, old_value, others_kept, took, touched_is}

module _ {change : Change} {dfa : DfaValue} {finals : List ℕ} {calls : ℕ} {old new : Edges}
    {index grown : Index} {roots : List ℕ} {table : List SourceValue} {settled : Index}
    (follows : Follows change dfa finals calls old new index grown roots table settled)
    (number count : ℕ) (broken spoiled : Bool) (olds news : List ℕ)
    (old_log new_log : List EndChange) (exact : AreFinals dfa finals) where
  abbrev before_it : ForestValue
  before_it = forest_with dfa old index.sources number broken olds old_log

  abbrev after_it : ForestValue
  after_it = forest_with dfa new settled.sources count spoiled news new_log

  old_end : (root : ℕ) (source : SourceValue) (found : source_in table root ≡ Some source)
      (vertex : ℕ) → IsEnd before_it root vertex
      (end_in finals (after follows root source found).before.tree vertex)
  old_end root source found vertex =
      let was = after follows root source found in
      end_from before_it finals root vertex was.before.tree exact
      (grown_tree follows.kept follows.are root was.before was.found)
      (λ state. old_value follows root source found vertex state)

  new_end : (root : ℕ) (source : SourceValue) (found : source_in table root ≡ Some source)
      (vertex : ℕ) → IsEnd after_it root vertex (end_in finals source.tree vertex)
  new_end root source found vertex =
      end_from after_it finals root vertex source.tree exact
      (settled_tree follows root source found)
      (λ state. new_value follows root source found vertex state)

  log_found : (root : ℕ) (source : SourceValue) → source_in table root ≡ Some source →
      log_at table root ≡ log_of source
  log_found root source found =
      ap (λ (each : Option SourceValue). unwrap_or (option_map log_of each) []) found

  -- it has no more than the source's, and all of it where the source was touched
  in_log : (source : SourceValue) (each : EndChange) → Contains (log_of source) each →
      Contains source.log each
  in_log source each member = by source.touched member
    where
      by : (b : Bool) → Contains (cond b source.log []) each → Contains source.log each
      by true there = there
      by false there = absurd (none_in each there)

  all_log : (source : SourceValue) → source.touched ≡ true → log_of source ≡ source.log
  all_log source touched = ap (λ (b : Bool). cond b source.log []) touched

  apart_log : (source : SourceValue) → AllPairs AreApart source.log →
      AllPairs AreApart (log_of source)
  apart_log source once = by source.touched
    where
      by : (b : Bool) → AllPairs AreApart (cond b source.log [])
      by true = once
      by false = λ i j d less within. absurd (omega (arith, within))

  -- an entry is one of the log of a listed source
  record IsLogged (root : ℕ) (each : EndChange) : Type 0 where
    source : SourceValue
    found : source_in table root ≡ Some source
    listed : Contains roots root
    member : Contains source.log each

  logged : (root : ℕ) (each : EndChange) → Contains roots root →
      Contains (log_at table root) each → IsLogged root each
  logged root each listed member = ⊎_elim
      (λ (there : (source : SourceValue) × (source_in table root ≡ Some source)).
      record {
        source = there.0;
        found = there.1;
        listed = listed;
        member = in_log there.0 each (subst (λ (log : List EndChange). Contains log each)
            (log_found root there.0 there.1) member);
      })
      (λ (none : source_in table root ≡ None).
      absurd (none_in each (subst (λ (log : List EndChange). Contains log each)
      (ap (λ (one : Option SourceValue).
      unwrap_or (option_map log_of one) []) none) member)))
      (found_or_not (source_in table root))

  took_listed : (root : ℕ) (source : SourceValue)
      (found : source_in table root ≡ Some source) → Contains roots root →
      HasTaken change (product_of new dfa finals grown.holders)
      (after follows root source found).before source
  took_listed root source found listed =
      let was = after follows root source found in ⊎_elim
      (λ (both : Contains roots root
      × HasTaken change (product_of new dfa finals grown.holders) was.before source). both.1)
      (λ (both : (Contains roots root → ⊥) × (was.before ≡ source)).
      absurd (both.0 listed))
      was.cases

  before_root : (root : ℕ) (source : SourceValue)
      (found : source_in table root ≡ Some source) →
      (after follows root source found).before.tree.root ≡ root
  before_root root source found =
      let was = after follows root source found in
      found_root grown.sources root was.before was.found

  logged_root : (root : ℕ) (each : EndChange) → Contains roots root →
      Contains (log_at table root) each → each.root ≡ root
  logged_root root each listed member =
      let is = logged root each listed member in
      let log = (took_listed root is.source is.found listed).log in
      let entry = (log.exact each).0 is.member in
      entry.0 ∙ before_root root is.source is.found

  real : (each : EndChange) (before later : Option ℕ) →
      IsEnd before_it each.root each.vertex before → IsEnd after_it each.root each.vertex later →
      Contains (flat_map (log_at table) roots) each → HasOutcome each.outcome before later
  real each before later first second member =
      let at = (joined_members (log_at table) roots each).0 member in
      let root = at.0 in
      let is = logged root each at.1 at.2 in
      let was = after follows root is.source is.found in
      let log = (took_listed root is.source is.found at.1).log in
      let entry = (log.exact each).0 is.member in
      let root_is : root ≡ each.root = sym (logged_root root each at.1 at.2) in
      let before_is : end_in finals was.before.tree each.vertex ≡ before =
      ends_are_one before_it each.root each.vertex (end_in finals was.before.tree each.vertex)
      before (subst (λ (one : ℕ). IsEnd before_it one each.vertex
      (end_in finals was.before.tree each.vertex)) root_is
      (old_end root is.source is.found each.vertex)) first in
      let later_is : end_in finals is.source.tree each.vertex ≡ later =
      ends_are_one after_it each.root each.vertex (end_in finals is.source.tree each.vertex)
      later (subst (λ (one : ℕ). IsEnd after_it one each.vertex
      (end_in finals is.source.tree each.vertex)) root_is
      (new_end root is.source is.found each.vertex)) second in
      subst (λ (end : Option ℕ). HasOutcome each.outcome end later) before_is
      (subst (λ (end : Option ℕ). HasOutcome each.outcome
      (end_in finals was.before.tree each.vertex) end) later_is entry.1)

  all : (each : EndChange) (before later : Option ℕ) →
      IsEnd before_it each.root each.vertex before → IsEnd after_it each.root each.vertex later →
      HasOutcome each.outcome before later → Contains (flat_map (log_at table) roots) each
  all each before later first second has = ⊎_elim
      (λ (member : Contains (filter (touched_at table) roots) each.root).
      let root = each.root in
      let at = touched_is follows root member in
      let was = after follows root at.source at.found in
      let log = (took follows root at).log in
      let before_is : before ≡ end_in finals was.before.tree each.vertex =
      ends_are_one before_it root each.vertex before
      (end_in finals was.before.tree each.vertex) first
      (old_end root at.source at.found each.vertex) in
      let later_is : later ≡ end_in finals at.source.tree each.vertex =
      ends_are_one after_it root each.vertex later
      (end_in finals at.source.tree each.vertex) second
      (new_end root at.source at.found each.vertex) in
      let here = subst (λ (end : Option ℕ). HasOutcome each.outcome end
      (end_in finals at.source.tree each.vertex)) before_is
      (subst (λ (end : Option ℕ). HasOutcome each.outcome before end) later_is has) in
      (joined_members (log_at table) roots each).1 (
        root,
        at.listed,
        subst (λ (log : List EndChange). Contains log each)
            (sym (log_found root at.source at.found ∙ all_log at.source at.some))
            ((log.exact each).1 (sym (before_root root at.source at.found), here)),
      ))
      (λ (none : Contains (filter (touched_at table) roots) each.root → ⊥).
      absurd (none_kept each.outcome before later
      (ends_are_one before_it each.root each.vertex before later first
      (greatest_like later (IsFinalValue after_it each.root each.vertex)
      (IsFinalValue before_it each.root each.vertex)
      (λ number. (
        (λ has_it. (
          has_it.0,
          has_it.1,
          sym (others_kept follows each.root each.vertex has_it.0 none) ∙ has_it.2,
        )),
        (λ has_it. (
          has_it.0,
          has_it.1,
          others_kept follows each.root each.vertex has_it.0 none ∙ has_it.2,
        )),
      )) second)) has))
      (listed_or_not (filter (touched_at table) roots) each.root)

  pub are_end_changes : AreEndChangesOf before_it after_it
      (flat_map (log_at table) roots)
  are_end_changes = record {
    exact = λ each before later first second. (
      real each before later first second,
      all each before later first second,
    );
    once = logs_once (log_at table) roots
        (AllPairs-from_increasing roots (IsStrictlyIncreasing-from_sorted roots follows.are.sorted))
        (λ root listed. once_at root listed)
        logged_root;
  }
    where
      once_at : (root : ℕ) → Contains roots root → AllPairs AreApart (log_at table root)
      once_at root listed = ⊎_elim
          (λ (there : (source : SourceValue) × (source_in table root ≡ Some source)).
          subst (AllPairs AreApart) (sym (log_found root there.0 there.1))
          (apart_log there.0 (λ i j d less within.
          inr ((took_listed root there.0 there.1 listed).log.once i j d less within))))
          (λ (none : source_in table root ≡ None).
          subst (AllPairs AreApart) (sym (ap (λ (one : Option SourceValue).
          unwrap_or (option_map log_of one) []) none))
          (λ i j d less within. absurd (omega (arith, within))))
          (found_or_not (source_in table root))
