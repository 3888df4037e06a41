use Rattle.std.proofs.Common.{◌≡◌, ℕ, Bool, List, map, Option, Vec, Global, ap, subst, ◌∙◌}
use Rattle.std.specs.Prelude.{◌↔◌, IsTrue, IfSome, IfNone}
use Rattle.rpq_base.specs.declared.data.Entry.{Entry}
use Rattle.rpq_model.specs.declared.live.Live.{Live}
use Rattle.rpq_model.specs.Live.{placed_entry}
use Rattle.rpq_model.specs.Window.{Placed, clock, live_entries, inserted_edges}
use Rattle.rpq_model.specs.Ends.{IsUntil}
use Rattle.rpq_model.specs.Query.{Query, path_query}
use Rattle.plain_checks.specs.PathTests.{IsPathAt, HasNoPathAt, Fits, edges_of}
use Rattle.path_witness.specs.Shows.{Shown, IsLeastDeadline}
use Rattle.plain_checks.proofs.Showing.{shows_decides, shows_nothing}
use Rattle.plain_checks.proofs.shown.is_shown.Goals as goal

-- the live entries are those of the query's window
live_are : (query inside : Query) (entries : List Entry) (now : ℕ) (lent live : List Live) → lent ≡ live →
    map placed_entry live ≡ live_entries inside.window now entries → inside ≡ query → now ≡ clock entries →
    map placed_entry lent ≡ live_entries query.window (clock entries) entries
live_are query inside entries now lent live lent_is live_is query_is now_is =
    ap (λ (some : List Live). map placed_entry some) lent_is
    ∙ (live_is
    ∙ (ap (λ (each : Query). live_entries each.window now entries) query_is ∙ ap (λ (at : ℕ). live_entries query.window at entries) now_is))

-- a test decides the same in other words
in_words : {A : Type 0} (P : A → Type 0) (test : Bool) (here there : A) → here ≡ there → IsTrue test ↔ P here → IsTrue test ↔ P there
in_words P test here there is decides = subst (λ each. IsTrue test ↔ P each) is decides

pub returns-in_default : goal.returns-in_default
returns-in_default c =
    let live_is =
    live_are c.args.query.now _ c.args.entries.now c.clock.result c.deref.result.now c.in_ok-live.live.items c.deref.ensures.value c.in_ok-live.ensures
    c.query.view_is c.clock.ensures.clock in
    let positions_are : c.deref-2.result.now ≡ c.args.shown.now.positions =
    c.deref-2.ensures.value ∙ ap (λ (shown : Shown). shown.positions) c.shown.view_is in
    let none = subst (λ (found : Option (Vec Live Global)). IfNone found (HasNoPathAt (map placed_entry c.deref.result.now) c.deref-2.result.now)) c.in_default.is
    c.in_ok-path.ensures.none in
    shows_nothing c.args.query.now c.args.entries.now c.args.pair.now c.args.shown.now
    (subst (HasNoPathAt (live_entries c.args.query.now.window (clock c.args.entries.now) c.args.entries.now)) positions_are
    (subst (λ (live : List Placed). HasNoPathAt live c.deref-2.result.now) live_is none))

pub returns : goal.returns
returns c =
    let query = c.args.query.now in
    let path = map placed_entry c.in-Some.path.items in
    let until_is : c.shown.inside.until ≡ c.args.shown.now.until = ap (λ (shown : Shown). shown.until) c.shown.view_is in
    let live_is =
    live_are query _ c.args.entries.now c.clock.result c.deref.result.now c.in_ok-live.live.items c.deref.ensures.value c.in_ok-live.ensures
    c.query.view_is c.clock.ensures.clock in
    let positions_are : c.deref-2.result.now ≡ c.args.shown.now.positions =
    c.deref-2.ensures.value ∙ ap (λ (shown : Shown). shown.positions) c.shown.view_is in
    let at = subst
    (λ (found : Option (Vec Live Global)). IfSome found (λ each. IsPathAt (map placed_entry c.deref.result.now) c.deref-2.result.now (map placed_entry each.items)))
    c.in-Some.is c.in_ok-path.ensures.some in
    let edges_are : edges_of c.deref-4.result.now ≡ inserted_edges path =
    ap edges_of c.deref-4.ensures.value
    ∙ (c.in_ok-edges.ensures ∙ ap (λ (some : List Live). inserted_edges (map placed_entry some)) c.deref-3.ensures.value) in
    shows_decides query c.args.entries.now c.args.pair.now c.args.shown.now path c.in_ok-is_path.is_path c.is_least-is_least.result c.in_ok-ends.ends
    (subst (λ (positions : List ℕ). IsPathAt (live_entries query.window (clock c.args.entries.now) c.args.entries.now) positions path) positions_are
    (subst (λ (live : List Placed). IsPathAt live c.deref-2.result.now path) live_is at))
    (in_words (Fits query c.args.pair.now) c.in_ok-is_path.is_path _ _ edges_are c.in_ok-is_path.ensures)
    (in_words (IsLeastDeadline query.window path) c.is_least-is_least.result _ _ until_is
    (in_words (λ (each : Query). IsLeastDeadline each.window path c.shown.inside.until) c.is_least-is_least.result _ _ c.query.view_is
    (in_words (λ (some : List Live). IsLeastDeadline c.query.inside.window (map placed_entry some) c.shown.inside.until) c.is_least-is_least.result _ _
    c.deref-5.ensures.value c.is_least-is_least.ensures)))
    (in_words (IsUntil (path_query query) c.args.entries.now c.args.pair.now) c.in_ok-ends.ends _ _ until_is c.in_ok-ends.ensures)
