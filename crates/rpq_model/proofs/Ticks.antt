-- One entry at the end of a history.
use Rattle.std.proofs.Common.{◌≡◌, ℕ, Bool, true, false, not, ◌&&◌, ◌||◌, max, List, [], ◌∷◌, ◌++◌, map, fold, None, refl, sym, ap, subst, ◌∙◌, ⊎_elim, arith}
use Rattle.std.specs.Prelude.{Contains, ◌↔◌, if◌then◌else◌}
use Rattle.std.specs.List.{cons_option}
use Rattle.std.proofs.lemmas.Bool.{both_ways}
use Rattle.std.proofs.lemmas.List.{map-append}
use Rattle.std.proofs.lemmas.List.Folds.{list_any-append}
use Rattle.std.proofs.lemmas.List.Sums.{fold-append}
use Rattle.rpq_base.specs.Laws.{SameIsEqual}
use Rattle.rpq_base.specs.declared.data.Edge.{Edge}
use Rattle.rpq_base.specs.declared.data.Act.{Act}
use Rattle.rpq_base.specs.declared.data.Act.TheVariants.{Insert, Delete, Tick}
use Rattle.rpq_base.specs.declared.data.Entry.{Entry}
use Rattle.rpq_base.specs.declared.data.Pair.{Pair}
use Rattle.rpq_model.specs.Window.{WindowValue, Inserts, clock, is_seen, inserted_edge, deletes, is_deleted, is_live_act, is_live, live_from, edges_at}
use Rattle.rpq_model.specs.Answers.{PathQuery, IsJoinedBy, IsAnswerAt, IsAnswer}
use Rattle.rpq_model.specs.WindowLaws.{is_tuple_seen, DeleteTakesAllBefore, LastInsertIsSeen}
use Rattle.rpq_model.proofs.LiveEdges.{first_live}
use Rattle.rpq_model.proofs.Places.{live_act, act_is_live, found_or_later, from_found, from_later}

-- ---- a tick

or_false : (test : Bool) → (test || false) ≡ test
or_false true = refl
or_false false = refl

-- a tick deletes no edge
not_deleted : (entries : List Entry) (tick : Entry) (edge : Edge) → tick.tuple.act ≡ Tick → is_deleted (entries ++ tick ∷ []) edge ≡ is_deleted entries edge
not_deleted entries tick edge is =
    list_any-append (λ (entry : Entry). deletes edge entry.tuple.act) entries (tick ∷ [])
    ∙ (ap (λ (act : Act). is_deleted entries edge || (deletes edge act || false)) is ∙ or_false (is_deleted entries edge))

-- and leaves each act as live as it was
live_still : (act : Act) (window : WindowValue) (now time : ℕ) (later : List Entry) (tick : Entry) → tick.tuple.act ≡ Tick →
    is_live_act window now time act (later ++ tick ∷ []) ≡ is_live_act window now time act later
live_still (Insert edge until) window now time later tick is = ap (λ (deleted : Bool). is_seen window now time until && not deleted) (not_deleted later tick edge is)
live_still (Delete edge) window now time later tick is = refl
live_still Tick window now time later tick is = refl

tick_alone : (act : Act) (window : WindowValue) (now time : ℕ) → act ≡ Tick →
    cons_option (if is_live_act window now time act [] then inserted_edge act else None) [] ≡ []
tick_alone act window now time is = rw is

-- so at one clock the edges stay
pub edges_still : (entries : List Entry) (window : WindowValue) (now : ℕ) (tick : Entry) → tick.tuple.act ≡ Tick →
    edges_at window now (entries ++ tick ∷ []) ≡ edges_at window now entries
unfolding live_from
edges_still [] window now tick is = first_live window now tick [] ∙ tick_alone tick.tuple.act window now tick.tuple.time is
edges_still (entry ∷ later) window now tick is =
    first_live window now entry (later ++ tick ∷ [])
    ∙ (ap (λ (live : Bool). cons_option (if live then inserted_edge entry.tuple.act else None) (edges_at window now (later ++ tick ∷ [])))
    (live_still entry.tuple.act window now entry.tuple.time later tick is)
    ∙ (ap (cons_option (if is_live window now entry later then inserted_edge entry.tuple.act else None)) (edges_still later window now tick is)
    ∙ sym (first_live window now entry later)))

-- the clock after one entry more
pub clock_more : (history : List Entry) (last : Entry) → clock (history ++ last ∷ []) ≡ max (clock history) last.tuple.time
clock_more history last =
    ap (fold max 0) (map-append (λ (entry : Entry). entry.tuple.time) history (last ∷ []))
    ∙ fold-append max 0 (map (λ (entry : Entry). entry.tuple.time) history) (last.tuple.time ∷ [])

pub tick_moves_the_clock : (query : PathQuery) (history : List Entry) (tick : Entry) (pair : Pair) → tick.tuple.act ≡ Tick →
    IsAnswer query (history ++ tick ∷ []) pair ↔ IsAnswerAt query (max (clock history) tick.tuple.time) history pair
tick_moves_the_clock query history tick pair is =
    let edges : edges_at query.window (clock (history ++ tick ∷ [])) (history ++ tick ∷ []) ≡ edges_at query.window
    (max (clock history) tick.tuple.time) history =
    ap (λ (now : ℕ). edges_at query.window now (history ++ tick ∷ [])) (clock_more history tick)
    ∙ edges_still history query.window (max (clock history) tick.tuple.time) tick is in (
      subst (λ (all : List Edge). IsJoinedBy all query.language query.mode pair) edges,
      subst (λ (all : List Edge). IsJoinedBy all query.language query.mode pair) (sym edges),
    )

-- ---- a delete

or_true : (test : Bool) → (test || (true || false)) ≡ true
or_true true = refl
or_true false = refl

-- its edge is deleted
deleted_last : (entries : List Entry) (last : Entry) (edge : Edge) → SameIsEqual → last.tuple.act ≡ Delete edge → is_deleted (entries ++ last ∷ []) edge ≡ true
deleted_last entries last edge same is =
    list_any-append (λ (entry : Entry). deletes edge entry.tuple.act) entries (last ∷ [])
    ∙ (ap (λ (act : Act). is_deleted entries edge || (deletes edge act || false)) is
    ∙ (ap (λ (test : Bool). is_deleted entries edge || (test || false)) ((same.edges edge edge).1 refl)
    ∙ or_true (is_deleted entries edge)))

none_alone : (act : Act) (window : WindowValue) (now time : ℕ) (edge other : Edge) → act ≡ Delete edge →
    Contains (cons_option (if is_live_act window now time act [] then inserted_edge act else None) []) other → ⊥
none_alone act window now time edge other is member =
    let none = rw is at member in
    absurd (omega (arith, none.1))

-- no insert before it is live
taken_before : (entries : List Entry) (window : WindowValue) (now : ℕ) (last : Entry) (edge : Edge) → SameIsEqual → last.tuple.act ≡ Delete edge →
    Contains (edges_at window now (entries ++ last ∷ [])) edge → ⊥
unfolding live_from
taken_before [] window now last edge same is member =
    none_alone last.tuple.act window now last.tuple.time edge edge is
    (subst (λ (edges : List Edge). Contains edges edge) (first_live window now last []) member)
taken_before (entry ∷ later) window now last edge same is member = ⊎_elim
    (λ here. both_ways (is_deleted (later ++ last ∷ []) edge) (live_act entry.tuple.act window now entry.tuple.time (later ++ last ∷ []) edge here).2
    (deleted_last later last edge same is))
    (λ there. taken_before later window now last edge same is there)
    (found_or_later (if is_live window now entry (later ++ last ∷ []) then inserted_edge entry.tuple.act else None)
    (edges_at window now (later ++ last ∷ [])) edge
    (subst (λ (edges : List Edge). Contains edges edge) (first_live window now entry (later ++ last ∷ [])) member))

pub delete_takes_all_before : SameIsEqual → DeleteTakesAllBefore
delete_takes_all_before same window now entries last edge = taken_before entries window now last edge same

-- ---- an insert

seen_last : (entries : List Entry) (window : WindowValue) (now : ℕ) (last : Entry) (edge : Edge) → Inserts last.tuple.act edge →
    is_tuple_seen window now last.tuple ≡ true →
    Contains (edges_at window now (entries ++ last ∷ [])) edge
seen_last [] window now last edge is seen =
    subst (λ (edges : List Edge). Contains edges edge) (sym (first_live window now last []))
    (from_found (if is_live window now last [] then inserted_edge last.tuple.act else None) (edges_at window now []) edge
    (act_is_live last.tuple.act window now last.tuple.time [] edge is seen refl))
seen_last (entry ∷ later) window now last edge is seen =
    subst (λ (edges : List Edge). Contains edges edge) (sym (first_live window now entry (later ++ last ∷ [])))
    (from_later (if is_live window now entry (later ++ last ∷ []) then inserted_edge entry.tuple.act else None) (edges_at window now (later ++ last ∷ [])) edge
    (seen_last later window now last edge is seen))

pub last_insert_is_seen : LastInsertIsSeen
last_insert_is_seen window now entries last edge seen = seen_last entries window now last edge seen.0 seen.1
