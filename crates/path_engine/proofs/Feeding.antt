-- What an engine is after an entry, and what it shows.
use Rattle.std.proofs.Common.{◌≡◌, ℕ, ◌<◌, Bool, true, false, List, [], ◌∷◌, length, map, sym, ap, subst, refl, ◌∙◌, arith, Vec, Global}
use Rattle.std.specs.Prelude.{◌↔◌, Result, Ok, Err}
use Rattle.std.specs.List.{All, AllZip}
use Rattle.std.proofs.lemmas.List.{length-map}
use Rattle.std.proofs.lemmas.List.Elements.{All-cons, All-head, All-nil}
use Rattle.rpq_base.specs.declared.data.Entry.{Entry}
use Rattle.rpq_base.specs.declared.data.Event.{Event}
use Rattle.rpq_model.specs.Query.{Query, path_query}
use Rattle.rpq_model.specs.QueryEvents.{AreEventsUnder}
use Rattle.rpq_model.specs.Window.{clock}
use Rattle.rpq_model.proofs.EachEntry.{each_as_many}
use Rattle.delta_forest.specs.Forest.{ForestValue}
use Rattle.answer_rows.specs.Answers.{Answer}
use Rattle.answer_view.specs.View.{AreRowsOf, ViewValue}
use Rattle.query_file.specs.Compiled.{CompiledValue}
use Rattle.query_index.specs.Keeping.{KeepsForest}
use Rattle.path_engine.specs.Engine.{EngineValue, StandsFor, definitions, forests}
use Rattle.path_engine.specs.Feeding.{Feeds, FeedsFront}
use Rattle.path_engine.specs.Keeping.{BringsNoName}
use Rattle.path_engine.specs.Views.{IsViewAt}
use Rattle.path_engine.specs.declared.fault.FeedFault.{FeedFault}
use Rattle.path_engine.specs.declared.fault.FeedFault.TheVariants.{Spent}
use Rattle.path_engine.proofs.Each.{AreIndexes, zip_map}

-- an engine that answered wasn't spent
pub unspent_by : {T : Type 0} (result : Result T FeedFault) (value : T) (spent : Bool) →
    result ≡ Ok value → (result ≡ Err Spent) ↔ (spent ≡ true) → spent ≡ false
unspent_by result value true is both =
    let never : Ok value ≡ Err Spent = sym is ∙ both.1 refl in absurd cc
unspent_by result value false is both = refl

-- a front of one entry has one list of events
pub one_list : (old new : EngineValue) (entry : Entry) (lists : List (Vec Event Global))
    (history : List Entry) → StandsFor old history →
    FeedsFront old (entry ∷ []) new (map (λ (own : Vec Event Global). own.items) lists) →
    length lists ≡ 1
one_list old new entry lists history stands feeds =
    let shown = map (λ (own : Vec Event Global). own.items) lists in
    sym (length-map lists (λ (own : Vec Event Global). own.items))
    ∙ each_as_many (entry ∷ []) history (AreEventsUnder 0 (definitions old)) shown
    (feeds.events history stands)

-- a front of one entry feeds this entry
pub fed_one : (old new : EngineValue) (entry : Entry) (lists : List (List Event))
    (own : List Event) (known : List Entry) → StandsFor old known → lists ≡ own ∷ [] →
    FeedsFront old (entry ∷ []) new lists → Feeds old entry new own
fed_one old new entry lists own known stands is feeds =
    let front : FeedsFront old (entry ∷ []) new (own ∷ []) =
    subst (FeedsFront old (entry ∷ []) new) is feeds in
    let keeps = front.keeps known stands in
    record {
      stands = λ history was. front.stands history was;
      events = λ history was. (front.events history was).0;
      keeps = record {
        names = front.known;
        forests = subst (AllZip (KeepsForest entry.tuple.act new.names) (forests old))
            (sym {A = List ForestValue} keeps.3) keeps.1;
      };
      names = λ none. front.names
          (All-cons (λ (each : Entry). BringsNoName each.tuple.act old.queries) entry [] none
          (All-nil (λ (each : Entry). BringsNoName each.tuple.act old.queries)));
      numbers = All-head (λ (answer : List Event).
          All (λ (event : Event). event.query < length old.queries) answer) own [] front.numbers;
      position = front.position;
    }

-- the clock and the rows of each query make the view
pub view_of : (engine : EngineValue) (history : List Entry) (position now : ℕ)
    (rows : List (List Answer)) (view : ViewValue) →
    view ≡ record { position = position; clock = now; rows = rows } → now ≡ clock history →
    AllZip (λ (query : CompiledValue) (own : List Answer).
    AreRowsOf (path_query query.def) history own) engine.queries rows →
    IsViewAt position (definitions engine) history view
view_of engine history position now rows view is time all =
    subst (IsViewAt position (definitions engine) history) (sym is) (record {
      says = refl;
      clock = time;
      rows = zip_map (λ (query : CompiledValue). query.def)
          (λ (query : Query) (own : List Answer). AreRowsOf (path_query query) history own)
          engine.queries rows all;
    })

-- an engine that was made
pub starts : (engine : EngineValue) → engine.position ≡ 0 → engine.spent ≡ false →
    engine.names ≡ [] → AreIndexes [] 0 [] engine.queries engine.indexes → StandsFor engine []
starts engine position unspent names indexes = record {
  unspent = unspent;
  few_names = omega (arith, ap (λ (all : List (List ℕ)). length all) names);
  indexes = subst (λ (fed : ℕ). AreIndexes [] fed engine.names engine.queries engine.indexes)
      (sym position)
      (subst (λ (all : List (List ℕ)). AreIndexes [] 0 all engine.queries engine.indexes)
      (sym {A = List (List ℕ)} names) indexes);
}
