-- The blocks of a history, with one more.
use Rattle.std.proofs.Common.{◌≡◌, ℕ, ◌<◌, List, [], ◌∷◌, ◌++◌, Some, length, map, sym, ap, subst, ◌∙◌, ⊎_elim, arith, length-append}
use Rattle.std.specs.Prelude.{slice_get}
use Rattle.std.proofs.lemmas.Bool.{cases_lt}
use Rattle.std.proofs.lemmas.List.{map-append, length-map, length_push, get_or_append_left, get_or_push, take-append-le, take_at}
use Rattle.std.proofs.lemmas.Option.{slice_get-get_or, slice_get_within}
use Rattle.rpq_base.specs.declared.data.Entry.{Entry}
use Rattle.rpq_model.specs.Query.{Query}
use Rattle.rpq_model.specs.QueryEvents.{AreEntryEvents, AreAllEvents}
use Rattle.rpq_model.specs.EventLaws.{EventsGrow}
use Rattle.history_model.specs.World.{Block}
use Rattle.history_model.specs.Steps.{IsBlockAt}
use Rattle.history_model.specs.Safe.{AreBlocks}

-- an element in front of one more
got_front : {X : Type 0} (xs ys : List X) (place : ℕ) (x : X) → place < length xs → slice_get (xs ++ ys) place ≡ slice_get xs place
got_front xs ys place x below =
    slice_get-get_or (xs ++ ys) place x (omega (arith, below, length-append xs ys))
    ∙ (ap (λ each. Some each) (get_or_append_left xs ys x place below) ∙ sym (slice_get-get_or xs place x below))

-- and that one
got_last : {X : Type 0} (xs : List X) (x : X) (place : ℕ) → length xs ≡ place → slice_get (xs ++ x ∷ []) place ≡ Some x
got_last xs x place is =
    slice_get-get_or (xs ++ x ∷ []) place x (omega (arith, is, length_push xs x)) ∙ ap (λ each. Some each) (get_or_push xs x x place is)

-- a block of a history is one of a longer history
block_stays : (queries : List Query) (history : List Entry) (entry : Entry) (place : ℕ) (block : Block) → IsBlockAt queries history place block →
    IsBlockAt queries (history ++ entry ∷ []) place block
block_stays queries history entry place block is =
    let below = slice_get_within history place block.entry is.entry in record {
      entry = got_front history (entry ∷ []) place block.entry below ∙ is.entry;
      events = subst (λ (before : List Entry). AreEntryEvents queries before block.entry block.events)
          (sym (take-append-le place history (entry ∷ []) (omega (arith, below)))) is.events;
    }

-- the block of the last entry
last_block : (queries : List Query) (history : List Entry) (block : Block) (place : ℕ) → length history ≡ place →
    AreEntryEvents queries history block.entry block.events → IsBlockAt queries (history ++ block.entry ∷ []) place block
last_block queries history block place is brings = record {
  entry = got_last history block.entry place is;
  events = subst (λ (before : List Entry). AreEntryEvents queries before block.entry block.events)
      (sym (take_at history (block.entry ∷ []) place is)) brings;
}

same_some : {X : Type 0} (x y : X) → Some x ≡ Some y → x ≡ y
same_some x y is = cc

as_many : (queries : List Query) (history : List Entry) (blocks : List Block) → AreBlocks queries history blocks → length blocks ≡ length history
as_many queries history blocks are = sym (length-map blocks (λ (block : Block). block.entry)) ∙ ap length are.heads

each_block : (queries : List Query) (history : List Entry) (blocks : List Block) (block : Block) → AreBlocks queries history blocks →
    AreEntryEvents queries history block.entry block.events →
    (place : ℕ) (one : Block) → slice_get (blocks ++ block ∷ []) place ≡ Some one → IsBlockAt queries (history ++ block.entry ∷ []) place one
each_block queries history blocks block are brings place one there = ⊎_elim
    (λ below. block_stays queries history block.entry place one
    (are.each place one (sym (got_front blocks (block ∷ []) place one below) ∙ there)))
    (λ past.
    let within = slice_get_within (blocks ++ block ∷ []) place one there in
    let is : length blocks ≡ place = omega (arith, past, within, length_push blocks block) in
    let same : block ≡ one = same_some block one (sym (got_last blocks block place is) ∙ there) in
    subst (IsBlockAt queries (history ++ block.entry ∷ []) place) same
    (last_block queries history block place (sym (as_many queries history blocks are) ∙ is) brings))
    (cases_lt place (length blocks))

pub push_block : EventsGrow → (queries : List Query) (history : List Entry) (blocks : List Block) (block : Block) → AreBlocks queries history blocks →
    AreEntryEvents queries history block.entry block.events → AreBlocks queries (history ++ block.entry ∷ []) (blocks ++ block ∷ [])
push_block grow queries history blocks block are brings = record {
  heads = map-append (λ (each : Block). each.entry) blocks (block ∷ []) ∙ ap (λ (front : List Entry). front ++ block.entry ∷ []) are.heads;
  each = each_block queries history blocks block are brings;
  all = subst (AreAllEvents queries (history ++ block.entry ∷ [])) (sym (map-append (λ (each : Block). each.events) blocks (block ∷ [])))
      (grow queries [] history block.entry (map (λ (each : Block). each.events) blocks) block.events are.all brings);
}
