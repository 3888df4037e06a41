-- The lines of the events that are left, with one event less.
use Rattle.std.proofs.Common.{◌≡◌, ℕ, ◌+◌, ◌<◌, Bool, true, false, List, ◌∷◌, ◌++◌, length}
use Rattle.std.proofs.Common.{get_or, take, drop, cond, ap, sym, ◌∙◌, append_assoc}
use Rattle.std.specs.List.{flat_map}
use Rattle.std.specs.Prelude.{Some, slice_get}
use Rattle.std.proofs.lemmas.Option.{get_or_from_slice_get}
use Rattle.std.proofs.lemmas.List.{drop_more}
use Rattle.rpq_base.specs.declared.data.Event.{Event}
use Rattle.path_witness.specs.Shows.{Shown}
use Rattle.rpq_model.specs.Query.{Query}
use Rattle.rpq_text.specs.Text.{event_line, event_lines, shown_line}

-- the event that was found at a place
pub read_event : (events : List Event) (place : ℕ) (event : Event) →
    slice_get events place ≡ Some event → event ≡ get_or events place event
read_event events place event there =
    sym (get_or_from_slice_get events place event event there)

-- behind an addition the line of the next path is written
pub with_path : (queries : List Query) (events : List Event) (place : ℕ) (event : Event)
    (shown : List Shown) (text : List ℕ) → place < length events →
    event ≡ get_or events place event → event.added ≡ true →
    ((text ++ event_line queries event) ++ flat_map shown_line (take 1 shown))
    ++ event_lines queries (drop (place + 1) events) (drop 1 shown)
    ≡ text ++ event_lines queries (drop place events) shown
with_path queries events place event shown text inside is added =
    let own = event_line queries event in
    let path = flat_map shown_line (take 1 shown) in
    let later = drop (place + 1) events in
    let rest = event_lines queries later (drop 1 shown) in
    append_assoc (text ++ own) path rest
    ∙ (append_assoc text own (path ++ rest)
    ∙ ap (λ (lines : List ℕ). text ++ lines)
    (ap (λ (b : Bool). own ++ cond b (path ++ rest) (event_lines queries later shown)) (sym added)
    ∙ (ap (λ (each : Event). event_lines queries (each ∷ later) shown) is
    ∙ ap (λ (all : List Event). event_lines queries all shown)
    (sym (drop_more events place event inside)))))

-- behind a retraction none
pub without_path : (queries : List Query) (events : List Event) (place : ℕ) (event : Event)
    (shown : List Shown) (text : List ℕ) → place < length events →
    event ≡ get_or events place event → event.added ≡ false →
    (text ++ event_line queries event) ++ event_lines queries (drop (place + 1) events) shown
    ≡ text ++ event_lines queries (drop place events) shown
without_path queries events place event shown text inside is removed =
    let own = event_line queries event in
    let path = flat_map shown_line (take 1 shown) in
    let later = drop (place + 1) events in
    let rest = event_lines queries later shown in
    append_assoc text own rest
    ∙ ap (λ (lines : List ℕ). text ++ lines)
    (ap (λ (b : Bool). own ++ cond b (path ++ event_lines queries later (drop 1 shown)) rest)
    (sym removed)
    ∙ (ap (λ (each : Event). event_lines queries (each ∷ later) shown) is
    ∙ ap (λ (all : List Event). event_lines queries all shown)
    (sym (drop_more events place event inside))))
