-- What the workers of the streams did is so of the whole history.
use Rattle.std.proofs.Common.{◌≡◌, ℕ, zero, suc, ◌+◌, List, [], ◌∷◌, length, map, refl, sym, ap}
use Rattle.std.proofs.Common.{subst, ◌∙◌, arith, Option, Some, None, slice_get}
use Rattle.std.specs.Prelude.{IfSome, option_map}
use Rattle.std.specs.Option.{is_some}
use Rattle.std.specs.List.{All}
use Rattle.std.proofs.lemmas.List.{get_or-map, length-map}
use Rattle.std.proofs.lemmas.List.Elements.{All-nil, All-cons, All-head, All-tail, All-map}
use Rattle.std.proofs.lemmas.Option.{get_or_from_slice_get, slice_get-map, slice_get_within}
use Rattle.rpq_base.specs.declared.data.Entry.{Entry}
use Rattle.rpq_base.specs.declared.data.Tuple.{Tuple}
use Rattle.history_model.specs.Legal.{IsLegal}
use Rattle.history_model.specs.LegalLaws.{LegalIsSound}
use Rattle.history_model.specs.Lines.{entries}
use Rattle.history_model.specs.World.{Terms}
use Rattle.history_model.specs.declared.line.Line.{Line}
use Rattle.stream_history.specs.History.{HistoryValue, author}
use Rattle.stream_threads.proofs.Numbering.{Each, numbered_length}
use Rattle.stream_threads.proofs.Seen.{entries_grow}
use Rattle.stream_threads.specs.Numbered.{AllNumbered}
use Rattle.stream_threads.specs.Started.{HaveStreamed, new_pass}
use Rattle.stream_threads.specs.Streams.{HasStreamed, tuples_of}
use Rattle.stream_threads.specs.declared.stream_input.StreamInput.{StreamInput}
use Rattle.stream_threads.specs.declared.stream_worker.StreamResult.{StreamResult}
use Rattle.rpq_io.specs.Counts.{CountsFault}
use Rattle.stream_tuples.specs.declared.ends.StreamEnd.{StreamEnd}
use Rattle.stream_tuples.specs.declared.ends.StreamEnd.TheVariants.{Faults}
use Rattle.stream_tuples.specs.declared.faults.FaultPolicy.{FaultPolicy}
use Rattle.stream_tuples.specs.History.{AreReportedOf, AreStreamsOf, AreTuplesOfEnd, IsReportedOf}
use Rattle.stream_tuples.specs.History.{IsStreamOf, ReportsFaults, own_tuples, policy_of_sink}
use Rattle.stream_tuples.specs.Limits.{byte_limit_of}
use Rattle.turn_lock.specs.Lines.{own}
use Rattle.turn_lock.specs.Passes.{Knows}

-- ---- lists, place by place

-- what stands at a place of a list is mapped from what stands there
from_map : {X Y : Type 0} (f : X → Y) (xs : List X) (place : ℕ) (y : Y) →
    slice_get (map f xs) place ≡ Some y → (x : X) × (slice_get xs place ≡ Some x) × (f x ≡ y)
from_map f [] place y is = absurd cc
from_map f (x ∷ xs) zero y is = (x, refl, cc)
from_map f (x ∷ xs) (suc place) y is = from_map f xs place y is

-- and is mapped so
at_map : {X Y : Type 0} (f : X → Y) (xs : List X) (place : ℕ) (x : X) (y : Y) →
    slice_get xs place ≡ Some x → slice_get (map f xs) place ≡ Some y → f x ≡ y
at_map f xs place x y there is =
    let same : Some (f x) ≡ Some y =
    sym (slice_get-map f xs place ∙ ap (option_map f) there) ∙ is in
    cc same

-- what is so of all is so of what stands at a place
all_at : {X : Type 0} (P : X → Type 0) (xs : List X) (place : ℕ) (x : X) → All P xs →
    slice_get xs place ≡ Some x → P x
all_at P xs place x all there =
    subst P (get_or_from_slice_get xs place x x there)
    (all place x (slice_get_within xs place x there))

-- what is so of all that was mapped is so of what it was mapped from
pub all_from_map : {X Y : Type 0} (P : Y → Type 0) (f : X → Y) (xs : List X) → All P (map f xs) →
    All (λ (x : X). P (f x)) xs
all_from_map P f xs all place x below =
    subst P (get_or-map f xs place x (f x) below)
    (all place (f x) (omega (arith, length-map xs f, below)))

-- the elements at a place stand side by side
side_by_side : {X Y : Type 0} (R : ℕ → X → Y → Type 0) (from : ℕ) (xs : List X) (ys : List Y)
    (place : ℕ) (x : X) (y : Y) → AllNumbered R from xs ys → slice_get xs place ≡ Some x →
    slice_get ys place ≡ Some y → R (place + from) x y
side_by_side R from [] ys place x y all there is = absurd cc
side_by_side R from (x ∷ xs) [] place other y all there is = absurd all
side_by_side {X} {Y} R from (x ∷ xs) (y ∷ ys) zero other last all there is =
    let left : x ≡ other = cc in
    let right : y ≡ last = cc in
    let here : from ≡ 0 + from = omega arith in
    subst (λ (number : ℕ). R number other last) here
    (subst (λ (one : X). R from one last) left (subst (R from x) right all.0))
side_by_side R from (x ∷ xs) (y ∷ ys) (suc place) other last all there is =
    subst (λ (number : ℕ). R number other last) (omega arith)
    (side_by_side R (from + 1) xs ys place other last all.1 there is)

-- ---- sinks of faulty lines

-- where both or none are there, a faulty line is dealt with in one way
same_policy : {K : Type 0} (before after : Option K) → is_some after ≡ is_some before →
    policy_of_sink after ≡ policy_of_sink before
same_policy None None same = refl
same_policy None (Some after) same = absurd cc
same_policy (Some before) None same = absurd cc
same_policy (Some before) (Some after) same = refl

-- ---- passes and streams

module _ (law : LegalIsSound) (terms : Terms) (lines : List Line)
    (legal : IsLegal terms.streams terms.cap lines) where
  pub own_mine : (number : ℕ) (pass : Each) → Knows author terms lines pass →
      pass.number ≡ number → own author number lines ≡ pass.mine
  own_mine number pass knows is =
      subst (λ (n : ℕ). own author n lines ≡ pass.mine) is knows.mine_is

  own_are : (number : ℕ) (pass : Each) → Knows author terms lines pass → pass.number ≡ number →
      tuples_of pass.mine ≡ own_tuples number (entries lines)
  own_are number pass knows is =
      let sound = law terms.streams terms.cap lines legal in
      sym (ap tuples_of (own_mine number pass knows is))
      ∙ ap (map (λ (entry : Entry). entry.tuple)) (sound.own_entries number)

  module _ {S K : Type 0} (left : S → Option (List ℕ)) (faults : S → ℕ)
      (written : K → Option (List ℕ)) (failures : K → ℕ) (history : HistoryValue)
      (same : history.terms ≡ terms) where
    abbrev Did : ℕ → StreamInput S K → StreamResult S K → Type 0
    Did number input done = HasStreamed left faults written failures history input.reader.source
        input.faults (new_pass history number) done.source done.faults done.pass done.end

    stream_of : (number : ℕ) (input : StreamInput S K) (done : StreamResult S K) →
        Did number input done → Knows author terms lines done.pass →
        IsStreamOf (policy_of_sink input.faults) left faults number terms.cap
        (left input.reader.source) done.source (entries lines) done.end
    stream_of number input done did knew = record {
      tied = subst (λ (tuples : List Tuple). IfSome (left input.reader.source) (λ text.
          AreTuplesOfEnd (policy_of_sink input.faults) (byte_limit_of terms.cap) text
          (left done.source) tuples done.end)) (own_are number done.pass knew did.number)
          (subst (λ (t : Terms). IfSome (left input.reader.source) (λ text.
          AreTuplesOfEnd (policy_of_sink input.faults) (byte_limit_of t.cap) text
          (left done.source) (tuples_of done.pass.mine) done.end)) same did.tied);
      full = λ is. omega (
        arith,
        legal.capped,
        entries_grow lines done.pass.seen knew.seen_begins,
        did.full is,
        ap (λ (t : Terms). t.cap) same,
      );
      read = did.read;
      kind = did.kind;
    }

    reported_of : (number : ℕ) (input : StreamInput S K) (done : StreamResult S K) →
        Did number input done → Knows author terms lines done.pass → (sink : K) →
        done.faults ≡ Some sink →
        IsReportedOf left written failures number terms.cap (left input.reader.source) done.source
        sink (entries lines) done.end
    reported_of number input done did knew sink is =
        let told = subst (λ (each : Option K). IfSome each (λ (k : K).
        IfSome (left input.reader.source) (λ text. IfSome (written k) (λ bytes.
        ReportsFaults (byte_limit_of history.terms.cap) text (left done.source)
        (tuples_of done.pass.mine) bytes done.end)))) is did.reported in
        record {
          tied = subst (λ (tuples : List Tuple). IfSome (left input.reader.source) (λ text.
              IfSome (written sink) (λ bytes. ReportsFaults (byte_limit_of terms.cap) text
              (left done.source) tuples bytes done.end)))
              (own_are number done.pass knew did.number)
              (subst (λ (t : Terms). IfSome (left input.reader.source) (λ text.
              IfSome (written sink) (λ bytes. ReportsFaults (byte_limit_of t.cap) text
              (left done.source) (tuples_of done.pass.mine) bytes done.end))) same told);
          write = subst (λ (each : Option K). IfSome each (λ (k : K).
              CountsFault (done.end ≡ Faults) 0 (failures k))) is did.write;
        }

    -- the sinks that came back are there where they were given
    all_there : (policy : FaultPolicy) (from : ℕ) (inputs : List (StreamInput S K))
        (streamed : List (StreamResult S K)) →
        All (λ (input : StreamInput S K). policy_of_sink input.faults ≡ policy) inputs →
        HaveStreamed left faults written failures history from inputs streamed →
        All (λ (d : StreamResult S K). policy_of_sink d.faults ≡ policy) streamed
    all_there policy from [] [] alike did =
        All-nil (λ (d : StreamResult S K). policy_of_sink d.faults ≡ policy)
    all_there policy from [] (d ∷ ds) alike did = absurd did
    all_there policy from (x ∷ xs) [] alike did = absurd did
    all_there policy from (x ∷ xs) (d ∷ ds) alike did =
        let Alike = λ (input : StreamInput S K). policy_of_sink input.faults ≡ policy in
        All-cons (λ (each : StreamResult S K). policy_of_sink each.faults ≡ policy) d ds
        (same_policy x.faults d.faults did.0.there ∙ All-head Alike x xs alike)
        (all_there policy (from + 1) xs ds (All-tail Alike x xs alike) did.1)

    module _ (policy : FaultPolicy) (inputs : List (StreamInput S K))
        (alike : All (λ (input : StreamInput S K). policy_of_sink input.faults ≡ policy) inputs)
        (streamed : List (StreamResult S K))
        (did : HaveStreamed left faults written failures history 1 inputs streamed)
        (knew : All (Knows author terms lines) (map (λ (d : StreamResult S K). d.pass) streamed))
      where
        abbrev files : List (Option (List ℕ))
        files = map (λ (input : StreamInput S K). left input.reader.source) inputs

        abbrev sources : List S
        sources = map (λ (d : StreamResult S K). d.source) streamed

        abbrev sinks : List (Option K)
        sinks = map (λ (d : StreamResult S K). d.faults) streamed

        abbrev ends : List StreamEnd
        ends = map (λ (d : StreamResult S K). d.end) streamed

        many : length streamed ≡ length files
        many = sym (numbered_length Did 1 inputs streamed did)
            ∙ sym (length-map inputs (λ (input : StreamInput S K). left input.reader.source))

        -- the worker at a place did so, and knew of the history
        did_at : (place : ℕ) (input : StreamInput S K) (done : StreamResult S K) →
            slice_get inputs place ≡ Some input → slice_get streamed place ≡ Some done →
            Did (place + 1) input done × Knows author terms lines done.pass
        did_at place input done given gave = (
          side_by_side Did 1 inputs streamed place input done did given gave,
          all_at (λ (d : StreamResult S K). Knows author terms lines d.pass) streamed place done
              (all_from_map (Knows author terms lines) (λ (d : StreamResult S K). d.pass) streamed
              knew) gave,
        )

        stream_at : (place : ℕ) (file : Option (List ℕ)) (source : S) (end : StreamEnd) →
            slice_get files place ≡ Some file → slice_get sources place ≡ Some source →
            slice_get ends place ≡ Some end →
            IsStreamOf policy left faults (place + 1) terms.cap file source (entries lines) end
        stream_at place file source end f s e =
            let given = from_map (λ (input : StreamInput S K). left input.reader.source) inputs
            place file f in
            let gave = from_map (λ (d : StreamResult S K). d.source) streamed place source s in
            let input = given.0 in
            let done = gave.0 in
            let end_is = at_map (λ (d : StreamResult S K). d.end) streamed place done end gave.1 e
            in
            let both = did_at place input done given.1 gave.1 in
            let is = stream_of (place + 1) input done both.0 both.1 in
            subst (λ (each : FaultPolicy). IsStreamOf each left faults (place + 1) terms.cap file
            source (entries lines) end)
            (all_at (λ (each : StreamInput S K). policy_of_sink each.faults ≡ policy) inputs place
            input alike given.1)
            (subst (λ (text : Option (List ℕ)). IsStreamOf (policy_of_sink input.faults) left faults
            (place + 1) terms.cap text source (entries lines) end) given.2
            (subst (λ (src : S). IsStreamOf (policy_of_sink input.faults) left faults (place + 1)
            terms.cap (left input.reader.source) src (entries lines) end) gave.2
            (subst (λ (last : StreamEnd). IsStreamOf (policy_of_sink input.faults) left faults
            (place + 1) terms.cap (left input.reader.source) done.source (entries lines) last)
            end_is is)))

        reported_at : (place : ℕ) (file : Option (List ℕ)) (source : S) (sink : K)
            (end : StreamEnd) → slice_get files place ≡ Some file →
            slice_get sources place ≡ Some source → slice_get sinks place ≡ Some (Some sink) →
            slice_get ends place ≡ Some end →
            IsReportedOf left written failures (place + 1) terms.cap file source sink
            (entries lines) end
        reported_at place file source sink end f s k e =
            let given = from_map (λ (input : StreamInput S K). left input.reader.source) inputs
            place file f in
            let gave = from_map (λ (d : StreamResult S K). d.source) streamed place source s in
            let input = given.0 in
            let done = gave.0 in
            let end_is = at_map (λ (d : StreamResult S K). d.end) streamed place done end gave.1 e
            in
            let sink_is = at_map (λ (d : StreamResult S K). d.faults) streamed place done
            (Some sink) gave.1 k in
            let both = did_at place input done given.1 gave.1 in
            let is = reported_of (place + 1) input done both.0 both.1 sink sink_is in
            subst (λ (text : Option (List ℕ)). IsReportedOf left written failures (place + 1)
            terms.cap text source sink (entries lines) end) given.2
            (subst (λ (src : S). IsReportedOf left written failures (place + 1) terms.cap
            (left input.reader.source) src sink (entries lines) end) gave.2
            (subst (λ (last : StreamEnd). IsReportedOf left written failures (place + 1) terms.cap
            (left input.reader.source) done.source sink (entries lines) last) end_is is))

        -- each stream ended so
        pub streams_are : AreStreamsOf policy left faults terms.cap files sources (entries lines)
            ends
        streams_are = record {
          as_many_sources = length-map streamed (λ (d : StreamResult S K). d.source) ∙ many;
          as_many_ends = length-map streamed (λ (d : StreamResult S K). d.end) ∙ many;
          each = stream_at;
        }

        -- and its faulty lines were told so
        pub reports_are : AreReportedOf policy left written failures terms.cap files sources sinks
            (entries lines) ends
        reports_are = record {
          as_many = length-map streamed (λ (d : StreamResult S K). d.faults) ∙ many;
          there = All-map (λ (sink : Option K). policy_of_sink sink ≡ policy)
              (λ (d : StreamResult S K). d.faults) streamed
              (all_there policy 1 inputs streamed alike did);
          each = reported_at;
        }
