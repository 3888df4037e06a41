-- An engine that is fed entries from nothing, front by front.
use Rattle.std.proofs.Common.{◌≡◌, ◌+◌, ◌≤◌, ◌^◌, List, [], ◌++◌, length}
use Rattle.std.proofs.Common.{refl, sym, ap, subst, ◌∙◌, arith}
use Rattle.std.proofs.Common.{append_assoc, append-nil, length-append}
use Rattle.std.proofs.lemmas.List.{nil_from_length}
use Rattle.rpq_base.specs.declared.data.Entry.{Entry}
use Rattle.rpq_base.specs.declared.data.Event.{Event}
use Rattle.query_file.specs.Compiled.{CompiledValue}
use Rattle.path_engine.specs.Engine.{EngineValue, StandsFor}
use Rattle.path_engine.specs.Feeding.{FeedsFront}

-- an engine of these queries that was fed all of the entries but the rest
pub record IsFed (queries : List CompiledValue) (entries : List Entry) (engine : EngineValue)
    (rest : List Entry) : Type 0 where
  pub queries_kept : engine.queries ≡ queries
  pub done : List Entry
  pub parts : done ++ rest ≡ entries
  pub stands : StandsFor engine done
  pub counted : engine.position ≡ length done

-- before the first front
pub none_fed : (entries : List Entry) (engine : EngineValue) (rest : List Entry) →
    StandsFor engine [] → engine.position ≡ 0 → rest ≡ entries →
    IsFed engine.queries entries engine rest
none_fed entries engine rest stands starts is = record {
  queries_kept = refl;
  done = [];
  parts = is;
  stands = stands;
  counted = starts;
}

-- the next front isn't too long
pub front_fits : (queries : List CompiledValue) (entries : List Entry) (engine : EngineValue)
    (rest front later : List Entry) → IsFed queries entries engine rest → rest ≡ front ++ later →
    length entries ≤ 2 ^ 30 → engine.position + length front ≤ 2 ^ 30
front_fits queries entries engine rest front later is begins short =
    omega (
      arith,
      is.counted,
      ap (λ (all : List Entry). length all) is.parts,
      length-append is.done rest,
      ap (λ (all : List Entry). length all) begins,
      length-append front later,
      short,
    )

-- after one front more
pub more_fed : (queries : List CompiledValue) (entries : List Entry) (old new : EngineValue)
    (rest front later : List Entry) (answers : List (List Event)) →
    IsFed queries entries old rest → rest ≡ front ++ later → FeedsFront old front new answers →
    new.queries ≡ old.queries → IsFed queries entries new later
more_fed queries entries old new rest front later answers is begins feeds same = record {
  queries_kept = same ∙ is.queries_kept;
  done = is.done ++ front;
  parts = append_assoc is.done front later
      ∙ (ap (λ (all : List Entry). is.done ++ all) (sym begins) ∙ is.parts);
  stands = feeds.stands is.done is.stands;
  counted = omega (arith, feeds.position, is.counted, length-append is.done front);
}

-- after the last front
all_done : (queries : List CompiledValue) (entries : List Entry) (engine : EngineValue)
    (rest : List Entry) (is : IsFed queries entries engine rest) → length rest ≡ 0 →
    is.done ≡ entries
all_done queries entries engine rest is none =
    let nothing : rest ≡ [] = nil_from_length rest none in
    sym (append-nil is.done)
    ∙ (ap (λ (all : List Entry). is.done ++ all) (sym {A = List Entry} nothing) ∙ is.parts)

pub all_fed : (queries : List CompiledValue) (entries : List Entry) (engine : EngineValue)
    (rest : List Entry) → IsFed queries entries engine rest → length rest ≡ 0 →
    StandsFor engine entries
all_fed queries entries engine rest is none =
    subst (StandsFor engine) (all_done queries entries engine rest is none) is.stands

-- as many as there are
pub all_counted : (queries : List CompiledValue) (entries : List Entry) (engine : EngineValue)
    (rest : List Entry) → IsFed queries entries engine rest → length rest ≡ 0 →
    engine.position ≡ length entries
all_counted queries entries engine rest is none =
    is.counted
    ∙ ap (λ (all : List Entry). length all) (all_done queries entries engine rest is none)
