-- What memory ran out for, and what didn't.
use Rattle.std.proofs.Common.{◌≡◌, Bool, true, false, ◌||◌, List, Option, Some, None, Result, Ok, Err}
use Rattle.std.proofs.Common.{refl, ap, ◌∙◌, inl, inr, ◌⊎◌}
use Rattle.std.specs.Prelude.{is_some}
use Rattle.history_model.specs.declared.line.Why.{Why}
use Rattle.history_model.specs.declared.line.Why.TheVariants.{Write, Memory}
use Rattle.live_asks.specs.declared.ends.ReaderEnd.{ReaderEnd}
use Rattle.stream_tuples.specs.declared.ends.StreamEnd.{StreamEnd}
use Rattle.rpq_run.specs.declared.fault.TextFault.{TextFault}
use Rattle.rpq_run.specs.declared.fault.TextFault.TheVariants.{Write as WriteOfText}
use Rattle.rpq_run.specs.declared.fault.TextFault.TheVariants.{Memory as MemoryForText}
use Rattle.rpq_run.specs.Failed.{is_failed, is_memory, is_write, lacks_memory}
use Rattle.rpq_run.specs.Shortage.{Shortage, has_memory_end, has_short_reader, is_short}
use Rattle.rpq_run.specs.Shortage.{is_short_before}

-- ---- either of two

pub either : (a b : Bool) → (a || b) ≡ true → (a ≡ true) ⊎ (b ≡ true)
either true b is = inl refl
either false b is = inr is

pub neither : (a b : Bool) → (a || b) ≡ false → (a ≡ false) × (b ≡ false)
neither true b is = absurd (cc is)
neither false b is = (refl, is)

pub not_so : (b : Bool) → (b ≡ true → ⊥) → b ≡ false
not_so true never = absurd (never refl)
not_so false never = refl

pub never_both : (b : Bool) → b ≡ false → b ≡ true → ⊥
never_both true is_false is_true = absurd (cc is_false)
never_both false is_false is_true = absurd (cc is_true)

pub grouped : (a b c : Bool) → ((a || b) || c) ≡ (a || (b || c))
grouped true b c = refl
grouped false b c = refl

-- ---- none

-- memory ran out for nothing
pub record NoneShort (ends : List StreamEnd) (asked : List ReaderEnd) (short : Shortage)
    : Type 0 where
  pub before : is_short_before ends short ≡ false
  pub ends_fine : has_memory_end ends ≡ false
  pub engine : short.engine ≡ false
  pub session : short.session ≡ false
  pub replies : short.replies ≡ false
  pub save : short.save ≡ false
  pub readers : has_short_reader asked ≡ false

pub none_short : (ends : List StreamEnd) (asked : List ReaderEnd) (short : Shortage)
    → (is_short ends asked short ≡ true → ⊥) → NoneShort ends asked short
none_short ends asked short never =
    let run = neither (is_short_before ends short || short.save) (has_short_reader asked)
    (not_so (is_short ends asked short) never) in
    let all = neither (is_short_before ends short) short.save run.0 in
    let before = neither (has_memory_end ends) (short.engine || (short.session || short.replies)) all.0 in
    let others = neither short.engine (short.session || short.replies) before.1 in
    let texts = neither short.session short.replies others.1 in
    record {
      before = all.0;
      ends_fine = before.0;
      engine = others.0;
      session = texts.0;
      replies = texts.1;
      save = all.1;
      readers = run.1;
    }

-- ---- some

or_true : (b : Bool) → (b || true) ≡ true
or_true true = refl
or_true false = refl

-- memory ran out for the run where it did for the engine
pub short_by_engine : (ends : List StreamEnd) (asked : List ReaderEnd) (short : Shortage)
    → short.engine ≡ true → is_short ends asked short ≡ true
short_by_engine ends asked short is =
    ap (λ (b : Bool). (b || short.save) || has_short_reader asked)
    (ap (λ (b : Bool). has_memory_end ends || (b || (short.session || short.replies))) is
    ∙ or_true (has_memory_end ends))

-- and where it did for a reader
pub short_by_reader : (ends : List StreamEnd) (asked : List ReaderEnd) (short : Shortage)
    → has_short_reader asked ≡ true → is_short ends asked short ≡ true
short_by_reader ends asked short is =
    ap (λ (b : Bool). (is_short_before ends short || short.save) || b) is
    ∙ or_true (is_short_before ends short || short.save)

-- ---- a text, and the window

-- a write failed, or memory ran out, but not both
pub one_fault : (result : Result (Unit {0}) TextFault) → is_failed result ≡ true
    → lacks_memory result ≡ true → ⊥
one_fault (Ok done) failed lacks = absurd (cc failed)
one_fault (Err WriteOfText) failed lacks = absurd (cc lacks)
one_fault (Err MemoryForText) failed lacks = absurd (cc failed)

-- no window is saved where a write of the events failed, or where memory ran out before
pub left_out_by : (why : Option Why) (session ends replies : Bool)
    → (is_some why || (session || (ends || replies)))
    ≡ (is_write why || (ends || (is_memory why || (session || replies))))
left_out_by None true true replies = refl
left_out_by None true false replies = refl
left_out_by None false true replies = refl
left_out_by None false false replies = refl
left_out_by (Some Write) session ends replies = refl
left_out_by (Some Memory) session true replies = refl
left_out_by (Some Memory) session false replies = refl
