-- A journal some of whose entries were given up.
use Rattle.std.proofs.Common.{◌≡◌, ℕ, List, Option, length, refl, sym, ap, subst, ◌∙◌}
use Rattle.rpq_base.specs.declared.data.Entry.{Entry}
use Rattle.kept_list.specs.KeptList.{KeptListValue, Forgets as ForgetsItems}
use Rattle.history_model.specs.declared.line.Why.{Why}
use Rattle.history_model.specs.declared.line.Call.{Call}
use Rattle.history_model.specs.declared.line.Line.{Line}
use Rattle.history_model.specs.Joined.{lines_of}
use Rattle.history_model.specs.Lines.{entries}
use Rattle.stream_history.specs.Journal.{JournalValue, KeepsAll, Forgets}
use Rattle.stream_history.specs.Kept.{journal_of, IsKept}

-- what a journal keeps, and what is said of it, after it gave up the first of its entries
pub record GivesUp (count : ℕ) (journal : JournalValue) (calls : List Call) (left : KeptListValue Entry)
    (open_streams : List ℕ) (reason : Option Why) : Type 0 where
  pub kept : IsKept (journal_of journal.terms calls left.items left.base journal.view) calls
      left.items open_streams reason
  pub forgets : Forgets count journal
      (journal_of journal.terms calls left.items left.base journal.view)

pub gives_up : (count : ℕ) (journal : JournalValue) (calls : List Call)
    (had left : KeptListValue Entry) (open_streams : List ℕ) (reason : Option Why) →
    IsKept journal calls had.items open_streams reason → journal.base ≡ had.base →
    (KeepsAll journal.terms → ⊥) → ForgetsItems Entry count had left →
    GivesUp count journal calls left open_streams reason
gives_up count journal calls had left open_streams reason kept base_is may forgets =
    let later : JournalValue = record journal { base = left.base } in
    let same : journal_of journal.terms calls left.items left.base journal.view ≡ later =
    ap (λ (lines : List Line). record {
      terms = journal.terms;
      lines = lines;
      base = left.base;
      view = journal.view;
    }) (ap (lines_of calls) forgets.items ∙ sym kept.lines) in
    let count_of : length had.items ≡ length (entries journal.lines) =
    sym (ap length kept.appended) in
    let more : IsKept later calls left.items open_streams reason = record {
      sound = record {
        terms = kept.sound.terms;
        legal = kept.sound.legal;
        plain = kept.sound.plain;
        position = kept.sound.position;
        view = kept.sound.view;
        whole = λ keeps. absurd (may keeps);
      };
      lines = kept.lines ∙ ap (lines_of calls) (sym forgets.items);
      appended = kept.appended ∙ sym forgets.items;
      going = kept.going;
      shut = kept.shut;
    } in
    let gone : Forgets count journal later = record {
      same = refl;
      rises = rw base_is forgets.rises;
      bounded = rw base_is forgets.bounded;
      few = rw (sym count_of) forgets.few;
    } in
    record {
      kept = subst (λ (each : JournalValue). IsKept each calls left.items open_streams reason)
          (sym same) more;
      forgets = subst (Forgets count journal) (sym same) gone;
    }
