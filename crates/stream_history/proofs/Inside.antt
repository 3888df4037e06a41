-- A journal by its fields.
use Rattle.stream_history.specs.declared.journal.Journal.TheInside.{Inside}
use Rattle.stream_history.specs.Journal.{JournalValue}
use Rattle.stream_history.specs.Kept.{journal_of}

-- the value of these fields
abbrev pub value : Inside → JournalValue
value fields =
    journal_of (record {
      queries = fields.queries.value.items;
      streams = fields.streams;
      cap = fields.cap;
    }) fields.calls fields.entries.items fields.entries.base fields.view.value
