-- What some lines ask, and what some items are answered with.
use Rattle.std.specs.Prelude.{◌≡◌, ℕ, List, [], ◌∷◌, codes, None, Some, Ok, Err}
use Rattle.text_items.specs.declared.ends.TextEnd.TheVariants.{Whole, Line}
use Rattle.text_items.specs.Items.{items_with}
use Rattle.rpq_model.specs.Query.{Query}
use Rattle.ask_text.specs.declared.ask.Ask.TheVariants.{Count, Wait}
use Rattle.ask_text.specs.declared.fault.AskKind.TheVariants.{Shape, UnknownQuery}
use Rattle.ask_text.specs.Asks.{fault_at}
use Rattle.live_asks.specs.declared.item.ReaderItem.TheVariants.{Asked, Faulty, Long}
use Rattle.live_asks.specs.Items.{line_asks, asked_items}
use Rattle.live_asks.specs.Answers.{Told, Refused, TooLong, answers_text}

pub record LiveExamples : Type 0 where
  pub blank : (queries : List Query) (number : ℕ) → line_asks queries number (codes " \t") ≡ Ok None
  pub comment : (queries : List Query) (number : ℕ) →
      line_asks queries number (codes " # wait 1") ≡ Ok None
  pub ask : (query : Query) (number : ℕ) → query.name ≡ codes "q" →
      line_asks (query ∷ []) number (codes "count  q") ≡ Ok (Some (Asked (Count 0)))
  pub end : (queries : List Query) (number : ℕ) →
      line_asks queries number (codes "\tend ") ≡ Err number
  pub no_end : (queries : List Query) (number : ℕ) →
      line_asks queries number (codes "end now") ≡ Ok (Some (Faulty (fault_at number Shape)))
  pub session : (queries : List Query) (number : ℕ) →
      line_asks queries number (codes "session") ≡ Ok (Some (Faulty (fault_at number Shape)))
  pub empty : (queries : List Query) → asked_items queries [] ≡ items_with [] Whole
  pub goes_on : (queries : List Query) →
      asked_items queries (codes "wait 2\r\n\nno ask\nwait 3")
      ≡ items_with (Asked (Wait 2) ∷ Faulty (fault_at 3 Shape) ∷ Asked (Wait 3) ∷ []) Whole
  pub left : (queries : List Query) →
      asked_items queries (codes "wait 2\nend\nwait 3\n") ≡ items_with (Asked (Wait 2) ∷ []) (Line 2)
  pub text : answers_text (Told (record { ask = Wait 2; position = 2; text = codes "@2 wait 2\n" })
      ∷ Refused (fault_at 4 UnknownQuery) ∷ TooLong 17 ∷ [])
      ≡ codes "@2 wait 2\nerror line 4: unknown query\nerror line 17: too long\n"
