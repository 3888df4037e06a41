-- Asks beside a run, and the same asks in a session.
use Rattle.std.proofs.Common.{◌≡◌, ◌≢◌, ℕ, ◌+◌, ◌<◌, ◌≤◌, Bool, true, false, not, List, [], ◌∷◌}
use Rattle.std.proofs.Common.{◌++◌, length, map, take, nat_le, Option, Some, None, Result, Ok, Err}
use Rattle.std.proofs.Common.{refl, sym, ap, subst, ◌∙◌, arith, inl, inr, append-nil, append_assoc}
use Rattle.std.proofs.Common.{length-append}
use Rattle.std.specs.Prelude.{codes, bytes_eq, ◌||◌, if◌then◌else◌}
use Rattle.std.specs.Result.{result_map_both}
use Rattle.std.proofs.lemmas.Bool.{cases_lt, lt-leb}
use Rattle.std.proofs.lemmas.Slice.Eq.{bytes_eq-Decides}
use Rattle.text_parts.specs.Lines.{raw_lines, without_return, lines, is_blank_line, is_comment}
use Rattle.text_parts.specs.Fields.{fields}
use Rattle.text_parts.specs.EndedLines.{ended_lines, open_line}
use Rattle.text_parts.specs.Reading.{◌>>=◌, reached}
use Rattle.text_items.specs.declared.ends.TextEnd.{TextEnd}
use Rattle.text_items.specs.declared.ends.TextEnd.TheVariants.{Whole, LongText, Line}
use Rattle.text_items.specs.Limits.{line_limit, most_bytes}
use Rattle.text_items.specs.Reading.{raw_gives}
use Rattle.text_items.specs.Items.{TextItems, items_with, line_before, items_of_lines, long_end}
use Rattle.text_items.specs.Items.{cut_end}
use Rattle.text_items.proofs.Texts.{first_gives, no_lines, within, beyond, cut_is}
use Rattle.rpq_model.specs.Query.{Query}
use Rattle.ask_text.specs.declared.ask.Ask.{Ask}
use Rattle.ask_text.specs.declared.fault.AskFault.{AskFault}
use Rattle.ask_text.specs.declared.fault.AskKind.{AskKind}
use Rattle.ask_text.specs.declared.fault.AskKind.TheVariants.{Shape, TooMany}
use Rattle.ask_text.specs.Asks.{Sessions, all, none_yet, begun, grown, begins_session, asked}
use Rattle.ask_text.specs.Asks.{after_fields, after_line, fault_at, line_step, gives, asks}
use Rattle.ask_text.specs.ByParts.{is_ask_line}
use Rattle.ask_text.specs.Reading.{ask_of_one, ask_of_fields}
use Rattle.live_asks.specs.declared.item.ReaderItem.{ReaderItem}
use Rattle.live_asks.specs.declared.item.ReaderItem.TheVariants.{Asked, Faulty, Long}
use Rattle.live_asks.specs.Items.{line_asks, asking}
use Rattle.live_asks.specs.Laws.{AsksAreASession}
use Rattle.live_asks.proofs.LineAsks.{lines_ask_by_parts}

-- one session, which goes on and has these asks
abbrev going : List Ask → Sessions
going done = record { over = []; current = Some done }

-- ---- one line

not_false : (b : Bool) → not b ≡ false → b ≡ true
not_false true is = refl
not_false false is = absurd cc

not_true : (b : Bool) → not b ≡ true → b ≡ false
not_true true is = absurd cc
not_true false is = refl

skips : (queries : List Query) (before : Sessions) (line : List ℕ) → is_ask_line line ≡ false →
    after_line queries before line ≡ Ok before
unfolding after_line
skips queries before line is =
    ap (λ (t : Bool). if t then Ok before else after_fields queries before (fields line))
    (not_false (is_blank_line line || is_comment line) is)

begins_is : (list : List (List ℕ)) → begins_session list ≡ true → list ≡ codes "session" ∷ []
unfolding begins_session
begins_is [] is = absurd cc
begins_is (word ∷ []) is =
    ap (λ (w : List ℕ). w ∷ []) ((bytes_eq-Decides word (codes "session")).0 is)
begins_is (word ∷ next ∷ rest) is = absurd cc

session_is_none : (queries : List Query) → ask_of_fields queries (codes "session" ∷ []) ≡ Err Shape
unfolding ask_of_fields ask_of_one
session_is_none queries = refl

no_session : (queries : List Query) (list : List (List ℕ)) (ask : Ask) (b : Bool) →
    begins_session list ≡ b → ask_of_fields queries list ≡ Ok ask → begins_session list ≡ false
no_session queries list ask false is read = is
no_session queries list ask true is read =
    absurd (let no : Err Shape ≡ Ok ask =
    sym (ap (ask_of_fields queries) (begins_is list is) ∙ session_is_none queries) ∙ read in cc)

grows : (done : List Ask) (ask : Ask) → length done < 1024 →
    grown [] done ask ≡ Ok (going (done ++ ask ∷ []))
unfolding grown
grows done ask few =
    ap (λ (t : Bool). if t then Err TooMany else Ok (going (done ++ ask ∷ [])))
    (lt-leb 1024 (length done) few)

asked_is : (queries : List Query) (done : List Ask) (list : List (List ℕ)) (ask : Ask) →
    ask_of_fields queries list ≡ Ok ask → asked queries [] (Some done) list ≡ grown [] done ask
unfolding asked
asked_is queries done list ask read =
    ap (λ (r : Result Ask AskKind). r >>= grown [] done) read

fields_are : (queries : List Query) (done : List Ask) (list : List (List ℕ)) →
    begins_session list ≡ false →
    after_fields queries (going done) list ≡ asked queries [] (Some done) list
unfolding after_fields
fields_are queries done list other =
    ap (λ (t : Bool). if t then begun (all (going done)) else asked queries [] (Some done) list) other

line_is : (queries : List Query) (done : List Ask) (line : List ℕ) → is_ask_line line ≡ true →
    after_line queries (going done) line ≡ after_fields queries (going done) (fields line)
unfolding after_line
line_is queries done line is =
    ap (λ (t : Bool). if t then Ok (going done)
    else after_fields queries (going done) (fields line))
    (not_true (is_blank_line line || is_comment line) is)

takes : (queries : List Query) (done : List Ask) (line : List ℕ) (ask : Ask) →
    is_ask_line line ≡ true → ask_of_fields queries (fields line) ≡ Ok ask → length done < 1024 →
    after_line queries (going done) line ≡ Ok (going (done ++ ask ∷ []))
takes queries done line ask is read few =
    line_is queries done line is
    ∙ (fields_are queries done (fields line)
    (no_session queries (fields line) ask (begins_session (fields line)) refl read)
    ∙ (asked_is queries done (fields line) ask read ∙ grows done ask few))

-- a raw line that isn't told as too long
line_of : (queries : List Query) (number : ℕ) (raw : List ℕ) (b : Bool) →
    nat_le (length raw) line_limit ≡ b → (found : Option ReaderItem) → found ≢ Some (Long number) →
    raw_gives (asking queries) number raw ≡ Ok found →
    line_asks queries number (without_return raw) ≡ Ok found
line_of queries number raw true is found other e =
    sym (ap (λ (t : Bool). if t then line_asks queries number (without_return raw)
    else Ok (Some (Long number))) is) ∙ e
line_of queries number raw false is found other e =
    absurd (other (let same : Ok (Some (Long number)) ≡ Ok found =
    sym (ap (λ (t : Bool). if t then line_asks queries number (without_return raw)
    else Ok (Some (Long number))) is) ∙ e in cc))

-- ---- many lines

abbrev Gone : List Query → List (List ℕ) → Type 0
Gone queries raws = (number count : ℕ) (done list : List Ask) → length done + length list ≤ 1024 →
    items_of_lines (asking queries) raws number Whole
    ≡ items_with (map (λ (ask : Ask). Asked ask) list) Whole →
    reached (line_step queries) count (going done) (map without_return raws)
    ≡ Ok (going (done ++ list))

-- a step, and then the others
then_more : (queries : List Query) (count : ℕ) (before next : Sessions) (line : List ℕ)
    (rest : List (List ℕ)) (found : Result Sessions AskFault) →
    after_line queries before line ≡ Ok next →
    reached (line_step queries) (count + 1) next rest ≡ found →
    reached (line_step queries) count before (line ∷ rest) ≡ found
unfolding reached
then_more queries count before next line rest found step more =
    ap (λ (r : Result Sessions AskKind).
    result_map_both (λ (s : Sessions). s) (fault_at (count + 1)) r
    >>= λ (s : Sessions). reached (line_step queries) (count + 1) s rest) step ∙ more

module _ (queries : List Query) (raw : List ℕ) (raws : List (List ℕ)) (gone : Gone queries raws)
    (number count : ℕ) (done : List Ask) where
  abbrev Rest : TextItems ReaderItem ℕ
  Rest = items_of_lines (asking queries) raws (number + 1) Whole

  step_on : (given : Result (Option ReaderItem) ℕ) (list : List Ask) →
      raw_gives (asking queries) number raw ≡ given → length done + length list ≤ 1024 →
      line_before given Rest ≡ items_with (map (λ (ask : Ask). Asked ask) list) Whole →
      reached (line_step queries) count (going done) (without_return raw ∷ map without_return raws)
      ≡ Ok (going (done ++ list))
  step_on (Err end) list is few e =
      absurd (let no : Line end ≡ Whole = ap (λ (t : TextItems ReaderItem ℕ). t.end) e in cc)
  step_on (Ok None) list is few e =
      let line = without_return raw in
      let asks = line_of queries number raw (nat_le (length raw) line_limit) refl None (λ no. absurd cc)
      is in
      then_more queries count (going done) (going done) line (map without_return raws)
      (Ok (going (done ++ list)))
      (skips queries (going done) line ((lines_ask_by_parts queries number line).none.0 asks))
      (gone (number + 1) (count + 1) done list few e)
  step_on (Ok (Some item)) [] is few e =
      absurd (let no : item ∷ Rest.items ≡ [] = ap (λ (t : TextItems ReaderItem ℕ). t.items) e in cc)
  step_on (Ok (Some item)) (ask ∷ list) is few e =
      let line = without_return raw in
      let items : item ∷ Rest.items ≡ Asked ask ∷ map (λ (a : Ask). Asked a) list =
      ap (λ (t : TextItems ReaderItem ℕ). t.items) e in
      let end : Rest.end ≡ Whole = ap (λ (t : TextItems ReaderItem ℕ). t.end) e in
      let first : item ≡ Asked ask = cc in
      let others : Rest.items ≡ map (λ (a : Ask). Asked a) list = cc in
      let rest : Rest ≡ items_with (map (λ (a : Ask). Asked a) list) Whole =
      ap (λ (l : List ReaderItem). items_with l Rest.end) others
      ∙ ap (λ (t : TextEnd ℕ). items_with (map (λ (a : Ask). Asked a) list) t) end in
      let asks = line_of queries number raw (nat_le (length raw) line_limit) refl
      (Some (Asked ask)) (λ no. absurd cc)
      (is ∙ ap (λ (i : ReaderItem). Ok (Some i)) first) in
      let read = ((lines_ask_by_parts queries number line).asked ask).0 asks in
      then_more queries count (going done) (going (done ++ ask ∷ [])) line
      (map without_return raws) (Ok (going (done ++ ask ∷ list)))
      (takes queries done line ask read.0 read.1 (omega (arith, few)))
      (gone (number + 1) (count + 1) (done ++ ask ∷ []) list
      (omega (arith, few, length-append done (ask ∷ []))) rest
      ∙ ap (λ (l : List Ask). Ok (going l)) (append_assoc done (ask ∷ []) list))

lines_gone : (queries : List Query) (raws : List (List ℕ)) → Gone queries raws
unfolding reached
lines_gone queries [] number count done [] few e =
    ap (λ (l : List Ask). Ok (going l)) (sym (append-nil done))
lines_gone queries [] number count done (ask ∷ list) few e =
    absurd (let no : [] ≡ Asked ask ∷ map (λ (a : Ask). Asked a) list =
    ap (λ (t : TextItems ReaderItem ℕ). t.items)
    (sym (no_lines (asking queries) number Whole) ∙ e) in cc)
lines_gone queries (raw ∷ raws) number count done list few e =
    let given = raw_gives (asking queries) number raw in
    step_on queries raw raws (lines_gone queries raws) number count done given list refl few
    (sym (first_gives (asking queries) raw raws number Whole given refl) ∙ e)

-- ---- a text that is read to its end isn't cut off

ends_else : (queries : List Query) (raws : List (List ℕ)) (number : ℕ) (end : TextEnd ℕ) →
    end ≢ Whole → (items_of_lines (asking queries) raws number end).end ≢ Whole
ends_else queries [] number end other =
    λ is. other (sym (ap (λ (t : TextItems ReaderItem ℕ). t.end)
    (no_lines (asking queries) number end)) ∙ is)
ends_else queries (raw ∷ raws) number end other =
    λ is. by_given (items_of_lines (asking queries) raws (number + 1) end)
    (raw_gives (asking queries) number raw)
    (ends_else queries raws (number + 1) end other)
    (sym (ap (λ (t : TextItems ReaderItem ℕ). t.end) (first_gives (asking queries) raw raws number
    end (raw_gives (asking queries) number raw) refl)) ∙ is)
  where
    by_given : (rest : TextItems ReaderItem ℕ) (given : Result (Option ReaderItem) ℕ) →
        rest.end ≢ Whole → (line_before given rest).end ≡ Whole → ⊥
    by_given rest (Ok found) never is = never is
    by_given rest (Err last) never is = absurd cc

cut_is_long : (queries : List Query) (number : ℕ) (line : List ℕ) →
    cut_end (asking queries) number line ≡ LongText
cut_is_long queries number line = either (nat_le (length line) line_limit) LongText
  where
    either : (b : Bool) (end : TextEnd ℕ) → (if b then end else end) ≡ end
    either true end = refl
    either false end = refl

-- ---- the law

session_first : (text : List ℕ) →
    raw_lines (codes "session\n" ++ text) ≡ codes "session" ∷ raw_lines text
unfolding raw_lines
session_first text = refl

session_begins : (queries : List Query) →
    after_line queries none_yet (without_return (codes "session")) ≡ Ok (going [])
unfolding without_return fields begins_session begun after_fields after_line
session_begins queries = refl

of_session : (queries : List Query) (bytes : List ℕ) (list : List Ask) →
    reached (line_step queries) 0 none_yet (lines bytes) ≡ Ok (going list) →
    asks queries bytes ≡ Ok (list ∷ [])
unfolding asks
of_session queries bytes list is =
    ap (λ (r : Result Sessions AskFault). r >>= λ (s : Sessions). Ok (all s)) is

pub asks_are_a_session : AsksAreASession
asks_are_a_session queries text list few is =
    of_session queries (codes "session\n" ++ text) list
    (ap (λ (raws : List (List ℕ)). reached (line_step queries) 0 none_yet
    (map without_return raws)) (session_first text)
    ∙ then_more queries 0 none_yet (going []) (without_return (codes "session"))
    (map without_return (raw_lines text)) (Ok (going list)) (session_begins queries)
    (lines_gone queries (raw_lines text) 1 1 [] list (omega (arith, few)) whole))
  where
    whole : items_of_lines (asking queries) (raw_lines text) 1 Whole
        ≡ items_with (map (λ (ask : Ask). Asked ask) list) Whole
    whole = elim (cases_lt (length text) most_bytes) [
      | inl short ↦ sym (within (asking queries) text 1 most_bytes short) ∙ is
      | inr long ↦
          let front = take most_bytes text in
          let raws = ended_lines front in
          let cut = cut_end (asking queries) (1 + length raws) (open_line front) in
          let no : cut ≢ Whole = λ e.
          absurd (let bad : LongText ≡ Whole =
          sym (cut_is_long queries (1 + length raws) (open_line front)) ∙ e in cc) in
          absurd (ends_else queries raws 1 cut no
          (ap (λ (t : TextItems ReaderItem ℕ). t.end)
          (sym (beyond (asking queries) text 1 most_bytes long ∙ cut_is (asking queries) front 1)
          ∙ is)))
    ]
