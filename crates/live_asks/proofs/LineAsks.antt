-- What a line asks, by its tests.
use Rattle.std.proofs.Common.{◌≡◌, ◌≢◌, ◌↔◌, ℕ, Bool, true, false, List, [], ◌∷◌, Option, Some, None}
use Rattle.std.proofs.Common.{Result, Ok, Err, refl, sym, ap, ◌∙◌}
use Rattle.std.specs.Prelude.{codes, bytes_eq, if◌then◌else◌}
use Rattle.std.proofs.lemmas.Slice.Eq.{bytes_eq-Decides}
use Rattle.text_parts.specs.Fields.{fields}
use Rattle.rpq_model.specs.Query.{Query}
use Rattle.ask_text.specs.declared.ask.Ask.{Ask}
use Rattle.ask_text.specs.declared.fault.AskFault.{AskFault}
use Rattle.ask_text.specs.declared.fault.AskKind.{AskKind}
use Rattle.ask_text.specs.declared.fault.AskKind.TheVariants.{Shape}
use Rattle.ask_text.specs.Asks.{fault_at}
use Rattle.ask_text.specs.ByParts.{is_ask_line}
use Rattle.ask_text.specs.Reading.{ask_of_one, ask_of_fields}
use Rattle.live_asks.specs.declared.item.ReaderItem.{ReaderItem}
use Rattle.live_asks.specs.declared.item.ReaderItem.TheVariants.{Asked, Faulty, Long}
use Rattle.live_asks.specs.Items.{item_at, ends_reader, fields_ask, line_asks}
use Rattle.live_asks.specs.Laws.{end_fields, AsksByParts, LinesAskByParts}

-- ---- the line that ends a reader

ends_is : (list : List (List ℕ)) → ends_reader list ≡ true → list ≡ end_fields
unfolding ends_reader
ends_is [] is = absurd cc
ends_is (word ∷ []) is =
    ap (λ (w : List ℕ). w ∷ []) ((bytes_eq-Decides word (codes "end")).0 is)
ends_is (word ∷ next ∷ rest) is = absurd cc

end_ends : ends_reader end_fields ≡ true
unfolding ends_reader
end_ends = refl

end_is_none : (queries : List Query) → ask_of_fields queries end_fields ≡ Err Shape
unfolding ask_of_fields ask_of_one
end_is_none queries = refl

-- ---- what a line asks is one of three things

-- no ask line; the last one; or an item
pub data LineCase (queries : List Query) (number : ℕ) (line : List ℕ) : Type 0 where
  Passed : is_ask_line line ≡ false → line_asks queries number line ≡ Ok None →
      LineCase queries number line
  Last : is_ask_line line ≡ true → fields line ≡ end_fields →
      line_asks queries number line ≡ Err number → LineCase queries number line
  One : is_ask_line line ≡ true → fields line ≢ end_fields →
      line_asks queries number line
      ≡ Ok (Some (item_at number (ask_of_fields queries (fields line)))) →
      LineCase queries number line

module _ (queries : List Query) (number : ℕ) (line : List ℕ) where
  by_line : (b : Bool) → is_ask_line line ≡ b → line_asks queries number line
      ≡ (if b then fields_ask queries number (fields line) else Ok None)
  unfolding line_asks
  by_line b is =
      ap (λ (t : Bool). if t then fields_ask queries number (fields line) else Ok None) is

  by_fields : (b : Bool) → ends_reader (fields line) ≡ b → fields_ask queries number (fields line)
      ≡ (if b then Err number
      else Ok (Some (item_at number (ask_of_fields queries (fields line)))))
  unfolding fields_ask
  by_fields b is = ap (λ (t : Bool). if t then Err number
      else Ok (Some (item_at number (ask_of_fields queries (fields line))))) is

  fields_case : (b : Bool) → ends_reader (fields line) ≡ b → is_ask_line line ≡ true →
      LineCase queries number line
  fields_case true is ask = Last ask (ends_is (fields line) is) (by_line true ask ∙ by_fields true is)
  fields_case false is ask =
      One ask (λ same. absurd (let e : false ≡ true =
      sym is ∙ (ap ends_reader same ∙ end_ends) in cc))
      (by_line true ask ∙ by_fields false is)

  line_case_of : (b : Bool) → is_ask_line line ≡ b → LineCase queries number line
  line_case_of false is = Passed is (by_line false is)
  line_case_of true is = fields_case (ends_reader (fields line)) refl is

  pub line_case : LineCase queries number line
  line_case = line_case_of (is_ask_line line) refl

-- ---- the law

item_asked : (number : ℕ) (read : Result Ask AskKind) (ask : Ask) →
    item_at number read ≡ Asked ask → read ≡ Ok ask
item_asked number (Ok other) ask is = cc
item_asked number (Err kind) ask is = absurd cc

item_faulty : (number : ℕ) (read : Result Ask AskKind) (fault : AskFault) →
    item_at number read ≡ Faulty fault → (fault.line ≡ number) × (read ≡ Err fault.kind)
item_faulty number (Ok ask) fault is = absurd cc
item_faulty number (Err kind) fault is =
    let same : fault_at number kind ≡ fault = cc in
    (sym (ap (λ (f : AskFault). f.line) same), ap (λ (f : AskFault). Err f.kind) same)

some_item : (one two : ReaderItem) →
    ◌≡◌ {A = Result (Option ReaderItem) ℕ} (Ok (Some one)) (Ok (Some two)) → one ≡ two
some_item one two e = cc

module _ (queries : List Query) (number : ℕ) (line : List ℕ) where
  asks_as : LineCase queries number line → AsksByParts queries number line
  asks_as (Passed blank is) = record {
    none = (λ _. blank, λ _. is);
    last = λ end. (
      λ e. absurd (let n : Ok None ≡ Err end = sym is ∙ e in cc),
      λ all. absurd (let b : false ≡ true = sym blank ∙ all.0 in cc),
    );
    asked = λ ask. (
      λ e. absurd (let n : Ok None ≡ Ok (Some (Asked ask)) = sym is ∙ e in cc),
      λ all. absurd (let b : false ≡ true = sym blank ∙ all.0 in cc),
    );
    faulty = λ fault. (
      λ e. absurd (let n : Ok None ≡ Ok (Some (Faulty fault)) = sym is ∙ e in cc),
      λ all. absurd (let b : false ≡ true = sym blank ∙ all.0 in cc),
    );
  }
  asks_as (Last ask same is) = record {
    none = (
      λ e. absurd (let n : Err number ≡ Ok None = sym is ∙ e in cc),
      λ no. absurd (let b : false ≡ true = sym no ∙ ask in cc),
    );
    last = λ end. (
      λ e. (ask, same, (let n : Err number ≡ Err end = sym is ∙ e in cc)),
      λ all. is ∙ ap (λ (n : ℕ). Err n) (sym all.2),
    );
    asked = λ one. (
      λ e. absurd (let n : Err number ≡ Ok (Some (Asked one)) = sym is ∙ e in cc),
      λ all. absurd (let n : Err Shape ≡ Ok one =
          sym (ap (ask_of_fields queries) same ∙ end_is_none queries) ∙ all.1 in cc),
    );
    faulty = λ fault. (
      λ e. absurd (let n : Err number ≡ Ok (Some (Faulty fault)) = sym is ∙ e in
          cc),
      λ all. absurd (all.1 same),
    );
  }
  asks_as (One ask other is) =
      let read = ask_of_fields queries (fields line) in
      record {
        none = (
          λ e. absurd (let n : Ok (Some (item_at number read)) ≡ Ok None = sym is ∙ e in cc),
          λ no. absurd (let b : false ≡ true = sym no ∙ ask in cc),
        );
        last = λ end. (
          λ e. absurd (let n : Ok (Some (item_at number read)) ≡ Err end = sym is ∙ e in
              cc),
          λ all. absurd (other all.1),
        );
        asked = λ one. (
          λ e. (
            ask,
            item_asked number read one
                (some_item (item_at number read) (Asked one) (sym is ∙ e)),
          ),
          λ all. is ∙ ap (λ (r : Result Ask AskKind). Ok (Some (item_at number r))) all.1,
        );
        faulty = λ fault. (
          λ e. (let parts = item_faulty number read fault
              (some_item (item_at number read) (Faulty fault) (sym is ∙ e)) in
              (ask, other, parts.0, parts.1)),
          λ all. is ∙ (ap (λ (r : Result Ask AskKind). Ok (Some (item_at number r))) all.3
              ∙ ap (λ (n : ℕ). Ok (Some (Faulty (fault_at n fault.kind)))) (sym all.2)),
        );
      }

pub lines_ask_by_parts : LinesAskByParts
lines_ask_by_parts queries number line =
    asks_as queries number line (line_case queries number line)
