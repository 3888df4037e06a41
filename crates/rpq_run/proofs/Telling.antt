-- What is told of the faulty lines of a stream, by how the stream ended.
use Rattle.std.proofs.Common.{◌≡◌, ℕ, List, [], ◌∷◌, ◌++◌, Option, Some, None, refl, ap, sym, subst}
use Rattle.std.proofs.Common.{◌∙◌, append_assoc, append-nil}
use Rattle.std.specs.Prelude.{IfSome}
use Rattle.rpq_base.specs.declared.data.Tuple.{Tuple}
use Rattle.text_items.specs.Items.{TextItems}
use Rattle.stream_tuples.specs.declared.ends.StreamEnd.{StreamEnd}
use Rattle.stream_tuples.specs.declared.ends.StreamEnd.TheVariants.{Whole, Line, LongLine}
use Rattle.stream_tuples.specs.declared.ends.StreamEnd.TheVariants.{LongStream, Read, Faults, Full}
use Rattle.stream_tuples.specs.declared.ends.StreamEnd.TheVariants.{Closed, Memory}
use Rattle.stream_tuples.specs.declared.faults.StreamItem.{StreamItem}
use Rattle.stream_tuples.specs.declared.faults.StreamItem.TheVariants as item
use Rattle.stream_tuples.specs.Faults.{reports_in}
use Rattle.stream_tuples.specs.History.{AreItemsOfEnd, HasReports, IsPrefix, ReportsFaults}
use Rattle.stream_tuples.specs.History.{told_items}
use Rattle.stream_tuples.specs.Limits.{byte_limit_of}
use Rattle.stream_tuples.specs.StreamText.{reports_from}
use Rattle.stream_tuples.proofs.Fronts.{front_before_tuple, reports_of_front, reports_of_more}
use Rattle.run_start.specs.Texts.{reports_within}

-- all that is told of a text
all_told : (limit : ℕ) (text : List ℕ)
    → reports_from 1 limit text ≡ reports_in (told_items limit text).items
unfolding reports_from
all_told limit text = refl

-- what is told of some items is a front of what is told of others, where they are a front of these
front_of_items : (bytes : List ℕ) (items all : List StreamItem) → bytes ≡ reports_in items
    → IsPrefix items all → IsPrefix bytes (reports_in all)
front_of_items bytes items all is front =
    let more = reports_of_front items all front in
    record {
      rest = more.rest;
      cut = more.cut ∙ ap (λ (told : List ℕ). told ++ more.rest) (sym is);
    }

all_of_items : (bytes : List ℕ) (items all : List StreamItem) → bytes ≡ reports_in items
    → all ≡ items → IsPrefix bytes (reports_in all)
all_of_items bytes items all is same = record {
  rest = [];
  cut = ap reports_in same ∙ (sym is ∙ sym (append-nil bytes));
}

-- and so is what is told where a write failed
front_of_untold : (bytes : List ℕ) (items all : List StreamItem)
    → HasReports items all Faults bytes → IsPrefix bytes (reports_in all)
front_of_untold bytes items all (report, rest, part, cut, is, front) = record {
  rest = front.rest ++ reports_in rest;
  cut = ap reports_in cut
      ∙ (reports_of_more items (item.Fault report ∷ rest)
      ∙ (ap (λ (told : List ℕ). reports_in items ++ (told ++ reports_in rest)) front.cut
      ∙ (ap (λ (told : List ℕ). reports_in items ++ told)
      (append_assoc part front.rest (reports_in rest))
      ∙ (sym (append_assoc (reports_in items) part (front.rest ++ reports_in rest))
      ∙ ap (λ (told : List ℕ). told ++ (front.rest ++ reports_in rest)) (sym is)))));
}

-- of a stream of which no read failed a front of what is to be told of its text is told
pub front_told : (limit : ℕ) (text : List ℕ) (left : Option (List ℕ)) (tuples : List Tuple)
    (bytes : List ℕ) (end : StreamEnd) → (end ≡ Read → ⊥)
    → ReportsFaults limit text left tuples bytes end → IsPrefix bytes (reports_from 1 limit text)
front_told limit text left tuples bytes end read told =
    subst (λ (all : List ℕ). IsPrefix bytes all) (sym (all_told limit text))
    (by end read told.taken told.reported)
  where
    all : List StreamItem
    all = (told_items limit text).items

    by : (e : StreamEnd) → (e ≡ Read → ⊥) → AreItemsOfEnd limit text left told.items e
        → HasReports told.items all e bytes → IsPrefix bytes (reports_in all)
    by Whole read taken is = all_of_items bytes told.items all is
        (ap (λ (found : TextItems StreamItem StreamEnd). found.items) taken.0)
    by (Line number fault) read taken is = absurd taken
    by (LongLine number) read taken is = absurd taken
    by LongStream read taken is = all_of_items bytes told.items all is
        (ap (λ (found : TextItems StreamItem StreamEnd). found.items) taken)
    by Read read taken is = absurd (read refl)
    by Faults read taken is = front_of_untold bytes told.items all is
    by Full read taken is = front_of_items bytes told.items all is
        (front_before_tuple told.items all taken)
    by (Closed why) read taken is = front_of_items bytes told.items all is
        (front_before_tuple told.items all taken)
    by Memory read taken is = front_of_items bytes told.items all is taken

-- and all of it of one that was read to its end, in a history of at most so many entries
pub reports_are : (cap : ℕ) (text : List ℕ) (left : Option (List ℕ)) (tuples : List Tuple)
    (end : StreamEnd) → end ≡ Whole → (now : Option (List ℕ))
    → IfSome now (λ bytes. ReportsFaults (byte_limit_of cap) text left tuples bytes end)
    → IfSome now (λ bytes. bytes ≡ reports_within cap text)
reports_are cap text left tuples end whole None told = tt
reports_are cap text left tuples end whole (Some bytes) told =
    let limit = byte_limit_of cap in
    let at_whole = subst (λ (e : StreamEnd). ReportsFaults limit text left tuples bytes e) whole
    told in
    at_whole.reported
    ∙ (sym (ap (λ (found : TextItems StreamItem StreamEnd). reports_in found.items)
    at_whole.taken.0) ∙ sym (all_told limit text))
