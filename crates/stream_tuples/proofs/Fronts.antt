-- Fronts of items, of their tuples and of what is told of them.
use Rattle.std.proofs.Common.{◌≡◌, List, ◌∷◌, ◌++◌, ap, ◌∙◌}
use Rattle.std.proofs.lemmas.Grind.{flat_map-append}
use Rattle.std.proofs.lemmas.List.Elements.{filter_map-append}
use Rattle.stream_tuples.specs.declared.faults.StreamItem.{StreamItem}
use Rattle.stream_tuples.specs.declared.faults.StreamItem.TheVariants as item
use Rattle.stream_tuples.specs.Faults.{tuple_of, report_of, tuples_in, reports_in}
use Rattle.stream_tuples.specs.History.{IsPrefix, IsProperPrefix, IsBeforeTuple, IsBeforeFault}

-- the tuples and reports of items, one of which comes behind the others
pub tuples_of_more : (items more : List StreamItem)
    → tuples_in (items ++ more) ≡ tuples_in items ++ tuples_in more
tuples_of_more items more = filter_map-append tuple_of items more

pub reports_of_more : (items more : List StreamItem)
    → reports_in (items ++ more) ≡ reports_in items ++ reports_in more
reports_of_more items more = flat_map-append report_of items more

-- those of a front are a front of those of all
pub tuples_of_front : (items all : List StreamItem) → IsPrefix items all
    → IsPrefix (tuples_in items) (tuples_in all)
tuples_of_front items all front = record {
  rest = tuples_in front.rest;
  cut = ap tuples_in front.cut ∙ tuples_of_more items front.rest;
}

pub reports_of_front : (items all : List StreamItem) → IsPrefix items all
    → IsPrefix (reports_in items) (reports_in all)
reports_of_front items all front = record {
  rest = reports_in front.rest;
  cut = ap reports_in front.cut ∙ reports_of_more items front.rest;
}

-- items behind which comes a tuple or a fault are a front
pub front_before_tuple : (items all : List StreamItem) → IsBeforeTuple items all → IsPrefix items all
front_before_tuple items all before = record {
  rest = item.Tuple before.0 ∷ before.1;
  cut = before.2;
}

pub front_before_fault : (items all : List StreamItem) → IsBeforeFault items all → IsPrefix items all
front_before_fault items all before = record {
  rest = item.Fault before.0 ∷ before.1;
  cut = before.2;
}

-- behind which comes a tuple: then their tuples aren't all
pub tuples_before_tuple : (items all : List StreamItem) → IsBeforeTuple items all
    → IsProperPrefix (tuples_in items) (tuples_in all)
tuples_before_tuple items all before = record {
  rest = before.0 ∷ tuples_in before.1;
  cut = ap tuples_in before.2 ∙ tuples_of_more items (item.Tuple before.0 ∷ before.1);
  proper = λ none. absurd (cc none);
}
