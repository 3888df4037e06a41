-- What a queries file gives, by its parts.
use Rattle.std.proofs.Common.{◌≡◌, ◌≢◌, ℕ, zero, suc, ◌+◌, Bool, true, false, cond, not, ◌||◌, ◌⊎◌, inl, inr, List, [], ◌∷◌, ◌++◌, length, take, Option, Some, None, Result, Ok, Err, refl, sym, ap, subst, ◌∙◌, arith, append_assoc}
use Rattle.std.specs.Prelude.{slice_get}
use Rattle.std.proofs.lemmas.Bool.{false≢true, eqb-true, or_cases, or_left, or_right}
use Rattle.std.proofs.lemmas.List.{append-nil}
use Rattle.text_parts.specs.Lines.{lines, is_blank_line, is_comment, begins_comment, first_solid}
use Rattle.rpq_model.specs.Query.{Query}
use Rattle.query_file.specs.declared.fault.QueryFault.{QueryFault}
use Rattle.query_file.specs.declared.fault.QueryKind.TheVariants.{NoQuery}
use Rattle.query_file.specs.ByParts.{is_query_line, query_lines, AreQueriesOf, HasFirstFault, LacksQuery, QueriesByParts}
use Rattle.query_file.specs.Queries.{IsPassedOver, IsQueryLine, Gives, AtEnd, NoneAtEnd, PassedOver, OneMore, Faulty, fault_at}
use Rattle.query_file.specs.QueryLine.{IsFirstFault, IsLineOf}

-- ---- the test for query lines

comment_is : (first : Option ℕ) → begins_comment first ≡ true → first ≡ Some 35
comment_is None test = absurd (false≢true test)
comment_is (Some byte) test = ap Some (eqb-true byte 35 test)

is_begun : (first : Option ℕ) → first ≡ Some 35 → begins_comment first ≡ true
is_begun first is = ap begins_comment is

over_tests : (line : List ℕ) → IsPassedOver line → (is_blank_line line || is_comment line) ≡ true
over_tests line (inl blank) = or_left (is_blank_line line) (is_comment line) blank
over_tests line (inr comment) = or_right (is_blank_line line) (is_comment line) (is_begun (first_solid line) comment)

tests_over : (line : List ℕ) → (is_blank_line line || is_comment line) ≡ true → IsPassedOver line
tests_over line test = elim (or_cases (is_blank_line line) (is_comment line) test) [
  | inl blank ↦ inl blank
  | inr comment ↦ inr (comment_is (first_solid line) comment)
]

-- a line is passed over or a query line
which : (line : List ℕ) → (IsPassedOver line × (is_query_line line ≡ false)) ⊎ (IsQueryLine line × (is_query_line line ≡ true))
which line = by (is_blank_line line || is_comment line) refl
  where
    by : (test : Bool) → (is_blank_line line || is_comment line) ≡ test →
        (IsPassedOver line × (is_query_line line ≡ false)) ⊎ (IsQueryLine line × (is_query_line line ≡ true))
    by true is = inl (tests_over line is, ap not is)
    by false is = inr (λ over. absurd (false≢true (sym is ∙ over_tests line over)), ap not is)

over_lines : (line : List ℕ) (rest : List (List ℕ)) → IsPassedOver line → query_lines (line ∷ rest) ≡ query_lines rest
over_lines line rest over =
    ap (λ t. cond (not t) (line ∷ query_lines rest) (query_lines rest)) (over_tests line over)

one_line : (line : List ℕ) (rest : List (List ℕ)) → is_query_line line ≡ true → query_lines (line ∷ rest) ≡ line ∷ query_lines rest
one_line line rest is = ap (λ t. cond t (line ∷ query_lines rest) (query_lines rest)) is

passes : (line : List ℕ) → IsQueryLine line → is_query_line line ≡ true
passes line is = elim (which line) [
  | inl over ↦ absurd (is over.0)
  | inr one ↦ one.1
]

-- ---- queries one after another

-- these lines, which follow these queries, are those of these further ones
record AreNext (inverses : Bool) (before : List Query) (all : List (List ℕ)) (queries : List Query) : Type 0 where
  as_many : length queries ≡ length all
  each : (place : ℕ) (line : List ℕ) (query : Query) → slice_get all place ≡ Some line → slice_get queries place ≡ Some query →
      IsLineOf inverses (before ++ take place queries) line query

no_next : (inverses : Bool) (before : List Query) → AreNext inverses before [] []
no_next inverses before = record { as_many = refl; each = λ place line query at there. absurd (cc at) }

some_is : {X : Type 0} (a b : X) → Some a ≡ Some b → a ≡ b
some_is a b same = cc same

one_next : (inverses : Bool) (before : List Query) (line : List ℕ) (all : List (List ℕ)) (query : Query) (queries : List Query) → IsLineOf inverses before line query →
    AreNext inverses (before ++ query ∷ []) all queries → AreNext inverses before (line ∷ all) (query ∷ queries)
one_next inverses before line all query queries is later = record { as_many = ap (λ n. suc n) later.as_many; each = each }
  where
    each : (place : ℕ) (l : List ℕ) (q : Query) → slice_get (line ∷ all) place ≡ Some l → slice_get (query ∷ queries) place ≡ Some q →
        IsLineOf inverses (before ++ take place (query ∷ queries)) l q
    each zero l q at there =
        subst (λ (b : List Query). IsLineOf inverses b l q) (sym (append-nil before))
        (subst (λ (k : List ℕ). IsLineOf inverses before k q) (some_is line l at)
        (subst (λ (r : Query). IsLineOf inverses before line r) (some_is query q there) is))
    each (suc place) l q at there =
        subst (λ (b : List Query). IsLineOf inverses b l q) (append_assoc before (query ∷ []) (take place queries)) (later.each place l q at there)

first_next : (inverses : Bool) (before : List Query) (line : List ℕ) (all : List (List ℕ)) (query : Query) (queries : List Query) →
    AreNext inverses before (line ∷ all) (query ∷ queries) → IsLineOf inverses before line query × AreNext inverses (before ++ query ∷ []) all queries
first_next inverses before line all query queries are = (
  subst (λ (b : List Query). IsLineOf inverses b line query) (append-nil before) (are.each 0 line query refl refl),
  record {
    as_many = let many = are.as_many in omega (arith, many);
    each = λ place l q at there. subst (λ (b : List Query). IsLineOf inverses b l q) (sym (append_assoc before (query ∷ []) (take place queries)))
        (are.each (suc place) l q at there);
  },
)

-- ---- queries

record Further (inverses : Bool) (before : List Query) (rest : List (List ℕ)) (all : List Query) : Type 0 where
  queries : List Query
  split : all ≡ before ++ queries
  are : AreNext inverses before (query_lines rest) queries

to_next : (inverses : Bool) (rest : List (List ℕ)) (before : List Query) (count : ℕ) (all : List Query) → Gives inverses before count rest (Ok all) → (all ≢ []) × Further inverses before rest all
to_next inverses [] before count _ (AtEnd _ _ some) = (some, record { queries = []; split = sym (append-nil before); are = no_next inverses before })
to_next inverses (line ∷ rest) before count all (PassedOver _ _ _ _ _ over gives) =
    let later = to_next inverses rest before (suc count) all gives in
    let further = later.1 in (
      later.0,
      record {
        queries = further.queries;
        split = further.split;
        are = subst (λ (ls : List (List ℕ)). AreNext inverses before ls further.queries) (sym (over_lines line rest over)) further.are;
      },
    )
to_next inverses (line ∷ rest) before count all (OneMore _ _ _ _ _ query is line_of gives) =
    let later = to_next inverses rest (before ++ query ∷ []) (suc count) all gives in
    let further = later.1 in (
      later.0,
      record {
        queries = query ∷ further.queries;
        split = further.split ∙ append_assoc before (query ∷ []) further.queries;
        are = subst (λ (ls : List (List ℕ)). AreNext inverses before ls (query ∷ further.queries)) (sym (one_line line rest (passes line is)))
            (one_next inverses before line (query_lines rest) query further.queries line_of further.are);
      },
    )

from_next : (inverses : Bool) (front : List (List ℕ)) (before : List Query) (count : ℕ) (queries : List Query) (rest : List (List ℕ)) (outcome : Result (List Query) QueryFault) →
    AreNext inverses before (query_lines front) queries → Gives inverses (before ++ queries) (count + length front) rest outcome → Gives inverses before count (front ++ rest) outcome
from_next inverses [] before count [] rest outcome are gives =
    subst (λ (b : List Query). Gives inverses b count rest outcome) (append-nil before)
    (subst (λ n. Gives inverses (before ++ []) n rest outcome) (omega arith) gives)
from_next inverses [] before count (query ∷ queries) rest outcome are gives = let many = are.as_many in absurd (omega (arith, many))
from_next inverses (line ∷ front) before count queries rest outcome are gives =
    by (which line) queries are gives (λ b qs. from_next inverses front b (suc count) qs rest outcome)
  where
    by : (IsPassedOver line × (is_query_line line ≡ false)) ⊎ (IsQueryLine line × (is_query_line line ≡ true)) → (qs : List Query) →
        AreNext inverses before (query_lines (line ∷ front)) qs → Gives inverses (before ++ qs) (count + length (line ∷ front)) rest outcome →
        ((b : List Query) (further : List Query) → AreNext inverses b (query_lines front) further → Gives inverses (b ++ further) (suc count + length front) rest outcome →
        Gives inverses b (suc count) (front ++ rest) outcome) → Gives inverses before count (line ∷ (front ++ rest)) outcome
    by (inl over) qs next given later =
        PassedOver before count line (front ++ rest) outcome over.0 (later before qs
        (subst (λ (ls : List (List ℕ)). AreNext inverses before ls qs) (over_lines line front over.0) next)
        (subst (λ n. Gives inverses (before ++ qs) n rest outcome) (omega arith) given))
    by (inr one) [] next given later =
        let many = (subst (λ (ls : List (List ℕ)). AreNext inverses before ls []) (one_line line front one.1) next).as_many in absurd (omega (arith, many))
    by (inr one) (query ∷ qs) next given later =
        let both = first_next inverses before line (query_lines front) query qs (subst (λ (ls : List (List ℕ)). AreNext inverses before ls (query ∷ qs)) (one_line line front one.1) next) in
        OneMore before count line (front ++ rest) outcome query one.0 both.0 (later (before ++ query ∷ []) qs both.1
        (subst (λ (b : List Query). Gives inverses b (suc count + length front) rest outcome) (sym (append_assoc before (query ∷ []) qs))
        (subst (λ n. Gives inverses (before ++ (query ∷ qs)) n rest outcome) (omega arith) given)))

-- ---- faults

record FaultFrom (inverses : Bool) (before : List Query) (count : ℕ) (all : List (List ℕ)) (fault : QueryFault) : Type 0 where
  front : List (List ℕ)
  line : List ℕ
  rest : List (List ℕ)
  queries : List Query
  split : all ≡ front ++ line ∷ rest
  next : AreNext inverses before (query_lines front) queries
  is_one : IsQueryLine line
  number : fault.line ≡ count + (length front + 1)
  first : IsFirstFault inverses (before ++ queries) line fault.kind

record NoneFrom (inverses : Bool) (before : List Query) (count : ℕ) (all : List (List ℕ)) (fault : QueryFault) : Type 0 where
  none : before ≡ []
  lacks : query_lines all ≡ []
  is : fault ≡ fault_at (count + length all) NoQuery

to_fault : (inverses : Bool) (all : List (List ℕ)) (before : List Query) (count : ℕ) (fault : QueryFault) → Gives inverses before count all (Err fault) →
    FaultFrom inverses before count all fault ⊎ NoneFrom inverses before count all fault
to_fault inverses [] _ count _ (NoneAtEnd _) = inr (record { none = refl; lacks = refl; is = ap (λ n. fault_at n NoQuery) (omega arith) })
to_fault inverses (line ∷ rest) before count fault (PassedOver _ _ _ _ _ over gives) = elim (to_fault inverses rest before (suc count) fault gives) [
  | inl found ↦
      let number = found.number in
      inl (record {
        front = line ∷ found.front;
        line = found.line;
        rest = found.rest;
        queries = found.queries;
        split = ap (λ (ls : List (List ℕ)). line ∷ ls) found.split;
        next = subst (λ (ls : List (List ℕ)). AreNext inverses before ls found.queries) (sym (over_lines line found.front over)) found.next;
        is_one = found.is_one;
        number = omega (arith, number);
        first = found.first;
      })
  | inr none ↦ inr (record {
    none = none.none;
    lacks = over_lines line rest over ∙ none.lacks;
    is = none.is ∙ ap (λ n. fault_at n NoQuery) (omega arith);
  })
]
to_fault inverses (line ∷ rest) before count fault (OneMore _ _ _ _ _ query is line_of gives) = elim (to_fault inverses rest (before ++ query ∷ []) (suc count) fault gives) [
  | inl found ↦
      let number = found.number in
      inl (record {
        front = line ∷ found.front;
        line = found.line;
        rest = found.rest;
        queries = query ∷ found.queries;
        split = ap (λ (ls : List (List ℕ)). line ∷ ls) found.split;
        next = subst (λ (ls : List (List ℕ)). AreNext inverses before ls (query ∷ found.queries)) (sym (one_line line found.front (passes line is)))
            (one_next inverses before line (query_lines found.front) query found.queries line_of found.next);
        is_one = found.is_one;
        number = omega (arith, number);
        first = subst (λ (b : List Query). IsFirstFault inverses b found.line fault.kind) (append_assoc before (query ∷ []) found.queries) found.first;
      })
  | inr none ↦ absurd (not_none before query none.none)
]
  where
    not_none : (b : List Query) (q : Query) → b ++ q ∷ [] ≡ [] → ⊥
    not_none [] q e = absurd cc
    not_none (x ∷ b) q e = absurd cc
to_fault inverses (line ∷ rest) before count _ (Faulty _ _ _ _ kind is fault) = inl (record {
  front = [];
  line = line;
  rest = rest;
  queries = [];
  split = refl;
  next = no_next inverses before;
  is_one = is;
  number = omega arith;
  first = subst (λ (b : List Query). IsFirstFault inverses b line kind) (sym (append-nil before)) fault;
})

-- ---- the law

from_fault : (inverses : Bool) (all : List (List ℕ)) (fault : QueryFault) → HasFirstFault inverses all fault → Gives inverses [] 0 all (Err fault)
from_fault inverses all fault has =
    let good = has.good in
    let number = has.number in
    let line_is : suc (0 + length has.front) ≡ fault.line = omega (arith, number) in
    subst (λ (ls : List (List ℕ)). Gives inverses [] 0 ls (Err fault)) (sym has.split)
    (from_next inverses has.front [] 0 has.queries (has.line ∷ has.rest) (Err fault) (record { as_many = good.as_many; each = good.each })
    (subst (λ (f : QueryFault). Gives inverses has.queries (0 + length has.front) (has.line ∷ has.rest) (Err f)) (λ i. record { line = line_is i; kind = fault.kind })
    (Faulty has.queries (0 + length has.front) has.line has.rest fault.kind has.is_one has.first)))

from_none : (inverses : Bool) (all : List (List ℕ)) (fault : QueryFault) → LacksQuery all fault → Gives inverses [] 0 all (Err fault)
from_none inverses all fault (lacks, is) =
    subst (λ (f : QueryFault). Gives inverses [] 0 all (Err f)) (sym is)
    (subst (λ (ls : List (List ℕ)). Gives inverses [] 0 ls (Err (fault_at (length all) NoQuery))) (append-nil all)
    (from_next inverses all [] 0 [] [] (Err (fault_at (length all) NoQuery))
    (subst (λ (ls : List (List ℕ)). AreNext inverses [] ls []) (sym lacks) (no_next inverses []))
    (subst (λ n. Gives inverses [] (0 + length all) [] (Err (fault_at n NoQuery))) (omega arith) (NoneAtEnd (0 + length all)))))

pub by_parts : (inverses : Bool) → QueriesByParts inverses
by_parts inverses = record {
  ok = λ bytes queries. (
    λ gives.
        let both = to_next inverses (lines bytes) [] 0 queries gives in
        let further = both.1 in
        let same : queries ≡ further.queries = further.split in
        let are = further.are in
        (both.0, subst (AreQueriesOf inverses (lines bytes)) (sym same) (record { as_many = are.as_many; each = are.each })),
    λ both.
        let are = both.1 in
        subst (λ (ls : List (List ℕ)). Gives inverses [] 0 ls (Ok queries)) (append-nil (lines bytes))
        (from_next inverses (lines bytes) [] 0 queries [] (Ok queries) (record { as_many = are.as_many; each = are.each })
        (AtEnd queries (0 + length (lines bytes)) both.0)),
  );
  err = λ bytes fault. (
    λ gives. elim (to_fault inverses (lines bytes) [] 0 fault gives) [
      | inl found ↦
          let next = found.next in
          let number = found.number in
          inl (record {
            front = found.front;
            line = found.line;
            rest = found.rest;
            queries = found.queries;
            split = found.split;
            good = record { as_many = next.as_many; each = next.each };
            is_one = found.is_one;
            number = omega (arith, number);
            first = found.first;
          })
      | inr none ↦ inr (none.lacks, none.is ∙ ap (λ n. fault_at n NoQuery) (omega arith))
    ],
    λ either. elim either [
      | inl has ↦ from_fault inverses (lines bytes) fault has
      | inr lacks ↦ from_none inverses (lines bytes) fault lacks
    ],
  );
}
