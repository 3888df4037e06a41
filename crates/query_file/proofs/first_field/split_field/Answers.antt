use Rattle.std.proofs.Common.{◌≡◌, ◌≢◌, ◌-◌, List, ℕ, [], take, drop, length, refl, sym, ap, subst, arith}
use Rattle.std.proofs.lemmas.Bool.Decides.{nat_tests}
use Rattle.std.proofs.lemmas.List.{nil_from_length}
use Rattle.text_parts.specs.Lines.{is_blank}
use Rattle.std.specs.List.{position_or_len}
use Rattle.query_file.specs.FirstField.{IsBehindBlanks, IsFirstField}
use Rattle.query_file.proofs.FirstFields.{blanks_no_fields, blanks_none, first_at, first_of_fields, none_at, rest_at}
use Rattle.query_file.proofs.first_field.split_field.Goals as goal

-- the part behind a place that is where the first blank stands
first_here : (line text : List ℕ) (place : ℕ) → IsBehindBlanks line text → text ≢ [] → place ≡ position_or_len is_blank text →
    IsFirstField line (take place text) (take (length text - place) (drop place text))
first_here line text place behind some is =
    subst (IsFirstField line (take place text)) (sym (rest_at text place))
    (subst (λ n. IsFirstField line (take n text) (drop n text)) (sym is) (first_at line text behind some))

pub returns-then-is_empty-clause-none : goal.returns-then-is_empty-clause-none
returns-then-is_empty-clause-none c =
    let none : c.without_blanks-text.result.now ≡ [] = nil_from_length c.without_blanks-text.result.now (grind (arith, nat_tests)) in
    let are = none_at c.args.line.now (subst (IsBehindBlanks c.args.line.now) none c.without_blanks-text.ensures.cut) in
    (λ _. are, λ _. refl)

pub returns-then-is_empty-clause-no_fields : goal.returns-then-is_empty-clause-no_fields
returns-then-is_empty-clause-no_fields c =
    let none : c.without_blanks-text.result.now ≡ [] = nil_from_length c.without_blanks-text.result.now (grind (arith, nat_tests)) in
    blanks_no_fields c.args.line.now
    (none_at c.args.line.now (subst (IsBehindBlanks c.args.line.now) none c.without_blanks-text.ensures.cut))

pub returns-then-is_empty-clause-not_first : goal.returns-then-is_empty-clause-not_first
returns-then-is_empty-clause-not_first c = λ field rest.
    let none : c.without_blanks-text.result.now ≡ [] = nil_from_length c.without_blanks-text.result.now (grind (arith, nat_tests)) in
    blanks_none c.args.line.now field rest
    (none_at c.args.line.now (subst (IsBehindBlanks c.args.line.now) none c.without_blanks-text.ensures.cut))

pub returns-clause-cut : goal.returns-clause-cut
returns-clause-cut c =
    let text = c.without_blanks-text in
    let some : text.result.now ≢ [] = λ none. let short = ap length none in grind (arith, nat_tests) in
    first_here c.args.line.now text.result.now c.field_length-end.result text.ensures.cut some c.field_length-end.ensures.length

pub returns-clause-first : goal.returns-clause-first
returns-clause-first c =
    first_of_fields c.args.line.now (take c.field_length-end.result c.without_blanks-text.result.now)
    (take (length c.without_blanks-text.result.now - c.field_length-end.result) (drop c.field_length-end.result c.without_blanks-text.result.now))
    (returns-clause-cut c)

pub returns-clause-none : goal.returns-clause-none
returns-clause-none c = (λ e. absurd cc, λ blank. absurd (blanks_none c.args.line.now _ _ blank (returns-clause-cut c)))
