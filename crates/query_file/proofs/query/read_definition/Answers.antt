use Rattle.std.proofs.Common.{◌≡◌, ℕ, ◌<◌, List, length, refl, sym, subst, arith}
use Rattle.std.proofs.lemmas.List.{length-map}
use Rattle.rpq_model.specs.declared.mode.Mode.{Mode}
use Rattle.query_file.specs.Compiled.{CompiledValue}
use Rattle.query_file.specs.InOrder.{IsTaken, HasLengths, HasRoom, IsFirstInOrder}
use Rattle.query_file.specs.Kinds.{kind_of_expr}
use Rattle.query_file.specs.Places.{HasNoPlace}
use Rattle.query_file.specs.QueryLine.{LineParts}
use Rattle.query_file.specs.Takes.{defs}
use Rattle.query_file.proofs.Exits.{err_out, lengths, no_lengths, no_place, no_expression}
use Rattle.query_file.proofs.OneParts.{no_texts, no_name}
use Rattle.query_file.proofs.Texts.{parts_from_texts}
use Rattle.query_file.proofs.query.read_definition.Goals as goal

abbrev parts_with : (name size slide : List ℕ) (mode : Mode) (expr : List ℕ) → LineParts
parts_with name size slide mode expr = record { name = name; size = size; slide = slide; mode = mode; expr = expr }

-- what is known of a line's place among the others
with_room : (before : List CompiledValue) (parts : LineParts) → HasLengths parts → (name : List ℕ) → name ≡ parts.name →
    (IsTaken (defs before) name → ⊥) → length before < 64 → HasRoom (defs before) parts
with_room before parts lengths name is new few = record {
  name = record { lengths = lengths; new = subst (λ (n : List ℕ). IsTaken (defs before) n → ⊥) is new };
  room = omega (arith, few, length-map before (λ (each : CompiledValue). each.def));
}

pub returns-in_default-clause-err : goal.returns-in_default-clause-err
returns-in_default-clause-err c = λ other. no_texts c.args.line.now c.in_default.ensures.none

pub returns-in_err-name-clause-err : goal.returns-in_err-name-clause-err
returns-in_err-name-clause-err c =
    let text = c.in-Some.text in
    let parts = parts_with text.name.now text.size.now text.slide.now text.mode text.expr.now in
    err_out c.from_residual.result c.in_err-name.field-0.0 _ c.from_residual.ensures.1 (λ other.
    let told = c.in_err-name.ensures.fault other in
    subst (IsFirstInOrder c.args.inverses (defs c.args.before.now) c.args.line.now) (sym told.0)
    (no_name c.args.line.now parts c.in-Some.ensures.some told.1))

pub returns-in_default-read_window-clause-err : goal.returns-in_default-read_window-clause-err
returns-in_default-read_window-clause-err c = λ other.
    let text = c.in-Some.text in
    let parts = parts_with text.name.now text.size.now text.slide.now text.mode text.expr.now in (
      parts,
      parts_from_texts c.args.line.now parts c.in-Some.ensures.some c.in_ok-name.ensures.valid,
      no_lengths parts c.in_default-read_window.ensures.none,
    )

pub returns-in_err-check_place-clause-err : goal.returns-in_err-check_place-clause-err
returns-in_err-check_place-clause-err c =
    let text = c.in-Some.text in
    let parts = parts_with text.name.now text.size.now text.slide.now text.mode text.expr.now in
    let has = parts_from_texts c.args.line.now parts c.in-Some.ensures.some c.in_ok-name.ensures.valid in
    let window = c.in-Some-read_window in
    let lengths = lengths parts window.window.size window.window.slide window.ensures.size window.ensures.slide in
    let kind = c.in_err-check_place.field-0.0 in
    let none = subst (λ (n : List ℕ). HasNoPlace (defs c.args.before.now) n kind) c.in_ok-name.ensures.name c.in_err-check_place.ensures.fault in
    err_out c.from_residual-in_err-check_place.result kind _ c.from_residual-in_err-check_place.ensures.1
    (no_place c.args.inverses (defs c.args.before.now) c.args.line.now parts has lengths kind none)

pub returns-in_err-expr-clause-err : goal.returns-in_err-expr-clause-err
returns-in_err-expr-clause-err c =
    let text = c.in-Some.text in
    let parts = parts_with text.name.now text.size.now text.slide.now text.mode text.expr.now in
    let has = parts_from_texts c.args.line.now parts c.in-Some.ensures.some c.in_ok-name.ensures.valid in
    let window = c.in-Some-read_window in
    let lengths = lengths parts window.window.size window.window.slide window.ensures.size window.ensures.slide in
    let place = c.in_ok-check_place.ensures in
    let room = with_room c.args.before.now parts lengths c.in_ok-name.name c.in_ok-name.ensures.name place.new place.room in
    let fault = c.in_err-expr.field-0.0 in
    err_out c.from_residual-in_err-expr.result (kind_of_expr fault) _ c.from_residual-in_err-expr.ensures.1
    (no_expression c.args.inverses (defs c.args.before.now) c.args.line.now parts has room fault c.in_err-expr.ensures.outcome)

pub returns-clause-ok : goal.returns-clause-ok
returns-clause-ok c =
    let text = c.in-Some.text in
    let parts = parts_with text.name.now text.size.now text.slide.now text.mode text.expr.now in
    let window = c.in-Some-read_window in
    let lengths = lengths parts window.window.size window.window.slide window.ensures.size window.ensures.slide in
    let place = c.in_ok-check_place.ensures in
    record {
      parts = parts;
      has = parts_from_texts c.args.line.now parts c.in-Some.ensures.some c.in_ok-name.ensures.valid;
      expression = record {
        room = with_room c.args.before.now parts lengths c.in_ok-name.name c.in_ok-name.ensures.name place.new place.room;
        outcome = c.in_ok-expr.ensures.outcome;
      };
      name = c.in_ok-name.ensures.name;
      size = window.ensures.size;
      slide = window.ensures.slide;
      mode = refl;
    }
