use Rattle.std.proofs.Common.{List, [], ◌∷◌, ◌++◌, sym, ap, subst, ◌∙◌}
use Rattle.std.proofs.lemmas.Bool.{false≢true}
use Rattle.std.proofs.lemmas.List.Elements.{All-nil, All-cons, All-append, All-same}
use Rattle.query_file.specs.Compiled.{CompiledValue, IsCompiled}
use Rattle.query_file.specs.InOrder.{IsFirstInOrder, IsLineInOrder}
use Rattle.query_file.specs.Takes.{defs, Takes, PassesOver, TakesOne}
use Rattle.query_file.proofs.Exits.{err_out}
use Rattle.query_file.proofs.FirstFaults.{first_fault, line_of}
use Rattle.query_file.proofs.Taking.{defs_push}
use Rattle.query_file.proofs.read.take_line.Goals as goal

pub returns-then-is_passed_over-clause-ok : goal.returns-then-is_passed_over-clause-ok
returns-then-is_passed_over-clause-ok c = PassesOver (c.is_passed_over.ensures.0 c.if-is_passed_over.true)

pub returns-in_err-query-clause-err : goal.returns-in_err-query-clause-err
returns-in_err-query-clause-err c =
    let line = c.args.line.now in
    let kind = c.in_err-query.field-0.0 in
    err_out c.from_residual.result kind _ c.from_residual.ensures.1 (λ other. (
      λ over. absurd (false≢true (sym c.if-is_passed_over.false ∙ c.is_passed_over.ensures.1 over)),
      first_fault c.args.inverses (defs c.args.queries.now.items) line kind (subst (λ (list : List CompiledValue). IsFirstInOrder c.args.inverses (defs list) line kind)
          c.deref.ensures.value (c.in_err-query.ensures.err other)),
    ))

pub returns-clause-ok : goal.returns-clause-ok
returns-clause-ok c =
    let line = c.args.line.now in
    let one : CompiledValue = c.in_ok-query.query in
    let before : List CompiledValue = c.args.queries.now.items in
    let is = subst (λ (list : List CompiledValue). IsLineInOrder c.args.inverses (defs list) line one.def) c.deref.ensures.value c.in_ok-query.ensures.ok in
    let grown = ap defs c.in_ok-push.ensures.items ∙ defs_push before one in
    subst (Takes c.args.inverses (defs before) line) (sym grown)
    (TakesOne one.def (λ over. absurd (false≢true (sym c.if-is_passed_over.false ∙ c.is_passed_over.ensures.1 over)))
    (line_of c.args.inverses (defs before) line one.def is))

pub returns-clause-compiled : goal.returns-clause-compiled
returns-clause-compiled c = λ all.
    let one : CompiledValue = c.in_ok-query.query in
    let before : List CompiledValue = c.args.queries.now.items in
    All-same IsCompiled c.push.new.self.items (before ++ one ∷ []) c.in_ok-push.ensures.items
    (All-append IsCompiled before (one ∷ []) all (All-cons IsCompiled one [] c.in_ok-query.ensures.compiled (All-nil IsCompiled)))
