use Rattle.std.proofs.Common.{List, ℕ, [], ◌∷◌, codes, sym, subst}
use Rattle.query_file.specs.LineTexts.{IsModeCut}
use Rattle.query_file.proofs.Texts.{if_none, next_behind}
use Rattle.query_file.proofs.line_text.line_text.Goals as goal

pub returns-in_err-rest-clause-none : goal.returns-in_err-rest-clause-none
returns-in_err-rest-clause-none c = if_none c.from_residual.result (λ has.
    c.in_err-rest.ensures.none has.are.behind.0 has.are.behind.1)

pub returns-in_err-name-clause-none : goal.returns-in_err-name-clause-none
returns-in_err-name-clause-none c = if_none c.from_residual-in_err-name.result (λ has.
    let h1 = next_behind (codes "query") (has.name ∷ codes "window" ∷ has.size ∷ codes "slide" ∷ has.slide ∷ []) c.args.line.now has.are.rest (codes "query") c.in_ok-rest.rest.now c.in_ok-rest.ensures.some has.are.behind in
    c.in_err-name.ensures.not_first has.name h1.1.0 h1.1.1)

pub returns-in_err-rest-2-clause-none : goal.returns-in_err-rest-2-clause-none
returns-in_err-rest-2-clause-none c = if_none c.from_residual-in_err-rest-2.result (λ has.
    let h1 = next_behind (codes "query") (has.name ∷ codes "window" ∷ has.size ∷ codes "slide" ∷ has.slide ∷ []) c.args.line.now has.are.rest (codes "query") c.in_ok-rest.rest.now c.in_ok-rest.ensures.some has.are.behind in
    let h2 = next_behind has.name (codes "window" ∷ has.size ∷ codes "slide" ∷ has.slide ∷ []) c.in_ok-rest.rest.now has.are.rest c.in_ok-name.name.now c.in_ok-name.rest.now c.in_ok-name.ensures.cut h1.1 in
    c.in_err-rest-2.ensures.none h2.1.0 h2.1.1)

pub returns-in_err-size-clause-none : goal.returns-in_err-size-clause-none
returns-in_err-size-clause-none c = if_none c.from_residual-in_err-size.result (λ has.
    let h1 = next_behind (codes "query") (has.name ∷ codes "window" ∷ has.size ∷ codes "slide" ∷ has.slide ∷ []) c.args.line.now has.are.rest (codes "query") c.in_ok-rest.rest.now c.in_ok-rest.ensures.some has.are.behind in
    let h2 = next_behind has.name (codes "window" ∷ has.size ∷ codes "slide" ∷ has.slide ∷ []) c.in_ok-rest.rest.now has.are.rest c.in_ok-name.name.now c.in_ok-name.rest.now c.in_ok-name.ensures.cut h1.1 in
    let h3 = next_behind (codes "window") (has.size ∷ codes "slide" ∷ has.slide ∷ []) c.in_ok-name.rest.now has.are.rest (codes "window") c.in_ok-rest-2.rest.now c.in_ok-rest-2.ensures.some h2.1 in
    c.in_err-size.ensures.not_first has.size h3.1.0 h3.1.1)

pub returns-in_err-rest-3-clause-none : goal.returns-in_err-rest-3-clause-none
returns-in_err-rest-3-clause-none c = if_none c.from_residual-in_err-rest-3.result (λ has.
    let h1 = next_behind (codes "query") (has.name ∷ codes "window" ∷ has.size ∷ codes "slide" ∷ has.slide ∷ []) c.args.line.now has.are.rest (codes "query") c.in_ok-rest.rest.now c.in_ok-rest.ensures.some has.are.behind in
    let h2 = next_behind has.name (codes "window" ∷ has.size ∷ codes "slide" ∷ has.slide ∷ []) c.in_ok-rest.rest.now has.are.rest c.in_ok-name.name.now c.in_ok-name.rest.now c.in_ok-name.ensures.cut h1.1 in
    let h3 = next_behind (codes "window") (has.size ∷ codes "slide" ∷ has.slide ∷ []) c.in_ok-name.rest.now has.are.rest (codes "window") c.in_ok-rest-2.rest.now c.in_ok-rest-2.ensures.some h2.1 in
    let h4 = next_behind has.size (codes "slide" ∷ has.slide ∷ []) c.in_ok-rest-2.rest.now has.are.rest c.in_ok-size.size.now c.in_ok-size.rest.now c.in_ok-size.ensures.cut h3.1 in
    c.in_err-rest-3.ensures.none h4.1.0 h4.1.1)

pub returns-in_err-slide-clause-none : goal.returns-in_err-slide-clause-none
returns-in_err-slide-clause-none c = if_none c.from_residual-in_err-slide.result (λ has.
    let h1 = next_behind (codes "query") (has.name ∷ codes "window" ∷ has.size ∷ codes "slide" ∷ has.slide ∷ []) c.args.line.now has.are.rest (codes "query") c.in_ok-rest.rest.now c.in_ok-rest.ensures.some has.are.behind in
    let h2 = next_behind has.name (codes "window" ∷ has.size ∷ codes "slide" ∷ has.slide ∷ []) c.in_ok-rest.rest.now has.are.rest c.in_ok-name.name.now c.in_ok-name.rest.now c.in_ok-name.ensures.cut h1.1 in
    let h3 = next_behind (codes "window") (has.size ∷ codes "slide" ∷ has.slide ∷ []) c.in_ok-name.rest.now has.are.rest (codes "window") c.in_ok-rest-2.rest.now c.in_ok-rest-2.ensures.some h2.1 in
    let h4 = next_behind has.size (codes "slide" ∷ has.slide ∷ []) c.in_ok-rest-2.rest.now has.are.rest c.in_ok-size.size.now c.in_ok-size.rest.now c.in_ok-size.ensures.cut h3.1 in
    let h5 = next_behind (codes "slide") (has.slide ∷ []) c.in_ok-size.rest.now has.are.rest (codes "slide") c.in_ok-rest-3.rest.now c.in_ok-rest-3.ensures.some h4.1 in
    c.in_err-slide.ensures.not_first has.slide h5.1.0 h5.1.1)

pub returns-in_err-mode-clause-none : goal.returns-in_err-mode-clause-none
returns-in_err-mode-clause-none c = if_none c.from_residual-in_err-mode.result (λ has.
    let h1 = next_behind (codes "query") (has.name ∷ codes "window" ∷ has.size ∷ codes "slide" ∷ has.slide ∷ []) c.args.line.now has.are.rest (codes "query") c.in_ok-rest.rest.now c.in_ok-rest.ensures.some has.are.behind in
    let h2 = next_behind has.name (codes "window" ∷ has.size ∷ codes "slide" ∷ has.slide ∷ []) c.in_ok-rest.rest.now has.are.rest c.in_ok-name.name.now c.in_ok-name.rest.now c.in_ok-name.ensures.cut h1.1 in
    let h3 = next_behind (codes "window") (has.size ∷ codes "slide" ∷ has.slide ∷ []) c.in_ok-name.rest.now has.are.rest (codes "window") c.in_ok-rest-2.rest.now c.in_ok-rest-2.ensures.some h2.1 in
    let h4 = next_behind has.size (codes "slide" ∷ has.slide ∷ []) c.in_ok-rest-2.rest.now has.are.rest c.in_ok-size.size.now c.in_ok-size.rest.now c.in_ok-size.ensures.cut h3.1 in
    let h5 = next_behind (codes "slide") (has.slide ∷ []) c.in_ok-size.rest.now has.are.rest (codes "slide") c.in_ok-rest-3.rest.now c.in_ok-rest-3.ensures.some h4.1 in
    let h6 = next_behind has.slide ([]) c.in_ok-rest-3.rest.now has.are.rest c.in_ok-slide.slide.now c.in_ok-slide.rest.now c.in_ok-slide.ensures.cut h5.1 in
    c.in_err-mode.ensures.none has.mode has.expr (subst (λ (r : List ℕ). IsModeCut r has.mode has.expr) (sym h6.1) has.are.cut))
