-- How the logic stores query definitions, which no contract cites: an expression is stored as its
-- labels and operators, each operator after its sides.
use Rattle.std.specs.Prelude.{◌≡◌, ℕ, Bool, true, false, List, [], ◌∷◌, ◌++◌, ◌⊎◌, Option, Some}
use Rattle.std.specs.Prelude.{None, fold, refl}
use Rattle.std.proofs.Common.{inl, inr, ap, ◌∙◌}
use Rattle.std.proofs.lemmas.List.Sums.{fold-append}
use Rattle.std.specs.Coded.{Coded, code_by, coded×, coded⊎, coded_ℕ, coded_bool, coded_list}
use Rattle.std.specs.Coded.{coded_option}
use Rattle.rpq_base.specs.declared.data.Label.{Label}
use Rattle.path_syntax.specs.Expression.{Expression, Atom, Seq, Alt, Star, Plus, Opt}
use Rattle.rpq_model.specs.declared.mode.Mode.{Mode}
use Rattle.rpq_model.specs.declared.mode.Mode.TheVariants.{Arbitrary, Simple}
use Rattle.rpq_model.specs.Window.{WindowValue}
use Rattle.rpq_model.specs.Query.{Query}

-- a label; or an operator of two sides, a sequence or an alternative; or one of one, a star, a plus
-- or an optional
abbrev pub Sign : Type 0
Sign = Label ⊎ (Bool ⊎ Option Bool)

-- the labels and operators of an expression
abbrev pub signs : Expression → List Sign
signs (Atom label) = inl label ∷ []
signs (Seq left right) = signs left ++ (signs right ++ inr (inl true) ∷ [])
signs (Alt left right) = signs left ++ (signs right ++ inr (inl false) ∷ [])
signs (Star body) = signs body ++ inr (inr (Some true)) ∷ []
signs (Plus body) = signs body ++ inr (inr (Some false)) ∷ []
signs (Opt body) = signs body ++ inr (inr None) ∷ []

-- the expression of two sides
abbrev pub of_two : Bool → Expression → Expression → Expression
of_two true left right = Seq left right
of_two false left right = Alt left right

-- the expression of one
abbrev pub of_one : Option Bool → Expression → Expression
of_one (Some true) body = Star body
of_one (Some false) body = Plus body
of_one None body = Opt body

-- the expressions that wait, the last first, after one more label or operator
abbrev pub put : List Expression → Sign → List Expression
put waiting (inl label) = Atom label ∷ waiting
put (right ∷ left ∷ waiting) (inr (inl operator)) = of_two operator left right ∷ waiting
put (right ∷ []) (inr (inl operator)) = right ∷ []
put [] (inr (inl operator)) = []
put (body ∷ waiting) (inr (inr operator)) = of_one operator body ∷ waiting
put [] (inr (inr operator)) = []

-- the last of the expressions that wait
abbrev pub last_of : List Expression → Expression
last_of [] = Atom (record { name = []; back = false })
last_of (expression ∷ waiting) = expression

-- the expression of these labels and operators
abbrev pub of_signs : List Sign → Expression
of_signs all = last_of (fold put [] all)

-- an expression's labels and operators leave it waiting
pub signs_read : (expression : Expression) (waiting : List Expression) →
    fold put waiting (signs expression) ≡ expression ∷ waiting
signs_read (Atom label) waiting = refl
signs_read (Seq left right) waiting =
    fold-append put waiting (signs left) (signs right ++ inr (inl true) ∷ [])
    ∙ (ap (λ (now : List Expression). fold put now (signs right ++ inr (inl true) ∷ []))
    (signs_read left waiting)
    ∙ (fold-append put (left ∷ waiting) (signs right) (inr (inl true) ∷ [])
    ∙ ap (λ (now : List Expression). fold put now (inr (inl true) ∷ []))
    (signs_read right (left ∷ waiting))))
signs_read (Alt left right) waiting =
    fold-append put waiting (signs left) (signs right ++ inr (inl false) ∷ [])
    ∙ (ap (λ (now : List Expression). fold put now (signs right ++ inr (inl false) ∷ []))
    (signs_read left waiting)
    ∙ (fold-append put (left ∷ waiting) (signs right) (inr (inl false) ∷ [])
    ∙ ap (λ (now : List Expression). fold put now (inr (inl false) ∷ []))
    (signs_read right (left ∷ waiting))))
signs_read (Star body) waiting =
    fold-append put waiting (signs body) (inr (inr (Some true)) ∷ [])
    ∙ ap (λ (now : List Expression). fold put now (inr (inr (Some true)) ∷ []))
    (signs_read body waiting)
signs_read (Plus body) waiting =
    fold-append put waiting (signs body) (inr (inr (Some false)) ∷ [])
    ∙ ap (λ (now : List Expression). fold put now (inr (inr (Some false)) ∷ []))
    (signs_read body waiting)
signs_read (Opt body) waiting =
    fold-append put waiting (signs body) (inr (inr None) ∷ [])
    ∙ ap (λ (now : List Expression). fold put now (inr (inr None) ∷ [])) (signs_read body waiting)

-- a label as the pair of its fields
abbrev pub label_code : Coded Label
label_code =
    code_by (List ℕ × Bool) (coded× (coded_list coded_ℕ) coded_bool)
    (λ label. (label.name, label.back)) (λ fields. record { name = fields.0; back = fields.1 })
    (λ _. refl)

-- an expression as its labels and operators
abbrev pub expression_code : Coded Expression
expression_code =
    code_by (List Sign)
    (coded_list (coded⊎ label_code (coded⊎ coded_bool (coded_option coded_bool))))
    signs of_signs (λ expression. ap last_of (signs_read expression []))

abbrev pub is_simple : Mode → Bool
is_simple Arbitrary = false
is_simple Simple = true

abbrev pub mode_of : Bool → Mode
mode_of false = Arbitrary
mode_of true = Simple

pub mode_of_is_simple : (mode : Mode) → mode_of (is_simple mode) ≡ mode
mode_of_is_simple Arbitrary = refl
mode_of_is_simple Simple = refl

-- a mode as a test
abbrev pub mode_code : Coded Mode
mode_code = code_by Bool coded_bool is_simple mode_of mode_of_is_simple

-- a window as the pair of its size and its slide
abbrev pub window_code : Coded WindowValue
window_code =
    code_by (ℕ × ℕ) (coded× coded_ℕ coded_ℕ)
    (λ window. (window.size, window.slide)) (λ fields. record { size = fields.0; slide = fields.1 })
    (λ _. refl)

-- a query definition as the tuple of its fields
abbrev pub query_code : Coded Query
query_code =
    code_by (List ℕ × (WindowValue × (Mode × Expression)))
    (coded× (coded_list coded_ℕ) (coded× window_code (coded× mode_code expression_code)))
    (λ query. (query.name, (query.window, (query.mode, query.expr))))
    (λ fields. record {
      name = fields.0;
      window = fields.1.0;
      mode = fields.1.1.0;
      expr = fields.1.1.1;
    })
    (λ _. refl)
