-- What is known of a call that gives what reading gives.
use Rattle.std.proofs.Common.{◌≡◌, ◌≢◌, ℕ, Bool, ◌≤◌, ◌⊎◌, List, [], ◌∷◌, length, Result, Ok, Err, refl, sym, ◌∙◌, subst, inl, inr, arith, length-append}
use Rattle.std.specs.Result.{IfOk, MatchResult}
use Rattle.path_syntax.specs.declared.read.BadExpr.{BadExpr}
use Rattle.path_syntax.specs.declared.read.BadExpr.TheVariants.{Unexpected, Ended, TooLarge, LongName, Memory}
use Rattle.path_syntax.specs.Expression.{Expression}
use Rattle.path_syntax.specs.Grammar.{one_way, IsLabel, Bare, Quoted, IsAlternative, OneSequence, Either, IsSequence, OneElement, Then, IsElement, Once, Starred, Plussed, Optional, IsPrimary, Named, Inverse, InParentheses, IsText}
use Rattle.path_syntax.specs.Faults.{IsWithinLimits, IsFault, IsOutcomeOf, Whole, Faulty, Tells}
use Rattle.path_syntax.specs.Plain.{IsPlainExpression}
use Rattle.path_syntax.specs.Size.{nodes}
use Rattle.path_syntax.specs.Reading.{reading, Gives}
use Rattle.path_syntax.proofs.Limits.{outcome}
use Rattle.path_syntax.specs.GrammarLaws.{OneOutcome}
use Rattle.path_syntax.proofs.OneFault.{outcome_is_read}
use Rattle.path_syntax.proofs.OneFault as fault

-- the expression that is read, with its text
pub record IsFound (inverses : Bool) (bytes : List ℕ) (e : Expression) : Type 0 where
  pub text : IsAlternative inverses bytes e
  pub limits : IsWithinLimits inverses bytes

by_ok : (inverses : Bool) (bytes : List ℕ) (read : Result Expression BadExpr) → IsOutcomeOf inverses bytes read → (e : Expression) → read ≡ Ok e → IsFound inverses bytes e
by_ok inverses bytes read (Whole f text limits) e is = let same : f ≡ e = cc in record { text = subst (IsAlternative inverses bytes) same text; limits = limits }
by_ok inverses bytes read (Faulty fault has) e is = absurd cc

is_found : (inverses : Bool) (bytes : List ℕ) (e : Expression) → reading inverses bytes ≡ Ok e → IsFound inverses bytes e
is_found inverses bytes e is = by_ok inverses bytes (reading inverses bytes) (outcome inverses bytes) e is

by_err : (inverses : Bool) (bytes : List ℕ) (read : Result Expression BadExpr) → IsOutcomeOf inverses bytes read → (fault : BadExpr) → read ≡ Err fault → IsFault inverses fault bytes
by_err inverses bytes read (Whole f text limits) fault is = absurd cc
by_err inverses bytes read (Faulty other has) fault is = let same : other ≡ fault = cc in subst (λ f. IsFault inverses f bytes) same has

pub has_fault : (inverses : Bool) (bytes : List ℕ) (fault : BadExpr) → reading inverses bytes ≡ Err fault → IsFault inverses fault bytes
has_fault inverses bytes fault is = by_err inverses bytes (reading inverses bytes) (outcome inverses bytes) fault is

-- the labels of a text point forwards
mutual
  alternative_plain : {text : List ℕ} {e : Expression} → IsAlternative one_way text e → IsPlainExpression e
  alternative_plain (OneSequence s) = sequence_plain s
  alternative_plain (Either left right a s) = (alternative_plain a, sequence_plain s)

  sequence_plain : {text : List ℕ} {e : Expression} → IsSequence one_way text e → IsPlainExpression e
  sequence_plain (OneElement l) = element_plain l
  sequence_plain (Then left right s l) = (sequence_plain s, element_plain l)

  element_plain : {text : List ℕ} {e : Expression} → IsElement one_way text e → IsPlainExpression e
  element_plain (Once p) = primary_plain p
  element_plain (Starred text after p a) = primary_plain p
  element_plain (Plussed text after p a) = primary_plain p
  element_plain (Optional text after p a) = primary_plain p

  primary_plain : {text : List ℕ} {e : Expression} → IsPrimary one_way text e → IsPlainExpression e
  primary_plain (Named before text after b l a) = refl
  primary_plain (Inverse before between text after taken b w l a) = absurd cc
  primary_plain (InParentheses before inside after b i a) = alternative_plain i

pub plain_text : (bytes : List ℕ) (e : Expression) → IsText bytes e → IsPlainExpression e
plain_text bytes e text = alternative_plain text

label_some : {text name : List ℕ} → IsLabel text name → 1 ≤ length text
label_some (Bare [] some bare) = absurd (some refl)
label_some (Bare (byte ∷ name) some bare) = omega arith
label_some (Quoted name some named) = omega arith

-- an expression has no more nodes than its text has bytes
mutual
  alternative_size : {inverses : Bool} {text : List ℕ} {e : Expression} → IsAlternative inverses text e → nodes e ≤ length text
  alternative_size (OneSequence s) = sequence_size s
  alternative_size (Either left right a s) =
      let first = alternative_size a in let second = sequence_size s in
      simp length-append (omega arith)

  sequence_size : {inverses : Bool} {text : List ℕ} {e : Expression} → IsSequence inverses text e → nodes e ≤ length text
  sequence_size (OneElement l) = element_size l
  sequence_size (Then left right s l) =
      let first = sequence_size s in let second = element_size l in
      simp length-append (omega arith)

  element_size : {inverses : Bool} {text : List ℕ} {e : Expression} → IsElement inverses text e → nodes e ≤ length text
  element_size (Once p) = primary_size p
  element_size (Starred text after p a) = let body = primary_size p in simp length-append (omega arith)
  element_size (Plussed text after p a) = let body = primary_size p in simp length-append (omega arith)
  element_size (Optional text after p a) = let body = primary_size p in simp length-append (omega arith)

  primary_size : {inverses : Bool} {text : List ℕ} {e : Expression} → IsPrimary inverses text e → nodes e ≤ length text
  primary_size (Named before text after b l a) = let some = label_some l in simp length-append (omega arith)
  primary_size (Inverse before between text after taken b w l a) = let some = label_some l in simp length-append (omega arith)
  primary_size (InParentheses before inside after b i a) = let body = alternative_size i in simp length-append (omega arith)

pub small_text : (inverses : Bool) (bytes : List ℕ) (e : Expression) → IsAlternative inverses bytes e → nodes e ≤ length bytes
small_text inverses bytes e text = alternative_size text

module _ {X : Type 0} (inverses : Bool) (view : X → Expression) (bytes : List ℕ) where
  pub found : (given : Result X BadExpr) → Gives view given (reading inverses bytes) → IfOk given (λ x. IsFound inverses bytes (view x))
  found (Ok x) gives = is_found inverses bytes (view x) gives
  found (Err fault) gives = tt

  pub whole : (given : Result X BadExpr) → Gives view given (reading inverses bytes) → (e : Expression) → IsAlternative inverses bytes e → IsWithinLimits inverses bytes →
      MatchResult given (λ x. view x ≡ e) (λ fault. fault ≡ Memory)
  whole given gives e text limits = by given gives (outcome_is_read inverses bytes (Ok e) (Whole e text limits))
    where
      by : (given : Result X BadExpr) → Gives view given (reading inverses bytes) → reading inverses bytes ≡ Ok e → MatchResult given (λ x. view x ≡ e) (λ fault. fault ≡ Memory)
      by (Ok x) gives is = let both : Ok (view x) ≡ Ok e = sym gives ∙ is in cc
      by (Err (Unexpected at)) gives is = let both : Err (Unexpected at) ≡ Ok e = sym gives ∙ is in absurd cc
      by (Err Ended) gives is = let both : Err Ended ≡ Ok e = sym gives ∙ is in absurd cc
      by (Err TooLarge) gives is = let both : Err TooLarge ≡ Ok e = sym gives ∙ is in absurd cc
      by (Err (LongName at)) gives is = let both : Err (LongName at) ≡ Ok e = sym gives ∙ is in absurd cc
      by (Err Memory) gives is = refl

  -- the answer is the outcome, unless memory ran out
  pub answered : (given : Result X BadExpr) → Gives view given (reading inverses bytes) →
      MatchResult given (λ x. IsOutcomeOf inverses bytes (Ok (view x))) (λ fault. fault ≢ Memory → IsOutcomeOf inverses bytes (Err fault))
  answered (Ok x) gives = subst (IsOutcomeOf inverses bytes) gives (outcome inverses bytes)
  answered (Err (Unexpected at)) gives = λ other. subst (IsOutcomeOf inverses bytes) gives (outcome inverses bytes)
  answered (Err Ended) gives = λ other. subst (IsOutcomeOf inverses bytes) gives (outcome inverses bytes)
  answered (Err TooLarge) gives = λ other. subst (IsOutcomeOf inverses bytes) gives (outcome inverses bytes)
  answered (Err (LongName at)) gives = λ other. subst (IsOutcomeOf inverses bytes) gives (outcome inverses bytes)
  answered (Err Memory) gives = λ other. absurd (other refl)

  -- a fault that is no out of memory is the bytes' own
  sure : (given : Result X BadExpr) → Gives view given (reading inverses bytes) → (fault : BadExpr) → fault ≢ Memory → given ≡ Err fault → IsFault inverses fault bytes
  sure (Ok x) gives fault other is = absurd cc
  sure (Err Memory) gives fault other is = let same : Memory ≡ fault = cc in absurd (other (sym same))
  sure (Err (Unexpected at)) gives fault other is = let same : Unexpected at ≡ fault = cc in subst (λ f. IsFault inverses f bytes) same (has_fault inverses bytes (Unexpected at) gives)
  sure (Err Ended) gives fault other is = let same : Ended ≡ fault = cc in subst (λ f. IsFault inverses f bytes) same (has_fault inverses bytes Ended gives)
  sure (Err TooLarge) gives fault other is = let same : TooLarge ≡ fault = cc in subst (λ f. IsFault inverses f bytes) same (has_fault inverses bytes TooLarge gives)
  sure (Err (LongName at)) gives fault other is = let same : LongName at ≡ fault = cc in subst (λ f. IsFault inverses f bytes) same (has_fault inverses bytes (LongName at) gives)

  told : (given : Result X BadExpr) → Gives view given (reading inverses bytes) → (fault : BadExpr) → reading inverses bytes ≡ Err fault → (given ≡ Err fault) ⊎ (given ≡ Err Memory)
  told (Ok x) gives fault is = let both : Ok (view x) ≡ Err fault = sym gives ∙ is in absurd cc
  told (Err Memory) gives fault is = inr refl
  told (Err (Unexpected at)) gives fault is = inl (let both : Err (Unexpected at) ≡ Err fault = sym gives ∙ is in cc)
  told (Err Ended) gives fault is = inl (let both : Err Ended ≡ Err fault = sym gives ∙ is in cc)
  told (Err TooLarge) gives fault is = inl (let both : Err TooLarge ≡ Err fault = sym gives ∙ is in cc)
  told (Err (LongName at)) gives fault is = inl (let both : Err (LongName at) ≡ Err fault = sym gives ∙ is in cc)

  pub tells : (given : Result X BadExpr) → Gives view given (reading inverses bytes) → (fault : BadExpr) → fault ≢ Memory → Tells given fault (IsFault inverses fault bytes)
  tells given gives fault other = record {
    sure = sure given gives fault other;
    told = λ has. told given gives fault (outcome_is_read inverses bytes (Err fault) (Faulty fault has));
  }

pub one_outcome : (inverses : Bool) (bytes : List ℕ) → OneOutcome inverses bytes
one_outcome inverses bytes = record { some = (reading inverses bytes, outcome inverses bytes); one = fault.one_outcome inverses bytes }
