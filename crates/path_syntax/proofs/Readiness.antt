-- The name that stands directly before the next byte stays a name as far as it goes.
use Rattle.std.proofs.Common.{◌≡◌, ◌≢◌, ℕ, Bool, ◌≤◌, true, List, [], ◌∷◌, ◌++◌, length, Some, refl, arith}
use Rattle.std.proofs.lemmas.List.{length_push}
use Rattle.std.proofs.lemmas.Bool.{and_parts, and_from, le-leb}
use Rattle.rpq_base.specs.Names.{is_name_byte, is_name, IsName}
use Rattle.path_syntax.specs.Grammar.{AreNameBytes}
use Rattle.path_syntax.specs.Reading.{FrameValue, ModeValue, StateValue, step, IsReady, name_length}
use Rattle.path_syntax.proofs.Meaning.{bare_is_named}
use Rattle.path_syntax.proofs.Steps.{Leads, OperandBlank, OperandOpen, OperandCaret, OperandQuote, OperandBare, BareMore, QuotedMore, QuotedBackslash, QuotedEnd, EscapeQuote, EscapeBackslash, PrimaryBlank, PrimaryStar, PrimaryPlus, PrimaryOpt, ElementBlank, ElementSlash, ElementBar, ElementClose, step_leads}
use Rattle.path_syntax.proofs.Soundness.{all_push}

name_push : (name : List ℕ) (byte : ℕ) → AreNameBytes name → is_name_byte byte ≡ true → length (name ++ byte ∷ []) ≤ 255 → IsName (name ++ byte ∷ [])
unfolding is_name
name_push name byte named allowed short =
    and_from _ _ (and_from _ _ (le-leb 1 (length (name ++ byte ∷ [])) (omega (arith, length_push name byte))) (le-leb (length (name ++ byte ∷ [])) 255 short))
    (all_push is_name_byte name byte named allowed)

name_bytes : (name : List ℕ) → IsName name → AreNameBytes name
unfolding is_name
name_bytes name is = (and_parts _ _ is).1

so_far : (name : List ℕ) → (name ≢ [] → IsName name) → AreNameBytes name
so_far [] is = refl
so_far (byte ∷ name) is = name_bytes (byte ∷ name) (is (λ h. cc))

ready_lead : {inverses : Bool} {outer : List FrameValue} {frame : FrameValue} {mode : ModeValue} {byte : ℕ} {after : StateValue} → Leads inverses outer frame mode byte after →
    IsReady mode → name_length after.mode ≤ 255 → IsReady after.mode
ready_lead (OperandBlank outer frame back byte blank) ready short = tt
ready_lead (OperandOpen outer frame) ready short = tt
ready_lead (OperandCaret outer frame taken) ready short = tt
ready_lead (OperandQuote outer frame back) ready short = λ some. absurd (some refl)
ready_lead (OperandBare outer frame back byte bare) ready short = name_push [] byte refl (bare_is_named byte bare) (omega arith)
ready_lead (BareMore outer frame name back byte bare) ready short = name_push name byte (name_bytes name ready) (bare_is_named byte bare) short
ready_lead (QuotedMore outer frame name back byte named quote backslash) ready short = λ _. name_push name byte (so_far name ready) named short
ready_lead (QuotedBackslash outer frame name back) ready short = ready
ready_lead (QuotedEnd outer frame first name back) ready short = tt
ready_lead (EscapeQuote outer frame name back) ready short = λ _. name_push name 34 (so_far name ready) refl short
ready_lead (EscapeBackslash outer frame name back) ready short = λ _. name_push name 92 (so_far name ready) refl short
ready_lead (PrimaryBlank outer frame mode e byte is blank) ready short = tt
ready_lead (PrimaryStar outer frame mode e is) ready short = tt
ready_lead (PrimaryPlus outer frame mode e is) ready short = tt
ready_lead (PrimaryOpt outer frame mode e is) ready short = tt
ready_lead (ElementBlank outer frame e byte blank) ready short = tt
ready_lead (ElementSlash outer frame mode e ends) ready short = tt
ready_lead (ElementBar outer frame mode e ends) ready short = tt
ready_lead (ElementClose other outer frame mode e ends) ready short = tt

pub stays_ready : (inverses : Bool) (state : StateValue) (byte : ℕ) (after : StateValue) → step inverses state byte ≡ Some after → IsReady state.mode →
    name_length after.mode ≤ 255 → IsReady after.mode
stays_ready inverses state byte after e ready short = ready_lead (step_leads inverses state byte after e) ready short
