use Rattle.std.proofs.Common.{◌≡◌, ℕ, Bool, false, List, ◌++◌, ap, sym, ◌∙◌, rules}
use Rattle.std.specs.Prelude.{codes, if◌then◌else◌}
use Rattle.std.specs.List.{list_all}
use Rattle.path_syntax.specs.Grammar.{is_bare_byte, quoted}
use Rattle.path_syntax.specs.Written.{written_name}
use Rattle.rpq_run.proofs.ErrorTexts.{tells_as, tells_failed, tells_then}
use Rattle.rpq_run.proofs.word_texts.put_name.Goals as goal

-- a name in quotes
in_quotes : (name : List ℕ) → list_all is_bare_byte name ≡ false
    → codes "\"" ++ (quoted name ++ codes "\"") ≡ written_name name
in_quotes name unfit = sym (ap (λ (b : Bool). if b then name else codes "\"" ++ quoted name ++ codes "\"") unfit)

pub returns-in_err-put_piece : goal.returns-in_err-put_piece
returns-in_err-put_piece g c =
    let name = c.args.name.now in
    tells_as (in_quotes name (sym c.is_bare.ensures ∙ c.if-is_bare.false))
    (tells_failed (quoted name ++ codes "\"") (search rules) c.in_err-put_piece.ensures)

pub returns-in_err-put_quoted : goal.returns-in_err-put_quoted
returns-in_err-put_quoted g c =
    tells_as (in_quotes c.args.name.now (sym c.is_bare.ensures ∙ c.if-is_bare.false))
    (tells_then c.in_ok-put_piece.ensures (tells_failed (codes "\"") (search rules) c.in_err-put_quoted.ensures))

pub returns : goal.returns
returns g c =
    tells_as (in_quotes c.args.name.now (sym c.is_bare.ensures ∙ c.if-is_bare.false))
    (tells_then c.in_ok-put_piece.ensures (tells_then c.in_ok-put_quoted.ensures c.put_piece-3.ensures))
