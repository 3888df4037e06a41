-- The queries of a file have windows that move, and a file gives one list of joins.
use Rattle.std.proofs.Common.{◌≡◌, ℕ, suc, ◌<◌, Bool, true, false, List, [], ◌∷◌, ◌++◌, Option, Some, None}
use Rattle.std.proofs.Common.{Result, Ok, refl, sym, ◌∙◌, arith}
use Rattle.std.specs.Prelude.{All, IfOk, nat_le, if◌then◌else◌}
use Rattle.std.specs.Option.{option_and_then}
use Rattle.std.proofs.lemmas.Bool.{leb-true}
use Rattle.std.proofs.lemmas.List.Elements.{All-nil, All-push}
use Rattle.text_parts.specs.Lines.{lines}
use Rattle.text_parts.specs.Numbers.{number_within}
use Rattle.rpq_base.specs.declared.data.TheConstants.{MAX_TIME}
use Rattle.rpq_model.specs.Query.{Query}
use Rattle.join_file.specs.declared.fault.JoinFileFault.{JoinFileFault}
use Rattle.join_file.specs.Joins.{JoinValue}
use Rattle.query_file.specs.declared.fault.QueryFault.{QueryFault}
use Rattle.query_file.specs.Queries.{Gives, AtEnd, NoneAtEnd, PassedOver, OneMore, Faulty}
use Rattle.query_file.specs.QueryLine.{length_of}
use Rattle.run_start.specs.Files.{HasQueries}
use Rattle.rpq_run.specs.Headline.{AreJoined}

-- the query's window moves
abbrev pub Moves : Query → Type 0
Moves query = 0 < query.window.slide

-- a length of time isn't 0
length_is_some : (text : List ℕ) (time : ℕ) → length_of text ≡ Some time → 0 < time
unfolding length_of
length_is_some text time is = by (number_within MAX_TIME text) is
  where
    tested : (test : Bool) (number : ℕ) → nat_le 1 number ≡ test →
        (if test then Some number else None) ≡ Some time → 0 < time
    tested true number passes found =
        let same : number ≡ time = cc found in
        omega (arith, same, leb-true 1 number passes)
    tested false number passes found = absurd (cc found)

    by : (number : Option ℕ) → option_and_then (λ (n : ℕ). if nat_le 1 n then Some n else None) number ≡ Some time → 0 < time
    by None found = absurd (cc found)
    by (Some number) found = tested (nat_le 1 number) number refl found

gives_moving : (inverses : Bool) (texts : List (List ℕ)) (queries : List Query) (count : ℕ) (outcome : Result (List Query) QueryFault) →
    All Moves queries → Gives inverses queries count texts outcome → IfOk outcome (λ all. All Moves all)
gives_moving inverses [] queries count _ all (AtEnd _ _ some) = all
gives_moving inverses [] _ count _ all (NoneAtEnd _) = tt
gives_moving inverses (line ∷ rest) queries count outcome all (PassedOver _ _ _ _ _ over gives) =
    gives_moving inverses rest queries (suc count) outcome all gives
gives_moving inverses (line ∷ rest) queries count outcome all (OneMore _ _ _ _ _ query is line_of gives) =
    gives_moving inverses rest (queries ++ query ∷ []) (suc count) outcome
    (All-push Moves queries query all (length_is_some line_of.parts.slide query.window.slide line_of.slide)) gives
gives_moving inverses (line ∷ rest) queries count _ all (Faulty _ _ _ _ kind is fault) = tt

-- the windows of a file's queries move
pub file_moves : (two_way : Bool) (bytes : List ℕ) (queries : List Query) → HasQueries two_way bytes queries → All Moves queries
file_moves two_way bytes queries has = gives_moving two_way (lines bytes) [] 0 (Ok queries) (All-nil Moves) has.1

-- a file of joins, or none, gives one list of joins
pub one_list_of_joins : (queries : List Query) (file : Option (List ℕ)) (joins others : List JoinValue) →
    AreJoined queries file joins → AreJoined queries file others → joins ≡ others
one_list_of_joins queries None joins others are also = are ∙ sym also
one_list_of_joins queries (Some bytes) joins others are also =
    let same : ◌≡◌ {A = Result (List JoinValue) JoinFileFault} (Ok joins) (Ok others) = sym are.1 ∙ also.1 in
    cc same
