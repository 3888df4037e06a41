-- What a parse of the command shows of the words.
use Rattle.std.proofs.Common.{rules, ◌≡◌, ◌∙◌, ap, sym, refl, true, false, inl, inr, List, [], ◌∷◌}
use Rattle.clap.specs.Walk.{Row, Text, is_empty}
use Rattle.clap.specs.Simple.{App, is_simple, matches_of}
use Rattle.clap.specs.Faults.{fault_of, is_simple_and_free}
use Rattle.clap.specs.Kinds.{HasKind, Kinds}
use Rattle.clap.specs.Values.{kind_of}
use Rattle.clap.specs.declared.error.Error.{Error}
use Rattle.clap.specs.declared.error.kind.ErrorKind.TheVariants.{OutOfMemory}
use Rattle.clap.proofs.OnLiterals.{clap_on_literals}
use Rattle.rpq_words.specs.Command.{found_in, is_taken, rpq_command}

command_is_simple : is_simple rpq_command ≡ true
unfolding clap_on_literals rpq_command
command_is_simple = refl

command_is_free : is_simple_and_free rpq_command ≡ true
unfolding clap_on_literals rpq_command
command_is_free = refl

-- words in which the command finds no fault are taken
pub taken_from : (command : App) (words : List Text) → command ≡ rpq_command →
    (is_simple_and_free command ≡ true → fault_of command words ≡ []) → is_taken words ≡ true
unfolding is_taken
taken_from command words same none =
    ap is_empty
    (ap (λ app. fault_of app words) (sym same)
    ∙ none (ap is_simple_and_free same ∙ command_is_free))

some_kind : (kinds : Kinds) (error : Error) → HasKind kinds error →
    (kind_of error ≡ OutOfMemory → ⊥) → is_empty kinds ≡ false
some_kind [] error (inl memory) other = absurd (other memory)
some_kind [] error (inr none) other = absurd none
some_kind (kind ∷ kinds) error has other = search rules

-- words of which the parse fails for another cause than out of memory aren't
pub refused_from : (command : App) (words : List Text) (error : Error) → command ≡ rpq_command →
    (is_simple_and_free command ≡ true → HasKind (fault_of command words) error) →
    (kind_of error ≡ OutOfMemory → ⊥) → is_taken words ≡ false
unfolding is_taken
refused_from command words error same has other =
    ap (λ app. is_empty (fault_of app words)) (sym same)
    ∙ some_kind (fault_of command words) error
    (has (ap is_simple_and_free same ∙ command_is_free)) other

-- the rows of a parse are those that the definition gives
pub found_from : (command : App) (words : List Text) (rows : List Row) → command ≡ rpq_command →
    (is_simple command ≡ true → rows ≡ matches_of command words) → rows ≡ found_in words
unfolding found_in
found_from command words rows same are =
    are (ap is_simple same ∙ command_is_simple) ∙ ap (λ app. matches_of app words) same
