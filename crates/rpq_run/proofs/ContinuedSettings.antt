-- The settings of a run that saves its window, and of one that begins with such a window.
use Rattle.std.proofs.Common.{◌≡◌, ℕ, Bool, true, false, List, [], ◌∷◌, map, Option, Some, None, refl}
use Rattle.std.specs.Prelude.{is_some, option_map}
use Rattle.rpq_words.specs.declared.settings.Input.{Input}
use Rattle.rpq_words.specs.declared.settings.Input.TheVariants.{Fresh, Resumed}
use Rattle.rpq_words.specs.declared.settings.RunMode.{RunMode}
use Rattle.rpq_words.specs.declared.settings.RunMode.TheVariants.{Check, Generate, Streams}
use Rattle.rpq_words.specs.declared.settings.Settings.{Settings}
use Rattle.rpq_words.specs.declared.settings.StreamSettings.TheVariants.{Forwards, BothWays}
use Rattle.rpq_words.specs.Options.{◌>>=◌}
use Rattle.rpq_words.specs.Views.{forwards_in, from_in, from_of, mode_of, names_in, save_of, streams_in}
use Rattle.rpq_words.specs.Views.{streams_of, two_way_in, two_way_of}

-- a run that saves takes edges forwards alone
saves_forwards : (mode : RunMode) → is_some (forwards_in mode >>= λ run. run.save) ≡ true → two_way_in mode ≡ false
saves_forwards (Check directions) is = absurd (cc is)
saves_forwards (Generate directions count) is = absurd (cc is)
saves_forwards (Streams (BothWays streams)) is = absurd (cc is)
saves_forwards (Streams (Forwards run)) is = refl

pub save_is_forwards : (given : Settings) → is_some (save_of given) ≡ true → two_way_of given ≡ false
save_is_forwards given is = saves_forwards (mode_of given) is

-- one that begins with a saved window takes edges forwards alone, and has one stream
pub record IsResumed (two_way : Bool) (streams : List (List ℕ)) : Type 0 where
  pub forwards : two_way ≡ false
  pub stream : List ℕ
  pub one : streams ≡ stream ∷ []

begins_resumed : (input : Input) (name : List ℕ) → from_in input ≡ Some name → IsResumed false (names_in input)
begins_resumed (Fresh streams) name is = absurd (cc is)
begins_resumed (Resumed from stream) name is = record { forwards = refl; stream = stream; one = refl }

mode_resumed : (mode : RunMode) (name : List ℕ) → (forwards_in mode >>= λ run. from_in run.input) ≡ Some name →
    IsResumed (two_way_in mode) (streams_in mode)
mode_resumed (Check directions) name is = absurd (cc is)
mode_resumed (Generate directions count) name is = absurd (cc is)
mode_resumed (Streams (BothWays streams)) name is = absurd (cc is)
mode_resumed (Streams (Forwards run)) name is = begins_resumed run.input name is

some_name : (holds : List ℕ → Option (List ℕ)) (named : Option (List ℕ)) (bytes : List ℕ) →
    option_map holds named ≡ Some (Some bytes) → (name : List ℕ) × (named ≡ Some name)
some_name holds None bytes is = absurd (cc is)
some_name holds (Some name) bytes is = (name, refl)

pub from_is_resumed : (given : Settings) (holds : List ℕ → Option (List ℕ)) (bytes : List ℕ) →
    option_map holds (from_of given) ≡ Some (Some bytes) → IsResumed (two_way_of given) (streams_of given)
from_is_resumed given holds bytes is =
    let named = some_name holds (from_of given) bytes is in
    mode_resumed (mode_of given) named.0 named.1

-- the one stream's bytes, where they are told
pub one_told : (holds : List ℕ → Option (List ℕ)) (name : List ℕ) (texts : List (List ℕ)) →
    map holds (name ∷ []) ≡ map (λ (bytes : List ℕ). Some bytes) texts → (stream : List ℕ) × (texts ≡ stream ∷ [])
one_told holds name [] is = absurd (cc is)
one_told holds name (stream ∷ []) is = (stream, refl)
one_told holds name (stream ∷ other ∷ texts) is = absurd (cc is)
