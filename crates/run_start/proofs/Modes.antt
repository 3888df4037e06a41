-- What settings say of a run over streams.
use Rattle.std.proofs.Common.{arith, ◌≡◌, ◌≤◌, ℕ, true, false, List, [], ◌∷◌, length, refl, sym, ap, inl, inr}
use Rattle.std.specs.Prelude.{◌^◌, Option, None, is_some}
use Rattle.rpq_words.specs.declared.settings.Extent.{Extent}
use Rattle.rpq_words.specs.declared.settings.Extent.TheVariants.{Capped, Endless}
use Rattle.rpq_words.specs.declared.settings.RunMode.{RunMode}
use Rattle.rpq_words.specs.declared.settings.RunMode.TheVariants.{Check, Generate, Streams}
use Rattle.rpq_words.specs.declared.settings.StreamSettings.{StreamSettings}
use Rattle.rpq_words.specs.declared.settings.StreamSettings.TheVariants.{BothWays, Forwards}
use Rattle.rpq_words.specs.declared.settings.Input.{Input}
use Rattle.rpq_words.specs.declared.settings.Input.TheVariants.{Fresh, Resumed}
use Rattle.rpq_words.specs.Modes.{AreSettings, IsInput, IsMode, IsWithin}
use Rattle.rpq_words.specs.declared.settings.Settings.{Settings}
use Rattle.rpq_words.specs.Options.{◌>>=◌}
use Rattle.rpq_words.specs.Views.{asks_in, asks_of, cap_in, cap_of, forwards_in, from_in, from_of}
use Rattle.rpq_words.specs.Views.{faults_of, is_endless, is_endless_in, mode_of, names_in, paths_in, paths_of}
use Rattle.rpq_words.specs.Views.{streams_in, streams_of, readers_in, readers_of, two_way_in, two_way_of}
use Rattle.stream_tuples.specs.Limits.{byte_limit, byte_limit_of, endless_byte_limit}
use Rattle.stream_tuples.proofs.ByteLimits.{endless_limit, kept_limit}
use Rattle.stream_tuples.specs.History.{policy_of_sinks}
use Rattle.run_start.specs.Given.{policy_of}

-- 1 to 64 streams are read
pub some_streams : (given : Settings) (run : StreamSettings) → mode_of given ≡ Streams run
    → AreSettings given → IsWithin 64 (length (streams_of given))
some_streams given run is are = by (mode_of given) is are.mode
  where
    by_input : (save : Option _) (input : Input) → IsInput save input
        → IsWithin 64 (length (names_in input))
    by_input save (Fresh streams) within = within
    by_input save (Resumed from stream) another = (omega arith, omega arith)

    by : (mode : RunMode) → mode ≡ Streams run → IsMode mode → IsWithin 64
        (length (streams_in mode))
    by (Check directions) is within = absurd (cc is)
    by (Generate directions count) is within = absurd (cc is)
    by (Streams (BothWays both)) is within = within
    by (Streams (Forwards forwards)) is within = by_input forwards.save forwards.input within

-- at most 64 files are named for their faulty lines
pub few_faults : (given : Settings) → AreSettings given → length (faults_of given) ≤ 64
few_faults given are = elim are.faults [
  | inl none ↦ omega (arith, ap length none)
  | inr each ↦ omega (arith, each, few_streams (mode_of given) are.mode)
]
  where
    few_streams : (mode : RunMode) → IsMode mode → length (streams_in mode) ≤ 64
    few_streams (Check directions) is = omega arith
    few_streams (Generate directions count) is = omega arith
    few_streams (Streams (BothWays both)) within = within.1
    few_streams (Streams (Forwards forwards)) within = by_input forwards.save forwards.input within
      where
        by_input : (save : Option (List ℕ)) (input : Input) → IsInput save input
            → length (names_in input) ≤ 64
        by_input save (Fresh streams) within = within.1
        by_input save (Resumed from stream) another = omega arith

-- what becomes of faulty lines shows in whether there are sinks for them
pub same_policy : {K : Type 0} (given : Settings) (sinks : List K)
    → length sinks ≡ length (faults_of given) → policy_of_sinks sinks ≡ policy_of given
same_policy {K} given sinks as_many = by sinks (faults_of given) as_many
  where
    by : (all : List K) (names : List (List ℕ)) → length all ≡ length names
        → policy_of_sinks all ≡ policy_of_sinks names
    by [] [] same = refl
    by [] (name ∷ names) same = absurd (omega (arith, same))
    by (sink ∷ all) [] same = absurd (omega (arith, same))
    by (sink ∷ all) (name ∷ names) same = refl

-- and one where a saved window is read first
pub one_stream : (given : Settings) → true ≡ is_some (from_of given)
    → length (streams_of given) ≡ 1
one_stream given is = by (mode_of given) is
  where
    by_input : (input : Input) → true ≡ is_some (from_in input) → length (names_in input) ≡ 1
    by_input (Fresh streams) is = absurd (cc is)
    by_input (Resumed from stream) is = refl

    by : (mode : RunMode) → true ≡ is_some (forwards_in mode >>= λ run. from_in run.input)
        → length (streams_in mode) ≡ 1
    by (Check directions) is = absurd (cc is)
    by (Generate directions count) is = absurd (cc is)
    by (Streams (BothWays both)) is = absurd (cc is)
    by (Streams (Forwards forwards)) is = by_input forwards.input is

-- nobody asks where edges may be taken backwards
pub unasked : (given : Settings) → two_way_of given ≡ true → asks_of given ≡ None
unasked given is = by (mode_of given) is
  where
    by : (mode : RunMode) → two_way_in mode ≡ true → (forwards_in mode >>= λ run. asks_in run.asked) ≡ None
    by (Check directions) is = refl
    by (Generate directions count) is = refl
    by (Streams (BothWays both)) is = refl
    by (Streams (Forwards forwards)) is = absurd (cc is)

-- nor does a reader beside the run
pub no_readers : (given : Settings) → two_way_of given ≡ true → readers_of given ≡ []
no_readers given is = by (mode_of given) is
  where
    by : (mode : RunMode) → two_way_in mode ≡ true → readers_in (forwards_in mode) ≡ []
    by (Check directions) is = refl
    by (Generate directions count) is = refl
    by (Streams (BothWays both)) is = refl
    by (Streams (Forwards forwards)) is = absurd (cc is)

-- and no path is told there
pub forwards_alone : (given : Settings) → paths_of given ≡ true → two_way_of given ≡ false
forwards_alone given is = by (mode_of given) is
  where
    by : (mode : RunMode) → paths_in (forwards_in mode) ≡ true → two_way_in mode ≡ false
    by (Check directions) is = absurd (cc is)
    by (Generate directions count) is = absurd (cc is)
    by (Streams (BothWays both)) is = absurd (cc is)
    by (Streams (Forwards forwards)) is = refl

-- how many bytes its streams may have, as long as they go on
pub endless_bytes : (given : Settings) → is_endless given ≡ true
    → endless_byte_limit ≡ byte_limit_of (cap_of given)
endless_bytes given is = by given.extent is
  where
    by : (extent : Extent) → is_endless_in extent ≡ true
        → endless_byte_limit ≡ byte_limit_of (cap_in extent)
    by (Capped history mode) is = absurd (cc is)
    by (Endless run) is = sym (endless_limit (2 ^ 61) (omega arith))

-- and where the history has a cap
pub capped_bytes : (given : Settings) → AreSettings given → is_endless given ≡ false
    → byte_limit ≡ byte_limit_of (cap_of given)
capped_bytes given are is =
    let within = are.cap is in
    sym (kept_limit (cap_of given) (omega (arith, within.1)))
