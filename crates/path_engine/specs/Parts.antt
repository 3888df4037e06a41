-- The shares of a front that are dealt to workers. No public contract cites this file.
use Rattle.std.specs.Prelude.{◌≡◌, ℕ, ◌<◌, List, length, slice_index_or}
use Rattle.std.specs.List.{flat_map}
use Rattle.rpq_base.specs.declared.data.Entry.{Entry}
use Rattle.query_file.specs.Compiled.{CompiledValue}
use Rattle.path_engine.specs.declared.front.Share.{Share}
use Rattle.path_engine.specs.declared.parts.Part.{Part}
use Rattle.path_engine.specs.Front.{AreReady, HaveFed}

-- the shares of all parts, those of the first part first
abbrev pub shares_in : List Part → List Share
shares_in parts = flat_map (λ (part : Part). part.shares.items) parts

-- the shares of each part are ready for so many entries
abbrev pub AreReadyParts : ℕ → List CompiledValue → List (List ℕ) → List Part → Type 0
AreReadyParts more queries names parts = (place : ℕ) (part : Part) → place < length parts →
    part ≡ slice_index_or parts place part → AreReady more queries names part.shares.items

-- the queries of the shares of each part took the entries into them
abbrev pub HaveFedParts : List CompiledValue → List (List ℕ) → List Entry → List Part →
    List Part → Type 0
HaveFedParts queries names entries olds news = (place : ℕ) (d : Part) → place < length olds →
    HaveFed queries names entries (slice_index_or olds place d).shares.items
    (slice_index_or news place d).shares.items
