-- Files found by a test.
use Rattle.std.proofs.Common.{◌≢◌, ℕ, bytes_eq, ◌≡◌, Bool, true, false, cond, List, [], ◌∷◌, ◌++◌}
use Rattle.std.proofs.Common.{Option, Some, None, option_map, find, refl, ap, ◌∙◌}
use Rattle.std.specs.Option.{option_or}
use Rattle.std.proofs.lemmas.List.Folds.{find-append}
use Rattle.rpq_io.specs.Memory.{FileBytes, file_named}
use Rattle.rpq_io.proofs.Names.{bytes_eq-same, bytes_eq-other}

-- what is found where nothing was, and then there is a value
or_added : {A B : Type 0} (image : A → B) (found : Option A) (value : A)
    → option_map image found ≡ None
    → option_map image (option_or found (Some value)) ≡ Some (image value)
or_added image None value absent = refl
or_added image (Some other) value absent = cc

-- what was found stays where nothing is added
or_none : {A : Type 0} (found : Option A) → option_or found None ≡ found
or_none None = refl
or_none (Some value) = refl

-- the value that is added is found where none passed the test, and it does
find_added : {A B : Type 0} (image : A → B) (test : A → Bool) (values : List A) (value : A)
    → option_map image (find test values) ≡ None → test value ≡ true
    → option_map image (find test (values ++ value ∷ [])) ≡ Some (image value)
find_added image test values value absent passes =
    ap (option_map image)
    (find-append test values (value ∷ []) ∙ ap (λ last. option_or (find test values)
    (cond last (Some value) None)) passes)
    ∙ or_added image (find test values) value absent

-- a value that fails the test changes nothing
find_others : {A : Type 0} (test : A → Bool) (values : List A) (value : A)
    → test value ≡ false → find test (values ++ value ∷ []) ≡ find test values
find_others test values value fails =
    find-append test values (value ∷ [])
    ∙ ap (λ last. option_or (find test values) (cond last (Some value) None)) fails
    ∙ or_none (find test values)

-- a file that is added where none has its name is found by it
pub file_added : (before after : List FileBytes) (file : FileBytes) (name : List ℕ)
    → after ≡ before ++ file ∷ [] → file.name ≡ name
    → option_map (λ file. file.bytes) (file_named name before) ≡ None
    → option_map (λ file. file.bytes) (file_named name after) ≡ Some file.bytes
file_added before after file name added is absent =
    ap (λ files. option_map (λ (file : FileBytes). file.bytes) (file_named name files)) added
    ∙ find_added (λ (file : FileBytes). file.bytes)
    (λ (file : FileBytes). bytes_eq file.name name) before file absent
    (ap (λ bytes. bytes_eq bytes name) is ∙ bytes_eq-same name)

-- the files of other names are found as before
pub file_others : (before after : List FileBytes) (file : FileBytes) (name other : List ℕ)
    → after ≡ before ++ file ∷ [] → file.name ≡ name → other ≢ name
    → option_map (λ file. file.bytes) (file_named other after) ≡ option_map (λ file. file.bytes)
    (file_named other before)
file_others before after file name other added is differs =
    ap (λ files. option_map (λ (file : FileBytes). file.bytes) (file_named other files)) added
    ∙ ap (option_map (λ (file : FileBytes). file.bytes))
    (find_others (λ (file : FileBytes). bytes_eq file.name other) before file
    (ap (λ bytes. bytes_eq bytes other) is ∙ bytes_eq-other name other differs))
