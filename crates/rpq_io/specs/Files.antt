-- Files by name, as those see them who open them.
use Rattle.std.specs.Prelude.{◌≡◌, ℕ, Bool, false, List, [], Option, IfSome}

-- nothing that the files hold and no name opened to write changes
pub record KeepsFiles {F : Type 0} (holds : F → List ℕ → Option (List ℕ))
    (made : F → List (List ℕ)) (old new : F) : Type 0 where
  pub bytes : (any : List ℕ) → holds new any ≡ holds old any
  pub names : made new ≡ made old

-- a source that wasn't read yet: all bytes of its file are left, it didn't tell its end, and no
-- read of it failed
pub record IsNewSource {S : Type 0} (left : S → Option (List ℕ)) (has_told_end : S → Bool)
    (faults : S → ℕ) (file : Option (List ℕ)) (source : S) : Type 0 where
  pub content : left source ≡ file
  pub untold : has_told_end source ≡ false
  pub no_fault : faults source ≡ 0

-- a sink on which nothing was written yet, and of which no write failed
pub record IsNewSink {K : Type 0} (written : K → Option (List ℕ)) (faults : K → ℕ)
    (sink : K) : Type 0 where
  pub empty : IfSome (written sink) (λ bytes. bytes ≡ [])
  pub no_fault : faults sink ≡ 0
