-- What a refused search for a certificate leaves.
use Rattle.std.specs.Prelude.{◌≡◌, ℕ, List, Option, Result}
use Rattle.bvd_host.specs.Files.{Files}
use Rattle.bvd_host.specs.Causes.{Rose, HasCauses, ComesExactlyAbsent}
use Rattle.cert_store.specs.declared.stop.StoreStop.{StoreStop}
use Rattle.cert_store.specs.declared.stop.StoreStop.TheVariants.{Absent, Failed}

-- a search for a name, refused or not, between two states of a keeper: its files stay, and its counts go as the answer says
pub record IsSearch {K T : Type 0} (files : K → Option Files) (faults missing : K → ℕ) (before after : K) (name : List ℕ) (result : Result T StoreStop) : Type 0 where
  pub kept : files after ≡ files before
  pub absent : ComesExactlyAbsent Absent (files before) name (Rose (missing before) (missing after)) result
  pub cause : HasCauses Failed Absent (faults before) (faults after) (missing before) (missing after) result

-- a state of the keeper is reached by such a search
abbrev pub IsReached : {K T : Type 0} → (K → Option Files) → (K → ℕ) → (K → ℕ) → K → List ℕ → Result T StoreStop → Type 0
IsReached {K = K} files faults missing before name result = (after : K) × IsSearch files faults missing before after name result
