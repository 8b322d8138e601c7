-- How a run ends, by the order of its steps: the words, the files, the certificates, the report.
use Rattle.std.specs.Prelude.{◌≡◌, ◌≢◌, ◌⊎◌, ℕ, ◌+◌, ◌<◌, ◌≤◌, List, [], ◌++◌, length, take, Option, Some, None, option_map, Result, Ok, Err}
use Rattle.bvd_host.specs.Files.{Files}
use Rattle.bvd_host.specs.Causes.{Rose}
use Rattle.bvd_host.specs.Outside.{Outside, KeeperFailed, SinkFailed}
use Rattle.bvd_top.specs.declared.stop.Stop.{Stop}
use Rattle.bvd_top.specs.declared.stop.Stop.TheVariants.{Device, Memory}
use Rattle.bvd_words.specs.Requests.{Request, request_of}
use Rattle.bvd_top.specs.Words.{usage}
use Rattle.bvd_report.specs.Report.{Part, certificates, status_of}
use Rattle.bvd_top.specs.Scheduled.{report_of}
use Rattle.bvd_top.specs.Storing.{IsPartlyStored, with_all}
use Rattle.bvd_top.specs.Parts.{ArePartsOf}

-- a count rose by one, or stands at its end
pub record RoseOnce (before now : ℕ) : Type 0 where
  pub rose : Rose before now
  pub later : before ≤ now
  pub once : now ≤ before + 1

-- the run stops early: the device with these counts of faults failed, or memory was wanting
abbrev pub Stops : (before now status : ℕ) → Type 0
Stops before now status = ((status ≡ 6) × RoseOnce before now) ⊎ ((status ≡ 7) × (now ≡ before))

-- a text is written whole and the run ends with its own status, or the run stops where only a part of it is written
abbrev pub Tells : List ℕ → ℕ → Outside → Outside → ℕ → Type 0
Tells text own before after status =
    ((after.written ≡ option_map (λ w. w ++ text) before.written) × (status ≡ own) × (after.sink_faults ≡ before.sink_faults))
    ⊎ ((n : ℕ) × (n < length text) × (after.written ≡ option_map (λ w. w ++ take n text) before.written) × Stops before.sink_faults after.sink_faults status)

-- nothing is asked of the sink
pub record Untold (before after : Outside) : Type 0 where
  pub nothing_told : after.written ≡ before.written
  pub sink_stays : after.sink_faults ≡ before.sink_faults

-- a file, or a stored certificate that is asked for, isn't read to its end
pub record Unread (before after : Outside) (status : ℕ) : Type 0 where
  pub files_stay : after.files ≡ before.files
  pub untold : Untold before after
  pub stops : Stops before.keeper_faults after.keeper_faults status

-- a certificate isn't written to its end; those before it are, and those behind it aren't begun
pub record Unstored (are : List Part → Type 0) (before after : Outside) (status : ℕ) : Type 0 where
  pub parts : List Part
  pub found : are parts
  pub stored : (after.files ≡ before.files) ⊎ IsPartlyStored (certificates parts) before.files after.files
  pub untold : Untold before after
  pub stops : Stops before.keeper_faults after.keeper_faults status

-- all certificates are written, and the report or a part of it
pub record Reported (are : List Part → Type 0) (request : Request) (before after : Outside) (status : ℕ) : Type 0 where
  pub parts : List Part
  pub found : are parts
  pub stored : after.files ≡ option_map (with_all (certificates parts)) before.files
  pub keeper_stays : after.keeper_faults ≡ before.keeper_faults
  pub tells : Tells (report_of request parts) (status_of parts) before after status

-- how the run of a request ends, where this is what its parts are
abbrev pub Finishes : (List Part → Type 0) → Request → Outside → Outside → ℕ → Type 0
Finishes are request before after status = Unread before after status ⊎ (Unstored are before after status ⊎ Reported are request before after status)

-- how the run of a request ends
abbrev pub Answered : Request → Outside → Outside → ℕ → Type 0
Answered request before after status = Finishes (ArePartsOf before.files (Rose before.missing after.missing) request) request before after status

-- the words are refused, and the keeper stays as it was
pub record Refused (before after : Outside) (status : ℕ) : Type 0 where
  pub files_stay : after.files ≡ before.files
  pub keeper_stays : after.keeper_faults ≡ before.keeper_faults
  pub missing_stays : after.missing ≡ before.missing
  pub tells : Tells usage 2 before after status

abbrev pub AnsweredIf : Option Request → Outside → Outside → ℕ → Type 0
AnsweredIf None before after status = Refused before after status
AnsweredIf (Some request) before after status = Answered request before after status

-- how a run ends
abbrev pub Ending : List (List ℕ) → Outside → Outside → ℕ → Type 0
Ending words before after status = AnsweredIf (request_of words) before after status

-- A device that failed ends the run at once with 6: then a count of faults rose, or stands at its end, and both together
-- rose by one at most; with another status both stay.
pub record IsFaultTold (before after : Outside) (status : ℕ) : Type 0 where
  pub failed : status ≡ 6 → KeeperFailed before after ⊎ SinkFailed before after
  pub once : after.keeper_faults + after.sink_faults ≤ before.keeper_faults + before.sink_faults + 1
  pub spared : status ≢ 6 → (after.keeper_faults ≡ before.keeper_faults) × (after.sink_faults ≡ before.sink_faults)

abbrev pub status_in : Result ℕ Stop → ℕ
status_in (Ok status) = status
status_in (Err Device) = 6
status_in (Err Memory) = 7

-- the run is done, over these files and behind this text
pub record IsDone (report_is : List ℕ) (all : List (List ℕ × List ℕ)) (own : ℕ) (files : Files) (text : List ℕ) (after : Outside) (status : ℕ) : Type 0 where
  pub told : after.written ≡ Some (text ++ report_is)
  pub stored : after.files ≡ Some (with_all all files)
  pub answered : status ≡ own

-- the usage for words that are refused; else the report, the certificates and the status of what became of the request's files
abbrev pub Does : Option Request → Files → List ℕ → Outside → ℕ → Type 0
Does None files text after status = IsDone usage [] 2 files text after status
Does (Some request) files text after status = (parts : List Part) × ArePartsOf (Some files) ⊥ request parts
    × IsDone (report_of request parts) (certificates parts) (status_of parts) files text after status
