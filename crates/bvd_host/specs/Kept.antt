-- What the keeper in memory holds.
use Rattle.std.specs.Prelude.{ℕ}
use Rattle.bvd_host.specs.Files.{Files}
use Rattle.bvd_host.specs.Listed.{listed}
use Rattle.bvd_host.specs.Calls.{Calls}
use Rattle.bvd_host.specs.Failing.{calls_of}
use Rattle.bvd_host.specs.declared.map_keeper.MapKeeper.{MapKeeper}

-- its files
abbrev pub kept_files : MapKeeper → Files
kept_files keeper = listed keeper.kept

-- its calls of `size` and `read_at`
abbrev pub read_calls : MapKeeper → Calls
read_calls keeper = calls_of keeper.reads

-- its calls of `create` and `append`
abbrev pub write_calls : MapKeeper → Calls
write_calls keeper = calls_of keeper.writes

-- how often it failed
abbrev pub kept_faults : MapKeeper → ℕ
kept_faults keeper = keeper.faults
