-- What the source in memory holds.
use Rattle.std.specs.Prelude.{ℕ, List, Option, Some, None}
use Rattle.bvd_host.specs.Calls.{Calls}
use Rattle.bvd_host.specs.Failing.{calls_of}
use Rattle.bvd_host.specs.declared.slice_source.SliceSource.{SliceSource}

-- what is left
abbrev pub source_bytes : SliceSource → List ℕ
source_bytes source = source.bytes.now

-- it tells what is left
abbrev pub source_left : SliceSource → Option (List ℕ)
source_left source = Some (source_bytes source)

-- it tells no room
abbrev pub source_room : SliceSource → Option ℕ
source_room source = None

-- it finds no file missing
abbrev pub source_missing : SliceSource → ℕ
source_missing source = 0

-- the most bytes that it gives in a read
abbrev pub source_piece : SliceSource → ℕ
source_piece source = source.piece

-- its calls of `read`
abbrev pub source_calls : SliceSource → Calls
source_calls source = calls_of source.calls

-- how often it failed
abbrev pub source_faults : SliceSource → ℕ
source_faults source = source.faults
