-- What the sink in memory holds.
use Rattle.std.specs.Prelude.{ℕ, List}
use Rattle.bvd_host.specs.Calls.{Calls}
use Rattle.bvd_host.specs.Failing.{calls_of}
use Rattle.bvd_host.specs.declared.vec_sink.VecSink.{VecSink}

-- what was written
abbrev pub sink_bytes : VecSink → List ℕ
sink_bytes sink = sink.held.items

-- its calls of `write`
abbrev pub sink_calls : VecSink → Calls
sink_calls sink = calls_of sink.calls

-- how often it failed
abbrev pub sink_faults : VecSink → ℕ
sink_faults sink = sink.faults
