-- What a counter of calls means.
use Rattle.bvd_host.specs.Calls.{Calls}
use Rattle.bvd_host.specs.declared.failing_calls.FailingCalls.{FailingCalls}

-- the calls that a counter has seen
abbrev pub calls_of : FailingCalls → Calls
calls_of counter = record { failing = counter.failing.items; made = counter.made }
