-- What an answer does to a count, passed on from call to call.
use Rattle.std.proofs.Common.{◌≡◌, ℕ, ◌+◌, ◌≤◌, ap, sym, refl, arith, ◌∙◌}
use Rattle.std.specs.Prelude.{Result, Ok, Err}
use Rattle.bvd_host.specs.Causes.{HasCause}

-- a call that succeeds leaves the count
pub spared_ok : {T E : Type 0} (stop : E) (x : T) (before now : ℕ) → now ≡ before → HasCause stop before now (Ok x)
spared_ok stop x before now same = record {
  later = omega arith;
  once = omega arith;
  failed = λ is. absurd cc;
  spared = λ other. same;
}

-- an error is passed on behind calls that left the count
pub passed_on : {T U E : Type 0} (stop e : E) (first before now : ℕ) → before ≡ first → HasCause {T = T} stop before now (Err e) → HasCause {T = U} stop first now (Err e)
passed_on stop e first before now same cause = record {
  later = omega (arith, cause.later);
  once = omega (arith, cause.once);
  failed = λ is. rw (sym same) (cause.failed (let here : e ≡ stop = cc in ap Err here));
  spared = λ other. cause.spared (λ is. other (let here : e ≡ stop = cc in ap Err here)) ∙ same;
}
