use Rattle.std.proofs.Common.{◌≡◌, ◌∙◌, sym, refl, Option, Some, None}
use Rattle.std.specs.Prelude.{IfSome, IfNone}
use Rattle.gate_shape.proofs.Filing.{filed_there, filed_nowhere}
use Rattle.gate_shape.proofs.gates.Gates.find.Goals as goal

some_by : {T : Type 0} {P : T → Type 0} (o : Option T) → ((s : T) → o ≡ Some s → P s) → IfSome o P
some_by (Some s) f = f s refl
some_by None f = tt

none_by : {T P : Type 0} (o : Option T) → (o ≡ None → P) → IfNone o P
none_by (Some s) f = tt
none_by None f = f refl

pub returns-clause-there : goal.returns-clause-there
returns-clause-there c = some_by c.copied.result (λ s h. rw (sym c.self.view_is) (filed_there c.self.inside.places c.self.inside.entries.items c.args.left c.args.right s c.self.invariant (rw (c.bits.ensures.value, c.bits-2.ensures.value) at (sym (c.copied.ensures ∙ c.get.ensures.value) ∙ h))))

pub returns-clause-nowhere : goal.returns-clause-nowhere
returns-clause-nowhere c = none_by c.copied.result (λ h. rw (sym c.self.view_is) (filed_nowhere c.self.inside.places c.self.inside.entries.items c.args.left c.args.right c.self.invariant (rw (c.bits.ensures.value, c.bits-2.ensures.value) at (sym (c.copied.ensures ∙ c.get.ensures.value) ∙ h))))
