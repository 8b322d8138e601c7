-- What a call for one conjunction does to a list, case by case.
use Rattle.std.proofs.Common.{◌≡◌, List, [], ◌∷◌, refl, sym, ◌∙◌, ap, subst, Ok, Err, Result}
use Rattle.std.specs.Result.{IsErrAnd}
use Rattle.std.proofs.lemmas.Result.{err_from_is_err_and}
use Rattle.std.specs.declared.alloc.AllocError.{AllocError}
use Rattle.gate_shape.specs.Literal.{Literal}
use Rattle.gate_shape.specs.Edge.{Edge, Gate, gate_edge}
use Rattle.gate_shape.specs.Row.{Row}
use Rattle.gate_shape.specs.Builds.{Stands, Builds, TooDeep, NotDeep, NoRoom}
use Rattle.gate_shape.specs.Listed.{Listed, listed, note_new, Writes, Conjoined}
use Rattle.gate_shape.specs.declared.builder.GateStop.{GateStop}
use Rattle.gate_shape.specs.declared.builder.GateStop.TheVariants.{Deep, Full, Memory}
use Rattle.gate_shape.proofs.Building.{keeps_self, builds_memory}

-- the row that writes one gate
abbrev pub one_gate : Gate → Row Edge
one_gate g = record { answer = gate_edge g; gates = g ∷ [] }

one_writes : {g : Gate} (C : Gate → Type 0) → Writes (one_gate g) C → C g
one_writes C w = let e = w.1 in let P : Gate → Type 0 = C in subst P (sym (head_same e)) w.2
  where
    head_same : {g h : Gate} → g ∷ [] ≡ h ∷ [] → g ≡ h
    head_same e = cc

not_ok : {l : Literal} {s : GateStop} → ◌≡◌ {A = Result Literal GateStop} (Ok l) (Err s) → ⊥
not_ok e = cc

not_deep_full : ◌≡◌ {A = Result Literal GateStop} (Err Full) (Err Deep) → ⊥
not_deep_full e = cc

not_full_deep : ◌≡◌ {A = Result Literal GateStop} (Err Deep) (Err Full) → ⊥
not_full_deep e = cc

not_deep_memory : {e : AllocError} → ◌≡◌ {A = Result Literal GateStop} (Err (Memory e)) (Err Deep) → ⊥
not_deep_memory e = cc

not_full_memory : {e : AllocError} → ◌≡◌ {A = Result Literal GateStop} (Err (Memory e)) (Err Full) → ⊥
not_full_memory e = cc

-- the gate was there, or was added
pub conjoined_ok : (old new : Listed) (l : Literal) (g : Gate) → NotDeep g → (NoRoom (listed old) g → ⊥) → Builds note_new Stands (listed old) (listed new) (Ok l) (one_gate g) → Conjoined old new (Ok l) (one_gate g)
conjoined_ok old new l g fit room b = record {
  built = b;
  deep = (λ e. absurd (not_ok e), λ w. absurd (fit (one_writes TooDeep w)));
  full = (λ e. absurd (not_ok e), λ w. absurd (room (one_writes (NoRoom (listed old)) w)));
  refused = tt;
}

-- there was no room for it
pub conjoined_full : (v : Listed) (g : Gate) → NoRoom (listed v) g → Builds note_new Stands (listed v) (listed v) (Err Full) (one_gate g) → Conjoined v v (Err Full) (one_gate g)
conjoined_full v g cause b = record {
  built = b;
  deep = (λ e. absurd (not_deep_full e), λ w. absurd (cause.2 (one_writes TooDeep w)));
  full = (λ e. (g, refl, cause), λ w. refl);
  refused = refl;
}

-- there was no memory for it
pub conjoined_memory : (v : Listed) (r : Result Literal GateStop) (e : AllocError) (g : Gate) → NotDeep g → (NoRoom (listed v) g → ⊥) → IsErrAnd r (λ y. y ≡ Memory e) → Conjoined v v r (one_gate g)
conjoined_memory v r e g fit room h = let q = err_from_is_err_and r h in rw (q.1, q.2) record {
  built = builds_memory (keeps_self (listed v));
  deep = (λ e. absurd (not_deep_memory e), λ w. absurd (fit (one_writes TooDeep w)));
  full = (λ e. absurd (not_full_memory e), λ w. absurd (room (one_writes (NoRoom (listed v)) w)));
  refused = refl;
}

-- the conjunction is simple
pub conjoined_simple : (v : Listed) (l : Literal) (row : Row Edge) → row.gates ≡ [] → Builds note_new Stands (listed v) (listed v) (Ok l) row → Conjoined v v (Ok l) row
conjoined_simple v l row none b = record {
  built = b;
  deep = (λ e. absurd (not_ok e), λ w. absurd (nothing (sym none ∙ w.1)));
  full = (λ e. absurd (not_ok e), λ w. absurd (nothing (sym none ∙ w.1)));
  refused = tt;
}
  where
    nothing : {g : Gate} → ◌≡◌ {A = List Gate} [] (g ∷ []) → ⊥
    nothing e = cc

-- the gate would be too deep
pub conjoined_deep : (v : Listed) (g : Gate) (row : Row Edge) → row ≡ one_gate g → TooDeep g → Builds note_new Stands (listed v) (listed v) (Err Deep) row → Conjoined v v (Err Deep) row
conjoined_deep v g row is deep b = record {
  built = b;
  deep = (λ e. (g, ap (λ r. r.gates) is, deep), λ w. refl);
  full = (λ e. absurd (not_full_deep e), λ w. absurd (let n = one_writes {g = g} (NoRoom (listed v)) (w.0, sym (ap (λ r. r.gates) is) ∙ w.1, w.2) in n.2 deep));
  refused = refl;
}
