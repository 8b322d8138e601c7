-- How the making of gates ends is what a list of gates answers.
use Rattle.std.proofs.Common.{◌≡◌, ℕ, ◌<◌, ◌≤◌, Bool, true, false, List, [], ◌∷◌, ◌++◌, length, length-append, nat_eq, nat_lt, refl, sym, ap, ◌∙◌, subst, arith, All, Ok, Err}
use Rattle.std.proofs.lemmas.Bool.Decides.{nat_tests}
use Rattle.std.proofs.lemmas.List.Elements.{All-head, All-tail}
use Rattle.gate_shape.specs.Literal.{Literal}
use Rattle.gate_shape.specs.Edge.{Edge, Gate, gate_level}
use Rattle.gate_shape.specs.Row.{Row}
use Rattle.gate_shape.specs.declared.builder.GateStop.TheVariants.{Deep, Full}
use Rattle.gate_shape.specs.Builds.{Builds, Stands, NotDeep, TooDeep, HasGate, noted_all}
use Rattle.gate_shape.specs.Listed.{Listed, listed, holding, gates_of, grow, has_gate, note_new}
use Rattle.gate_shape.proofs.Listing.{has_gate-found, note_known, note_unknown, note_refused}
use Rattle.goal_alone.specs.Ends as ends
use Rattle.goal_alone.specs.Ends.{End, end_of}

step_by : (limit : ℕ) (kept : List Gate) (g : Gate) (gs : List Gate) → (gate_level g ≡ 262144 → ⊥) → length (note_new kept g true) ≤ limit
    → (a : Bool) → nat_eq (gate_level g) 262144 ≡ a → (b : Bool) → has_gate kept g ≡ b → (c : Bool) → nat_lt (length kept) limit ≡ c
    → end_of limit kept (g ∷ gs) ≡ end_of limit (note_new kept g true) gs
unfolding end_of
step_by limit kept g gs shallow fits true ea b eb c ec = let e : gate_level g ≡ 262144 = grind (arith, nat_tests) in absurd (shallow e)
step_by limit kept g gs shallow fits false ea true eb c ec = rw (ea, eb) (ap (λ k. end_of limit k gs) (sym (note_known kept g eb)))
step_by limit kept g gs shallow fits false ea false eb true ec = rw (ea, eb, ec) (ap (λ k. end_of limit k gs) (sym (note_unknown kept g eb)))
step_by limit kept g gs shallow fits false ea false eb false ec =
    let full : limit ≤ length kept = grind (arith, nat_tests) in
    absurd (omega (arith, ap length (note_unknown kept g eb), length-append kept (g ∷ [])))

-- a gate more, which is new or isn't
step_at : (limit : ℕ) (kept : List Gate) (g : Gate) (gs : List Gate) → (gate_level g ≡ 262144 → ⊥) → length (note_new kept g true) ≤ limit → end_of limit kept (g ∷ gs) ≡ end_of limit (note_new kept g true) gs
step_at limit kept g gs shallow fits = step_by limit kept g gs shallow fits (nat_eq (gate_level g) 262144) refl (has_gate kept g) refl (nat_lt (length kept) limit) refl

longer_by : (kept : List Gate) (g : Gate) (b : Bool) → has_gate kept g ≡ b → length kept ≤ length (note_new kept g true)
longer_by kept g true e = omega (arith, ap length (note_known kept g e))
longer_by kept g false e = omega (arith, ap length (note_unknown kept g e), length-append kept (g ∷ []))

longer : (kept : List Gate) (g : Gate) → length kept ≤ length (note_new kept g true)
longer kept g = longer_by kept g (has_gate kept g) refl

grows : (kept gs : List Gate) → length kept ≤ length (noted_all note_new kept gs)
grows kept [] = omega arith
grows kept (g ∷ gs) = omega (arith, grows (note_new kept g true) gs, longer kept g)

-- all gates are made
pub made : (limit : ℕ) (kept gs : List Gate) → All NotDeep gs → length (noted_all note_new kept gs) ≤ limit → end_of limit kept gs ≡ ends.Made
unfolding end_of
made limit kept [] fit within = refl
made limit kept (g ∷ gs) fit within =
    step_at limit kept g gs (All-head NotDeep g gs fit) (omega (arith, grows (note_new kept g true) gs))
    ∙ made limit (note_new kept g true) gs (All-tail NotDeep g gs fit) within

-- those before a gate are made, and then that gate decides
pub stopped : (limit : ℕ) (kept before : List Gate) (at : Gate) (after : List Gate) → All NotDeep before → length (noted_all note_new kept before) ≤ limit
    → end_of limit kept (before ++ at ∷ after) ≡ end_of limit (noted_all note_new kept before) (at ∷ after)
stopped limit kept [] at after fit within = refl
stopped limit kept (g ∷ gs) at after fit within =
    step_at limit kept g (gs ++ at ∷ after) (All-head NotDeep g gs fit) (omega (arith, grows (note_new kept g true) gs))
    ∙ stopped limit (note_new kept g true) gs at after (All-tail NotDeep g gs fit) within

-- the gate would be too deep
pub too_deep : (limit : ℕ) (kept : List Gate) (at : Gate) (after : List Gate) → TooDeep at → end_of limit kept (at ∷ after) ≡ ends.TooDeep
unfolding end_of
too_deep limit kept at after deep = let e : nat_eq (gate_level at) 262144 ≡ true = grind (arith, nat_tests) in rw e refl

not_deep : (at : Gate) → NotDeep at → (b : Bool) → nat_eq (gate_level at) 262144 ≡ b → nat_eq (gate_level at) 262144 ≡ false
not_deep at shallow true e = let d : gate_level at ≡ 262144 = grind (arith, nat_tests) in absurd (shallow d)
not_deep at shallow false e = e

-- the gate would be one too many
pub too_many : (limit : ℕ) (kept : List Gate) (at : Gate) (after : List Gate) → NotDeep at → has_gate kept at ≡ false → length kept ≡ limit → end_of limit kept (at ∷ after) ≡ ends.TooMany
unfolding end_of
too_many limit kept at after shallow new full =
    let e : nat_eq (gate_level at) 262144 ≡ false = not_deep at shallow (nat_eq (gate_level at) 262144) refl in
    let f : nat_lt (length kept) limit ≡ false = grind (arith, nat_tests) in
    rw (e, new, f) refl

lacks_by : (limit : ℕ) (kept : List Gate) (at : Gate) → (HasGate (holding limit kept) at → ⊥) → (b : Bool) → has_gate kept at ≡ b → has_gate kept at ≡ false
lacks_by limit kept at absent true e =
    let found = has_gate-found kept at e in
    let within : found.0 < length kept = found.1 in
    absurd (absent (found.0, grind (arith, nat_tests), found.2))
lacks_by limit kept at absent false e = e

-- a gate that the list hasn't
pub lacks : (limit : ℕ) (kept : List Gate) (at : Gate) → (HasGate (holding limit kept) at → ⊥) → has_gate kept at ≡ false
lacks limit kept at absent = lacks_by limit kept at absent (has_gate kept at) refl

-- ---- the same of a list that begins empty

start_trace : (limit : ℕ) (old : Listed) → old ≡ record { limit = limit; pairs = [] } → (listed old).trace ≡ []
unfolding gates_of grow
start_trace limit old e = ap (λ v. (listed v).trace) e

-- what a list holds after gates were noted, and its limit
kept_by : (limit : ℕ) (old new : Listed) (gates : List Gate) → old ≡ record { limit = limit; pairs = [] } → (listed new).base ≡ (listed old).base
    → (listed new).trace ≡ noted_all note_new (listed old).trace gates → length (listed new).trace ≤ new.limit
    → ((listed new).trace ≡ noted_all note_new [] gates) × (length (noted_all note_new [] gates) ≤ limit) × (new.limit ≡ limit)
kept_by limit old new gates start base trace within =
    let same : (listed new).trace ≡ noted_all note_new [] gates = trace ∙ ap (λ t. noted_all note_new t gates) (start_trace limit old start) in
    let kept : new.limit ≡ old.limit = cc in
    let is : new.limit ≡ limit = kept ∙ ap (λ v. v.limit) start in
    (same, omega (arith, ap length same, within, is), is)

pub ends_made : (limit : ℕ) (old new : Listed) (root : Literal) (row : Row Edge) → old ≡ record { limit = limit; pairs = [] }
    → Builds note_new Stands (listed old) (listed new) (Ok root) row → length (listed new).trace ≤ new.limit → end_of limit [] row.gates ≡ ends.Made
ends_made limit old new root row start b within =
    let k = kept_by limit old new row.gates start b.keeps.base b.outcome.1.trace within in
    made limit [] row.gates b.outcome.1.fit k.1

pub ends_deep : (limit : ℕ) (old new : Listed) (row : Row Edge) → old ≡ record { limit = limit; pairs = [] }
    → Builds {T = Literal} note_new Stands (listed old) (listed new) (Err Deep) row → length (listed new).trace ≤ new.limit → end_of limit [] row.gates ≡ ends.TooDeep
ends_deep limit old new row start b within =
    let r = b.outcome in
    let k = kept_by limit old new r.before start b.keeps.base (r.trace ∙ note_refused (noted_all note_new (listed old).trace r.before) r.at) within in
    ap (end_of limit []) r.cut ∙ stopped limit [] r.before r.at r.after r.fit k.1 ∙ too_deep limit (noted_all note_new [] r.before) r.at r.after r.cause

pub ends_full : (limit : ℕ) (old new : Listed) (row : Row Edge) → old ≡ record { limit = limit; pairs = [] }
    → Builds {T = Literal} note_new Stands (listed old) (listed new) (Err Full) row → length (listed new).trace ≤ new.limit → end_of limit [] row.gates ≡ ends.TooMany
ends_full limit old new row start b within =
    let r = b.outcome in
    let k = kept_by limit old new r.before start b.keeps.base (r.trace ∙ note_refused (noted_all note_new (listed old).trace r.before) r.at) within in
    let new_one : has_gate (noted_all note_new [] r.before) r.at ≡ false = subst (λ t. has_gate t r.at ≡ false) k.0 (lacks new.limit (listed new).trace r.at r.cause.1) in
    let count : length (listed new).trace ≡ new.limit = grind (arith, nat_tests, r.cause.0) in
    ap (end_of limit []) r.cut ∙ stopped limit [] r.before r.at r.after r.fit k.1
    ∙ too_many limit (noted_all note_new [] r.before) r.at r.after r.cause.2 new_one (omega (arith, ap length k.0, count, k.2))
