-- What one step of the reading comes to.
use Rattle.std.proofs.Common.{◌≡◌, ℕ, ◌+◌, ◌-◌, ◌*◌, ◌<◌, ◌≤◌, List, [], ◌∷◌, ◌++◌, length, Option, Some, refl, sym, ap, subst, arith, ◌∙◌, ◌⊎◌, inl, inr, length-append}
use Rattle.std.specs.Prelude.{slice_get}
use Rattle.std.proofs.lemmas.Option.{slice_get_within, slice_get_past, slice_get-get_or}
use Rattle.std.proofs.Math.ListN.{get_or-append}
use Rattle.std.proofs.Math.Seq.{get_or-append_seam}
use Rattle.bv_grammar.specs.declared.words.Terminal.{Terminal}
use Rattle.bv_grammar.specs.declared.words.Role.{Role}
use Rattle.bv_grammar.specs.declared.words.Terminal.TheVariants as terminals
use Rattle.bv_grammar.specs.declared.reading.Taken.{Taken}
use Rattle.bv_grammar.specs.declared.reading.End.{End}
use Rattle.bv_grammar.specs.declared.reading.End.TheVariants.{Whole, Fault}
use Rattle.bv_grammar.specs.declared.stack.Open.{Open}
use Rattle.bv_grammar.specs.declared.stack.Open.TheVariants as opens
use Rattle.bv_grammar.specs.declared.stack.Step.{Step}
use Rattle.bv_grammar.specs.declared.stack.Step.TheVariants.{Took, Passed, Failed}
use Rattle.bv_grammar.specs.Grammar.{terminal_of, Symbol, terminal, finish, items, file}
use Rattle.bv_grammar.specs.Derivation.{Derives, IsFile, IsSyntaxFault}
use Rattle.bv_grammar.specs.Taking.{IsTakenAs, IsTaken, AreTaken, EndsAt, waiting}
use Rattle.bv_grammar.specs.Moves.{Move, Moved, Stepped, symbol_of, opened, items_move, part_move, path_move, dotted_move, paths_move, binders_move, names_move, brace_names_move, sort_move, proof_move, intro_move, separator_move, tactic_move, atom_move, literal_move, closing_move, methods_move, dots_move, arguments_move, more_methods_move, call_move, term_move, bound_move, tail_move}
use Rattle.bv_grammar.proofs.Place.{Leads, Dead}
use Rattle.bv_grammar.proofs.Derivations.{follow, stay, then, on_terminal, on_finish, dead_terminal, dead_finish}
use Rattle.bv_grammar.proofs.Pushing.{pushed}
use Rattle.bv_grammar.proofs.Sound.{Holds, Sound, items_sound, part_sound, path_sound, dotted_sound, paths_sound, binders_sound, names_sound, brace_names_sound, sort_sound, proof_sound, intro_sound, separator_sound, tactic_sound, atom_sound, literal_sound, closing_sound, methods_sound, dots_sound, arguments_sound, more_methods_sound, call_sound, term_sound, bound_sound, tail_sound}

-- the symbol s becomes `rest` before t
record Becomes (s : Symbol) (t : Option Terminal) (step : Step) (old new : List Open) : Type 0 where
  pub rest : List Symbol
  pub holds : Holds s t rest step
  pub held : (a : List Symbol) → opened new a ≡ rest ++ opened old a

by_move : {s : Symbol} {t : Option Terminal} (m : Move) (step : Step) (old new : List Open) → Sound s t m → Moved m step old new → Becomes s t step old new
by_move {s} {t} m step old new h moved = record { rest = m.rest; holds = subst (λ v. Holds s t m.rest v) (sym moved.0) h; held = moved.1 }

becomes : (s : Open) (t : Option Terminal) (step : Step) (old new : List Open) → Stepped s t step old new → Becomes (symbol_of s) t step old new
becomes (opens.Terminal r) t (Took r') old new h = record {
  rest = [];
  holds = subst (λ v. Holds (terminal r) t [] (Took v)) (sym h.0.0) (h.0.1, omega arith, λ ts i a f. stay);
  held = λ a. ap (λ v. opened v a) h.1;
}
becomes (opens.Terminal r) t Passed old new h = absurd h.0
becomes (opens.Terminal r) t Failed old new h = record { rest = []; holds = λ ts i a f. dead_terminal a (λ g. h.0 (sym f ∙ g)); held = λ a. ap (λ v. opened v a) h.1 }
becomes opens.Items t step old new h = by_move (items_move t) step old new (items_sound t) h
becomes opens.Path t step old new h = by_move (path_move t) step old new (path_sound t) h
becomes opens.Dotted t step old new h = by_move (dotted_move t) step old new (dotted_sound t) h
becomes opens.Paths t step old new h = by_move (paths_move t) step old new (paths_sound t) h
becomes opens.Part t step old new h = by_move (part_move t) step old new (part_sound t) h
becomes opens.Binders t step old new h = by_move (binders_move t) step old new (binders_sound t) h
becomes opens.Names t step old new h = by_move (names_move t) step old new (names_sound t) h
becomes opens.BraceNames t step old new h = by_move (brace_names_move t) step old new (brace_names_sound t) h
becomes opens.Bound t step old new h = by_move (bound_move t) step old new (bound_sound t) h
becomes opens.Sort t step old new h = by_move (sort_move t) step old new (sort_sound t) h
becomes opens.Proof t step old new h = by_move (proof_move t) step old new (proof_sound t) h
becomes opens.Intro t step old new h = by_move (intro_move t) step old new (intro_sound t) h
becomes opens.Separator t step old new h = by_move (separator_move t) step old new (separator_sound t) h
becomes opens.Tactic t step old new h = by_move (tactic_move t) step old new (tactic_sound t) h
becomes (opens.Term p) t step old new h = by_move (term_move p t) step old new (term_sound p t) h
becomes (opens.Tail p l) t step old new h = by_move (tail_move p l t) step old new (tail_sound p l t) h
becomes opens.Call t step old new h = by_move (call_move t) step old new (call_sound t) h
becomes opens.Methods t step old new h = by_move (methods_move t) step old new (methods_sound t) h
becomes opens.MoreMethods t step old new h = by_move (more_methods_move t) step old new (more_methods_sound t) h
becomes opens.Arguments t step old new h = by_move (arguments_move t) step old new (arguments_sound t) h
becomes opens.Dots t step old new h = by_move (dots_move t) step old new (dots_sound t) h
becomes opens.Atom t step old new h = by_move (atom_move t) step old new (atom_sound t) h
becomes opens.Literal t step old new h = by_move (literal_move t) step old new (literal_sound t) h
becomes opens.Closing t step old new h = by_move (closing_move t) step old new (closing_sound t) h

length_opened : (s : List Open) (a : List Symbol) → length (opened s a) ≡ length s + length a
length_opened [] a = omega arith
length_opened (x ∷ s) a = omega (arith, length_opened s (symbol_of x ∷ a))

length_after : (old new : List Open) (rest : List Symbol) → ((a : List Symbol) → opened new a ≡ rest ++ opened old a) → length new ≡ length rest + length old
length_after old new rest h = omega (arith, ap length (h []), length_opened new [], length_opened old [], length-append rest (opened old []))

abbrev pub bottom : List Symbol
bottom = finish ∷ []

-- where the reading stands: the file leads to what is open
abbrev pub Stands : List Terminal → List Open → ℕ → Type 0
Stands ts stack n = Leads ts file 0 (opened stack bottom) n

landed : {ts : List Terminal} {a b b' : List Symbol} {i j : ℕ} → b' ≡ b → Leads ts a i b j → Leads ts a i b' j
landed {ts} {a} {b} {b'} {i} {j} f l = subst (λ v. Leads ts a i v j) (sym f) l

-- the stack with its last symbol first
on_top : {ts : List Terminal} (stack left : List Open) (s : Open) (n : ℕ) → stack ≡ left ++ s ∷ [] → Stands ts stack n → Leads ts file 0 (symbol_of s ∷ opened left bottom) n
on_top stack left s n e l = landed (sym (pushed left stack s e bottom)) l

-- a terminal is taken
record TakesOn (ts : List Terminal) (n : ℕ) (r : Role) (old new : List Open) : Type 0 where
  pub within : n < length ts
  pub short : length new ≤ length old + 8
  pub taken_as : IsTakenAs ts n r (opened new bottom)
  pub stands : Stands ts new (n + 1)

takes_on : (ts : List Terminal) (n : ℕ) (s : Open) (r : Role) (old new : List Open) → Leads ts file 0 (symbol_of s ∷ opened old bottom) n → Stepped s (slice_get ts n) (Took r) old new → TakesOn ts n r old new
takes_on ts n s r old new l h =
    let b = becomes s (slice_get ts n) (Took r) old new h in
    let before = landed (ap (λ v. terminal r ∷ v) (b.held bottom)) (then l (b.holds.2 ts n (opened old bottom) refl)) in
    record {
      within = slice_get_within ts n (terminal_of r) b.holds.0;
      short = omega (arith, length_after old new b.rest b.held, b.holds.1);
      taken_as = record { derived = before.derives; there = b.holds.0 };
      stands = then before (on_terminal (opened new bottom) b.holds.0);
    }

-- a symbol becomes nothing
passes_on : (ts : List Terminal) (n : ℕ) (s : Open) (old new : List Open) → Leads ts file 0 (symbol_of s ∷ opened old bottom) n → Stepped s (slice_get ts n) Passed old new → (length new ≡ length old) × Stands ts new n
passes_on ts n s old new l h =
    let b = becomes s (slice_get ts n) Passed old new h in
    let same : (a : List Symbol) → opened new a ≡ opened old a = λ a. b.held a ∙ ap (λ v. v ++ opened old a) b.holds.0 in
    (omega (arith, length_after old new [] same), landed (same bottom) (then l (b.holds.1 ts n (opened old bottom) refl)))

pub fault_at : {ts : List Terminal} {b : List Symbol} {n : ℕ} → n ≤ length ts → Leads ts file 0 b n → Dead ts b n → IsSyntaxFault ts n
fault_at {n = n} h l dead = record {
  within = h;
  before = (_, l.derives);
  not_here = λ r. dead r.0 (n + 1) (omega arith) (l.only r.0 (n + 1) (omega arith) r.1);
}

-- no derivation goes on
fails_on : (ts : List Terminal) (n : ℕ) (s : Open) (old new : List Open) → n ≤ length ts → Leads ts file 0 (symbol_of s ∷ opened old bottom) n → Stepped s (slice_get ts n) Failed old new → IsSyntaxFault ts n
fails_on ts n s old new within l h =
    let b = becomes s (slice_get ts n) Failed old new h in
    fault_at within l (b.holds ts n (opened old bottom) refl)

at_bottom : (ts : List Terminal) (n : ℕ) (stack : List Open) → stack ≡ [] → Stands ts stack n → Leads ts file 0 bottom n
at_bottom ts n stack e l = landed (ap (λ v. opened v bottom) (sym e)) l

-- the file should end
too_long : (ts : List Terminal) (n : ℕ) (stack : List Open) → stack ≡ [] → Stands ts stack n → (t : Terminal) → n < length ts → IsSyntaxFault ts n
too_long ts n stack e l t h = fault_at (omega arith) (at_bottom ts n stack e l) (dead_finish [] (slice_get-get_or ts n t h))

whole : (ts : List Terminal) (n : ℕ) (stack : List Open) → stack ≡ [] → Stands ts stack n → n ≤ length ts → length ts ≤ n → (n ≡ length ts) × IsFile ts
whole ts n stack e l h h' =
    let same : n ≡ length ts = omega arith in
    let all : Derives ts file 0 [] (n + 1) = follow (at_bottom ts n stack e l).derives (on_finish {ts = ts} {i = n} [] (slice_get_past ts n h')).derives in
    (same, subst (λ k. Derives ts file 0 [] (k + 1)) same all)

-- one more terminal is taken
in_front : (xs ys : List Taken) (i : ℕ) (x : Taken) → i < length xs → slice_get (xs ++ ys) i ≡ Some x → slice_get xs i ≡ Some x
in_front xs ys i x h e = slice_get-get_or xs i x h ∙ ap Some (sym (get_or-append xs ys x i h)) ∙ sym (slice_get-get_or (xs ++ ys) i x (omega (arith, length-append xs ys))) ∙ e

at_seam : (xs : List Taken) (y x : Taken) → slice_get (xs ++ y ∷ []) (length xs) ≡ Some x → y ≡ x
at_seam xs y x e =
    let f : slice_get (xs ++ y ∷ []) (length xs) ≡ Some y = slice_get-get_or (xs ++ y ∷ []) (length xs) y (omega (arith, length-append xs (y ∷ []))) ∙ ap Some (get_or-append_seam xs y [] y) in
    cc

place_cases : (i n : ℕ) → i < n + 1 → (i < n) ⊎ (i ≡ n)
place_cases i n h = grind arith

more_taken : (ts : List Terminal) (xs xs' : List Taken) (y : Taken) → xs' ≡ xs ++ y ∷ [] → AreTaken ts xs → IsTaken ts (length xs) y → AreTaken ts xs'
more_taken ts xs xs' y e h last = λ i x f.
    let g : slice_get (xs ++ y ∷ []) i ≡ Some x = ap (λ v. slice_get v i) (sym e) ∙ f in
    elim (place_cases i (length xs) (omega (arith, slice_get_within (xs ++ y ∷ []) i x g, length-append xs (y ∷ [])))) [
      | inl before ↦ h i x (in_front xs (y ∷ []) i x before g)
      | inr same ↦ subst (λ k. IsTaken ts k x) (sym same) (subst (λ v. IsTaken ts (length xs) v) (at_seam xs y x (ap (λ k. slice_get (xs ++ y ∷ []) k) (sym same) ∙ g)) last)
    ]

-- so far these terminals are taken, and the file leads to what is open on the stack
pub record IsReading (ts : List Terminal) (taken : List Taken) (stack : List Open) : Type 0 where
  pub within : length taken ≤ length ts
  pub stands : Stands ts stack (length taken)
  pub so_far : AreTaken ts taken

none_taken : (ts : List Terminal) → AreTaken ts []
none_taken ts = λ i x e. absurd (omega (arith, slice_get_within [] i x e))

at_first : (ts : List Terminal) (empty stack : List Open) → empty ≡ [] → stack ≡ empty ++ opens.Items ∷ [] → IsReading ts [] stack
at_first ts empty stack e f = record {
  within = omega arith;
  stands = landed (pushed empty stack opens.Items f bottom ∙ ap (λ v. items ∷ opened v bottom) e) stay;
  so_far = none_taken ts;
}

pub at_start : (ts : List Terminal) (taken : List Taken) (empty stack : List Open) → taken ≡ [] → empty ≡ [] → stack ≡ empty ++ opens.Items ∷ [] → IsReading ts taken stack
at_start ts taken empty stack g e f = subst (λ v. IsReading ts v stack) (sym g) (at_first ts empty stack e f)

-- what is left to be done: nine for each terminal, and one for each symbol
abbrev pub left_over : List Terminal → List Taken → List Open → ℕ
left_over ts taken stack = 9 * (length ts - length taken) + length stack

fewer : (l n m o p q : ℕ) → n < l → m ≡ n + 1 → p ≤ o + 8 → q ≡ o + 1 → 9 * (l - m) + p < 9 * (l - n) + q
fewer l n m o p q h e f g = omega arith

one_longer : (s left : List Open) (x : Open) → s ≡ left ++ x ∷ [] → length s ≡ length left + 1
one_longer s left x e = ap length e ∙ length-append left (x ∷ [])

pub after_took : (ts : List Terminal) (taken taken' : List Taken) (stack old new : List Open) (s : Open) (r : Role) (w : ℕ) → IsReading ts taken stack → stack ≡ old ++ s ∷ [] → Stepped s (slice_get ts (length taken)) (Took r) old new → w ≡ waiting (opened new bottom) → taken' ≡ taken ++ record { role = r; waiting = w } ∷ [] → IsReading ts taken' new × (left_over ts taken' new < left_over ts taken stack)
after_took ts taken taken' stack old new s r w reading e h f g =
    let t = takes_on ts (length taken) s r old new (on_top stack old s (length taken) e reading.stands) h in
    let longer : length taken' ≡ length taken + 1 = ap length g ∙ length-append taken (record { role = r; waiting = w } ∷ []) in (
      record {
        within = omega (arith, t.within);
        stands = subst (λ k. Stands ts new k) (sym longer) t.stands;
        so_far = more_taken ts taken taken' (record { role = r; waiting = w }) g reading.so_far (opened new bottom, t.taken_as, f);
      },
      fewer (length ts) (length taken) (length taken') (length old) (length new) (length stack) t.within longer t.short (one_longer stack old s e),
    )

pub after_passed : (ts : List Terminal) (taken : List Taken) (stack old new : List Open) (s : Open) → IsReading ts taken stack → stack ≡ old ++ s ∷ [] → Stepped s (slice_get ts (length taken)) Passed old new → IsReading ts taken new × (left_over ts taken new < left_over ts taken stack)
after_passed ts taken stack old new s reading e h =
    let p = passes_on ts (length taken) s old new (on_top stack old s (length taken) e reading.stands) h in (
      record { within = reading.within; stands = p.1; so_far = reading.so_far },
      omega (arith, p.0, one_longer stack old s e),
    )

pub after_failed : (ts : List Terminal) (taken : List Taken) (stack old new : List Open) (s : Open) → IsReading ts taken stack → stack ≡ old ++ s ∷ [] → Stepped s (slice_get ts (length taken)) Failed old new → IsSyntaxFault ts (length taken)
after_failed ts taken stack old new s reading e h = fails_on ts (length taken) s old new reading.within (on_top stack old s (length taken) e reading.stands) h

pub at_end : (ts : List Terminal) (taken : List Taken) (stack : List Open) (end : End) → IsReading ts taken stack → stack ≡ [] → (length taken < length ts → end ≡ Fault) → (length ts ≤ length taken → end ≡ Whole) → EndsAt ts (length taken) end
at_end ts taken stack end reading e more all = elim (size_cases (length taken) (length ts)) [
  | inl less ↦ subst (λ v. EndsAt ts (length taken) v) (sym (more less)) (too_long ts (length taken) stack e reading.stands terminals.Name less)
  | inr full ↦ subst (λ v. EndsAt ts (length taken) v) (sym (all full)) (whole ts (length taken) stack e reading.stands reading.within full)
]
  where
    size_cases : (m n : ℕ) → (m < n) ⊎ (n ≤ m)
    size_cases m n = grind arith

-- the same at equal values
pub stepped_as : (s : Open) (t t' : Option Terminal) (step step' : Step) (old new : List Open) → t ≡ t' → step ≡ step' → Stepped s t step old new → Stepped s t' step' old new
stepped_as s t t' step step' old new e f h = subst (λ v. Stepped s t' v old new) f (subst (λ v. Stepped s v step old new) e h)

pub ends_as : (ts : List Terminal) (n n' : ℕ) (end end' : End) → n ≡ n' → end ≡ end' → EndsAt ts n end → EndsAt ts n' end'
ends_as ts n n' end end' e f h = subst (λ v. EndsAt ts n' v) f (subst (λ k. EndsAt ts k end) e h)
