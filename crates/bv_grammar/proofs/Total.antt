-- Every file is derived whole or has a syntax fault.
use Rattle.std.proofs.Common.{◌≡◌, ℕ, zero, suc, ◌+◌, ◌-◌, ◌*◌, ◌<◌, ◌≤◌, Bool, true, false, List, [], ◌∷◌, ◌++◌, length, Option, Some, None, refl, sym, ap, subst, arith, rules, ◌∙◌, ◌⊎◌, inl, inr, length-append}
use Rattle.std.specs.Prelude.{slice_get}
use Rattle.std.proofs.lemmas.Option.{slice_get_within, slice_get-get_or}
use denote.Enum.Bare.{sameb, same_true, same_false}
use Rattle.bv_grammar.specs.contracts.words.Word.{the_type}
use Rattle.bv_grammar.specs.declared.words.Word.{Word}
use Rattle.bv_grammar.specs.declared.words.Word.TheVariants as words
use Rattle.bv_grammar.specs.declared.words.Terminal.{Terminal}
use Rattle.bv_grammar.specs.declared.words.Terminal.TheVariants as terminals
use Rattle.bv_grammar.specs.declared.words.Role.{Role}
use Rattle.bv_grammar.specs.declared.words.Fixity.{Fixity}
use Rattle.bv_grammar.specs.declared.stack.Step.{Step}
use Rattle.bv_grammar.specs.declared.stack.Step.TheVariants.{Took, Passed, Failed}
use Rattle.bv_grammar.specs.Operators.{fixity_of, when_fits}
use Rattle.bv_grammar.specs.Grammar.{terminal_of, Next, begins_item, begins_part, begins_binder, begins_name, begins_atom, is_word, operator_on, Symbol, terminal, finish, unless, items, path, dotted, paths, part, binders, names, brace_names, bound, sort, proof, intro, separator, tactic, term, tail, call, methods, more_methods, arguments, dots, atom, literal, closing, Rule, file, is_true, is_false, is_true_proposition, is_false_proposition, Begins, item_import, item_open, item_theorem, item_example, by_name, by_bool, by_bitvec, by_round, by_brace, by_binder, atom_name, atom_numeral, atom_constant, atom_round, this_word, fitting}
use Rattle.bv_grammar.specs.Grammar as g
use Rattle.bv_grammar.specs.Derivation.{Derives, here, taken, at_end, not_next, by_rule}
use Rattle.bv_grammar.specs.Laws.{WholeOrFault}
use Rattle.bv_grammar.proofs.Place.{Leads, Dead}
use Rattle.bv_grammar.proofs.Derivations.{grows, follow, stay, then, after_unless, on_terminal, on_unless, dead_terminal, dead_finish}
use Rattle.bv_grammar.proofs.Sound.{Holds, items_sound, part_sound, path_sound, dotted_sound, paths_sound, binders_sound, names_sound, brace_names_sound, sort_sound, proof_sound, intro_sound, separator_sound, tactic_sound, atom_sound, literal_sound, closing_sound, methods_sound, dots_sound, arguments_sound, more_methods_sound, call_sound, term_sound, bound_sound, tail_sound}
use Rattle.bv_grammar.proofs.Stepping.{fault_at}

decided : (a b : Word) (flag : Bool) → sameb the_type a b ≡ flag → (a ≡ b) ⊎ (a ≡ b → ⊥)
decided a b true e = inl (same_true the_type (search rules) a b e)
decided a b false e = inr (same_false the_type a b e)

same_word : (a b : Word) → (a ≡ b) ⊎ (a ≡ b → ⊥)
same_word a b = decided a b (sameb the_type a b) refl

other_word : {a b : Word} → (a ≡ b → ⊥) → terminals.Word a ≡ terminals.Word b → ⊥
other_word {a} {b} n e = let same : a ≡ b = cc in n same

same_terminal : (t u : Terminal) → (t ≡ u) ⊎ (t ≡ u → ⊥)
same_terminal terminals.Name terminals.Name = inl refl
same_terminal terminals.Numeral terminals.Numeral = inl refl
same_terminal terminals.Text terminals.Text = inl refl
same_terminal (terminals.Word a) (terminals.Word b) = elim (same_word a b) [ inl e ↦ inl (ap terminals.Word e) | inr n ↦ inr (other_word n) ]
same_terminal t u = inr (λ e. (cc))

stands_there : (o : Option Terminal) (u : Terminal) → (o ≡ Some u) ⊎ (o ≡ Some u → ⊥)
stands_there None u = inr (λ e. (cc))
stands_there (Some t) u = elim (same_terminal t u) [ inl e ↦ inl (ap Some e) | inr n ↦ inr (λ e. let same : t ≡ u = cc in n same) ]

operator_begins : (p l : ℕ) (w : Word) (o : Option Fixity) → when_fits p l (fixity_of w) ≡ o → (Begins (operator_on p l) (terminals.Word w)) ⊎ (Begins (operator_on p l) (terminals.Word w) → ⊥)
operator_begins p l w (Some o) e = inl (fitting o e)
operator_begins p l w None e = inr (λ b. elim b [ fitting o f ↦ (cc) ])

word_of : {w : Word} {t : Terminal} → Begins (is_word w) t → t ≡ terminals.Word w
word_of this_word = refl

word_begins : (w v : Word) → (w ≡ v) ⊎ (w ≡ v → ⊥) → (Begins (is_word w) (terminals.Word v)) ⊎ (Begins (is_word w) (terminals.Word v) → ⊥)
word_begins w v (inl e) = inl (subst (λ u. Begins (is_word w) (terminals.Word u)) e this_word)
word_begins w v (inr n) = inr (λ b. n (let same : terminals.Word v ≡ terminals.Word w = word_of b in (cc)))

atom_begins : (w : Word) → (Begins begins_atom (terminals.Word w)) ⊎ (Begins begins_atom (terminals.Word w) → ⊥)
atom_begins words.True = inl (atom_constant is_true)
atom_begins words.False = inl (atom_constant is_false)
atom_begins words.TrueProposition = inl (atom_constant is_true_proposition)
atom_begins words.FalseProposition = inl (atom_constant is_false_proposition)
atom_begins words.LeftRound = inl atom_round
atom_begins w = inr (λ b. elim b [ atom_constant c ↦ elim c [ ] ])

begins : (x : Next) (t : Terminal) → (Begins x t) ⊎ (Begins x t → ⊥)
begins begins_item (terminals.Word words.Import) = inl item_import
begins begins_item (terminals.Word words.Open) = inl item_open
begins begins_item (terminals.Word words.Theorem) = inl item_theorem
begins begins_item (terminals.Word words.Example) = inl item_example
begins begins_part terminals.Name = inl by_name
begins begins_part (terminals.Word words.Bool) = inl by_bool
begins begins_part (terminals.Word words.BitVec) = inl by_bitvec
begins begins_binder (terminals.Word words.LeftRound) = inl by_round
begins begins_binder (terminals.Word words.LeftBrace) = inl by_brace
begins begins_name terminals.Name = inl by_binder
begins begins_atom terminals.Name = inl atom_name
begins begins_atom terminals.Numeral = inl atom_numeral
begins begins_atom (terminals.Word w) = atom_begins w
begins (is_word w) (terminals.Word v) = word_begins w v (same_word w v)
begins (operator_on p l) (terminals.Word w) = operator_begins p l w (when_fits p l (fixity_of w)) refl
begins x t = inr (λ b. elim b [ ])

-- the end of the file is the last symbol that is open, and stands there once
abbrev Bottom : List Symbol → Type 0
Bottom [] = ⊥
Bottom (finish ∷ a) = a ≡ []
Bottom (s ∷ a) = Bottom a

bottom_rule : {s : Symbol} {r : List Symbol} (a : List Symbol) → Rule s r → Bottom (s ∷ a) → Bottom (r ++ a)
bottom_rule a g.import_item h = h
bottom_rule a q h = h

keeps_bottom : {ts : List Terminal} {a b : List Symbol} {i j : ℕ} → Derives ts a i b j → j ≤ length ts → Bottom a → Bottom b
keeps_bottom here w h = h
keeps_bottom (taken e d) w h = keeps_bottom d w h
keeps_bottom {ts} {i = i} (at_end e d) w h = absurd (not_past i e (omega (arith, grows d, w)))
  where
    not_past : (k : ℕ) → slice_get ts k ≡ None → k < length ts → ⊥
    not_past k f l = let there = slice_get-get_or ts k terminals.Name l in cc
keeps_bottom (not_next e d) w h = keeps_bottom d w h
keeps_bottom (by_rule {a = a} q d) w h = keeps_bottom d w (bottom_rule a q h)

record Stands (ts : List Terminal) (a : List Symbol) (i : ℕ) : Type 0 where
  pub within : i ≤ length ts
  pub bottom : Bottom a
  pub leads : Leads ts file 0 a i

onward : {ts : List Terminal} {a b : List Symbol} {i j : ℕ} → Stands ts a i → Leads ts a i b j → j ≤ length ts → Stands ts b j
onward s l w = record { within = w; bottom = keeps_bottom l.derives w s.bottom; leads = then s.leads l }

-- from here on, with so many steps
abbrev Claim : List Terminal → ℕ → Type 0
Claim ts n = (a : List Symbol) (i : ℕ) → Stands ts a i → 10 * (length ts - i) + length a ≤ n → WholeOrFault ts

fails : {ts : List Terminal} (a : List Symbol) (i : ℕ) → Stands ts a i → Dead ts a i → WholeOrFault ts
fails a i s dead = inr (i, fault_at s.within s.leads dead)

on_move : (ts : List Terminal) (n : ℕ) → Claim ts n → (s : Symbol) (a : List Symbol) (i : ℕ) (rest : List Symbol) (step : Step) → Holds s (slice_get ts i) rest step → Stands ts (s ∷ a) i → 10 * (length ts - i) + length (s ∷ a) ≤ suc n → WholeOrFault ts
on_move ts n go s a i rest (Took r) h st m =
    let within = slice_get_within ts i (terminal_of r) h.0 in
    go (rest ++ a) (i + 1) (onward st (then (h.2 ts i a refl) (on_terminal (rest ++ a) h.0)) (omega arith)) (omega (arith, h.1, length-append rest a))
on_move ts n go s a i rest Passed h st m = go a i (onward st (h.1 ts i a refl) st.within) (omega arith)
on_move ts n go s a i rest Failed h st m = fails (s ∷ a) i st (h ts i a refl)

on_next : (ts : List Terminal) (n : ℕ) → Claim ts n → (x : Next) (a : List Symbol) (i : ℕ) (o : Option Terminal) → slice_get ts i ≡ o → Stands ts (unless x ∷ a) i → 10 * (length ts - i) + suc (length a) ≤ suc n → WholeOrFault ts
on_next ts n go x a i None e st m = go a i (onward st (on_unless a (λ t f. let wrong : None ≡ Some t = sym e ∙ f in (cc))) st.within) (omega arith)
on_next ts n go x a i (Some u) e st m = elim (begins x u) [
  | inl b ↦ fails (unless x ∷ a) i st (λ c k h d. (after_unless h d).0 u e b)
  | inr not_so ↦ go a i (onward st (on_unless a (λ t f. let same : u ≡ t = other t f in subst (λ v. Begins x v → ⊥) same not_so)) st.within) (omega arith)
]
  where
    other : (t : Terminal) → slice_get ts i ≡ Some t → u ≡ t
    other t f = cc

last_cases : (m n : ℕ) → m ≤ n → (m ≡ n) ⊎ (m < n)
last_cases m n w = grind arith

on_end : (ts : List Terminal) (a : List Symbol) (i : ℕ) (o : Option Terminal) → slice_get ts i ≡ o → Stands ts (finish ∷ a) i → WholeOrFault ts
on_end ts a i (Some u) e st = fails (finish ∷ a) i st (dead_finish a e)
on_end ts a i None e st =
    let same : i ≡ length ts = at_last (omega (arith, st.within)) in
    let whole : Derives ts file 0 [] (i + 1) = follow st.leads.derives (at_end e (subst (λ b. Derives ts a (i + 1) b (i + 1)) st.bottom here)) in
    inl (subst (λ k. Derives ts file 0 [] (k + 1)) same whole)
  where
    no_end : {t : Terminal} → slice_get ts i ≡ Some t → ⊥
    no_end f = cc

    at_last : i ≤ length ts → i ≡ length ts
    at_last w = elim (last_cases i (length ts) w) [ inl same ↦ same | inr less ↦ let there = slice_get-get_or ts i terminals.Name less in absurd (no_end there) ]

on_word : (ts : List Terminal) (n : ℕ) → Claim ts n → (r : Role) (a : List Symbol) (i : ℕ) → (slice_get ts i ≡ Some (terminal_of r)) ⊎ (slice_get ts i ≡ Some (terminal_of r) → ⊥) → Stands ts (terminal r ∷ a) i → 10 * (length ts - i) + suc (length a) ≤ suc n → WholeOrFault ts
on_word ts n go r a i (inl e) st m = let within = slice_get_within ts i (terminal_of r) e in go a (i + 1) (onward st (on_terminal a e) (omega arith)) (omega arith)
on_word ts n go r a i (inr other) st m = fails (terminal r ∷ a) i st (dead_terminal a other)

one_more : (ts : List Terminal) (n : ℕ) → Claim ts n → Claim ts (suc n)
one_more ts n go [] i st m = absurd st.bottom
one_more ts n go (finish ∷ a) i st m = on_end ts a i (slice_get ts i) refl st
one_more ts n go (terminal r ∷ a) i st m = on_word ts n go r a i (stands_there (slice_get ts i) (terminal_of r)) st m
one_more ts n go (unless x ∷ a) i st m = on_next ts n go x a i (slice_get ts i) refl st m
one_more ts n go (items ∷ a) i st m = on_move ts n go items a i _ _ (items_sound (slice_get ts i)) st m
one_more ts n go (path ∷ a) i st m = on_move ts n go path a i _ _ (path_sound (slice_get ts i)) st m
one_more ts n go (dotted ∷ a) i st m = on_move ts n go dotted a i _ _ (dotted_sound (slice_get ts i)) st m
one_more ts n go (paths ∷ a) i st m = on_move ts n go paths a i _ _ (paths_sound (slice_get ts i)) st m
one_more ts n go (part ∷ a) i st m = on_move ts n go part a i _ _ (part_sound (slice_get ts i)) st m
one_more ts n go (binders ∷ a) i st m = on_move ts n go binders a i _ _ (binders_sound (slice_get ts i)) st m
one_more ts n go (names ∷ a) i st m = on_move ts n go names a i _ _ (names_sound (slice_get ts i)) st m
one_more ts n go (brace_names ∷ a) i st m = on_move ts n go brace_names a i _ _ (brace_names_sound (slice_get ts i)) st m
one_more ts n go (bound ∷ a) i st m = on_move ts n go bound a i _ _ (bound_sound (slice_get ts i)) st m
one_more ts n go (sort ∷ a) i st m = on_move ts n go sort a i _ _ (sort_sound (slice_get ts i)) st m
one_more ts n go (proof ∷ a) i st m = on_move ts n go proof a i _ _ (proof_sound (slice_get ts i)) st m
one_more ts n go (intro ∷ a) i st m = on_move ts n go intro a i _ _ (intro_sound (slice_get ts i)) st m
one_more ts n go (separator ∷ a) i st m = on_move ts n go separator a i _ _ (separator_sound (slice_get ts i)) st m
one_more ts n go (tactic ∷ a) i st m = on_move ts n go tactic a i _ _ (tactic_sound (slice_get ts i)) st m
one_more ts n go (term p ∷ a) i st m = on_move ts n go (term p) a i _ _ (term_sound p (slice_get ts i)) st m
one_more ts n go (tail p l ∷ a) i st m = on_move ts n go (tail p l) a i _ _ (tail_sound p l (slice_get ts i)) st m
one_more ts n go (call ∷ a) i st m = on_move ts n go call a i _ _ (call_sound (slice_get ts i)) st m
one_more ts n go (methods ∷ a) i st m = on_move ts n go methods a i _ _ (methods_sound (slice_get ts i)) st m
one_more ts n go (more_methods ∷ a) i st m = on_move ts n go more_methods a i _ _ (more_methods_sound (slice_get ts i)) st m
one_more ts n go (arguments ∷ a) i st m = on_move ts n go arguments a i _ _ (arguments_sound (slice_get ts i)) st m
one_more ts n go (dots ∷ a) i st m = on_move ts n go dots a i _ _ (dots_sound (slice_get ts i)) st m
one_more ts n go (atom ∷ a) i st m = on_move ts n go atom a i _ _ (atom_sound (slice_get ts i)) st m
one_more ts n go (literal ∷ a) i st m = on_move ts n go literal a i _ _ (literal_sound (slice_get ts i)) st m
one_more ts n go (closing ∷ a) i st m = on_move ts n go closing a i _ _ (closing_sound (slice_get ts i)) st m

ends_within : (ts : List Terminal) (n : ℕ) → Claim ts n
ends_within ts zero [] i st m = absurd st.bottom
ends_within ts zero (s ∷ a) i st m = absurd (omega (arith, m))
ends_within ts (suc n) a i st m = one_more ts n (ends_within ts n) a i st m

pub every_file_ends : (ts : List Terminal) → WholeOrFault ts
every_file_ends ts = ends_within ts (10 * length ts + 2) file 0 (record { within = omega arith; bottom = refl; leads = stay }) (omega arith)
