-- The goals of a file are goals that the syntax can spell.
use Rattle.std.proofs.Common.{◌≡◌, ◌≢◌, Bool, true, false, ℕ, zero, suc, ◌+◌, ◌-◌, ◌<◌, ◌≤◌, ◌^◌, List, [], ◌∷◌, ◌++◌, length, get_or, take, drop, Option, Some, None, refl, sym, subst, arith, ap, ◌∙◌, codes}
use Rattle.std.specs.Prelude.{All, IsTrue, bytes_eq, slice_get, slice_range, option_and_then, option_map, map, flat_map, if◌then◌else◌}
use Rattle.std.specs.Str.{IsUtf8, is_utf8}
use Rattle.std.specs.Str.Lossy.{utf8_valid_len, valid_len_up_to}
use Rattle.std.proofs.lemmas.Str.{IsUtf8-nil, IsUtf8-from_is_utf8, IsUtf8-drop, IsUtf8-take, IsCharBoundary-before_ascii, IsCharBoundary-after_ascii}
use Rattle.std.proofs.lemmas.Option.{slice_get_within, get_or_from_slice_get}
use Rattle.std.proofs.lemmas.List.Elements.{All-nil, All-cons, All-head, All-append}
use Rattle.std.proofs.Math.Seq.{take-length}
use Rattle.bv_lex.specs.declared.token.Token.{Token}
use Rattle.bv_lex.specs.declared.token.TokenKind.{TokenKind}
use Rattle.bv_lex.specs.declared.token.TokenKind.TheVariants as kinds
use Rattle.bv_lex.specs.Letters.{is_in_string}
use Rattle.std.specs.List.{list_any}
use Rattle.bv_lex.specs.Signs.{kind_of_word, reserved_words}
use Rattle.bv_lex.specs.Pieces.{Piece, blank, line_comment, nested_comment, name, decimal_numeral, prefixed_numeral, string, sign}
use Rattle.bv_lex.specs.Cut.{IsWithin, AreTokens}
use Rattle.bv_lex.proofs.Reading.{read}
use Rattle.bv_lex.proofs.Values.{range_length}
use Rattle.bv_grammar.specs.declared.words.Terminal.TheVariants as terminal_kinds
use Rattle.bv_terminals.specs.Spellings.{terminal_of_kind}
use Rattle.bv_expr.specs.declared.ops.Sort.{Sort}
use Rattle.bv_expr.specs.declared.ops.Sort.TheVariants.{Truth, Vector}
use Rattle.bv_expr.specs.declared.ops.Unary.{Unary}
use Rattle.bv_expr.specs.declared.ops.Unary.TheVariants as of
use Rattle.bv_expr.specs.Goal.{Binders, variables}
use Rattle.bv_expr.specs.Sorts.{vectors, unary_sort, binary_sort, choice_sort, truth_choice_sort, sort_of}
use Rattle.bv_expr.specs.Term.{Term, constant, variable, truth, truth_variable, unary, binary, choice, truth_choice}
use Rattle.bv_trees.specs.Trees.{Tree, Goal}
use Rattle.bv_trees.specs.Terms.{IsAt}
use Rattle.bv_trees.specs.Files as f
use Rattle.bv_typing.specs.Source.{Source, text_at, number_of, number_of_kind, number_at, quoted_in, quoted_of, quoted_at}
use Rattle.bv_typing.specs.Variables.{binders_of}
use Rattle.bv_typing.specs.Readings.{Env, term}
use Rattle.bv_typing.specs.Goals.{misfits, truth_misfits, bound_misfits, hypotheses, terms_of, env_of, goal_misfits, file_misfits, name_between, statement}
use Rattle.bv_terms.proofs.Built.{Numbered}
use Rattle.bv_terms.proofs.OverTrees.{none_in, truth_term}
use Rattle.bv_terms.proofs.OverGoals.{goal_bounded, goal_numbered, goal_fits}
use Rattle.bv_print.specs.Spelling.{kept_numbers}
use Rattle.bv_print.specs.Canonical.{name_at}
use Rattle.bv_canon.specs.Names.{IsGoalName, IsQuoted, IsStored}
use Rattle.bv_canon.specs.Reading.{terminals, NumbersFit, IsSpellable, IsOfSyntax}
use Rattle.bv_canon.proofs.Tokens.{all_utf8, token_in, get_drop, range_get, has_token}
use Rattle.bv_canon.proofs.Named.{theorem_name, example_name, bound_names, binder_names}
use Rattle.bv_canon.proofs.Stated.{have_sorts, written_numbers, Small, Fine, IsKnown, fine_term, none_left, none_right}
use Rattle.bv_canon.proofs.Held.{width_within, held}
use Rattle.bv_canon.proofs.Terms.{and_then_parts}

-- ---- from written numbers to all

width_small : (w : ℕ) (s : Sort) → vectors w ≡ Some s → w < 2 ^ 128
width_small w s h = let p = width_within w s h in omega arith

all_kept : (op : Unary) (s r : Sort) → unary_sort op s ≡ Some r → Small (written_numbers op) → Small (kept_numbers op)
all_kept (of.Extract start len) Truth r e h = absurd (cc)
all_kept (of.Extract start len) (Vector w) r e h =
    All-cons (λ n. n < 2 ^ 128) start (len ∷ []) (All-head (λ n. n < 2 ^ 128) start [] h) (All-cons (λ n. n < 2 ^ 128) len [] (width_small len r e) (All-nil (λ n. n < 2 ^ 128)))
all_kept of.Not s r e h = h
all_kept of.Neg s r e h = h
all_kept of.Msb s r e h = h
all_kept of.TNot s r e h = h
all_kept (of.ShlBy n) s r e h = h
all_kept (of.LshrBy n) s r e h = h
all_kept (of.AshrBy n) s r e h = h
all_kept (of.RotL n) s r e h = h
all_kept (of.RotR n) s r e h = h
all_kept (of.Bit n) s r e h = h
all_kept (of.SetWidth n) s r e h = h
all_kept (of.SignExtend n) s r e h = h

numbers_fit : (binders : Binders) (x : Term) (s : Sort) → sort_of x ≡ Some s → Fine binders x → NumbersFit x
numbers_fit binders (constant v) s e h = tt
numbers_fit binders (variable k w) s e h = tt
numbers_fit binders (truth b) s e h = tt
numbers_fit binders (truth_variable k) s e h = tt
numbers_fit binders (unary op x) s e h =
    let p = and_then_parts (unary_sort op) (sort_of x) s e in
    (all_kept op p.0 s p.2 h.0, numbers_fit binders x p.0 p.1 h.1)
numbers_fit binders (binary op x y) s e h =
    let p = and_then_parts (λ u. option_and_then (binary_sort op u) (sort_of y)) (sort_of x) s e in
    let q = and_then_parts (binary_sort op p.0) (sort_of y) s p.2 in
    (numbers_fit binders x p.0 p.1 h.0, numbers_fit binders y q.0 q.1 h.1)
numbers_fit binders (choice c x y) s e h =
    let o = and_then_parts (λ r. option_and_then (λ s. option_and_then (choice_sort r s) (sort_of y)) (sort_of x)) (sort_of c) s e in
    let p = and_then_parts (λ s. option_and_then (choice_sort o.0 s) (sort_of y)) (sort_of x) s o.2 in
    let q = and_then_parts (choice_sort o.0 p.0) (sort_of y) s p.2 in
    (numbers_fit binders c o.0 o.1 h.0, numbers_fit binders x p.0 p.1 h.1, numbers_fit binders y q.0 q.1 h.2)
numbers_fit binders (truth_choice c x y) s e h =
    let o = and_then_parts (λ r. option_and_then (λ s. option_and_then (truth_choice_sort r s) (sort_of y)) (sort_of x)) (sort_of c) s e in
    let p = and_then_parts (λ s. option_and_then (truth_choice_sort o.0 s) (sort_of y)) (sort_of x) s o.2 in
    let q = and_then_parts (truth_choice_sort o.0 p.0) (sort_of y) s p.2 in
    (numbers_fit binders c o.0 o.1 h.0, numbers_fit binders x p.0 p.1 h.1, numbers_fit binders y q.0 q.1 h.2)

abbrev IsNoBlank : Binders → ℕ × Sort → Type 0
IsNoBlank binders v = name_at binders v.0 ≢ codes "_"

names_fit : (binders : Binders) (x : Term) → Fine binders x → All (IsNoBlank binders) (variables x)
names_fit binders (constant v) h = All-nil (IsNoBlank binders)
names_fit binders (variable k w) h = All-cons (IsNoBlank binders) (k, Vector w) [] h (All-nil (IsNoBlank binders))
names_fit binders (truth b) h = All-nil (IsNoBlank binders)
names_fit binders (truth_variable k) h = All-cons (IsNoBlank binders) (k, Truth) [] h (All-nil (IsNoBlank binders))
names_fit binders (unary op x) h = names_fit binders x h.1
names_fit binders (binary op x y) h = All-append (IsNoBlank binders) (variables x) (variables y) (names_fit binders x h.0) (names_fit binders y h.1)
names_fit binders (choice c x y) h =
    All-append (IsNoBlank binders) (variables c) (variables x ++ variables y) (names_fit binders c h.0) (All-append (IsNoBlank binders) (variables x) (variables y) (names_fit binders x h.1) (names_fit binders y h.2))
names_fit binders (truth_choice c x y) h =
    All-append (IsNoBlank binders) (variables c) (variables x ++ variables y) (names_fit binders c h.0) (All-append (IsNoBlank binders) (variables x) (variables y) (names_fit binders x h.1) (names_fit binders y h.2))

abbrev AreSpellable : Env → List Tree → Type 0
AreSpellable e xs = All (IsSpellable (binders_of e.bounds)) (map (term e 0) xs)

spellable : (e : Env) → IsKnown e → Numbered e → (x : Tree) → misfits e x ≡ [] → truth_misfits e x ≡ [] → IsSpellable (binders_of e.bounds) (term e 0 x)
spellable e k n x h g =
    let fine = fine_term e k 0 x in
    record {
      expr = held e k n x h g;
      numbers = numbers_fit (binders_of e.bounds) (term e 0 x) Truth (truth_term e k.bounded x h g) fine;
      named = names_fit (binders_of e.bounds) (term e 0 x) fine;
    }

-- hypotheses, and a conclusion behind them
all_spellable : (e : Env) → IsKnown e → Numbered e → (hs : List Tree) (c : Tree)
    → flat_map (misfits e) (hs ++ c ∷ []) ≡ [] → flat_map (truth_misfits e) (hs ++ c ∷ []) ≡ [] → AreSpellable e hs × IsSpellable (binders_of e.bounds) (term e 0 c)
all_spellable e k n [] c h g =
    let p = none_in (misfits e c) [] h in
    let q = none_in (truth_misfits e c) [] g in
    (All-nil (IsSpellable (binders_of e.bounds)), spellable e k n c p.0 q.0)
all_spellable e k n (x ∷ hs) c h g =
    let p = none_in (misfits e x) (flat_map (misfits e) (hs ++ c ∷ [])) h in
    let q = none_in (truth_misfits e x) (flat_map (truth_misfits e) (hs ++ c ∷ [])) g in
    let rest = all_spellable e k n hs c p.1 q.1 in
    (All-cons (IsSpellable (binders_of e.bounds)) (term e 0 x) (map (term e 0) hs) (spellable e k n x p.0 q.0) rest.0, rest.1)

-- ---- what a file tells

number_small : (s : Source) → AreTokens s.bytes s.tokens → (i : ℕ) → number_at s i < 2 ^ 128
number_small s c i = go (slice_get s.tokens i) refl
  where
    by_kind : (k : TokenKind) → IsWithin k → number_of_kind k < 2 ^ 128
    by_kind (kinds.Numeral n) h = h
    by_kind kinds.Name h = omega arith
    by_kind kinds.Reserved h = omega arith
    by_kind kinds.Text h = omega arith
    by_kind kinds.Sign h = omega arith

    go : (t : Option Token) → slice_get s.tokens i ≡ t → number_of t < 2 ^ 128
    go None e = omega arith
    go (Some t) e = by_kind t.kind (token_in s.bytes s.tokens c i t e).within

-- ---- stored files

whole_utf8 : (bs : List ℕ) → utf8_valid_len bs ≡ length bs → IsUtf8 bs
unfolding utf8_valid_len
whole_utf8 bs e = subst IsUtf8 (ap (λ n. take n bs) e ∙ take-length bs) (front_utf8 (length bs))
  where
    front_utf8 : (n : ℕ) → IsUtf8 (take (valid_len_up_to bs n) bs)
    front_utf8 zero = IsUtf8-nil
    front_utf8 (suc n) = go (is_utf8 (take (suc n) bs)) refl (front_utf8 n)
      where
        go : (b : Bool) → is_utf8 (take (suc n) bs) ≡ b → IsUtf8 (take (valid_len_up_to bs n) bs) → IsUtf8 (take (if b then suc n else valid_len_up_to bs n) bs)
        go true e h = IsUtf8-from_is_utf8 (take (suc n) bs) e
        go false e h = h

kind_is_text : (k : TokenKind) (text : List ℕ) → terminal_of_kind k text ≡ terminal_kinds.Text → k ≡ kinds.Text
kind_is_text kinds.Text text e = refl
kind_is_text kinds.Name text e = absurd (cc)
kind_is_text (kinds.Numeral n) text e = absurd (cc)
kind_is_text kinds.Reserved text e = absurd (cc)
kind_is_text kinds.Sign text e = absurd (cc)

-- what stands between two places of UTF-8, of which the one is behind an ASCII byte and the other before one
between : (bs : List ℕ) (i j b c : ℕ) → IsUtf8 bs → slice_get bs i ≡ Some b → b < 128 → i + 1 ≤ j → slice_get bs j ≡ Some c → c < 128 → IsUtf8 (slice_range bs (i + 1) j)
between bs i j b c u e low order g high =
    let lt = slice_get_within bs i b e in
    let first = read bs i b e in
    let rest = drop (i + 1) bs in
    let behind = IsUtf8-drop bs (i + 1) u (IsCharBoundary-after_ascii bs i u lt (omega arith)) in
    let n = j - (i + 1) in
    let there : slice_get rest n ≡ Some c = get_drop bs (i + 1) n ∙ ap (slice_get bs) (place i j order) ∙ g in
    let last = read rest n c there in
    IsUtf8-take rest n behind (IsCharBoundary-before_ascii rest n (slice_get_within rest n c there) (omega arith))
  where
    place : (i j : ℕ) → i + 1 ≤ j → i + 1 + (j - (i + 1)) ≡ j
    place i j h = omega arith

-- a word is no string
word_no_text : (w : List ℕ) → kind_of_word w ≡ kinds.Text → ⊥
word_no_text w h = go (list_any (λ v. bytes_eq v w) reserved_words) h
  where
    go : (b : Bool) → (if b then kinds.Reserved else kinds.Name) ≡ kinds.Text → ⊥
    go true h = cc
    go false h = cc

abbrev kind_in : Option TokenKind → TokenKind
kind_in None = kinds.Sign
kind_in (Some k) = k

quoted_string : (bs : List ℕ) (k : Option TokenKind) (i j : ℕ) → IsUtf8 bs → Piece bs k i j → k ≡ Some kinds.Text → IsQuoted (slice_range bs (i + 1) (j - 1))
quoted_string bs k i j u (blank g t) e = absurd (cc)
quoted_string bs k i j u (line_comment s le each) e = absurd (cc)
quoted_string bs k i j u (nested_comment s c) e = absurd (cc)
quoted_string bs k i j u (name x r) e = absurd (word_no_text (slice_range bs i j) (ap kind_in e))
quoted_string bs k i j u (decimal_numeral d) e = absurd (cc)
quoted_string bs k i j u (prefixed_numeral p s d) e = absurd (cc)
quoted_string bs k i j u (sign w m s) e = absurd (cc)
quoted_string bs k i j u (string {j = n} s le each q) e =
    let lt = slice_get_within bs n 34 q.0 in
    subst (λ m. IsQuoted (slice_range bs (i + 1) m)) (one_less n) (record {
      utf8 = between bs i n 34 34 u s.0 (omega arith) le q.0 (omega arith);
      bytes = λ k d l. in_string k d (omega (arith, l, range_length bs (i + 1) n le (omega arith)));
    })
  where
    one_less : (n : ℕ) → n ≡ n + 1 - 1
    one_less n = omega arith

    in_string : (k d : ℕ) → i + 1 + k < n → IsTrue (is_in_string (get_or (slice_range bs (i + 1) n) k d))
    in_string k d l =
        let x = each (i + 1 + k) (omega arith) l in
        subst (λ b. IsTrue (is_in_string b)) (sym (get_or_from_slice_get (slice_range bs (i + 1) n) k x.0 d (range_get bs (i + 1) n k l ∙ x.1))) x.2

text_quoted : (s : Source) (i : ℕ) → AreTokens s.bytes s.tokens → IsAt (terminals s) terminal_kinds.Text i → IsQuoted (quoted_at s i)
text_quoted s i c h =
    let t = has_token s terminal_kinds.Text i h in
    let piece = (token_in s.bytes s.tokens c i t.token t.here).piece in
    let is_text = kind_is_text t.token.kind (text_at s i) t.is in
    subst IsQuoted (sym (ap (quoted_of s.bytes) t.here ∙ ap (λ k. quoted_in k (slice_range s.bytes (t.token.from + 1) (t.token.to - 1))) is_text))
    (quoted_string s.bytes (Some t.token.kind) t.token.from t.token.to (whole_utf8 s.bytes (all_utf8 s.bytes s.tokens c)) piece (ap Some is_text))

stored_is : (s : Source) → AreTokens s.bytes s.tokens → {i j : ℕ} {o : Option ℕ} → f.Tactic (terminals s) i o j → IsStored (option_map (quoted_at s) o)
stored_is s c (f.decided h) = tt
stored_is s c (f.checked {i} h t) = text_quoted s (i + 1) c t

proof_stored : (s : Source) → AreTokens s.bytes s.tokens → {i j : ℕ} {o : Option ℕ} → f.Proof (terminals s) i o j → IsStored (option_map (quoted_at s) o)
proof_stored s c (f.by_tactic b n t) = stored_is s c t

-- ---- goals

goal_of_syntax : (s : Source) → AreTokens s.bytes s.tokens → {h i j : ℕ} {g : Goal} → f.Statement (terminals s) h i g j
    → IsGoalName (name_between s h i) → goal_misfits s g ≡ [] → IsOfSyntax (statement s g)
goal_of_syntax s c {h} {i} (f.statement {bs = bs} {x = x} {s = o} b colon t assign p) n fits =
    let g : Goal = record { head = h; path = i; binders = bs; conclusion = x; stored = o } in
    let e = env_of s g in
    let faults = flat_map (misfits e) (terms_of g) in
    let no_truths = flat_map (truth_misfits e) (terms_of g) in
    let l = none_in (bound_misfits [] e.bounds) (faults ++ no_truths) fits in
    let m = none_in faults no_truths l.1 in
    let known : IsKnown e = record { sorts = have_sorts [] e.bounds l.0; bounded = goal_bounded s g fits; small = number_small s c } in
    let terms = all_spellable e known (goal_numbered s g fits) (hypotheses bs) x m.0 m.1 in
    record {
      fits = goal_fits s g fits;
      name = n;
      names = binder_names e.bounds (bound_names s c b);
      hyps = terms.0;
      concl = terms.1;
      stored = proof_stored s c p;
    }

items_of_syntax : (s : Source) → AreTokens s.bytes s.tokens → {i j : ℕ} {gs : List Goal} → f.Items (terminals s) i gs j → file_misfits s gs ≡ [] → All IsOfSyntax (map (statement s) gs)
items_of_syntax s c (f.no_item n) fits = All-nil IsOfSyntax
items_of_syntax s c (f.import_ w p rest) fits = items_of_syntax s c rest fits
items_of_syntax s c (f.open_ w p ps rest) fits = items_of_syntax s c rest fits
items_of_syntax s c (f.theorem_ {i} {k} {g = g} {gs} w p st rest) fits =
    All-cons IsOfSyntax (statement s g) (map (statement s) gs) (goal_of_syntax s c st (theorem_name s c i k p) (none_left (goal_misfits s g) (file_misfits s gs) fits)) (items_of_syntax s c rest (none_right (goal_misfits s g) (file_misfits s gs) fits))
items_of_syntax s c (f.example_ {i} {g = g} {gs} w st rest) fits =
    All-cons IsOfSyntax (statement s g) (map (statement s) gs) (goal_of_syntax s c st (example_name s i) (none_left (goal_misfits s g) (file_misfits s gs) fits)) (items_of_syntax s c rest (none_right (goal_misfits s g) (file_misfits s gs) fits))

pub stated_of_syntax : (s : Source) (trees : List Goal) → AreTokens s.bytes s.tokens → f.AreGoals (terminals s) trees → file_misfits s trees ≡ [] → All IsOfSyntax (map (statement s) trees)
stated_of_syntax s trees c d fits = items_of_syntax s c d fits
