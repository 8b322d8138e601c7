-- Files have one answer, by the laws of the steps that lead to it.
use Rattle.std.proofs.Common.{◌≡◌, refl, sym, ap, subst, ◌∙◌, ℕ, List, [], Option, Some, None}
use Rattle.std.specs.Prelude.{slice_get, map}
use Rattle.bv_lex.specs.declared.token.Token.{Token}
use Rattle.bv_lex.specs.declared.fault.Fault.{Fault}
use Rattle.bv_lex.specs.declared.fault.What.{What}
use Rattle.bv_lex.specs.declared.fault.FaultKind.TheVariants as kind
use Rattle.bv_lex.specs.Cut.{AreTokens, IsTokenFault}
use Rattle.bv_lex.specs.Laws.{OneCut}
use Rattle.bv_grammar.specs.declared.words.Terminal.{Terminal}
use Rattle.bv_grammar.specs.Derivation.{IsFile, IsSyntaxFault}
use Rattle.bv_grammar.specs.Laws as grammar
use Rattle.bv_trees.specs.Trees.{Goal}
use Rattle.bv_trees.specs.Files.{AreGoals}
use Rattle.bv_trees.specs.Laws as trees
use Rattle.bv_limits.specs.declared.plain.Met.{Met}
use Rattle.bv_limits.specs.Limits.{IsLimit}
use Rattle.bv_limits.specs.Files.{IsLeast, IsMetIn}
use Rattle.bv_limits.proofs.Sooner.{one_least}
use Rattle.bv_typing.specs.declared.misfit.Misfit.{Misfit}
use Rattle.bv_typing.specs.Source.{source}
use Rattle.bv_expr.specs.Statement.{Statement}
use Rattle.bv_typing.specs.Goals.{file_misfits, least, statement}
use Rattle.bv_parse.specs.Reads.{terminals_of, place_of, Outlines, IsWithinLimits, limit_at, IsFaultOf, of_tokens, of_limits, of_limits_before, of_syntax, of_types}
use Rattle.bv_parse.specs.Laws as laws

-- the laws of the steps
pub record Steps : Type 0 where
  pub cut : (bytes : List ℕ) → OneCut bytes
  pub not_both : (ts : List Terminal) (at : ℕ) → grammar.NotBoth ts at
  pub one_fault : (ts : List Terminal) (at at' : ℕ) → grammar.OneFault ts at at'
  pub whole : (ts : List Terminal) (gs : List Goal) → trees.IsWhole ts gs
  pub one : (ts : List Terminal) (gs hs : List Goal) → trees.OneReading ts gs hs

same_tokens : (s : Steps) (bytes : List ℕ) (ts us : List Token) → AreTokens bytes ts → AreTokens bytes us → ts ≡ us
same_tokens s bytes ts us a b = (s.cut bytes ts us None None a b).0

none_is_some : {A : Type 0} (x : A) → None ≡ Some x → ⊥
none_is_some x e = (cc)

some_is : {A : Type 0} (x y : A) → Some x ≡ Some y → x ≡ y
some_is x y e = (cc)

no_token_fault : (s : Steps) (bytes : List ℕ) (ts : List Token) (f : Fault) → AreTokens bytes ts → IsTokenFault bytes f → ⊥
no_token_fault s bytes ts f a (us, b) = none_is_some f ((s.cut bytes ts us None (Some f) a b).1)

same_trees : (s : Steps) (bytes : List ℕ) (ts us : List Token) (gs hs : List Goal) → Outlines bytes ts gs → Outlines bytes us hs → gs ≡ hs
same_trees s bytes ts us gs hs a b =
    s.one (terminals_of bytes us) gs hs (subst (λ xs. AreGoals (terminals_of bytes xs) gs) (same_tokens s bytes ts us a.cut b.cut) a.goals) b.goals

no_syntax : (s : Steps) (bytes : List ℕ) (ts us : List Token) (gs : List Goal) (at : ℕ) → Outlines bytes ts gs → AreTokens bytes us → IsSyntaxFault (terminals_of bytes us) at → ⊥
no_syntax s bytes ts us gs at o c f =
    s.not_both (terminals_of bytes us) at (subst (λ xs. IsFile (terminals_of bytes xs)) (same_tokens s bytes ts us o.cut c) (s.whole (terminals_of bytes ts) gs o.goals)) f

least_none : (m : Misfit) (ms : List Misfit) → ms ≡ [] → least ms ≡ Some m → ⊥
least_none m ms e l = none_is_some m (sym (ap least e) ∙ l)

limit_of_none : (p : What → ℕ → Type 0) (m : Met) → IsLeast p None → IsLeast p (Some m) → ⊥
limit_of_none p m n f = n m.what m.at f.0

abbrev met : (bytes : List ℕ) (ts : List Token) (gs : List Goal) → What → ℕ → Type 0
met bytes ts gs = IsMetIn ts (terminals_of bytes ts) gs

abbrev met_before : (bytes : List ℕ) (ts : List Token) (end : ℕ) → What → ℕ → Type 0
met_before bytes ts end = IsLimit ts (terminals_of bytes ts) end

-- what is said of one outline is said of the other
of_other : (s : Steps) (bytes : List ℕ) (ts us : List Token) (gs hs : List Goal) (p : List Token → List Goal → Type 0) → Outlines bytes ts gs → Outlines bytes us hs → p ts gs → p us hs
of_other s bytes ts us gs hs p a b h = subst (λ xs. p xs hs) (same_tokens s bytes ts us a.cut b.cut) (subst (λ ys. p ts ys) (same_trees s bytes ts us gs hs a b) h)

pub one_reading : (s : Steps) (bytes : List ℕ) (xs ys : List Statement) → laws.OneReading bytes xs ys
one_reading s bytes xs ys a b =
    a.states.are ∙ of_other s bytes a.tokens b.tokens a.trees b.trees (λ us hs. map (statement (source bytes a.tokens)) a.trees ≡ map (statement (source bytes us)) hs) a.outlines b.outlines refl ∙ sym b.states.are

pub not_both : (s : Steps) (bytes : List ℕ) (xs : List Statement) (f : Fault) → laws.NotBoth bytes xs f
not_both s bytes xs f a (of_tokens t) = no_token_fault s bytes a.tokens f a.outlines.cut t
not_both s bytes xs f a (of_limits {tokens} {gs} {m} o l) =
    limit_of_none (met bytes tokens gs) m (of_other s bytes a.tokens tokens a.trees gs (λ us ys. IsWithinLimits bytes us ys) a.outlines o a.within) l
not_both s bytes xs f a (of_limits_before {tokens} {end} c e l) = no_syntax s bytes a.tokens tokens a.trees end a.outlines c e
not_both s bytes xs f a (of_syntax {tokens} {end} c e l) = no_syntax s bytes a.tokens tokens a.trees end a.outlines c e
not_both s bytes xs f a (of_types {tokens} {gs} {m} o w l) =
    least_none m (file_misfits (source bytes tokens) gs) (of_other s bytes a.tokens tokens a.trees gs (λ us ys. file_misfits (source bytes us) ys ≡ []) a.outlines o a.states.fit) l

abbrev short_fault : List ℕ → List Token → ℕ → Option Met → Fault
short_fault bytes ts end None = record { kind = kind.Syntax; place = place_of bytes (slice_get ts end) }
short_fault bytes ts end (Some m) = limit_at bytes ts m

abbrev misfit_at : List ℕ → List Token → Misfit → Fault
misfit_at bytes ts m = record { kind = m.kind; place = place_of bytes (slice_get ts m.at) }

abbrev WholeFault : List ℕ → List Token → List Goal → Option Met → Fault → Type 0
WholeFault bytes ts gs (Some m) f = f ≡ limit_at bytes ts m
WholeFault bytes ts gs None f = (m : Misfit) × (least (file_misfits (source bytes ts) gs) ≡ Some m) × (f ≡ misfit_at bytes ts m)

-- a fault by how the file ends
data Kind (bytes : List ℕ) (f : Fault) : Type 0 where
  in_tokens : IsTokenFault bytes f → Kind bytes f
  in_short : (ts : List Token) (end : ℕ) → AreTokens bytes ts → IsSyntaxFault (terminals_of bytes ts) end → (o : Option Met) → IsLeast (met_before bytes ts end) o
      → f ≡ short_fault bytes ts end o → Kind bytes f
  in_whole : (ts : List Token) (gs : List Goal) → Outlines bytes ts gs → (o : Option Met) → IsLeast (met bytes ts gs) o → WholeFault bytes ts gs o f → Kind bytes f

kind_of : (bytes : List ℕ) (f : Fault) → IsFaultOf bytes f → Kind bytes f
kind_of bytes f (of_tokens t) = in_tokens t
kind_of bytes f (of_limits {tokens} {gs} {m} o l) = in_whole tokens gs o (Some m) l refl
kind_of bytes f (of_limits_before {tokens} {end} {m} c e l) = in_short tokens end c e (Some m) l refl
kind_of bytes f (of_syntax {tokens} {end} c e l) = in_short tokens end c e None l refl
kind_of bytes f (of_types {tokens} {gs} {m} o w l) = in_whole tokens gs o None w (m, l, refl)

one_limit : (p : What → ℕ → Type 0) (o q : Option Met) → IsLeast p o → IsLeast p q → o ≡ q
one_limit p None None f g = refl
one_limit p None (Some n) f g = absurd (limit_of_none p n f g)
one_limit p (Some m) None f g = absurd (limit_of_none p m g f)
one_limit p (Some m) (Some n) f g = ap Some (one_least p m n f g)

both_short : (s : Steps) (bytes : List ℕ) (f g : Fault) (ts us : List Token) (end end' : ℕ) (o q : Option Met) → AreTokens bytes ts → AreTokens bytes us → IsSyntaxFault (terminals_of bytes ts) end
    → IsSyntaxFault (terminals_of bytes us) end' → IsLeast (met_before bytes ts end) o → IsLeast (met_before bytes us end') q → f ≡ short_fault bytes ts end o → g ≡ short_fault bytes us end' q → f ≡ g
both_short s bytes f g ts us end end' o q c d e e' l l' h h' =
    let tokens : ts ≡ us = same_tokens s bytes ts us c d in
    let ends : end ≡ end' = s.one_fault (terminals_of bytes us) end end' (subst (λ xs. IsSyntaxFault (terminals_of bytes xs) end) tokens e) e' in
    let least : IsLeast (met_before bytes us end') o = subst (λ n. IsLeast (met_before bytes us n) o) ends (subst (λ xs. IsLeast (met_before bytes xs end) o) tokens l) in
    h ∙ ap (λ xs. short_fault bytes xs end o) tokens ∙ ap (λ n. short_fault bytes us n o) ends ∙ ap (short_fault bytes us end') (one_limit (met_before bytes us end') o q least l') ∙ sym h'

one_whole_fault : (bytes : List ℕ) (f g : Fault) (ts : List Token) (gs : List Goal) (o : Option Met) → WholeFault bytes ts gs o f → WholeFault bytes ts gs o g → f ≡ g
one_whole_fault bytes f g ts gs (Some m) h k = h ∙ sym k
one_whole_fault bytes f g ts gs None (m, l, h) (n, k, h') = h ∙ ap (misfit_at bytes ts) (some_is m n (sym l ∙ k)) ∙ sym h'

both_whole : (s : Steps) (bytes : List ℕ) (f g : Fault) (ts us : List Token) (gs hs : List Goal) (o q : Option Met) → Outlines bytes ts gs → Outlines bytes us hs → IsLeast (met bytes ts gs) o → IsLeast (met bytes us hs) q
    → WholeFault bytes ts gs o f → WholeFault bytes us hs q g → f ≡ g
both_whole s bytes f g ts us gs hs o q a b l l' h h' =
    let least : IsLeast (met bytes us hs) o = of_other s bytes ts us gs hs (λ xs ys. IsLeast (met bytes xs ys) o) a b l in
    let fault : WholeFault bytes us hs o f = of_other s bytes ts us gs hs (λ xs ys. WholeFault bytes xs ys o f) a b h in
    one_whole_fault bytes f g us hs q (subst (λ r. WholeFault bytes us hs r f) (one_limit (met bytes us hs) o q least l') fault) h'

one_kind : (s : Steps) (bytes : List ℕ) (f g : Fault) → Kind bytes f → Kind bytes g → f ≡ g
one_kind s bytes f g (in_tokens (ts, a)) (in_tokens (us, b)) = some_is f g ((s.cut bytes ts us (Some f) (Some g) a b).1)
one_kind s bytes f g (in_tokens t) (in_short us end c e o l h) = absurd (no_token_fault s bytes us f c t)
one_kind s bytes f g (in_tokens t) (in_whole us gs o q l h) = absurd (no_token_fault s bytes us f o.cut t)
one_kind s bytes f g (in_short us end c e o l h) (in_tokens t) = absurd (no_token_fault s bytes us g c t)
one_kind s bytes f g (in_short ts end c e o l h) (in_short us end' d e' q l' h') = both_short s bytes f g ts us end end' o q c d e e' l l' h h'
one_kind s bytes f g (in_short us end c e o l h) (in_whole ts gs a q l' h') = absurd (no_syntax s bytes ts us gs end a c e)
one_kind s bytes f g (in_whole us gs o q l h) (in_tokens t) = absurd (no_token_fault s bytes us g o.cut t)
one_kind s bytes f g (in_whole ts gs a q l' h') (in_short us end c e o l h) = absurd (no_syntax s bytes ts us gs end a c e)
one_kind s bytes f g (in_whole ts gs a o l h) (in_whole us hs b q l' h') = both_whole s bytes f g ts us gs hs o q a b l l' h h'

pub one_fault : (s : Steps) (bytes : List ℕ) (f g : Fault) → laws.OneFault bytes f g
one_fault s bytes f g a b = one_kind s bytes f g (kind_of bytes f a) (kind_of bytes g b)
