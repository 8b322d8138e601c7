-- What a form's own row says by the kinds and depths of its parts.
use Rattle.std.proofs.Common.{◌≡◌, ℕ, ◌+◌, max, List, [], ◌∷◌, Option, Some, None, refl, sym, ap, ◌∙◌, subst}
use Rattle.std.specs.Prelude.{option_map, option_and_then}
use Rattle.bv_grammar.specs.declared.words.Word.{Word}
use Rattle.bv_expr.specs.declared.ops.Sort.{Sort}
use Rattle.bv_expr.specs.declared.ops.Sort.TheVariants.{Truth, Vector}
use Rattle.bv_limits.specs.Depths.{added}
use Rattle.bv_typing.specs.declared.kind.Kind.{Kind}
use Rattle.bv_typing.specs.declared.kind.Kind.TheVariants as kind
use Rattle.bv_typing.specs.declared.kind.Row.{Row}
use Rattle.bv_typing.specs.declared.kind.Row.TheVariants as row
use Rattle.bv_typing.specs.declared.method.Method.{Method}
use Rattle.bv_typing.specs.declared.method.Method.TheVariants as method
use Rattle.bv_typing.specs.declared.methods.Arguments.{Arguments}
use Rattle.bv_typing.specs.declared.methods.Arguments.TheVariants as few
use Rattle.bv_typing.specs.declared.verdicts.Typed.{Typed}
use Rattle.bv_typing.specs.declared.verdicts.Verdict.{Verdict}
use Rattle.bv_typing.specs.declared.verdicts.Gathered.{Gathered}
use Rattle.bv_typing.specs.Arguments.{kinds_in, put_before}
use Rattle.bv_typing.specs.Rows.{prefix_row, infix_row, choice_row, method_row, arguments_row}
use Rattle.bv_typing.specs.Readings.{typed, within, ascribed_to}
use Rattle.bv_typing.specs.Readings as readings
use Rattle.bv_typing.specs.Verdicts.{typed_with, deeper, prefix_verdict, infix_verdict, choice_verdict, ascribed_verdict, method_verdict}
use Rattle.bv_typing.specs.Judging.{row_in, typed_in, kind_in}

-- of this kind, if it is typed, at this depth
abbrev pub at : ℕ → Option Kind → Option Typed
at d a = option_map (λ k. record { kind = k; depth = d }) a

pub kind_again : (d : ℕ) (a : Option Kind) → kind_in (at d a) ≡ a
kind_again d None = refl
kind_again d (Some k) = refl

pub with_row : (d : ℕ) (r : Row) → typed_with d r ≡ at d (readings.kind_in r)
with_row d (row.Typed k) = refl
with_row d row.Fails = refl
with_row d row.TooWide = refl

-- a verdict says a row, and the kind that it gives at a depth
pub record Says (v : Option Verdict) (r : Option Row) (d : ℕ) : Type 0 where
  pub row_is : row_in v ≡ r
  pub typed_is : typed_in v ≡ at d (typed r)

says_nothing : (d : ℕ) → Says None None d
says_nothing d = record { row_is = refl; typed_is = refl }

says_deeper : (d : ℕ) (r : Row) → Says (Some (deeper d r)) (Some (within d r)) d
says_deeper d r = record { row_is = refl; typed_is = with_row d (within d r) }

pub says_prefix : (o : Word) (d : ℕ) (a : Option Kind) → Says (prefix_verdict o (at d a)) (option_map (λ k. within (d + 1) (prefix_row o k)) a) (d + 1)
says_prefix o d None = says_nothing (d + 1)
says_prefix o d (Some k) = says_deeper (d + 1) (prefix_row o k)

pub says_infix : (o : Word) (d e : ℕ) (a b : Option Kind) → Says (infix_verdict o (at d a) (at e b)) (option_and_then (λ k. option_map (λ l. within (max d e + added o) (infix_row o k l)) b) a) (max d e + added o)
says_infix o d e None b = says_nothing (max d e + added o)
says_infix o d e (Some k) None = says_nothing (max d e + added o)
says_infix o d e (Some k) (Some l) = says_deeper (max d e + added o) (infix_row o k l)

pub says_choice : (c d e : ℕ) (x a b : Option Kind)
    → Says (choice_verdict (at c x) (at d a) (at e b)) (option_and_then (λ j. option_and_then (λ k. option_map (λ l. within (max c (max d e) + 1) (choice_row j k l)) b) a) x) (max c (max d e) + 1)
says_choice c d e None a b = says_nothing (max c (max d e) + 1)
says_choice c d e (Some j) None b = says_nothing (max c (max d e) + 1)
says_choice c d e (Some j) (Some k) None = says_nothing (max c (max d e) + 1)
says_choice c d e (Some j) (Some k) (Some l) = says_deeper (max c (max d e) + 1) (choice_row j k l)

pub says_ascribed : (s : Option Sort) (d : ℕ) (a : Option Kind) → Says (ascribed_verdict s (at d a)) (option_map (ascribed_to s) a) d
says_ascribed s d None = says_nothing d
says_ascribed s d (Some k) = record { row_is = refl; typed_is = with_row d (ascribed_to s k) }

-- ---- arguments

abbrev pub few_of : List Kind → Arguments
few_of [] = few.None
few_of (k ∷ ks) = put_before k (few_of ks)

more_than_two : (j k l : Kind) (ks : Arguments) → put_before j (put_before k (put_before l ks)) ≡ few.More
more_than_two j k l few.None = refl
more_than_two j k l (few.One m) = refl
more_than_two j k l (few.Two m n) = refl
more_than_two j k l few.More = refl

no_row_of_three : (m : Method) (w : ℕ) (j k l : Kind) (ks : List Kind) → arguments_row m w (j ∷ k ∷ l ∷ ks) ≡ row.Fails
no_row_of_three method.Msb w j k l ks = refl
no_row_of_three (method.With op) w j k l ks = refl
no_row_of_three method.ArithmeticShift w (kind.Sorted Truth) k l ks = refl
no_row_of_three method.ArithmeticShift w (kind.Sorted (Vector v)) k l ks = refl
no_row_of_three method.ArithmeticShift w kind.Bare k l ks = refl
no_row_of_three method.ArithmeticShift w (kind.Number n) k l ks = refl
no_row_of_three (method.By m) w (kind.Sorted s) k l ks = refl
no_row_of_three (method.By m) w kind.Bare k l ks = refl
no_row_of_three (method.By m) w (kind.Number n) k l ks = refl
no_row_of_three method.Extract w (kind.Sorted s) k l ks = refl
no_row_of_three method.Extract w kind.Bare k l ks = refl
no_row_of_three method.Extract w (kind.Number n) (kind.Sorted s) l ks = refl
no_row_of_three method.Extract w (kind.Number n) kind.Bare l ks = refl
no_row_of_three method.Extract w (kind.Number n) (kind.Number p) l ks = refl
no_row_of_three method.ExtractBetween w (kind.Sorted s) k l ks = refl
no_row_of_three method.ExtractBetween w kind.Bare k l ks = refl
no_row_of_three method.ExtractBetween w (kind.Number n) (kind.Sorted s) l ks = refl
no_row_of_three method.ExtractBetween w (kind.Number n) kind.Bare l ks = refl
no_row_of_three method.ExtractBetween w (kind.Number n) (kind.Number p) l ks = refl

row_of_three : (m : Option Method) (r : Kind) (j k l : Kind) (ks : List Kind) → method_row m r (j ∷ k ∷ l ∷ ks) ≡ row.Fails
row_of_three None r j k l ks = refl
row_of_three (Some m) (kind.Sorted Truth) j k l ks = refl
row_of_three (Some m) (kind.Sorted (Vector w)) j k l ks = no_row_of_three m w j k l ks
row_of_three (Some m) kind.Bare j k l ks = refl
row_of_three (Some m) (kind.Number n) j k l ks = refl

row_of_few : (m : Option Method) (r : Kind) (ks : List Kind) → method_row m r (kinds_in (few_of ks)) ≡ method_row m r ks
row_of_few m r [] = refl
row_of_few m r (k ∷ []) = refl
row_of_few m r (j ∷ (k ∷ [])) = refl
row_of_few m r (j ∷ (k ∷ (l ∷ ks))) =
    ap (λ (x : Arguments). method_row m r (kinds_in x)) (more_than_two j k l (few_of ks)) ∙ row_of_three m r kind.Bare kind.Bare kind.Bare [] ∙ sym (row_of_three m r j k l ks)

abbrev verdict_by : Option Method → Option Typed → Option Arguments → ℕ → Option Verdict
verdict_by m p q g = option_and_then (λ t. option_map (λ ks. deeper (max t.depth g + 1) (method_row m t.kind (kinds_in ks))) q) p

says_by : (m : Option Method) (d f g : ℕ) (a : Option Kind) (b : Option (List Kind)) → ((ks : List Kind) → b ≡ Some ks → g ≡ f)
    → Says (verdict_by m (at d a) (option_map few_of b) g) (option_and_then (λ k. option_map (λ ks. within (max d f + 1) (method_row m k ks)) b) a) (max d f + 1)
says_by m d f g None b h = says_nothing (max d f + 1)
says_by m d f g (Some k) None h = says_nothing (max d f + 1)
says_by m d f g (Some k) (Some ks) h =
    let same : verdict_by m (at d (Some k)) (option_map few_of (Some ks)) g ≡ Some (deeper (max d f + 1) (method_row m k ks)) =
    (λ i. Some (deeper (max d (h ks refl i) + 1) (row_of_few m k ks i))) in
    subst (λ v. Says v (Some (within (max d f + 1) (method_row m k ks))) (max d f + 1)) (sym same) (says_deeper (max d f + 1) (method_row m k ks))

pub says_method : (m : Option Method) (d f : ℕ) (a : Option Kind) (b : Option (List Kind)) (g : Gathered) → g.kinds ≡ option_map few_of b → ((ks : List Kind) → b ≡ Some ks → g.depth ≡ f)
    → Says (method_verdict m (at d a) g) (option_and_then (λ k. option_map (λ ks. within (max d f + 1) (method_row m k ks)) b) a) (max d f + 1)
says_method m d f a b g e h =
    subst (λ q. Says (verdict_by m (at d a) q g.depth) (option_and_then (λ k. option_map (λ ks. within (max d f + 1) (method_row m k ks)) b) a) (max d f + 1)) (sym e) (says_by m d f g.depth a b h)
