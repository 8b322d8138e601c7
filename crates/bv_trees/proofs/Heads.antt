-- Each goal among the pieces has its head word: there are at most as many goals as head words.
use Rattle.std.proofs.Common.{◌≡◌, ℕ, zero, suc, ◌+◌, ◌-◌, ◌==◌, ◌≤◌, Bool, true, false, List, [], ◌∷◌, ◌++◌, length, Option, Some, None, refl, ap, arith, ◌∙◌}
use Rattle.std.specs.Prelude.{slice_get, if◌then◌else◌}
use Rattle.bv_grammar.specs.declared.words.Word.{Word}
use Rattle.bv_grammar.specs.declared.words.Word.TheVariants as words
use Rattle.bv_grammar.specs.declared.words.Terminal.{Terminal}
use Rattle.bv_grammar.specs.declared.words.Role.{Role}
use Rattle.bv_grammar.specs.declared.words.Role.TheVariants as roles
use Rattle.bv_grammar.specs.declared.reading.Taken.{Taken}
use Rattle.bv_grammar.specs.Taking.{AreTaken}
use Rattle.bv_trees.specs.declared.pieces.Piece.{Piece}
use Rattle.bv_trees.specs.declared.pieces.Piece.TheVariants as piece
use Rattle.bv_trees.specs.declared.pieces.Sort.{Sort}
use Rattle.bv_trees.specs.declared.building.Frame.{Frame}
use Rattle.bv_trees.specs.declared.building.Frame.TheVariants as frame
use Rattle.bv_trees.specs.Trees.{Tree, Trees, name, numeral, literal, prefix, infix_, method, ascribed, no_more, and, Binder, variables, hypothesis, Goal}
use Rattle.bv_trees.specs.Trees as trees
use Rattle.bv_trees.specs.Files.{AreGoals}
use Rattle.bv_trees.specs.Codes.{pieces, arguments, binder_pieces, goal_pieces}
use Rattle.bv_trees.specs.Building as b
use Rattle.bv_trees.specs.Building.{Building, run, role_of}
use Rattle.bv_trees.proofs.OfFiles.{put_together}

-- ---- the goals among pieces

abbrev one : Piece → ℕ
one (piece.Goal h i) = 1
one _ = 0

abbrev goals_in : List Piece → ℕ
goals_in [] = 0
goals_in (p ∷ ps) = one p + goals_in ps

both : (ps qs : List Piece) → goals_in (ps ++ qs) ≡ goals_in ps + goals_in qs
both [] qs = omega arith
both (p ∷ ps) qs = omega (arith, both ps qs)

mutual
  of_tree : (t : Tree) → goals_in (pieces t) ≡ 0
  of_tree (name i) = refl
  of_tree (numeral i) = refl
  of_tree (literal i w) = refl
  of_tree (trees.constant c i) = refl
  of_tree (prefix o i x) = omega (arith, both (pieces x) (piece.Prefix o i ∷ []), of_tree x)
  of_tree (infix_ o i x y) = omega (arith, both (pieces x) (pieces y ++ piece.Infix o i ∷ []), both (pieces y) (piece.Infix o i ∷ []), of_tree x, of_tree y)
  of_tree (trees.choice i x y z) =
      omega (arith, both (pieces x) (pieces y ++ (pieces z ++ piece.Choice i ∷ [])), both (pieces y) (pieces z ++ piece.Choice i ∷ []), both (pieces z) (piece.Choice i ∷ []), of_tree x, of_tree y, of_tree z)
  of_tree (method i x xs) = omega (arith, both (pieces x) (piece.Call i ∷ (arguments xs ++ piece.Method i ∷ [])), both (arguments xs) (piece.Method i ∷ []), of_tree x, of_arguments xs)
  of_tree (ascribed i x s) = omega (arith, both (pieces x) (piece.Ascribed i s ∷ []), of_tree x)

  of_arguments : (xs : Trees) → goals_in (arguments xs) ≡ 0
  of_arguments no_more = refl
  of_arguments (and x xs) = omega (arith, both (pieces x) (arguments xs), of_tree x, of_arguments xs)

of_binders : (bs : List Binder) → goals_in (binder_pieces bs) ≡ 0
of_binders [] = refl
of_binders (variables i j s ∷ bs) = omega (arith, of_binders bs)
of_binders (hypothesis x ∷ bs) = omega (arith, both (pieces x) (binder_pieces bs), of_tree x, of_binders bs)

of_goals : (gs : List Goal) → goals_in (goal_pieces gs) ≡ length gs
of_goals [] = refl
of_goals (g ∷ gs) =
    omega (
      arith,
      both (binder_pieces g.binders) (pieces g.conclusion ++ (piece.Proof g.stored ∷ goal_pieces gs)),
      both (pieces g.conclusion) (piece.Proof g.stored ∷ goal_pieces gs),
      of_binders g.binders,
      of_tree g.conclusion,
      of_goals gs,
    )

-- ---- each of them has its head word

abbrev named_later : Option ℕ → ℕ
named_later None = 0
named_later (Some h) = 1

-- the goals so far, and one whose name is read
abbrev owed : Building → ℕ
owed s = goals_in s.pieces + named_later s.goal

closed : (s : Building) → owed (b.close s) ≡ owed s
closed s = by_method s.method
  where
    by_method : (m : Option ℕ) → goals_in (s.pieces ++ b.closing m) + named_later s.goal ≡ owed s
    by_method None = omega (arith, both s.pieces [])
    by_method (Some m) = omega (arith, both s.pieces (piece.Method m ∷ []))

one_left : (s : Building) (f : Option Frame) (fs : List Frame) → owed (b.left s (f, fs)) ≡ owed s
one_left s None fs = refl
one_left s (Some (frame.Prefix w i)) fs = omega (arith, both s.pieces (piece.Prefix w i ∷ []))
one_left s (Some (frame.Infix w i)) fs = omega (arith, both s.pieces (piece.Infix w i ∷ []))
one_left s (Some (frame.Choice i)) fs = omega (arith, both s.pieces (piece.Choice i ∷ []))
one_left s (Some (frame.Otherwise i)) fs = omega (arith, both s.pieces (piece.Choice i ∷ []))
one_left s (Some (frame.Bracket m)) fs = omega (arith, both s.pieces [])

left_popped : (s : Building) (fs : List Frame) → owed (b.left s (b.popped fs)) ≡ owed s
left_popped s [] = refl
left_popped s (f ∷ fs) = one_left s (Some f) fs

left : (s : Building) → owed (b.leave s) ≡ owed s
left s = left_popped (b.close s) s.frames ∙ closed s

settled : (n : ℕ) (s : Building) → owed (b.settle n s) ≡ owed s
settled zero s = refl
settled (suc n) s = settled n (b.leave s) ∙ left s

completed : (n : ℕ) (s : Building) → owed (b.complete n s) ≡ owed s
completed n s = closed (b.settle (length s.frames - n) s) ∙ settled (length s.frames - n) s

put : (p : Piece) (s : Building) → one p ≡ 0 → owed (b.put p s) ≡ owed s
put p s e = omega (arith, both s.pieces (p ∷ []), e)

bound : (i : ℕ) (t : Option Sort) (s : Building) → owed (b.bind i t s) ≡ owed s
bound i None s = refl
bound i (Some t) s = put (piece.Variables s.names i t) s refl

ascribed_there : (i : ℕ) (t : Option Sort) (s : Building) → owed (b.ascribe i t s) ≡ owed s
ascribed_there i None s = refl
ascribed_there i (Some t) s = put (piece.Ascribed i t) s refl

called : (i : ℕ) (m : Option ℕ) (s : Building) → owed (b.call i m s) ≡ owed s
called i None s = omega (arith, both s.pieces (piece.Call i ∷ []))
called i (Some m) s = omega (arith, both s.pieces (piece.Call i ∷ piece.Method i ∷ []))

pointed : (i : ℕ) (m : Option ℕ) (s : Building) → owed (b.point i m s) ≡ owed s
pointed i None s = refl
pointed i (Some m) s = by_place (m + 1 == i)
  where
    by_place : (c : Bool) → owed (if c then b.close s else s) ≡ owed s
    by_place true = closed s
    by_place false = refl

head_ended : (i : ℕ) (s : Building) → owed (b.head_ends i s) ≡ owed s
head_ended i s = by_goal s.goal refl
  where
    by_goal : (g : Option ℕ) → s.goal ≡ g → owed (b.named i g s) ≡ owed s
    by_goal None e = refl
    by_goal (Some h) e = omega (arith, both s.pieces (piece.Goal h i ∷ []), ap named_later e)

numbered : (i : ℕ) (next : Option Role) → one (b.number i next) ≡ 0
numbered i None = refl
numbered i (Some roles.Part) = refl
numbered i (Some roles.Binder) = refl
numbered i (Some roles.BraceBinder) = refl
numbered i (Some roles.Variable) = refl
numbered i (Some roles.Method) = refl
numbered i (Some roles.Numeral) = refl
numbered i (Some roles.Width) = refl
numbered i (Some roles.File) = refl
numbered i (Some roles.Bracket) = refl
numbered i (Some roles.Ascription) = refl
numbered i (Some (roles.Prefix w)) = refl
numbered i (Some (roles.Infix w)) = refl
numbered i (Some (roles.Constant w)) = refl
numbered i (Some (roles.Word words.Theorem)) = refl
numbered i (Some (roles.Word words.Example)) = refl
numbered i (Some (roles.Word words.Import)) = refl
numbered i (Some (roles.Word words.Open)) = refl
numbered i (Some (roles.Word words.By)) = refl
numbered i (Some (roles.Word words.If)) = refl
numbered i (Some (roles.Word words.Then)) = refl
numbered i (Some (roles.Word words.Else)) = refl
numbered i (Some (roles.Word words.True)) = refl
numbered i (Some (roles.Word words.False)) = refl
numbered i (Some (roles.Word words.TrueProposition)) = refl
numbered i (Some (roles.Word words.FalseProposition)) = refl
numbered i (Some (roles.Word words.Bool)) = refl
numbered i (Some (roles.Word words.BitVec)) = refl
numbered i (Some (roles.Word words.Intros)) = refl
numbered i (Some (roles.Word words.Decide)) = refl
numbered i (Some (roles.Word words.Check)) = refl
numbered i (Some (roles.Word words.LeftRound)) = refl
numbered i (Some (roles.Word words.RightRound)) = refl
numbered i (Some (roles.Word words.LeftBrace)) = refl
numbered i (Some (roles.Word words.RightBrace)) = refl
numbered i (Some (roles.Word words.Colon)) = refl
numbered i (Some (roles.Word words.Assign)) = refl
numbered i (Some (roles.Word words.Dot)) = refl
numbered i (Some (roles.Word words.Comma)) = refl
numbered i (Some (roles.Word words.Semicolon)) = refl
numbered i (Some (roles.Word words.Hash)) = refl
numbered i (Some (roles.Word words.Complement)) = refl
numbered i (Some (roles.Word words.ShiftLeft)) = refl
numbered i (Some (roles.Word words.ShiftRight)) = refl
numbered i (Some (roles.Word words.Minus)) = refl
numbered i (Some (roles.Word words.Times)) = refl
numbered i (Some (roles.Word words.Divide)) = refl
numbered i (Some (roles.Word words.Modulo)) = refl
numbered i (Some (roles.Word words.Plus)) = refl
numbered i (Some (roles.Word words.Append)) = refl
numbered i (Some (roles.Word words.BitAnd)) = refl
numbered i (Some (roles.Word words.BitXor)) = refl
numbered i (Some (roles.Word words.BitOr)) = refl
numbered i (Some (roles.Word words.Equal)) = refl
numbered i (Some (roles.Word words.NotEqual)) = refl
numbered i (Some (roles.Word words.BoolEqual)) = refl
numbered i (Some (roles.Word words.BoolNotEqual)) = refl
numbered i (Some (roles.Word words.Less)) = refl
numbered i (Some (roles.Word words.AtMost)) = refl
numbered i (Some (roles.Word words.Greater)) = refl
numbered i (Some (roles.Word words.AtLeast)) = refl
numbered i (Some (roles.Word words.Not)) = refl
numbered i (Some (roles.Word words.BoolNot)) = refl
numbered i (Some (roles.Word words.And)) = refl
numbered i (Some (roles.Word words.BoolAnd)) = refl
numbered i (Some (roles.Word words.BoolXor)) = refl
numbered i (Some (roles.Word words.Or)) = refl
numbered i (Some (roles.Word words.BoolOr)) = refl
numbered i (Some (roles.Word words.Implies)) = refl
numbered i (Some (roles.Word words.Iff)) = refl

-- a number for each role, which is one or more at head words
pub record CountsHeads (f : Role → ℕ) : Type 0 where
  pub theorems : 1 ≤ f (roles.Word words.Theorem)
  pub examples : 1 ≤ f (roles.Word words.Example)

abbrev pub number_at : (Role → ℕ) → Option Taken → ℕ
number_at f None = 0
number_at f (Some x) = f x.role

-- the sum over the first n terminals
abbrev pub total : (Role → ℕ) → List Taken → ℕ → ℕ
total f xs zero = 0
total f xs (suc n) = total f xs n + number_at f (slice_get xs n)

no_more_owed : (m n k : ℕ) → m ≡ n → m ≤ n + k
no_more_owed m n k e = omega (arith, e)

on_word : (f : Role → ℕ) → CountsHeads f → (i : ℕ) (v : Word) (k : ℕ) (next : Option Role) (s : Building) → owed (b.on_word i v k next s) ≤ owed s + f (roles.Word v)
on_word f h i words.If k next s = no_more_owed _ _ _ refl
on_word f h i words.Then k next s = no_more_owed _ _ _ (completed k s)
on_word f h i words.Else k next s = no_more_owed _ _ _ (completed k s)
on_word f h i words.RightRound k next s = no_more_owed _ _ _ (settled (length s.frames - k) s)
on_word f h i words.Dot k next s = no_more_owed _ _ _ (pointed i s.method s)
on_word f h i words.Theorem k next s = omega (arith, h.theorems)
on_word f h i words.Example k next s = omega (arith, h.examples)
on_word f h i words.LeftRound k next s = no_more_owed _ _ _ (head_ended i (b.close s) ∙ closed s)
on_word f h i words.LeftBrace k next s = no_more_owed _ _ _ (head_ended i (b.close s) ∙ closed s)
on_word f h i words.Colon k next s = no_more_owed _ _ _ (bound i (b.sort_behind i next) (b.head_ends i (b.close s)) ∙ head_ended i (b.close s) ∙ closed s)
on_word f h i words.Assign k next s = no_more_owed _ _ _ (completed k s)
on_word f h i words.Decide k next s = no_more_owed _ _ _ (put (piece.Proof None) s refl)
on_word f h i words.Import k next s = no_more_owed _ _ _ refl
on_word f h i words.Open k next s = no_more_owed _ _ _ refl
on_word f h i words.By k next s = no_more_owed _ _ _ refl
on_word f h i words.True k next s = no_more_owed _ _ _ refl
on_word f h i words.False k next s = no_more_owed _ _ _ refl
on_word f h i words.TrueProposition k next s = no_more_owed _ _ _ refl
on_word f h i words.FalseProposition k next s = no_more_owed _ _ _ refl
on_word f h i words.Bool k next s = no_more_owed _ _ _ refl
on_word f h i words.BitVec k next s = no_more_owed _ _ _ refl
on_word f h i words.Intros k next s = no_more_owed _ _ _ refl
on_word f h i words.Check k next s = no_more_owed _ _ _ refl
on_word f h i words.RightBrace k next s = no_more_owed _ _ _ refl
on_word f h i words.Comma k next s = no_more_owed _ _ _ refl
on_word f h i words.Semicolon k next s = no_more_owed _ _ _ refl
on_word f h i words.Hash k next s = no_more_owed _ _ _ refl
on_word f h i words.Complement k next s = no_more_owed _ _ _ refl
on_word f h i words.ShiftLeft k next s = no_more_owed _ _ _ refl
on_word f h i words.ShiftRight k next s = no_more_owed _ _ _ refl
on_word f h i words.Minus k next s = no_more_owed _ _ _ refl
on_word f h i words.Times k next s = no_more_owed _ _ _ refl
on_word f h i words.Divide k next s = no_more_owed _ _ _ refl
on_word f h i words.Modulo k next s = no_more_owed _ _ _ refl
on_word f h i words.Plus k next s = no_more_owed _ _ _ refl
on_word f h i words.Append k next s = no_more_owed _ _ _ refl
on_word f h i words.BitAnd k next s = no_more_owed _ _ _ refl
on_word f h i words.BitXor k next s = no_more_owed _ _ _ refl
on_word f h i words.BitOr k next s = no_more_owed _ _ _ refl
on_word f h i words.Equal k next s = no_more_owed _ _ _ refl
on_word f h i words.NotEqual k next s = no_more_owed _ _ _ refl
on_word f h i words.BoolEqual k next s = no_more_owed _ _ _ refl
on_word f h i words.BoolNotEqual k next s = no_more_owed _ _ _ refl
on_word f h i words.Less k next s = no_more_owed _ _ _ refl
on_word f h i words.AtMost k next s = no_more_owed _ _ _ refl
on_word f h i words.Greater k next s = no_more_owed _ _ _ refl
on_word f h i words.AtLeast k next s = no_more_owed _ _ _ refl
on_word f h i words.Not k next s = no_more_owed _ _ _ refl
on_word f h i words.BoolNot k next s = no_more_owed _ _ _ refl
on_word f h i words.And k next s = no_more_owed _ _ _ refl
on_word f h i words.BoolAnd k next s = no_more_owed _ _ _ refl
on_word f h i words.BoolXor k next s = no_more_owed _ _ _ refl
on_word f h i words.Or k next s = no_more_owed _ _ _ refl
on_word f h i words.BoolOr k next s = no_more_owed _ _ _ refl
on_word f h i words.Implies k next s = no_more_owed _ _ _ refl
on_word f h i words.Iff k next s = no_more_owed _ _ _ refl

on_role : (f : Role → ℕ) → CountsHeads f → (i : ℕ) (r : Role) (k : ℕ) (next : Option Role) (s : Building) → owed (b.on_role i r k next s) ≤ owed s + f r
on_role f h i roles.Variable k next s = no_more_owed _ _ _ (put (piece.Name i) s refl)
on_role f h i roles.Numeral k next s = no_more_owed _ _ _ (put (b.number i next) s (numbered i next))
on_role f h i (roles.Constant w) k next s = no_more_owed _ _ _ (put (piece.Constant w i) s refl)
on_role f h i (roles.Prefix o) k next s = no_more_owed _ _ _ refl
on_role f h i (roles.Infix o) k next s = no_more_owed _ _ _ (completed (k - 1) s)
on_role f h i roles.Bracket k next s = no_more_owed _ _ _ refl
on_role f h i roles.Ascription k next s = no_more_owed _ _ _ (ascribed_there i (b.sort_behind i next) (b.complete (k + 1) s) ∙ completed (k + 1) s)
on_role f h i roles.Method k next s = no_more_owed _ _ _ (called i s.method s)
on_role f h i roles.File k next s = no_more_owed _ _ _ (put (piece.Proof (Some i)) s refl)
on_role f h i (roles.Word v) k next s = on_word f h i v k next s
on_role f h i roles.Part k next s = no_more_owed _ _ _ refl
on_role f h i roles.Binder k next s = no_more_owed _ _ _ refl
on_role f h i roles.BraceBinder k next s = no_more_owed _ _ _ refl
on_role f h i roles.Width k next s = no_more_owed _ _ _ refl

stepped : (f : Role → ℕ) → CountsHeads f → (i : ℕ) (x : Option Taken) (next : Option Role) (s : Building) → owed (b.step i x next s) ≤ owed s + number_at f x
stepped f h i None next s = omega arith
stepped f h i (Some x) next s = on_role f h i x.role x.waiting next s

all_owed : (f : Role → ℕ) → CountsHeads f → (xs : List Taken) (n : ℕ) → owed (run xs n) ≤ total f xs n
all_owed f h xs zero = omega arith
all_owed f h xs (suc n) = omega (arith, stepped f h n (slice_get xs n) (role_of (slice_get xs (n + 1))) (run xs n), all_owed f h xs n)

pub as_many_heads : (f : Role → ℕ) → CountsHeads f → (xs : List Taken) (ts : List Terminal) (gs : List Goal) → AreGoals ts gs → AreTaken ts xs → length xs ≡ length ts → length gs ≤ total f xs (length xs)
as_many_heads f h xs ts gs g t e = omega (arith, all_owed f h xs (length xs), ap goals_in (put_together xs ts gs g t e), of_goals gs)
