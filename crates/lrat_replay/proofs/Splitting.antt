-- Where the first line of a text ends, and what its lines are then.
use Rattle.std.proofs.Common.{◌≡◌, ℕ, ◌+◌, ◌<◌, ◌≤◌, Bool, true, false, List, [], ◌∷◌, ◌++◌, length, take, refl, ap, sym, ◌∙◌, subst, nat_eq, suc, arith, length-append, append-nil}
use Rattle.std.specs.Prelude.{nat_le, if◌then◌else◌}
use Rattle.std.specs.List.{slice_split}
use Rattle.std.proofs.lemmas.List.Splits.{slice_split_at, slice_split_none, length-slice_split}
use Rattle.std.proofs.lemmas.Bool.{le-leb}
use Rattle.std.proofs.lemmas.Bool.Decides.{nat_tests}
use Rattle.std.proofs.Math.Seq.{take-append_seam, take-append-add}
use Rattle.lrat_lines.specs.Lines.{lines_of, without_last_empty}
use Rattle.lrat_lines.specs.Replay.{but_last, ended_lines, lines_within}
use Rattle.lrat_replay.specs.Line.{HasNoEnd}

-- a text that is cut at LF has a first part
parts : (text : List ℕ) → (p : List ℕ) × (ps : List (List ℕ)) × (slice_split (λ b. nat_eq b 10) text ≡ p ∷ ps)
parts text = by (slice_split (λ b. nat_eq b 10) text) refl
  where
    by : (cut : List (List ℕ)) → slice_split (λ b. nat_eq b 10) text ≡ cut → (p : List ℕ) × (ps : List (List ℕ)) × (slice_split (λ b. nat_eq b 10) text ≡ p ∷ ps)
    by [] e = let none : length (slice_split (λ b. nat_eq b 10) text) ≡ 0 = ap length e in absurd (omega (arith, length-slice_split (λ b. nat_eq b 10) text))
    by (p ∷ ps) e = (p, ps, e)

-- The lines behind the first one, of a whole text.
pub lines_of-line : (line rest : List ℕ) → HasNoEnd line → lines_of (line ++ 10 ∷ rest) ≡ line ∷ lines_of rest
lines_of-line line rest none =
    let e = parts rest in
    let s : slice_split (λ b. nat_eq b 10) (line ++ 10 ∷ rest) ≡ line ∷ (e.0 ∷ e.1) = slice_split_at (λ b. nat_eq b 10) line 10 rest none refl ∙ ap (λ (cut : List (List ℕ)). line ∷ cut) e.2 in
    ap without_last_empty s ∙ cons line e.0 e.1 ∙ ap (λ (cut : List (List ℕ)). line ∷ without_last_empty cut) (sym e.2)
  where
    cons : (line p : List ℕ) (ps : List (List ℕ)) → without_last_empty (line ∷ (p ∷ ps)) ≡ line ∷ without_last_empty (p ∷ ps)
    cons [] p ps = refl
    cons (b ∷ bs) p ps = refl

-- The ended lines behind the first one.
pub ended_lines-line : (line rest : List ℕ) → HasNoEnd line → ended_lines (line ++ 10 ∷ rest) ≡ line ∷ ended_lines rest
ended_lines-line line rest none =
    let e = parts rest in
    let s : slice_split (λ b. nat_eq b 10) (line ++ 10 ∷ rest) ≡ line ∷ (e.0 ∷ e.1) = slice_split_at (λ b. nat_eq b 10) line 10 rest none refl ∙ ap (λ (cut : List (List ℕ)). line ∷ cut) e.2 in
    ap but_last s ∙ ap (λ (cut : List (List ℕ)). line ∷ but_last cut) (sym e.2)

-- a choice made twice alike, of which each side puts the line before
choose : (line : List ℕ) (b c : Bool) (x x' y y' : List (List ℕ)) → b ≡ c → x ≡ line ∷ x' → y ≡ line ∷ y' → (if b then x else y) ≡ line ∷ (if c then x' else y')
choose line b true x x' y y' same first second = ap (λ (d : Bool). if d then x else y) same ∙ first
choose line b false x x' y y' same first second = ap (λ (d : Bool). if d then x else y) same ∙ second

-- the front of a text, up to behind its first line
take-line : (m : ℕ) (line rest : List ℕ) → take (length line + 1 + m) (line ++ 10 ∷ rest) ≡ line ++ 10 ∷ take m rest
take-line m line rest =
    let more : length line + 1 + m ≡ length line + suc m = omega arith in
    ap (λ (n : ℕ). take n (line ++ 10 ∷ rest)) more ∙ take-append-add line (10 ∷ rest) (suc m)

-- as many bytes are too many behind the first line
fits-line : (m : ℕ) (line rest : List ℕ) → nat_le (length (line ++ 10 ∷ rest)) (length line + 1 + m) ≡ nat_le (length rest) m
fits-line m line rest =
    let long : length (line ++ 10 ∷ rest) ≡ length line + suc (length rest) = length-append line (10 ∷ rest) in
    grind (arith, nat_tests)

-- The first line, and those behind it.
pub lines_within-line : (m : ℕ) (line rest : List ℕ) → HasNoEnd line → lines_within (length line + 1 + m) (line ++ 10 ∷ rest) ≡ line ∷ lines_within m rest
lines_within-line m line rest none =
    choose line (nat_le (length (line ++ 10 ∷ rest)) (length line + 1 + m)) (nat_le (length rest) m)
    (lines_of (line ++ 10 ∷ rest)) (lines_of rest)
    (ended_lines (take (length line + 1 + m) (line ++ 10 ∷ rest))) (ended_lines (take m rest))
    (fits-line m line rest) (lines_of-line line rest none)
    (ap ended_lines (take-line m line rest) ∙ ended_lines-line line (take m rest) none)

-- a test that holds, or fails, chooses
yes : (b : Bool) (x y : List (List ℕ)) → b ≡ true → (if b then x else y) ≡ x
yes b x y e = ap (λ (d : Bool). if d then x else y) e

no : (b : Bool) (x y : List (List ℕ)) → b ≡ false → (if b then x else y) ≡ y
no b x y e = ap (λ (d : Bool). if d then x else y) e

-- At the end of the text what has begun is the last line, if there is anything.
pub lines_within-last : (m b : ℕ) (bs : List ℕ) → HasNoEnd (b ∷ bs) → length (b ∷ bs) ≤ m → lines_within m (b ∷ bs) ≡ (b ∷ bs) ∷ []
lines_within-last m b bs none within =
    yes (nat_le (length (b ∷ bs)) m) (lines_of (b ∷ bs)) (ended_lines (take m (b ∷ bs))) (le-leb (length (b ∷ bs)) m within)
    ∙ ap without_last_empty (slice_split_none (λ b. nat_eq b 10) (b ∷ bs) none)

-- No line ends where no more bytes may be taken.
pub lines_within-cut : (line rest : List ℕ) → HasNoEnd line → 0 < length rest → lines_within (length line + 0) (line ++ rest) ≡ []
lines_within-cut line rest none more =
    let long : length (line ++ rest) ≡ length line + length rest = length-append line rest in
    let over : nat_le (length (line ++ rest)) (length line + 0) ≡ false = grind (arith, nat_tests) in
    let front : take (length line + 0) (line ++ rest) ≡ line = ap (λ (n : ℕ). take n (line ++ rest)) (let e : length line + 0 ≡ length line = omega arith in e) ∙ take-append_seam line rest in
    no (nat_le (length (line ++ rest)) (length line + 0)) (lines_of (line ++ rest)) (ended_lines (take (length line + 0) (line ++ rest))) over
    ∙ ap ended_lines front
    ∙ ap but_last (slice_split_none (λ b. nat_eq b 10) line none)

-- No bytes are no lines.
pub lines_within-none : (m : ℕ) → lines_within m [] ≡ []
lines_within-none m = yes (nat_le 0 m) (lines_of []) (ended_lines (take m [])) (le-leb 0 m (omega arith))

-- What has begun, at the end of the text.
pub lines_within-rest : (m : ℕ) (begun : List ℕ) → HasNoEnd begun → 0 < length begun → lines_within (length begun + m) (begun ++ []) ≡ (begun ++ []) ∷ []
lines_within-rest m [] none some = absurd (omega arith)
lines_within-rest m (b ∷ bs) none some =
    let same : (b ∷ bs) ++ [] ≡ b ∷ bs = append-nil (b ∷ bs) in
    let within : length (b ∷ bs) ≤ length (b ∷ bs) + m = omega arith in
    subst (λ (text : List ℕ). lines_within (length (b ∷ bs) + m) text ≡ text ∷ []) (sym same) (lines_within-last (length (b ∷ bs) + m) b bs none within)
