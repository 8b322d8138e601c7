-- What the lines of a text come to, and lines that check.
use Rattle.std.proofs.Common.{◌≡◌, ℕ, ◌+◌, ◌≤◌, inl, inr, Bool, true, false, ◌||◌, cond, List, [], ◌∷◌, ◌++◌, refl, ap, sym, ◌∙◌, subst, length, take}
use Rattle.std.specs.Prelude.{Ok, Err}
use Rattle.std.specs.declared.result.Result.{Result}
use Rattle.std.specs.List.{AllZip}
use Rattle.std.proofs.lemmas.Bool.{le-leb}
use Rattle.std.proofs.lemmas.List.{append-nil}
use Rattle.sat_form.specs.Literals.{Literal}
use Rattle.lrat_lines.specs.Lines.{Line, IsLine, Text, lines_of}
use Rattle.lrat_lines.specs.Judge.{Clauses, Cause, given, judge, is_last, checks_from, Checks}
use Rattle.lrat_lines.specs.Replay.{Verdict, ComesTo, TextComesTo, lines_within, ended_lines}
use Rattle.lrat_lines.specs.Replay.Fault.{Because}
use Rattle.lrat_lines.specs.Replay.Verdict.{Accepted, Refused}
use Rattle.lrat_lines.specs.Laws.{BeginWithChecked}
use Rattle.lrat_lines.proofs.Readings.{one_reading}

-- what a judged line comes to
abbrev On : ℕ → List (List ℕ) → Line → Verdict → Result Clauses Cause → Type 0
On n rest l v r = elim r as (λ _. Type 0) [ Err cause ↦ v ≡ Refused n (Because cause) | Ok next ↦ elim (is_last l) as (λ _. Type 0) [ true ↦ v ≡ Accepted | false ↦ ComesTo next (n + 1) rest v ] ]

-- whether lines check from a judged one on
abbrev Rest : Line → List Line → Result Clauses Cause → Bool
Rest l ls r = elim r as (λ _. Bool) [ Err cause ↦ false | Ok next ↦ is_last l || checks_from next ls ]

last_or : (b : Bool) (v w : Verdict) (P Q : Type 0) → (P → Q → v ≡ w) → elim b as (λ _. Type 0) [ true ↦ v ≡ Accepted | false ↦ P ] → elim b as (λ _. Type 0) [ true ↦ w ≡ Accepted | false ↦ Q ] → v ≡ w
last_or true v w P Q f h k = h ∙ sym k
last_or false v w P Q f h k = f h k

on_one : (n : ℕ) (rest : List (List ℕ)) (l : Line) (v w : Verdict) (r : Result Clauses Cause) → ((db : Clauses) → ComesTo db (n + 1) rest v → ComesTo db (n + 1) rest w → v ≡ w) → On n rest l v r → On n rest l w r → v ≡ w
on_one n rest l v w (Err cause) f h k = h ∙ sym k
on_one n rest l v w (Ok next) f h k = last_or (is_last l) v w (ComesTo next (n + 1) rest v) (ComesTo next (n + 1) rest w) (f next) h k

-- Lines come to one verdict.
pub one_verdict : (db : Clauses) (n : ℕ) (lines : List (List ℕ)) (v w : Verdict) → ComesTo db n lines v → ComesTo db n lines w → v ≡ w
one_verdict db n [] v w h k = h ∙ sym k
one_verdict db n (bytes ∷ rest) v w (inl h) (inl k) = h.1 ∙ sym k.1
one_verdict db n (bytes ∷ rest) v w (inl h) (inr (l, line, k)) = absurd (h.0 l line)
one_verdict db n (bytes ∷ rest) v w (inr (l, line, k)) (inl h) = absurd (h.0 l line)
one_verdict db n (bytes ∷ rest) v w (inr (l, line, h)) (inr (m, other, k)) =
    let e = one_reading bytes m l other line in
    on_one n rest l v w (judge db l) (λ next. one_verdict next (n + 1) rest v w) h (subst (λ (x : Line). On n rest x w (judge db x)) e k)

-- Lines that check are accepted.
accepted_on : (n : ℕ) (l : Line) (ls : List Line) (lines : List (List ℕ)) (r : Result Clauses Cause) → ((next : Clauses) → checks_from next ls ≡ true → ComesTo next (n + 1) lines Accepted) → Rest l ls r ≡ true → On n lines l Accepted r
accepted_on n l ls lines (Err cause) f h = cc
accepted_on n l ls lines (Ok next) f h = last (is_last l) h
  where
    last : (b : Bool) → (b || checks_from next ls) ≡ true → elim b as (λ _. Type 0) [ true ↦ Accepted ≡ Accepted | false ↦ ComesTo next (n + 1) lines Accepted ]
    last true h = refl
    last false h = f next h

pub checked_is_accepted : (db : Clauses) (n : ℕ) (front : List (List ℕ)) (ls : List Line) → AllZip IsLine front ls → checks_from db ls ≡ true → (rest : List (List ℕ)) → ComesTo db n (front ++ rest) Accepted
checked_is_accepted db n [] [] z h rest = cc
checked_is_accepted db n [] (l ∷ ls) z h rest = absurd z
checked_is_accepted db n (bytes ∷ front) [] z h rest = absurd z
checked_is_accepted db n (bytes ∷ front) (l ∷ ls) z h rest =
    inr (l, z.0, accepted_on n l ls (front ++ rest) (judge db l) (λ next k. checked_is_accepted next (n + 1) front ls z.1 k rest) h)

-- Only these are.
either : (a b : Bool) → b ≡ true → (a || b) ≡ true
either true b h = refl
either false b h = h

module _ (db : Clauses) (n : ℕ) (bytes : List ℕ) (rest : List (List ℕ)) (l : Line) (line : IsLine bytes l) (later : (next : Clauses) → ComesTo next (n + 1) rest Accepted → BeginWithChecked next rest) where
  behind : (next : Clauses) → judge db l ≡ Ok next → BeginWithChecked next rest → BeginWithChecked db (bytes ∷ rest)
  behind next is (front, others, ls, e, z, c) = (bytes ∷ front, others, l ∷ ls, ap (λ r. bytes ∷ r) e, (line, z), ap (Rest l ls) is ∙ either (is_last l) (checks_from next ls) c)

  ends : (next : Clauses) → judge db l ≡ Ok next → (b : Bool) → is_last l ≡ b → elim b as (λ _. Type 0) [ true ↦ Accepted ≡ Accepted | false ↦ ComesTo next (n + 1) rest Accepted ] → BeginWithChecked db (bytes ∷ rest)
  ends next is true e h = (bytes ∷ [], rest, l ∷ [], refl, (line, tt), ap (Rest l []) is ∙ ap (λ b. b || false) e)
  ends next is false e h = behind next is (later next h)

  judged : (r : Result Clauses Cause) → judge db l ≡ r → On n rest l Accepted r → BeginWithChecked db (bytes ∷ rest)
  judged (Err cause) is h = cc
  judged (Ok next) is h = ends next is (is_last l) refl h

pub accepted_is_checked : (db : Clauses) (n : ℕ) (lines : List (List ℕ)) → ComesTo db n lines Accepted → BeginWithChecked db lines
accepted_is_checked db n [] h = cc
accepted_is_checked db n (bytes ∷ rest) (inl h) = let e = h.1 in cc
accepted_is_checked db n (bytes ∷ rest) (inr (l, line, h)) = judged db n bytes rest l line (λ next k. accepted_is_checked next (n + 1) rest k) (judge db l) refl h

-- A whole text whose lines check is accepted.
pub checked_text_is_accepted : (cs : List (List Literal)) (most : ℕ) (text : List ℕ) (ls : List Line) → length text ≤ most → Text text ls → Checks cs ls → TextComesTo cs most text Accepted
checked_text_is_accepted cs most text ls within is checks =
    let whole : lines_within most text ≡ lines_of text = ap (λ b. cond b (lines_of text) (ended_lines (take most text))) (le-leb (length text) most within) in
    subst (λ (t : List (List ℕ)). ComesTo (given cs) 1 t Accepted) (append-nil (lines_of text) ∙ sym whole) (checked_is_accepted (given cs) 1 (lines_of text) ls is checks [])
