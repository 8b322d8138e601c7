-- A text that is written in pieces.
use Rattle.std.proofs.Common.{◌≤◌, length, ◌≡◌, ℕ, ◌+◌, List, ◌++◌, take, drop, refl, sym, ap, ◌∙◌, append_assoc, Some, None}
use Rattle.std.specs.Prelude.{Option, option_map}
use Rattle.std.proofs.Math.Seq.{take-add}
use Rattle.std.proofs.lemmas.List.{take-append-le, take-append-drop}

piece_of : (o : Option (List ℕ)) (text : List ℕ) (at n : ℕ)
    → option_map (λ w. w ++ take n (drop at text)) (option_map (λ w. w ++ take at text) o) ≡ option_map (λ w. w ++ take (at + n) text) o
piece_of None text at n = refl
piece_of (Some w) text at n = ap Some (append_assoc w (take at text) (take n (drop at text)) ∙ ap (λ l. w ++ l) (sym (take-add at n text)))

-- one piece more of a text is written
pub piece_written : (o mid new : Option (List ℕ)) (text : List ℕ) (at n : ℕ) → mid ≡ option_map (λ w. w ++ take at text) o
    → new ≡ option_map (λ w. w ++ take n (drop at text)) mid → new ≡ option_map (λ w. w ++ take (at + n) text) o
piece_written o mid new text at n p q = q ∙ ap (option_map (λ w. w ++ take n (drop at text))) p ∙ piece_of o text at n

-- the front of a piece is the front of the rest
pub front_of_piece : (o new : Option (List ℕ)) (rest : List ℕ) (k n : ℕ) → n ≤ length (take k rest) → new ≡ option_map (λ w. w ++ take n (take k rest)) o
    → new ≡ option_map (λ w. w ++ take n rest) o
front_of_piece o new rest k n h e = e ∙ ap (λ l. option_map (λ w. w ++ l) o) (sym (take-append-le n (take k rest) (drop k rest) h) ∙ ap (take n) (take-append-drop k rest))
