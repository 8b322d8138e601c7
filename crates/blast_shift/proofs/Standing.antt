-- The lists that make no gate stand for their rows.
use Rattle.std.proofs.Common.{◌≡◌, ℕ, ◌-◌, ◌%◌, ◌≤◌, ◌<◌, List, ◌++◌, refl, sym, ◌∙◌, ap, subst, length, take, drop, replicate, min, false, slice_index_or, arith}
use Rattle.std.proofs.lemmas.List.{length-map, get_or-map, get_or_past}
use Rattle.gate_shape.specs.Literal.{Literal}
use Rattle.gate_shape.specs.Edge.{Edge, constant}
use Rattle.gate_shape.specs.Builds.{Meaning, edge, edges, AllKnown, Stands, StandAll}
use Rattle.gate_shape.proofs.Building.{stand_append, stand_take, stand_self, stands_false, stand_lengths, known_item}
use Rattle.blast_logic.specs.Words.{bit_at, top_bit}
use Rattle.blast_shift.specs.Wires.{shifted_left, shifted_right, shifted_right_signed, rotated_left, rotated_right, extracted, with_width, sign_extended}
use Rattle.blast_logic.proofs.Wiring.{stand_as, stand_copies, stand_drop}
use Rattle.blast_shift.proofs.Cuts.{shifted_left-is, shifted_right-is, shifted_right_signed-is, rotated_left-is, rotated_right-is, extracted-is, with_width-is, sign_extended-is}

-- the first literals of a list, and copies of a literal
stand_resized : {m : Meaning} {l : Literal} {e : Edge} (ls : List Literal) {es : List Edge} (width : ℕ) → StandAll m ls es → Stands m l e → StandAll m (take width ls ++ replicate (width - length ls) l) (take width es ++ replicate (width - length es) e)
stand_resized {e} ls {es} width s t = stand_append refl (stand_take width s) (stand_as (ap (λ n. replicate (width - n) e) (stand_lengths s)) (stand_copies (width - length ls) t))

module _ {m : Meaning} (ls : List Literal) (known : AllKnown m ls) where
  same : length ls ≡ length (edges m ls)
  same = sym (length-map ls (edge m))

  -- a literal of the list, the top one, and the one that stands for a place behind the list
  pub stands_item : {i : ℕ} {l : Literal} → i < length ls → l ≡ slice_index_or ls i l → Stands m l (bit_at (edges m ls) i)
  stands_item {i} {l} h e = record {
    known = known_item ls known h e;
    stands_for = sym (get_or-map (edge m) ls i l (constant false) h ∙ ap (edge m) (sym e));
  }

  pub stands_top : {l : Literal} → 1 ≤ length ls → l ≡ slice_index_or ls (length ls - 1) l → Stands m l (top_bit (edges m ls))
  stands_top {l} one e =
      let top : length ls - 1 ≡ length (edges m ls) - 1 = ap (λ w. w - 1) same in
      let P : ℕ → Type 0 = λ i. Stands m l (bit_at (edges m ls) i) in
      subst P top (stands_item (omega arith) e)

  pub stands_behind : {i : ℕ} {l : Literal} → length ls ≤ i → l ≡ record { node = 0; sign = false } → Stands m l (bit_at (edges m ls) i)
  stands_behind {i} {l} h e =
      let P : Edge → Type 0 = λ z. Stands m l z in
      subst P (sym (get_or_past (edges m ls) i (constant false) (rw (← same) h))) (stands_false e)

  pub stand_shifted_left : {l : Literal} {k : ℕ} (n : ℕ) → k ≡ min n (length ls) → l ≡ record { node = 0; sign = false } → StandAll m (replicate k l ++ take (length ls - k) ls) (shifted_left n (edges m ls))
  stand_shifted_left {l} {k} n e f =
      stand_as (ap (λ w. replicate k (constant false) ++ take (w - k) (edges m ls)) same ∙ shifted_left-is n k (edges m ls) (e ∙ ap (min n) same))
      (stand_append refl (stand_copies k (stands_false f)) (stand_take (length ls - k) (stand_self known)))

  -- what is left behind the first places, and copies of a literal up to this width
  stand_left : {l : Literal} {e : Edge} (k width : ℕ) → Stands m l e → StandAll m (take width (drop k ls) ++ replicate (width - length (drop k ls)) l) (take width (drop k (edges m ls)) ++ replicate (width - length (drop k (edges m ls))) e)
  stand_left k width s = stand_resized (drop k ls) width (stand_drop k (stand_self known)) s

  pub stand_shifted_right : {l : Literal} {k : ℕ} (n : ℕ) → k ≡ min n (length ls) → l ≡ record { node = 0; sign = false } → StandAll m (take (length ls) (drop k ls) ++ replicate (length ls - length (drop k ls)) l) (shifted_right n (edges m ls))
  stand_shifted_right {l} {k} n e f =
      stand_as (ap (λ w. take w (drop k (edges m ls)) ++ replicate (w - length (drop k (edges m ls))) (constant false)) same ∙ shifted_right-is n k (edges m ls) (e ∙ ap (min n) same))
      (stand_left k (length ls) (stands_false f))

  pub stand_shifted_right_signed : {l : Literal} {k : ℕ} (n : ℕ) → 1 ≤ length ls → k ≡ min n (length ls) → l ≡ slice_index_or ls (length ls - 1) l → StandAll m (take (length ls) (drop k ls) ++ replicate (length ls - length (drop k ls)) l) (shifted_right_signed n (edges m ls))
  stand_shifted_right_signed {l} {k} n one e f =
      stand_as (ap (λ w. take w (drop k (edges m ls)) ++ replicate (w - length (drop k (edges m ls))) (top_bit (edges m ls))) same ∙ shifted_right_signed-is n k (edges m ls) (rw (← same) one) (e ∙ ap (min n) same))
      (stand_left k (length ls) (stands_top one f))

  pub stand_rotated_left : {k : ℕ} (n : ℕ) → 1 ≤ length ls → k ≡ n % length ls → StandAll m (drop (length ls - k) ls ++ take (length ls - k) ls) (rotated_left n (edges m ls))
  stand_rotated_left {k} n one e =
      stand_as (ap (λ w. drop (w - k) (edges m ls) ++ take (w - k) (edges m ls)) same ∙ rotated_left-is n k (edges m ls) (rw (← same) one) (e ∙ ap (λ w. n % w) same))
      (stand_append refl (stand_drop (length ls - k) (stand_self known)) (stand_take (length ls - k) (stand_self known)))

  pub stand_rotated_right : {k : ℕ} (n : ℕ) → 1 ≤ length ls → k ≡ n % length ls → StandAll m (drop k ls ++ take k ls) (rotated_right n (edges m ls))
  stand_rotated_right {k} n one e =
      stand_as (rotated_right-is n k (edges m ls) (rw (← same) one) (e ∙ ap (λ w. n % w) same))
      (stand_append refl (stand_drop k (stand_self known)) (stand_take k (stand_self known)))

  pub stand_extracted : {l : Literal} {k : ℕ} (n count : ℕ) → k ≡ min n (length ls) → l ≡ record { node = 0; sign = false } → StandAll m (take count (drop k ls) ++ replicate (count - length (drop k ls)) l) (extracted n count (edges m ls))
  stand_extracted {l} {k} n count e f = stand_as (extracted-is n k count (edges m ls) (e ∙ ap (min n) same)) (stand_left k count (stands_false f))

  pub stand_with_width : {l : Literal} (width : ℕ) → l ≡ record { node = 0; sign = false } → StandAll m (take width ls ++ replicate (width - length ls) l) (with_width width (edges m ls))
  stand_with_width width f = stand_as (with_width-is width (edges m ls)) (stand_resized ls width (stand_self known) (stands_false f))

  pub stand_sign_extended : {l : Literal} (width : ℕ) → 1 ≤ length ls → l ≡ slice_index_or ls (length ls - 1) l → StandAll m (take width ls ++ replicate (width - length ls) l) (sign_extended width (edges m ls))
  stand_sign_extended width one f = stand_as (sign_extended-is width (edges m ls) (rw (← same) one)) (stand_resized ls width (stand_self known) (stands_top one f))
