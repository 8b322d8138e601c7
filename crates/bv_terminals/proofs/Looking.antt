-- A look-up, entry by entry.
use Rattle.std.proofs.Common.{◌≡◌, ℕ, suc, ◌+◌, ◌<◌, List, length, map, drop, get_or, Some, ap, arith, ◌∙◌, drop-cons}
use Rattle.std.specs.Prelude.{bytes_eq, if◌then◌else◌}
use Rattle.bv_grammar.specs.declared.words.Word.{Word}
use Rattle.bv_terminals.specs.Spellings.{look_up}

-- the entry at this place is tried next
pub here : {E : Type 0} (f : E → List ℕ × Word) (table : List E) (i : ℕ) (d : E) (text : List ℕ) → i < length table
    → look_up (map f (drop i table)) text ≡ (if bytes_eq (f (get_or table i d)).0 text then Some (f (get_or table i d)).1 else look_up (map f (drop (i + 1) table)) text)
here f table i d text h = ap (λ v. look_up (map f v) text) (drop-cons table i d h) ∙ ap (λ k. if bytes_eq (f (get_or table i d)).0 text then Some (f (get_or table i d)).1 else look_up (map f (drop k table)) text) (plus i)
  where
    plus : (n : ℕ) → suc n ≡ n + 1
    plus n = omega arith
