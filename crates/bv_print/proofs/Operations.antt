-- The pieces of an operation's text, one behind another, are its text.
use Rattle.std.proofs.Common.{◌≡◌, ℕ, Bool, true, false, List, ◌++◌, codes, ◌∙◌, ap, ap₂, append_assoc}
use Rattle.bv_print.specs.Spelling.{Form, Prefix, Infix, Method}
use Rattle.bv_print.specs.Pieces.{text_before, text_behind}
use Rattle.bv_print.specs.Canonical.{operation_text}

pieces : (f : Form) (k : Bool) (a text others : List ℕ) → a ++ text_before f k ++ text ++ text_behind f k ++ others ++ codes ")" ≡ a ++ (codes "(" ++ operation_text f k text others ++ codes ")")
pieces (Prefix sign) k a text others = search (append_assoc)
pieces (Infix sign) k a text others = search (append_assoc)
pieces (Method name) true a text others = search (append_assoc)
pieces (Method name) false a text others = search (append_assoc)

-- an operation's pieces, appended one after another, where the form and the flag were found twice
pub appended_in_pieces : (f g h : Form) (k i j : Bool) (text others start front first behind all end : List ℕ) → g ≡ f → i ≡ k → front ≡ start ++ text_before g i → first ≡ front ++ text
    → h ≡ f → j ≡ k → behind ≡ first ++ text_behind h j → all ≡ behind ++ others → end ≡ all ++ codes ")" → end ≡ start ++ (codes "(" ++ operation_text f k text others ++ codes ")")
appended_in_pieces f g h k i j text others start front first behind all end ef ek a b eg ej c d e =
    let p : front ≡ start ++ text_before f k = a ∙ ap₂ (λ x y. start ++ text_before x y) ef ek in
    let q : behind ≡ first ++ text_behind f k = c ∙ ap₂ (λ x y. first ++ text_behind x y) eg ej in
    e ∙ (ap (λ z. z ++ codes ")") (d ∙ ap (λ z. z ++ others) (q ∙ ap (λ z. z ++ text_behind f k) (b ∙ ap (λ z. z ++ text) p))) ∙ pieces f k start text others)
