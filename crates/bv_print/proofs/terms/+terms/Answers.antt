use Rattle.std.proofs.Common.{◌≡◌, ◌++◌, ◌∙◌, codes, sym, ap, append_assoc}
use Rattle.bv_expr.specs.Shape.{shape_term}
use Rattle.bv_expr.specs.Term.{unary, binary}
use Rattle.bv_print.specs.Spelling.{unary_form, binary_form, kept_numbers}
use Rattle.bv_print.specs.Pieces.{form_of}
use Rattle.bv_print.specs.Canonical.{is_constant, numbers_text, term_text}
use Rattle.bv_print.proofs.Fronts.{where_extended}
use Rattle.bv_print.proofs.Operations.{appended_in_pieces}
use Rattle.bv_print.proofs.terms.+terms.Goals as goal

pub push_term-returns-in_ok-push_numbers-in-Unary-clause-ok : goal.push_term-returns-in_ok-push_numbers-in-Unary-clause-ok
push_term-returns-in_ok-push_numbers-in-Unary-clause-ok t c =
    let op = c.in-Unary.op in
    let x = c.in-Unary.x.now in
    let binders = c.args.binders.now in
    let before = c.push_numbers.new.out.items in
    let end = c.extend_from_slice.new.self.items in
    let is : unary op x ≡ c.args.term.now = sym (ap shape_term c.in-Unary.is) ∙ (c.shape_of.ensures ∙ c.node.ensures.tree) in
    where_extended c.extend_from_slice.result before (codes ")") end (end ≡ c.args.out.now.items ++ term_text binders c.args.term.now)
    c.extend_from_slice.ensures.items (λ last. appended_in_pieces (unary_form op) (form_of c.unary_spelling.result) (form_of c.unary_spelling-in-Unary.result) (is_constant x) c.is_constant.result c.is_constant-in-Unary.result
    (term_text binders x) (numbers_text (kept_numbers op)) c.args.out.now.items c.push_before.new.out.items c.push_term.new.out.items c.push_behind.new.out.items before end
    c.unary_spelling.ensures c.is_constant.ensures c.in_ok-push_before-in-Unary.ensures.ok c.in_ok-push_term-in-Unary.ensures.ok
    c.unary_spelling-in-Unary.ensures c.is_constant-in-Unary.ensures c.in_ok-push_behind-in-Unary.ensures.ok c.in_ok-push_numbers-in-Unary.ensures.ok last
    ∙ ap (λ z. c.args.out.now.items ++ term_text binders z) is)

pub push_term-returns-in_ok-push_term-in-Binary-2-clause-ok : goal.push_term-returns-in_ok-push_term-in-Binary-2-clause-ok
push_term-returns-in_ok-push_term-in-Binary-2-clause-ok t c =
    let op = c.in-Binary.op in
    let x = c.in-Binary.x.now in
    let y = c.in-Binary.y.now in
    let binders = c.args.binders.now in
    let behind = c.push_behind-in-Binary.new.out.items in
    let before = c.push_term-in-Binary-2.new.out.items in
    let end = c.extend_from_slice-in-Binary-2.new.self.items in
    let is : binary op x y ≡ c.args.term.now = sym (ap shape_term c.in-Binary.is) ∙ (c.shape_of.ensures ∙ c.node.ensures.tree) in
    let others : before ≡ behind ++ (codes " " ++ term_text binders y) =
    c.in_ok-push_term-in-Binary-2.ensures.ok ∙ (ap (λ z. z ++ term_text binders y) c.in_ok-extend_from_slice-in-Binary.ensures.items ∙ append_assoc behind (codes " ") (term_text binders y)) in
    where_extended c.extend_from_slice-in-Binary-2.result before (codes ")") end (end ≡ c.args.out.now.items ++ term_text binders c.args.term.now)
    c.extend_from_slice-in-Binary-2.ensures.items (λ last. appended_in_pieces (binary_form op) (form_of c.binary_spelling.result) (form_of c.binary_spelling-in-Binary.result) (is_constant x) c.is_constant-in-Binary.result c.is_constant-in-Binary-2.result
    (term_text binders x) (codes " " ++ term_text binders y) c.args.out.now.items c.push_before-in-Binary.new.out.items c.push_term-in-Binary.new.out.items behind before end
    c.binary_spelling.ensures c.is_constant-in-Binary.ensures c.in_ok-push_before-in-Binary.ensures.ok c.in_ok-push_term-in-Binary.ensures.ok
    c.binary_spelling-in-Binary.ensures c.is_constant-in-Binary-2.ensures c.in_ok-push_behind-in-Binary.ensures.ok others last
    ∙ ap (λ z. c.args.out.now.items ++ term_text binders z) is)
