use Rattle.std.proofs.Common.{◌≡◌, ◌<◌, ◌+◌, ◌++◌, ◌∷◌, [], ◌∙◌, sym, ap, length, arith, take_all, take}
use Rattle.tseitin.specs.Clauses.{variable, node_clauses, cone_clauses}
use Rattle.tseitin.proofs.Formula.{is_formula_of, clauses_step}
use Rattle.tseitin.proofs.Law.{cone_edge, cone_satisfiable}
use Rattle.tseitin.proofs.clauses.Goals as goal

pub loop-i-preserved : goal.loop-i-preserved
loop-i-preserved c =
    let l : c.loop-i.i < length c.args.cone.now.nodes.items = rw c.deref-node-items.ensures.value at c.loop-i-test.true in
    let s = clauses_step c.args.cone.now.nodes.items c.loop-i.i c.node-item.result l (rw c.deref-node-items.ensures.value at c.node-item.is) in
    c.in_ok-push_node.ensures ∙ (ap (λ z. z ++ node_clauses (c.loop-i.i + 2) c.node-item.result) c.loop-i.invariant ∙ ap (λ z. (variable 1 ∷ []) ∷ z) (sym s))

pub invariant_of-result : goal.invariant_of-result
invariant_of-result c =
    let f = is_formula_of c.args.cone.now.nodes.items c.args.cone.now.root c.args.cone.now.in_order in
    let nodes = c.args.cone.now.nodes.items in
    let v = c.args.cone.now.nodes.ok.0 in
    let n : c.len.result ≡ length nodes = c.len.ensures ∙ omega arith in
    let all : take c.loop-i.i nodes ≡ nodes = take_all c.loop-i.i nodes (rw c.deref-node-items.ensures.value at c.loop-i-test.false) in
    let e : c.push-2.new.self ≡ cone_clauses nodes c.args.cone.now.root = c.in_ok-push-2.ensures.ok ∙ (ap (λ z. z ++ (c.args.cone.now.root ∷ []) ∷ []) c.loop-i.invariant ∙ ap (λ ns. cone_clauses ns c.args.cone.now.root) all) in
    record { in_range = rw (n, e) f }

pub returns-clause-edge : goal.returns-clause-edge
returns-clause-edge c = λ edge of.
    let nodes = c.args.cone.now.nodes.items in
    let v = c.args.cone.now.nodes.ok.0 in
    let n : c.len.result ≡ length nodes = c.len.ensures ∙ omega arith in
    let all : take c.loop-i.i nodes ≡ nodes = take_all c.loop-i.i nodes (rw c.deref-node-items.ensures.value at c.loop-i-test.false) in
    let e : c.push-2.new.self ≡ cone_clauses nodes c.args.cone.now.root = c.in_ok-push-2.ensures.ok ∙ (ap (λ z. z ++ (c.args.cone.now.root ∷ []) ∷ []) c.loop-i.invariant ∙ ap (λ ns. cone_clauses ns c.args.cone.now.root) all) in
    cone_edge nodes c.args.cone.now.root (c.len.result + 1) c.push-2.new.self (ap (λ k. k + 1) n) e edge of

pub returns-clause-exactly : goal.returns-clause-exactly
returns-clause-exactly c = λ edge of.
    let nodes = c.args.cone.now.nodes.items in
    let all : take c.loop-i.i nodes ≡ nodes = take_all c.loop-i.i nodes (rw c.deref-node-items.ensures.value at c.loop-i-test.false) in
    let e : c.push-2.new.self ≡ cone_clauses nodes c.args.cone.now.root = c.in_ok-push-2.ensures.ok ∙ (ap (λ z. z ++ (c.args.cone.now.root ∷ []) ∷ []) c.loop-i.invariant ∙ ap (λ ns. cone_clauses ns c.args.cone.now.root) all) in
    cone_satisfiable nodes c.args.cone.now.root c.push-2.new.self e edge of
