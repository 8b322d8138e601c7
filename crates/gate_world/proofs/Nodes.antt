-- The nodes that goals have at their ends, goal by goal.
use Rattle.std.proofs.Common.{◌≡◌, ℕ, zero, suc, ◌+◌, ◌*◌, ◌≤◌, ◌<◌, List, [], ◌∷◌, ◌++◌, length, take, get_or, All, refl, sym, ap, ap₂, ◌∙◌, ◌^◌, nat_eq, arith, length-append, append_assoc}
use Rattle.std.proofs.lemmas.List.{append-nil, take_more}
use Rattle.std.proofs.lemmas.List.Elements.{All-head, All-tail}
use Rattle.indexmap.specs.IndexSet.{insert_all}
use Rattle.gate_world.specs.Tasks.{nodes_of}
use Rattle.gate_world.specs.Nodes.{all_nodes}
use Rattle.gate_world.specs.declared.task.Task.{Task}
use Rattle.gate_world.proofs.Matched.{inserted_more}

nodes_append : (xs ys : List Task) → all_nodes (xs ++ ys) ≡ all_nodes xs ++ all_nodes ys
nodes_append [] ys = refl
nodes_append (x ∷ xs) ys = ap (λ ns. nodes_of x ++ ns) (nodes_append xs ys) ∙ sym (append_assoc (nodes_of x) (all_nodes xs) (all_nodes ys))

-- one goal more
nodes_more : (tasks : List Task) (i : ℕ) (t : Task) → i < length tasks → t ≡ get_or tasks i t → all_nodes (take (i + 1) tasks) ≡ all_nodes (take i tasks) ++ nodes_of t
nodes_more tasks i t l is =
    ap all_nodes (take_more tasks i t l) ∙ nodes_append (take i tasks) (get_or tasks i t ∷ []) ∙ ap (λ ns. all_nodes (take i tasks) ++ ns) (append-nil (nodes_of (get_or tasks i t)) ∙ ap nodes_of (sym is))

abbrev pub IsSmall : Task → Type 0
IsSmall t = length (nodes_of t) ≤ 4194304

-- where none has many, so many goals have no more than so many times as many
few_so_far : (tasks : List Task) → All IsSmall tasks → (i : ℕ) → length (all_nodes (take i tasks)) ≤ 4194304 * i
few_so_far [] h zero = omega arith
few_so_far [] h (suc i) = omega arith
few_so_far (t ∷ ts) h zero = omega arith
few_so_far (t ∷ ts) h (suc i) =
    let long = length-append (nodes_of t) (all_nodes (take i ts)) in
    let here : length (nodes_of t) ≤ 4194304 = All-head IsSmall t ts h in
    let rest : length (all_nodes (take i ts)) ≤ 4194304 * i = few_so_far ts (All-tail IsSmall t ts h) i in
    omega arith

-- the nodes of one goal more were counted and met
module _ (tasks : List Task) (i : ℕ) (t : Task) (inside : i < length tasks) (is : t ≡ get_or tasks i t) where
  pub counted_more : (n m : ℕ) → n ≡ length (all_nodes (take i tasks)) → m ≡ length (nodes_of t) → n + m ≡ length (all_nodes (take (i + 1) tasks))
  counted_more n m p q = ap₂ (λ x y. x + y) p q ∙ sym (length-append (all_nodes (take i tasks)) (nodes_of t)) ∙ ap length (sym (nodes_more tasks i t inside is))

  pub met_more : (old new : List ℕ) → old ≡ insert_all nat_eq [] (all_nodes (take i tasks)) → new ≡ insert_all nat_eq old (nodes_of t) → new ≡ insert_all nat_eq [] (all_nodes (take (i + 1) tasks))
  met_more old new p q =
      q ∙ ap (λ ks. insert_all nat_eq ks (nodes_of t)) p ∙ sym (inserted_more nat_eq [] (all_nodes (take i tasks)) (nodes_of t)) ∙ ap (insert_all nat_eq []) (sym (nodes_more tasks i t inside is))

  pub count_fits : length tasks ≤ 65536 → All IsSmall tasks → (n m : ℕ) → n ≡ length (all_nodes (take i tasks)) → m ≡ length (nodes_of t) → n + m < 2 ^ 64
  count_fits few small n m p q =
      let all : n + m ≡ length (all_nodes (take (i + 1) tasks)) = counted_more n m p q in
      let most : length (all_nodes (take (i + 1) tasks)) ≤ 4194304 * (i + 1) = few_so_far tasks small (i + 1) in
      omega arith
