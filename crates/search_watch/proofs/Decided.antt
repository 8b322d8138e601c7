-- A decision begins a level.
use Rattle.std.proofs.Common.{◌≡◌, ◌⊎◌, ℕ, ◌+◌, ◌<◌, ◌≤◌, Bool, true, false, cond, nat_eq, nat_le, List, [], ◌∷◌, ◌++◌, length, drop, refl, ap, sym, ◌∙◌, subst, inl, inr, arith}
use Rattle.std.specs.Prelude.{None, Contains}
use Rattle.std.specs.declared.option.Option.{Option}
use Rattle.std.proofs.lemmas.Bool.{cases_lt}
use Rattle.std.proofs.lemmas.Grind.{common_steps}
use Rattle.std.proofs.lemmas.List.{append-nil}
use Rattle.std.proofs.lemmas.List.Elements.{filter-append}
use Rattle.std.proofs.Math.Seq.{drop-append_seam}
use Rattle.sat_form.specs.Literals.{Literal, member}
use Rattle.search_learn.specs.declared.Step.{Step}
use Rattle.search_learn.specs.Trail.{cut, is_assigned, level}
use Rattle.search_learn.specs.Values.{IsOfMachine}
use Rattle.search_learn.proofs.Cutting.{cut_none}
use Rattle.search_learn.proofs.Decisions.{level_push}
use Rattle.search_watch.specs.declared.watch.UnitClause.{UnitClause}
use Rattle.search_watch.specs.Nets.{Net, IsNet, IsThere, negated}
use Rattle.search_watch.specs.Visits.{clause_at, pair_at}
use Rattle.search_watch.specs.Watched.{IsAtMost, IsCalm, IsNoted, Watches, is_false, is_satisfied}
use Rattle.search_watch.proofs.Begins.{begins}
use Rattle.search_watch.proofs.Exact.{watched-calm}

no-unit : (us : List UnitClause) (u : UnitClause) → us ≡ [] → Contains us u → ⊥
no-unit us u none h = let here = subst (λ (xs : List UnitClause). Contains xs u) none h in absurd (omega (arith, here.1))

-- Where nothing was found, each clause is calm.
pub quiet-calm : (vars : ℕ) (t : List Step) (n : Net) → IsNet vars t [] n → n.least ≡ None → n.units ≡ [] → (i : ℕ) → IsThere n.clauses i → IsCalm t (clause_at n.clauses i) (pair_at n.pairs i)
quiet-calm vars t n net least units i there =
    let c = clause_at n.clauses i in
    let is = net.looked i there in
    let nothing : IsNoted t c n.units n.least i → ⊥ = λ noted. elim noted as (λ _. ⊥) [
      | inl f ↦ subst (λ (o : Option ℕ). IsAtMost o i) least f.at_most
      | inr f ↦ no-unit n.units (record { clause = i; lit = f.lit }) units f.listed
    ] in
    let each = λ (w : Literal) (watched : Watches (pair_at n.pairs i) w) (wrong : is_false t w ≡ true). elim (is.excused w watched wrong) as (λ _. (is_satisfied t c ≡ true) ⊎ (⊥ ⊎ (member [] w ≡ true))) [
      | inl some ↦ inl some
      | inr (inl f) ↦ absurd (nothing f)
      | inr (inr h) ↦ inr (inr h)
    ] in
    watched-calm t c (pair_at n.pairs i) is.pair (record {
      first = each (pair_at n.pairs i).first (inl refl);
      second = each (pair_at n.pairs i).second (inr refl);
      one = λ e. elim (is.one e) as (λ _. (is_assigned t (pair_at n.pairs i).first ≡ true) ⊎ ⊥) [ inl h ↦ inl h | inr f ↦ absurd (nothing f) ];
    })

pub decide-begins : (vars : ℕ) (t : List Step) (e : Step) (n : Net) → IsNet vars t [] n → n.least ≡ None → n.units ≡ [] → IsOfMachine vars t → e.level ≡ level t + 1 → e.reason ≡ 0
    → IsNet vars (t ++ e ∷ []) (negated (drop (length t) (t ++ e ∷ []))) n
decide-begins vars t e n net least units machine opens decides =
    let u = t ++ e ∷ [] in
    let up : level u ≡ level t + 1 = level_push t e true (ap (λ (r : ℕ). nat_eq r 0) decides) in
    let parts = λ (k : ℕ). filter-append (λ (x : Step). nat_le x.level k) t (e ∷ []) in
    let over : (k : ℕ) → k ≤ level t → cut k (e ∷ []) ≡ [] = λ k low. ap (λ (b : Bool). cond b (e ∷ []) []) (above e.level k (omega arith)) in
    let calm = λ (i : ℕ) (there : IsThere n.clauses i) (k : ℕ) (under : k < level u).
    let same : cut k u ≡ cut k t = parts k ∙ ap (λ (x : List Step). cut k t ++ x) (over k (omega arith)) ∙ append-nil (cut k t) in
    subst (λ (x : List Step). IsCalm x (clause_at n.clauses i) (pair_at n.pairs i)) (sym same) (elim (cases_lt k (level t)) as (λ _. IsCalm (cut k t) (clause_at n.clauses i) (pair_at n.pairs i)) [
      | inl low ↦ net.calm i there k low
      | inr high ↦ subst (λ (x : List Step). IsCalm x (clause_at n.clauses i) (pair_at n.pairs i)) (sym (cut_none vars k t machine high)) (quiet-calm vars t n net least units i there)
    ]) in
    let begun = begins vars t (e ∷ []) n None net least (λ x h. absurd (no-unit n.units x units h)) (record { is = λ i f. absurd (cc); at_most = λ i b. absurd (no-unit n.units b.0 units b.1) }) calm in
    let same : ◌≡◌ {A = Net} (record n { units = []; least = None }) n = λ i. record n { units = sym units i; least = sym least i } in
    let rest : drop (length t) u ≡ e ∷ [] = drop-append_seam t (e ∷ []) in
    subst (λ (x : List Step). IsNet vars u (negated x) n) (sym rest) (subst (IsNet vars u (negated (e ∷ []))) same begun)
  where
    above : (a b : ℕ) → b < a → nat_le a b ≡ false
    above a b h = grind (arith, common_steps)
