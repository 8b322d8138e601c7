use Rattle.std.proofs.Common.{◌≡◌, ◌+◌, ◌∷◌, ◌∙◌, true, false, not, cond, List, length, drop, ap, sym, subst, arith}
use Rattle.std.proofs.lemmas.List.{drop_more, drop_all}
use Rattle.sat_form.specs.Literals.{Literal, member, same_literal, put, put_all, without}
use Rattle.sat_form.proofs.Sets.{same_itself}
use Rattle.search_learn.specs.Marks.{AreMarks}
use Rattle.search_learn.proofs.Decisions.{stays_member}
use Rattle.search_learn.proofs.Marks.{count_fits, false_range, member_at, with_mark}
use Rattle.search_learn.proofs.learner.mark_others.Goals as goal
use Rattle.search_learn.proofs.learner.mark_others.Goals.{then-not-same_literal, else-not-same_literal}

stays : (c : List Literal) (but l : Literal) → member c l ≡ true → same_literal but l ≡ false → member (without c but) l ≡ true
stays c but l has differ = stays_member c but l has (λ is. sym differ ∙ ap (same_literal but) is ∙ same_itself but)

pub mark-total-requires-clause-place : goal.mark-total-requires-clause-place
mark-total-requires-clause-place c =
    let q = c.loop-lit.invariant c.requires.0 c.requires.1 c.requires.2 c.requires.3 in
    let clause = c.args.clause.now in
    let lit = c.lit-item.result in
    let differ = sym c.same_literal.ensures ∙ c.if-not-same_literal.true in
    let wrong = c.requires.3 lit (stays clause c.args.but lit (member_at clause c.loop-lit.lit-index lit c.loop-lit-test.true c.lit-item.is) differ) in
    (false_range (length c.loop-lit.marks) c.requires.0 lit q.1.machine wrong).1

pub mark-total-requires-clause-room : goal.mark-total-requires-clause-room
mark-total-requires-clause-room c =
    let q = c.loop-lit.invariant c.requires.0 c.requires.1 c.requires.2 c.requires.3 in
    count_fits c.args.level c.requires.0 c.args.levels.now c.loop-lit.marks c.loop-lit.total q.0 q.1

pub loop-lit-preserved : goal.loop-lit-preserved
loop-lit-preserved c = λ t s are falsified.
    let q = c.loop-lit.invariant t s are falsified in
    let clause = c.args.clause.now in
    let at = c.loop-lit.lit-index in
    let but = c.args.but in
    let lit = c.lit-item.result in
    let inside = c.loop-lit-test.true in
    let here = member_at clause at lit inside c.lit-item.is in
    let rest = drop_more clause at lit inside ∙ ap (λ (x : Literal). x ∷ drop (at + 1) clause) (sym c.lit-item.is) in
    let unfolded = ap (λ (x : List Literal). put_all q.0 (without x but)) rest in
    let tail = without (drop (at + 1) clause) but in
    elim c.if-not-same_literal.branch [
      | then-not-same_literal w ↦
          let differ = sym c.same_literal.ensures ∙ w.if-not-same_literal.true in
          let wrong = falsified lit (stays clause but lit here differ) in (
            put q.0 lit,
            rw (w.marks-is, w.total-is, w.mark-total.ensures.marks, w.mark-total.ensures.count) (with_mark c.args.level t c.args.levels.now c.loop-lit.marks c.loop-lit.total q.0 q.1 lit wrong),
            sym (unfolded ∙ ap (λ b. put_all q.0 (cond (not b) (lit ∷ tail) tail)) differ) ∙ q.2,
          )
      | else-not-same_literal w ↦
          let same = sym c.same_literal.ensures ∙ w.if-not-same_literal.false in (
            q.0,
            rw (w.marks-is, w.total-is) q.1,
            sym (unfolded ∙ ap (λ b. put_all q.0 (cond (not b) (lit ∷ tail) tail)) same) ∙ q.2,
          )
    ]

pub returns : goal.returns
returns c = λ t s are falsified.
    let q = c.loop-lit.invariant t s are falsified in
    let clause = c.args.clause.now in
    let over = c.loop-lit-test.false in
    subst (λ (x : List Literal). AreMarks c.args.level t c.args.levels.now c.loop-lit.marks c.loop-lit.total x)
    (sym (ap (λ (x : List Literal). put_all q.0 (without x c.args.but)) (drop_all c.loop-lit.lit-index clause (omega arith))) ∙ q.2) q.1
