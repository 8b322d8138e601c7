use Rattle.std.proofs.Common.{◌≡◌, ◌+◌, ◌-◌, ◌<◌, ◌++◌, ◌∷◌, [], ◌∙◌, true, false, Bool, ◌&&◌, length, get_or, drop, reverse, refl, ap, sym, subst, arith}
use Rattle.std.proofs.lemmas.List.{drop_all}
use Rattle.sat_form.specs.Literals.{member, negate, put_all, set_of, without}
use Rattle.sat_form.proofs.Sets.{both}
use Rattle.search_learn.specs.Analysis.{Resolved, is_resolved, lesson, resolve_back}
use Rattle.search_learn.specs.Marks.{AreFalse, AreMarks}
use Rattle.search_learn.specs.Rule.{clause_with}
use Rattle.search_learn.proofs.Collected.{collected_kept, collected_passed, collected_resolved, listing}
use Rattle.search_learn.proofs.Back.{passed, resolved, reverse_push}
use Rattle.search_learn.proofs.Conflicts.{begun, clause_falsified, met}
use Rattle.search_learn.proofs.Marks.{false_range, none_marked}
use Rattle.search_learn.proofs.learner.resolve_marked.Goals as goal

none_listed : (b : Bool) → false ≡ (b && false)
none_listed true = refl
none_listed false = refl

pub mark_all-count-requires : goal.mark_all-count-requires
mark_all-count-requires c =
    let clause_of = clause_with c.args.clauses.now in
    let t = c.args.trail.now.steps in
    let vars = c.requires.vars in
    let none = none_marked c.args.level t c.levels-levels.result.now c.args.marks.now c.requires.small (rw (← vars) (clause_of, c.requires.trail)) (rw (← vars) c.levels-levels.ensures) c.requires.clear in
    (t, [], none, rw c.literals.ensures (clause_falsified clause_of c.args.trail.now.vars t c.args.level c.args.false_id c.requires.trail c.requires.level c.requires.conflict))

pub loop-left-init : goal.loop-left-init
loop-left-init c =
    let clause_of = clause_with c.args.clauses.now in
    let t = c.args.trail.now.steps in
    let vars = c.requires.vars in
    let none = none_marked c.args.level t c.levels-levels.result.now c.args.marks.now c.requires.small (rw (← vars) (clause_of, c.requires.trail)) (rw (← vars) c.levels-levels.ensures) c.requires.clear in
    let wrong = clause_falsified clause_of c.args.trail.now.vars t c.args.level c.args.false_id c.requires.trail c.requires.level c.requires.conflict in
    let marked = rw c.literals.ensures at (c.mark_all-count.ensures t [] none (rw c.literals.ensures wrong)) in
    let size = ap length c.steps-steps.ensures in
    let rest = drop_all (length c.steps-steps.result.now) t (omega arith) in
    rw (rest, c.new-lits.ensures.items, c.new-hints.ensures.items) (record {
      within = omega arith;
      marked = marked;
      used = refl;
      listed = λ k. none_listed (member (set_of (clause_of c.args.false_id)) k);
      fewer = λ v. omega arith;
    })

pub is_resolved-requires : goal.is_resolved-requires
is_resolved-requires c =
    let clause_of = clause_with c.args.clauses.now in
    let t = c.args.trail.now.steps in
    let d = c.args.level in
    let id = c.args.false_id in
    let i = c.loop-left.left - 1 in
    let e = c.index-steps-left.result in
    let low = c.loop-left-test.true in
    let inv = c.loop-left.invariant in
    let within = inv.within in
    let inside : i < length t = omega arith in
    let next : c.loop-left.left ≡ i + 1 = omega arith in
    let is : e ≡ get_or t i e = rw c.steps-steps.ensures at c.index-steps-left.is in
    let start = begun clause_of c.args.trail.now.vars t d id c.requires.trail c.requires.level c.requires.conflict in
    let here = met clause_of c.args.trail.now.vars t d id c.requires.trail c.requires.level c.requires.conflict i e inside is in
    let r = resolve_back clause_of t d start (drop c.loop-left.left t) in
    (false_range (length c.loop-left.marks) t (negate e.lit) inv.marked.machine here.falsified).1

pub is_marked-requires : goal.is_marked-requires
is_marked-requires c =
    let clause_of = clause_with c.args.clauses.now in
    let t = c.args.trail.now.steps in
    let d = c.args.level in
    let id = c.args.false_id in
    let i = c.loop-left.left - 1 in
    let e = c.index-steps-left.result in
    let low = c.loop-left-test.true in
    let inv = c.loop-left.invariant in
    let within = inv.within in
    let inside : i < length t = omega arith in
    let next : c.loop-left.left ≡ i + 1 = omega arith in
    let is : e ≡ get_or t i e = rw c.steps-steps.ensures at c.index-steps-left.is in
    let start = begun clause_of c.args.trail.now.vars t d id c.requires.trail c.requires.level c.requires.conflict in
    let here = met clause_of c.args.trail.now.vars t d id c.requires.trail c.requires.level c.requires.conflict i e inside is in
    let r = resolve_back clause_of t d start (drop c.loop-left.left t) in
    (false_range (length c.loop-left.marks) t (negate e.lit) inv.marked.machine here.falsified).1

pub resolve-count-requires : goal.resolve-count-requires
resolve-count-requires c =
    let clause_of = clause_with c.args.clauses.now in
    let t = c.args.trail.now.steps in
    let d = c.args.level in
    let id = c.args.false_id in
    let i = c.loop-left.left - 1 in
    let e = c.index-steps-left.result in
    let low = c.loop-left-test.true in
    let inv = c.loop-left.invariant in
    let within = inv.within in
    let inside : i < length t = omega arith in
    let next : c.loop-left.left ≡ i + 1 = omega arith in
    let is : e ≡ get_or t i e = rw c.steps-steps.ensures at c.index-steps-left.is in
    let start = begun clause_of c.args.trail.now.vars t d id c.requires.trail c.requires.level c.requires.conflict in
    let here = met clause_of c.args.trail.now.vars t d id c.requires.trail c.requires.level c.requires.conflict i e inside is in
    let r = resolve_back clause_of t d start (drop c.loop-left.left t) in
    let test : is_resolved clause_of t d r.lits e ≡ true = sym (c.is_resolved.ensures t c.levels-levels.result.now r.lits clause_of inv.marked here.falsified here.level_is) ∙ c.if-is_resolved.true in
    let has = (both (member r.lits (negate e.lit)) _ test).0 in
    let others = here.others (ap (λ n. is_resolved clause_of t d (resolve_back clause_of t d start (drop n t)).lits e) (sym next) ∙ test) in
    let reason : AreFalse t (without c.literals-reason.result.now e.lit) = rw c.literals-reason.ensures others in
    (t, r.lits, inv.marked, has, here.level_is, reason)

pub loop-left-preserved-in-Continue-1 : goal.loop-left-preserved-in-Continue-1
loop-left-preserved-in-Continue-1 c =
    let clause_of = clause_with c.args.clauses.now in
    let t = c.args.trail.now.steps in
    let d = c.args.level in
    let id = c.args.false_id in
    let i = c.loop-left.left - 1 in
    let e = c.index-steps-left.result in
    let low = c.loop-left-test.true in
    let inv = c.loop-left.invariant in
    let within = inv.within in
    let inside : i < length t = omega arith in
    let next : c.loop-left.left ≡ i + 1 = omega arith in
    let is : e ≡ get_or t i e = rw c.steps-steps.ensures at c.index-steps-left.is in
    let start = begun clause_of c.args.trail.now.vars t d id c.requires.trail c.requires.level c.requires.conflict in
    let here = met clause_of c.args.trail.now.vars t d id c.requires.trail c.requires.level c.requires.conflict i e inside is in
    let r = resolve_back clause_of t d start (drop c.loop-left.left t) in
    let test : is_resolved clause_of t d r.lits e ≡ true = sym (c.is_resolved.ensures t c.levels-levels.result.now r.lits clause_of inv.marked here.falsified here.level_is) ∙ c.if-is_resolved.true in
    let has = (both (member r.lits (negate e.lit)) _ test).0 in
    let others = here.others (ap (λ n. is_resolved clause_of t d (resolve_back clause_of t d start (drop n t)).lits e) (sym next) ∙ test) in
    let reason : AreFalse t (without c.literals-reason.result.now e.lit) = rw c.literals-reason.ensures others in
    let marked = rw c.literals-reason.ensures at (c.resolve-count.ensures t r.lits inv.marked has here.level_is reason) in
    let lits = put_all (without r.lits (negate e.lit)) (without (clause_of e.reason) e.lit) in
    let now : resolve_back clause_of t d start (drop i t) ≡ record { lits = lits; used = e.reason ∷ r.used } =
    resolved clause_of t d start i c.loop-left.left e r true next inside is refl (sym test) refl lits (e.reason ∷ r.used) refl refl in
    let known = here.earlier (ap (λ n. is_resolved clause_of t d (resolve_back clause_of t d start (drop n t)).lits e) (sym next) ∙ test) in
    let collected = collected_resolved clause_of c.args.trail.now.vars t d start c.requires.trail i c.loop-left.left e r c.loop-left.lits.items inside is next inv.listed inv.fewer (without (clause_of e.reason) e.lit) (e.reason ∷ r.used) known now in
    record {
      within = omega arith;
      marked = subst (λ (x : Resolved). AreMarks d t c.levels-levels.result.now c.resolve-count.new.marks c.resolve-count.result x.lits) (sym now) marked;
      used = ap (λ (x : Resolved). x.used) now ∙ ap (λ us. e.reason ∷ us) inv.used ∙ sym (ap reverse c.in_ok-push.ensures.items ∙ reverse_push c.loop-left.hints.items e.reason);
      listed = collected.0;
      fewer = collected.1;
    }

pub loop-left-preserved-in-Continue-branch-2 : goal.loop-left-preserved-in-Continue-branch-2
loop-left-preserved-in-Continue-branch-2 c =
    let clause_of = clause_with c.args.clauses.now in
    let t = c.args.trail.now.steps in
    let d = c.args.level in
    let id = c.args.false_id in
    let i = c.loop-left.left - 1 in
    let e = c.index-steps-left.result in
    let low = c.loop-left-test.true in
    let inv = c.loop-left.invariant in
    let within = inv.within in
    let inside : i < length t = omega arith in
    let next : c.loop-left.left ≡ i + 1 = omega arith in
    let is : e ≡ get_or t i e = rw c.steps-steps.ensures at c.index-steps-left.is in
    let start = begun clause_of c.args.trail.now.vars t d id c.requires.trail c.requires.level c.requires.conflict in
    let here = met clause_of c.args.trail.now.vars t d id c.requires.trail c.requires.level c.requires.conflict i e inside is in
    let r = resolve_back clause_of t d start (drop c.loop-left.left t) in
    let test : is_resolved clause_of t d r.lits e ≡ c.is_resolved.result = sym (c.is_resolved.ensures t c.levels-levels.result.now r.lits clause_of inv.marked here.falsified here.level_is) in
    let now : resolve_back clause_of t d start (drop i t) ≡ r = passed clause_of t d start i c.loop-left.left e r c.is_resolved.result next inside is refl (sym test) c.if-is_resolved.false in
    let marked = sym (inv.marked.marked (negate e.lit) here.falsified) ∙ sym c.is_marked.ensures in
    let collected = collected_kept clause_of c.args.trail.now.vars t d start c.requires.trail i c.loop-left.left e r c.loop-left.lits.items inside is next inv.listed inv.fewer now (marked ∙ c.if-is_marked.true) in
    rw (c.in_ok-push-2.ensures.items, c.not.ensures) (record {
      within = omega arith;
      marked = subst (λ (x : Resolved). AreMarks d t c.levels-levels.result.now c.loop-left.marks c.loop-left.count x.lits) (sym now) inv.marked;
      used = ap (λ (x : Resolved). x.used) now ∙ inv.used;
      listed = collected.0;
      fewer = collected.1;
    })

pub loop-left-preserved : goal.loop-left-preserved
loop-left-preserved c =
    let clause_of = clause_with c.args.clauses.now in
    let t = c.args.trail.now.steps in
    let d = c.args.level in
    let id = c.args.false_id in
    let i = c.loop-left.left - 1 in
    let e = c.index-steps-left.result in
    let low = c.loop-left-test.true in
    let inv = c.loop-left.invariant in
    let within = inv.within in
    let inside : i < length t = omega arith in
    let next : c.loop-left.left ≡ i + 1 = omega arith in
    let is : e ≡ get_or t i e = rw c.steps-steps.ensures at c.index-steps-left.is in
    let start = begun clause_of c.args.trail.now.vars t d id c.requires.trail c.requires.level c.requires.conflict in
    let here = met clause_of c.args.trail.now.vars t d id c.requires.trail c.requires.level c.requires.conflict i e inside is in
    let r = resolve_back clause_of t d start (drop c.loop-left.left t) in
    let test : is_resolved clause_of t d r.lits e ≡ c.is_resolved.result = sym (c.is_resolved.ensures t c.levels-levels.result.now r.lits clause_of inv.marked here.falsified here.level_is) in
    let now : resolve_back clause_of t d start (drop i t) ≡ r = passed clause_of t d start i c.loop-left.left e r c.is_resolved.result next inside is refl (sym test) c.if-is_resolved.false in
    let marked = sym (inv.marked.marked (negate e.lit) here.falsified) ∙ sym c.is_marked.ensures in
    let collected = collected_passed clause_of c.args.trail.now.vars t d start c.requires.trail i c.loop-left.left e r c.loop-left.lits.items inside is next inv.listed inv.fewer now (marked ∙ c.if-is_marked.false) in
    record {
      within = omega arith;
      marked = subst (λ (x : Resolved). AreMarks d t c.levels-levels.result.now c.loop-left.marks c.loop-left.count x.lits) (sym now) inv.marked;
      used = ap (λ (x : Resolved). x.used) now ∙ inv.used;
      listed = collected.0;
      fewer = collected.1;
    }

pub returns-clause-hints : goal.returns-clause-hints
returns-clause-hints c =
    let clause_of = clause_with c.args.clauses.now in
    let t = c.args.trail.now.steps in
    let id = c.args.false_id in
    let over = c.loop-left-test.false in
    let start : Resolved = record { lits = set_of (clause_of id); used = [] } in
    let none : c.loop-left.left ≡ 0 = omega arith in
    let used = rw none at c.loop-left.invariant.used in
    c.in_ok-push-3.ensures.items ∙ ap (λ us. us ++ id ∷ []) (c.reverse.ensures.items ∙ sym used)

pub returns-clause-marks : goal.returns-clause-marks
returns-clause-marks c =
    let over = c.loop-left-test.false in
    let none : c.loop-left.left ≡ 0 = omega arith in
    (c.levels-levels.result.now, c.loop-left.count, rw none at c.loop-left.invariant.marked)

pub returns-clause-left : goal.returns-clause-left
returns-clause-left c =
    let clause_of = clause_with c.args.clauses.now in
    let t = c.args.trail.now.steps in
    let over = c.loop-left-test.false in
    let none : c.loop-left.left ≡ 0 = omega arith in
    let marked = rw none at c.loop-left.invariant.marked in
    listing clause_of c.args.trail.now.vars c.loop-left.lits.items (lesson clause_of t c.args.level c.args.false_id).lits t c.requires.trail marked.falsified (rw none at c.loop-left.invariant.listed) (rw none at c.loop-left.invariant.fewer)
