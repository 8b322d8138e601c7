use Rattle.std.proofs.Common.{◌≡◌, ◌≢◌, length, set, length-set, refl, sym, ◌∙◌, subst, arith}
use Rattle.gate_probe.specs.Words.{word_at}
use Rattle.gate_probe.specs.Moves.{MayTell}
use Rattle.gate_probe.specs.declared.prober.Move.{Move}
use Rattle.gate_world.specs.Coding.{SearchMoves}
use Rattle.gate_world.proofs.Begun.{if_ok}
use Rattle.gate_world.proofs.Told.{load_leaves, lost_leaves, won_leaves, claimed_search, claim_at}
use Rattle.gate_world.proofs.build.Calls.search.Goals as goal

pub returns-then-there-gt0-clause-ok : goal.returns-then-there-gt0-clause-ok
returns-then-there-gt0-clause-ok c =
    let some : word_at c.args.words.now c.in-Claim.place ≢ 0 = (λ z. let t = c.if-there-gt0.true in absurd (omega arith)) in
    if_ok c.told-then-there-gt0.result _ (SearchMoves c.args.words.now c.args.self c.args.prober c.args.words.now)
    (λ work f a done g gs h. lost_leaves c.args.words.now a done g gs c.args.self c.args.prober c.in-Claim.place c.in-Claim.wanted (word_at c.args.words.now c.in-Claim.place) (length c.args.words.now) work h (sym c.first.ensures ∙ c.in-Claim.is) refl refl some f)
    c.told-then-there-gt0.ensures

pub told-requires-in-Claim-clause-told : goal.told-requires-in-Claim-clause-told
told-requires-in-Claim-clause-told c =
    let r = c.requires in
    let last = sym c.first.ensures ∙ c.in-Claim.is in
    let none : word_at c.args.words.now c.in-Claim.place ≡ 0 = (let f = c.if-there-gt0.false in omega arith) in
    let k = claimed_search r.0 c.args.words.now r.1 r.2 r.3 r.4 c.args.self c.args.prober r.5 c.in-Claim.place c.in-Claim.wanted last none in
    record {
      problem = r.0;
      words = set c.args.words.now c.in-Claim.place c.in-Claim.wanted;
      seen = r.1;
      done = r.2;
      gate = r.3;
      behind = r.4;
      size_is = length-set c.args.words.now c.in-Claim.place c.in-Claim.wanted;
      search = k.0;
      here = k.1;
      may = subst (λ (m : Move). MayTell m c.in-Claim.wanted) (sym last) (claim_at r.0 c.args.words.now r.1 r.2 r.3 r.4 c.args.self c.args.prober r.5 c.in-Claim.place c.in-Claim.wanted last).1;
    }

pub returns-in-Load-clause-ok : goal.returns-in-Load-clause-ok
returns-in-Load-clause-ok c =
    if_ok c.told.result _ (SearchMoves c.args.words.now c.args.self c.args.prober c.args.words.now)
    (λ work f a done g gs h. load_leaves c.args.words.now a done g gs c.args.self c.args.prober c.in-Load.place (word_at c.args.words.now c.in-Load.place) (length c.args.words.now) work h (sym c.first.ensures ∙ c.in-Load.is) refl refl f)
    c.told.ensures

pub returns-in_ok-work-in-Claim-clause-ok : goal.returns-in_ok-work-in-Claim-clause-ok
returns-in_ok-work-in-Claim-clause-ok c = λ a done g gs h.
    let none : word_at c.args.words.now c.in-Claim.place ≡ 0 = (let f = c.if-there-gt0.false in omega arith) in
    won_leaves c.args.words.now a done g gs c.args.self c.args.prober c.in-Claim.place c.in-Claim.wanted (length c.args.words.now) c.in_ok-work-in-Claim.work h (sym c.first.ensures ∙ c.in-Claim.is) refl none c.in_ok-work-in-Claim.ensures
