use Rattle.std.proofs.Common.{sym, ap, ◌∙◌, subst}
use Rattle.gate_probe.specs.Moves.{IsMove}
use Rattle.gate_probe.specs.declared.prober.Move.TheVariants.{Load, Claim}
use Rattle.gate_probe.proofs.Parts.{packed_some}
use Rattle.gate_probe.proofs.Searching.{learnt_keeps, turned, search_claims}
use Rattle.gate_table.proofs.seats.GateTable.turn.Goals as goal

pub claim-word-requires-clause-allowed : goal.claim-word-requires-clause-allowed
claim-word-requires-clause-allowed c =
    let p = c.requires.pair in let w = c.requires.wanted in
    search_claims _ _ _ _ _ _ _ _ c.requires.search p.places p.from p.word w.left_small w.right_small w.gate (sym c.first.ensures ∙ c.in-Claim.is)

pub returns-in-Load-clause-kept : goal.returns-in-Load-clause-kept
returns-in-Load-clause-kept c = let l = c.load-word.ensures.learns in rw (ap (λ v. v.seen) l.0) (learnt_keeps _ _ _ l.2)

pub returns-in-Load-clause-search : goal.returns-in-Load-clause-search
returns-in-Load-clause-search c =
    let l = c.load-word.ensures.learns in let p = c.requires.pair in let w = c.requires.wanted in
    let m : IsMove c.args.prober.now (Load c.in-Load.place) = subst (IsMove c.args.prober.now) (sym c.first.ensures ∙ c.in-Load.is) c.requires.search.move in
    turned _ _ _ _ _ _ c.requires.search (λ z. packed_some _ c.args._left c.args._right w.low (sym p.word ∙ z)) m.0 m.1 l.2 (ap (λ v. v.seen) l.0) c.next.ensures.search

pub returns-in-Claim-clause-kept : goal.returns-in-Claim-clause-kept
returns-in-Claim-clause-kept c = let l = c.claim-word.ensures.learns in rw (ap (λ v. v.seen) l.0) (learnt_keeps _ _ _ l.2)

pub returns-in-Claim-clause-search : goal.returns-in-Claim-clause-search
returns-in-Claim-clause-search c =
    let l = c.claim-word.ensures.learns in let p = c.requires.pair in let w = c.requires.wanted in
    let m : IsMove c.args.prober.now (Claim c.in-Claim.place c.in-Claim.wanted) = subst (IsMove c.args.prober.now) (sym c.first.ensures ∙ c.in-Claim.is) c.requires.search.move in
    turned _ _ _ _ _ _ c.requires.search (λ z. packed_some _ c.args._left c.args._right w.low (sym p.word ∙ z)) m.0 m.1 l.2 (ap (λ v. v.seen) l.0) c.next-in-Claim.ensures.search
