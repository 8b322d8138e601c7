use Rattle.std.proofs.Common.{inl, inr, arith}
use Rattle.bv_lex.specs.Words.{no_more}
use Rattle.bv_lex.proofs.Naming.{append_one, step_on, ends_here, character_within}
use Rattle.bv_lex.proofs.names.name_end.Goals as goal

pub characters-init : goal.characters-init
characters-init c = record {
  ahead = omega arith;
  within = omega (arith, c.requires);
  built = no_more;
  on = λ m r. inr r;
}

pub returns-then-length-eq0-clause-longest : goal.returns-then-length-eq0-clause-longest
returns-then-length-eq0-clause-longest c m r = elim (c.characters.invariant.on m r) [
  | inl le ↦ le
  | inr rest ↦ ends_here (c.character_length-length.ensures.none c.if-length-eq0.true) rest
]

pub overflow_add-at : goal.overflow_add-at
overflow_add-at c =
    let x = c.character_length-length.ensures.some (omega (arith, c.if-length-eq0.false)) in
    omega (arith, character_within c.args.text.now c.characters.at c.character_length-length.result c.characters.invariant.within x)

pub characters-smaller : goal.characters-smaller
characters-smaller c =
    let x = c.character_length-length.ensures.some (omega (arith, c.if-length-eq0.false)) in
    omega (arith, c.if-length-eq0.false, character_within c.args.text.now c.characters.at c.character_length-length.result c.characters.invariant.within x)

pub characters-preserved : goal.characters-preserved
characters-preserved c =
    let x = c.character_length-length.ensures.some (omega (arith, c.if-length-eq0.false)) in
    record {
      ahead = omega (arith, c.characters.invariant.ahead);
      within = character_within c.args.text.now c.characters.at c.character_length-length.result c.characters.invariant.within x;
      built = append_one c.characters.invariant.built x;
      on = λ m r. elim (c.characters.invariant.on m r) [
        | inl le ↦ inl (omega arith)
        | inr rest ↦ step_on c.args.text.now c.characters.at c.character_length-length.result m x rest
      ];
    }
