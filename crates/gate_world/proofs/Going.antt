-- What a goal that builds has in hand goes on to be that: from its first call on, over its own loads and claims, and while
-- other goals write.
use Rattle.std.proofs.Common.{◌≡◌, ℕ, ◌≤◌, List, [], ◌∷◌, length, refl, sym, subst, arith}
use Rattle.std.proofs.lemmas.List.Elements.{All-nil}
use Rattle.gate_shape.specs.Builds.{NotDeep}
use Rattle.gate_probe.specs.Sound.{IsSound, IsWithin}
use Rattle.gate_world.specs.Work.{Problem, Work, Loading, Probing, Walking, Searching, Ended, script_of, to_build}
use Rattle.gate_world.specs.World.{Actor, Moved, moved, begun_at}
use Rattle.gate_world.specs.Right.{IsScripted}
use Rattle.gate_world.specs.Doing.{IsDoing}
use Rattle.gate_world.specs.Coding.{IsInHand, IsMovedTo, BuildingMoves, IsAtWork, ShowsBuilding, ShowsWork}
use Rattle.gate_world.specs.declared.build.Building.{Building}
use Rattle.gate_world.specs.declared.build.Work.{Work as CodeWork}
use Rattle.gate_world.specs.declared.build.Work.TheVariants as code
use Rattle.gate_world.proofs.Doing.{build_doing}
use Rattle.gate_world.proofs.Keeping.{IsActor, Moves, moves, actor_more}
use Rattle.gate_world.proofs.Coded.{calls_more}

abbrev anyone : ℕ → Type 0
anyone c = Unit {0}

-- at the first call
pub started_in_hand : (p : Problem) (n : ℕ) (words : List ℕ) (b : Building) → length words ≡ n → 1 ≤ n → n ≤ 4000000 → IsSound words → IsScripted p → ShowsWork p words (code.Building b) (begun_at n p).work → IsInHand (begun_at n p) (begun_at n p).work words b
started_in_hand p n words b size some few sound scripted shows =
    let doing : IsDoing n 0 words anyone p [] (to_build n p [] (script_of p)) = build_doing n 0 words anyone p [] sound (λ s z. absurd (z refl)) size some few scripted [] (script_of p) (record { cut = refl; built = tt; shallow = All-nil NotDeep }) in
    record {
      shows = shows;
      sound = sound;
      some = omega arith;
      few = omega arith;
      within = λ s z. absurd (z refl);
      scripted = scripted;
      doing = subst (λ k. IsDoing k 0 words anyone p [] (to_build n p [] (script_of p))) (sym size) doing;
    }

-- behind a load or claim
pub moved_in_hand : (a : Actor) (w : Work) (old : List ℕ) (b : Building) (new : List ℕ) (next : Building) → IsInHand a w old b → a.work ≡ w → IsMovedTo (moved old a w) new (code.Building next) → IsInHand (moved old a w).actor (moved old a w).actor.work new next
moved_in_hand a w old b new next h is to =
    let m : Moved = moved old a w in
    let actor : IsActor (length old) 0 old anyone a = record { within = h.within; scripted = h.scripted; doing = subst (λ (v : Work). IsDoing (length old) 0 old anyone a.problem a.seen v) (sym is) h.doing } in
    let k : Moves (length old) 0 old anyone a m = moves (length old) 0 anyone h.some h.few old a w refl h.sound actor is h.doing in
    let size = k.size in
    let some = h.some in
    let few = h.few in
    subst (λ ws. IsInHand m.actor m.actor.work ws next) (sym to.0) (record {
      shows = to.1;
      sound = k.sound;
      some = subst (λ x. 1 ≤ x) (sym size) some;
      few = subst (λ x. x ≤ 4000000) (sym size) few;
      within = k.actor.within;
      scripted = k.actor.scripted;
      doing = subst (λ x. IsDoing x 0 m.words anyone m.actor.problem m.actor.seen m.actor.work) (sym size) k.actor.doing;
    })

shows_more : (p : Problem) (words more : List ℕ) (b : Building) (w : Work) → IsWithin words more → ShowsBuilding p words b w → ShowsBuilding p more b w
shows_more p words more b (Loading e es g gs) grows h = (h.0, calls_more p words more h.0 (g ∷ gs) b.calls grows h.1, h.2)
shows_more p words more b (Probing g gs q) grows h = (h.0, calls_more p words more h.0 (g ∷ gs) b.calls grows h.1, h.2)
shows_more p words more b (Walking e es) grows h = h
shows_more p words more b (Searching m) grows h = h
shows_more p words more b (Ended end) grows h = h

-- where others have written
pub more_in_hand : (a : Actor) (w : Work) (words more : List ℕ) (b : Building) → IsInHand a w words b → length more ≡ length words → IsSound more → IsWithin words more → IsInHand a w more b
more_in_hand a w words more b h size sound grows =
    let here : Actor = record { problem = a.problem; seen = a.seen; work = w } in
    let now : IsActor (length words) 0 more anyone here = actor_more (length words) 0 words more anyone anyone here grows (λ c f. f) (record { within = h.within; scripted = h.scripted; doing = h.doing }) in
    let some = h.some in
    let few = h.few in
    record {
      shows = shows_more a.problem words more b w grows h.shows;
      sound = sound;
      some = subst (λ x. 1 ≤ x) (sym size) some;
      few = subst (λ x. x ≤ 4000000) (sym size) few;
      within = now.within;
      scripted = now.scripted;
      doing = subst (λ x. IsDoing x 0 more anyone a.problem a.seen w) (sym size) now.doing;
    }

-- ---- the same of whatever the goal has in hand

pub started_at_work : (p : Problem) (n : ℕ) (words : List ℕ) (work : CodeWork) → length words ≡ n → 1 ≤ n → n ≤ 4000000 → IsSound words → IsScripted p → ShowsWork p words work (begun_at n p).work → IsAtWork words work
started_at_work p n words (code.Building b) size some few sound scripted shows = (begun_at n p, (begun_at n p).work, started_in_hand p n words b size some few sound scripted shows)
started_at_work p n words (code.Built c) size some few sound scripted shows = tt
started_at_work p n words code.Deep size some few sound scripted shows = tt
started_at_work p n words code.Full size some few sound scripted shows = tt

pub more_at_work : (words more : List ℕ) (work : CodeWork) → IsAtWork words work → length more ≡ length words → IsSound more → IsWithin words more → IsAtWork more work
more_at_work words more (code.Building b) h size sound grows = (h.0, h.1, more_in_hand h.0 h.1 words more b h.2 size sound grows)
more_at_work words more (code.Built c) h size sound grows = tt
more_at_work words more code.Deep h size sound grows = tt
more_at_work words more code.Full h size sound grows = tt

-- what a load or claim leaves
module _ (old new : List ℕ) (b : Building) (work : CodeWork) (h : IsAtWork old (code.Building b)) (to : BuildingMoves old b new work) where
  abbrev a : Actor
  a = record { problem = h.0.problem; seen = h.0.seen; work = h.1 }

  hand : IsInHand a h.1 old b
  hand = let k = h.2 in record { shows = k.shows; sound = k.sound; some = k.some; few = k.few; within = k.within; scripted = k.scripted; doing = k.doing }

  abbrev m : Moved
  m = moved old a h.1

  leaves : IsMovedTo m new work
  leaves = to a h.1 hand

  kept : Moves (length old) 0 old anyone a m
  kept =
      let k = h.2 in
      moves (length old) 0 anyone k.some k.few old a h.1 refl k.sound (record { within = k.within; scripted = k.scripted; doing = k.doing }) refl k.doing

  pub step_sound : IsSound new
  step_sound = subst IsSound (sym leaves.0) kept.sound

  pub step_grows : IsWithin old new
  step_grows = subst (λ ws. IsWithin old ws) (sym leaves.0) kept.grows

  pub step_goes_on : IsAtWork new work
  step_goes_on = go work leaves
    where
      go : (next : CodeWork) → IsMovedTo m new next → IsAtWork new next
      go (code.Building c) l = (m.actor, m.actor.work, moved_in_hand a h.1 old b new c hand refl l)
      go (code.Built c) l = tt
      go code.Deep l = tt
      go code.Full l = tt
