-- Every list of events keeps what holds of the world.
use Rattle.std.proofs.Common.{◌≡◌, ℕ, zero, suc, ◌<◌, ◌≤◌, Bool, true, false, List, [], ◌∷◌, length, map, replicate, set, slice_index_or, refl, sym, ap, ◌∙◌, subst, arith, length-set, lt_of_not-le, true≢false, if◌then◌else◌, All}
use Rattle.std.proofs.lemmas.List.{get_or-set_same, get_or-set_other, length-map, length-replicate}
use mathlib.Core.Logic.{dite}
use native.Mathlib.Decide.{dec_le, ℕ_discrete}
use Rattle.gate_shape.specs.Edge.{Gate}
use Rattle.gate_shape.specs.Builds.{NotDeep}
use Rattle.gate_probe.specs.Words.{word_at}
use Rattle.gate_probe.specs.Sound.{IsSound, IsWithin}
use Rattle.gate_probe.specs.Moves.{Probe}
use Rattle.gate_probe.specs.declared.prober.Move.{Move}
use Rattle.gate_probe.specs.declared.prober.Move.TheVariants.{Load, Claim, Found, Full}
use Rattle.gate_world.specs.Work.{Problem, Work, End, Loading, Probing, Walking, Searching, Ended, Replied, OutOfMemory, NoRoom, CancelledBy, script_of, cut_off, is_false}
use Rattle.gate_world.specs.World.{Actor, World, Event, Step, Turn, Cancel, Memory, nobody, actor_at, with_work, claims, probes, moved, turned, put, put_moved, put_work, happens, run, begun_at, begun}
use Rattle.gate_world.specs.Right.{IsEndOf, IsWorkOf, IsRight, AreScripted, problem_at}
use Rattle.gate_world.proofs.Doing.{build_doing}
use Rattle.gate_world.specs.Doing.{IsDoing, IsEnding}
use Rattle.gate_world.proofs.Keeping.{IsActor, actor_more, moves, turns, turns_stay, cuts, cuts_stay}

abbrev IsFalseIn : World → ℕ → Type 0
IsFalseIn w c = is_false (actor_at w c).work ≡ true

pub record IsGood (w : World) : Type 0 where
  pub some : 1 ≤ length w.words
  pub few : length w.words ≤ 4000000
  pub sound : IsSound w.words
  pub actors : (g : ℕ) → g < length w.actors → IsActor (length w.words) w.budget w.words (λ c. is_false (actor_at w c).work ≡ true) (actor_at w g)

pub past_end : {A : Type 0} (xs : List A) (g : ℕ) (d : A) → length xs ≤ g → slice_index_or xs g d ≡ d
past_end [] g d h = refl
past_end (x ∷ xs) zero d h = absurd (omega arith)
past_end (x ∷ xs) (suc g) d h = past_end xs g d (omega arith)

-- a goal that is replied false stays so
false_stays : (w : World) (g : ℕ) (words : List ℕ) (a : Actor) → (is_false (actor_at w g).work ≡ true → is_false a.work ≡ true) → (c : ℕ) → IsFalseIn w c → IsFalseIn (put w g words a) c
false_stays w g words a stays c h = dite (ℕ_discrete c g)
    (λ (is : c ≡ g). dite (dec_le (suc g) (length w.actors))
    (λ (inside : suc g ≤ length w.actors).
    let at : slice_index_or (set w.actors g a) c nobody ≡ a = ap (λ k. slice_index_or (set w.actors g a) k nobody) is ∙ get_or-set_same w.actors g a nobody inside in
    ap (λ (x : Actor). is_false x.work) at ∙ stays (subst (λ k. IsFalseIn w k) is h))
    (λ out.
    let past : length w.actors ≤ g = (let l = lt_of_not-le out in omega arith) in
    absurd (true≢false (sym (subst (λ k. IsFalseIn w k) is h) ∙ ap (λ (x : Actor). is_false x.work) (past_end w.actors g nobody past)))))
    (λ ne. ap (λ (x : Actor). is_false x.work) (get_or-set_other w.actors g c a nobody ne) ∙ h)

put_good : (w : World) (g : ℕ) (words : List ℕ) (a : Actor) → IsGood w → length words ≡ length w.words → IsSound words → IsWithin w.words words
    → (g < length w.actors → IsActor (length w.words) w.budget words (IsFalseIn w) a) → (is_false (actor_at w g).work ≡ true → is_false a.work ≡ true) → IsGood (put w g words a)
put_good w g words a good size sound grows mine stays =
    let F : ℕ → Type 0 = IsFalseIn (put w g words a) in
    let kept : (c : ℕ) → IsFalseIn w c → F c = false_stays w g words a stays in
    let each : (k : ℕ) → k < length (set w.actors g a) → IsActor (length w.words) w.budget words F (slice_index_or (set w.actors g a) k nobody) =
    (λ k l.
    let inside : k < length w.actors = subst (λ m. k < m) (length-set w.actors g a) l in
    dite (ℕ_discrete k g)
    (λ (is : k ≡ g).
    let in' : g < length w.actors = subst (λ m. m < length w.actors) is inside in
    let at : slice_index_or (set w.actors g a) k nobody ≡ a = ap (λ j. slice_index_or (set w.actors g a) j nobody) is ∙ get_or-set_same w.actors g a nobody in' in
    subst (IsActor (length w.words) w.budget words F) (sym at) (actor_more (length w.words) w.budget words words (IsFalseIn w) F a (λ s z. refl) kept (mine in')))
    (λ ne.
    subst (IsActor (length w.words) w.budget words F) (sym (get_or-set_other w.actors g k a nobody ne)) (actor_more (length w.words) w.budget w.words words (IsFalseIn w) F (actor_at w k) grows kept (good.actors k inside)))) in
    record {
      some = subst (λ n. 1 ≤ n) (sym size) good.some;
      few = subst (λ n. n ≤ 4000000) (sym size) good.few;
      sound = sound;
      actors = λ k l. subst (λ n. IsActor n w.budget words F (slice_index_or (set w.actors g a) k nobody)) (sym size) (each k l);
    }

pub within_goals : (w : World) (g : ℕ) (P : Type 0) → (g < length w.actors → P) → (actor_at w g ≡ nobody → length w.actors ≤ g → P) → P
within_goals w g P inside outside = dite (dec_le (suc g) (length w.actors))
    (λ (l : suc g ≤ length w.actors). inside l)
    (λ out. let past : length w.actors ≤ g = (let l = lt_of_not-le out in omega arith) in outside (past_end w.actors g nobody past) past)

not_inside : (w : World) (g : ℕ) (P : Type 0) → length w.actors ≤ g → g < length w.actors → P
not_inside w g P past inside = absurd (omega arith)

step_good : (w : World) (g : ℕ) → IsGood w → IsGood (put_moved w g (moved w.words (actor_at w g) (actor_at w g).work))
step_good w g good = within_goals w g (IsGood (put_moved w g (moved w.words (actor_at w g) (actor_at w g).work)))
    (λ inside.
    let a : Actor = actor_at w g in
    let h = good.actors g inside in
    let m = moves (length w.words) w.budget (IsFalseIn w) good.some good.few w.words a a.work refl good.sound h refl h.doing in
    put_good w g (moved w.words a a.work).words (moved w.words a a.work).actor good m.size m.sound m.grows (λ _. m.actor) m.stays)
    (λ none past.
    subst (λ (a : Actor). IsGood (put_moved w g (moved w.words a a.work))) (sym none)
    (put_good w g w.words nobody good refl good.sound (λ s z. refl) (not_inside w g (IsActor (length w.words) w.budget w.words (IsFalseIn w) nobody) past) (λ e. absurd (true≢false (sym e ∙ ap (λ (x : Actor). is_false x.work) none)))))

work_good : (w : World) (g : ℕ) (work : Work) → IsGood w → (g < length w.actors → IsDoing (length w.words) w.budget w.words (IsFalseIn w) (actor_at w g).problem (actor_at w g).seen work)
    → (is_false (actor_at w g).work ≡ true → is_false work ≡ true) → IsGood (put_work w g work)
work_good w g work good doing stays =
    put_good w g w.words (with_work (actor_at w g) work) good refl good.sound (λ s z. refl)
    (λ inside. let h = good.actors g inside in record { within = h.within; scripted = h.scripted; doing = doing inside }) stays

turn_good : (w : World) (g : ℕ) → IsGood w → IsGood (put_work w g (turned w.budget (actor_at w g).problem (actor_at w g).work))
turn_good w g good =
    work_good w g (turned w.budget (actor_at w g).problem (actor_at w g).work) good
    (λ inside. let h = good.actors g inside in turns w.budget (actor_at w g).problem (length w.words) w.words (IsFalseIn w) (actor_at w g).seen (actor_at w g).work h.doing)
    (turns_stay w.budget (actor_at w g).problem (actor_at w g).work)

cut_good : (w : World) (g : ℕ) (end : End) → IsGood w → ((p : Problem) → IsEnding (length w.words) w.budget w.words (IsFalseIn w) p end) → IsGood (put_work w g (cut_off end (actor_at w g).work))
cut_good w g end good ending =
    work_good w g (cut_off end (actor_at w g).work) good
    (λ inside. let h = good.actors g inside in cuts (length w.words) w.budget w.words (IsFalseIn w) (actor_at w g).problem (actor_at w g).seen end (actor_at w g).work (ending (actor_at w g).problem) h.doing)
    (cuts_stay end (actor_at w g).work)

cancel_good : (w : World) (g cause : ℕ) (b : Bool) → is_false (actor_at w cause).work ≡ b → IsGood w → IsGood (if b then put_work w g (cut_off (CancelledBy cause) (actor_at w g).work) else w)
cancel_good w g cause true e good = cut_good w g (CancelledBy cause) good (λ p. e)
cancel_good w g cause false e good = good

pub event_good : (w : World) (e : Event) → IsGood w → IsGood (happens w e)
event_good w (Step g) good = step_good w g good
event_good w (Turn g) good = turn_good w g good
event_good w (Cancel g cause) good = cancel_good w g cause (is_false (actor_at w cause).work) refl good
event_good w (Memory g) good = cut_good w g OutOfMemory good (λ p. tt)

pub run_good : (w : World) (events : List Event) → IsGood w → IsGood (run events w)
run_good w [] good = good
run_good w (e ∷ es) good = run_good (happens w e) es (event_good w e good)

-- the beginning
no_word : (n s : ℕ) → word_at (replicate n 0) s ≡ 0
no_word zero s = refl
no_word (suc n) zero = refl
no_word (suc n) (suc s) = no_word n s

pub mapped_at : {A B : Type 0} (f : A → B) (xs : List A) (g : ℕ) (d : A) (e : B) → g < length xs → slice_index_or (map f xs) g e ≡ f (slice_index_or xs g d)
mapped_at f [] g d e l = absurd (omega arith)
mapped_at f (x ∷ xs) zero d e l = refl
mapped_at f (x ∷ xs) (suc g) d e l = mapped_at f xs g d e (omega arith)

none_deep : All NotDeep []
none_deep k d z = absurd (omega (arith, z))

nothing_seen : (words : List ℕ) → IsWithin [] words
nothing_seen words s h = absurd (h refl)

pub begun_good : (problems : List Problem) (n budget : ℕ) → 1 ≤ n → n ≤ 4000000 → AreScripted problems → IsGood (begun problems n budget)
begun_good problems n budget some few scripted =
    let w : World = begun problems n budget in
    let size : length (replicate n 0) ≡ n = length-replicate n 0 in
    let sound : IsSound (replicate n 0) = (λ s h. absurd (h (no_word n s))) in
    let each : (g : ℕ) → g < length problems → IsActor n budget (replicate n 0) (IsFalseIn w) (begun_at n (slice_index_or problems g nobody.problem)) =
    (λ g l.
    let p : Problem = slice_index_or problems g nobody.problem in
    record {
      within = nothing_seen (replicate n 0);
      scripted = scripted g l;
      doing = build_doing n budget (replicate n 0) (IsFalseIn w) p [] sound (nothing_seen (replicate n 0)) size some few (scripted g l) [] (script_of p) (record { cut = refl; built = tt; shallow = none_deep });
    }) in
    record {
      some = subst (λ k. 1 ≤ k) (sym size) some;
      few = subst (λ k. k ≤ 4000000) (sym size) few;
      sound = sound;
      actors = λ g l.
          let inside : g < length problems = subst (λ k. g < k) (length-map problems (begun_at n)) l in
          subst (λ k. IsActor k budget (replicate n 0) (IsFalseIn w) (actor_at w g)) (sym size)
          (subst (IsActor n budget (replicate n 0) (IsFalseIn w)) (sym (mapped_at (begun_at n) problems g nobody.problem nobody inside)) (each g inside));
    }

-- no goal comes or goes, and each keeps its problem; nor does the budget change, or the number of words
claims_problem : (words : List ℕ) (a : Actor) (g : Gate) (gs : List Gate) (q : Probe) (s wanted found : ℕ) → (claims words a g gs q s wanted found).actor.problem ≡ a.problem
claims_problem words a g gs q s wanted zero = refl
claims_problem words a g gs q s wanted (suc found) = refl

probes_problem : (words : List ℕ) (a : Actor) (g : Gate) (gs : List Gate) (q : Probe) (move : Move) → (probes words a g gs q move).actor.problem ≡ a.problem
probes_problem words a g gs q (Load s) = refl
probes_problem words a g gs q (Claim s wanted) = claims_problem words a g gs q s wanted (word_at words s)
probes_problem words a g gs q (Found node) = refl
probes_problem words a g gs q Full = refl

pub moved_problem : (words : List ℕ) (a : Actor) (work : Work) → (moved words a work).actor.problem ≡ a.problem
moved_problem words a (Loading e es g gs) = refl
moved_problem words a (Probing g gs q) = probes_problem words a g gs q q.last
moved_problem words a (Walking e es) = refl
moved_problem words a (Searching m) = refl
moved_problem words a (Ended end) = refl

claims_size : (words : List ℕ) (a : Actor) (g : Gate) (gs : List Gate) (q : Probe) (s wanted found : ℕ) → length (claims words a g gs q s wanted found).words ≡ length words
claims_size words a g gs q s wanted zero = length-set words s wanted
claims_size words a g gs q s wanted (suc found) = refl

probes_size : (words : List ℕ) (a : Actor) (g : Gate) (gs : List Gate) (q : Probe) (move : Move) → length (probes words a g gs q move).words ≡ length words
probes_size words a g gs q (Load s) = refl
probes_size words a g gs q (Claim s wanted) = claims_size words a g gs q s wanted (word_at words s)
probes_size words a g gs q (Found node) = refl
probes_size words a g gs q Full = refl

moved_size : (words : List ℕ) (a : Actor) (work : Work) → length (moved words a work).words ≡ length words
moved_size words a (Loading e es g gs) = refl
moved_size words a (Probing g gs q) = probes_size words a g gs q q.last
moved_size words a (Walking e es) = refl
moved_size words a (Searching m) = refl
moved_size words a (Ended end) = refl

-- the problem of each goal, behind a change of one of them
put_problem : (actors : List Actor) (k : ℕ) (a : Actor) (g : ℕ) → a.problem ≡ (slice_index_or actors k nobody).problem → (slice_index_or (set actors k a) g nobody).problem ≡ (slice_index_or actors g nobody).problem
put_problem [] k a g e = refl
put_problem (x ∷ xs) zero a zero e = e
put_problem (x ∷ xs) zero a (suc g) e = refl
put_problem (x ∷ xs) (suc k) a zero e = refl
put_problem (x ∷ xs) (suc k) a (suc g) e = put_problem xs k a g e

-- what stays of a world
pub record Stays (old new : World) : Type 0 where
  pub size : length new.words ≡ length old.words
  pub budget : new.budget ≡ old.budget
  pub count : length new.actors ≡ length old.actors
  pub problems : (g : ℕ) → (actor_at new g).problem ≡ (actor_at old g).problem

stays_self : (w : World) → Stays w w
stays_self w = record { size = refl; budget = refl; count = refl; problems = λ g. refl }

put_stays : (w : World) (k : ℕ) (words : List ℕ) (a : Actor) → length words ≡ length w.words → a.problem ≡ (actor_at w k).problem → Stays w (put w k words a)
put_stays w k words a size e = record { size = size; budget = refl; count = length-set w.actors k a; problems = λ g. put_problem w.actors k a g e }

cancel_stays : (w : World) (g cause : ℕ) (b : Bool) → Stays w (if b then put_work w g (cut_off (CancelledBy cause) (actor_at w g).work) else w)
cancel_stays w g cause true = put_stays w g w.words (with_work (actor_at w g) (cut_off (CancelledBy cause) (actor_at w g).work)) refl refl
cancel_stays w g cause false = stays_self w

pub event_stays : (w : World) (e : Event) → Stays w (happens w e)
event_stays w (Step g) =
    let a : Actor = actor_at w g in
    put_stays w g (moved w.words a a.work).words (moved w.words a a.work).actor (moved_size w.words a a.work) (moved_problem w.words a a.work)
event_stays w (Turn g) = put_stays w g w.words (with_work (actor_at w g) (turned w.budget (actor_at w g).problem (actor_at w g).work)) refl refl
event_stays w (Cancel g cause) = cancel_stays w g cause (is_false (actor_at w cause).work)
event_stays w (Memory g) = put_stays w g w.words (with_work (actor_at w g) (cut_off OutOfMemory (actor_at w g).work)) refl refl

run_stays : (w : World) (events : List Event) → Stays w (run events w)
run_stays w [] = stays_self w
run_stays w (e ∷ es) =
    let a = event_stays w e in
    let b = run_stays (happens w e) es in
    record { size = b.size ∙ a.size; budget = b.budget ∙ a.budget; count = b.count ∙ a.count; problems = λ g. b.problems g ∙ a.problems g }

-- what is right of it
end_right : (w : World) (p : Problem) (end : End) → IsEnding (length w.words) w.budget w.words (IsFalseIn w) p end → IsEndOf w w.budget p end
end_right w p (Replied a) h = h
end_right w p OutOfMemory h = tt
end_right w p NoRoom h = h
end_right w p (CancelledBy c) h = h

work_right : (w : World) (p : Problem) (seen : List ℕ) (work : Work) → IsDoing (length w.words) w.budget w.words (IsFalseIn w) p seen work → IsWorkOf w w.budget p work
work_right w p seen (Loading e es g gs) h = tt
work_right w p seen (Probing g gs q) h = tt
work_right w p seen (Walking e es) h = tt
work_right w p seen (Searching m) h = tt
work_right w p seen (Ended end) h = end_right w p end h

views_right : (w : World) → IsGood w → (g : ℕ) → IsWithin (actor_at w g).seen w.words
views_right w good g = within_goals w g (IsWithin (actor_at w g).seen w.words) (λ l. (good.actors g l).within) (λ none past. subst (λ (a : Actor). IsWithin a.seen w.words) (sym none) (nothing_seen w.words))

pub stays_right : (problems : List Problem) (n budget : ℕ) (events : List Event) → 1 ≤ n → n ≤ 4000000 → AreScripted problems → IsRight problems n budget (run events (begun problems n budget))
stays_right problems n budget events some few scripted =
    let old : World = begun problems n budget in
    let w : World = run events old in
    let good : IsGood w = run_good old events (begun_good problems n budget some few scripted) in
    let stays : Stays old w = run_stays old events in
    let count : length w.actors ≡ length problems = stays.count ∙ length-map problems (begun_at n) in
    record {
      size = stays.size ∙ length-replicate n 0;
      sound = good.sound;
      views = views_right w good;
      count = count;
      ends = λ g l.
          let mine = good.actors g (subst (λ k. g < k) (sym count) l) in
          let own : (actor_at w g).problem ≡ problem_at problems g = stays.problems g ∙ ap (λ (a : Actor). a.problem) (mapped_at (begun_at n) problems g nobody.problem nobody l) in
          subst (λ b. IsWorkOf w b (problem_at problems g) (actor_at w g).work) stays.budget (subst (λ (p : Problem). IsWorkOf w w.budget p (actor_at w g).work) own (work_right w (actor_at w g).problem (actor_at w g).seen (actor_at w g).work mine.doing));
    }
