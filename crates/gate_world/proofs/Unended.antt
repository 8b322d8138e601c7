-- The list of the goals that haven't ended: one goal at a time, and when one of them is given other work.
use Rattle.std.proofs.Common.{◌≡◌, ◌≢◌, ℕ, zero, suc, ◌+◌, ◌<◌, ◌≤◌, Bool, true, false, List, [], ◌∷◌, ◌++◌, length, set, take, drop, slice_index_or, All, refl, sym, ap, ◌∙◌, subst, arith, append_assoc, append-nil, if◌then◌else◌}
use Rattle.std.proofs.lemmas.List.{drop_all}
use Rattle.std.proofs.lemmas.List.Elements.{All-nil, All-cons}
use Rattle.gate_world.specs.Work.{Work, Loading, Probing, Walking, Searching, Ended}
use Rattle.gate_world.specs.World.{Actor, World, actor_at, nobody}
use Rattle.gate_world.specs.Bound.{takes_turns}
use Rattle.gate_world.specs.Drawn.{has_ended, unended_from, unended}
use Rattle.gate_world.specs.Shown.{phase_of}
use Rattle.gate_world.specs.declared.event.Phase.TheVariants as phase

-- ---- phases

pub ended_of_phase : (work : Work) → phase_of work ≡ phase.Ended → has_ended work ≡ true
ended_of_phase (Loading e es g gs) h = absurd (cc)
ended_of_phase (Probing g gs q) h = absurd (cc)
ended_of_phase (Walking e es) h = absurd (cc)
ended_of_phase (Searching m) h = absurd (cc)
ended_of_phase (Ended end) h = refl

pub going_of_phase : (work : Work) → phase_of work ≢ phase.Ended → has_ended work ≡ false
going_of_phase (Loading e es g gs) h = refl
going_of_phase (Probing g gs q) h = refl
going_of_phase (Walking e es) h = refl
going_of_phase (Searching m) h = refl
going_of_phase (Ended end) h = absurd (h refl)

pub phase_of_ended : (work : Work) → has_ended work ≡ true → phase_of work ≡ phase.Ended
phase_of_ended (Loading e es g gs) h = absurd (cc)
phase_of_ended (Probing g gs q) h = absurd (cc)
phase_of_ended (Walking e es) h = absurd (cc)
phase_of_ended (Searching m) h = absurd (cc)
phase_of_ended (Ended end) h = refl

pub turns_of_phase : (work : Work) → phase_of work ≡ phase.Searching → takes_turns work ≡ true
turns_of_phase (Loading e es g gs) h = absurd (cc)
turns_of_phase (Probing g gs q) h = absurd (cc)
turns_of_phase (Walking e es) h = absurd (cc)
turns_of_phase (Searching m) h = refl
turns_of_phase (Ended end) h = absurd (cc)

pub no_turns_of_phase : (work : Work) → phase_of work ≢ phase.Searching → takes_turns work ≡ false
no_turns_of_phase (Loading e es g gs) h = refl
no_turns_of_phase (Probing g gs q) h = refl
no_turns_of_phase (Walking e es) h = refl
no_turns_of_phase (Searching m) h = absurd (h refl)
no_turns_of_phase (Ended end) h = refl

-- ---- the list, goal by goal

pub unended_past : (base : ℕ) (a : Actor) (more : List Actor) → has_ended a.work ≡ true → unended_from base (a ∷ more) ≡ unended_from (base + 1) more
unended_past base a more e = ap (λ b. if b then unended_from (base + 1) more else base ∷ unended_from (base + 1) more) e

pub unended_here : (base : ℕ) (a : Actor) (more : List Actor) → has_ended a.work ≡ false → unended_from base (a ∷ more) ≡ base ∷ unended_from (base + 1) more
unended_here base a more e = ap (λ b. if b then unended_from (base + 1) more else base ∷ unended_from (base + 1) more) e

by_end : (a : Actor) {P : Type 0} → (has_ended a.work ≡ true → P) → (has_ended a.work ≡ false → P) → P
by_end a {P} f g = go (has_ended a.work) refl
  where
    go : (b : Bool) → has_ended a.work ≡ b → P
    go true e = f e
    go false e = g e

-- from index i on
pub unended_step_past : (i : ℕ) (actors : List Actor) → i < length actors → has_ended (slice_index_or actors i nobody).work ≡ true → (base : ℕ) → unended_from base (drop i actors) ≡ unended_from (base + 1) (drop (suc i) actors)
unended_step_past i [] l e base = absurd (omega arith)
unended_step_past zero (a ∷ more) l e base = unended_past base a more e
unended_step_past (suc i) (a ∷ more) l e base = unended_step_past i more (omega arith) e base

pub unended_step_here : (i : ℕ) (actors : List Actor) → i < length actors → has_ended (slice_index_or actors i nobody).work ≡ false → (base : ℕ) → unended_from base (drop i actors) ≡ base ∷ unended_from (base + 1) (drop (suc i) actors)
unended_step_here i [] l e base = absurd (omega arith)
unended_step_here zero (a ∷ more) l e base = unended_here base a more e
unended_step_here (suc i) (a ∷ more) l e base = unended_step_here i more (omega arith) e base

-- behind the goal at an index
pub passed_ended : (w : World) (i : ℕ) (xs : List ℕ) → i < length w.actors → unended w ≡ xs ++ unended_from i (drop i w.actors) → has_ended (actor_at w i).work ≡ true → unended w ≡ xs ++ unended_from (i + 1) (drop (i + 1) w.actors)
passed_ended w i xs l h e =
    let one : suc i ≡ i + 1 = omega arith in
    h ∙ ap (λ ys. xs ++ ys) (unended_step_past i w.actors l e i ∙ ap (λ k. unended_from (i + 1) (drop k w.actors)) one)

pub passed_going : (w : World) (i : ℕ) (xs ys : List ℕ) → i < length w.actors → unended w ≡ xs ++ unended_from i (drop i w.actors) → has_ended (actor_at w i).work ≡ false → ys ≡ xs ++ (i ∷ []) → unended w ≡ ys ++ unended_from (i + 1) (drop (i + 1) w.actors)
passed_going w i xs ys l h e is =
    let one : suc i ≡ i + 1 = omega arith in
    let rest : List ℕ = unended_from (i + 1) (drop (i + 1) w.actors) in
    h ∙ ap (λ zs. xs ++ zs) (unended_step_here i w.actors l e i ∙ ap (λ k. i ∷ unended_from (i + 1) (drop k w.actors)) one)
    ∙ sym (append_assoc xs (i ∷ []) rest) ∙ ap (λ zs. zs ++ rest) (sym is)

pub passed_all : (w : World) (i : ℕ) (xs : List ℕ) → length w.actors ≤ i → unended w ≡ xs ++ unended_from i (drop i w.actors) → xs ≡ unended w
passed_all w i xs l h = sym (h ∙ ap (λ more. xs ++ unended_from i more) (drop_all i w.actors l) ∙ append-nil xs)

-- where none is left, all have ended
pub all_ended : (base : ℕ) (actors : List Actor) → unended_from base actors ≡ [] → All (λ a. phase_of a.work ≡ phase.Ended) actors
all_ended base [] h = All-nil (λ a. phase_of a.work ≡ phase.Ended)
all_ended base (a ∷ more) h = by_end a
    (λ e. All-cons (λ a. phase_of a.work ≡ phase.Ended) a more (phase_of_ended a.work e) (all_ended (base + 1) more (sym (unended_past base a more e) ∙ h)))
    (λ e. absurd (cc (sym (unended_here base a more e) ∙ h)))

-- ---- the goal at an index of the list

pub record IsPicked (base at : ℕ) (actors : List Actor) (xs : List ℕ) : Type 0 where
  pub index : ℕ
  pub is : slice_index_or xs at 0 ≡ base + index
  pub inside : index < length actors
  pub going : has_ended (slice_index_or actors index nobody).work ≡ false
  pub stays : (a : Actor) → has_ended a.work ≡ false → unended_from base (set actors index a) ≡ xs
  pub goes : (a : Actor) → has_ended a.work ≡ true → unended_from base (set actors index a) ≡ take at xs ++ drop (suc at) xs

pick_past : (base at : ℕ) (x : Actor) (more : List Actor) (xs : List ℕ) → has_ended x.work ≡ true → IsPicked (base + 1) at more xs → IsPicked base at (x ∷ more) xs
pick_past base at x more xs e p = record {
  index = suc p.index;
  is = (let q = p.is in omega arith);
  inside = (let q = p.inside in omega arith);
  going = p.going;
  stays = λ a h. unended_past base x (set more p.index a) e ∙ p.stays a h;
  goes = λ a h. unended_past base x (set more p.index a) e ∙ p.goes a h;
}

pick_first : (base : ℕ) (x : Actor) (more : List Actor) → has_ended x.work ≡ false → IsPicked base zero (x ∷ more) (base ∷ unended_from (base + 1) more)
pick_first base x more e = record {
  index = zero;
  is = omega arith;
  inside = omega arith;
  going = e;
  stays = λ a h. unended_here base a more h;
  goes = λ a h. unended_past base a more h;
}

pick_later : (base at : ℕ) (x : Actor) (more : List Actor) (xs : List ℕ) → has_ended x.work ≡ false → IsPicked (base + 1) at more xs → IsPicked base (suc at) (x ∷ more) (base ∷ xs)
pick_later base at x more xs e p = record {
  index = suc p.index;
  is = (let q = p.is in omega arith);
  inside = (let q = p.inside in omega arith);
  going = p.going;
  stays = λ a h. unended_here base x (set more p.index a) e ∙ ap (λ ys. base ∷ ys) (p.stays a h);
  goes = λ a h. unended_here base x (set more p.index a) e ∙ ap (λ ys. base ∷ ys) (p.goes a h);
}

pub pick : (base at : ℕ) (actors : List Actor) (xs : List ℕ) → xs ≡ unended_from base actors → at < length xs → IsPicked base at actors xs
pick base at [] xs is l = absurd (omega (arith, ap (length {A = ℕ}) is))
pick base zero (x ∷ more) xs is l = by_end x
    (λ e. pick_past base zero x more xs e (pick (base + 1) zero more xs (is ∙ unended_past base x more e) l))
    (λ e. subst (IsPicked base zero (x ∷ more)) (sym (is ∙ unended_here base x more e)) (pick_first base x more e))
pick base (suc at) (x ∷ more) xs is l = by_end x
    (λ e. pick_past base (suc at) x more xs e (pick (base + 1) (suc at) more xs (is ∙ unended_past base x more e) l))
    (λ e.
    let same : xs ≡ base ∷ unended_from (base + 1) more = is ∙ unended_here base x more e in
    let l' : at < length (unended_from (base + 1) more) = omega (arith, ap (length {A = ℕ}) same) in
    subst (IsPicked base (suc at) (x ∷ more)) (sym same) (pick_later base at x more (unended_from (base + 1) more) e (pick (base + 1) at more (unended_from (base + 1) more) refl l')))
