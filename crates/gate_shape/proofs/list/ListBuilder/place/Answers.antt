use Rattle.std.proofs.Common.{◌≡◌, ◌<◌, ℕ, length, map, arith, slice_index_or, sym, ◌∙◌, ap, List, [], ◌∷◌, ◌++◌}
use Rattle.std.proofs.lemmas.List.{length-map, get_or-map, map-append}
use Rattle.gate_shape.specs.Literal.{Literal}
use Rattle.gate_shape.specs.Builds.{Known}
use Rattle.gate_shape.specs.Listed.{listed}
use Rattle.gate_shape.specs.declared.gates.Entry.{Entry}
use Rattle.gate_shape.proofs.Listing.{place_found, place_full, place_new, no_room, has_room, found_at, listed_more, not_deep}
use Rattle.gate_shape.proofs.Conjoining.{conjoined_ok, conjoined_full, conjoined_memory}
use Rattle.gate_shape.proofs.list.ListBuilder.place.Goals as goal

-- the pair of an entry
abbrev pair_of : Entry → Literal × Literal
pair_of e = (e.left, e.right)

-- a list that has no such entry has no such pair
no_pair : (items : List Entry) (left right : Literal) → ((k : ℕ) (d : Entry) → k < length items → (slice_index_or items k d).left ≡ left → (slice_index_or items k d).right ≡ right → ⊥) → (s : ℕ) (d : Literal × Literal) → s < length (map pair_of items) → slice_index_or (map pair_of items) s d ≡ (left, right) → ⊥
no_pair items left right h s d l e =
    let z : Entry = record { left = left; right = right; level = 0 } in
    let n = rw length-map at l in
    let q : pair_of (slice_index_or items s z) ≡ (left, right) = sym (get_or-map pair_of items s z d n) ∙ e in
    h s z n (ap (λ p. p.0) q) (ap (λ p. p.1) q)

-- an entry at a place, as a pair
pair_there : (items : List Entry) (left right : Literal) (s : ℕ) → s < length items → ((d : Entry) → ((slice_index_or items s d).left ≡ left) × ((slice_index_or items s d).right ≡ right)) → (d : Literal × Literal) → slice_index_or (map pair_of items) s d ≡ (left, right)
pair_there items left right s l h d =
    let z : Entry = record { left = left; right = right; level = 0 } in
    get_or-map pair_of items s z d l ∙ (ap (λ p. (p, (slice_index_or items s z).right)) (h z).0 ∙ ap (λ p. (left, p)) (h z).1)

pub returns-then-at-self : goal.returns-then-at-self
returns-then-at-self c =
    let kl : Known (listed _) c.args.left = rw (sym c.self.view_is) at c.requires.left_known in
    let kr : Known (listed _) c.args.right = rw (sym c.self.view_is) at c.requires.right_known in
    let w = rw length-map at c.self.invariant.within in
    let full : length c.self.inside.gates ≡ c.self.inside.limit = omega arith in
    let no = no_pair c.self.inside.gates c.args.left c.args.right c.in-None.ensures.nowhere in
    let cause = no_room _ _ _ c.self.invariant c.args.left c.args.right kl kr (not_deep _ (rw (sym c.self.view_is) at c.requires.level_right) c.requires.level_small) (rw length-map full) no in
    rw (sym c.self.view_is) (conjoined_full _ _ cause (place_full _ _ _ c.self.invariant c.args.left c.args.right kl kr cause))

pub returns-in-Some : goal.returns-in-Some
returns-in-Some c =
    let kl : Known (listed _) c.args.left = rw (sym c.self.view_is) at c.requires.left_known in
    let kr : Known (listed _) c.args.right = rw (sym c.self.view_is) at c.requires.right_known in
    let fit = not_deep _ (rw (sym c.self.view_is) at c.requires.level_right) c.requires.level_small in
    let t = c.in-Some.ensures.there in
    let at = pair_there c.self.inside.gates c.args.left c.args.right c.in-Some.at t.0 t.1 in
    let n : c.in-Some.at < length (map pair_of c.self.inside.gates) = rw length-map t.0 in
    let f = found_at _ _ _ c.self.invariant c.args.left c.args.right kl kr c.in-Some.at n at in
    rw (sym c.self.view_is, c.new.ensures) (conjoined_ok _ _ _ _ fit (λ cause. cause.1 (c.in-Some.at, f.0, f.1)) (place_found _ _ _ c.self.invariant c.args.left c.args.right kl kr fit c.in-Some.at n at))

-- the pairs and the levels after a push
pairs_pushed : (items more : List Entry) (e : Entry) → more ≡ items ++ e ∷ [] → map pair_of more ≡ map pair_of items ++ pair_of e ∷ []
pairs_pushed items more e q = ap (λ z. map pair_of z) q ∙ map-append pair_of items (e ∷ [])

levels_pushed : (items more : List Entry) (e : Entry) → more ≡ items ++ e ∷ [] → map (λ x. x.level) more ≡ map (λ x. x.level) items ++ e.level ∷ []
levels_pushed items more e q = ap (λ z. map (λ x. x.level) z) q ∙ map-append (λ x. x.level) items (e ∷ [])

as_long : (items : List Entry) → length (map (λ x. x.level) items) ≡ length (map pair_of items)
as_long items = length-map items (λ x. x.level) ∙ sym (length-map items pair_of)

pub invariant_of-self-in-None : goal.invariant_of-self-in-None
invariant_of-self-in-None c =
    let kl : Known (listed _) c.args.left = rw (sym c.self.view_is) at c.requires.left_known in
    let kr : Known (listed _) c.args.right = rw (sym c.self.view_is) at c.requires.right_known in
    let items = c.self.inside.gates in
    let room : length items < c.self.inside.limit = omega arith in
    let no = no_pair items c.args.left c.args.right c.in-None.ensures.nowhere in
    let lv = rw (sym c.self.view_is) at c.requires.level_right in
    let more = listed_more _ _ _ c.self.invariant c.args.left c.args.right kl kr c.args.level (as_long items) (rw length-map room) lv c.requires.level_small no in
    rw (pairs_pushed items c.push.new.self _ c.in_ok-push-in-None.ensures.ok, levels_pushed items c.push.new.self _ c.in_ok-push-in-None.ensures.ok) more

pub returns-in_ok-push-in-None : goal.returns-in_ok-push-in-None
returns-in_ok-push-in-None c =
    let kl : Known (listed _) c.args.left = rw (sym c.self.view_is) at c.requires.left_known in
    let kr : Known (listed _) c.args.right = rw (sym c.self.view_is) at c.requires.right_known in
    let fit = not_deep _ (rw (sym c.self.view_is) at c.requires.level_right) c.requires.level_small in
    let items = c.self.inside.gates in
    let no = no_pair items c.args.left c.args.right c.in-None.ensures.nowhere in
    let room : length items < c.self.inside.limit = omega arith in
    let q = conjoined_ok _ _ _ _ fit (has_room _ _ _ c.self.invariant c.args.left c.args.right kl kr (rw length-map room)) (place_new _ _ _ c.self.invariant c.args.left c.args.right kl kr fit no) in
    rw (sym c.self.view_is, c.new-in-None.ensures, c.len-at.ensures, pairs_pushed items c.push.new.self _ c.in_ok-push-in-None.ensures.ok) (rw length-map at q)

pub returns-in_err-push-in-None : goal.returns-in_err-push-in-None
returns-in_err-push-in-None c =
    let kl : Known (listed _) c.args.left = rw (sym c.self.view_is) at c.requires.left_known in
    let kr : Known (listed _) c.args.right = rw (sym c.self.view_is) at c.requires.right_known in
    let fit = not_deep _ (rw (sym c.self.view_is) at c.requires.level_right) c.requires.level_small in
    let room : length c.self.inside.gates < c.self.inside.limit = omega arith in
    rw (sym c.self.view_is, c.in_err-push-in-None.ensures.err) (conjoined_memory _ _ _ _ fit (has_room _ _ _ c.self.invariant c.args.left c.args.right kl kr (rw length-map room)) c.from_residual.ensures.1)
