-- Keys of pairs.
use Rattle.std.proofs.Common.{◌≡◌, ◌<◌, ◌+◌, ◌*◌, ℕ, Bool, true, false, List, [], ◌∷◌, ◌++◌, refl, sym, ◌∙◌, ap, arith, length, length-append, slice_index_or, Some, None, nat_lt, cond, if◌then◌else◌}
use Rattle.std.proofs.lemmas.List.{get_or_push}
use Rattle.std.proofs.lemmas.Grind.{common_steps, elements}
use Rattle.gate_shape.specs.Literal.{Literal, literal_number}
use Rattle.std.specs.Ordering.{nat_cmp, ordering_then, is_eq}
use Rattle.std.specs.declared.cmp.Ordering.{Ordering}
use Rattle.std.specs.declared.cmp.Ordering.TheVariants.{Less, Equal, Greater}
use Rattle.std.specs.BTreeMap.{BTreeMap, get}
use Rattle.gate_shape.specs.declared.gates.Entry.{Entry}
use Rattle.gate_shape.specs.Filed.{AreFiled, compared, key_of, entry_key}

bit : Bool → ℕ
bit b = if b then 1 else 0

literal_eta : (a b : Literal) → a.node ≡ b.node → a.sign ≡ b.sign → a ≡ b
literal_eta a b p q = ap (λ n. record { node = n; sign = a.sign }) p ∙ ap (λ s. record { node = b.node; sign = s }) q

-- a literal is its number
pub one_number : (a b : Literal) → literal_number a ≡ literal_number b → a ≡ b
one_number a b h = go a.node b.node a.sign refl b.sign refl h
  where
    go : (m n : ℕ) (s : Bool) → a.sign ≡ s → (t : Bool) → b.sign ≡ t → 2 * a.node + (if a.sign then 1 else 0) ≡ 2 * b.node + (if b.sign then 1 else 0) → a ≡ b
    go m n true p true q h = literal_eta a b (let z = rw (p, q) at h in omega (arith, z)) (p ∙ sym q)
    go m n false p false q h = literal_eta a b (let z = rw (p, q) at h in omega (arith, z)) (p ∙ sym q)
    go m n true p false q h = let z = rw (p, q) at h in absurd (omega (arith, z))
    go m n false p true q h = let z = rw (p, q) at h in absurd (omega (arith, z))

tie_after : (x y : Ordering) → is_eq (ordering_then x y) ≡ true → (is_eq x ≡ true) × (is_eq y ≡ true)
tie_after Less y h = absurd (cc)
tie_after Equal y h = (refl, h)
tie_after Greater y h = absurd (cc)

tie_both : (x y : Ordering) → is_eq x ≡ true → is_eq y ≡ true → is_eq (ordering_then x y) ≡ true
tie_both Less y h g = absurd (cc)
tie_both Equal y h g = g
tie_both Greater y h g = absurd (cc)

tie : (a b : ℕ) → is_eq (nat_cmp a b) ≡ true → a ≡ b
tie a b h = grind (arith, common_steps)

tie_self : (a : ℕ) → is_eq (nat_cmp a a) ≡ true
tie_self a = grind (arith, common_steps)

pub same_key : (a b : ℕ × ℕ) → is_eq (compared a b) ≡ true → a ≡ b
same_key a b h =
    let p = tie_after (nat_cmp a.0 b.0) (nat_cmp a.1 b.1) h in
    ap (λ z. (z, a.1)) (tie a.0 b.0 p.0) ∙ ap (λ z. (b.0, z)) (tie a.1 b.1 p.1)

pub key_self : (a : ℕ × ℕ) → is_eq (compared a a) ≡ true
key_self a = tie_both (nat_cmp a.0 a.0) (nat_cmp a.1 a.1) (tie_self a.0) (tie_self a.1)

pub filed_there : (places : BTreeMap (ℕ × ℕ) ℕ) (es : List Entry) (l r : Literal) (s : ℕ) → AreFiled places es → get compared places (key_of l r) ≡ Some s → (s < length es) × ((d : Entry) → ((slice_index_or es s d).left ≡ l) × ((slice_index_or es s d).right ≡ r))
filed_there places es l r s f h = (
  (f.only (key_of l r) s record { left = l; right = r; level = 0 } h).0,
  λ d. let e = (f.only (key_of l r) s d h).1 in (one_number _ _ (sym (ap (λ p. p.0) e)), one_number _ _ (sym (ap (λ p. p.1) e))),
)

pub filed_nowhere : (places : BTreeMap (ℕ × ℕ) ℕ) (es : List Entry) (l r : Literal) → AreFiled places es → get compared places (key_of l r) ≡ None → (k : ℕ) (d : Entry) → k < length es → (slice_index_or es k d).left ≡ l → (slice_index_or es k d).right ≡ r → ⊥
filed_nowhere places es l r f h k d n p q =
    let t : get compared places (key_of l r) ≡ Some k = rw (p, q) at (f.there k d n) in
    none_some (sym h ∙ t)
  where
    none_some : {x : ℕ} → None ≡ Some x → ⊥
    none_some e = cc

pub filed_same : (places more : BTreeMap (ℕ × ℕ) ℕ) (es : List Entry) → AreFiled places es → more.entries ≡ places.entries → AreFiled more es
filed_same places more es f e = record { there = λ k d n. rw e (f.there k d n); only = λ p v d h. f.only p v d (rw e at h) }

by_bool : (b : Bool) {P : Type 0} → (b ≡ true → P) → (b ≡ false → P) → P
by_bool true f g = f refl
by_bool false f g = g refl

some_same : {x y : ℕ} → Some x ≡ Some y → x ≡ y
some_same e = cc

pub filed_push : (places more : BTreeMap (ℕ × ℕ) ℕ) (es : List Entry) (e : Entry) (at : ℕ) → AreFiled places es → at ≡ length es → ((k : ℕ) (d : Entry) → k < length es → (slice_index_or es k d).left ≡ e.left → (slice_index_or es k d).right ≡ e.right → ⊥) → ((q : ℕ × ℕ) → get compared more q ≡ cond (is_eq (compared (entry_key e) q)) (Some at) (get compared places q)) → AreFiled more (es ++ e ∷ [])
filed_push places more es e at f a new u = record {
  there = λ k d n. by_bool (nat_lt k (length es))
      (λ h.
      let l : k < length es = grind (arith, common_steps) in
      let x : slice_index_or (es ++ e ∷ []) k d ≡ slice_index_or es k d = grind (arith, common_steps, elements) in
      let apart : is_eq (compared (entry_key e) (entry_key (slice_index_or es k d))) ≡ false = by_bool (is_eq (compared (entry_key e) (entry_key (slice_index_or es k d)))) (λ s. let z = same_key _ _ s in absurd (new k d l (one_number _ _ (sym (ap (λ p. p.0) z))) (one_number _ _ (sym (ap (λ p. p.1) z))))) (λ s. s) in
      rw x (u (entry_key (slice_index_or es k d)) ∙ rw apart (f.there k d l)))
      (λ h.
      let m = rw length-append at n in
      let z : k ≡ length es = grind (arith, common_steps) in
      let x : slice_index_or (es ++ e ∷ []) k d ≡ e = get_or_push es e d k (sym z) in
      rw x (u (entry_key e) ∙ rw (key_self (entry_key e)) (ap (λ i. Some i) (a ∙ sym z))));
  only = λ p v d h. by_bool (is_eq (compared (entry_key e) p))
      (λ s.
      let z : v ≡ length es = some_same (sym h ∙ (u p ∙ rw s refl)) ∙ a in
      let x : slice_index_or (es ++ e ∷ []) v d ≡ e = get_or_push es e d v (sym z) in
      (simp length-append (omega (arith, z)), rw x (sym (same_key _ _ s))))
      (λ s.
      let g : get compared places p ≡ Some v = sym (u p ∙ rw s refl) ∙ h in
      let r = f.only p v d g in
      let l : v < length es = r.0 in
      let x : slice_index_or (es ++ e ∷ []) v d ≡ slice_index_or es v d = grind (arith, common_steps, elements) in
      (simp length-append (omega (arith, l)), rw x r.1));
}
