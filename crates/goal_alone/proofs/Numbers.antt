-- Numbers from bits, the top bit first, and the values of variables.
use Rattle.std.proofs.Common.{◌≡◌, ℕ, zero, suc, ◌+◌, ◌-◌, ◌*◌, ◌^◌, ◌%◌, ◌<◌, ◌≤◌, Bool, List, [], ◌∷◌, ◌++◌, map, length, take, get_or, refl, sym, ◌∙◌, ap, ap₂, subst, arith}
use Rattle.std.specs.Prelude.{All, IsTrue}
use Rattle.std.specs.List.{range_with_len}
use Rattle.std.proofs.lemmas.List.{take_more, length-take-le}
use Rattle.std.proofs.Math.Nat.{mod-eq_of_lt, pow-le-pow_right}
use Rattle.bv_value.specs.Bits.{bit_number, number_of}
use Rattle.bv_value.specs.BitVector.{of_number}
use Rattle.bv_expr.specs.declared.ops.Sort.{Sort}
use Rattle.bv_expr.specs.declared.ops.Sort.TheVariants as sort
use Rattle.bv_expr.specs.declared.ops.Val.TheVariants.{Truth, Vector}
use Rattle.bv_expr.specs.Goal.{Binders, is_sort}
use Rattle.blast_goal.specs.Values.{value_with, values_from, values_of}
use Rattle.blast_goal.proofs.Reading.{bits_below}

-- the bits from one on, up to the width
abbrev pub upper : (ℕ → Bool) → ℕ → ℕ → ℕ
upper f w b = number_of (map f (range_with_len b (w - b)))

pub none_upper : (f : ℕ → Bool) (w : ℕ) → 0 ≡ upper f w w
none_upper f w = let e : w - w ≡ 0 = omega arith in rw e refl

pub next_upper : (f : ℕ → Bool) (w b c n : ℕ) → b ≡ c + 1 → b ≤ w → n ≡ upper f w b → bit_number (f c) + 2 * n ≡ upper f w c
next_upper f w b c n e l is =
    let many : w - c ≡ suc (w - b) = omega arith in
    rw (many, is, e) refl

pub whole_upper : (f : ℕ → Bool) (w b : ℕ) → b ≡ 0 → upper f w b ≡ number_of (map f (range_with_len 0 w))
whole_upper f w b e = let many : w - 0 ≡ w = omega arith in rw (e, many) refl

half_power : (b w : ℕ) → 0 < b → w ≤ 128 → 2 ^ (w - b) ≤ 170141183460469231731687303715884105728
half_power b w p l = pow-le-pow_right {n = 2} (omega arith) {i = w - b} {j = 127} (omega arith)

shift_range : (f : ℕ → Bool) (b n : ℕ) → map f (range_with_len b n) ≡ map (λ j. f (b + j)) (range_with_len 0 n)
shift_range f b n = go b 0 n (omega arith)
  where
    go : (a c n : ℕ) → a ≡ b + c → map f (range_with_len a n) ≡ map (λ j. f (b + j)) (range_with_len c n)
    go a c zero e = refl
    go a c (suc n) e = ap₂ (λ x xs. x ∷ xs) (ap f e) (go (a + 1) (c + 1) n (omega arith))

pub upper_below : (f : ℕ → Bool) (w b n : ℕ) → 0 < b → w ≤ 128 → n ≡ upper f w b → n < 170141183460469231731687303715884105728
upper_below f w b n p l is =
    let low = bits_below (λ j. f (b + j)) (w - b) in
    let same : n ≡ number_of (map (λ j. f (b + j)) (range_with_len 0 (w - b))) = is ∙ ap number_of (shift_range f b (w - b)) in
    let high = half_power b w p l in
    omega arith

-- a number of so many bits is the vector's
pub vector_of : (f : ℕ → Bool) (w n : ℕ) → n ≡ number_of (map f (range_with_len 0 w)) → Vector (of_number w n) ≡ value_with (sort.Vector w) f
vector_of f w n is =
    let low : n < 2 ^ w = rw is (bits_below f w) in
    let same : n % 2 ^ w ≡ number_of (map f (range_with_len 0 w)) = mod-eq_of_lt low ∙ is in
    ap (λ m. Vector (record { width = w; number = m })) same

-- values of variables by the same bits
map_same : (f g : ℕ → Bool) → ((j : ℕ) → f j ≡ g j) → (js : List ℕ) → map f js ≡ map g js
map_same f g h [] = refl
map_same f g h (j ∷ js) = ap₂ (λ b bs. b ∷ bs) (h j) (map_same f g h js)

value_same : (s : Sort) (f g : ℕ → Bool) → ((j : ℕ) → f j ≡ g j) → value_with s f ≡ value_with s g
value_same sort.Truth f g h = ap Truth (h 0)
value_same (sort.Vector w) f g h = ap (λ bs. Vector (record { width = w; number = number_of bs })) (map_same f g h (range_with_len 0 w))

pub values_same : (m : ℕ) (binders : Binders) (f g : ℕ → ℕ → Bool) → ((k j : ℕ) → f k j ≡ g k j) → values_from m binders f ≡ values_from m binders g
values_same m [] f g h = refl
values_same m (b ∷ bs) f g h = ap₂ (λ v vs. v ∷ vs) (value_same b.1 (f m) (g m) (h m)) (values_same (m + 1) bs f g h)

values_last : (m : ℕ) (bs : Binders) (b : List ℕ × Sort) (f : ℕ → ℕ → Bool) → values_from m (bs ++ b ∷ []) f ≡ values_from m bs f ++ value_with b.1 (f (length bs + m)) ∷ []
values_last m [] b f = let e : 0 + m ≡ m = omega arith in rw e refl
values_last m (x ∷ xs) b f =
    let e : suc (length xs) + m ≡ length xs + (m + 1) = omega arith in
    rw e (ap (λ vs. value_with x.1 (f m) ∷ vs) (values_last (m + 1) xs b f))

-- one variable more
pub values_more : (bs : Binders) (i : ℕ) (b : List ℕ × Sort) (f : ℕ → ℕ → Bool) → i < length bs → b ≡ get_or bs i b
    → values_of (take i bs) f ++ value_with b.1 (f i) ∷ [] ≡ values_of (take (i + 1) bs) f
values_more bs i b f l e =
    let one : take (i + 1) bs ≡ take i bs ++ b ∷ [] = take_more bs i b l ∙ ap (λ x. take i bs ++ x ∷ []) (sym e) in
    let n : length (take i bs) ≡ i = length-take-le i bs (omega arith) in
    let k : length (take i bs) + 0 ≡ i = omega arith in
    sym (ap (λ xs. values_of xs f) one ∙ (values_last 0 (take i bs) b f ∙ ap (λ m. values_of (take i bs) f ++ value_with b.1 (f m) ∷ []) k))

pub sort_at : (bs : Binders) (i : ℕ) (b : List ℕ × Sort) → All (λ x. IsTrue (is_sort x.1)) bs → i < length bs → b ≡ get_or bs i b → IsTrue (is_sort b.1)
sort_at bs i b h l e = let P : List ℕ × Sort → Type 0 = λ x. IsTrue (is_sort x.1) in subst P (sym e) (h i b l)
