-- A word is its level and its two literals.
use Rattle.std.proofs.Common.{◌≡◌, ◌≢◌, ℕ, ◌+◌, ◌*◌, ◌/◌, ◌%◌, ◌<◌, Bool, true, false, sym, refl, ap, ap₂, ◌∙◌, arith, nat_eq, if◌then◌else◌}
use Rattle.std.proofs.Math.Nat.{mod-add-div, div-div-eq-div-mul}
use Rattle.std.proofs.lemmas.Grind.{common_steps}
use Rattle.gate_shape.specs.Literal.{Literal, literal_number, number_literal}
use Rattle.gate_shape.specs.Word.{gate_word}
use Rattle.gate_probe.specs.Words.{level_of, left_of, right_of}

pub literal_parts : (a b : Literal) → a.node ≡ b.node → a.sign ≡ b.sign → a ≡ b
literal_parts a b n s = λ i. record { node = n i; sign = s i }

-- a number is that of its literal, and a literal that of its number
pub number_same : (a b : ℕ) → number_literal a ≡ number_literal b → a ≡ b
number_same a b e =
    let n : a / 2 ≡ b / 2 = ap (λ l. l.node) e in
    let s : nat_eq (a % 2) 1 ≡ nat_eq (b % 2) 1 = ap (λ l. l.sign) e in
    grind (arith, common_steps)

pub literal_back : (l : Literal) → number_literal (literal_number l) ≡ l
literal_back l = literal_parts _ _ (node l.node l.sign) (sign l.node l.sign)
  where
    node : (n : ℕ) (s : Bool) → (2 * n + (if s then 1 else 0)) / 2 ≡ n
    node n true = omega arith
    node n false = omega arith

    sign : (n : ℕ) (s : Bool) → nat_eq ((2 * n + (if s then 1 else 0)) % 2) 1 ≡ s
    sign n true = let e : (2 * n + 1) % 2 ≡ 1 = omega arith in rw e refl
    sign n false = let e : (2 * n + 0) % 2 ≡ 0 = omega arith in rw e refl

pub word_parts : (a b : ℕ) → level_of a ≡ level_of b → left_of a ≡ left_of b → right_of a ≡ right_of b → a ≡ b
word_parts a b l m r =
    let x = number_same (a / 8388608 % 8388608) (b / 8388608 % 8388608) m in
    let y = number_same (a % 8388608) (b % 8388608) r in
    let q : a / 8388608 / 8388608 ≡ b / 8388608 / 8388608 = div-div-eq-div-mul a 8388608 8388608 ∙ l ∙ sym (div-div-eq-div-mul b 8388608 8388608) in
    let h : a / 8388608 ≡ b / 8388608 = sym (mod-add-div (a / 8388608) 8388608) ∙ ap₂ (λ x y. x + 8388608 * y) x q ∙ mod-add-div (b / 8388608) 8388608 in
    sym (mod-add-div a 8388608) ∙ ap₂ (λ x y. x + 8388608 * y) y h ∙ mod-add-div b 8388608

small : (l : Literal) → l.node < 4194304 → literal_number l < 8388608
small l h = go l.sign
  where
    go : (s : Bool) → 2 * l.node + (if s then 1 else 0) < 8388608
    go true = omega arith
    go false = omega arith

pub level_packed : (l : ℕ) (a b : Literal) → a.node < 4194304 → b.node < 4194304 → level_of (gate_word l a b) ≡ l
level_packed l a b p q = go (literal_number a) (literal_number b) (small a p) (small b q)
  where
    go : (x y : ℕ) → x < 8388608 → y < 8388608 → (l * 70368744177664 + x * 8388608 + y) / 70368744177664 ≡ l
    go x y u v = omega arith

pub left_packed : (l : ℕ) (a b : Literal) → a.node < 4194304 → b.node < 4194304 → left_of (gate_word l a b) ≡ a
left_packed l a b p q = ap number_literal (go (literal_number a) (literal_number b) (small a p) (small b q)) ∙ literal_back a
  where
    go : (x y : ℕ) → x < 8388608 → y < 8388608 → (l * 70368744177664 + x * 8388608 + y) / 8388608 % 8388608 ≡ x
    go x y u v = omega arith

pub right_packed : (l : ℕ) (a b : Literal) → a.node < 4194304 → b.node < 4194304 → right_of (gate_word l a b) ≡ b
right_packed l a b p q = ap number_literal (go (literal_number a) (literal_number b) (small a p) (small b q)) ∙ literal_back b
  where
    go : (x y : ℕ) → x < 8388608 → y < 8388608 → (l * 70368744177664 + x * 8388608 + y) % 8388608 ≡ y
    go x y u v = omega arith

-- a word is that of its parts
number_back : (n : ℕ) → literal_number (number_literal n) ≡ n
number_back n = go (nat_eq (n % 2) 1) refl
  where
    go : (t : Bool) → nat_eq (n % 2) 1 ≡ t → 2 * (n / 2) + (if t then 1 else 0) ≡ n
    go true e = let o : n % 2 ≡ 1 = grind (arith, common_steps) in omega arith
    go false e = let o : n % 2 ≢ 1 = grind (arith, common_steps) in omega arith

pub word_is : (w : ℕ) → w ≡ gate_word (level_of w) (left_of w) (right_of w)
word_is w =
    whole w
    ∙ ap₂ (λ x y. w / 70368744177664 * 70368744177664 + x * 8388608 + y) (sym (number_back (w / 8388608 % 8388608))) (sym (number_back (w % 8388608)))
  where
    whole : (w : ℕ) → w ≡ w / 70368744177664 * 70368744177664 + w / 8388608 % 8388608 * 8388608 + w % 8388608
    whole w = omega arith

pub left_small : (w : ℕ) → (left_of w).node < 4194304
left_small w = omega arith

pub right_small : (w : ℕ) → (right_of w).node < 4194304
right_small w = omega arith

pub packed_some : (l : ℕ) (a b : Literal) → 0 < l → gate_word l a b ≢ 0
packed_some l a b h e = go (literal_number a) (literal_number b) e
  where
    go : (x y : ℕ) → l * 70368744177664 + x * 8388608 + y ≡ 0 → ⊥
    go x y e = omega arith
