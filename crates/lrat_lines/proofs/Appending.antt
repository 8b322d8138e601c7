-- Words that are appended one by one.
use Rattle.std.proofs.Common.{◌≡◌, ℕ, zero, suc, ◌+◌, ◌<◌, ◌≤◌, List, [], ◌∷◌, ◌++◌, refl, ap, sym, ◌∙◌, map, arith, length, take, get_or}
use Rattle.std.specs.Fmt.{decimal}
use Rattle.std.proofs.lemmas.Fmt.{decimal_digit}
use Rattle.std.proofs.lemmas.Grind.{flat_map-append}
use Rattle.std.proofs.lemmas.List.{append_assoc, append-nil, take_all, take_more, take-append-le, length-take}
use Rattle.std.specs.Prelude.{Ok, Err, OnOk, is_ok, cond}
use Rattle.std.specs.declared.result.Result.{Result}
use Rattle.lrat_lines.specs.Spaced.{spaced}

take-take-le : (m n : ℕ) (xs : List ℕ) → m ≤ n → take m (take n xs) ≡ take m xs
take-take-le zero n xs h = refl
take-take-le (suc m) zero xs h = absurd (omega arith)
take-take-le (suc m) (suc n) [] h = refl
take-take-le (suc m) (suc n) (x ∷ xs) h = ap (λ r. x ∷ r) (take-take-le m n xs (omega arith))

-- what an append that went well left
pub on_ok : {T E : Type 0} (r : Result T E) (b c s : List ℕ) (P : Type 0) → c ≡ cond (is_ok r) (b ++ s) b → (c ≡ b ++ s → P) → OnOk r P
on_ok (Ok x) b c s P e h = h e
on_ok (Err x) b c s P e h = tt

-- What stands before what was appended is kept.
pub kept_front : (a s b : List ℕ) → b ≡ a ++ s → take (length a) b ≡ a
kept_front a s b e = ap (take (length a)) e ∙ take-append-le (length a) a s (omega arith) ∙ take_all (length a) a (omega arith)

pub kept_more : (a b c : List ℕ) → take (length a) b ≡ a → take (length b) c ≡ b → take (length a) c ≡ a
kept_more a b c h k =
    sym (ap (take (length a)) (sym k) ∙ take-take-le (length a) (length b) c (omega (arith, ap length h, length-take (length a) b))) ∙ h

pub kept_behind : (a s b c : List ℕ) → b ≡ a ++ s → take (length b) c ≡ b → take (length a) c ≡ a
kept_behind a s b c e k = kept_more a b c (kept_front a s b e) k

map_push : {T : Type 0} (f : T → List ℕ) (xs : List T) (x : T) → map f (xs ++ x ∷ []) ≡ map f xs ++ f x ∷ []
map_push f [] x = refl
map_push f (y ∷ ys) x = ap (λ r. f y ∷ r) (map_push f ys x)

spaced_push : (ws : List (List ℕ)) (w : List ℕ) → spaced (ws ++ w ∷ []) ≡ spaced ws ++ 32 ∷ w
spaced_push ws w = flat_map-append (λ (v : List ℕ). 32 ∷ v) ws (w ∷ []) ∙ ap (λ r. spaced ws ++ r) (append-nil (32 ∷ w))

pub one_more : {T : Type 0} (f : T → List ℕ) (xs : List T) (i : ℕ) (x : T) (a b c : List ℕ) → i < length xs → x ≡ get_or xs i x → b ≡ a ++ spaced (map f (take i xs)) → c ≡ b ++ 32 ∷ f x → c ≡ a ++ spaced (map f (take (i + 1) xs))
one_more f xs i x a b c lt is e h =
    h ∙ ap (λ r. r ++ 32 ∷ f x) e ∙ append_assoc a (spaced (map f (take i xs))) (32 ∷ f x)
    ∙ ap (λ r. a ++ r) (sym (spaced_push (map f (take i xs)) (f x)))
    ∙ ap (λ r. a ++ spaced r) (sym (map_push f (take i xs) x))
    ∙ ap (λ r. a ++ spaced (map f r)) (ap (λ y. take i xs ++ y ∷ []) is ∙ sym (take_more xs i x lt))

pub ended : {T : Type 0} (f : T → List ℕ) (xs : List T) (i : ℕ) (a b c : List ℕ) → length xs ≤ i → b ≡ a ++ spaced (map f (take i xs)) → c ≡ b ++ 32 ∷ 48 ∷ [] → c ≡ a ++ spaced (map f xs ++ decimal 0 ∷ [])
ended f xs i a b c le e h =
    h ∙ ap (λ r. r ++ 32 ∷ 48 ∷ []) (e ∙ ap (λ r. a ++ spaced (map f r)) (take_all i xs le)) ∙ append_assoc a (spaced (map f xs)) (32 ∷ 48 ∷ [])
    ∙ ap (λ w. a ++ (spaced (map f xs) ++ 32 ∷ w)) (sym (decimal_digit 0 (omega arith)))
    ∙ ap (λ r. a ++ r) (sym (spaced_push (map f xs) (decimal 0)))

words_split : (w : List ℕ) (ws vs : List (List ℕ)) → w ++ spaced (ws ++ vs) ≡ w ++ spaced ws ++ spaced vs
words_split w ws vs = ap (λ r. w ++ r) (flat_map-append (λ (v : List ℕ). 32 ∷ v) ws vs) ∙ sym (append_assoc w (spaced ws) (spaced vs))

-- the text of an addition, in the pieces in which it is written
pub addition_text : (id : ℕ) (lits hints : List (List ℕ)) → decimal id ++ spaced (lits ++ decimal 0 ∷ (hints ++ decimal 0 ∷ [])) ≡ decimal id ++ spaced (lits ++ decimal 0 ∷ []) ++ spaced (hints ++ decimal 0 ∷ [])
addition_text id lits hints =
    ap (λ r. decimal id ++ spaced r) (sym (append_assoc lits (decimal 0 ∷ []) (hints ++ decimal 0 ∷ []))) ∙ words_split (decimal id) (lits ++ decimal 0 ∷ []) (hints ++ decimal 0 ∷ [])

four : (a b c d : List ℕ) → a ++ b ++ c ++ d ≡ a ++ (b ++ c ++ d)
four a b c d = ap (λ r. r ++ d) (append_assoc a b c) ∙ append_assoc a (b ++ c) d

five : (a b c d e : List ℕ) → a ++ b ++ c ++ d ++ e ≡ a ++ (b ++ c ++ d ++ e)
five a b c d e = ap (λ r. r ++ e) (four a b c d) ∙ append_assoc a (b ++ c ++ d) e

pub wrote_addition : (id : ℕ) (hints : List (List ℕ)) (lit_words : List (List ℕ)) (whole a b c d e : List ℕ)
    → whole ≡ decimal id ++ spaced (lit_words ++ decimal 0 ∷ (hints ++ decimal 0 ∷ []))
    → b ≡ a ++ decimal id → c ≡ b ++ spaced (lit_words ++ decimal 0 ∷ []) → d ≡ c ++ spaced (hints ++ decimal 0 ∷ []) → e ≡ d ++ 10 ∷ [] → e ≡ a ++ (whole ++ 10 ∷ [])
wrote_addition id hints lit_words whole a b c d e w p q r s =
    s ∙ ap (λ x. x ++ 10 ∷ []) (r ∙ ap (λ x. x ++ spaced (hints ++ decimal 0 ∷ [])) (q ∙ ap (λ x. x ++ spaced (lit_words ++ decimal 0 ∷ [])) p))
    ∙ five a (decimal id) (spaced (lit_words ++ decimal 0 ∷ [])) (spaced (hints ++ decimal 0 ∷ [])) (10 ∷ [])
    ∙ ap (λ x. a ++ (x ++ 10 ∷ [])) (sym (w ∙ addition_text id lit_words hints))

pub wrote_deletion : (id : ℕ) (ids : List (List ℕ)) (whole a b c d e : List ℕ) → whole ≡ decimal id ++ spaced ((100 ∷ []) ∷ (ids ++ decimal 0 ∷ []))
    → b ≡ a ++ decimal id → c ≡ b ++ 32 ∷ 100 ∷ [] → d ≡ c ++ spaced (ids ++ decimal 0 ∷ []) → e ≡ d ++ 10 ∷ [] → e ≡ a ++ (whole ++ 10 ∷ [])
wrote_deletion id ids whole a b c d e w p q r s =
    s ∙ ap (λ x. x ++ 10 ∷ []) (r ∙ ap (λ x. x ++ spaced (ids ++ decimal 0 ∷ [])) (q ∙ ap (λ x. x ++ 32 ∷ 100 ∷ []) p))
    ∙ five a (decimal id) (32 ∷ 100 ∷ []) (spaced (ids ++ decimal 0 ∷ [])) (10 ∷ [])
    ∙ ap (λ x. a ++ (x ++ 10 ∷ [])) (sym (w ∙ words_split (decimal id) ((100 ∷ []) ∷ []) (ids ++ decimal 0 ∷ [])))
