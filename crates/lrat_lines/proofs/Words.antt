-- The words of a text, the first and the others.
use Rattle.std.proofs.Common.{◌≡◌, ℕ, zero, suc, ◌<◌, ◌≤◌, Bool, true, false, not, cond, List, [], ◌∷◌, ◌++◌, refl, ap, sym, ◌∙◌, arith, get_or, length, take, drop, nat_eq, get_or-drop}
use Rattle.std.specs.List.{filter, slice_split, onto_first}
use Rattle.std.proofs.lemmas.List.Splits.{slice_split-cons_yes, slice_split-cons_no}
use Rattle.std.proofs.lemmas.Grind.{common_steps}
use Rattle.std.proofs.lemmas.List.{append-nil, length-take, length-drop}
use Rattle.lrat_lines.specs.Lines.{is_blank, words_in}

pub skip : (k : ℕ) (bs : List ℕ) → k ≤ length bs → ((i : ℕ) → i < k → is_blank (get_or bs i 0) ≡ true) → words_in bs ≡ words_in (drop k bs)
skip zero bs h p = refl
skip (suc k) [] h p = absurd (omega arith)
skip (suc k) (b ∷ bs) h p =
    ap (filter (λ w. not (nat_eq (length w) 0))) (slice_split-cons_yes is_blank b bs (p 0 (omega arith)))
    ∙ skip k bs (omega arith) (λ i q. p (suc i) (omega arith))

-- the parts behind a first one
abbrev with_front : List ℕ → List (List ℕ) → List (List ℕ)
with_front xs [] = xs ∷ []
with_front xs (part ∷ parts) = (xs ++ part) ∷ parts

front_more : (x : ℕ) (xs : List ℕ) (parts : List (List ℕ)) → onto_first x (with_front xs parts) ≡ with_front (x ∷ xs) parts
front_more x xs [] = refl
front_more x xs (part ∷ parts) = refl

onto_some : (b : ℕ) (parts : List (List ℕ)) → 0 < length (onto_first b parts)
onto_some b [] = omega arith
onto_some b (part ∷ parts) = omega arith

some_at : (b : ℕ) (t : Bool) (bs : List ℕ) → 0 < length (cond t ([] ∷ slice_split is_blank bs) (onto_first b (slice_split is_blank bs)))
some_at b true bs = omega arith
some_at b false bs = onto_some b (slice_split is_blank bs)

split_some : (bs : List ℕ) → 0 < length (slice_split is_blank bs)
split_some [] = omega arith
split_some (b ∷ bs) = some_at b (is_blank b) bs

front_none : (parts : List (List ℕ)) → 0 < length parts → parts ≡ with_front [] parts
front_none [] h = absurd (omega arith)
front_none (part ∷ parts) h = refl

split_front : (k : ℕ) (bs : List ℕ) → k ≤ length bs → ((i : ℕ) → i < k → is_blank (get_or bs i 0) ≡ false) → slice_split is_blank bs ≡ with_front (take k bs) (slice_split is_blank (drop k bs))
split_front zero bs h p = front_none (slice_split is_blank bs) (split_some bs)
split_front (suc k) [] h p = absurd (omega arith)
split_front (suc k) (b ∷ bs) h p =
    slice_split-cons_no is_blank b bs (p 0 (omega arith))
    ∙ ap (onto_first b) (split_front k bs (omega arith) (λ i q. p (suc i) (omega arith)))
    ∙ front_more b (take k bs) (slice_split is_blank (drop k bs))

pub kept : (xs : List ℕ) (ws : List (List ℕ)) → 0 < length xs → filter (λ w. not (nat_eq (length w) 0)) (xs ∷ ws) ≡ xs ∷ filter (λ w. not (nat_eq (length w) 0)) ws
kept [] ws h = absurd (omega arith)
kept (x ∷ xs) ws h =
    let e : nat_eq (length (x ∷ xs)) 0 ≡ false = grind (arith, common_steps) in
    ap (λ t. cond (not t) ((x ∷ xs) ∷ filter (λ w. not (nat_eq (length w) 0)) ws) (filter (λ w. not (nat_eq (length w) 0)) ws)) e

-- behind a word stands nothing, or a blank
front_word : (xs ys : List ℕ) → 0 < length xs → (0 < length ys → is_blank (get_or ys 0 0) ≡ true) → filter (λ w. not (nat_eq (length w) 0)) (with_front xs (slice_split is_blank ys)) ≡ xs ∷ words_in ys
front_word xs [] h p = ap (λ l. filter (λ w. not (nat_eq (length w) 0)) (l ∷ [])) (append-nil xs) ∙ kept xs [] h
front_word xs (y ∷ ys) h p =
    let e = slice_split-cons_yes is_blank y ys (p (omega arith)) in
    ap (λ l. filter (λ w. not (nat_eq (length w) 0)) (with_front xs l)) e
    ∙ ap (λ l. filter (λ w. not (nat_eq (length w) 0)) (l ∷ slice_split is_blank ys)) (append-nil xs)
    ∙ kept xs (slice_split is_blank ys) h
    ∙ ap (λ l. xs ∷ filter (λ w. not (nat_eq (length w) 0)) l) (sym e)

pub first_word : (n : ℕ) (bs : List ℕ) → 0 < n → n ≤ length bs → ((i : ℕ) → i < n → is_blank (get_or bs i 0) ≡ false) → (n < length bs → is_blank (get_or bs n 0) ≡ true) → words_in bs ≡ take n bs ∷ words_in (drop n bs)
first_word n bs some within word end =
    ap (filter (λ w. not (nat_eq (length w) 0))) (split_front n bs within word)
    ∙ front_word (take n bs) (drop n bs) (omega (arith, length-take n bs)) (λ h. ap is_blank (get_or-drop n bs 0 0 ∙ ap (λ k. get_or bs k 0) (omega arith)) ∙ end (omega (arith, length-drop n bs)))

pub no_word : (bs : List ℕ) → length bs ≡ 0 → words_in bs ≡ []
no_word [] h = refl
no_word (b ∷ bs) h = absurd (omega arith)

positive : (n : ℕ) (rest : List ℕ) → 0 < length rest → is_blank (get_or rest 0 0) ≡ false → (n < length rest → is_blank (get_or rest n 0) ≡ true) → 0 < n
positive zero rest left word end = let blank = end left in absurd (cc)
positive (suc n) rest left word end = omega arith

-- the text from the first word on
pub next : (text rest word behind : List ℕ) (k n : ℕ) → rest ≡ drop k text → k ≤ length text → ((i : ℕ) → i < k → is_blank (get_or text i 0) ≡ true) → (k < length text → is_blank (get_or text k 0) ≡ false)
    → 0 < length rest → n ≤ length rest → ((i : ℕ) → i < n → is_blank (get_or rest i 0) ≡ false) → (n < length rest → is_blank (get_or rest n 0) ≡ true)
    → word ≡ take n rest → behind ≡ drop n rest → (words_in text ≡ word ∷ words_in behind) × (0 < length word)
next text rest word behind k n r within blanks then left fits nonblank end w b =
    let first : get_or rest 0 0 ≡ get_or text k 0 = ap (λ l. get_or l 0 0) r ∙ get_or-drop k text 0 0 ∙ ap (λ j. get_or text j 0) (omega arith) in
    let some : 0 < n = positive n rest left (ap is_blank first ∙ then (omega (arith, ap length r, length-drop k text))) end in (
      skip k text within blanks ∙ ap words_in (sym r) ∙ first_word n rest some fits nonblank end ∙ ap (λ l. l ∷ words_in (drop n rest)) (sym w) ∙ ap (λ l. word ∷ words_in l) (sym b),
      omega (arith, ap length w, length-take n rest),
    )
