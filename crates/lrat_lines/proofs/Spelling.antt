-- Written lines, and the words that are read from them.
use Rattle.std.proofs.Common.{◌≡◌, ℕ, ℤ, pos, negsuc, suc, ◌+◌, ◌-◌, ◌<◌, ◌^◌, Bool, true, false, not, ◌&&◌, List, [], ◌∷◌, ◌++◌, refl, ap, sym, ◌∙◌, subst, map, arith, get_or, length, take, nat_eq, nat_lt}
use Rattle.std.specs.List.{list_all, All, AllZip, filter, slice_split, join_with_byte}
use Rattle.std.specs.Fmt.{decimal, signed_decimal}
use Rattle.std.specs.Str.{all_ascii_digits}
use Rattle.std.specs.Char.{is_ascii_digit}
use Rattle.std.proofs.lemmas.Bool.{lt-ltb, ltb-true}
use Rattle.std.proofs.lemmas.Fmt.{digits_decimal, decimal_nonempty}
use Rattle.std.proofs.lemmas.Grind.{common_steps}
use Rattle.std.proofs.lemmas.List.{append_assoc, append-nil, take_all, get_or-append-add, length-append}
use Rattle.std.proofs.lemmas.List.Folds.{list_all-append}
use Rattle.std.proofs.lemmas.List.Splits.{slice_split_none, slice_split_at, length-slice_split}
use Rattle.std.proofs.lemmas.List.Sums.{AllPass-from_list_all, suffix_len_is}
use Rattle.sat_form.specs.Literals.{Literal}
use Rattle.lrat_lines.specs.Lines.{Line, IsLine, Text, words, words_in, words_of, without_end, without_last_empty, lines_of, is_blank, is_end, is_id, is_literal, is_hint, literal_number, is_writable, line_text, written}
use Rattle.lrat_lines.specs.Lines.Line.{Add, Delete, Skip}
use Rattle.lrat_lines.specs.Sign.{with_sign}
use Rattle.lrat_lines.specs.Spaced.{spaced}
use Rattle.lrat_lines.proofs.Numbers.{both, own, id_range, literal_word, literal_range}
use Rattle.lrat_lines.proofs.Words.{kept}

pub and_also : (a b : Bool) → a ≡ true → b ≡ true → (a && b) ≡ true
and_also true b p q = q
and_also false b p q = cc

-- A word has bytes, each above the space.
abbrev pub is_word : List ℕ → Bool
is_word w = nat_lt 0 (length w) && list_all (nat_lt 32) w

above_space : (c : ℕ) → is_ascii_digit c ≡ true → nat_lt 32 c ≡ true
above_space c h = grind (arith, common_steps)

digits_above : (w : List ℕ) → all_ascii_digits w ≡ true → list_all (nat_lt 32) w ≡ true
digits_above [] h = refl
digits_above (c ∷ cs) h =
    let p = both (is_ascii_digit c) (all_ascii_digits cs) h in and_also (nat_lt 32 c) (list_all (nat_lt 32) cs) (above_space c p.0) (digits_above cs p.1)

decimal_word : (n : ℕ) → n < 2 ^ 64 → is_word (decimal n) ≡ true
decimal_word n small = and_also (nat_lt 0 (length (decimal n))) (list_all (nat_lt 32) (decimal n)) (lt-ltb 0 (length (decimal n)) (decimal_nonempty n small)) (digits_above (decimal n) (digits_decimal own n small))

sign_word : (up : Bool) (n : ℕ) → n < 2 ^ 64 → is_word (with_sign up (decimal n)) ≡ true
sign_word true n small = decimal_word n small
sign_word false n small =
    let some : 0 < length (45 ∷ decimal n) = omega arith in
    and_also (nat_lt 0 (length (45 ∷ decimal n))) (list_all (nat_lt 32) (45 ∷ decimal n)) (lt-ltb 0 (length (45 ∷ decimal n)) some) (digits_above (decimal n) (digits_decimal own n small))

literal_is_word : (l : Literal) → is_literal l ≡ true → is_word (signed_decimal (literal_number l)) ≡ true
literal_is_word l h = let r = literal_range l h in ap is_word (literal_word l r.0) ∙ sign_word l.positive l.var (omega (arith, r.1))

hint_word : (z : ℤ) → is_hint z ≡ true → is_word (signed_decimal z) ≡ true
hint_word (pos n) h = let r = id_range n h in decimal_word n (omega (arith, r.1))
hint_word (negsuc n) h = let r = id_range (suc n) h in sign_word false (suc n) (omega (arith, r.1))

id_word : (n : ℕ) → is_id n ≡ true → is_word (decimal n) ≡ true
id_word n h = let r = id_range n h in decimal_word n (omega (arith, r.1))

map_words : {T : Type 0} (spelling : T → List ℕ) (fits : T → Bool) → ((x : T) → fits x ≡ true → is_word (spelling x) ≡ true) → (xs : List T) → list_all fits xs ≡ true → list_all is_word (map spelling xs) ≡ true
map_words spelling fits law [] h = refl
map_words spelling fits law (x ∷ xs) h =
    let p = both (fits x) (list_all fits xs) h in and_also (is_word (spelling x)) (list_all is_word (map spelling xs)) (law x p.0) (map_words spelling fits law xs p.1)

-- words up to the word 0, and others
then_zero : (ws vs : List (List ℕ)) → list_all is_word ws ≡ true → list_all is_word vs ≡ true → list_all is_word (ws ++ decimal 0 ∷ vs) ≡ true
then_zero ws vs p q = list_all-append is_word ws (decimal 0 ∷ vs) ∙ and_also (list_all is_word ws) (is_word (decimal 0) && list_all is_word vs) p (and_also (is_word (decimal 0)) (list_all is_word vs) (decimal_word 0 (omega arith)) q)

-- The words of a line that may be written are words.
pub are_words : (l : Line) → is_writable l ≡ true → list_all is_word (words_of l) ≡ true
are_words Skip h = cc
are_words (Add id lits hints) h =
    let p = both (is_id id) (list_all is_literal lits && list_all is_hint hints) h in
    let q = both (list_all is_literal lits) (list_all is_hint hints) p.1 in
    and_also (is_word (decimal id)) (list_all is_word (map (λ l. signed_decimal (literal_number l)) lits ++ decimal 0 ∷ (map signed_decimal hints ++ decimal 0 ∷ []))) (id_word id p.0)
    (then_zero (map (λ l. signed_decimal (literal_number l)) lits) (map signed_decimal hints ++ decimal 0 ∷ [])
    (map_words (λ l. signed_decimal (literal_number l)) is_literal literal_is_word lits q.0)
    (then_zero (map signed_decimal hints) [] (map_words signed_decimal is_hint hint_word hints q.1) refl))
are_words (Delete id ids) h =
    let p = both (is_id id) (list_all is_id ids) h in
    and_also (is_word (decimal id)) (is_word (100 ∷ []) && list_all is_word (map decimal ids ++ decimal 0 ∷ [])) (id_word id p.0)
    (then_zero (map decimal ids) [] (map_words decimal is_id id_word ids p.1) refl)

-- bytes above the space
none_of : (p : ℕ → Bool) → ((b : ℕ) → nat_lt 32 b ≡ true → p b ≡ false) → (w : List ℕ) → list_all (nat_lt 32) w ≡ true → All (λ b. p b ≡ false) w
none_of p law w h k d lt = law (get_or w k d) (AllPass-from_list_all (nat_lt 32) w h k d lt)

no_blank : (b : ℕ) → nat_lt 32 b ≡ true → is_blank b ≡ false
no_blank b h = grind (arith, common_steps)

no_end : (b : ℕ) → 32 < b → is_end b ≡ false
no_end b h = grind (arith, common_steps)

word_parts : (w : List ℕ) → is_word w ≡ true → (0 < length w) × (list_all (nat_lt 32) w ≡ true)
word_parts w h = let p = both (nat_lt 0 (length w)) (list_all (nat_lt 32) w) h in (ltb-true 0 (length w) p.0, p.1)

-- Words that are joined by spaces are read one by one.
pub words_join : (ws : List (List ℕ)) → list_all is_word ws ≡ true → words_in (join_with_byte 32 ws) ≡ ws
words_join [] h = refl
words_join (w ∷ []) h =
    let p = word_parts w (both (is_word w) true h).0 in
    ap (filter (λ v. not (nat_eq (length v) 0))) (slice_split_none is_blank w (none_of is_blank no_blank w p.1)) ∙ kept w [] p.0
words_join (w ∷ v ∷ ws) h =
    let p = both (is_word w) (list_all is_word (v ∷ ws)) h in
    let q = word_parts w p.0 in
    ap (filter (λ x. not (nat_eq (length x) 0))) (slice_split_at is_blank w 32 (join_with_byte 32 (v ∷ ws)) (none_of is_blank no_blank w q.1) refl)
    ∙ kept w (slice_split is_blank (join_with_byte 32 (v ∷ ws))) q.0
    ∙ ap (λ r. w ∷ r) (words_join (v ∷ ws) p.1)

join_some : (w : List ℕ) (ws : List (List ℕ)) → 0 < length w → 0 < length (join_with_byte 32 (w ∷ ws))
join_some w [] h = h
join_some w (v ∷ ws) h = omega (arith, h, length-append w (32 ∷ join_with_byte 32 (v ∷ ws)))

-- the last byte
last_of : List ℕ → ℕ
last_of bs = get_or bs (length bs - 1) 0

last_behind : (w r : List ℕ) → 0 < length r → get_or (w ++ 32 ∷ r) (length (w ++ 32 ∷ r) - 1) 0 ≡ get_or r (length r - 1) 0
last_behind w [] h = absurd (omega arith)
last_behind w (b ∷ r) h =
    let e : length (w ++ 32 ∷ b ∷ r) - 1 ≡ length w + suc (length r) = omega (arith, length-append w (32 ∷ b ∷ r)) in
    let f : length (b ∷ r) - 1 ≡ length r = omega arith in
    ap (λ k. get_or (w ++ 32 ∷ b ∷ r) k 0) e ∙ get_or-append-add w (32 ∷ b ∷ r) (suc (length r)) 0 ∙ ap (λ k. get_or (b ∷ r) k 0) (sym f)

last_above : (w : List ℕ) (ws : List (List ℕ)) → list_all is_word (w ∷ ws) ≡ true → 32 < get_or (join_with_byte 32 (w ∷ ws)) (length (join_with_byte 32 (w ∷ ws)) - 1) 0
last_above w [] h =
    let p = word_parts w (both (is_word w) true h).0 in
    ltb-true 32 (get_or w (length w - 1) 0) (AllPass-from_list_all (nat_lt 32) w p.1 (length w - 1) 0 (omega (arith, p.0)))
last_above w (v ∷ ws) h =
    let p = both (is_word w) (list_all is_word (v ∷ ws)) h in
    let some = join_some v ws (word_parts v (both (is_word v) (list_all is_word ws) p.1).0).0 in
    let e = last_behind w (join_with_byte 32 (v ∷ ws)) some in
    let later = last_above v ws p.1 in
    omega (arith, e, later)

-- Nothing at the end is taken off.
end_stays : (bs : List ℕ) → (0 < length bs → 32 < get_or bs (length bs - 1) 0) → without_end bs ≡ bs
end_stays bs h =
    let e = suffix_len_is is_end bs (length bs) 0 (omega arith) (λ k p q. absurd (omega arith)) (λ some. no_end (get_or bs (length bs - 1) 0) (h some)) in
    ap (λ k. take k bs) (omega (arith, e)) ∙ take_all (length bs) bs (omega arith)

text_words : (ws : List (List ℕ)) → list_all is_word ws ≡ true → words (join_with_byte 32 ws) ≡ ws
text_words [] h = refl
text_words (w ∷ ws) h = ap words_in (end_stays (join_with_byte 32 (w ∷ ws)) (λ _. last_above w ws h)) ∙ words_join (w ∷ ws) h

-- What was written reads as the line.
pub line_reads_back : (l : Line) → is_writable l ≡ true → IsLine (line_text l) l
line_reads_back Skip h = cc
line_reads_back (Add id lits hints) h = (text_words (words_of (Add id lits hints)) (are_words (Add id lits hints) h), h)
line_reads_back (Delete id ids) h = (text_words (words_of (Delete id ids)) (are_words (Delete id ids) h), h)

-- No LF stands in a line's text.
no_line_feed : (b : ℕ) → nat_lt 32 b ≡ true → nat_eq b 10 ≡ false
no_line_feed b h = grind (arith, common_steps)

abbrev NoFeed : List ℕ → Type 0
NoFeed bs = list_all (λ b. not (nat_eq b 10)) bs ≡ true

word_no_feed : (w : List ℕ) → list_all (nat_lt 32) w ≡ true → NoFeed w
word_no_feed [] h = refl
word_no_feed (b ∷ bs) h =
    let p = both (nat_lt 32 b) (list_all (nat_lt 32) bs) h in and_also (not (nat_eq b 10)) (list_all (λ c. not (nat_eq c 10)) bs) (ap not (no_line_feed b p.0)) (word_no_feed bs p.1)

join_no_feed : (ws : List (List ℕ)) → list_all is_word ws ≡ true → NoFeed (join_with_byte 32 ws)
join_no_feed [] h = refl
join_no_feed (w ∷ []) h = word_no_feed w (word_parts w (both (is_word w) true h).0).1
join_no_feed (w ∷ v ∷ ws) h =
    let p = both (is_word w) (list_all is_word (v ∷ ws)) h in
    list_all-append (λ c. not (nat_eq c 10)) w (32 ∷ join_with_byte 32 (v ∷ ws))
    ∙ and_also (list_all (λ c. not (nat_eq c 10)) w) (list_all (λ c. not (nat_eq c 10)) (join_with_byte 32 (v ∷ ws))) (word_no_feed w (word_parts w p.0).1) (join_no_feed (v ∷ ws) p.1)

not_true : (b : Bool) → not b ≡ true → b ≡ false
not_true true h = sym h
not_true false h = refl

all_no_feed : (bs : List ℕ) → NoFeed bs → All (λ b. nat_eq b 10 ≡ false) bs
all_no_feed bs h k d lt = not_true (nat_eq (get_or bs k d) 10) (AllPass-from_list_all (λ c. not (nat_eq c 10)) bs h k d lt)

-- parts behind a first one
last_kept : (w : List ℕ) (parts : List (List ℕ)) → 0 < length parts → without_last_empty (w ∷ parts) ≡ w ∷ without_last_empty parts
last_kept w [] h = absurd (omega arith)
last_kept [] (p ∷ parts) h = refl
last_kept (b ∷ w) (p ∷ parts) h = refl

split_some : (bs : List ℕ) → 0 < length (slice_split (λ b. nat_eq b 10) bs)
split_some bs = grind (arith, common_steps, length-slice_split)

-- the first line of a text, and the others
pub first_line : (front rest : List ℕ) → All (λ b. nat_eq b 10 ≡ false) front → lines_of (front ++ 10 ∷ rest) ≡ front ∷ lines_of rest
first_line front rest h =
    ap without_last_empty (slice_split_at (λ b. nat_eq b 10) front 10 rest h refl) ∙ last_kept front (slice_split (λ b. nat_eq b 10) rest) (split_some rest)

-- A written text has the lines that it was written from.
pub text_reads_back : (ls : List Line) → list_all is_writable ls ≡ true → Text (written ls) ls
text_reads_back [] h = tt
text_reads_back (l ∷ ls) h =
    let p = both (is_writable l) (list_all is_writable ls) h in
    let e : lines_of (written (l ∷ ls)) ≡ line_text l ∷ lines_of (written ls) =
    ap lines_of (append_assoc (line_text l) (10 ∷ []) (written ls)) ∙ first_line (line_text l) (written ls) (all_no_feed (line_text l) (join_no_feed (words_of l) (are_words l p.0))) in
    subst (λ (t : List (List ℕ)). AllZip IsLine t (l ∷ ls)) (sym e) (line_reads_back l p.0, text_reads_back ls p.1)

-- Words that are joined are the first one and the others, each behind a space.
pub join_spaced : (w : List ℕ) (ws : List (List ℕ)) → join_with_byte 32 (w ∷ ws) ≡ w ++ spaced ws
join_spaced w [] = sym (append-nil w)
join_spaced w (v ∷ ws) = ap (λ r. w ++ 32 ∷ r) (join_spaced v ws)
