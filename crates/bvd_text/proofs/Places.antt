-- The place behind one more character.
use Rattle.std.proofs.Common.{◌≡◌, ℕ, ◌+◌, ◌-◌, ◌/◌, ◌%◌, ◌^◌, ◌<◌, ◌≤◌, Bool, true, false, not, cond, List, [], ◌∷◌, ◌++◌, length, reverse, take, drop, refl, sym, ◌∙◌, ap, append_assoc, length-append, length-drop, arith}
use Rattle.std.specs.Prelude.{count_by, nat_lt}
use Rattle.std.specs.List.{prefix_len}
use Rattle.std.specs.Char.{encode_utf8, len_utf8}
use Rattle.std.proofs.lemmas.Grind.{common_steps}
use Rattle.std.proofs.lemmas.Bool.{eqb-true}
use Rattle.std.proofs.lemmas.List.{reverse-append, length-reverse, length-take, length-take-le}
use Rattle.std.proofs.lemmas.Str.{length-encode, len_utf8_bounds, drop_past_char}
use Rattle.std.proofs.Math.Seq.{take-add, take-append_seam}
use Rattle.std.proofs.lemmas.List.Sums.{take_while-cons, sum_by-append, count_by-le-length}
use Rattle.bvd_text.specs.declared.cursor.Place.{Place}
use Rattle.bvd_text.specs.Places.{is_line_feed, begins_character, since_line_feed, place_behind}
use Rattle.bvd_text.specs.Stands.{past, IsCursor}

since_push : (bs : List ℕ) (b : ℕ) → since_line_feed (bs ++ b ∷ []) ≡ cond (not (is_line_feed b)) (b ∷ since_line_feed bs) []
since_push bs b = rw (reverse-append bs (b ∷ [])) (take_while-cons (λ c. not (is_line_feed c)) b (reverse bs))

lines_push : (bs : List ℕ) (b : ℕ) → count_by is_line_feed (bs ++ b ∷ []) ≡ count_by is_line_feed bs + (0 + cond (is_line_feed b) 1 0)
lines_push bs b = sum_by-append (λ c. cond (is_line_feed c) 1 0) bs (b ∷ [])

count_cons : (b : ℕ) (s : List ℕ) → count_by begins_character (b ∷ s) ≡ 0 + cond (begins_character b) 1 0 + count_by begins_character s
count_cons b s = sum_by-append (λ c. cond (begins_character c) 1 0) (b ∷ []) s

column_first : (b : ℕ) (s : List ℕ) → is_line_feed b ≡ false → begins_character b ≡ true → count_by begins_character (cond (not (is_line_feed b)) (b ∷ s) []) ≡ count_by begins_character s + 1
column_first b s l f = rw l (count_cons b s ∙ rw f (omega arith))

column_further : (b : ℕ) (s : List ℕ) → is_line_feed b ≡ false → begins_character b ≡ false → count_by begins_character (cond (not (is_line_feed b)) (b ∷ s) []) ≡ count_by begins_character s
column_further b s l f = rw l (count_cons b s ∙ rw f (omega arith))

line_same : (bs : List ℕ) (b : ℕ) → is_line_feed b ≡ false → count_by is_line_feed (bs ++ b ∷ []) ≡ count_by is_line_feed bs
line_same bs b l = lines_push bs b ∙ rw l (omega arith)

place : (a b c d : ℕ) → a ≡ b → c ≡ d → (let p : Place = record { line = a; column = c } in let q : Place = record { line = b; column = d } in p ≡ q)
place a b c d e f = rw (e, f) refl

-- a line feed
push_line_feed : (bs : List ℕ) → place_behind (bs ++ 10 ∷ []) ≡ record { line = (place_behind bs).line + 1; column = 1 }
push_line_feed bs =
    let lines : count_by is_line_feed (bs ++ 10 ∷ []) ≡ count_by is_line_feed bs + 1 = lines_push bs 10 in
    let columns : count_by begins_character (since_line_feed (bs ++ 10 ∷ [])) ≡ 0 = ap (count_by begins_character) (since_push bs 10) in
    place _ _ _ _ (omega arith) (omega arith)

-- the first byte of another character
push_first : (bs : List ℕ) (b : ℕ) → is_line_feed b ≡ false → begins_character b ≡ true → place_behind (bs ++ b ∷ []) ≡ record { line = (place_behind bs).line; column = (place_behind bs).column + 1 }
push_first bs b l f =
    let lines = line_same bs b l in
    let columns : count_by begins_character (since_line_feed (bs ++ b ∷ [])) ≡ count_by begins_character (since_line_feed bs) + 1 = ap (count_by begins_character) (since_push bs b) ∙ column_first b (since_line_feed bs) l f in
    place _ _ _ _ (omega arith) (omega arith)

-- a further byte of a character
push_further : (bs : List ℕ) (b : ℕ) → is_line_feed b ≡ false → begins_character b ≡ false → place_behind (bs ++ b ∷ []) ≡ place_behind bs
push_further bs b l f =
    let lines = line_same bs b l in
    let columns : count_by begins_character (since_line_feed (bs ++ b ∷ [])) ≡ count_by begins_character (since_line_feed bs) = ap (count_by begins_character) (since_push bs b) ∙ column_further b (since_line_feed bs) l f in
    place _ _ _ _ (omega arith) (omega arith)

-- the bytes of one character
by_size : (P : List ℕ → Type 0) (c : ℕ) → (nat_lt c 128 ≡ true → P (c ∷ [])) → (nat_lt c 128 ≡ false → P ((192 + c / 64) ∷ (128 + c % 64) ∷ []))
    → (nat_lt c 128 ≡ false → P ((224 + c / 4096) ∷ (128 + c / 64 % 64) ∷ (128 + c % 64) ∷ []))
    → (nat_lt c 128 ≡ false → P ((240 + c / 262144) ∷ (128 + c / 4096 % 64) ∷ (128 + c / 64 % 64) ∷ (128 + c % 64) ∷ []))
    → P (encode_utf8 c)
unfolding encode_utf8
by_size P c one two three four = go (nat_lt c 128) (nat_lt c 2048) (nat_lt c 65536) refl
  where
    go : (x y z : Bool) → nat_lt c 128 ≡ x → P (cond x (c ∷ []) (cond y ((192 + c / 64) ∷ (128 + c % 64) ∷ []) (cond z ((224 + c / 4096) ∷ (128 + c / 64 % 64) ∷ (128 + c % 64) ∷ []) ((240 + c / 262144) ∷ (128 + c / 4096 % 64) ∷ (128 + c / 64 % 64) ∷ (128 + c % 64) ∷ []))))
    go true y z e = one e
    go false true z e = two e
    go false false true e = three e
    go false false false e = four e

no_line_feed : (b : ℕ) → 128 ≤ b → is_line_feed b ≡ false
no_line_feed b h = grind (arith, common_steps)

large : (c : ℕ) → nat_lt c 128 ≡ false → 128 ≤ c
large c h = grind (arith, common_steps)

begins : (b : ℕ) → 192 ≤ b → begins_character b ≡ true
begins b h = grind (arith, common_steps)

goes_on : (n : ℕ) → begins_character (128 + n % 64) ≡ false
goes_on n = grind (arith, common_steps)

first_at : (bs : List ℕ) (b : ℕ) → 192 ≤ b → place_behind (bs ++ b ∷ []) ≡ record { line = (place_behind bs).line; column = (place_behind bs).column + 1 }
first_at bs b h = push_first bs b (no_line_feed b (omega arith)) (begins b h)

further_at : (bs : List ℕ) (n : ℕ) → place_behind (bs ++ (128 + n % 64) ∷ []) ≡ place_behind bs
further_at bs n = push_further bs (128 + n % 64) (no_line_feed (128 + n % 64) (omega arith)) (goes_on n)

cut : (bs : List ℕ) (a : ℕ) (rest : List ℕ) → bs ++ a ∷ rest ≡ (bs ++ a ∷ []) ++ rest
cut bs a rest = sym (append_assoc bs (a ∷ []) rest)

two_further : (bs : List ℕ) (m n : ℕ) → place_behind (bs ++ (128 + m % 64) ∷ (128 + n % 64) ∷ []) ≡ place_behind bs
two_further bs m n = ap place_behind (cut bs (128 + m % 64) ((128 + n % 64) ∷ [])) ∙ (further_at (bs ++ (128 + m % 64) ∷ []) n ∙ further_at bs m)

three_further : (bs : List ℕ) (k m n : ℕ) → place_behind (bs ++ (128 + k % 64) ∷ (128 + m % 64) ∷ (128 + n % 64) ∷ []) ≡ place_behind bs
three_further bs k m n = ap place_behind (cut bs (128 + k % 64) ((128 + m % 64) ∷ (128 + n % 64) ∷ [])) ∙ (two_further (bs ++ (128 + k % 64) ∷ []) m n ∙ further_at bs k)

past_other : (p : Place) (c : ℕ) → is_line_feed c ≡ false → past p c ≡ record { line = p.line; column = p.column + 1 }
past_other p c e = rw e refl

past_large : (p : Place) (c : ℕ) → nat_lt c 128 ≡ false → past p c ≡ record { line = p.line; column = p.column + 1 }
past_large p c h = past_other p c (no_line_feed c (large c h))

-- the place behind one more character
pub place_push : (bs : List ℕ) (c : ℕ) → place_behind (bs ++ encode_utf8 c) ≡ past (place_behind bs) c
place_push bs c = by_size (λ e. place_behind (bs ++ e) ≡ past (place_behind bs) c) c (one (is_line_feed c) refl) two three four
  where
    one : (l : Bool) → is_line_feed c ≡ l → nat_lt c 128 ≡ true → place_behind (bs ++ c ∷ []) ≡ past (place_behind bs) c
    one true e h = let ten : c ≡ 10 = eqb-true c 10 e in rw ten (push_line_feed bs)
    one false e h = push_first bs c e (rw h refl) ∙ sym (past_other (place_behind bs) c e)

    two : nat_lt c 128 ≡ false → place_behind (bs ++ (192 + c / 64) ∷ (128 + c % 64) ∷ []) ≡ past (place_behind bs) c
    two h = ap place_behind (cut bs (192 + c / 64) ((128 + c % 64) ∷ [])) ∙ (further_at (bs ++ (192 + c / 64) ∷ []) c ∙ (first_at bs (192 + c / 64) (omega arith) ∙ sym (past_large (place_behind bs) c h)))

    three : nat_lt c 128 ≡ false → place_behind (bs ++ (224 + c / 4096) ∷ (128 + c / 64 % 64) ∷ (128 + c % 64) ∷ []) ≡ past (place_behind bs) c
    three h = ap place_behind (cut bs (224 + c / 4096) ((128 + c / 64 % 64) ∷ (128 + c % 64) ∷ [])) ∙ (two_further (bs ++ (224 + c / 4096) ∷ []) (c / 64) c ∙ (first_at bs (224 + c / 4096) (omega arith) ∙ sym (past_large (place_behind bs) c h)))

    four : nat_lt c 128 ≡ false → place_behind (bs ++ (240 + c / 262144) ∷ (128 + c / 4096 % 64) ∷ (128 + c / 64 % 64) ∷ (128 + c % 64) ∷ []) ≡ past (place_behind bs) c
    four h = ap place_behind (cut bs (240 + c / 262144) ((128 + c / 4096 % 64) ∷ (128 + c / 64 % 64) ∷ (128 + c % 64) ∷ [])) ∙ (three_further (bs ++ (240 + c / 262144) ∷ []) (c / 4096) (c / 64) c ∙ (first_at bs (240 + c / 262144) (omega arith) ∙ sym (past_large (place_behind bs) c h)))

since_short : (bs : List ℕ) → length (since_line_feed bs) ≤ length bs
since_short bs =
    let e = length-take (prefix_len (λ b. not (is_line_feed b)) (reverse bs)) (reverse bs) in
    let f : length (reverse bs) ≡ length bs = length-reverse bs in
    omega (arith, e)

-- neither number of a place passes the bytes before it by more than one
place_bound : (bs : List ℕ) → ((place_behind bs).line ≤ length bs + 1) × ((place_behind bs).column ≤ length bs + 1)
place_bound bs =
    let lines : count_by is_line_feed bs ≤ length bs = count_by-le-length is_line_feed bs in
    let columns : count_by begins_character (since_line_feed bs) ≤ length (since_line_feed bs) = count_by-le-length begins_character (since_line_feed bs) in
    let short = since_short bs in
    (omega arith, omega arith)

-- What a step over one character leaves.
pub record Step (text more : List ℕ) (at c : ℕ) (p : Place) : Type 0 where
  pub stands : IsCursor text (at + len_utf8 c) more (past p c)
  pub read : take (at + len_utf8 c) text ≡ take at text ++ encode_utf8 c
  pub line : p.line + 1 < 2 ^ 32
  pub column : p.column + 1 < 2 ^ 32
  pub fits : at + len_utf8 c ≤ length text

pub step : (text rest more : List ℕ) (at c : ℕ) (p : Place) → IsCursor text at rest p → rest ≡ encode_utf8 c ++ more → Step text more at c p
step text rest more at c p h e =
    let here : drop at text ≡ encode_utf8 c ++ more = h.cut ∙ e in
    let size : length (encode_utf8 c) ≡ len_utf8 c = length-encode c in
    let some : 1 ≤ len_utf8 c = (len_utf8_bounds c).0 in
    let left : length text - at ≡ length (encode_utf8 c) + length more = sym (length-drop at text) ∙ (ap length here ∙ length-append (encode_utf8 c) more) in
    let read : take (at + len_utf8 c) text ≡ take at text ++ encode_utf8 c = take-add at (len_utf8 c) text
    ∙ ap (λ t. take at text ++ t) (ap (take (len_utf8 c)) here ∙ (ap (λ n. take n (encode_utf8 c ++ more)) (sym size) ∙ take-append_seam (encode_utf8 c) more)) in
    let bound = place_bound (take at text) in
    let before : length (take at text) ≡ at = length-take-le at text h.within in
    let within : at ≤ length text = h.within in
    let short : length text + 1 < 2 ^ 32 = h.short in
    let line_is : p.line ≡ (place_behind (take at text)).line = ap (λ q. q.line) h.placed in
    let column_is : p.column ≡ (place_behind (take at text)).column = ap (λ q. q.column) h.placed in
    let fits : at + len_utf8 c ≤ length text = omega arith in
    record {
      stands = record {
        short = short;
        within = fits;
        cut = drop_past_char text more at c here;
        placed = ap (λ q. past q c) h.placed ∙ (sym (place_push (take at text) c) ∙ ap place_behind (sym read));
      };
      read = read;
      line = omega (arith, bound.0);
      column = omega (arith, bound.1);
      fits = fits;
    }

pub starts : (text : List ℕ) → length text + 1 < 2 ^ 32 → IsCursor text 0 text (record { line = 1; column = 1 })
starts text h = record { short = h; within = omega arith; cut = refl; placed = refl }
