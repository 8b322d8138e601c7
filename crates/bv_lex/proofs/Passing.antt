-- The place behind one more byte.
use Rattle.std.proofs.Common.{◌≡◌, ℕ, ◌+◌, ◌<◌, Bool, true, false, not, cond, List, [], ◌∷◌, ◌++◌, length, get_or, reverse, take, refl, sym, ◌∙◌, ap, arith}
use Rattle.std.specs.Prelude.{count_by}
use Rattle.std.proofs.lemmas.List.{reverse-append, take_more}
use Rattle.std.proofs.lemmas.List.Sums.{take_while-cons, sum_by-append}
use Rattle.bvd_text.specs.declared.cursor.Place.{Place}
use Rattle.bvd_text.specs.Places.{is_line_feed, begins_character, since_line_feed, place_behind}
use Rattle.bv_lex.specs.Passed.{past_byte}

since_push : (bs : List ℕ) (b : ℕ) → since_line_feed (bs ++ b ∷ []) ≡ cond (not (is_line_feed b)) (b ∷ since_line_feed bs) []
since_push bs b = rw (reverse-append bs (b ∷ [])) (take_while-cons (λ c. not (is_line_feed c)) b (reverse bs))

lines_push : (bs : List ℕ) (b : ℕ) → count_by is_line_feed (bs ++ b ∷ []) ≡ count_by is_line_feed bs + (0 + cond (is_line_feed b) 1 0)
lines_push bs b = sum_by-append (λ c. cond (is_line_feed c) 1 0) bs (b ∷ [])

count_cons : (b : ℕ) (s : List ℕ) → count_by begins_character (b ∷ s) ≡ 0 + cond (begins_character b) 1 0 + count_by begins_character s
count_cons b s = sum_by-append (λ c. cond (begins_character c) 1 0) (b ∷ []) s

columns_push : (bs : List ℕ) (b : ℕ) → is_line_feed b ≡ false → count_by begins_character (since_line_feed (bs ++ b ∷ [])) ≡ count_by begins_character (since_line_feed bs) + cond (begins_character b) 1 0
columns_push bs b l = ap (count_by begins_character) (since_push bs b) ∙ rw l (count_cons b (since_line_feed bs) ∙ omega arith)

place : (a b c d : ℕ) → a ≡ b → c ≡ d → (let p : Place = record { line = a; column = c } in let q : Place = record { line = b; column = d } in p ≡ q)
place a b c d e f = rw (e, f) refl

pub place_behind-push : (bs : List ℕ) (b : ℕ) → place_behind (bs ++ b ∷ []) ≡ past_byte (place_behind bs) b
place_behind-push bs b = go (is_line_feed b) (begins_character b) refl refl
  where
    same_line : is_line_feed b ≡ false → count_by is_line_feed (bs ++ b ∷ []) ≡ count_by is_line_feed bs
    same_line l = lines_push bs b ∙ rw l (omega arith)

    go : (l f : Bool) → is_line_feed b ≡ l → begins_character b ≡ f → place_behind (bs ++ b ∷ []) ≡ past_byte (place_behind bs) b
    go true f l e =
        let lines : count_by is_line_feed (bs ++ b ∷ []) ≡ count_by is_line_feed bs + 1 = lines_push bs b ∙ rw l (omega arith) in
        let columns : count_by begins_character (since_line_feed (bs ++ b ∷ [])) ≡ 0 = ap (count_by begins_character) (since_push bs b) ∙ rw l refl in
        rw l (place _ _ _ _ (omega arith) (omega arith))
    go false true l e =
        let lines = same_line l in
        let columns : count_by begins_character (since_line_feed (bs ++ b ∷ [])) ≡ count_by begins_character (since_line_feed bs) + 1 = columns_push bs b l ∙ rw e refl in
        rw (l, e) (place _ _ _ _ (omega arith) (omega arith))
    go false false l e =
        let lines = same_line l in
        let columns : count_by begins_character (since_line_feed (bs ++ b ∷ [])) ≡ count_by begins_character (since_line_feed bs) = columns_push bs b l ∙ rw e (omega arith) in
        rw (l, e) (place _ _ _ _ (omega arith) (omega arith))

pub place_step : (bs : List ℕ) (i : ℕ) (p q : Place) → i < length bs → p ≡ place_behind (take i bs) → q ≡ past_byte p (get_or bs i 0) → q ≡ place_behind (take (i + 1) bs)
place_step bs i p q h e f = f ∙ (ap (λ r. past_byte r (get_or bs i 0)) e ∙ (sym (place_behind-push (take i bs) (get_or bs i 0)) ∙ ap place_behind (sym (take_more bs i 0 h))))
