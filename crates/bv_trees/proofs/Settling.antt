-- How what waits is left.
use Rattle.std.proofs.Common.{◌≡◌, ℕ, suc, true, ◌-◌, List, [], ◌∷◌, ◌++◌, length, Option, None, refl, sym, ap, arith, ◌∙◌, append_assoc, append-nil, length-append}
use Rattle.std.specs.Prelude.{if◌then◌else◌}
use Rattle.bv_trees.specs.declared.pieces.Piece.{Piece}
use Rattle.bv_trees.specs.declared.building.Frame.{Frame}
use Rattle.bv_trees.specs.declared.building.Frame.TheVariants as frame
use Rattle.bv_trees.specs.Building.{Building, closing, close, piece_of, method_of, settle, complete, leaves, front}

abbrev pub st : List Frame → Option ℕ → Option ℕ → ℕ → List Piece → Building
st fs m g n ps = record { frames = fs; method = m; goal = g; names = n; pieces = ps }

-- all of these have their operands where a term ends
pub data Inner : List Frame → Type 0 where
  none : Inner []
  one : {f : Frame} {fs : List Frame} → leaves f ≡ true → Inner fs → Inner (f ∷ fs)

no_method : (f : Frame) → leaves f ≡ true → method_of f ≡ None
no_method (frame.Prefix w i) e = refl
no_method (frame.Infix w i) e = refl
no_method (frame.Otherwise i) e = refl
no_method (frame.Choice i) e = cc
no_method (frame.Bracket m) e = cc

abbrev pub unwound : List Frame → List Piece
unwound [] = []
unwound (f ∷ fs) = piece_of f ++ unwound fs

pub four : (a b c d : List Piece) → (a ++ (b ++ c)) ++ d ≡ a ++ (b ++ (c ++ d))
four a b c d = append_assoc a (b ++ c) d ∙ ap (λ v. a ++ v) (append_assoc b c d)

-- what is left of these: the last of them gives back its method
pub settled : (es fs : List Frame) (m g : Option ℕ) (n : ℕ) (ps : List Piece) → Inner es
    → (m' : Option ℕ) × (ps' : List Piece) × (settle (length es) (st (es ++ fs) m g n ps) ≡ st fs m' g n ps') × (ps' ++ closing m' ≡ ps ++ (closing m ++ unwound es))
settled [] fs m g n ps none = (m, ps, refl, ap (λ v. ps ++ v) (sym (append-nil (closing m))))
settled (f ∷ es) fs m g n ps (one e h) =
    let r = settled es fs (method_of f) g n ((ps ++ closing m) ++ piece_of f) h in
    let same : closing (method_of f) ≡ [] = ap closing (no_method f e) in
    (r.0, r.1, r.2, r.3 ∙ ap (λ v. ((ps ++ closing m) ++ piece_of f) ++ (v ++ unwound es)) same ∙ append_assoc (ps ++ closing m) (piece_of f) (unwound es) ∙ append_assoc ps (closing m) (piece_of f ++ unwound es))

-- a bracket behind them gives back its method
pub settled_bracket : (es fs : List Frame) (m μ g : Option ℕ) (n : ℕ) (ps : List Piece) → Inner es
    → settle (suc (length es)) (st (es ++ frame.Bracket μ ∷ fs) m g n ps) ≡ st fs μ g n (ps ++ (closing m ++ unwound es))
settled_bracket [] fs m μ g n ps none = ap (λ v. st fs μ g n v) (append_assoc ps (closing m) [])
settled_bracket (f ∷ es) fs m μ g n ps (one e h) =
    let same : closing (method_of f) ≡ [] = ap closing (no_method f e) in
    settled_bracket es fs (method_of f) μ g n ((ps ++ closing m) ++ piece_of f) h
    ∙ ap (λ v. st fs μ g n v) (ap (λ v. ((ps ++ closing m) ++ piece_of f) ++ (v ++ unwound es)) same ∙ append_assoc (ps ++ closing m) (piece_of f) (unwound es) ∙ append_assoc ps (closing m) (piece_of f ++ unwound es))

over_length : (es fs : List Frame) (k : ℕ) → k ≡ length fs → length (es ++ fs) - k ≡ length es
over_length es fs k e = omega (arith, length-append es fs, e)

-- all of them are left, and the method has its arguments
pub completed : (es fs : List Frame) (m g : Option ℕ) (n k : ℕ) (ps qs : List Piece) → Inner es → k ≡ length fs → ps ++ (closing m ++ unwound es) ≡ qs → complete k (st (es ++ fs) m g n ps) ≡ st fs None g n qs
completed es fs m g n k ps qs h e f =
    let r = settled es fs m g n ps h in
    ap (λ j. close (settle j (st (es ++ fs) m g n ps))) (over_length es fs k e) ∙ ap close r.2 ∙ ap (λ v. st fs None g n v) (r.3 ∙ f)

pub left_quiet : (es fs : List Frame) (m g : Option ℕ) (n k : ℕ) (ps qs : List Piece) → Inner es → k ≡ length fs → ps ++ (closing m ++ unwound es) ≡ qs
    → (m' : Option ℕ) × (ps' : List Piece) × (settle (length (es ++ fs) - k) (st (es ++ fs) m g n ps) ≡ st fs m' g n ps') × (ps' ++ closing m' ≡ qs)
left_quiet es fs m g n k ps qs h e f =
    let r = settled es fs m g n ps h in
    (r.0, r.1, ap (λ j. settle j (st (es ++ fs) m g n ps)) (over_length es fs k e) ∙ r.2, r.3 ∙ f)

one_more_length : (es fs : List Frame) (f : Frame) (k : ℕ) → k ≡ length fs → length (es ++ f ∷ fs) - k ≡ suc (length es)
one_more_length es fs f k e = omega (arith, length-append es (f ∷ fs), e)

pub left_bracket : (es fs : List Frame) (m μ g : Option ℕ) (n k : ℕ) (ps qs : List Piece) → Inner es → k ≡ length fs → ps ++ (closing m ++ unwound es) ≡ qs
    → settle (length (es ++ frame.Bracket μ ∷ fs) - k) (st (es ++ frame.Bracket μ ∷ fs) m g n ps) ≡ st fs μ g n qs
left_bracket es fs m μ g n k ps qs h e f =
    ap (λ j. settle j (st (es ++ frame.Bracket μ ∷ fs) m g n ps)) (one_more_length es fs (frame.Bracket μ) k e) ∙ settled_bracket es fs m μ g n ps h ∙ ap (λ v. st fs μ g n v) f

-- one more behind them
pub inner_behind : {es : List Frame} (f : Frame) → Inner es → leaves f ≡ true → Inner (es ++ f ∷ [])
inner_behind f none e = one e none
inner_behind f (one d h) e = one d (inner_behind f h e)

pub unwound_behind : (es : List Frame) (f : Frame) → unwound (es ++ f ∷ []) ≡ unwound es ++ piece_of f
unwound_behind [] f = append-nil (piece_of f)
unwound_behind (e ∷ es) f = ap (λ v. piece_of e ++ v) (unwound_behind es f) ∙ sym (append_assoc (piece_of e) (unwound es) (piece_of f))

-- where none behind them has its operands, so many are left at the end
pub front_is : (es fs : List Frame) → Inner es → front fs ≡ 0 → front (es ++ fs) ≡ length es
front_is [] fs none e = e
front_is (f ∷ es) fs (one d h) e = ap (λ q. if q then suc (front (es ++ fs)) else 0) d ∙ ap suc (front_is es fs h e)

pub ends_with : (es fs : List Frame) (m g : Option ℕ) (n : ℕ) (ps qs : List Piece) → Inner es → front fs ≡ 0 → ps ++ (closing m ++ unwound es) ≡ qs → (close (settle (front (es ++ fs)) (st (es ++ fs) m g n ps))).pieces ≡ qs
ends_with es fs m g n ps qs h e f =
    let r = settled es fs m g n ps h in
    ap (λ j. (close (settle j (st (es ++ fs) m g n ps))).pieces) (front_is es fs h e) ∙ ap (λ s. (close s).pieces) r.2 ∙ r.3 ∙ f
