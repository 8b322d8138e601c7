-- Where the line of the empty clause ends in a text.
use Rattle.std.proofs.Common.{◌≡◌, ℕ, zero, suc, ◌+◌, ◌<◌, ◌≤◌, Bool, true, false, ◌||◌, List, [], ◌∷◌, ◌++◌, length, inl, inr, refl, ap, sym, ◌∙◌, subst, nat_eq, arith, append_assoc, length-append}
use Rattle.std.specs.Prelude.{◌⊎◌, Ok, Err}
use Rattle.std.specs.declared.result.Result.{Result}
use Rattle.std.specs.List.{AllZip}
use Rattle.std.proofs.lemmas.Bool.Decides.{eqb_tells}
use Rattle.std.proofs.lemmas.List.Elements.{All-nil, All-cons, All-append}
use Rattle.std.proofs.lemmas.List.Splits.{slice_split_none}
use Rattle.lrat_lines.specs.Lines.{Line, IsLine, Text, lines_of, without_last_empty}
use Rattle.lrat_lines.specs.Judge.{Clauses, Cause, judge, is_last, checks_from}
use Rattle.lrat_lines.specs.Replay.{Verdict, ComesTo, but_last, ended_lines}
use Rattle.lrat_lines.specs.Replay.Fault.{Because}
use Rattle.lrat_lines.specs.Replay.Verdict.{Accepted, Refused, Undecided}
use Rattle.lrat_lines.proofs.Readings.{one_reading}
use Rattle.lrat_replay.specs.Line.{HasNoEnd}
use Rattle.lrat_replay.proofs.Splitting.{ended_lines-line, lines_of-line}

-- bytes that are a proof from these clauses on
abbrev pub Proves : Clauses → List ℕ → Type 0
Proves db bytes = (ls : List Line) × (last : Line) × Text bytes (ls ++ last ∷ []) × (checks_from db (ls ++ last ∷ []) ≡ true) × ¬ (checks_from db ls ≡ true)

-- such bytes, ended by LF, are a front of the text, and fewer than so many are behind them
abbrev pub Found : Clauses → List ℕ → ℕ → Type 0
Found db text most = (proof : List ℕ) × (behind : List ℕ) × (text ≡ proof ++ behind) × Proves db proof × ((line : List ℕ) × (proof ≡ line ++ 10 ∷ [])) × (length behind < most)

-- a text has a first LF, or none
first_line : (text : List ℕ) → HasNoEnd text ⊎ ((line : List ℕ) × (behind : List ℕ) × (text ≡ line ++ 10 ∷ behind) × HasNoEnd line)
first_line [] = inl (All-nil (λ (b : ℕ). nat_eq b 10 ≡ false))
first_line (b ∷ bs) = by (eqb_tells b 10) (first_line bs)
  where
    by : ((nat_eq b 10 ≡ true) × (b ≡ 10)) ⊎ ((nat_eq b 10 ≡ false) × (b ≡ 10 → ⊥))
        → HasNoEnd bs ⊎ ((line : List ℕ) × (behind : List ℕ) × (bs ≡ line ++ 10 ∷ behind) × HasNoEnd line)
        → HasNoEnd (b ∷ bs) ⊎ ((line : List ℕ) × (behind : List ℕ) × (b ∷ bs ≡ line ++ 10 ∷ behind) × HasNoEnd line)
    by (inl t) later = inr ([], bs, ap (λ (x : ℕ). x ∷ bs) t.1, All-nil (λ (c : ℕ). nat_eq c 10 ≡ false))
    by (inr t) (inl none) = inl (All-cons (λ (c : ℕ). nat_eq c 10 ≡ false) b bs t.0 none)
    by (inr t) (inr (line, behind, e, none)) = inr (b ∷ line, behind, ap (λ (x : List ℕ). b ∷ x) e, All-cons (λ (c : ℕ). nat_eq c 10 ≡ false) b line t.0 none)

-- what a judged line comes to
abbrev On : ℕ → List (List ℕ) → Result Clauses Cause → Bool → Verdict → Type 0
On n rest r last v = elim r as (λ _. Type 0) [ Err cause ↦ v ≡ Refused n (Because cause) | Ok next ↦ elim last as (λ _. Type 0) [ true ↦ v ≡ Accepted | false ↦ ComesTo next (n + 1) rest v ] ]

-- whether lines check from a judged one on
abbrev Rest : Line → List Line → Result Clauses Cause → Bool
Rest l ls r = elim r as (λ _. Bool) [ Err cause ↦ false | Ok next ↦ is_last l || checks_from next ls ]

module _ (db : Clauses) (n : ℕ) (line : List ℕ) where
  -- where lines are accepted, the first of them checks, and is the last one that counts or leaves that to the others
  accepted_step : (rest : List (List ℕ)) → ComesTo db n (line ∷ rest) Accepted
      → (l : Line) × IsLine line l × (next : Clauses) × (judge db l ≡ Ok next) × ((is_last l ≡ true) ⊎ ((is_last l ≡ false) × ComesTo next (n + 1) rest Accepted))
  accepted_step rest (inl h) = let e = h.1 in cc
  accepted_step rest (inr (l, is, h)) = by (judge db l) (is_last l) refl refl h
    where
      by : (r : Result Clauses Cause) (b : Bool) → judge db l ≡ r → is_last l ≡ b → On n rest r b Accepted
          → (l : Line) × IsLine line l × (next : Clauses) × (judge db l ≡ Ok next) × ((is_last l ≡ true) ⊎ ((is_last l ≡ false) × ComesTo next (n + 1) rest Accepted))
      by (Err cause) b e f k = cc
      by (Ok next) true e f k = (l, is, next, e, inl f)
      by (Ok next) false e f k = (l, is, next, e, inr (f, k))

  -- where some lines behind the first one leave the verdict open and others accept, it checks and leaves it to them
  open_step : (less more : List (List ℕ)) → ComesTo db n (line ∷ less) Undecided → ComesTo db n (line ∷ more) Accepted
      → (l : Line) × IsLine line l × (next : Clauses) × (judge db l ≡ Ok next) × (is_last l ≡ false) × ComesTo next (n + 1) less Undecided × ComesTo next (n + 1) more Accepted
  open_step less more (inl h) k = let e = h.1 in cc
  open_step less more (inr (l, is, h)) (inl k) = let e = k.1 in cc
  open_step less more (inr (l, is, h)) (inr (m, other, k)) =
      let same : m ≡ l = one_reading line m l other is in
      by (judge db l) (is_last l) refl refl h (subst (λ (x : Line). On n more (judge db x) (is_last x) Accepted) same k)
    where
      by : (r : Result Clauses Cause) (b : Bool) → judge db l ≡ r → is_last l ≡ b → On n less r b Undecided → On n more r b Accepted
          → (l : Line) × IsLine line l × (next : Clauses) × (judge db l ≡ Ok next) × (is_last l ≡ false) × ComesTo next (n + 1) less Undecided × ComesTo next (n + 1) more Accepted
      by (Err cause) b e f u k = cc
      by (Ok next) true e f u k = cc
      by (Ok next) false e f u k = (l, is, next, e, f, u, k)

module _ (db : Clauses) (line : List ℕ) (l : Line) (is : IsLine line l) (next : Clauses) (judged : judge db l ≡ Ok next) where
  -- one line that adds the empty clause
  proof_here : (bytes : List ℕ) → lines_of bytes ≡ line ∷ [] → is_last l ≡ true → Proves db bytes
  proof_here bytes lines last = (
    [],
    l,
    subst (λ (ls : List (List ℕ)). AllZip IsLine ls (l ∷ [])) (sym lines) (is, tt),
    ap (Rest l []) judged ∙ ap (λ (b : Bool). b || false) last,
    λ h. cc,
  )

  -- another line, and a proof behind it
  proof_next : (bytes : List ℕ) → HasNoEnd line → is_last l ≡ false → Proves next bytes → Proves db (line ++ 10 ∷ bytes)
  proof_next bytes none undone (ls, last, text, checks, not) =
      let passes : (ks : List Line) → checks_from db (l ∷ ks) ≡ checks_from next ks = λ ks. ap (Rest l ks) judged ∙ ap (λ (b : Bool). b || checks_from next ks) undone in (
        l ∷ ls,
        last,
        subst (λ (x : List (List ℕ)). AllZip IsLine x (l ∷ (ls ++ last ∷ []))) (sym (lines_of-line line bytes none)) (is, text),
        passes (ls ++ last ∷ []) ∙ checks,
        λ h. not (sym (passes ls) ∙ h),
      )

  -- the line ends in the text
  found_here : (behind : List ℕ) (most : ℕ) → HasNoEnd line → is_last l ≡ true → length behind < most → Found db (line ++ 10 ∷ behind) most
  found_here behind most none last few =
      (line ++ 10 ∷ [], behind, sym (append_assoc line (10 ∷ []) behind), proof_here (line ++ 10 ∷ []) (lines_of-line line [] none) last, (line, refl), few)

  -- it ends behind another line
  found_next : (text : List ℕ) (less most : ℕ) → HasNoEnd line → is_last l ≡ false → less ≤ most → Found next text less → Found db (line ++ 10 ∷ text) most
  found_next text less most none undone within (proof, behind, e, proves, (end, f), few) = (
    line ++ 10 ∷ proof,
    behind,
    ap (λ (x : List ℕ). line ++ 10 ∷ x) e ∙ sym (append_assoc line (10 ∷ proof) behind),
    proof_next proof none undone proves,
    (line ++ 10 ∷ end, ap (λ (x : List ℕ). line ++ 10 ∷ x) f ∙ sym (append_assoc line (10 ∷ end) (10 ∷ []))),
    omega arith,
  )

-- bytes without LF end no line
none_ended : (bytes : List ℕ) → HasNoEnd bytes → ended_lines bytes ≡ []
none_ended bytes none = ap but_last (slice_split_none (λ b. nat_eq b 10) bytes none)

-- the first line that ends in a piece, where the lines behind it are settled
piece_more : (db : Clauses) (n : ℕ) (begun piece line behind : List ℕ) → piece ≡ line ++ 10 ∷ behind → HasNoEnd begun → HasNoEnd line
    → ((next : Clauses) → ComesTo next (n + 1) (ended_lines behind) Accepted → Found next behind (length behind))
    → ComesTo db n (ended_lines (begun ++ piece)) Accepted → Found db (begun ++ piece) (length piece)
piece_more db n begun piece line behind cut none_begun none_line later h =
    let whole : (begun ++ line) ++ 10 ∷ behind ≡ begun ++ piece = append_assoc begun line (10 ∷ behind) ∙ ap (λ (x : List ℕ). begun ++ x) (sym cut) in
    let none : HasNoEnd (begun ++ line) = All-append (λ b. nat_eq b 10 ≡ false) begun line none_begun none_line in
    let lines : ended_lines (begun ++ piece) ≡ (begun ++ line) ∷ ended_lines behind = ap ended_lines (sym whole) ∙ ended_lines-line (begun ++ line) behind none in
    let long : length piece ≡ length line + suc (length behind) = ap length cut ∙ length-append line (10 ∷ behind) in
    subst (λ (x : List ℕ). Found db x (length piece)) whole (by none (omega arith) (omega arith) (accepted_step db n (begun ++ line) (ended_lines behind) (subst (λ (ls : List (List ℕ)). ComesTo db n ls Accepted) lines h)))
  where
    by : HasNoEnd (begun ++ line) → length behind < length piece → length behind ≤ length piece
        → (l : Line) × IsLine (begun ++ line) l × (next : Clauses) × (judge db l ≡ Ok next) × ((is_last l ≡ true) ⊎ ((is_last l ≡ false) × ComesTo next (n + 1) (ended_lines behind) Accepted))
        → Found db ((begun ++ line) ++ 10 ∷ behind) (length piece)
    by none few within (l, is, next, judged, inl last) = found_here db (begun ++ line) l is next judged behind (length piece) none last few
    by none few within (l, is, next, judged, inr (undone, k)) = found_next db (begun ++ line) l is next judged behind (length behind) (length piece) none undone within (later next k)

-- what has begun ends in the piece
in_piece : (fuel : ℕ) (db : Clauses) (n : ℕ) (begun piece : List ℕ) → length piece < fuel → HasNoEnd begun → ComesTo db n (ended_lines (begun ++ piece)) Accepted → Found db (begun ++ piece) (length piece)
in_piece zero db n begun piece few none h = absurd (omega arith)
in_piece (suc fuel) db n begun piece few none h = elim (first_line piece) as (λ _. Found db (begun ++ piece) (length piece)) [
  | inl clean ↦ (
      let e = none_ended (begun ++ piece) (All-append (λ b. nat_eq b 10 ≡ false) begun piece none clean) in
      let undecided : Accepted ≡ Undecided = subst (λ (ls : List (List ℕ)). ComesTo db n ls Accepted) e h in
      cc)
  | inr t ↦ (
      let long : length piece ≡ length t.0 + suc (length t.1) = ap length t.2 ∙ length-append t.0 (10 ∷ t.1) in
      piece_more db n begun piece t.0 t.1 t.2 none t.3 (λ next k. in_piece fuel next (n + 1) [] t.1 (omega arith) (All-nil (λ (b : ℕ). nat_eq b 10 ≡ false)) k) h)
]

-- a line of the front, where the lines behind it are settled
front_more : (db : Clauses) (n : ℕ) (front piece line rest : List ℕ) → front ≡ line ++ 10 ∷ rest → HasNoEnd line
    → ((next : Clauses) → ComesTo next (n + 1) (ended_lines rest) Undecided → ComesTo next (n + 1) (ended_lines (rest ++ piece)) Accepted → Found next (rest ++ piece) (length piece))
    → ComesTo db n (ended_lines front) Undecided → ComesTo db n (ended_lines (front ++ piece)) Accepted → Found db (front ++ piece) (length piece)
front_more db n front piece line rest cut none later u h =
    let whole : line ++ 10 ∷ (rest ++ piece) ≡ front ++ piece = sym (append_assoc line (10 ∷ rest) piece) ∙ ap (λ (x : List ℕ). x ++ piece) (sym cut) in
    let less : ended_lines front ≡ line ∷ ended_lines rest = ap ended_lines cut ∙ ended_lines-line line rest none in
    let more : ended_lines (front ++ piece) ≡ line ∷ ended_lines (rest ++ piece) = ap ended_lines (sym whole) ∙ ended_lines-line line (rest ++ piece) none in
    let s = open_step db n line (ended_lines rest) (ended_lines (rest ++ piece)) (subst (λ (ls : List (List ℕ)). ComesTo db n ls Undecided) less u) (subst (λ (ls : List (List ℕ)). ComesTo db n ls Accepted) more h) in
    subst (λ (x : List ℕ). Found db x (length piece)) whole (found_next db line s.0 s.1 s.2 s.3 (rest ++ piece) (length piece) (length piece) none s.4 (omega arith) (later s.2 s.5 s.6))

-- The lines that the front ends leave the verdict open, and those that end in the piece behind it accept.
pub past_front : (fuel : ℕ) (db : Clauses) (n : ℕ) (front piece : List ℕ) → length front < fuel → ComesTo db n (ended_lines front) Undecided → ComesTo db n (ended_lines (front ++ piece)) Accepted → Found db (front ++ piece) (length piece)
past_front zero db n front piece few u h = absurd (omega arith)
past_front (suc fuel) db n front piece few u h = elim (first_line front) as (λ _. Found db (front ++ piece) (length piece)) [
  | inl none ↦ in_piece (suc (length piece)) db n front piece (omega arith) none h
  | inr t ↦ (
      let long : length front ≡ length t.0 + suc (length t.1) = ap length t.2 ∙ length-append t.0 (10 ∷ t.1) in
      front_more db n front piece t.0 t.1 t.2 t.3 (λ next v k. past_front fuel next (n + 1) t.1 piece (omega arith) v k) u h)
]

-- the last line, which no LF ends
last_begun : (db : Clauses) (n : ℕ) (begun : List ℕ) → HasNoEnd begun → ComesTo db n (lines_of begun) Accepted → Proves db begun
last_begun db n [] none h = let e : Accepted ≡ Undecided = h in cc
last_begun db n (b ∷ bs) none h =
    let lines : lines_of (b ∷ bs) ≡ (b ∷ bs) ∷ [] = ap without_last_empty (slice_split_none (λ b. nat_eq b 10) (b ∷ bs) none) in
    by lines (accepted_step db n (b ∷ bs) [] (subst (λ (ls : List (List ℕ)). ComesTo db n ls Accepted) lines h))
  where
    by : lines_of (b ∷ bs) ≡ (b ∷ bs) ∷ []
        → (l : Line) × IsLine (b ∷ bs) l × (next : Clauses) × (judge db l ≡ Ok next) × ((is_last l ≡ true) ⊎ ((is_last l ≡ false) × ComesTo next (n + 1) [] Accepted))
        → Proves db (b ∷ bs)
    by lines (l, is, next, judged, inl last) = proof_here db (b ∷ bs) l is next judged (b ∷ bs) lines last
    by lines (l, is, next, judged, inr (undone, k)) = let e : Accepted ≡ Undecided = k in cc

-- a line of a whole text, where the lines behind it are settled
end_more : (db : Clauses) (n : ℕ) (text line rest : List ℕ) → text ≡ line ++ 10 ∷ rest → HasNoEnd line
    → ((next : Clauses) → ComesTo next (n + 1) (ended_lines rest) Undecided → ComesTo next (n + 1) (lines_of rest) Accepted → Proves next rest)
    → ComesTo db n (ended_lines text) Undecided → ComesTo db n (lines_of text) Accepted → Proves db text
end_more db n text line rest cut none later u h =
    let less : ended_lines text ≡ line ∷ ended_lines rest = ap ended_lines cut ∙ ended_lines-line line rest none in
    let more : lines_of text ≡ line ∷ lines_of rest = ap lines_of cut ∙ lines_of-line line rest none in
    let s = open_step db n line (ended_lines rest) (lines_of rest) (subst (λ (ls : List (List ℕ)). ComesTo db n ls Undecided) less u) (subst (λ (ls : List (List ℕ)). ComesTo db n ls Accepted) more h) in
    subst (Proves db) (sym cut) (proof_next db line s.0 s.1 s.2 s.3 rest none s.4 (later s.2 s.5 s.6))

-- The lines that are ended leave the verdict open, and all of them accept.
pub at_end : (fuel : ℕ) (db : Clauses) (n : ℕ) (text : List ℕ) → length text < fuel → ComesTo db n (ended_lines text) Undecided → ComesTo db n (lines_of text) Accepted → Proves db text
at_end zero db n text few u h = absurd (omega arith)
at_end (suc fuel) db n text few u h = elim (first_line text) as (λ _. Proves db text) [
  | inl none ↦ last_begun db n text none h
  | inr t ↦ (
      let long : length text ≡ length t.0 + suc (length t.1) = ap length t.2 ∙ length-append t.0 (10 ∷ t.1) in
      end_more db n text t.0 t.1 t.2 t.3 (λ next v k. at_end fuel next (n + 1) t.1 (omega arith) v k) u h)
]
