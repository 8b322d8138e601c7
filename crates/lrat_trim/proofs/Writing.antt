-- Passing the lines of a log one after the other, where the marked ones are written.
use Rattle.std.proofs.Common.{◌≡◌, ℕ, ◌+◌, ◌<◌, ◌≤◌, ◌^◌, Bool, true, false, get_or, List, [], ◌∷◌, ◌++◌, length, map, refl, ap, sym, ◌∙◌, subst, arith, append_assoc, length-append}
use Rattle.std.proofs.lemmas.Grind.{flat_map-append}
use Rattle.std.proofs.lemmas.List.{append-nil, append_cancel_left, drop_all}
use Rattle.std.proofs.lemmas.List.Folds.{list_all-append}
use Rattle.sat_form.specs.Log.{Logged}
use Rattle.sat_form.proofs.Sets.{join}
use Rattle.lrat_lines.specs.Lines.{Line, is_id, is_writable, written, written_line}
use Rattle.lrat_lines.specs.Lines.Line.{Add}
use Rattle.lrat_trim.specs.Derivation.{IsLog, LogLine, are_earlier, logged_from}
use Rattle.lrat_trim.specs.Flat.{no_line}
use Rattle.lrat_trim.specs.Marks.{AreClosed, marked_from, moved_hints}
use Rattle.lrat_trim.specs.Passing.{IsPassing, IsRenumbered, Writes, all_marked, lines_left, rest_from}
use Rattle.lrat_trim.specs.Trim.{all_renumbered, renumbered}
use Rattle.lrat_trim.proofs.Marking.{line_earlier, rest_more}
use Rattle.lrat_trim.proofs.Positions.{all_last, as_logged, id_fits, marks_fit, passed_over, taken_over}

rest_whole : (m : ℕ) (lines : List LogLine) → rest_from m lines 0 ≡ logged_from (m + 1) lines
rest_whole m lines = ap (λ (n : ℕ). logged_from n lines) (let same : m + 1 + 0 ≡ m + 1 = omega arith in same)

-- No line is passed.
pub at_start : (m : ℕ) (lines : List LogLine) (marks : List Bool) (id : ℕ) → IsLog m lines → length marks ≡ length lines → AreClosed marks m 0 (logged_from (m + 1) lines) → id ≡ m + 1 → IsPassing m lines marks [] id
at_start m lines marks id log size closed is =
    let kept = all_marked m lines marks in
    record {
      log = log;
      size = size;
      within = omega arith;
      new = [];
      stands = record {
        size = refl;
        moved = λ j low. absurd (omega arith);
        count = refl;
        lines = ap (λ (ls : List Logged). map (renumbered m kept) (marked_from marks 0 ls)) (rest_whole m lines);
        closed = subst (λ (ls : List Logged). AreClosed marks m 0 ls) (sym (rest_whole m lines)) closed;
      };
      id_is = omega arith;
      fits = refl;
    }

-- All lines are left then.
pub all_left : (m : ℕ) (lines : List LogLine) (marks : List Bool) → lines_left m lines marks 0 ≡ all_renumbered m (all_marked m lines marks)
all_left m lines marks = ap (λ (ls : List Logged). map (renumbered m (all_marked m lines marks)) (marked_from marks 0 ls)) (rest_whole m lines)

-- None is left where all are passed.
pub none_left : (m : ℕ) (lines : List LogLine) (marks : List Bool) (at : ℕ) → length lines ≤ at → lines_left m lines marks at ≡ []
none_left m lines marks at over =
    ap (λ (ls : List LogLine). map (renumbered m (all_marked m lines marks)) (marked_from marks at (logged_from (m + 1 + at) ls))) (drop_all at lines over)

module _ (m : ℕ) (lines : List LogLine) (marks : List Bool) (ids : List ℕ) (id : ℕ) (old : IsPassing m lines marks ids id) (inside : length ids < length lines) where
  abbrev kept : List Logged
  kept = all_marked m lines marks

  abbrev line : LogLine
  line = get_or lines (length ids) no_line

  abbrev rest : List Logged
  rest = rest_from m lines (length ids + 1)

  abbrev line_here : ℕ → Line
  line_here n = Add n line.lits (moved_hints m ids line.hints)

  -- Its hints are earlier.
  pub hints_earlier : are_earlier (m + 1 + length ids) line.hints ≡ true
  hints_earlier = line_earlier (m + 1) lines (length ids) line no_line old.log.earlier inside refl

  stood : IsRenumbered m marks kept (length ids) (as_logged (m + 1 + length ids) line ∷ rest) ids old.new
  stood = subst (λ (x : List Logged). IsRenumbered m marks kept (length ids) x ids old.new) (rest_more m lines (length ids) line no_line inside refl) old.stands

  -- The new id may be written.
  below : id < 2 ^ 63
  below =
      let count = old.stands.count in
      let is = old.id_is in
      let few = marks_fit marks 0 (length ids) in
      let lines_fit = old.log.lines_fit in
      let inputs_fit = old.log.inputs_fit in
      omega arith

  pub fits : is_id id ≡ true
  fits = let is = old.id_is in let low = below in id_fits id (omega arith) (omega arith)

  behind : (new : List Line) (next : ℕ) → IsRenumbered m marks kept (length ids + 1) rest (ids ++ (m + length old.new + 1) ∷ []) new → next ≡ m + length new + 1 → IsPassing m lines marks (ids ++ id ∷ []) next
  behind new next stands is =
      let size : length (ids ++ id ∷ []) ≡ length ids + 1 = length-append ids (id ∷ []) in
      record {
        log = old.log;
        size = old.size;
        within = omega arith;
        new = new;
        stands = subst (λ (n : ℕ). IsRenumbered m marks kept n (rest_from m lines n) (ids ++ id ∷ []) new) (sym size)
            (subst (λ (n : ℕ). IsRenumbered m marks kept (length ids + 1) rest (ids ++ n ∷ []) new) (sym old.id_is) stands);
        id_is = is;
        fits = all_last is_id ids id old.fits fits;
      }

  -- A line that isn't marked.
  pub passed : get_or marks (length ids) false ≡ false → IsPassing m lines marks (ids ++ id ∷ []) id
  passed off = behind old.new id (passed_over m marks lines kept refl (length ids) line rest ids old.new inside hints_earlier stood off) old.id_is

  pub passed_text : get_or marks (length ids) false ≡ false → (out : List ℕ) → Writes (lines_left m lines marks (length ids)) (lines_left m lines marks (length ids + 1)) out out
  passed_text off out =
      let over = passed_over m marks lines kept refl (length ids) line rest ids old.new inside hints_earlier stood off in
      ([], append_cancel_left old.new (lines_left m lines marks (length ids)) (lines_left m lines marks (length ids + 1)) (old.stands.lines ∙ sym over.lines), sym (append-nil out), refl)

  -- A marked line.
  pub taken : (next : ℕ) → get_or marks (length ids) false ≡ true → next ≡ id + 1 → IsPassing m lines marks (ids ++ id ∷ []) next
  taken next on is =
      let n = m + length old.new + 1 in
      let size : length (old.new ++ line_here n ∷ []) ≡ length old.new + 1 = length-append old.new (line_here n ∷ []) in
      let here = old.id_is in
      behind (old.new ++ line_here n ∷ []) next (taken_over m marks lines kept refl (length ids) line rest ids old.new inside hints_earlier stood on) (omega arith)

  pub taken_text : get_or marks (length ids) false ≡ true → (out longer : List ℕ) → longer ≡ out ++ written_line (line_here id) → is_writable (line_here id) ≡ true
      → Writes (lines_left m lines marks (length ids)) (lines_left m lines marks (length ids + 1)) out longer
  taken_text on out longer text may =
      let n = m + length old.new + 1 in
      let over = taken_over m marks lines kept refl (length ids) line rest ids old.new inside hints_earlier stood on in
      let left = lines_left m lines marks (length ids + 1) in
      let first : lines_left m lines marks (length ids) ≡ line_here n ∷ left =
      append_cancel_left old.new (lines_left m lines marks (length ids)) (line_here n ∷ left) (old.stands.lines ∙ sym over.lines ∙ append_assoc old.new (line_here n ∷ []) left) in (
        line_here id ∷ [],
        first ∙ ap (λ (k : ℕ). line_here k ∷ left) (sym old.id_is),
        text ∙ ap (λ (z : List ℕ). out ++ z) (sym (append-nil (written_line (line_here id)))),
        all_last is_writable [] (line_here id) refl may,
      )

-- Nothing is written.
pub writes_none : (old : List Line) (out : List ℕ) → Writes old old out out
writes_none old out = ([], refl, sym (append-nil out), refl)

-- What is written in two parts.
pub writes_more : (old between new : List Line) (before middle last : List ℕ) → Writes old between before middle → Writes between new middle last → Writes old new before last
writes_more old between new before middle last one two =
    let first = one.0 in
    let second = two.0 in (
      first ++ second,
      one.1 ∙ ap (λ (z : List Line). first ++ z) two.1 ∙ sym (append_assoc first second new),
      two.2 ∙ ap (λ (z : List ℕ). z ++ written second) one.2 ∙ append_assoc before (written first) (written second) ∙ ap (λ (z : List ℕ). before ++ z) (sym (flat_map-append written_line first second)),
      list_all-append is_writable first second ∙ join _ _ one.3 two.3,
    )

-- All is written where nothing is left.
pub all_written : (old new : List Line) (before last : List ℕ) (writes : Writes old new before last) → new ≡ [] → writes.0 ≡ old
all_written old new before last writes none = sym (append-nil writes.0) ∙ sym (ap (λ (z : List Line). writes.0 ++ z) none) ∙ sym writes.1
