-- The certificates of a run stay under their names, and the other files stay as they were.
use Rattle.std.proofs.Common.{◌≡◌, ℕ, suc, ◌+◌, ◌<◌, ◌≤◌, ◌^◌, Bool, true, false, cond, List, [], ◌∷◌, ◌++◌, length, refl, sym, ap, ◌∙◌, arith, Some}
use Rattle.std.specs.Prelude.{⊤, All, codes, decimal}
use Rattle.std.specs.Ordering.{nat_cmp, is_eq, eq_by_cmp}
use Rattle.std.specs.Cmp.Lexicographic.{slice_cmp, nat_list_cmp_total}
use Rattle.std.specs.FinMap as fin
use Rattle.std.proofs.lemmas.Cmp.{tied_itself}
use Rattle.std.proofs.lemmas.Fmt.{decimal_injective}
use Rattle.std.proofs.lemmas.List.{append_cancel_left, append_cancel_right}
use Rattle.std.proofs.lemmas.List.Elements.{All-head, All-tail}
use Rattle.std.proofs.lemmas.Map.Text.{is_eq-slice_cmp}
use Rattle.std.proofs.lemmas.Slice.Eq.{bytes_eq-Decides}
use Rattle.bvd_host.specs.Files.{Files, file_at, with_file}
use Rattle.bvd_report.specs.Report.{Told, Proved, Line, with_certificate, certificates_of}
use Rattle.bvd_top.specs.Names.{numbered}
use Rattle.bvd_top.specs.Storing.{with_all}

apart_untied : (x y : List ℕ) → ¬ (x ≡ y) → eq_by_cmp (slice_cmp nat_cmp) x y ≡ false
apart_untied x y apart = go (eq_by_cmp (slice_cmp nat_cmp) x y) refl
  where
    go : (b : Bool) → eq_by_cmp (slice_cmp nat_cmp) x y ≡ b → eq_by_cmp (slice_cmp nat_cmp) x y ≡ false
    go true e = absurd (apart ((bytes_eq-Decides x y).0 (sym (is_eq-slice_cmp x y) ∙ e)))
    go false e = e

-- a file that was written is there
there : (f : Files) (name bytes : List ℕ) → file_at (with_file f name bytes) name ≡ Some bytes
there f name bytes = fin.get-insert nat_list_cmp_total f name bytes name ∙ ap (λ b. cond b (Some bytes) (file_at f name)) (ap is_eq (tied_itself nat_list_cmp_total name))

-- a file of another name stays
elsewhere : (f : Files) (name bytes other : List ℕ) → ¬ (other ≡ name) → file_at (with_file f name bytes) other ≡ file_at f other
elsewhere f name bytes other apart = fin.get-insert nat_list_cmp_total f name bytes other ∙ ap (λ b. cond b (Some bytes) (file_at f other)) (apart_untied other name apart)

-- a file stays whose name none of those has that are written
pub stays : (all : List (List ℕ × List ℕ)) (f : Files) (name : List ℕ) → All (λ file. ¬ (name ≡ file.0)) all → file_at (with_all all f) name ≡ file_at f name
stays [] f name apart = refl
stays (file ∷ rest) f name apart =
    stays rest (with_file f file.0 file.1) name (All-tail (λ (other : List ℕ × List ℕ). ¬ (name ≡ other.0)) file rest apart)
    ∙ elsewhere f file.0 file.1 name (All-head (λ (other : List ℕ × List ℕ). ¬ (name ≡ other.0)) file rest apart)

-- the certificates of two goals have two names
own_name : (j k : ℕ) → j < k → k < 2 ^ 64 → ¬ (numbered j ≡ numbered k)
own_name j k lt small e =
    let ends : decimal j ++ codes ".lrat" ≡ decimal k ++ codes ".lrat" = append_cancel_left (codes "goal-") (decimal j ++ codes ".lrat") (decimal k ++ codes ".lrat") e in
    let numbers : decimal j ≡ decimal k = append_cancel_right (decimal j) (decimal k) (codes ".lrat") ends in
    let same : j ≡ k = decimal_injective j k (omega arith) small numbers in
    omega arith

-- the certificates of goals are named by their numbers, from k on
abbrev pub AreNumbered : ℕ → List Line → Type 0
AreNumbered k [] = ⊤
AreNumbered k (line ∷ lines) = (line.certificate ≡ numbered k) × AreNumbered (k + 1) lines

-- a goal's certificate, where it has one, and others leave that of an earlier goal
next_stays : (j k : ℕ) (name : List ℕ) (told : Told) (others : List (List ℕ × List ℕ)) (f : Files) → name ≡ numbered k → j < k → k < 2 ^ 64
    → ((g : Files) → file_at (with_all others g) (numbered j) ≡ file_at g (numbered j))
    → file_at (with_all (with_certificate name told others) f) (numbered j) ≡ file_at f (numbered j)
next_stays j k name (Proved text) others f named lt small rest =
    rest (with_file f name text) ∙ elsewhere f name text (numbered j) (λ e. own_name j k lt small (e ∙ named))
next_stays j k name told others f named lt small rest = rest f

-- the certificates of later goals leave that of an earlier one
earlier_stays : (j k : ℕ) (lines : List Line) (f : Files) → AreNumbered k lines → j < k → k + length lines ≤ 2 ^ 64 → file_at (with_all (certificates_of lines) f) (numbered j) ≡ file_at f (numbered j)
earlier_stays j k [] f are lt small = refl
earlier_stays j k (line ∷ lines) f are lt small =
    next_stays j k line.certificate line.told (certificates_of lines) f are.0 lt (omega arith) (λ g. earlier_stays j (k + 1) lines g are.1 (omega arith) (omega arith))

-- where a goal is told proved, the file of its certificate holds the text
abbrev pub IsKept : Files → List ℕ → Told → Type 0
IsKept files name (Proved text) = file_at files name ≡ Some text
IsKept files name told = ⊤

abbrev pub AreKept : Files → List Line → Type 0
AreKept files [] = ⊤
AreKept files (line ∷ lines) = IsKept files line.certificate line.told × AreKept files lines

kept_line : (lines : List Line) (k : ℕ) (f : Files) (name : List ℕ) (told : Told) → name ≡ numbered k → AreNumbered (k + 1) lines → k + suc (length lines) ≤ 2 ^ 64
    → ((g : Files) → AreKept (with_all (certificates_of lines) g) lines)
    → IsKept (with_all (with_certificate name told (certificates_of lines)) f) name told × AreKept (with_all (with_certificate name told (certificates_of lines)) f) lines
kept_line lines k f name (Proved text) named are small rest =
    let now : Files = with_file f name text in
    let stays_there : file_at (with_all (certificates_of lines) now) (numbered k) ≡ file_at now (numbered k) = earlier_stays k (k + 1) lines now are (omega arith) (omega arith) in
    let here : file_at now (numbered k) ≡ Some text = ap (file_at now) (sym named) ∙ there f name text in
    (ap (file_at (with_all (certificates_of lines) now)) named ∙ stays_there ∙ here, rest now)
kept_line lines k f name told named are small rest = (tt, rest f)

-- all certificates that a run writes are there behind it
pub all_kept : (lines : List Line) (k : ℕ) (f : Files) → AreNumbered k lines → k + length lines ≤ 2 ^ 64 → AreKept (with_all (certificates_of lines) f) lines
all_kept [] k f are small = tt
all_kept (line ∷ lines) k f are small = kept_line lines k f line.certificate line.told are.0 are.1 small (λ g. all_kept lines (k + 1) g are.1 (omega arith))
