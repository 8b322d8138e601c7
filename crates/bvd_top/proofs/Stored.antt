-- Files that are written one after the other.
use Rattle.std.proofs.Common.{◌≡◌, ℕ, List, [], ◌∷◌, ◌++◌, refl, sym, ap, ◌∙◌, append_assoc, append-nil, Some, None, Ok, Err, subst}
use Rattle.std.specs.Prelude.{Option, option_map, Result, OnOk, OnErr}
use Rattle.bvd_host.specs.Files.{Files, with_file}
use Rattle.cert_store.specs.CutShort.{IsCutShort}
use Rattle.bvd_report.specs.Report.{Told, Proved, Line, Part, goals_of, all_goals, with_certificate, certificates_of}
use Rattle.bvd_top.specs.Storing.{IsPartlyStored, IsStoredTo, text_of, with_all}

pub kept : (o : Option Files) → o ≡ option_map (with_all []) o
kept None = refl
kept (Some f) = refl

pub stored-start : (all : List (List ℕ × List ℕ)) (o : Option Files) → IsStoredTo all all o o
stored-start all o = record { whole = []; parted = refl; files = kept o }

-- all are written
pub stored-end : (all : List (List ℕ × List ℕ)) (before now : Option Files) → IsStoredTo all [] before now → now ≡ option_map (with_all all) before
stored-end all before now s = s.files ∙ ap (λ l. option_map (with_all l) before) (sym (s.parted ∙ append-nil s.whole))

with_all-append : (xs ys : List (List ℕ × List ℕ)) (f : Files) → with_all (xs ++ ys) f ≡ with_all ys (with_all xs f)
with_all-append [] ys f = refl
with_all-append (x ∷ xs) ys f = with_all-append xs ys (with_file f x.0 x.1)

option_append : (xs ys : List (List ℕ × List ℕ)) (o : Option Files) → option_map (with_all ys) (option_map (with_all xs) o) ≡ option_map (with_all (xs ++ ys)) o
option_append xs ys None = refl
option_append xs ys (Some f) = ap Some (sym (with_all-append xs ys f))

-- the next files are written
pub stored-many : (all xs rest : List (List ℕ × List ℕ)) (before mid new : Option Files)
    → IsStoredTo all (xs ++ rest) before mid → new ≡ option_map (with_all xs) mid → IsStoredTo all rest before new
stored-many all xs rest before mid new s e = record {
  whole = s.whole ++ xs;
  parted = s.parted ∙ sym (append_assoc s.whole xs rest);
  files = e ∙ ap (option_map (with_all xs)) s.files ∙ option_append s.whole xs before;
}

-- some of the next files are written, and one of them is cut short
pub stored-many_cut : (all xs rest : List (List ℕ × List ℕ)) (before mid new : Option Files)
    → IsStoredTo all (xs ++ rest) before mid → IsPartlyStored xs mid new → IsPartlyStored all before new
stored-many_cut all xs rest before mid new s p = record {
  whole = s.whole ++ p.whole;
  next = p.next;
  others = p.others ++ rest;
  parted = s.parted ∙ ap (λ l. s.whole ++ (l ++ rest)) p.parted ∙ ap (λ l. s.whole ++ l) (append_assoc p.whole (p.next ∷ p.others) rest)
      ∙ sym (append_assoc s.whole p.whole (p.next ∷ (p.others ++ rest)));
  files = subst (λ o. IsCutShort p.next.0 p.next.1 o new) (ap (option_map (with_all p.whole)) s.files ∙ option_append s.whole p.whole before) p.files;
}

with_certificate-append : (name : List ℕ) (told : Told) (xs ys : List (List ℕ × List ℕ)) → with_certificate name told (xs ++ ys) ≡ with_certificate name told xs ++ ys
with_certificate-append name (Proved text) xs ys = refl
with_certificate-append name told xs ys = refl

-- the certificates of goals and of those behind them
certificates_of-append : (xs ys : List Line) → certificates_of (xs ++ ys) ≡ certificates_of xs ++ certificates_of ys
certificates_of-append [] ys = refl
certificates_of-append (x ∷ xs) ys =
    ap (with_certificate x.certificate x.told) (certificates_of-append xs ys) ∙ with_certificate-append x.certificate x.told (certificates_of xs) (certificates_of ys)

-- the certificate of the next goal, and those behind it
next_line : (line : Line) (lines here : List Line) → here ≡ line ∷ lines → certificates_of here ≡ certificates_of (line ∷ []) ++ certificates_of lines
next_line line lines here is = ap certificates_of is ∙ with_certificate-append line.certificate line.told [] (certificates_of lines)

pub stored-line : (line : Line) (lines here : List Line) (all : List (List ℕ × List ℕ)) (before mid new : Option Files) → here ≡ line ∷ lines → IsStoredTo all (certificates_of here) before mid
    → new ≡ option_map (with_all (certificates_of (line ∷ []))) mid → IsStoredTo all (certificates_of lines) before new
stored-line line lines here all before mid new is s e =
    stored-many all (certificates_of (line ∷ [])) (certificates_of lines) before mid new (subst (λ l. IsStoredTo all l before mid) (next_line line lines here is) s) e

pub stored-line_cut : (line : Line) (lines here : List Line) (all : List (List ℕ × List ℕ)) (before mid new : Option Files) → here ≡ line ∷ lines → IsStoredTo all (certificates_of here) before mid
    → IsPartlyStored (certificates_of (line ∷ [])) mid new → IsPartlyStored all before new
stored-line_cut line lines here all before mid new is s cut =
    stored-many_cut all (certificates_of (line ∷ [])) (certificates_of lines) before mid new (subst (λ l. IsStoredTo all l before mid) (next_line line lines here is) s) cut

-- the certificates of the next part's goals, and those behind them
next_part : (part : Part) (parts here : List Part) (lines : List Line) → here ≡ part ∷ parts → lines ≡ goals_of part.found
    → certificates_of (all_goals here) ≡ certificates_of lines ++ certificates_of (all_goals parts)
next_part part parts here lines is of =
    ap (λ l. certificates_of (all_goals l)) is ∙ ap (λ l. certificates_of (l ++ all_goals parts)) (sym of) ∙ certificates_of-append lines (all_goals parts)

-- the certificates of a part are written
pub stored-part : (part : Part) (parts here : List Part) (lines : List Line) (all : List (List ℕ × List ℕ)) (before mid new : Option Files) → here ≡ part ∷ parts → lines ≡ goals_of part.found
    → IsStoredTo all (certificates_of (all_goals here)) before mid → new ≡ option_map (with_all (certificates_of lines)) mid → IsStoredTo all (certificates_of (all_goals parts)) before new
stored-part part parts here lines all before mid new is of s e =
    stored-many all (certificates_of lines) (certificates_of (all_goals parts)) before mid new (subst (λ l. IsStoredTo all l before mid) (next_part part parts here lines is of) s) e

-- some of them are
pub stored-part_cut : (part : Part) (parts here : List Part) (lines : List Line) (all : List (List ℕ × List ℕ)) (before mid new : Option Files) → here ≡ part ∷ parts → lines ≡ goals_of part.found
    → IsStoredTo all (certificates_of (all_goals here)) before mid → IsPartlyStored (certificates_of lines) mid new → IsPartlyStored all before new
stored-part_cut part parts here lines all before mid new is of s p =
    stored-many_cut all (certificates_of lines) (certificates_of (all_goals parts)) before mid new (subst (λ l. IsStoredTo all l before mid) (next_part part parts here lines is of) s) p

pub on_err : {T E : Type 0} (r : Result T E) (P : Type 0) → P → OnErr r P
on_err (Ok x) P p = tt
on_err (Err e) P p = p

-- one certificate is cut short
pub one_cut : (name text : List ℕ) (before after : Option Files) → IsCutShort name text before after → IsPartlyStored ((name, text) ∷ []) before after
one_cut name text before after cut = record {
  whole = [];
  next = (name, text);
  others = [];
  parted = refl;
  files = subst (λ o. IsCutShort name text o after) (kept before) cut;
}

-- what a goal leaves that is told proved by a text, and one that isn't
with_text : (name text : List ℕ) (told : Told) → text_of told ≡ Some text → with_certificate name told [] ≡ (name, text) ∷ []
with_text name text (Proved own) e = let same : own ≡ text = cc in ap (λ t. (name, t) ∷ []) same
with_text name text told e = absurd (cc)

without_text : (name : List ℕ) (told : Told) → text_of told ≡ None → with_certificate name told [] ≡ []
without_text name (Proved own) e = absurd (cc)
without_text name told e = refl

-- the certificate of a goal is written, where it has one
pub line_stored : (name text : List ℕ) (told : Told) (before after : Option Files) → text_of told ≡ Some text → after ≡ option_map (λ f. with_file f name text) before
    → after ≡ option_map (with_all (with_certificate name told [])) before
line_stored name text told before after is e = subst (λ l. after ≡ option_map (with_all l) before) (sym (with_text name text told is)) e

pub line_cut : (name text : List ℕ) (told : Told) (before after : Option Files) → text_of told ≡ Some text → IsCutShort name text before after
    → IsPartlyStored (with_certificate name told []) before after
line_cut name text told before after is cut = subst (λ l. IsPartlyStored l before after) (sym (with_text name text told is)) (one_cut name text before after cut)

pub line_left : (name : List ℕ) (told : Told) (files : Option Files) → text_of told ≡ None → files ≡ option_map (with_all (with_certificate name told [])) files
line_left name told files is = subst (λ l. files ≡ option_map (with_all l) files) (sym (without_text name told is)) (kept files)

pub err_then : {T E : Type 0} (r : Result T E) (P Q : Type 0) → (P → Q) → OnErr r P → OnErr r Q
err_then (Ok x) P Q f h = tt
err_then (Err e) P Q f h = f h

pub ok_only : {T E : Type 0} (r : Result T E) (P Q : Type 0) → (P → Q) → OnOk r P → OnOk r Q
ok_only (Ok x) P Q f h = f h
ok_only (Err e) P Q f h = tt
