-- How a run ends, from how its steps ended.
use Rattle.std.proofs.Common.{◌≡◌, ◌⊎◌, inl, inr, ℕ, ◌≤◌, List, [], ◌∷◌, ◌++◌, take, refl, sym, ap, ◌∙◌, subst, arith, append-nil, Some, None, Err}
use Rattle.std.specs.Prelude.{Option, Result, Ok, option_map, IfOk}
use Rattle.bvd_host.specs.Files.{Files}
use Rattle.bvd_host.specs.Causes.{Rose, HasCause}
use Rattle.bvd_host.specs.Outside.{Outside}
use Rattle.bvd_words.specs.Requests.{Request}
use Rattle.bvd_report.specs.Report.{Part, certificates, status_of}
use Rattle.bvd_top.specs.declared.stop.Stop.{Stop}
use Rattle.bvd_top.specs.declared.stop.Stop.TheVariants.{Device, Memory}
use Rattle.bvd_top.specs.Words.{usage}
use Rattle.bvd_top.specs.Storing.{IsPartlyStored, with_all}
use Rattle.bvd_top.specs.Stated.{Stated, File, IsStated, AreStated}
use Rattle.bvd_top.specs.Parts.{AreFound, AreAnswered, ArePartsOf}
use Rattle.bvd_top.specs.Scheduled.{report_of}
use Rattle.bvd_top.specs.Ending.{Stops, Tells, Untold, Finishes, AnsweredIf, status_in}
use Rattle.bvd_top.proofs.Rising.{rose_later, rose_earlier}
use Rattle.bvd_top.proofs.GoalsTold.{parts_later}

stated_later : (files : Option Files) (m n : Type 0) (name : List ℕ) (s : Stated) → (m → n) → IsStated files m name s → IsStated files n name s
stated_later None m n name s f (inl p) = inl (p.0, f p.1)
stated_later None m n name s f (inr p) = inr p
stated_later (Some files) m n name s f is = is

all_stated_later : (files : Option Files) (m n : Type 0) (names : List (List ℕ)) (stated : List File) → (m → n) → AreStated files m names stated → AreStated files n names stated
all_stated_later files m n [] [] f are = tt
all_stated_later files m n [] (file ∷ rest) f are = are
all_stated_later files m n (name ∷ names) [] f are = are
all_stated_later files m n (name ∷ names) (file ∷ rest) f are = (are.0, stated_later files m n name file.stated f are.1, all_stated_later files m n names rest f are.2)

-- the same is told from where the same was written
tells_from : (text : List ℕ) (own : ℕ) (mid before after : Outside) (status : ℕ) → mid.written ≡ before.written → mid.sink_faults ≡ before.sink_faults → Tells text own mid after status
    → Tells text own before after status
tells_from text own mid before after status written sink (inl t) = inl (t.0 ∙ ap (option_map (λ w. w ++ text)) written, t.1, t.2 ∙ sink)
tells_from text own mid before after status written sink (inr (n, part, told, stops)) =
    inr (n, part, told ∙ ap (option_map (λ w. w ++ take n text)) written, subst (λ k. Stops k after.sink_faults status) sink stops)

-- the files were read and parsed, and then their goals were answered
pub parts_found : (request : Request) (files mid : Option Files) (m0 m1 m2 : ℕ) (stated : List File) (parts : List Part) → AreStated files (Rose m0 m1) request.files stated
    → mid ≡ files → m0 ≤ m1 → m1 ≤ m2 → AreAnswered request mid (Rose m1 m2) stated parts → ArePartsOf files (Rose m0 m2) request parts
parts_found request files mid m0 m1 m2 stated parts read same h k found = (
  stated,
  all_stated_later files (Rose m0 m1) (Rose m0 m2) request.files stated (rose_later m0 m1 m2 k) read,
  parts_later request files (Rose m1 m2) (Rose m0 m2) 1 stated parts (rose_earlier m0 m1 m2 h) (subst (λ f. AreFound request f (Rose m1 m2) 1 stated parts) same found.0),
  found.1,
)

pub stopped : (e : Stop) (before now : ℕ) → HasCause {T = Unit {0}} Device before now (Err e) → Stops before now (status_in (Err e))
stopped Device before now cause = inl (refl, record { rose = cause.failed refl; later = cause.later; once = cause.once })
stopped Memory before now cause = inr (refl, cause.spared (λ is. absurd cc))

-- no file was found missing behind the answers
pub found_at : (request : Request) (files : Option Files) (m0 m1 m2 : ℕ) (stated : List File) (parts : List Part) → m2 ≡ m1 → AreAnswered request files (Rose m0 m1) stated parts
    → AreAnswered request files (Rose m0 m2) stated parts
found_at request files m0 m1 m2 stated parts same found = subst (λ n. AreAnswered request files (Rose m0 n) stated parts) (sym same) found

-- the goals were answered, and a certificate isn't written to its end
pub unstored : (are : List Part → Type 0) (request : Request) (before after : Outside) (mid_files : Option Files) (mid_faults : ℕ) (parts : List Part) (e : Stop)
    → are parts → mid_files ≡ before.files → mid_faults ≡ before.keeper_faults → IsPartlyStored (certificates parts) mid_files after.files → Untold before after
    → HasCause {T = Unit {0}} Device mid_faults after.keeper_faults (Err e) → Finishes are request before after (status_in (Err e))
unstored are request before after mid_files mid_faults parts e found same faults stored untold cause =
    inr (inl (record {
      parts = parts;
      found = found;
      stored = inr (subst (λ o. IsPartlyStored (certificates parts) o after.files) same stored);
      untold = untold;
      stops = subst (λ n. Stops n after.keeper_faults (status_in (Err e))) faults (stopped e mid_faults after.keeper_faults cause);
    }))

-- the certificates are written, and the report or a part of it
pub reported : (are : List Part → Type 0) (request : Request) (before after : Outside) (mid_files : Option Files) (mid_faults : ℕ) (parts : List Part) (text : List ℕ) (own status : ℕ)
    → are parts → mid_files ≡ before.files → after.files ≡ option_map (with_all (certificates parts)) mid_files → mid_faults ≡ before.keeper_faults → after.keeper_faults ≡ mid_faults
    → text ≡ report_of request parts → own ≡ status_of parts → Tells text own before after status → Finishes are request before after status
reported are request before after mid_files mid_faults parts text own status found same stored faults kept written own_is tells =
    inr (inr (record {
      parts = parts;
      found = found;
      stored = stored ∙ ap (option_map (with_all (certificates parts))) same;
      keeper_stays = kept ∙ faults;
      tells = subst (λ l. Tells l (status_of parts) before after status) written (subst (λ n. Tells text n before after status) own_is tells);
    }))

-- a run goes on from where its files are stated
pub goes_on : (are all : List Part → Type 0) (request : Request) (before mid after : Outside) (status : ℕ) → ((parts : List Part) → are parts → all parts) → mid.files ≡ before.files
    → mid.written ≡ before.written → mid.keeper_faults ≡ before.keeper_faults → mid.sink_faults ≡ before.sink_faults → Finishes are request mid after status → Finishes all request before after status
goes_on are all request before mid after status f files written keeper sink (inl u) = inl (record {
  files_stay = u.files_stay ∙ files;
  untold = record { nothing_told = u.untold.nothing_told ∙ written; sink_stays = u.untold.sink_stays ∙ sink };
  stops = subst (λ n. Stops n after.keeper_faults status) keeper u.stops;
})
goes_on are all request before mid after status f files written keeper sink (inr (inl u)) = inr (inl (record {
  parts = u.parts;
  found = f u.parts u.found;
  stored = subst (λ o. (after.files ≡ o) ⊎ IsPartlyStored (certificates u.parts) o after.files) files u.stored;
  untold = record { nothing_told = u.untold.nothing_told ∙ written; sink_stays = u.untold.sink_stays ∙ sink };
  stops = subst (λ n. Stops n after.keeper_faults status) keeper u.stops;
}))
goes_on are all request before mid after status f files written keeper sink (inr (inr r)) = inr (inr (record {
  parts = r.parts;
  found = f r.parts r.found;
  stored = r.stored ∙ ap (option_map (with_all (certificates r.parts))) files;
  keeper_stays = r.keeper_stays ∙ keeper;
  tells = tells_from (report_of request r.parts) (status_of r.parts) mid before after status written sink r.tells;
}))

same_text : (w : Option (List ℕ)) (text : List ℕ) → w ≡ option_map (λ t. t ++ take 0 text) w
same_text None text = refl
same_text (Some t) text = ap Some (sym (append-nil t))

-- memory was wanting before anything was done
pub wanting : (o : Option Request) (here : Outside) → AnsweredIf o here here 7
wanting None here = record {
  files_stay = refl;
  keeper_stays = refl;
  missing_stays = refl;
  tells = inr (0, omega arith, same_text here.written usage, inr (refl, refl));
}
wanting (Some request) here = inl (record { files_stay = refl; untold = record { nothing_told = refl; sink_stays = refl }; stops = inr (refl, refl) })

-- what follows for what is found, where something is
pub ok_then : {T E : Type 0} (P Q : T → Type 0) → ((t : T) → P t → Q t) → (r : Result T E) → IfOk r P → IfOk r Q
ok_then P Q f (Ok t) h = f t h
ok_then P Q f (Err e) h = h
