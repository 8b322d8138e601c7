-- Files that are read one after the other.
use Rattle.std.proofs.Common.{◌≡◌, ℕ, ◌+◌, ◌<◌, ◌≤◌, List, [], ◌∷◌, ◌++◌, length, take, map, suc, get_or, refl, sym, ap, ◌∙◌, subst, arith, Some, None}
use Rattle.std.specs.Prelude.{Option}
use Rattle.std.proofs.Math.Seq.{take-suc}
use Rattle.std.proofs.lemmas.List.{map-append}
use Rattle.bvd_host.specs.Files.{Files}
use Rattle.bvd_host.specs.Causes.{Rose}
use Rattle.bvd_top.specs.declared.reading.FileRead.{FileRead}
use Rattle.bvd_top.specs.declared.reading.FileRead.TheVariants.{Absent, TooLong, Bytes}
use Rattle.bvd_top.specs.declared.reading.Read.{Read}
use Rattle.bvd_top.specs.Reading.{IsRead, AreRead}
use Rattle.bvd_top.proofs.Rising.{rose_later, rose_earlier}

-- the next item of those that are gone over
pub next_taken : {A : Type 0} (xs : List A) (i : ℕ) (x : A) → i < length xs → x ≡ get_or xs i x → take (i + 1) xs ≡ take i xs ++ x ∷ []
next_taken xs i x h is =
    let up : i + 1 ≡ suc i = omega arith in
    ap (λ n. take n xs) up ∙ (take-suc xs i x h ∙ ap (λ y. take i xs ++ y ∷ []) (sym is))

pub names_next : {A : Type 0} (f : A → List ℕ) (ns : List A) (i : ℕ) (d : A) → i < length ns → map f (take (i + 1) ns) ≡ map f (take i ns) ++ f (get_or ns i d) ∷ []
names_next f ns i d h =
    let up : i + 1 ≡ suc i = omega arith in
    ap (λ n. map f (take n ns)) up ∙ ap (map f) (take-suc ns i d h) ∙ map-append f (take i ns) (get_or ns i d ∷ [])

read_later : (most : ℕ) (files : Option Files) (m n : Type 0) (name : List ℕ) (r : FileRead) → (m → n) → IsRead most files m name r → IsRead most files n name r
read_later most None m n name Absent f is = f is
read_later most None m n name TooLong f is = is
read_later most None m n name (Bytes v) f is = is
read_later most (Some files) m n name r f is = is

reads_later : (most : ℕ) (files : Option Files) (m n : Type 0) (names : List (List ℕ)) (reads : List Read) → (m → n) → AreRead most files m names reads → AreRead most files n names reads
reads_later most files m n [] [] f are = tt
reads_later most files m n [] (read ∷ reads) f are = are
reads_later most files m n (name ∷ names) [] f are = are
reads_later most files m n (name ∷ names) (read ∷ reads) f are = (are.0, read_later most files m n name read.content f are.1, reads_later most files m n names reads f are.2)

-- a file more is read
reads_more : (most : ℕ) (files : Option Files) (missing : Type 0) (names : List (List ℕ)) (reads : List Read) (read : Read) → AreRead most files missing names reads
    → IsRead most files missing read.path.now read.content → AreRead most files missing (names ++ read.path.now ∷ []) (reads ++ read ∷ [])
reads_more most files missing [] [] read are is = (refl, is, tt)
reads_more most files missing [] (r ∷ reads) read are is = absurd are
reads_more most files missing (name ∷ names) [] read are is = absurd are
reads_more most files missing (name ∷ names) (r ∷ reads) read are is = (are.0, are.1, reads_more most files missing names reads read are.2 is)

-- the next file is read
pub read_next : (most : ℕ) (files mid : Option Files) (m0 m1 m2 : ℕ) (here after : List (List ℕ)) (reads new : List Read) (read : Read) → AreRead most files (Rose m0 m1) here reads → mid ≡ files
    → m0 ≤ m1 → m1 ≤ m2 → IsRead most mid (Rose m1 m2) read.path.now read.content → after ≡ here ++ read.path.now ∷ [] → new ≡ reads ++ read ∷ [] → AreRead most files (Rose m0 m2) after new
read_next most files mid m0 m1 m2 here after reads new read are same h k is names now =
    let before = reads_later most files (Rose m0 m1) (Rose m0 m2) here reads (rose_later m0 m1 m2 k) are in
    let this = read_later most files (Rose m1 m2) (Rose m0 m2) read.path.now read.content (rose_earlier m0 m1 m2 h)
    (subst (λ f. IsRead most f (Rose m1 m2) read.path.now read.content) same is) in
    subst (λ n. AreRead most files (Rose m0 m2) n new) (sym names)
    (subst (AreRead most files (Rose m0 m2) (here ++ read.path.now ∷ [])) (sym now) (reads_more most files (Rose m0 m2) here reads read before this))
