-- The line of counts in the pieces that are appended.
use Rattle.std.proofs.Common.{◌≡◌, ◌++◌, ◌∙◌, ℕ, List, codes, decimal, ap, append_assoc, OnOk}
use Rattle.std.specs.Prelude.{Result, is_ok, if◌then◌else◌}
use Rattle.bvd_report.proofs.Fronts.{where_extended}

joined : (out g a b c s k z x y : List ℕ) → ((((out ++ g) ++ (a ++ s ++ x ++ k)) ++ (b ++ s ++ y ++ k)) ++ c) ++ z ≡ out ++ (g ++ a ++ s ++ x ++ k ++ b ++ s ++ y ++ k ++ c ++ z)
joined out g a b c s k z x y = simp append_assoc

pub counted : {T E : Type 0} → (r : Result T E) (out first second third fourth last holds fails : List ℕ) (h i j m n o : ℕ) → h ≡ m → i ≡ n → j ≡ o
    → first ≡ out ++ codes "goals: " → second ≡ first ++ (decimal h ++ codes " " ++ holds ++ codes ", ") → third ≡ second ++ (decimal i ++ codes " " ++ fails ++ codes ", ")
    → fourth ≡ third ++ decimal j → last ≡ (if is_ok r then fourth ++ codes " other\n" else fourth)
    → OnOk r (last ≡ out ++ (codes "goals: " ++ decimal m ++ codes " " ++ holds ++ codes ", " ++ decimal n ++ codes " " ++ fails ++ codes ", " ++ decimal o ++ codes " other\n"))
counted r out first second third fourth last holds fails h i j m n o hm in_n jo a b c d e =
    let held : second ≡ first ++ (decimal m ++ codes " " ++ holds ++ codes ", ") = b ∙ ap (λ v. first ++ (decimal v ++ codes " " ++ holds ++ codes ", ")) hm in
    let failed : third ≡ second ++ (decimal n ++ codes " " ++ fails ++ codes ", ") = c ∙ ap (λ v. second ++ (decimal v ++ codes " " ++ fails ++ codes ", ")) in_n in
    let others : fourth ≡ third ++ decimal o = d ∙ ap (λ v. third ++ decimal v) jo in
    where_extended r fourth (codes " other\n") last (last ≡ out ++ (codes "goals: " ++ decimal m ++ codes " " ++ holds ++ codes ", " ++ decimal n ++ codes " " ++ fails ++ codes ", " ++ decimal o ++ codes " other\n")) e
    (λ end. end ∙ (ap (λ l. l ++ codes " other\n") (others ∙ ap (λ l. l ++ decimal o) (failed ∙ ap (λ l. l ++ (decimal n ++ codes " " ++ fails ++ codes ", ")) (held ∙ ap (λ l. l ++ (decimal m ++ codes " " ++ holds ++ codes ", ")) a)))
    ∙ joined out (codes "goals: ") (decimal m) (decimal n) (decimal o) (codes " ") (codes ", ") (codes " other\n") holds fails))
