-- Texts that begin with others, and what a text leaves that is cut off behind its front.
use Rattle.std.proofs.Common.{◌≡◌, ℕ, List, [], ◌++◌, length, take, sym, ◌∙◌, ap, append_assoc, append-nil, OnOk, OnErr, Ok, Err}
use Rattle.std.specs.Prelude.{Result, is_ok, if◌then◌else◌}
use Rattle.std.proofs.Math.Seq.{take-append_seam}
use Rattle.bv_print.specs.Values.{Begins}

-- what is appended to
pub appended : (front more text : List ℕ) → text ≡ front ++ more → Begins front text
appended front more text h = record { more = more; is = h }

-- what stays as it is
pub unchanged : (front text : List ℕ) → text ≡ front → Begins front text
unchanged front text h = record { more = []; is = h ∙ sym (append-nil front) }

-- what is appended to twice
pub through : (front middle text : List ℕ) → Begins front middle → Begins middle text → Begins front text
through front middle text first second = record {
  more = first.more ++ second.more;
  is = second.is ∙ (ap (λ t. t ++ second.more) first.is ∙ append_assoc front first.more second.more);
}

-- what is cut off behind the front
pub cut_back : (front text : List ℕ) → Begins front text → take (length front) text ≡ front
cut_back front text begins = ap (take (length front)) begins.is ∙ take-append_seam front begins.more

-- what holds anyway holds after a refusal
pub where_err : {T E : Type 0} → (r : Result T E) (P : Type 0) → P → OnErr r P
where_err (Ok x) P p = tt
where_err (Err e) P p = p

-- what follows after an Ok from what was appended
pub where_extended : {T E : Type 0} → (r : Result T E) (old more new : List ℕ) (Q : Type 0) → new ≡ (if is_ok r then old ++ more else old) → (new ≡ old ++ more → Q) → OnOk r Q
where_extended (Ok x) old more new Q e f = f e
where_extended (Err x) old more new Q e f = tt

-- what follows after an Err
pub from_err : {T E : Type 0} → (r : Result T E) (P Q : Type 0) → (P → Q) → OnErr r P → OnErr r Q
from_err (Ok x) P Q f p = tt
from_err (Err e) P Q f p = f p
