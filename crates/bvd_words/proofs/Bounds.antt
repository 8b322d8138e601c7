-- Numbers of options are within their bounds.
use Rattle.std.proofs.Common.{◌≡◌, ℕ, ◌≤◌, Bool, true, false, refl, Some, None, arith, List}
use Rattle.std.specs.Prelude.{Option, IfSome, if◌then◌else◌, ◌&&◌, nat_le, length}
use Rattle.std.specs.List.{list_all}
use Rattle.std.proofs.lemmas.Bool.Decides.{nat_tests}
use Rattle.bvd_words.specs.Requests.{is_digit, number_or, value_from}

guarded : (b : Bool) (v most : ℕ) → (b ≡ true → v ≤ most) → IfSome (if b then Some v else None) (λ n. n ≤ most)
guarded true v most h = h refl
guarded false v most h = tt

last_holds : (a b c d e : Bool) → (a && b && c && d && e) ≡ true → e ≡ true
last_holds a b c d true h = refl
last_holds true true true true false h = h
last_holds false b c d false h = h
last_holds true false c d false h = h
last_holds true true false d false h = h
last_holds true true true false false h = h

pub number_or_most : (default least most : ℕ) (text : Option (List ℕ)) → default ≤ most → IfSome (number_or default least most text) (λ n. n ≤ most)
number_or_most default least most None h = h
number_or_most default least most (Some text) h =
    guarded (nat_le 1 (length text) && nat_le (length text) 10 && list_all is_digit text && nat_le least (value_from 0 text) && nat_le (value_from 0 text) most) (value_from 0 text) most
    (λ e.
    let last : nat_le (value_from 0 text) most ≡ true = last_holds (nat_le 1 (length text)) (nat_le (length text) 10) (list_all is_digit text) (nat_le least (value_from 0 text)) (nat_le (value_from 0 text) most) e in
    grind (arith, nat_tests))
