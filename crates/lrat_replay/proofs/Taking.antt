-- How much is taken of a source, read by read.
use Rattle.std.proofs.Common.{◌≡◌, ℕ, ◌+◌, ◌≤◌, Bool, false, List, [], ◌++◌, length, take, refl, ap, sym, ◌∙◌, subst, arith, append_assoc, length-append}
use Rattle.std.specs.Prelude.{Option, None, Some, Result, Ok, Err, IfOk}
use Rattle.std.proofs.lemmas.List.{length-take-le}
use Rattle.bvd_host.specs.Given.{Gives}
use Rattle.lrat_replay.specs.Taken.{TookAtMost}
use Rattle.lrat_replay.specs.declared.stop.ReplayStop.{ReplayStop}

-- A read takes as many bytes as it gives.
pub took_read : (old new : Option (List ℕ)) (n most : ℕ) (buf : List ℕ) → Gives old new n buf → n ≤ length buf → n ≤ most → TookAtMost old new most
took_read None None n most buf gives within few = gives
took_read (Some text) (Some rest) n most buf gives within few =
    let long : length (take n buf) ≡ n = length-take-le n buf within in
    (take n buf, gives.0, omega arith)
took_read None (Some rest) n most buf gives within few = absurd gives
took_read (Some text) None n most buf gives within few = absurd gives

-- Where nothing is taken.
pub took_none : (old new : Option (List ℕ)) (most : ℕ) → new ≡ old → TookAtMost old new most
took_none old new most e = subst (λ (o : Option (List ℕ)). TookAtMost old o most) (sym e) (same old)
  where
    same : (old : Option (List ℕ)) → TookAtMost old old most
    same None = tt
    same (Some text) = ([], refl, omega arith)

-- One after the other.
pub took_more : (a b c : Option (List ℕ)) (m n most : ℕ) → TookAtMost a b m → TookAtMost b c n → m + n ≤ most → TookAtMost a c most
took_more None None None m n most h k few = h
took_more (Some x) (Some y) (Some z) m n most h k few =
    let long : length (h.0 ++ k.0) ≡ length h.0 + length k.0 = length-append h.0 k.0 in
    (h.0 ++ k.0, h.1 ∙ ap (λ (t : List ℕ). h.0 ++ t) k.1 ∙ sym (append_assoc h.0 k.0 z), omega (arith, h.2, k.2))
took_more None None (Some z) m n most h k few = absurd k
took_more None (Some y) c m n most h k few = absurd h
took_more (Some x) None c m n most h k few = absurd h
took_more (Some x) (Some y) None m n most h k few = absurd k

-- What holds where a step goes on, with more.
pub where_open : (r : Result Bool ReplayStop) (P Q : Type 0) → (P → Q) → IfOk r (λ ended. ended ≡ false → P) → IfOk r (λ ended. ended ≡ false → Q)
where_open (Ok ended) P Q more h = λ e. more (h e)
where_open (Err stop) P Q more h = tt
