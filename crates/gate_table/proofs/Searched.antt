-- What a search by a seat ends with, and which words it may want.
use Rattle.std.proofs.Common.{◌≡◌, ℕ, ◌+◌, ◌-◌, ◌<◌, ◌≤◌, max, List, false, sym, ap, ap₂, ◌∙◌, subst, arith, None, mod-lt}
use Rattle.gate_shape.specs.Literal.{Literal}
use Rattle.gate_shape.specs.Edge.{gate_level}
use Rattle.gate_shape.specs.Word.{gate_word, key_less, simple_literal}
use Rattle.gate_shape.specs.Builds.{Known}
use Rattle.gate_probe.specs.declared.prober.Move.TheVariants.{Found, Full}
use Rattle.gate_probe.specs.Words.{word_at, level_at, key_in}
use Rattle.gate_probe.specs.Sound.{home, probed, IsWithin, IsPart}
use Rattle.gate_probe.specs.Moves.{Probe, IsMove}
use Rattle.gate_probe.specs.Searching.{IsTold, IsSearching}
use Rattle.gate_probe.proofs.Keeping.{gate_more}
use Rattle.gate_probe.proofs.Searching.{reaches}
use Rattle.gate_probe.proofs.Meaning.{meant_level, gate_wanted}
use Rattle.gate_table.specs.Seats.{SeatState, known_by, sees_first, table_numbers}
use Rattle.gate_table.specs.Searches.{IsWanted, IsAt, IsMissed}
use Rattle.gate_table.specs.Answers.{gate_of}

pub found_at : (seen : List ℕ) (p : Probe) (word node : ℕ) (l : Literal) → IsSearching seen p → p.last ≡ Found node → p.word ≡ word → l ≡ record { node = node; sign = false } → IsAt seen word l
found_at seen p word node l h last e is =
    let m : IsMove p (Found node) = subst (IsMove p) last h.move in
    let t : IsTold seen p.word (Found node) = subst (IsTold seen p.word) last h.told in
    let le = m.1 in
    let n : node ≡ 8193 + (node - 8193) = omega arith in
    (node - 8193, is ∙ ap (λ k. record { node = k; sign = false }) n, t ∙ e)

pub missed : (seen : List ℕ) (p : Probe) (n word : ℕ) → IsSearching seen p → p.last ≡ Full → p.places ≡ n → p.word ≡ word → p.from < n → IsMissed n seen word
missed seen p n word h last e w f s l =
    let m : p.passed ≡ p.places = subst (IsMove p) last h.move in
    let r = reaches n p.from s l f in
    let k-in : r.0 < p.passed = (let x = r.1 in omega arith) in
    let o = h.others r.0 k-in in
    let place : probed p.places p.from r.0 ≡ s = ap (λ x. probed x p.from r.0) e ∙ r.2 in
    ((λ z. o.0 (ap (word_at seen) place ∙ z)), (λ z. o.1 (ap (word_at seen) place ∙ z ∙ sym w)))

pub home_small : (n : ℕ) (left right : Literal) → 1 ≤ n → home n left right < n
home_small n left right h = mod-lt _ (omega arith)

pub wanted_more : (seen more : List ℕ) (left right : Literal) (lev : ℕ) → IsWithin seen more → IsWanted seen left right lev → IsWanted more left right lev
wanted_more seen more left right lev in' w = record { gate = gate_more seen more (gate_word lev left right) in' w.gate; left_small = w.left_small; right_small = w.right_small; low = w.low; high = w.high }

pub wanted : (s : SeatState) → IsPart s.view.seen → (left right : Literal) → Known (known_by s) left → Known (known_by s) right → left.node < 4194304 → right.node < 4194304 → simple_literal left right ≡ None
    → key_less (key_in s.view.seen right) (key_in s.view.seen left) ≡ false → (lev : ℕ) → lev ≡ gate_level (gate_of (known_by s) left right) → lev < 262144 → IsWanted s.view.seen left right lev
unfolding gate_level
wanted s part left right kl kr x y apart order lev is small =
    let f = sees_first s.table.words s.view.seen in let b = table_numbers s.table in
    let l = meant_level s.view.seen f b part left kl in
    let r = meant_level s.view.seen f b part right kr in
    let levels : lev ≡ 1 + max (level_at s.view.seen left.node) (level_at s.view.seen right.node) = is ∙ sym (ap₂ (λ p q. 1 + max p q) l r) in
    record { gate = gate_wanted s.view.seen f b part lev left right x y kl kr apart order levels; left_small = x; right_small = y; low = omega arith; high = omega arith }
