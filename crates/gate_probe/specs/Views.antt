-- What a seat has seen: a finite map from places to words, as a list with 0 where it has seen none, and
-- the number of its loads and claims.
use Rattle.std.specs.Prelude.{ℕ, zero, suc, ◌+◌, List, [], ◌∷◌}
use Rattle.gate_probe.specs.declared.view.View.{View}

abbrev pub view : List ℕ → ℕ → View
view seen steps = record { seen = seen; beside = []; steps = steps }

-- two views that are about to become one: what the other has seen lies beside
abbrev pub both : View → View → View
both v w = record { seen = v.seen; beside = w.seen; steps = v.steps + w.steps }

abbrev pub put : List ℕ → ℕ → ℕ → List ℕ
put [] zero w = w ∷ []
put [] (suc s) w = 0 ∷ put [] s w
put (x ∷ xs) zero w = w ∷ xs
put (x ∷ xs) (suc s) w = x ∷ put xs s w

-- a place where 0 was found is not seen
abbrev pub learnt : List ℕ → ℕ → ℕ → List ℕ
learnt seen s zero = seen
learnt seen s (suc w) = put seen s (suc w)

abbrev pub either_word : ℕ → ℕ → ℕ
either_word zero y = y
either_word (suc x) y = suc x

abbrev pub union : List ℕ → List ℕ → List ℕ
union [] ys = ys
union (x ∷ xs) [] = x ∷ xs
union (x ∷ xs) (y ∷ ys) = either_word x y ∷ union xs ys

-- the view after a load or a claim that found or wrote this word
abbrev pub stepped : View → ℕ → ℕ → View
stepped v s w = view (learnt v.seen s w) (v.steps + 1)

abbrev pub merged : View → View
merged v = view (union v.seen v.beside) v.steps
