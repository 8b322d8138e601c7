-- A run that had no memory for its words.
use Rattle.std.proofs.Common.{◌≡◌, ℕ, List, sym, subst}
use Rattle.bvd_host.specs.Outside.{Outside}
use Rattle.bvd_top.proofs.Endings.{wanting}
use Rattle.bvd_top.specs.Ending.{Ending}
use Rattle.bvd_words.specs.Requests.{request_of}

-- it ends so where it began
pub wanted_at_once : (words : List (List ℕ)) (here : Outside) (status : ℕ) → status ≡ 7 → Ending words here here status
wanted_at_once words here status is_7 = subst (Ending words here here) (sym is_7) (wanting (request_of words) here)
