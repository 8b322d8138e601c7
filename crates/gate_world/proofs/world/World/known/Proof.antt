-- The field says only that there is a proof of `IsWorld`. An entailment is a proposition, so that proof may be opened in front of the walk that Rattle made.
use seplogic.Bi.Basic.{Entails-prop}
use mathlib.Core.Logic.{∥∥₁_elim}
use base.Logic.{via, mono_r}
use denote.Triple.Entry.{on_entry}
use borrow.Fn.Kinds.{sig_of}
use contract.Monad.{fact_mono}
use Rattle.gate_world.specs.Shown.{IsWorld, goals_of}
use Rattle.gate_world.proofs.world.World.known.Statement.{statement}
use Rattle.gate_world.proofs.world.World.known.Lts as lts
use Rattle.gate_world.proofs.world.World.known.Reads as reads
use Rattle.gate_world.proofs.world.World.known.Tie as tie

pub known_spec : {M : Type 1} → statement M
known_spec {M} =
    tie.close (λ 𝓤 𝓛 𝓣 y.
    ∥∥₁_elim y.0.3.0.now.reached (Entails-prop 𝓤.op _ _) (λ kept.
    via 𝓤 _ (mono_r 𝓤 (on_entry 𝓛 (sig_of 2 lts.ps lts.r) y.0.0 y.0.1 y.0.3 y.0.4) (fact_mono 𝓤 _ (IsWorld (goals_of y.0.3.0.now) y.0.3.0.now.words.items y.0.3.0.now.budget y.0.3.0.now.tasks.items) (λ _. kept)))
    (lts.spec (λ κs a. IsWorld (goals_of a.0.now) a.0.now.words.items a.0.now.budget a.0.now.tasks.items) reads.Post (λ c. c.requires) 𝓤 𝓛 𝓣 y)))
