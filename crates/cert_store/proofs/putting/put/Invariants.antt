use Rattle.std.proofs.Common.{◌≡◌, ◌-◌, ◌≤◌, length, take}
use Rattle.std.specs.Prelude.{option_map}
use Rattle.bvd_host.specs.Files.{with_file}
use Rattle.cert_store.proofs.putting.put.Given as goal

-- the first bytes stand in the file, and nothing else has changed
abbrev pub invariant-pieces : goal.invariant-pieces
invariant-pieces g l = record {
  files : g.K.Keeper.files l.keeper ≡ option_map (λ f. with_file f l.name (take l.at l.text)) (g.K.Keeper.files l.fn.keeper);
  most : l.at ≤ length l.text;
  faults : g.K.Keeper.faults l.keeper ≡ g.K.Keeper.faults l.fn.keeper;
  missing : g.K.Keeper.missing l.keeper ≡ g.K.Keeper.missing l.fn.keeper;
}

abbrev pub decreases-pieces : goal.decreases-pieces
decreases-pieces g l = length l.text - l.at
