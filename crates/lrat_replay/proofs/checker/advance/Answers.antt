use Rattle.std.proofs.Common.{◌≡◌, ◌+◌, ◌-◌, ◌≤◌, length, take, arith, refl, rules}
use Rattle.std.proofs.lemmas.List.{length-take-le}
use Rattle.lrat_replay.specs.Taken.{TookAtMost}
use Rattle.lrat_replay.proofs.Taking.{took_none, took_read, where_open}
use Rattle.lrat_replay.specs.Passed.{Accepts, GoesOn, Passes, Stops}
use Rattle.lrat_replay.proofs.Answering.{brings_read}
use Rattle.lrat_replay.proofs.Stopping.{passes_read, stops_end, stops_read, where_ended}
use Rattle.lrat_replay.proofs.checker.advance.Goals as goal

pub returns-clause-answers : goal.returns-clause-answers
returns-clause-answers g c =
    brings_read c.take.result c.args.progress.now c.take.new.self (g.R.Source.left c.args.source.now) (g.R.Source.left c.read_piece.new.source) c.in_ok-count.count c.read_piece.new.piece c.in_ok-count.ensures.bytes c.take.ensures.answers

pub returns-in_err-count-clause-taken : goal.returns-in_err-count-clause-taken
returns-in_err-count-clause-taken g c = took_none (g.R.Source.left c.args.source.now) (g.R.Source.left c.read_piece.new.source) (c.args.progress.now.left + 1) c.in_err-count.ensures.err

pub returns-in_err-finish-clause-taken : goal.returns-in_err-finish-clause-taken
returns-in_err-finish-clause-taken g c =
    took_read (g.R.Source.left c.args.source.now) (g.R.Source.left c.read_piece.new.source) c.in_ok-count.count (c.args.progress.now.left + 1) c.read_piece.new.piece c.in_ok-count.ensures.bytes c.in_ok-count.ensures.count (let few : c.min.result ≤ c.args.progress.now.left = search rules in omega (arith, c.in_ok-count.ensures.most))

pub returns-then-count-eq0-clause-taken : goal.returns-then-count-eq0-clause-taken
returns-then-count-eq0-clause-taken g c =
    took_read (g.R.Source.left c.args.source.now) (g.R.Source.left c.read_piece.new.source) c.in_ok-count.count (c.args.progress.now.left + 1) c.read_piece.new.piece c.in_ok-count.ensures.bytes c.in_ok-count.ensures.count (let few : c.min.result ≤ c.args.progress.now.left = search rules in omega (arith, c.in_ok-count.ensures.most))

pub returns-clause-taken : goal.returns-clause-taken
returns-clause-taken g c =
    took_read (g.R.Source.left c.args.source.now) (g.R.Source.left c.read_piece.new.source) c.in_ok-count.count (c.args.progress.now.left + 1) c.read_piece.new.piece c.in_ok-count.ensures.bytes c.in_ok-count.ensures.count (let few : c.min.result ≤ c.args.progress.now.left = search rules in omega (arith, c.in_ok-count.ensures.most))

pub returns-clause-went : goal.returns-clause-went
returns-clause-went g c =
    where_open c.take.result
    (c.args.progress.now.left ≡ c.take.new.self.left + length (take c.in_ok-count.count c.read_piece.new.piece))
    (TookAtMost (g.R.Source.left c.args.source.now) (g.R.Source.left c.read_piece.new.source) (c.args.progress.now.left - c.take.new.self.left))
    (λ e. let long : length (take c.in_ok-count.count c.read_piece.new.piece) ≡ c.in_ok-count.count = length-take-le c.in_ok-count.count c.read_piece.new.piece c.in_ok-count.ensures.count in
    took_read (g.R.Source.left c.args.source.now) (g.R.Source.left c.read_piece.new.source) c.in_ok-count.count (c.args.progress.now.left - c.take.new.self.left) c.read_piece.new.piece c.in_ok-count.ensures.bytes c.in_ok-count.ensures.count (omega arith))
    c.take.ensures.taken

pub returns-clause-passed : goal.returns-clause-passed
returns-clause-passed g c =
    where_open c.take.result
    (GoesOn c.args.progress.now (take c.in_ok-count.count c.read_piece.new.piece) c.take.new.self)
    (Passes (g.R.Source.left c.args.source.now) (g.R.Source.left c.read_piece.new.source) c.args.progress.now c.take.new.self)
    (λ goes. passes_read (g.R.Source.left c.args.source.now) (g.R.Source.left c.read_piece.new.source) c.in_ok-count.count c.read_piece.new.piece c.args.progress.now c.take.new.self c.in_ok-count.ensures.bytes goes)
    c.take.ensures.goes_on

pub returns-clause-stopped : goal.returns-clause-stopped
returns-clause-stopped g c =
    let long : length (take c.in_ok-count.count c.read_piece.new.piece) ≡ c.in_ok-count.count = length-take-le c.in_ok-count.count c.read_piece.new.piece c.in_ok-count.ensures.count in
    let few : c.min.result ≤ 65535 = search rules in
    where_ended c.take.result
    (Accepts c.args.progress.now (take c.in_ok-count.count c.read_piece.new.piece))
    (Stops 65536 (g.R.Source.left c.args.source.now) (g.R.Source.left c.read_piece.new.source) c.args.progress.now)
    (λ accepts. stops_read 65536 (g.R.Source.left c.args.source.now) (g.R.Source.left c.read_piece.new.source) c.in_ok-count.count c.read_piece.new.piece c.args.progress.now c.in_ok-count.ensures.bytes (omega (arith, c.in_ok-count.ensures.most)) accepts)
    c.take.ensures.accepts

pub returns-then-count-eq0-clause-stopped : goal.returns-then-count-eq0-clause-stopped
returns-then-count-eq0-clause-stopped g c _ =
    let size = c.read_piece.auto.piece in
    stops_end 65536 (g.R.Source.left c.args.source.now) (g.R.Source.left c.read_piece.new.source) c.in_ok-count.count c.read_piece.new.piece c.args.progress.now c.in_ok-count.ensures.bytes c.if-count-eq0.true (omega arith) (c.in_ok-finish.ensures.ok refl)
