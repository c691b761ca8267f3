-- `bench::restarts::source_stepped` is safe and ends. Assumes nothing.
use Rattle.std.proofs.Common.{◌≡◌, length}
use Rattle.bench.proofs.restarts.source_stepped.Given as goal

abbrev pub invariant-loop-records : goal.invariant-loop-records
invariant-loop-records l = (length l.pages ≡ length l.initial.pages) × (length l.work ≡ length l.initial.work)
