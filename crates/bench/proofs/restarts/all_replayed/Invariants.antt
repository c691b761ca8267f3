-- `bench::restarts::all_replayed` is safe and ends. Assumes nothing.
use Rattle.std.proofs.Common.{◌≡◌, length}
use Rattle.bench.proofs.restarts.all_replayed.Given as goal

abbrev pub invariant-loop-disk : goal.invariant-loop-disk
invariant-loop-disk l = (length l.pages ≡ length l.initial.pages) × (length l.work ≡ length l.initial.work)
