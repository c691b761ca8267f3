-- `bench::restarts::repeated` is safe and ends. Assumes nothing.
use Rattle.std.proofs.Common.{◌≡◌, length}
use Rattle.bench.proofs.restarts.repeated.Given as goal

abbrev pub invariant-loop : goal.invariant-loop
invariant-loop l = (length l.pages ≡ length l.initial.pages) × (length l.work ≡ length l.initial.work)
