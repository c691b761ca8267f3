-- `bench::copying::copied` is safe and ends. Assumes nothing.
use Rattle.std.proofs.Common.{◌≡◌, length}
use Rattle.bench.proofs.copying.copied.Given as goal

abbrev pub invariant-loop : goal.invariant-loop
invariant-loop l = (length l.backups ≡ length l.initial.backups) × (length l.work ≡ length l.initial.work)
