-- `bench::serve::all_updated` is safe and ends. Assumes nothing.
use Rattle.std.proofs.Common.{◌≡◌, ◌≤◌, length}
use Rattle.bench.proofs.serve.all_updated.Given as goal

abbrev pub invariant-loop : goal.invariant-loop
invariant-loop l = (l.made ≤ 3) × (length l.value ≡ length l.initial.value) × (length l.anchor ≡ length l.initial.anchor) × (length l.pages ≡ length l.initial.pages)
    × (length l.backups ≡ length l.initial.backups) × (length l.logs ≡ length l.initial.logs) × (length l.work ≡ length l.initial.work)
