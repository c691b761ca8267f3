-- `run::ahead::search_ahead` meets its contract. The loop keeps: of all numbers met, what is known up to p with what is found from p on is
-- the fate from the start on, and `at` is the index of p. The measure is what is left of the log.
use Prim.Native.Nat.{ℕ, ◌-◌, ◌%◌, ◌<◌}
use mathlib.Core.Path.{◌≡◌}
use mathlib.Core.List.{List}
use lib.ListN.{length}
use Rattle.model.specs.declared.Sizes.{Sizes}
use Rattle.model.specs.declared.Fate.{Fate}
use Rattle.model.specs.Scan.{scan, fate_in}
use Rattle.disk_log.specs.Ring.{read_ring, EntriesOf}
use Rattle.run.specs.Run.{Searched}
use Rattle.run.proofs.ahead.search_ahead.Given as goal

-- every fate from a position on
abbrev pub ahead : Sizes → List ℕ → (tail p : ℕ) → ℕ → Fate
ahead s ring tail p n = fate_in n (scan s (read_ring ring) tail p)

abbrev pub invariant-loop-p : goal.invariant-loop-p
invariant-loop-p l = (l.at ≡ l.p % length l.ring) × (l.first < l.fates.used)
    × ((s : Sizes) → EntriesOf s l.slots l.widths
    → Searched (ahead s l.ring l.tail l.from) (ahead s l.ring l.tail l.from) l.sought l.initial.fates.numbers l.initial.fates.closed l.first l.initial.fates.used
    → Searched (ahead s l.ring l.tail l.from) (ahead s l.ring l.tail l.p) l.sought l.fates.numbers l.fates.closed l.first l.fates.used)

abbrev pub decreases-loop-p : goal.decreases-loop-p
decreases-loop-p l = l.tail - l.p
