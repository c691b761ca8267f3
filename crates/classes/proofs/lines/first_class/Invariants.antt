-- `classes::lines::first_class` meets its contract: no class passed is the one asked for. Assumes nothing.
use Rattle.std.proofs.Common.{◌≡◌, ℕ, Bool, false, ◌^◌, ◌<◌}
use Rattle.model.specs.Classes.{times_covered}
use Rattle.classes.proofs.lines.first_class.Given as goal

abbrev pub invariant-loop-class : goal.invariant-loop-class
invariant-loop-class g l = (test : ℕ → Bool) → ((times : ℕ) (b : Bool) → times < 2 ^ 64 → goal.F-post g l.asked times b → b ≡ test times)
    → (k : ℕ) → k < l.class → test (times_covered l.lines k) ≡ false
