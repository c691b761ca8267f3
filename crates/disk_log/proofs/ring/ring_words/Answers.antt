-- `disk_log::ring::ring_words` meets its contract: a part by its two ends.
use mathlib.Core.Path.{◌≡◌, refl}
use Prim.Native.Nat.{◌+◌, ◌-◌}
use native.Mathlib.Omega.{arith}
use Rattle.model.specs.Word.{part}
use Rattle.disk_log.proofs.ring.ring_words.Goals as goal

pub returns : goal.returns
unfolding part
returns c =
    let a = c.args in
    let all : a.place + 1 + a.size - (a.place + 1) ≡ a.size = omega arith in
    rw all refl
