-- `access::slots::slot_part` meets its contract: a part by its two ends. Assumes nothing.
use mathlib.Core.Path.{◌≡◌, refl}
use Prim.Native.Nat.{◌+◌, ◌-◌}
use native.Mathlib.Omega.{arith}
use Rattle.model.specs.Word.{part}
use Rattle.access.proofs.slots.slot_part.Goals as goal

pub returns : goal.returns
unfolding part
returns c =
    let x = c.args in
    let all : x.at + x.width - x.at ≡ x.width = omega arith in
    rw all refl
