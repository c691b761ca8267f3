-- `layout::disks::disk_at` meets its contract: eight rings of the largest size lie within the bound. Assumes nothing.
use mathlib.Core.Path.{refl}
use Prim.Native.Nat.{◌+◌}
use native.Mathlib.Omega.{arith}
use native.Mathlib.Nat.{mul-le-mul_right}
use Rattle.model.specs.Sizes.{disk_at}
use Rattle.layout.proofs.disks.disk_at.Goals as goal

pub overflow_mul-result : goal.overflow_mul-result
overflow_mul-result c = omega (arith, mul-le-mul_right (c.args.ring + 1) c.requires.0)

pub returns : goal.returns
unfolding disk_at
returns c = (λ s same. rw same refl, omega (arith, mul-le-mul_right (c.args.ring + 1) c.requires.0))
