-- `layout::bases::slot_place` meets its contract: bytes and 128 slots keep the sum small. Assumes nothing.
use native.Mathlib.Omega.{arith}
use borrow.Author.Rules.{rules}
use Rattle.layout.proofs.Laws.{product_max}
use Rattle.layout.proofs.bases.slot_place.Goals as goal

pub overflow_mul-result : goal.overflow_mul-result
overflow_mul-result c = record { fits = omega (arith, product_max c.args.slot c.args.width 127 255 (search rules) (search rules)) }

pub overflow_add-result : goal.overflow_add-result
overflow_add-result c = omega (arith, product_max c.args.slot c.args.width 127 255 (search rules) (search rules))
