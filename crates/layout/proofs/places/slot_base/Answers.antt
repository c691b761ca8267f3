use native.Mathlib.Omega.{arith}
use borrow.Author.Rules.{rules}
use Rattle.model.specs.Sizes.{width_in, slot_base}
use Rattle.layout.proofs.Laws.{product_max}
use Rattle.layout.proofs.places.slot_base.Goals as goal

pub overflow_mul-result : goal.overflow_mul-result
overflow_mul-result c =
    record { fits = omega (arith, product_max c.args.slot c.word_of-width.result 65535 255 (search rules) (search rules)) }

pub overflow_add-result : goal.overflow_add-result
overflow_add-result c =
    omega (arith, product_max c.args.slot c.word_of-width.result 65535 255 (search rules) (search rules))

pub returns : goal.returns
unfolding slot_base width_in
returns c = (
  rw (c.page_base.ensures.0, c.word_of-width.ensures.0),
  omega (arith, product_max c.args.slot c.word_of-width.result 65535 255 (search rules) (search rules)),
)
