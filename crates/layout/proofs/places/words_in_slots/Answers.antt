-- The product of two bytes is below 2^16.
use mathlib.Core.Path.{refl}
use native.Mathlib.Omega.{arith}
use borrow.Author.Rules.{rules}
use Rattle.layout.proofs.Laws.{product_max}
use Rattle.layout.proofs.places.words_in_slots.Goals as goal

pub overflow_mul-result : goal.overflow_mul-result
overflow_mul-result c = record { fits = omega (arith, product_max c.args.slots c.args.width 255 255 (search rules) (search rules)) }

pub returns : goal.returns
returns c = refl
