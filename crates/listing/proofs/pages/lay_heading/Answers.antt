-- `listing::pages::lay_heading` meets its contract. Assumes nothing.
use mathlib.Core.Path.{sym, ◌∙◌}
use native.Mathlib.Omega.{arith}
use Rattle.listing.proofs.Laid.{wanted_room, laid_none, put_laid}
use Rattle.listing.proofs.pages.lay_heading.Goals as goal

pub returns-then-not-is_wanted : goal.returns-then-not-is_wanted
returns-then-not-is_wanted c = sym (laid_none _ _ _ _ (sym c.is_wanted.ensures ∙ c.if-not-is_wanted.true))

pub overflow_sub-at : goal.overflow_sub-at
overflow_sub-at c = (wanted_room _ _ (sym c.is_wanted.ensures ∙ c.if-not-is_wanted.false)).0

pub overflow_mul-at : goal.overflow_mul-at
overflow_mul-at c = omega (arith, wanted_room _ _ (sym c.is_wanted.ensures ∙ c.if-not-is_wanted.false))

pub overflow_add-at : goal.overflow_add-at
overflow_add-at c = omega (arith, wanted_room _ _ (sym c.is_wanted.ensures ∙ c.if-not-is_wanted.false))

pub slice_bounds-put_heading-end : goal.slice_bounds-put_heading-end
slice_bounds-put_heading-end c = omega (arith, wanted_room _ _ (sym c.is_wanted.ensures ∙ c.if-not-is_wanted.false))

pub returns : goal.returns
returns c =
    put_laid _ _ _ _ c.is_wanted.ensures (c.if-not-is_wanted.false) c.put_heading.ensures c.out-1.given.0
