-- `listing::pages::lay_record` meets its contract. Assumes nothing.
use mathlib.Core.Path.{sym, subst, ◌∙◌}
use native.Mathlib.Omega.{arith}
use borrow.Author.Rules.{rules}
use Rattle.model.specs.declared.Decoded.{Decoded}
use Rattle.listing.specs.Sheets.{Fits}
use Rattle.listing.proofs.Laid.{wanted_room, laid_none, put_laid}
use Rattle.listing.proofs.pages.lay_record.Goals as goal

pub returns-then-not-is_wanted : goal.returns-then-not-is_wanted
returns-then-not-is_wanted c = sym (laid_none _ _ _ _ (sym c.is_wanted.ensures ∙ c.if-not-is_wanted.true))

pub overflow_sub-at : goal.overflow_sub-at
overflow_sub-at c = (wanted_room _ _ (sym c.is_wanted.ensures ∙ c.if-not-is_wanted.false)).0

pub overflow_mul-at : goal.overflow_mul-at
overflow_mul-at c = omega (arith, wanted_room _ _ (sym c.is_wanted.ensures ∙ c.if-not-is_wanted.false))

pub overflow_add-at : goal.overflow_add-at
overflow_add-at c =
    omega (arith, wanted_room _ _ (sym c.is_wanted.ensures ∙ c.if-not-is_wanted.false))

pub slice_bounds-put_change-end : goal.slice_bounds-put_change-end
slice_bounds-put_change-end c =
    omega (arith, wanted_room _ _ (sym c.is_wanted.ensures ∙ c.if-not-is_wanted.false))

pub put_change-requires : goal.put_change-requires
put_change-requires c =
    let pre = c.requires in
    let fits = subst (λ (d : Decoded). Fits d) c.in-Change.is pre.1 in
    (search rules, pre.0, fits.0, fits.1, fits.2)

pub overflow_add-at-in-Close : goal.overflow_add-at-in-Close
overflow_add-at-in-Close c =
    omega (arith, wanted_room _ _ (sym c.is_wanted.ensures ∙ c.if-not-is_wanted.false))

pub slice_bounds-put_close-end : goal.slice_bounds-put_close-end
slice_bounds-put_close-end c =
    omega (arith, wanted_room _ _ (sym c.is_wanted.ensures ∙ c.if-not-is_wanted.false))

pub returns-in-Change : goal.returns-in-Change
returns-in-Change c =
    rw c.in-Change.is
    (put_laid _ _ _ _ c.is_wanted.ensures (c.if-not-is_wanted.false) c.put_change.ensures c.out-1.given.0)

pub returns-in-Close : goal.returns-in-Close
returns-in-Close c =
    rw c.in-Close.is
    (put_laid _ _ _ _ c.is_wanted.ensures (c.if-not-is_wanted.false) c.put_close.ensures c.out-in-Close-1.given.0)

pub returns-in-Malformed : goal.returns-in-Malformed
returns-in-Malformed c = absurd (subst (λ (d : Decoded). Fits d) c.in-Malformed.is c.requires.1)
