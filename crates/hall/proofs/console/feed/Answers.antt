-- `hall::console::feed` meets its contract: what is left of the piece, taken in from here, gives what the whole piece gives.
use borrow.Author.Rules.{rules}
use mathlib.Core.Path.{refl, ◌∙◌}
use native.Mathlib.Omega.{arith}
use Rattle.hall.proofs.Feeding.{fed_through}
use Rattle.hall.proofs.console.feed.Goals as goal

pub loop-at-init : goal.loop-at-init
loop-at-init c = (search rules, λ handed p s. (p, s, refl))

pub loop-at-preserved : goal.loop-at-preserved
loop-at-preserved c =
    let l = c.loop-at in (
      search rules,
      λ handed p s.
          let old = l.invariant.1 handed p s in
          let new = c.feed_line-step.ensures.by_index handed old.0 old.1 in
          (new.0, new.1, new.2 ∙ old.2),
    )

pub returns : goal.returns
returns c =
    let l = c.loop-at in
    record {
      fill_in_bounds = omega (arith, l.invariant.0.1);
      by_index = λ handed p s. let old = l.invariant.1 handed p s in rw (← fed_through p old.0 _ _ c.loop-at-test.false old.2) old.1;
    }
