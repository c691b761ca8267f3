-- `hall::serving::serve` meets its contract: some of the input is taken in.
use borrow.Author.Rules.{rules}
use mathlib.Core.Path.{refl}
use mathlib.Core.Logic.{inl, inr}
use mathlib.Core.List.{[], ◌++◌}
use Rattle.hall.specs.Running.{fed}
use Rattle.hall.proofs.Feeding.{fed_append}
use Rattle.hall.proofs.serving.serve.Goals as goal

pub loop-turn-init : goal.loop-turn-init
unfolding fed
loop-turn-init c = (search rules, λ p s. ([], s))

pub returns-then-failed : goal.returns-then-failed
returns-then-failed c =
    record {
      fact = inr c.if-failed.true;
      fill_value = c.serve_some-served.ensures.fill_value;
      by_index = λ p s.
          let old = c.loop-turn.invariant.1 p s in
          let new = c.serve_some-served.ensures.by_index _ old.1 in
          (old.0 ++ new.0, rw (← fed_append p old.0 new.0) at new.2);
    }

pub returns-then-got-eq0 : goal.returns-then-got-eq0
returns-then-got-eq0 c =
    record {
      fact = inl c.if-got-eq0.true;
      fill_value = c.serve_some-served.ensures.fill_value;
      by_index = λ p s.
          let old = c.loop-turn.invariant.1 p s in
          let new = c.serve_some-served.ensures.by_index _ old.1 in
          (old.0 ++ new.0, rw (← fed_append p old.0 new.0) at new.2);
    }

pub loop-turn-preserved : goal.loop-turn-preserved
loop-turn-preserved c = (
  search (rules, c.serve_some-served.ensures.fill_value),
  λ p s.
      let old = c.loop-turn.invariant.1 p s in
      let new = c.serve_some-served.ensures.by_index _ old.1 in
      (old.0 ++ new.0, rw (← fed_append p old.0 new.0) at new.2),
)

pub returns : goal.returns
returns c =
    record {
      fact = inr refl;
      fill_value = c.loop-turn.invariant.0;
      by_index = c.loop-turn.invariant.1;
    }
