-- `disk_log::updates::next_updates` meets its contract. The loop's invariant: the positions gathered and those from p on are those from the
-- start on. While fewer than n are gathered, one is still to be found. Assumes nothing.
use Prim.Native.Nat.{ℕ, ◌<◌}
use mathlib.Core.Path.{◌≡◌, refl, sym, ap, ◌∙◌}
use mathlib.Core.List.{List, ◌++◌}
use native.Mathlib.Omega.{arith}
use lib.ListN.{take, length-set}
use Rattle.disk_log.proofs.Fronts.{turn_none, turn_later}
use Rattle.disk_log.proofs.FrontSteps.{more_at, more_fits, more_step}
use Rattle.disk_log.proofs.Surveying.{gather_more, gather_one, gather_done}
use Rattle.disk_log.proofs.updates.next_updates.Goals as goal

pub loop-count-init : goal.loop-count-init
loop-count-init c = (turn_none _ _ _, omega arith, refl, λ s disk lies many. refl)

pub turn_at-turn-requires : goal.turn_at-turn-requires
turn_at-turn-requires c =
    let turn = c.loop-count in
    let has = c.requires.1 in
    let some = gather_more c.args.n turn.count turn.at turn.invariant.2 (omega (arith, turn.invariant.1, c.requires.3)) _ _ (turn.invariant.3 has.sizes has.disk has.lies has.many) c.loop-count-test.true has.many in
    let m = more_at has.sizes _ _ c.args.number _ some in
    (c.requires.0.ring_pos, c.requires.2, omega (arith, m.inside, c.requires.0.end_low), turn.invariant.0)

pub front_at-front-requires : goal.front_at-front-requires
front_at-front-requires c =
    let turn = c.loop-count in
    let has = c.requires.1 in
    let some = gather_more c.args.n turn.count turn.at turn.invariant.2 (omega (arith, turn.invariant.1, c.requires.3)) _ _ (turn.invariant.3 has.sizes has.disk has.lies has.many) c.loop-count-test.true has.many in
    let m = more_at has.sizes _ _ c.args.number _ some in
    (c.requires.0, m.inside, c.turn_at-turn.ensures)

pub overflow_add-next : goal.overflow_add-next
overflow_add-next c =
    let turn = c.loop-count in
    let has = c.requires.1 in
    let some = gather_more c.args.n turn.count turn.at turn.invariant.2 (omega (arith, turn.invariant.1, c.requires.3)) _ _ (turn.invariant.3 has.sizes has.disk has.lies has.many) c.loop-count-test.true has.many in
    let m = more_fits has.sizes _ _ c.args.number (c.front_at-front.ensures has.sizes has.disk has.lies) c.words_of.ensures some in
    omega (arith, m.0, c.requires.0.end_low)

pub offset_bounds-at-count : goal.offset_bounds-at-count
offset_bounds-at-count c = omega (arith, c.loop-count-test.true, c.requires.3)

pub bounds-at-count : goal.bounds-at-count
bounds-at-count c = omega (arith, c.loop-count-test.true, c.requires.3)

pub overflow_add-count : goal.overflow_add-count
overflow_add-count c = omega (arith, c.loop-count-test.true, c.requires.3)

pub loop-count-smaller-then-is_update_of : goal.loop-count-smaller-then-is_update_of
loop-count-smaller-then-is_update_of c =
    let turn = c.loop-count in
    let has = c.requires.1 in
    let some = gather_more c.args.n turn.count turn.at turn.invariant.2 (omega (arith, turn.invariant.1, c.requires.3)) _ _ (turn.invariant.3 has.sizes has.disk has.lies has.many) c.loop-count-test.true has.many in
    let m = more_fits has.sizes _ _ c.args.number (c.front_at-front.ensures has.sizes has.disk has.lies) c.words_of.ensures some in
    omega (arith, m.0, m.1)

pub loop-count-preserved-then-is_update_of : goal.loop-count-preserved-then-is_update_of
loop-count-preserved-then-is_update_of c =
    let turn = c.loop-count in
    let has = c.requires.1 in
    let some = gather_more c.args.n turn.count turn.at turn.invariant.2 (omega (arith, turn.invariant.1, c.requires.3)) _ _ (turn.invariant.3 has.sizes has.disk has.lies has.many) c.loop-count-test.true has.many in
    let m = more_fits has.sizes _ _ c.args.number (c.front_at-front.ensures has.sizes has.disk has.lies) c.words_of.ensures some in
    let low : turn.count < 128 = omega (arith, c.loop-count-test.true, c.requires.3) in
    let mine = sym c.is_update_of.ensures ∙ c.if-is_update_of.true in (
      turn_later c.turn_at-turn.ensures _ (omega arith),
      omega (arith, c.loop-count-test.true),
      length-set turn.at turn.count turn.p ∙ turn.invariant.2,
      λ s disk lies many.
          let left = gather_more c.args.n turn.count turn.at turn.invariant.2 (omega (arith, turn.invariant.1, c.requires.3)) _ _ (turn.invariant.3 s disk lies many) c.loop-count-test.true many in
          let step = more_step s _ _ c.args.number (c.front_at-front.ensures s disk lies) c.words_of.ensures left in
          gather_one c.args.n turn.count turn.at turn.invariant.2 (omega arith) _ _ (turn.invariant.3 s disk lies many) turn.p low (step.positions ∙ rw mine refl),
    )

pub loop-count-smaller : goal.loop-count-smaller
loop-count-smaller c =
    let turn = c.loop-count in
    let has = c.requires.1 in
    let some = gather_more c.args.n turn.count turn.at turn.invariant.2 (omega (arith, turn.invariant.1, c.requires.3)) _ _ (turn.invariant.3 has.sizes has.disk has.lies has.many) c.loop-count-test.true has.many in
    let m = more_fits has.sizes _ _ c.args.number (c.front_at-front.ensures has.sizes has.disk has.lies) c.words_of.ensures some in
    omega (arith, m.0, m.1)

pub loop-count-preserved : goal.loop-count-preserved
loop-count-preserved c =
    let turn = c.loop-count in
    let has = c.requires.1 in
    let some = gather_more c.args.n turn.count turn.at turn.invariant.2 (omega (arith, turn.invariant.1, c.requires.3)) _ _ (turn.invariant.3 has.sizes has.disk has.lies has.many) c.loop-count-test.true has.many in
    let m = more_fits has.sizes _ _ c.args.number (c.front_at-front.ensures has.sizes has.disk has.lies) c.words_of.ensures some in
    let other = sym c.is_update_of.ensures ∙ c.if-is_update_of.false in (
      turn_later c.turn_at-turn.ensures _ (omega arith),
      turn.invariant.1,
      turn.invariant.2,
      λ s disk lies many.
          let left = gather_more c.args.n turn.count turn.at turn.invariant.2 (omega (arith, turn.invariant.1, c.requires.3)) _ _ (turn.invariant.3 s disk lies many) c.loop-count-test.true many in
          let step = more_step s _ _ c.args.number (c.front_at-front.ensures s disk lies) c.words_of.ensures left in
          turn.invariant.3 s disk lies many ∙ ap (λ (l : List ℕ). take turn.count turn.at ++ l) (step.positions ∙ rw other refl),
    )

pub returns : goal.returns
returns c =
    let turn = c.loop-count in
    let done : turn.count ≡ c.args.n = omega (arith, turn.invariant.1, c.loop-count-test.false) in
    λ s disk lies many.
    record {
      many = done;
      first = gather_done c.args.n turn.count turn.at turn.invariant.2 (omega (arith, turn.invariant.1, c.requires.3)) _ _ (turn.invariant.3 s disk lies many) done;
    }
