-- `abort::window::buffered` meets its contract: a part of the work memory, by the tip's fill. Assumes nothing.
use mathlib.Core.Path.{◌≡◌, refl}
use native.Mathlib.Omega.{arith}
use Prim.Native.Nat.{◌+◌, ◌-◌}
use Rattle.model.specs.Word.{part}
use Rattle.model.specs.Memory.{buffer_at, buffer_of}
use Rattle.abort.proofs.Tips.{tip_fill}
use Rattle.abort.proofs.window.buffered.Goals as goal

pub overflow_add-stop : goal.overflow_add-stop
overflow_add-stop c =
    omega (arith, c.buffer_place-start.ensures.1, tip_fill c.args.disk c.args.tip c.requires.0, c.requires.1)

pub slice_bounds-result-end : goal.slice_bounds-result-end
unfolding buffer_at
slice_bounds-result-end c =
    omega (arith, c.buffer_place-start.ensures.0, tip_fill c.args.disk c.args.tip c.requires.0, c.requires.1, c.requires.2)

pub returns : goal.returns
unfolding buffer_of part
returns c =
    let start = c.buffer_place-start.result in
    let size : start + c.args.tip.fill - start ≡ c.args.tip.fill = omega arith in
    rw (size, tip_fill c.args.disk c.args.tip c.requires.0, c.buffer_place-start.ensures.0) refl
