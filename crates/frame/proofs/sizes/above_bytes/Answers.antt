-- `frame::sizes::above_bytes` meets its contract: the sum is no less than what each of the words passed has above a byte. Assumes nothing.
use mathlib.Core.Path.{◌≡◌}
use mathlib.Core.List.{List}
use Prim.Native.Nat.{ℕ, ◌+◌, ◌/◌, ◌≤◌, ◌<◌}
use native.Mathlib.Omega.{arith}
use native.Mathlib.Decide.{dec_lt}
use lib.ListN.{length, get_or, take}
use Rattle.std.proofs.lemmas.List.{get_or-take, length-take-le}
use Rattle.frame.proofs.sizes.above_bytes.Goals as goal

taken : (work : List ℕ) → 128 ≤ length work → (i : ℕ) → i < length (take 128 work) → (get_or (take 128 work) i 0 ≡ get_or work i 0) × (i < 128)
taken work long i h =
    let low : i < 128 = omega (arith, h, length-take-le 128 work long) in
    (get_or-take 128 work i 0 low, low)

pub overflow_add-above : goal.overflow_add-above
overflow_add-above c =
    let l = c.loop-word in
    let here = taken c.args.work.now c.requires l.word-index c.loop-word-test.true in
    omega (arith, l.invariant.0, c.type_inv.work l.word-index, here.0, here.1)

pub loop-word-preserved : goal.loop-word-preserved
loop-word-preserved c =
    let work = c.args.work.now in
    let l = c.loop-word in
    let here = taken work c.requires l.word-index c.loop-word-test.true in
    rw here.0 (
      omega (arith, l.invariant.0, c.type_inv.work l.word-index),
      λ j h. each work l.above l.word-index l.invariant.1 j h (dec_lt j l.word-index),
      λ small. omega (arith, l.invariant.2 small, small l.word-index here.1),
    )
  where
    each : (work : List ℕ) (above i : ℕ) → ((j : ℕ) → j < i → get_or work j 0 / 256 ≤ above) → (j : ℕ) → j < i + 1 → Dec (j < i)
        → get_or work j 0 / 256 ≤ above + get_or work i 0 / 256
    each work above i before j h (yes low) = omega (arith, before j low)
    each work above i before j h (no last) = let e : j ≡ i = omega arith in rw e (omega arith)

pub returns : goal.returns
returns c =
    let l = c.loop-word in
    let long = length-take-le 128 c.args.work.now c.requires in
    (λ none i h. omega (arith, none, l.invariant.1 i (omega (arith, h, long, c.loop-word-test.false))), l.invariant.2)
