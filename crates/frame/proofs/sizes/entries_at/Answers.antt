-- `frame::sizes::entries_at` meets its contract: after i turns the first i words are done. Assumes nothing.
use Prim.Native.Nat.{◌+◌}
use mathlib.Core.Path.{◌≡◌, refl, sym, ◌∙◌}
use native.Mathlib.Omega.{arith}
use native.Mathlib.Nat.{zero-add}
use lib.ListN.{replicate}
use Rattle.model.specs.Word.{part}
use Rattle.model.proofs.Parts.{length_part}
use Rattle.words.proofs.Laws.{copy_more, sets_whole}
use Rattle.frame.proofs.sizes.entries_at.Goals as goal

pub loop-i-init : goal.loop-i-init
unfolding part
loop-i-init c = refl

pub loop-i-preserved : goal.loop-i-preserved
loop-i-preserved c =
    let s = c.args in
    let l = c.loop-i in
    let e : 0 + l.i ≡ l.i = zero-add l.i in
    rw l.invariant (rw e at (copy_more (replicate 64 0) 0 s.work.now s.at l.i (omega (arith, c.requires.0))))

pub returns : goal.returns
returns c =
    let s = c.args in
    let l = c.loop-i in
    let e : l.i ≡ 64 = omega arith in
    (rw e at l.invariant) ∙ sets_whole (replicate 64 0) (part s.at 64 s.work.now) (sym (length_part s.at 64 s.work.now c.requires.0))
