-- `replay::image::keep_below` meets its contract: word by word, the row below n and zeros behind. Assumes nothing.
use mathlib.Core.Path.{◌≡◌, refl, ◌∙◌}
use mathlib.Core.List.{List, ◌++◌}
use mathlib.Core.Bool.{Bool, true, false, cond}
use Prim.Native.Nat.{ℕ, ◌+◌, ◌-◌, ◌≤◌, ◌<◌}
use native.Mathlib.Omega.{arith}
use lib.Dec.{ltb}
use lib.ListN.{length, get_or, take, drop, replicate, length-append, length-drop, length-replicate, get_or-append, get_or-replicate}
use borrow.Author.Rules.{rules}
use borrow.Author.Tests.{ltb-true, ltb-false}
use Rattle.std.proofs.lemmas.List.{get_or-take, length-take-le, get_or-append_right, get_or-drop, ext_get_or}
use Rattle.model.specs.Checkpoint.{eight_below}
use Rattle.model.proofs.PerDisk.{length_eight, get_or_eight}
use Rattle.replay.proofs.image.keep_below.Goals as goal

module _ (row : List ℕ) (n : ℕ) (few : n ≤ 8) (eight : length row ≡ 8) where
  word : (i : ℕ) → i < 8 → (b : Bool) → ltb i n ≡ b → get_or (take n row ++ drop n (replicate 8 0)) i 0 ≡ cond b (get_or row i 0) 0
  word i h true e =
      let low : i < n = ltb-true i n e in
      let long : i < length (take n row) = omega (arith, low, length-take-le n row (omega arith)) in
      get_or-append (take n row) _ 0 i long ∙ get_or-take n row i 0 low
  word i h false e =
      let high : n ≤ i = ltb-false i n e in
      let there : n + (i - n) ≡ i = omega arith in
      get_or-append_right (take n row) _ n i 0 (length-take-le n row (omega arith)) high
      ∙ get_or-drop n (replicate 8 0) (i - n) 0
      ∙ rw there (get_or-replicate 8 i 0 0 h)

  kept : take n row ++ drop n (replicate 8 0) ≡ eight_below n (λ d. get_or row d 0)
  kept =
      let long : length (take n row ++ drop n (replicate 8 0)) ≡ 8 =
      rw (length-append, length-take-le n row (omega arith), length-drop, length-replicate) (omega arith) in
      ext_get_or 0 _ _ (rw (long, length_eight) refl)
      (λ i h. rw (get_or_eight (λ d. get_or row d 0) n i (omega (arith, h, long))) (word i (omega (arith, h, long)) (ltb i n) refl))

pub returns : goal.returns
returns c = rw c.copy_from_slice.ensures.after (kept c.args.row c.args.n c.requires (search rules))
