-- Text in the output's buffer.
use Prim.Native.Nat.{ℕ, ◌-◌, ◌≤◌}
use mathlib.Core.Path.{◌≡◌, ◌∙◌}
use mathlib.Core.List.{List, ◌++◌}
use native.Mathlib.Omega.{arith}
use lib.ListN.{length, take, drop, length-drop}
use Rattle.hall.proofs.Feeding.{rest_whole}

-- A line's text, at the end of a buffer of its own.
module _ (buffer : List ℕ) (at : ℕ) (small : length buffer ≤ 84) where
  pub text_short : length (take (84 - at) (drop at buffer)) ≤ 84
  text_short = rw (rest_whole buffer at 84 small, length-drop) (omega arith)

  pub text_added : (front shown : List ℕ) {waiting : List ℕ} → drop at buffer ≡ shown → waiting ≡ front ++ take (84 - at) (drop at buffer) → waiting ≡ front ++ shown
  text_added front shown same added = rw (rest_whole buffer at 84 small ∙ same) at added
