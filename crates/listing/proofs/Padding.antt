-- Columns of a line, put from its end: a text with spaces before it.
use Prim.Native.Nat.{ℕ, ◌+◌, ◌-◌, ◌≤◌}
use mathlib.Core.Path.{◌≡◌, ◌∙◌}
use mathlib.Core.List.{List, ◌++◌, append_assoc}
use native.Mathlib.Omega.{arith}
use lib.ListN.{length, drop, replicate}
use Rattle.model.specs.Text.{padded}

-- `middle` is what is there once the text is put, and `l` once the spaces are put too.
pub column_put : (l middle before text : List ℕ) (columns start end : ℕ) → columns ≤ end → start + length text ≡ end → length text ≤ columns →
    drop start middle ≡ text ++ drop end before → drop (end - columns) l ≡ replicate (start - (end - columns)) 32 ++ drop start middle →
    drop (end - columns) l ≡ padded columns text ++ drop end before
unfolding padded
column_put l middle before text columns start end fits ends few put spaces =
    let e : start - (end - columns) ≡ columns - length text = omega arith in
    spaces ∙ rw (e, put, append_assoc)
