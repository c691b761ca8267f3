-- `frame::entry::after_anchor` meets its contract: by the anchor's length and what was found. Assumes nothing.
use mathlib.Core.Path.{◌≡◌, refl}
use mathlib.Core.Bool.{cond}
use Prim.Native.Nat.{ℕ}
use native.Mathlib.Decide.{ℕ_discrete}
use lib.Dec.{eqb}
use borrow.Author.Tests.{eq-eqb, ne_eqb}
use Rattle.frame.specs.Entry.{after_anchor}
use Rattle.frame.proofs.entry.after_anchor.Goals as goal

one_first : (n : ℕ) → n ≡ cond (eqb n 1) 1 n
one_first n = go (ℕ_discrete n 1)
  where
    go : Dec (n ≡ 1) → n ≡ cond (eqb n 1) 1 n
    go (yes e) = rw (eq-eqb n 1 e) e
    go (no ne) = rw (ne_eqb n 1 ne) refl

pub returns-then-anchor-eq-ANCHOR_WORDS : goal.returns-then-anchor-eq-ANCHOR_WORDS
unfolding after_anchor
returns-then-anchor-eq-ANCHOR_WORDS g c =
    record { row = rw (eq-eqb _ _ c.if-anchor-eq-ANCHOR_WORDS.true) (one_first _); same = λ x is. is }

pub returns-in-Err : goal.returns-in-Err
unfolding after_anchor
returns-in-Err g c =
    record { row = rw (c.in-Err.is, ne_eqb _ _ c.if-anchor-eq-ANCHOR_WORDS.false) c.before_anchor.ensures; same = λ x is. cc }

pub returns-in-Ok : goal.returns-in-Ok
unfolding after_anchor
returns-in-Ok g c =
    record { row = rw (c.in-Ok.is, ne_eqb _ _ c.if-anchor-eq-ANCHOR_WORDS.false) refl; same = λ x is. cc }
