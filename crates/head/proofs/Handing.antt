-- The head after a call, where it is saved and where it is left.
use mathlib.Core.Path.{◌≡◌, refl, sym}
use mathlib.Core.List.{List, ◌++◌}
use mathlib.Core.Bool.{true, false}
use Prim.Native.Nat.{ℕ}
use lib.ListN.{take, drop, take-append-drop}
use borrow.Author.Tests.{not-true, not-false}
use Rattle.model.specs.declared.Core.{Core}
use Rattle.model.specs.declared.Answer.{Answer}
use Rattle.model.specs.declared.Answer.TheVariants.{Finished, Refused, Interrupted}
use Rattle.model.specs.Causes.{when_shut}
use Rattle.model.specs.View.{head_words, head_of, head_after}
use Rattle.model.proofs.Booleans.{true_false}
use Rattle.head.specs.Saves.{saves}

-- what is saved, and what is left
pub saved_head : (a : Answer) (c : Core) (work : List ℕ) → saves a c.stage ≡ true → head_after a c work ≡ head_of c
saved_head (Finished count value) c work e = rw (not-true (when_shut c.stage) e) refl
saved_head (Refused number first second) c work e = true_false refl (sym e)
saved_head (Interrupted count) c work e = true_false refl (sym e)

pub left_head : (a : Answer) (c : Core) (work : List ℕ) → saves a c.stage ≡ false → head_after a c work ≡ take head_words work
left_head (Finished count value) c work e = rw (not-false (when_shut c.stage) e) refl
left_head (Refused number first second) c work e = refl
left_head (Interrupted count) c work e = refl

pub left_whole : (a : Answer) (c : Core) (work : List ℕ) → saves a c.stage ≡ false → work ≡ head_after a c work ++ drop head_words work
left_whole a c work e = rw (left_head a c work e) (sym (take-append-drop head_words work))
