-- `checkpoint::starts::least_first` meets its contract: the least of the places passed. Assumes nothing.
use mathlib.Core.Bool.{and-false}
use mathlib.Core.Path.{refl, ◌∙◌}
use borrow.Author.Tests.{eq-eqb, ne_eqb, lt-ltb, le-ltb}
use Rattle.model.specs.State.{number_at, disk_at_place, first_at, reserved_at, served_by, has_update}
use Rattle.model.specs.Checkpoint.{least_first}
use Rattle.checkpoint.proofs.Least.{least_taken, least_passed}
use Rattle.checkpoint.proofs.starts.least_first.Goals.{then-table-i-ne0+then-table-i+then-table-i-gt-CLOSE_WORDS, else-table-i-ne0, else-table-i-ne0-via-then-table-i-ne0+then-table-i+else-table-i-gt-CLOSE_WORDS, else-table-i-ne0-via-then-table-i-ne0+else-table-i, else-table-i-ne0-via-else-table-i-ne0}
use Rattle.checkpoint.proofs.starts.least_first.Goals as goal

pub loop-i-init : goal.loop-i-init
unfolding least_first
loop-i-init c = refl

pub loop-i-preserved : goal.loop-i-preserved
unfolding served_by has_update number_at disk_at_place first_at reserved_at
loop-i-preserved c =
    let x = c.args in
    let l = c.loop-i in
    elim c.if-table-i-ne0.branch [
      | then-table-i-ne0+then-table-i+then-table-i-gt-CLOSE_WORDS w ↦
          w.least-is ∙ w.min-least.ensures
          ∙ least_taken x.table x.disk x.remembered l.i l.invariant
          (rw (ne_eqb _ _ w.if-table-i-ne0.true, eq-eqb _ _ w.if-table-i.true, lt-ltb _ _ w.if-table-i-gt-CLOSE_WORDS.true) refl)
      | else-table-i-ne0 w ↦
          w.least-is
          ∙ least_passed x.table x.disk x.remembered l.i l.invariant
          (elim w.else-table-i-ne0.branch [
            | else-table-i-ne0-via-then-table-i-ne0+then-table-i+else-table-i-gt-CLOSE_WORDS v ↦ rw (le-ltb _ _ v.if-table-i-gt-CLOSE_WORDS.false, and-false) refl
            | else-table-i-ne0-via-then-table-i-ne0+else-table-i v ↦ rw (ne_eqb _ _ v.if-table-i.false, and-false) refl
            | else-table-i-ne0-via-else-table-i-ne0 v ↦ rw (eq-eqb _ _ v.if-table-i-ne0.false) refl
          ])
    ]
