-- The first checks of a table of classes, as their function has them.
use Rattle.std.specs.Prelude.{List, cond, ◌&&◌, ℕ}
use Rattle.model.specs.declared.Carried.{Carried}
use Rattle.model.specs.Classes.{not_a_table}
use Rattle.model.specs.Causes.{when_serving}
use Rattle.model.specs.View.{own_work}
use Rattle.frame.specs.Fits.{counts_within}

-- rows 1 and 5, by what is carried and by the lent lengths; 0 where the lines decide
unfoldable pub lent_fault : Carried → (work lines : List ℕ) → ℕ
lent_fault h work lines =
    cond (when_serving h.stage && counts_within h.pages h.disks h.ring h.total) (cond (own_work h work) (cond (not_a_table lines) 5 0) 5) 1
