-- The first checks of a call that takes its state in two parts: rows 1, 2 and 5, before it reads a word of the state.
use Rattle.std.specs.Prelude.{Bool, cond, ◌&&◌, ℕ, ◌-◌, eqb}
use Rattle.model.specs.Anchor.{anchor_words}
use Rattle.model.specs.View.{head_words}
use Rattle.layout.specs.Raw.{lengths_are}
use Rattle.frame.specs.Fits.{counts_within}

-- 1 for the stage or the counts; else, where a length but the anchor's is wrong, 2 or 5; 0 where those lengths are right
unfoldable pub lent_refusal : Bool → (pages disks ring t anchor paged backups logs work : ℕ) → ℕ
lent_refusal allowed pages disks ring t anchor paged backups logs work =
    cond (allowed && counts_within pages disks ring t)
    (cond (lengths_are disks ring t paged backups logs (work - head_words)) 0 (cond (eqb anchor anchor_words) 5 2))
    1
