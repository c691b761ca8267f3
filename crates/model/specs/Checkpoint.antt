-- 01, "Calls": checkpoint begin, step and end. n = c + 1 is the number of the checkpoint under way.
use Rattle.std.specs.Prelude.{ℕ, zero, suc, ◌+◌, min, List, [], ◌∷◌, ◌++◌, Bool, cond, ◌&&◌, get_or, replicate, leb, ltb}
use Rattle.model.specs.declared.Stage.TheVariants.{Copying}
use Rattle.model.specs.declared.Sizes.{Sizes}
use Rattle.model.specs.declared.Table.{Table}
use Rattle.model.specs.declared.Core.{Core}
use Rattle.model.specs.Below.{first_below, join_below, list_below}
use Rattle.model.specs.Word.{part}
use Rattle.model.specs.Sizes.{page_base, page_words}
use Rattle.model.specs.Anchor.{epoch_word, start_word, backup_at}
use Rattle.model.specs.World.{World, Action, store, write, anchor, backups, work, each}
use Rattle.model.specs.Memory.{copy_at}
use Rattle.model.specs.State.{sound, places, with_checkpoint, switched_to, end_of, served_by, first_at, has_update}
use Rattle.model.specs.Refusal.{Row, row, Task}
use Rattle.model.specs.Causes.{when_open, when_copying, stage_forbids, anchor_wrong, lengths_wrong, spent}
use Rattle.model.specs.Reads.{fits_on}
use Rattle.model.specs.Append.{flush}

-- eight numbers: f's below n, and 0 from there on
unfoldable pub eight_below : ℕ → (ℕ → ℕ) → List ℕ
eight_below n f = list_below (λ d. cond (ltb d n) (f d) 0) 8

-- a number for each of the eight disks, 0 from D on (get_or_per_disk in proofs/PerDisk.antt)
unfoldable pub per_disk : Sizes → (ℕ → ℕ) → List ℕ
per_disk s f = eight_below s.disks f

-- Begin (open): "number n = c + 1; each disk's end (tail plus buffered) is remembered".
unfoldable pub checkpoint_begin_rows : Core → World → List Row
checkpoint_begin_rows c w =
    row 1 (stage_forbids when_open (fits_on (sound c) c w) c) ∷ row 2 (anchor_wrong w.anchor) ∷ row 5 (lengths_wrong c.sizes c.bases.total w) ∷ row 13 (spent c.epoch) ∷ []

unfoldable pub checkpoint_begin_task : Core → World → Task
checkpoint_begin_task c w =
    record {
      actions = [];
      core = with_checkpoint c Copying (record { ends = per_disk c.sizes (end_of c.logs); copied = 0 });
      value = 0;
    }

-- The pages below `copied` are copied, the others wait.
-- Step (copying): "the lowest page not yet copied goes whole to backup n mod 2 and takes copy number n".
-- Row 15, "an end call while items remain, or a step where none remain": the items of a checkpoint are the pages that wait.
unfoldable pub to_copy : Core → ℕ → Bool
to_copy c page = leb c.checkpoint.copied page

unfoldable pub lowest_to_copy : Core → ℕ
lowest_to_copy c = first_below (to_copy c) c.sizes.pages

unfoldable pub checkpoint_step_rows : Core → World → List Row
checkpoint_step_rows c w =
    row 1 (stage_forbids when_copying (fits_on (sound c) c w) c) ∷ row 2 (anchor_wrong w.anchor) ∷ row 5 (lengths_wrong c.sizes c.bases.total w)
    ∷ row 15 (leb c.sizes.pages (lowest_to_copy c)) ∷ []

unfoldable pub copy_page : Core → World → ℕ → List Action
copy_page c w page =
    each (store backups) (backup_at c.sizes (c.epoch + 1) + page_base c.sizes page)
    (part (page_base c.sizes page) (page_words c.sizes page) w.pages)
    ++ write work (copy_at c.sizes page) (c.epoch + 1) ∷ []

unfoldable pub checkpoint_step_task : Core → World → Task
checkpoint_step_task c w =
    record {
      actions = copy_page c w (lowest_to_copy c);
      core = with_checkpoint c c.stage (record { ends = c.checkpoint.ends; copied = c.checkpoint.copied + 1 });
      value = 0;
    }

-- End (copying): "flush disks in order; store D starts in row n mod 2; c := n".
-- "A start is the remembered end, or the first record of a transaction of that disk still open, if that is smaller." (new_start_lem in
-- proofs/Meaning.antt)
unfoldable pub least_first : Table → ℕ → ℕ → ℕ → ℕ
least_first t disk remembered zero = remembered
least_first t disk remembered (suc n) =
    min (least_first t disk remembered n) (cond (served_by t disk n && has_update t n) (first_at t n) remembered)

unfoldable pub new_start : Core → ℕ → ℕ
new_start c disk = least_first c.table disk (get_or c.checkpoint.ends disk 0) places

unfoldable pub checkpoint_end_rows : Core → World → List Row
checkpoint_end_rows c w =
    row 1 (stage_forbids when_copying (fits_on (sound c) c w) c) ∷ row 2 (anchor_wrong w.anchor) ∷ row 5 (lengths_wrong c.sizes c.bases.total w)
    ∷ row 15 (ltb (lowest_to_copy c) c.sizes.pages) ∷ []

unfoldable pub checkpoint_end_task : Core → World → Task
checkpoint_end_task c w =
    record {
      actions =
          join_below (flush c.sizes c.logs w.work) c.sizes.disks
          ++ list_below (λ d. store anchor (start_word (c.epoch + 1) d) (new_start c d)) c.sizes.disks
          ++ store anchor epoch_word (c.epoch + 1) ∷ [];
      core =
          switched_to c
          (record { starts = per_disk c.sizes (new_start c); tails = per_disk c.sizes (end_of c.logs); fills = replicate 8 0 });
      value = 0;
    }
