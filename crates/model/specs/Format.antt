-- 01, "Calls": format.
use Rattle.std.specs.Prelude.{ℕ, List, [], ◌∷◌, ◌++◌, true, replicate}
use Rattle.model.specs.declared.Sizes.{Sizes}
use Rattle.model.specs.declared.Core.{Core}
use Rattle.model.specs.Below.{list_below}
use Rattle.model.specs.Sizes.{total, tail_word}
use Rattle.model.specs.Anchor.{epoch_word, slots_at, widths_at, rows_at, backup_at}
use Rattle.model.specs.World.{World, Action, store, write, world_of, anchor, backups, logs, pages, work, perform, each}
use Rattle.model.specs.Memory.{copy_at, owner_at}
use Rattle.model.specs.State.{open_core}
use Rattle.model.specs.Refusal.{Row, row, Task}
use Rattle.model.specs.Causes.{when_shut, stage_forbids, anchor_wrong, sizes_wrong, lengths_wrong}

-- "Format checks 1, 2, 4 (of the sizes handed to it), 5 and 16."
unfoldable pub format_rows : Core → World → Sizes → List Row
format_rows c w s =
    row 1 (stage_forbids when_shut true c) ∷ row 2 (anchor_wrong w.anchor) ∷ row 4 (sizes_wrong s) ∷ row 5 (lengths_wrong s (total s) w) ∷ []

-- "c := 0; anchor words 0, 1, 2; both page arrays; both rows 0; each tail 0; backup 1 zero; c := 1."
unfoldable pub format_stores : Sizes → List Action
format_stores s =
    store anchor epoch_word 0 ∷ []
    ++ each (store anchor) 0 (s.pages ∷ s.disks ∷ s.ring ∷ [])
    ++ each (store anchor) slots_at s.slots
    ++ each (store anchor) widths_at s.widths
    ++ each (store anchor) rows_at (replicate 16 0)
    ++ list_below (λ d. store logs (tail_word s d) 0) s.disks
    ++ each (store backups) (backup_at s 1) (replicate (total s) 0)
    ++ store anchor epoch_word 1 ∷ []

-- memory made fresh: no slot has an owner, every page has this copy number
unfoldable pub fresh_memory : Sizes → ℕ → List Action
fresh_memory s copy = each (write work) (owner_at s 0) (replicate (total s) 0) ++ each (write work) (copy_at s 0) (replicate 64 copy)

-- the work memory after it
unfoldable pub fresh_work : Sizes → ℕ → List ℕ → List ℕ
fresh_work s copy memory = (perform (fresh_memory s copy) (world_of [] [] [] [] memory)).work

-- "Pages are zero, copy numbers 1, stage open."
unfoldable pub format_task : Sizes → Task
format_task s =
    record {
      actions = format_stores s ++ each (write pages) 0 (replicate (total s) 0) ++ fresh_memory s 1;
      core = open_core s 1 (replicate 8 0);
      value = 0;
    }
