-- The parts of a format joined: tails, last stores and memory, and all its actions in order.
use mathlib.Core.Path.{◌≡◌, refl, sym}
use mathlib.Core.List.{List, [], ◌∷◌, ◌++◌, append_assoc}
use mathlib.Core.Bool.{Bool, true, false}
use Prim.Native.Nat.{ℕ}
use native.Mathlib.Nat.{one-mul}
use lib.ListN.{replicate}
use lib.Seq.{sets}
use Rattle.model.specs.declared.Sizes.{Sizes}
use Rattle.model.specs.declared.Core.{Core}
use Rattle.model.specs.declared.Reply.{Reply}
use Rattle.model.specs.Below.{join_below}
use Rattle.model.specs.Sizes.{total, disk_at}
use Rattle.model.specs.Anchor.{epoch_word, slots_at, widths_at, rows_at, backup_at}
use Rattle.model.specs.World.{World, Action, world_of, store, anchor, backups, logs, each}
use Rattle.model.specs.State.{open_core}
use Rattle.model.specs.Format.{format_stores, fresh_memory, fresh_work, format_task}
use Rattle.layout.specs.declared.anchor.RawSizes.{RawSizes}
use Rattle.layout.specs.Raw.{sizes_of}
use Rattle.device.specs.Ran.{Ran, Stored}
use Rattle.device.proofs.Memory.{pages_written, fresh_written}
use Rattle.device.proofs.Ran.{ran_then, ran_cut}
use Rattle.device.proofs.Runs.{anchor_ran, backups_ran, logs_ran}
use Rattle.frame.specs.Settle.{settled, Concludes}
use Rattle.frame.proofs.Verdicts.{task_settled}
use Rattle.format.specs.Parts.{front_stores, array_stores, tail_stores, last_stores, pages_zero}

-- the tail of a disk, at its start
abbrev pub tail_on : Sizes → ℕ → List Action
tail_on s d = store logs (disk_at s d) 0 ∷ []

-- the tails of the disks below n
unfoldable pub tails_to : Sizes → ℕ → List Action
tails_to s n = join_below (tail_on s) n

-- one tail
pub tail_ran : {budget rest at : ℕ} {before after : List ℕ} {whole : Bool} (anchor memory backups work : List ℕ)
    → Stored budget rest at (0 ∷ []) before after whole
    → Ran budget rest (store logs at 0 ∷ []) (world_of anchor memory backups before work) (world_of anchor memory backups after work) whole
unfolding each
tail_ran a m b work did = logs_ran (world_of a m b _ work) did

-- backup 1, then the number
module _ (memory logs work : List ℕ) (words : ℕ) {budget rest : ℕ} {old before after : List ℕ} {whole : Bool}
    (did : Stored budget rest words (replicate words 0) before after whole) where
  pub last_cut : whole ≡ false → Ran budget rest (last_stores words) (world_of old memory before logs work) (world_of old memory after logs work) false
  unfolding last_stores
  last_cut e = ran_cut (backups_ran (world_of old memory before logs work) did) _ e

  pub last_whole : whole ≡ true → {last : ℕ} {final : List ℕ} {all : Bool} → Stored rest last 3 (1 ∷ []) old final all
      → Ran budget last (last_stores words) (world_of old memory before logs work) (world_of final memory after logs work) all
  unfolding last_stores each
  last_whole e next =
      ran_then (backups_ran (world_of old memory before logs work) did) _ e (anchor_ran (world_of old memory after logs work) next)

-- the brackets of a list of parts do not matter
regroup : (a b c d e f g h : List Action) → a ++ b ++ (c ++ d ++ e) ++ f ++ (g ++ h) ≡ a ++ b ++ c ++ d ++ e ++ f ++ g ++ h
regroup a b c d e f g h = simp append_assoc

-- The list of stores is these parts.
module _ (s : Sizes) where
  abbrev on_anchor : List Action
  on_anchor = front_stores s.pages s.disks s.ring ++ array_stores s.slots s.widths

  backup_one : backup_at s 1 ≡ total s
  unfolding backup_at
  backup_one = one-mul (total s)

  parts : on_anchor ++ tail_stores s ++ last_stores (total s) ≡ format_stores s
  unfolding format_stores front_stores array_stores tail_stores last_stores
  parts =
      rw backup_one
      (regroup (store anchor epoch_word 0 ∷ []) (each (store anchor) 0 (s.pages ∷ s.disks ∷ s.ring ∷ []))
      (each (store anchor) slots_at s.slots) (each (store anchor) widths_at s.widths) (each (store anchor) rows_at (replicate 16 0))
      (tail_stores s) (each (store backups) (total s) (replicate (total s) 0)) (store anchor epoch_word 1 ∷ []))

  module _ {raw : RawSizes} {budget rest : ℕ} {w v : World} {whole : Bool} (same : s ≡ sizes_of raw)
      (stored : Ran budget rest (front_stores raw.pages raw.disks raw.ring ++ array_stores raw.slots raw.widths) w v whole) where
    ran : Ran budget rest on_anchor w v whole
    ran = rw same stored

    pub anchor_cut : whole ≡ false → Ran budget rest (format_stores s) w v false
    anchor_cut e = rw (← parts) (ran_cut (ran_cut ran (tail_stores s) e) (last_stores (total s)) refl)

    module _ (e : whole ≡ true) {last : ℕ} {u : World} {all : Bool} (next : Ran rest last (tail_stores s) v u all) where
      pub tails_cut : all ≡ false → Ran budget last (format_stores s) w u false
      tails_cut f = rw (← parts) (ran_cut (ran_then ran (tail_stores s) e next) (last_stores (total s)) f)

      pub stores_whole : all ≡ true → {words end : ℕ} {t : World} {every : Bool} → words ≡ total s
          → Ran last end (last_stores words) u t every → Ran budget end (format_stores s) w t every
      stores_whole f long final =
          rw (← parts) (ran_then (ran_then ran (tail_stores s) e next) (last_stores (total s)) f (rw long at final))

  -- memory made fresh
  pub fresh_ran : (budget words : ℕ) (anchor backups logs pages work : List ℕ) → words ≡ total s
      → Ran budget budget (pages_zero s ++ fresh_memory s 1) (world_of anchor pages backups logs work)
      (world_of anchor (sets pages 0 (replicate words 0)) backups logs (fresh_work s 1 work)) true
  unfolding pages_zero
  fresh_ran budget words a b l pages work long =
      rw long
      (ran_then (pages_written budget 0 (replicate (total s) 0) (world_of a pages b l work)) _ refl
      (fresh_written budget s 1 (world_of a (sets pages 0 (replicate (total s) 0)) b l work)))

  actions : format_stores s ++ (pages_zero s ++ fresh_memory s 1) ≡ (format_task s).actions
  unfolding format_task pages_zero
  actions = sym (append_assoc (format_stores s) _ _)

  module _ {budget rest : ℕ} {w v : World} {whole : Bool} {r : Reply} (ran : Ran budget rest (format_stores s) w v whole) where
    pub lay_cut : whole ≡ false → r ≡ settled false budget rest 0 (format_task s).core → Concludes budget rest (format_task s) w v r
    unfolding format_task
    lay_cut e f =
        task_settled {whole = false} {core = (format_task s).core} (format_task s) (rw (← actions) (ran_cut ran (pages_zero s ++ fresh_memory s 1) e)) f (λ _. refl)

    pub lay_whole : whole ≡ true → {u : World} {next : Core} → Ran rest rest (pages_zero s ++ fresh_memory s 1) v u true
        → next ≡ open_core s 1 (replicate 8 0) → r ≡ settled true budget rest 0 next → Concludes budget rest (format_task s) w u r
    unfolding format_task
    lay_whole e {next} memory same f =
        task_settled {whole = true} {core = next} (format_task s) (rw (← actions) (ran_then ran (pages_zero s ++ fresh_memory s 1) e memory)) f (λ _. same)
