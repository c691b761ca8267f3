-- 01, "Blunders": each as a small variant of a definition, with the slot that it gives beside the one that stands.
use mathlib.Core.Path.{◌≡◌, refl}
use Prim.Native.Nat.{ℕ, ◌+◌}
use mathlib.Core.List.{List, [], ◌∷◌, ◌++◌, map}
use mathlib.Core.Bool.{Bool, true, false, cond, ◌&&◌}
use lib.ListN.{get_or, replicate}
use lib.Dec.{ltb, eqb}
use Rattle.model.specs.declared.Sizes.{Sizes}
use Rattle.model.specs.declared.Core.{Core}
use Rattle.model.specs.declared.Answer.TheVariants.{Finished}
use Rattle.model.specs.declared.Decoded.{Decoded}
use Rattle.model.specs.declared.Decoded.TheVariants.{Change, Close, Malformed}
use Rattle.model.specs.declared.Fate.{Fate}
use Rattle.model.specs.declared.Fate.TheVariants.{Closed, Unclosed, Unreadable}
use Rattle.model.specs.Sizes.{slot_base}
use Rattle.model.specs.Record.{change, close, encode, in_backup, commit_kind, abort_kind}
use Rattle.model.specs.Decode.{span}
use Rattle.model.specs.Scan.{Scan, end, bad, item, scan, fate_in, Update}
use Rattle.model.specs.World.{World, Action, perform}
use Rattle.model.specs.State.{places, with_checkpoint, tail_of, end_of, with_log, without}
use Rattle.model.specs.Refusal.{Task, verdict, conclude}
use Rattle.model.specs.Append.{Appended, append}
use Rattle.model.specs.Transaction.{commit_rows, disk_of}
use Rattle.model.specs.Abort.{abort_rows, updates_left, xor_in}
use Rattle.model.specs.Checkpoint.{per_disk, least_first}
use Rattle.model.specs.Restart.{replays, read_disk, position_of, next_record, moved_to, backup_step, restart_step_rows}
use Rattle.model.specs.Call.{Call, format, begin, update, commit, abort, checkpoint_begin, checkpoint_step, checkpoint_end, restart_step}
use Rattle.model.specs.Reference.{words_in}
use Rattle.model.specs.Machine.{Machine, call, follow, formatted}
use Rattle.model.proofs.Everything.{everything}
use Rattle.model.proofs.Play.{Step, does, play, unformatted, drained, restart_by}
use Rattle.model.proofs.Positions.{plenty, small, fresh, set_up, twelve, mark, copy, finish}

-- other ends remembered for the checkpoint under way
remember : (Core → ℕ → ℕ) → Step
remember f c w = record { answer = Finished 0 0; budget = 0; core = other; world = w }
  where
    other : Core
    other = with_checkpoint c c.stage (record { ends = per_disk c.sizes (f c); copied = c.checkpoint.copied })

-- a log step by another rule: which transactions are closed, and which records are XORed in
step_by : (ℕ → Scan → Fate) → (ℕ → Fate → ℕ → Bool) → ℕ → Step
step_by fate rule source c w = conclude (verdict (restart_step_rows c w source)) 0 (task (ltb source c.sizes.disks)) c w
  where
    taken : Decoded → Task
    taken (Change kind page slot number copy width next) =
        record {
          actions =
              cond (rule c.epoch (fate number (scan c.sizes (read_disk c w source) (tail_of c.logs source) next)) copy)
              (xor_in (slot_base c.sizes page slot) (span (read_disk c w source) (position_of c source + 3) width) w.pages)
              [];
          core = moved_to c source next;
          value = 0;
        }
    taken (Close kind number next) = record { actions = []; core = moved_to c source next; value = 0 }
    taken Malformed = record { actions = []; core = c; value = 0 }

    task : Bool → Task
    task true = taken (next_record c w source)
    task false = backup_step c w

-- "000's one-pass restart writes no compensation": an abort changes the slots back and appends the closing record alone,
abort_silently : ℕ → Step
abort_silently number c w = conclude (verdict (abort_rows c w number)) plenty task c w
  where
    back : List Update → World → List Action
    back [] v = []
    back (u ∷ us) v =
        let one : List Action = xor_in (slot_base c.sizes u.page u.slot) u.diff v.pages in one ++ back us (perform one v)

    closed : Appended
    closed = append c.sizes c.logs w.work (disk_of c number) (encode (close abort_kind number))

    task : Task
    task =
        record {
          actions = back (updates_left c w number) w ++ closed.actions;
          core = with_log c closed.logs (without c.table number);
          value = 0;
        }

-- the log is kept from the first record of each transaction that is open at the checkpoint's begin,
mark_active : List Step
mark_active = mark ∷ remember (λ c d. least_first c.table d (end_of c.logs d) places) ∷ []

-- and only committed transactions are replayed, aborted ones undone
committed_in : ℕ → Scan → Fate
committed_in number end = Unclosed
committed_in number (bad p) = Unreadable p
committed_in number (item p (change kind page slot n copy diff) rest) = committed_in number rest
committed_in number (item p (close kind n) rest) = cond (eqb n number && eqb kind commit_kind) Closed (committed_in number rest)

one_pass : ℕ → Step
one_pass = step_by committed_in replays

-- "Taking the start from the checkpoint's end"
finish_late : List Step
finish_late = remember (λ c d. end_of c.logs d) ∷ finish plenty ∷ []

-- "Replaying a record because it is committed, though the backup has it"
replays_anyway : ℕ → Fate → ℕ → Bool
replays_anyway c Closed copy = true
replays_anyway c Unclosed copy = in_backup c copy
replays_anyway c (Unreadable p) copy = false

-- "Releasing slots before the commit's tail word is stored": a commit that is taken while its records are still buffered
commit_buffered : ℕ → Step
commit_buffered number c w = conclude (verdict (commit_rows c w number)) plenty task c w
  where
    closed : Appended
    closed = append c.sizes c.logs w.work (disk_of c number) (encode (close commit_kind number))

    task : Task
    task = record { actions = closed.actions; core = with_log c closed.logs (without c.table number); value = 0 }

-- two disks, slot 0 committed as 2; one transaction sets 12 and commits by the given step, the next sets 5 and commits
two_disks : Sizes
two_disks = record { pages = 1; disks = 2; ring = 128; slots = 2 ∷ replicate 63 0; widths = 1 ∷ replicate 63 0 }

hand_over : Step → Machine
hand_over committing =
    play (
    does (format two_disks plenty) ∷ does (begin 0) ∷ does (update 1 0 0 (2 ∷ []) plenty) ∷ does (commit 1 plenty)
    ∷ does (begin 0) ∷ does (update 2 0 0 (12 ∷ []) plenty) ∷ committing
    ∷ does (begin 0) ∷ does (update 3 0 0 (5 ∷ []) plenty) ∷ does (commit 3 plenty) ∷ []
    ) (unformatted two_disks)

slot_by : (ℕ → Step) → Machine → ℕ
slot_by step m = get_or (restart_by step plenty m).world.pages 0 99

stands : ℕ → Step
stands source = does (restart_step source)

-- the slot that each blunder gives
pub blunders : List ℕ
blunders =
    -- P5
    slot_by one_pass (play (twelve ++ mark_active ++ abort_silently 2 ∷ copy ∷ finish plenty ∷ []) set_up)
    -- P7
    ∷ slot_by stands (play (mark ∷ copy ∷ twelve ++ does (commit 2 plenty) ∷ finish_late) set_up)
    -- update after the mark, then its page copied, then its commit
    ∷ slot_by (step_by fate_in replays_anyway) (play (mark ∷ twelve ++ copy ∷ does (commit 2 plenty) ∷ finish plenty ∷ []) set_up)
    ∷ slot_by stands (hand_over (commit_buffered 2))
    ∷ []

-- the slot that the definitions give for the same calls
pub standing : List ℕ
standing =
    slot_by stands (play (twelve ++ mark ∷ does (abort 2 plenty) ∷ copy ∷ finish plenty ∷ []) set_up)
    ∷ slot_by stands (play (mark ∷ copy ∷ twelve ++ does (commit 2 plenty) ∷ finish plenty ∷ []) set_up)
    ∷ slot_by stands (play (mark ∷ twelve ++ copy ∷ does (commit 2 plenty) ∷ finish plenty ∷ []) set_up)
    ∷ slot_by stands (hand_over (does (commit 2 plenty)))
    ∷ []

-- the slot that the reference has committed after these calls, by 01's rules
committed_slot : Sizes → List Call → ℕ
committed_slot s calls = get_or (words_in (follow (map call calls) (formatted (unformatted s) s plenty)).reference.committed) 0 99

-- slot 0 committed as 2, then a second transaction that sets it to 12
first : List Call
first = begin 0 ∷ update 1 0 0 (2 ∷ []) plenty ∷ commit 1 plenty ∷ []

second : List Call
second = begin 0 ∷ update 2 0 0 (12 ∷ []) plenty ∷ []

pub referenced : List ℕ
referenced =
    committed_slot (small 1) (first ++ second ++ checkpoint_begin ∷ abort 2 plenty ∷ checkpoint_step plenty ∷ checkpoint_end plenty ∷ [])
    ∷ committed_slot (small 1) (first ++ checkpoint_begin ∷ checkpoint_step plenty ∷ second ++ commit 2 plenty ∷ checkpoint_end plenty ∷ [])
    ∷ committed_slot (small 1) (first ++ checkpoint_begin ∷ second ++ checkpoint_step plenty ∷ commit 2 plenty ∷ checkpoint_end plenty ∷ [])
    ∷ committed_slot two_disks (first ++ second ++ commit 2 plenty ∷ begin 0 ∷ update 3 0 0 (5 ∷ []) plenty ∷ commit 3 plenty ∷ [])
    ∷ []

opens : ℕ
unfolding everything does play unformatted drained restart_by small fresh set_up twelve remember step_by abort_silently mark_active committed_in one_pass finish_late replays_anyway commit_buffered two_disks hand_over slot_by stands committed_slot first second
opens = 0

pub blunders_give : blunders ≡ 12 ∷ 2 ∷ 2 ∷ 11 ∷ []
unfolding opens blunders
blunders_give = refl

pub standing_gives : standing ≡ 2 ∷ 12 ∷ 12 ∷ 5 ∷ []
unfolding opens standing
standing_gives = refl

-- so each blunder makes the power_loss theorem false: after a taken restart end the page memory is not what is committed
pub referenced_gives : referenced ≡ 2 ∷ 12 ∷ 12 ∷ 5 ∷ []
unfolding opens referenced
referenced_gives = refl
