-- A log changed from outside, where reading up to the tail and then the buffer differs from reading both as one log.
use Rattle.std.specs.Prelude.{None}
use mathlib.Core.Path.{◌≡◌, refl}
use Prim.Native.Nat.{ℕ}
use mathlib.Core.List.{List, [], ◌∷◌, map}
use lib.ListN.{replicate}
use Rattle.model.specs.declared.Sizes.{Sizes}
use Rattle.model.specs.declared.Answer.TheVariants.{Finished, Refused}
use Rattle.model.specs.Decode.{read_log}
use Rattle.model.specs.Scan.{Scan, scan, fault_in, updates_in}
use Rattle.model.specs.World.{store, logs, act}
use Rattle.model.specs.Memory.{buffer_of}
use Rattle.model.specs.State.{tail_of, fill_of, end_of}
use Rattle.model.specs.Refusal.{rejected, verdict}
use Rattle.model.specs.Abort.{abort_rows}
use Rattle.model.specs.Call.{format, begin, update, commit, abort, result_of}
use Rattle.model.specs.Machine.{Machine}
use Rattle.model.proofs.Everything.{everything}
use Rattle.model.proofs.Play.{Step, does, play, numbers, unformatted}
use Rattle.model.proofs.Positions.{plenty}

-- three pages of one slot, of widths 1, 5 and 3; one disk, W = 128
pub three_pages : Sizes
three_pages = record { pages = 3; disks = 1; ring = 128; slots = 1 ∷ 1 ∷ 1 ∷ replicate 61 0; widths = 1 ∷ 5 ∷ 3 ∷ replicate 61 0 }

-- Word 5 of the logs, at position 4, began transaction 2's commit record. Now it says: an update of page 1, five words of difference.
-- That record begins before the tail, 6, and would end in the buffer at 12, over the update at 6.
pub changed : Step
changed c w = record { answer = Finished 0 0; budget = 0; core = c; world = act (store logs 5 327688) w }

pub script : List Step
script =
    does (format three_pages plenty) ∷ does (begin 0) ∷ does (begin 0) ∷ does (update 1 0 0 (7 ∷ []) plenty) ∷ does (commit 2 plenty) ∷ changed
    ∷ does (update 1 2 0 (1 ∷ 2 ∷ 3 ∷ []) plenty) ∷ does (update 1 0 0 (9 ∷ []) plenty) ∷ []

pub torn : Machine
torn = play script (unformatted three_pages)

-- ring and buffer read as one log
pub as_one : Scan
as_one =
    scan three_pages (read_log three_pages torn.world.logs 0 tail (buffer_of torn.world.work 0 (fill_of torn.core.logs 0)))
    (end_of torn.core.logs 0) 0
  where
    tail : ℕ
    tail = tail_of torn.core.logs 0

opens : ℕ
unfolding everything three_pages changed script torn as_one does play numbers unformatted
opens = 0

pub taken_so_far : numbers script (unformatted three_pages) ≡ replicate 8 0
unfolding opens
taken_so_far = refl

-- 7 with the disk and that record's position, and all is left as it was
torn_verdict : verdict (abort_rows torn.core torn.world 1) ≡ rejected 7 0 4
unfolding opens
torn_verdict = refl

pub torn_refused : result_of (abort 1 plenty) torn.core torn.world
    ≡ record { answer = Refused 7 0 4; budget = plenty; core = torn.core; world = torn.world }
unfolding result_of
torn_refused = rw torn_verdict refl

-- as one log nothing in it is malformed, and the update at 6 is not found: an abort would take back two of three
pub one_misses : fault_in 0 as_one None ≡ None
unfolding opens
one_misses = refl

pub one_finds : map (λ u. u.position) (updates_in 1 as_one) ≡ 12 ∷ 0 ∷ []
unfolding opens
one_finds = refl
