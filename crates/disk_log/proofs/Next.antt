-- What an append leaves, as it is lent to the next call; and that the premises of the contracts can be met.
use Rattle.std.specs.Prelude.{Some}
use mathlib.Core.Path.{◌≡◌, refl}
use mathlib.Core.List.{List, [], ◌∷◌, ◌++◌}
use Prim.Native.Nat.{ℕ, ◌+◌, ◌*◌, ◌≤◌, ◌<◌, ◌^◌}
use native.Mathlib.Omega.{arith}
use lib.ListN.{length, replicate, length-replicate}
use lib.Seq.{get_or-set_same, get_or_at}
use Rattle.model.specs.declared.Sizes.{Sizes}
use Rattle.model.specs.declared.Logs.{Logs}
use Rattle.model.specs.Sizes.{ring_of, disk_at}
use Rattle.model.specs.World.{World}
use Rattle.model.specs.Memory.{buffer_at}
use Rattle.model.specs.State.{tail_of, fill_of}
use Rattle.model.specs.Append.{append}
use Rattle.disk_log.specs.declared.write.Home.{Home}
use Rattle.disk_log.specs.declared.write.Tip.{Tip}
use Rattle.device.specs.Ran.{with_slices}
use Rattle.disk_log.specs.Write.{Within, Lent, Ends, Appends}

-- a disk after an append
abbrev pub moved_on : Home → Tip → Home
moved_on h t =
    record { disk = h.disk; place = h.place; ring = h.ring; buffer = h.buffer; tail = t.tail; fill = t.fill }

-- an append that was not cut: the answer's tail and fill are those of the state after it
pub appended_lent : {s : Sizes} {l : Logs} {w : World} {h : Home} {before memory after full : List ℕ}
    {budget rest : ℕ} {words : List ℕ} {t : Tip} → Lent s l w h before memory
    → Appends budget rest s l h.disk words w (with_slices w after full) (Some t)
    → h.disk < length l.tails → h.disk < length l.fills
    → Lent s (append s l w.work h.disk words).logs (with_slices w after full) (moved_on h t) after full
unfolding tail_of fill_of
appended_lent {l} {h} {t} lent did tails fills =
    record {
      lies = lent.lies;
      same_buffer = lent.same_buffer;
      same_tail = rw did.state (get_or-set_same l.tails h.disk t.tail 0 tails);
      same_fill = rw did.state (get_or-set_same l.fills h.disk t.fill 0 fills);
      same_logs = refl;
      same_work = refl;
    }

-- and they lie within the bounds, if the log's new end does
pub appended_within : {h : Home} (n : ℕ) {before memory after full : List ℕ} {t : Tip}
    → Within h before memory → Ends h.tail h.fill n (Some t) → h.tail + h.fill + n ≤ 2 ^ 62
    → length after ≡ length before → length full ≡ length memory → Within (moved_on h t) after full
appended_within n within ends end logs work =
    record {
      some_ring = within.some_ring;
      ring_within = omega (arith, within.ring_within);
      buffer_within = omega (arith, within.buffer_within);
      fill_small = ends.0;
      end_small = omega (arith, ends.1);
    }

-- Any numbers and slices are those of some state and world, if the place is that of the disk behind rings of this size, and the buffer
-- that of the disk.
abbrev pub some_sizes : ℕ → Sizes
some_sizes ring = record { pages = 0; disks = 0; ring = ring; slots = []; widths = [] }

abbrev pub some_logs : ℕ → ℕ → ℕ → Logs
some_logs disk tail fill = record { starts = []; tails = replicate disk 0 ++ tail ∷ []; fills = replicate disk 0 ++ fill ∷ [] }

abbrev pub some_world : List ℕ → List ℕ → World
some_world logs work = record { anchor = []; pages = []; backups = []; logs = logs; work = work }

pub premises_met : (h : Home) (logs work : List ℕ) → h.disk * (h.ring + 1) ≡ h.place → 64 * h.disk ≡ h.buffer
    → Lent (some_sizes h.ring) (some_logs h.disk h.tail h.fill) (some_world logs work) h logs work
unfolding tail_of fill_of buffer_at ring_of disk_at
premises_met h logs work there here =
    record {
      lies = record { same_place = there; same_ring = refl };
      same_buffer = here;
      same_tail = get_or_at (replicate h.disk 0) h.tail [] 0 h.disk (length-replicate h.disk 0);
      same_fill = get_or_at (replicate h.disk 0) h.fill [] 0 h.disk (length-replicate h.disk 0);
      same_logs = refl;
      same_work = refl;
    }
