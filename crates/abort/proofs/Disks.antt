-- A disk of a serving state as the functions of `log` are lent it, and what an append on it does.
use Rattle.std.specs.Prelude.{Option, None, Some}
use Rattle.std.specs.Option.{option_or}
use mathlib.Core.Path.{◌≡◌, refl, sym, ◌∙◌}
use mathlib.Core.List.{List}
use Prim.Native.Nat.{ℕ, ◌+◌, ◌*◌, ◌≤◌, ◌<◌}
use native.Mathlib.Omega.{arith}
use lib.ListN.{length}
use Rattle.model.specs.declared.Sizes.{Sizes}
use Rattle.model.specs.declared.Logs.{Logs}
use Rattle.model.specs.Sizes.{total}
use Rattle.model.specs.Decode.{read_log}
use Rattle.model.specs.World.{World}
use Rattle.model.specs.Memory.{buffer_at, buffer_of, copy_at, owner_at, work_words}
use Rattle.model.specs.State.{limit, tail_of, fill_of, end_of}
use Rattle.model.specs.Append.{append}
use Rattle.model.proofs.Bounds.{Bounded, bounded}
use Rattle.model.proofs.Lengths.{length_buffer}
use Rattle.disk_log.specs.declared.write.Home.{Home}
use Rattle.disk_log.specs.declared.read.Extent.{Extent}
use Rattle.disk_log.specs.Reading.{LiesAt, extent_of, Readable}
use Rattle.disk_log.specs.Write.{Within, Encodable, Appends}
use Rattle.disk_log.proofs.Ready.{lies_there, tail_there, end_there, readable}
use Rattle.frame.specs.Home.{home_of}
use Rattle.frame.proofs.Homes.{home_fits_lem}
use Rattle.disk_log.specs.declared.write.Tip.{Tip}
use Rattle.abort.specs.Undo.{only_log, Serving, InSlot, reader, Did}
use Rattle.abort.proofs.Tips.{tip_moved}

-- the bounds that the code's sums and indexes rely on
pub record Small (s : Sizes) (disk : ℕ) (work : List ℕ) : Type 0 where
  pub pages : s.pages ≤ 64
  pub disks : s.disks ≤ 8
  pub below : disk < 8
  pub buffer : 64 * disk + 64 ≤ length work
  pub copies : buffer_at s.disks + 64 ≤ length work

module _ {s : Sizes} {l : Logs} {disk : ℕ} {logs work : List ℕ} (at : Serving s l disk logs work) where
  pub bounds : Bounded s
  bounds = bounded s at.sizes

  pub fill_small : fill_of l disk ≤ 64
  fill_small = at.fills_small disk at.disk_below

  pub small : Small s disk work
  unfolding work_words owner_at copy_at buffer_at
  small =
      record {
        pages = bounds.pages_max;
        disks = bounds.disks_max;
        below = omega (arith, at.disk_below, bounds.disks_max);
        buffer = omega (arith, at.work_words_lem, at.disk_below);
        copies = omega (arith, at.work_words_lem);
      }

  pub extent_asked : (disk < 8) × (s.ring ≤ 65536) × (end_of l disk ≤ limit)
  extent_asked = (small.below, bounds.ring_max, at.end_small)

  pub buffer_asked : (disk < 8) × (fill_of l disk ≤ 64) × (64 * disk + 64 ≤ length work)
  buffer_asked = (small.below, fill_small, small.buffer)

  -- its log as it is read, by its buffered words and an extent up to an end
  module _ {buffer : List ℕ} (e : buffer ≡ buffer_of work disk (fill_of l disk)) (to : ℕ) {x : Extent}
      (is : x ≡ extent_of s disk (tail_of l disk) to) where
    pub lent_lies : LiesAt s disk x.place x.ring
    lent_lies = lies_there s disk (tail_of l disk) to is

    pub lent_tail : x.tail ≡ tail_of l disk
    lent_tail = tail_there s disk (tail_of l disk) to is

    pub lent_to : x.end ≡ to
    lent_to = end_there s disk (tail_of l disk) to is

    pub lent_readable : to ≤ end_of l disk → Readable x logs buffer
    unfolding end_of buffer_at
    lent_readable h =
        rw (is, e)
        (readable s bounds logs disk (tail_of l disk) (buffer_of work disk (fill_of l disk)) to at.log_words_lem at.disk_below
        (omega (arith, h, length_buffer work disk (fill_of l disk) (omega (arith, small.buffer, fill_small)))) (omega (arith, h, at.end_small)))

    pub lent_reader : read_log s logs disk x.tail buffer ≡ reader s l disk logs work
    lent_reader = rw (lent_tail, e) refl

  -- the disk as an append takes it
  pub home_asked : (disk < 8) × (s.ring ≤ 65536)
  home_asked = (small.below, bounds.ring_max)

  pub home_lies : {h : Home} → h ≡ home_of s l disk → Within h logs work
  home_lies e = rw e (home_fits_lem s (total s) l logs work disk (omega (arith, bounds.ring_min)) at.log_words_lem at.work_words_lem at.disk_below fill_small at.end_small)

  -- a slot has at most 32 words
  pub slim : {page slot width : ℕ} → InSlot s page slot width → width ≤ 32
  slim {page} there = omega (arith, there.width_is, (bounds.used page there.page_in).width_max)

  -- its page and its number are low
  pub low_slot : {page slot width : ℕ} → InSlot s page slot width → (page < 64) × (slot < 65536)
  low_slot {page} there =
      (omega (arith, there.page_in, bounds.pages_max), omega (arith, there.slot_in, (bounds.used page there.page_in).slots_max))

  -- a compensation's fields fit its first word
  pub encodable : {page slot width : ℕ} → InSlot s page slot width → (number copy : ℕ)
      → Encodable (record { kind = 1; page = page; slot = slot; number = number; copy = copy }) width
  encodable {page} there number copy =
      let used = bounds.used page there.page_in in
      record {
        kind_small = omega arith;
        page_small = (low_slot there).0;
        slot_small = omega (arith, there.slot_in, used.slots_max);
        width_small = omega (arith, there.width_is, used.width_max);
      }

-- what the answer of an append says of the log after it, however that answer is handed on
pub appended : {budget rest : ℕ} {s : Sizes} {disk : ℕ} (tip : Tip) {words : List ℕ} {w v : World} {q r : Option Tip} → q ≡ r
    → Appends budget rest s (only_log disk tip) disk words w v r
    → Did disk budget rest (append s (only_log disk tip) w.work disk words) w v q
appended tip {r = None} same did = rw same (record { ran = did.ran; state = tt })
appended {disk} tip {r = Some next} same did = rw same (record { ran = did.ran; state = sym (did.state ∙ tip_moved disk tip next) })

-- an answer or none is that answer
pub or_none : (r : Option Tip) → option_or r None ≡ r
or_none None = refl
or_none (Some tip) = refl
