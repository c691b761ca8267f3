-- A commit's task: an append and a flush under one budget, and the state after them.
use Rattle.std.specs.Prelude.{None, Some}
use mathlib.Core.Path.{◌≡◌, refl, sym, ap}
use mathlib.Core.Bool.{Bool, true, false}
use Prim.Native.Nat.{ℕ, ◌+◌, ◌<◌}
use native.Mathlib.Omega.{arith}
use lib.Dec.{leb}
use lib.ListN.{length, get_or, set, length-set}
use lib.Seq.{set-set, get_or-set_same}
use Rattle.model.specs.declared.Sizes.{Sizes}
use Rattle.model.specs.declared.Logs.{Logs}
use Rattle.model.specs.declared.Core.{Core}
use Rattle.model.specs.Record.{encode, close, commit_kind}
use Rattle.model.specs.World.{World}
use Rattle.model.specs.Memory.{buffer_words}
use Rattle.model.specs.State.{tail_of, fill_of, end_of, with_fill, with_log, without, after_flush}
use Rattle.model.specs.Append.{append_if, append, flush}
use Rattle.model.specs.Transaction.{disk_of, commit_task}
use Rattle.device.specs.Ran.{Ran}
use Rattle.device.proofs.Ran.{ran_then, ran_cut, ran_whole}
use Rattle.disk_log.specs.declared.write.Tip.{Tip}
use Rattle.disk_log.specs.Write.{Appends}
use Rattle.frame.specs.Home.{with_disk}
use Rattle.txn.specs.Tasks.{closing}

-- a disk whose buffer came to n words, flushed
flushed_fill : (l : Logs) (disk n : ℕ) → disk < length l.fills → after_flush (with_fill l disk n) disk ≡ with_disk l disk (tail_of l disk + n) 0
unfolding after_flush with_fill end_of tail_of fill_of
flushed_fill l disk n fills = rw (get_or-set_same l.fills disk n 0 fills, set-set l.fills disk n 0) refl

flushed_twice : (l : Logs) (disk : ℕ) → disk < length l.tails → disk < length l.fills
    → after_flush (with_fill (after_flush l disk) disk 2) disk ≡ with_disk l disk (tail_of l disk + fill_of l disk + 2) 0
unfolding after_flush with_fill end_of tail_of fill_of
flushed_twice l disk tails fills =
    let ends = get_or-set_same l.tails disk (get_or l.tails disk 0 + get_or l.fills disk 0) 0 tails in
    let two = get_or-set_same (set l.fills disk 0) disk 2 0 (rw (length-set l.fills disk 0) fills) in
    rw (ends, two, set-set, set-set, set-set) refl

close_length : (kind number : ℕ) → length (encode (close kind number)) ≡ 2
unfolding encode
close_length kind number = refl

-- The closing record and the flush, one after the other.
module _ (s : Sizes) (l : Logs) (w v : World) (disk number : ℕ) {budget rest : ℕ} where
  -- the append is cut
  pub closing_cut : Appends budget rest s l disk (encode (close commit_kind number)) w v None → Ran budget rest (closing s l w disk number) w v false
  unfolding closing
  closing_cut did = ran_cut did.ran _ refl

  -- it is whole, and a flush of what it left follows
  pub closing_flushed : {tip : Tip} → Appends budget rest s l disk (encode (close commit_kind number)) w v (Some tip)
      → {last : ℕ} {u : World} {whole : Bool}
      → Ran rest last (flush s (append s l w.work disk (encode (close commit_kind number))).logs v.work disk) v u whole
      → Ran budget last (closing s l w disk number) w u whole
  unfolding closing
  closing_flushed did flushes = ran_then did.ran _ refl (rw (ran_whole did.ran refl) flushes)

-- The state after a commit: its disk's log ends two words further on, and nothing of it is buffered.
pub committed_core : (c : Core) (w : World) (number : ℕ) → disk_of c number < length c.logs.tails → disk_of c number < length c.logs.fills
    → (commit_task c w number).core
    ≡ with_log c (with_disk c.logs (disk_of c number) (tail_of c.logs (disk_of c number) + fill_of c.logs (disk_of c number) + 2) 0) (without c.table number)
unfolding commit_task append
committed_core c w number tails fills =
    sym (ap (λ l. with_log c l (without c.table number)) (go (leb (fill_of l disk + length (encode (close commit_kind number))) buffer_words)))
  where
    l : Logs
    l = c.logs

    disk : ℕ
    disk = disk_of c number

    two : length (encode (close commit_kind number)) ≡ 2
    two = close_length commit_kind number

    go : (b : Bool)
        → with_disk l disk (tail_of l disk + fill_of l disk + 2) 0
        ≡ after_flush (append_if b c.sizes l w.work disk (encode (close commit_kind number))).logs disk
    go true =
        let ends : tail_of l disk + fill_of l disk + 2 ≡ tail_of l disk + (fill_of l disk + 2) = omega arith in
        rw (ends, two) (sym (flushed_fill l disk (fill_of l disk + 2) fills))
    go false = rw two (sym (flushed_twice l disk tails fills))
