-- A record appended for an abort changes no word of the log that is still to be read.
use mathlib.Core.Path.{◌≡◌, refl, sym, ◌∙◌}
use mathlib.Core.List.Memᴰ
use mathlib.Core.List.{List, [], ◌∷◌, ◌++◌}
use mathlib.Core.Bool.{Bool, true, false}
use Prim.Native.Nat.{ℕ, ◌+◌, ◌≤◌, ◌<◌}
use native.Mathlib.Omega.{arith}
use lib.Dec.{leb}
use lib.ListN.{length}
use lib.Seq.{sets}
use borrow.Author.Tests.{leb-true}
use Rattle.model.specs.declared.Sizes.{Sizes}
use Rattle.model.specs.declared.Logs.{Logs}
use Rattle.model.specs.Word.{xors, part}
use Rattle.model.specs.Sizes.{slot_base, ring_of, disk_at}
use Rattle.model.specs.Record.{change, encode, compensation_kind}
use Rattle.model.specs.Scan.{Update, update_words}
use Rattle.model.specs.World.{World, write, pages, each, perform}
use Rattle.model.specs.Memory.{buffer_at, buffer_of, copy_of}
use Rattle.model.specs.State.{tail_of, fill_of, end_of, with_fill, after_flush}
use Rattle.model.specs.Append.{Appended, append_if, append, store_all, flush, buffered}
use Rattle.model.specs.Abort.{xor_in, compensate, undo_all}
use Rattle.model.proofs.Run.{perform_append, perform_pages, perform_work, perform_lengths}
use Rattle.model.proofs.Parts.{part_sets_end}
use Rattle.model.proofs.Lengths.{length_buffer}
use Rattle.model.proofs.Reader.{read_ring_lem, read_append}
use Rattle.model.proofs.Flush.{flush_reads}
use Rattle.model.proofs.Growth.{SizedLogs, Small, Longer, fill_set, tail_flushed}
use Rattle.model.proofs.Members.{Every, every_nil, every_cons}
use Rattle.model.proofs.Sound.Abort.{undo_grown}
use Rattle.model.proofs.Updates.{update_words_none, update_words_first}
use Rattle.disk_log.proofs.Words.{change_length}
use Rattle.abort.specs.Undo.{reader}

tail_put : (l : Logs) (disk n : ℕ) → tail_of (with_fill l disk n) disk ≡ tail_of l disk
unfolding tail_of with_fill
tail_put l disk n = refl

module _ (s : Sizes) (l : Logs) (w : World) (disk : ℕ) (sized : SizedLogs l) (below : disk < 8) (small : fill_of l disk ≤ 64)
    (disk_fits : disk_at s disk + ring_of s disk + 1 ≤ length w.logs) (buffer_fits : buffer_at disk + 64 ≤ length w.work)
    (words : List ℕ) (short : length words ≤ 64) (q : ℕ) (before : q < end_of l disk) (room : end_of l disk ≤ q + ring_of s disk) where
  -- the log's reader in a world after some actions
  abbrev after : Bool → ℕ → ℕ
  after b =
      reader s (append_if b s l w.work disk words).logs disk (perform (append_if b s l w.work disk words).actions w).logs
      (perform (append_if b s l w.work disk words).actions w).work

  long : length (buffer_of w.work disk (fill_of l disk)) ≡ fill_of l disk
  long = length_buffer w.work disk (fill_of l disk) (omega arith)

  ends : end_of l disk ≡ tail_of l disk + fill_of l disk
  unfolding end_of
  ends = refl

  behind : fill_of l disk + length words ≤ 64
      → buffer_of (sets w.work (buffer_at disk + fill_of l disk) words) disk (fill_of l disk + length words)
      ≡ buffer_of w.work disk (fill_of l disk) ++ words
  unfolding buffer_of
  behind fits = part_sets_end (buffer_at disk) (fill_of l disk) w.work words (omega arith)

  -- the words go behind those that the buffer has
  put_reads : fill_of l disk + length words ≤ 64 → after true q ≡ reader s l disk w.logs w.work q
  unfolding buffered
  put_reads fits =
      let fill : fill_of (with_fill l disk (fill_of l disk + length words)) disk ≡ fill_of l disk + length words =
      fill_set l disk (fill_of l disk + length words) (omega (arith, sized.fills)) in
      rw (tail_put l disk (fill_of l disk + length words), fill, perform_work (buffer_at disk + fill_of l disk) words w, behind fits)
      (read_append s w.logs disk (tail_of l disk) (buffer_of w.work disk (fill_of l disk)) words q (omega (arith, long, ends)))

  -- they follow a flush
  flush_then_reads : after false q ≡ reader s l disk w.logs w.work q
  unfolding flush buffered end_of
  flush_then_reads =
      let buffer : List ℕ = buffer_of w.work disk (fill_of l disk) in
      let v : World = perform (store_all s disk (tail_of l disk) buffer) w in
      let tail : tail_of (with_fill (after_flush l disk) disk (length words)) disk ≡ tail_of l disk + length buffer =
      tail_put (after_flush l disk) disk (length words) ∙ tail_flushed l disk sized below ∙ omega (arith, long) in
      rw (perform_append (store_all s disk (tail_of l disk) buffer) (buffered s disk 0 words) w, perform_work (buffer_at disk + 0) words v, tail)
      (read_ring_lem s v.logs disk (tail_of l disk + length buffer) _ q (omega (arith, long))
      ∙ sym (read_ring_lem s v.logs disk (tail_of l disk + length buffer) [] q (omega (arith, long)))
      ∙ flush_reads s disk (tail_of l disk) buffer w q disk_fits (omega (arith, long)) (omega (arith, long)))

  append_reads : after (leb (fill_of l disk + length words) 64) q ≡ reader s l disk w.logs w.work q
  append_reads = go (leb (fill_of l disk + length words) 64) refl
    where
      go : (b : Bool) → leb (fill_of l disk + length words) 64 ≡ b → after b q ≡ reader s l disk w.logs w.work q
      go true e = put_reads (leb-true _ _ e)
      go false e = flush_then_reads

-- so does the compensation of an update
compensate_reads : (s : Sizes) (l : Logs) (w : World) (number disk : ℕ) (u : Update) → SizedLogs l → disk < 8 → fill_of l disk ≤ 64
    → disk_at s disk + ring_of s disk + 1 ≤ length w.logs → buffer_at disk + 64 ≤ length w.work → length u.diff ≤ 32
    → (q : ℕ) → q < end_of l disk → end_of l disk ≤ q + ring_of s disk
    → reader s (compensate s l w number disk u).logs disk (perform (compensate s l w number disk u).actions w).logs
    (perform (compensate s l w number disk u).actions w).work q
    ≡ reader s l disk w.logs w.work q
unfolding compensate append xor_in
compensate_reads s l w number disk u sized below small disk_fits buffer_fits short q before room =
    let words : List ℕ = encode (change compensation_kind u.page u.slot number (copy_of s w.work u.page) u.diff) in
    let added : Appended = append s l w.work disk words in
    let long = change_length compensation_kind u.page u.slot number (copy_of s w.work u.page) u.diff in
    let at : ℕ = slot_base s u.page u.slot in
    let back : List ℕ = xors (part at (length u.diff) w.pages) u.diff in
    rw (perform_append added.actions (each (write pages) at back) w, perform_pages at back (perform added.actions w))
    (append_reads s l w disk sized below small disk_fits buffer_fits words (omega (arith, long)) q before room)

-- and of a list of them
pub undo_reads : (s : Sizes) (l : Logs) (w : World) (number disk : ℕ) (us : List Update) → SizedLogs l → Small s l → disk < s.disks → disk < 8
    → disk_at s disk + ring_of s disk + 1 ≤ length w.logs → buffer_at disk + 64 ≤ length w.work → Every (λ u. length u.diff ≤ 32) us
    → (q : ℕ) → q < end_of l disk → end_of l disk + update_words us ≤ q + ring_of s disk
    → reader s (undo_all s l w number disk us).logs disk (perform (undo_all s l w number disk us).actions w).logs
    (perform (undo_all s l w number disk us).actions w).work q
    ≡ reader s l disk w.logs w.work q
unfolding undo_all perform
undo_reads s l w number disk [] sized small used below disk_fits buffer_fits short q before room = refl
undo_reads s l w number disk (u ∷ us) sized small used below disk_fits buffer_fits short q before room =
    let one : Appended = compensate s l w number disk u in
    let v : World = perform one.actions w in
    let narrow = short u (Memᴰ.head refl) in
    let first = update_words_first u us in
    let only : update_words (u ∷ []) ≡ 3 + length u.diff = update_words_first u [] ∙ rw update_words_none (omega arith) in
    let grown : Longer s disk (update_words (u ∷ [])) l one.logs =
    undo_grown s l w number disk (u ∷ []) sized small below (every_cons (λ (v : Update). length v.diff ≤ 32) u [] narrow (every_nil _)) in
    let same = perform_lengths one.actions w in
    rw (perform_append one.actions (undo_all s one.logs v number disk us).actions w)
    (undo_reads s one.logs v number disk us grown.sized grown.small used below (omega (arith, same.logs)) (omega (arith, same.work))
    (λ x m. short x (Memᴰ.tail m)) q (omega (arith, grown.end_longer)) (omega (arith, grown.end_longer))
    ∙ compensate_reads s l w number disk u sized below (small disk used) disk_fits buffer_fits narrow q before (omega arith))
