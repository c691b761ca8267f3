-- Abort writes no more words than its transaction has reserved, so it hands back a state that passes the first test.
use mathlib.Core.Path.{◌≡◌, refl}
use mathlib.Core.List.Memᴰ
use mathlib.Core.List.{List, [], ◌∷◌}
use mathlib.Core.Bool.{true}
use Prim.Native.Nat.{ℕ, ◌+◌, ◌≤◌, ◌<◌}
use native.Mathlib.Omega.{arith}
use lib.ListN.{length}
use Rattle.model.specs.declared.Sizes.{Sizes}
use Rattle.model.specs.declared.Logs.{Logs}
use Rattle.model.specs.declared.Core.{Core}
use Rattle.model.specs.declared.Decoded.{Decoded}
use Rattle.model.specs.declared.Decoded.TheVariants.{Change, Close, Malformed}
use Rattle.model.specs.Record.{Record, change, close, encode, compensation_kind, abort_kind}
use Rattle.model.specs.Decode.{decode_at}
use Rattle.model.specs.Scan.{Scan, scan, ring_then_buffer, Update, updates_in, update_words}
use Rattle.model.specs.World.{World, perform}
use Rattle.model.specs.Memory.{copy_of}
use Rattle.model.specs.State.{with_log, sound}
use Rattle.model.specs.Refusal.{accepted, verdict}
use Rattle.model.specs.Append.{Appended}
use Rattle.model.specs.Transaction.{disk_of}
use Rattle.model.specs.Abort.{updates_left, abort_rows, compensate, undo_all, abort_task}
use Rattle.model.proofs.Members.{Every, every_nil}
use Rattle.model.proofs.Reading.{items, Decodes, scan_items}
use Rattle.model.proofs.RingThenBuffer.{parts_items}
use Rattle.model.proofs.Updates.{updates_from, update_words_none, update_words_first, abort_reads}
use Rattle.model.proofs.Decode.{found_change}
use Rattle.model.proofs.Bounds.{Bounded, bounded}
use Rattle.model.proofs.Restart.Gain.{length_span}
use Rattle.model.proofs.Store.Rows.{serving_sound_lem, sizes_sound}
use Rattle.model.proofs.Sound.Test.{Sized, Passing}
use Rattle.model.proofs.Sound.Transaction.{close_passes}
use Rattle.model.proofs.Growth.{Small, SizedLogs, Longer, longer_none, longer_then, append_longer}
use Rattle.model.proofs.Store.Accepted.{small_buffers, open_below, Aborting, abort_accepted, disks_max}

-- A record found in a log has its page's width, at most 32 words.
abbrev Narrow : Record → Type 0
Narrow (change kind page slot number copy diff) = length diff ≤ 32
Narrow (close kind number) = Unit {0}

narrow_items : (s : Sizes) (read : ℕ → ℕ) → Bounded s → (stop p : ℕ) → Every (λ i. Narrow i.content) (items (scan s read stop p))
narrow_items s read b stop p i m =
    let stands = scan_items s read stop p i m in
    go i.content stands.next (decode_at s read stop i.position) refl stands.decodes
  where
    go : (r : Record) (next : ℕ) (d : Decoded) → decode_at s read stop i.position ≡ d → Decodes read i.position d r next → Narrow r
    go r next (Change kind page slot n copy width to) x h =
        let f = found_change s read stop x in
        rw h.0 (omega (arith, length_span read (i.position + 3) width, (b.used page f.page_in).width_max))
    go r next (Close kind n to) x h = rw h.0 tt
    go r next Malformed x h = absurd h

pub updates_short : (c : Core) (w : World) (number : ℕ) → Bounded c.sizes → Every (λ u. length u.diff ≤ 32) (updates_left c w number)
unfolding updates_left updates_in
updates_short c w number b =
    abort_reads (λ (sc : Scan). Every (λ u. length u.diff ≤ 32) (updates_in number sc)) c w number (every_nil _)
    (λ read tail stop first u m.
    let sc : Scan = ring_then_buffer c.sizes read tail stop first in
    let from = updates_from number sc u m in
    parts_items c.sizes read tail stop first (λ i. Narrow i.content) (narrow_items c.sizes read b) _ from.listed)

-- Taking updates back adds the words of their records to the log.
one_grown : (s : Sizes) (l : Logs) (w : World) (number d : ℕ) (u : Update) → SizedLogs l → Small s l → d < 8
    → length u.diff ≤ 32 → Longer s d (3 + length u.diff) l (compensate s l w number d u).logs
unfolding compensate encode
one_grown s l w number d u sized small below short =
    let words : List ℕ = encode (change compensation_kind u.page u.slot number (copy_of s w.work u.page) u.diff) in
    let long : length words ≡ 3 + length u.diff = omega arith in
    rw long at (append_longer s l d sized small below w.work words (omega arith))

pub undo_grown : (s : Sizes) (l : Logs) (w : World) (number d : ℕ) (us : List Update) → SizedLogs l → Small s l → d < 8
    → Every (λ u. length u.diff ≤ 32) us → Longer s d (update_words us) l (undo_all s l w number d us).logs
unfolding undo_all
undo_grown s l w number d [] sized small below short = rw update_words_none (longer_none l sized small)
undo_grown s l w number d (u ∷ us) sized small below short =
    let one : Appended = compensate s l w number d u in
    let first = one_grown s l w number d u sized small below (short u (Memᴰ.head refl)) in
    rw (update_words_first u us)
    (longer_then first
    (undo_grown s one.logs (perform one.actions w) number d us first.sized first.small below (λ v m. short v (Memᴰ.tail m))))

-- The log of its disk grows by the words of the updates taken back and the two of the closing record.
pub abort_grown : (c : Core) (w : World) (number : ℕ) → Sized c → sound c ≡ true → Aborting c w number
    → Longer c.sizes (disk_of c number) (update_words (updates_left c w number) + 2) c.logs (abort_task c w number).core.logs
unfolding abort_task with_log encode
abort_grown c w number sized ok a =
    let s : Sizes = c.sizes in
    let d : ℕ = disk_of c number in
    let good = serving_sound_lem c a.serving ok in
    let below : d < 8 = omega (arith, open_below c number good a.opened, disks_max c good) in
    let undone : Appended = undo_all s c.logs w number d (updates_left c w number) in
    let first =
    undo_grown s c.logs w number d (updates_left c w number) sized.logs (small_buffers c good) below
    (updates_short c w number (bounded s (sizes_sound c good))) in
    longer_then first
    (append_longer s undone.logs d first.sized first.small below (perform undone.actions w).work
    (encode (close abort_kind number)) (omega arith))

pub abort_passes : (c : Core) (w : World) (number : ℕ) → Sized c → sound c ≡ true → verdict (abort_rows c w number) ≡ accepted
    → Passing (abort_task c w number).core
unfolding abort_task with_log
abort_passes c w number sized s ok =
    let a = abort_accepted c w number s ok in
    close_passes c a.serving s sized number a.opened (update_words (updates_left c w number) + 2)
    (abort_task c w number).core.logs (abort_grown c w number sized s a) a.words
