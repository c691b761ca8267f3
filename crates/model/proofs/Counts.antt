-- How many stores each call's list has, as document 01 gives them.
use mathlib.Core.Path.{◌≡◌, refl, ap, ◌∙◌}
use mathlib.Core.List.{List, [], ◌∷◌}
use mathlib.Core.Bool.{true}
use Prim.Native.Nat.{ℕ, zero, suc, ◌+◌, ◌≤◌, ◌<◌}
use native.Mathlib.Omega.{arith}
use native.Mathlib.Nat.{not-suc-le-zero}
use lib.ListN.{length, length-replicate}
use lib.Seq.{lt-length-set}
use borrow.Author.Tests.{le-leb, lt-leb}
use Rattle.model.specs.declared.Sizes.{Sizes}
use Rattle.model.specs.declared.Logs.{Logs}
use Rattle.model.specs.declared.Core.{Core}
use Rattle.model.specs.Below.{sum_below, join_below, list_below}
use Rattle.model.specs.Word.{part}
use Rattle.model.specs.Sizes.{page_words, page_base, total, tail_word, sizes_in_bounds}
use Rattle.model.specs.Anchor.{start_word}
use Rattle.model.specs.Record.{close, encode, commit_kind}
use Rattle.model.specs.World.{World, Action, store, anchor, logs, work, cost, perform, stores, each}
use Rattle.model.specs.Memory.{buffer_at, buffer_of}
use Rattle.model.specs.State.{tail_of, fill_of, after_flush}
use Rattle.model.specs.Append.{store_log, store_all, flush, buffered, append, Appended}
use Rattle.model.specs.Format.{format_stores, fresh_memory, format_task}
use Rattle.model.specs.Transaction.{disk_of, update_record, update_task, commit_task}
use Rattle.model.specs.Checkpoint.{lowest_to_copy, copy_page, new_start, checkpoint_step_task, checkpoint_end_task}
use Rattle.model.specs.Restart.{restart_end_task}
use Rattle.model.proofs.Lengths.{arrays_right, Lengths, length_buffer, buffer_fits}
use Rattle.model.proofs.Run.{stores_append, stores_each, stores_stored, stores_written, perform_lengths}
use Rattle.model.proofs.Geometry.{page_end}
use Rattle.model.proofs.Parts.{length_part}
use Rattle.model.proofs.Growth.{fill_set}

-- Stores of a list made of lists, and of a list of stores.
pub stores_join : (f : ℕ → List Action) (n : ℕ) → stores (join_below f n) ≡ sum_below (λ i. stores (f i)) n
unfolding join_below sum_below stores
stores_join f zero = refl
stores_join f (suc n) = rw (stores_append (join_below f n) (f n), stores_join f n)

pub stores_list : (f : ℕ → Action) → ((i : ℕ) → cost (f i) ≡ 1) → (n : ℕ) → stores (list_below f n) ≡ n
unfolding list_below join_below stores
stores_list f one zero = refl
stores_list f one (suc n) =
    rw (stores_append (list_below f n) (f n ∷ [])) (omega (arith, one n, stores_list f one n))

-- Format: "149 + D + T stores".
pub format_stores_lem : (s : Sizes) → length s.slots ≡ 64 → length s.widths ≡ 64
    → stores (format_task s).actions ≡ 149 + s.disks + total s
unfolding format_task format_stores fresh_memory stores cost
format_stores_lem s h k =
    simp (stores_append, stores_stored, stores_written, length-replicate)
    (omega (arith, stores_list (λ d. store logs (tail_word s d) 0) (λ d. refl) s.disks))

pub format_count : (s : Sizes) → sizes_in_bounds s ≡ true → stores (format_task s).actions ≡ 149 + s.disks + total s
format_count s h = format_stores_lem s (arrays_right s h).0 (arrays_right s h).1

-- Restart end: all pages, D starts, c.
pub restart_end_stores : (c : Core) (w : World)
    → stores (restart_end_task c w).actions ≡ length w.pages + c.sizes.disks + 1
unfolding restart_end_task fresh_memory stores cost
restart_end_stores c w =
    simp (stores_append, stores_stored, stores_written)
    (omega (arith, stores_list (λ d. store anchor (start_word (c.epoch + 1) d) (tail_of c.logs d)) (λ d. refl) c.sizes.disks))

pub restart_end_total : (c : Core) (w : World) → Lengths c.sizes (total c.sizes) w
    → stores (restart_end_task c w).actions ≡ total c.sizes + c.sizes.disks + 1
restart_end_total c w right = rw (← right.pages) (restart_end_stores c w)

-- Flush: the buffered words and then the tail; of an empty buffer, nothing.
stores_all : (s : Sizes) (disk tail : ℕ) (xs : List ℕ) → 0 < length xs → stores (store_all s disk tail xs) ≡ length xs + 1
unfolding stores cost
stores_all s disk tail [] h = absurd (not-suc-le-zero h)
stores_all s disk tail (x ∷ xs) h =
    rw (stores_append (each (store_log s disk) tail (x ∷ xs)) (store logs (tail_word s disk) (tail + length (x ∷ xs)) ∷ []))
    (omega (arith, stores_each (store_log s disk) (λ i x. refl) tail (x ∷ xs)))

pub flush_empty : (s : Sizes) (l : Logs) (memory : List ℕ) (disk : ℕ) → fill_of l disk ≡ 0 → flush s l memory disk ≡ []
unfolding flush buffer_of part
flush_empty s l memory disk h = rw h

pub flush_stores : (s : Sizes) (l : Logs) (memory : List ℕ) (disk : ℕ) → 0 < fill_of l disk
    → buffer_at disk + fill_of l disk ≤ length memory → stores (flush s l memory disk) ≡ fill_of l disk + 1
unfolding flush
flush_stores s l memory disk h k =
    let n : length (buffer_of memory disk (fill_of l disk)) ≡ fill_of l disk = length_buffer memory disk (fill_of l disk) k in
    stores_all s disk (tail_of l disk) (buffer_of memory disk (fill_of l disk)) (omega arith) ∙ ap (λ (m : ℕ). m + 1) n

-- Checkpoint step: the words of the page.
pub checkpoint_step_stores : (c : Core) (w : World) → length w.pages ≡ total c.sizes → lowest_to_copy c < c.sizes.pages
    → stores (checkpoint_step_task c w).actions ≡ page_words c.sizes (lowest_to_copy c)
unfolding checkpoint_step_task copy_page stores cost
checkpoint_step_stores c w h k =
    let s = c.sizes in
    let page = lowest_to_copy c in
    let fits : page_base s page + page_words s page ≤ length w.pages = omega (arith, page_end s page k) in
    simp (stores_append, stores_stored) (omega (arith, length_part (page_base s page) (page_words s page) w.pages fits))

-- Checkpoint end: the flushes, D starts, c.
pub checkpoint_end_stores : (c : Core) (w : World)
    → stores (checkpoint_end_task c w).actions
    ≡ sum_below (λ d. stores (flush c.sizes c.logs w.work d)) c.sizes.disks + c.sizes.disks + 1
unfolding checkpoint_end_task stores cost
checkpoint_end_stores c w =
    simp (stores_append, stores_join)
    (omega (arith, stores_list (λ d. store anchor (start_word (c.epoch + 1) d) (new_start c d)) (λ d. refl) c.sizes.disks))

-- An append stores nothing where the record fits the buffer's free words, and else what a flush does.
pub append_fits : (s : Sizes) (l : Logs) (memory : List ℕ) (disk : ℕ) (words : List ℕ) → fill_of l disk + length words ≤ 64
    → stores (append s l memory disk words).actions ≡ 0
unfolding append buffered
append_fits s l memory disk words h = rw (le-leb _ _ h) (stores_written work (buffer_at disk + fill_of l disk) words)

pub append_flushes : (s : Sizes) (l : Logs) (memory : List ℕ) (disk : ℕ) (words : List ℕ) → 64 < fill_of l disk + length words
    → stores (append s l memory disk words).actions ≡ stores (flush s l memory disk)
unfolding append buffered
append_flushes s l memory disk words h =
    rw (lt-leb _ _ h) (simp (stores_append, stores_written) (omega arith))

-- Update: those of its record's append.
pub update_stores : (c : Core) (w : World) (number page slot : ℕ) (value : List ℕ)
    → stores (update_task c w number page slot value).actions
    ≡ stores (append c.sizes c.logs w.work (disk_of c number) (encode (update_record c w number page slot value))).actions
unfolding update_task stores cost
update_stores c w number page slot value = simp (stores_append, stores_written) (omega arith)

-- the words buffered after an append
module _ (s : Sizes) (l : Logs) (memory : List ℕ) (disk : ℕ) (words : List ℕ) (h : disk < length l.fills) where
  pub fill_appended : fill_of l disk + length words ≤ 64 → fill_of (append s l memory disk words).logs disk ≡ fill_of l disk + length words
  unfolding append
  fill_appended fits = rw (le-leb _ _ fits) (fill_set l disk (fill_of l disk + length words) h)

  pub fill_restarted : 64 < fill_of l disk + length words → fill_of (append s l memory disk words).logs disk ≡ length words
  unfolding append after_flush
  fill_restarted over = rw (lt-leb _ _ over) (fill_set (after_flush l disk) disk (length words) (lt-length-set l.fills disk 0 h))

-- Commit: the buffered words, the two of its closing record, and the tail; one tail more where the record did not fit.
module _ (c : Core) {t : ℕ} (w : World) (number : ℕ) (right : Lengths c.sizes t w) (below : disk_of c number < c.sizes.disks)
    (eight : disk_of c number < length c.logs.fills) where
  abbrev disk : ℕ
  disk = disk_of c number

  abbrev words : List ℕ
  words = encode (close commit_kind number)

  abbrev added : Appended
  added = append c.sizes c.logs w.work disk words

  then_flush : (fill : ℕ) → fill_of added.logs disk ≡ fill → 0 < fill → fill ≤ 64
      → stores (commit_task c w number).actions ≡ stores added.actions + (fill + 1)
  unfolding commit_task
  then_flush fill e positive small =
      rw (stores_append added.actions (flush c.sizes added.logs (perform added.actions w).work disk))
      (ap (λ (n : ℕ). stores added.actions + n)
      (flush_stores c.sizes added.logs (perform added.actions w).work disk (rw e positive)
      (rw (e, (perform_lengths added.actions w).work) (buffer_fits c.sizes w disk fill right below small))
      ∙ ap (λ (n : ℕ). n + 1) e))

  pub commit_fits : fill_of c.logs (disk_of c number) + 2 ≤ 64
      → stores (commit_task c w number).actions ≡ fill_of c.logs (disk_of c number) + 3
  unfolding encode
  commit_fits h =
      let fill = fill_appended c.sizes c.logs w.work disk words eight h in
      let none = append_fits c.sizes c.logs w.work disk words h in
      omega (arith, then_flush (fill_of c.logs disk + 2) fill (omega arith) h)

  pub commit_flushes : fill_of c.logs (disk_of c number) ≤ 64 → 64 < fill_of c.logs (disk_of c number) + 2
      → stores (commit_task c w number).actions ≡ fill_of c.logs (disk_of c number) + 4
  unfolding encode
  commit_flushes h k =
      let fill = fill_restarted c.sizes c.logs w.work disk words eight k in
      let again = append_flushes c.sizes c.logs w.work disk words k in
      let first = flush_stores c.sizes c.logs w.work disk (omega arith) (buffer_fits c.sizes w disk _ right below h) in
      omega (arith, then_flush 2 fill (omega arith) (omega arith))
