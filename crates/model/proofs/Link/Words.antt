-- The link of words and records: the ring of each disk holds the words of its flushed records, and its buffer those of the
-- buffered ones. So the retained log of a disk reads as its flushed records, and as no others.
use mathlib.Core.Path.{◌≡◌, refl, sym, ap₂, ◌∙◌}
use mathlib.Core.List.{List, [], ◌∷◌, map, ◌++◌}
use mathlib.Core.Bool.{false}
use Prim.Native.Nat.{ℕ, ◌+◌, ◌-◌, ◌≤◌, ◌<◌}
use native.Mathlib.Omega.{arith}
use lib.ListN.{length, get_or}
use Rattle.model.specs.declared.Sizes.{Sizes}
use Rattle.model.specs.declared.Logs.{Logs}
use Rattle.model.specs.Sizes.{slot_base, ring_of, ring_word, total}
use Rattle.model.specs.Record.{encode}
use Rattle.model.specs.Decode.{read_log}
use Rattle.model.specs.Scan.{Scan, item, scan, placed}
use Rattle.model.specs.World.{World, Action, perform}
use Rattle.model.specs.Memory.{buffer_of}
use Rattle.model.specs.State.{kept_of, tail_of, fill_of, after_flush, end_of}
use Rattle.model.specs.Causes.{tail_on, retained_from}
use Rattle.model.specs.Image.{log_of, words_from, image_from}
use Rattle.model.proofs.Below.{get_or_list}
use Rattle.model.proofs.Run.{perform_lengths}
use Rattle.model.proofs.Lengths.{Lengths}
use Rattle.model.proofs.Reader.{Holds, holds_from, holds_agree, read_ring_lem, span_holds}
use Rattle.model.proofs.RoundTrip.{WellFormed, AllWellFormed, scan_placed}
use Rattle.model.proofs.Ledger.Entry.{Entry, is_close, record_of, All}
use Rattle.model.proofs.Ledger.Order.{size_of, words_of, on, Laid, entries_scan}
use Rattle.model.proofs.Ledger.Picks.{all_pick}
use Rattle.model.proofs.Growth.{SizedLogs, Longer, sized_flushed}
use Rattle.model.proofs.Ledger.Lists.{length_words_append}

-- An entry that a writer may put: its record has its page's slot and width, and a change adds at its slot's first word.
pub record Fit (s : Sizes) (r : Entry) : Type 0 where
  pub formed : WellFormed s (record_of r)
  pub slotted : is_close r ≡ false → r.at ≡ slot_base s r.page r.slot

-- The arrays of the state have a place for each disk, and the rings have words.
pub record Arrays (s : Sizes) (l : Logs) : Type 0 where
  pub sized : SizedLogs l
  pub disks : s.disks ≤ 8
  pub ring : 0 < s.ring

pub below_eight : {s : Sizes} {l : Logs} {d : ℕ} → Arrays s l → d < s.disks → d < 8
below_eight a h = omega (arith, a.disks)

pub arrays_flushed : {s : Sizes} {l : Logs} (d : ℕ) → Arrays s l → Arrays s (after_flush l d)
arrays_flushed {l = l} d a = record { sized = sized_flushed l d a.sized; disks = a.disks; ring = a.ring }

pub arrays_longer : {s : Sizes} {d n : ℕ} {l m : Logs} → Arrays s l → Longer s d n l m → Arrays s m
arrays_longer a more = record { sized = more.sized; disks = a.disks; ring = a.ring }

-- F are the flushed entries, B the buffered ones.
pub record Link (s : Sizes) (l : Logs) (w : World) (F B : List Entry) : Type 0 where
  pub held : (d : ℕ) → d < s.disks → Holds (λ q. get_or w.logs (ring_word s d q) 0) (kept_of l d) (words_of (on d F))
  pub tail : (d : ℕ) → d < s.disks → tail_of l d ≡ kept_of l d + length (words_of (on d F))
  pub stored : (d : ℕ) → d < s.disks → tail_on s w d ≡ tail_of l d
  pub buffer : (d : ℕ) → d < s.disks → buffer_of w.work d (fill_of l d) ≡ words_of (on d B)
  pub fill : (d : ℕ) → d < s.disks → fill_of l d ≡ length (words_of (on d B))

-- the end of a disk's log is the end of its entries
pub log_end : {s : Sizes} {l : Logs} {w : World} {F B : List Entry} → Link s l w F B → (d : ℕ) → d < s.disks
    → end_of l d ≡ kept_of l d + length (words_of (on d F ++ on d B))
unfolding end_of
log_end {F = F} {B = B} k d below = omega (arith, k.tail d below, k.fill d below, length_words_append (on d F) (on d B))

-- actions keep the lengths that the sizes give
pub lengths_perform : {s : Sizes} {w : World} (l : List Action) → Lengths s (total s) w → Lengths s (total s) (perform l w)
lengths_perform {s} {w} l right =
    let same = perform_lengths l w in
    record {
      pages = same.pages ∙ right.pages;
      backups = same.backups ∙ right.backups;
      logs = same.logs ∙ right.logs;
      work = same.work ∙ right.work;
    }

pub ring_positive : (s : Sizes) (d : ℕ) → 0 < s.ring → 0 < ring_of s d
unfolding ring_of
ring_positive s d h = h

-- entries as the records that are stored
pub well_formed_entries : (s : Sizes) (l : List Entry) → All (Fit s) l → AllWellFormed s (map record_of l)
well_formed_entries s [] h = tt
well_formed_entries s (r ∷ l) h = (h.0.formed, well_formed_entries s l h.1)

pub fit_on : (s : Sizes) (d : ℕ) (l : List Entry) → All (Fit s) l → All (Fit s) (on d l)
unfolding on
fit_on s d l h = all_pick (Fit s) _ l h

-- entries that lie one after the other, as a reader finds them
pub placed_entries : (p : ℕ) (l : List Entry) → Laid p l → placed p (map record_of l) ≡ entries_scan l
unfolding placed entries_scan size_of
placed_entries p [] h = refl
placed_entries p (r ∷ l) h =
    ap₂ (λ (q : ℕ) (rest : Scan). item q (record_of r) rest) (sym h.0) (placed_entries (p + length (encode (record_of r))) l h.1)

-- a reader that holds the words of entries up to the stop finds these entries
pub scan_entries : (s : Sizes) (read : ℕ → ℕ) (stop p : ℕ) (l : List Entry) → All (Fit s) l → Laid p l
    → Holds read p (words_of l) → stop ≡ p + length (words_of l) → scan s read stop p ≡ entries_scan l
unfolding words_of
scan_entries s read stop p l fit laid h e =
    scan_placed s read stop p (map record_of l) (well_formed_entries s l fit) h e ∙ placed_entries p l laid

module _ {s : Sizes} {l : Logs} {w : World} {F B : List Entry} (k : Link s l w F B) (d : ℕ) (below : d < s.disks) where
  -- below the tail a log reads as the ring
  pub retained_holds : Holds (read_log s w.logs d (tail_on s w d) []) (kept_of l d) (words_of (on d F))
  retained_holds =
      holds_agree _ _ (kept_of l d) (words_of (on d F))
      (λ q h m. read_ring_lem s w.logs d (tail_on s w d) [] q (omega (arith, k.tail d below, k.stored d below)))
      (k.held d below)

  -- the words of the retained log are those of the flushed records
  pub retained : (start : ℕ → ℕ) → start d ≡ kept_of l d → words_from s start w.logs d ≡ words_of (on d F)
  unfolding words_from
  retained start e =
      let long : tail_on s w d - kept_of l d ≡ length (words_of (on d F)) = omega (arith, k.tail d below, k.stored d below) in
      rw (e, long) (span_holds _ (kept_of l d) (words_of (on d F)) retained_holds)

  -- its scan is these records
  pub scans : All (Fit s) F → Laid (kept_of l d) (on d F)
      → scan s (read_log s w.logs d (tail_on s w d) []) (tail_on s w d) (kept_of l d) ≡ entries_scan (on d F)
  scans fit laid =
      scan_entries s _ (tail_on s w d) (kept_of l d) (on d F) (fit_on s d F fit) laid retained_holds
      (k.stored d below ∙ k.tail d below)

  pub retained_scan_lem : (start : ℕ → ℕ) → start d ≡ kept_of l d → All (Fit s) F → Laid (kept_of l d) (on d F)
      → retained_from s start w.logs d ≡ entries_scan (on d F)
  unfolding retained_from
  retained_scan_lem start e fit laid = rw e (scans fit laid)

  -- and so is the log of an image with this start
  pub image_log : (c : ℕ) (start : ℕ → ℕ) (backups : List ℕ) → start d ≡ kept_of l d → All (Fit s) F → Laid (kept_of l d) (on d F)
      → log_of (image_from s c start backups w.logs) d ≡ entries_scan (on d F)
  unfolding log_of image_from
  image_log c start backups e fit laid =
      rw (get_or_list start s.disks d 0 below, get_or_list (words_from s start w.logs) s.disks d [] below, retained start e, e)
      (scan_entries s _ _ (kept_of l d) (on d F) (fit_on s d F fit) laid (holds_from _ (kept_of l d) (words_of (on d F)) (λ q h m. refl)) refl)
