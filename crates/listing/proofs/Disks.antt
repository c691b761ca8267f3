-- The disks one after the other: what is read by ring index is what a restart begin reads.
use Prim.Native.Nat.{ℕ, ◌+◌, ◌≤◌, ◌<◌}
use mathlib.Core.Path.{◌≡◌, sym, ap}
use mathlib.Core.List.{List, [], ◌++◌, append_assoc, append-nil}
use mathlib.Core.Bool.{true}
use native.Mathlib.Omega.{arith}
use lib.ListN.{length, get_or}
use Rattle.model.specs.declared.Sizes.{Sizes}
use Rattle.model.specs.Below.{join_below}
use Rattle.model.specs.Sizes.{ring_of, disk_at, tail_word, log_words, sizes_in_bounds}
use Rattle.model.specs.Scan.{scan}
use Rattle.model.specs.Refusal.{accepted, verdict}
use Rattle.model.specs.Causes.{tail_in, retained_from, log_rows}
use Rattle.model.specs.Listing.{Listed, listed_in, on_pages}
use Rattle.model.proofs.Below.{join_step}
use Rattle.model.proofs.Bounds.{bounded}
use Rattle.model.proofs.Faults.{no_fault}
use Rattle.model.proofs.Verdict.{row_passed}
use Rattle.model.proofs.Checked.{Whole, rows_whole}
use Rattle.disk_log.specs.Reading.{Checkable}
use Rattle.disk_log.specs.Ring.{read_ring, ring_at}
use Rattle.disk_log.proofs.Ready.{checkable}
use Rattle.disk_log.proofs.Rings.{disk_fits, ring_scan}
use Rattle.listing.specs.declared.pages.Sheet.{Sheet}
use Rattle.listing.specs.Laid.{laid}
use Rattle.listing.specs.Sheets.{Listing, finished, LaidAll}

-- logs that passed the checks of a restart begin
module _ (s : Sizes) (ok : sizes_in_bounds s ≡ true) (start : ℕ → ℕ) (logs : List ℕ) (long : length logs ≡ log_words s)
    (right : verdict (log_rows s start logs) ≡ accepted) where
  all_whole : Whole s start logs
  all_whole =
      let six = row_passed _ _ right in
      let seven = row_passed _ _ six.1 in
      rows_whole s start logs six.0 (no_fault _ seven.0)

  pub all_checkable : Checkable s logs
  all_checkable = checkable s (bounded s ok) logs long (λ d l. (all_whole.tails d l).2)

  module _ (d : ℕ) (h : d < s.disks) where
    pub tail_near : get_or logs (disk_at s d) 0 ≤ start d + 65536
    unfolding tail_in tail_word ring_of
    tail_near = omega (arith, (all_whole.tails d h).1, (bounded s ok).ring_max)

    pub disk_listed : {ring : List ℕ} {tail : ℕ} → ring ≡ ring_at s logs d → tail ≡ get_or logs (disk_at s d) 0
        → listed_in d (scan s (read_ring ring) tail (start d)) ≡ listed_in d (retained_from s start logs d)
    unfolding retained_from tail_in tail_word ring_of
    disk_listed words to =
        let some : 0 < ring_of s d = omega (arith, (bounded s ok).ring_min) in
        rw (words, to) (ap (listed_in d) (ring_scan s logs d (get_or logs (disk_at s d) 0) (disk_fits s logs all_checkable d h) some (start d)))

pub join_more : (f : ℕ → List Listed) (n : ℕ) (more : List Listed) → join_below f n ++ (f n ++ more) ≡ join_below f (n + 1) ++ more
join_more f n more = rw (join_step f n) (sym (append_assoc (join_below f n) (f n) more))

-- nothing more to come
pub all_laid : (first : ℕ) (sheet : Sheet) (es : List Listed) (out after : List ℕ)
    → finished first sheet [] after ≡ finished first (record { line = 0; left = 0 }) (es ++ []) out → LaidAll first es sheet.line out after
unfolding finished on_pages laid
all_laid first sheet es out after e =
    let same = rw append-nil at e in
    record { count = omega (arith, ap (λ (l : Listing). l.lines) same); bytes = ap (λ (l : Listing). l.bytes) same }
