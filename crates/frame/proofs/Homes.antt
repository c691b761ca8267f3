-- A disk of a serving state, as the functions of `log` are lent it.
use mathlib.Core.Path.{◌≡◌, refl}
use mathlib.Core.List.{List}
use mathlib.Core.Bool.{true}
use Prim.Native.Nat.{ℕ, ◌≤◌, ◌<◌}
use native.Mathlib.Omega.{arith}
use lib.ListN.{length}
use Rattle.model.specs.declared.Sizes.{Sizes}
use Rattle.model.specs.declared.Logs.{Logs}
use Rattle.model.specs.declared.Core.{Core}
use Rattle.model.specs.Sizes.{ring_of, log_words}
use Rattle.model.specs.World.{World}
use Rattle.model.specs.Memory.{buffer_at, copy_at, owner_at, work_words, lengths_right}
use Rattle.model.specs.State.{limit, fill_of, end_of, disk_at_place}
use Rattle.model.specs.Causes.{when_serving}
use Rattle.model.specs.Reads.{counts_fit, place_fits}
use Rattle.model.proofs.Bounds.{bounded}
use Rattle.model.proofs.Lengths.{lengths_right_lem}
use Rattle.model.proofs.Ring.{disk_within}
use Rattle.model.proofs.Store.Rows.{serving_sound_lem, sizes_sound, disk_sound_lem}
use Rattle.disk_log.specs.Write.{Within, Lent}
use Rattle.disk_log.specs.declared.write.Home.{Home}
use Rattle.frame.specs.Checks.{CommonRefusal}
use Rattle.frame.specs.Home.{Serves, home_of}
use Rattle.frame.proofs.Verdicts.{Passed}
use Rattle.frame.proofs.Given.{common_passed}
use Rattle.frame.proofs.Fitting.{counts_have, place_has}

pub home_lent : (s : Sizes) (l : Logs) (w : World) (disk : ℕ) → Lent s l w (home_of s l disk) w.logs w.work
unfolding home_of
home_lent s l w disk =
    record {
      lies = record { same_place = refl; same_ring = refl };
      same_buffer = refl;
      same_tail = refl;
      same_fill = refl;
      same_logs = refl;
      same_work = refl;
    }

-- of any sizes whose rings have room for a buffer, and T
pub home_fits_lem : (s : Sizes) (t : ℕ) (l : Logs) (logs work : List ℕ) (disk : ℕ) → 64 ≤ s.ring → length logs ≡ log_words s → length work ≡ work_words s t
    → disk < s.disks → fill_of l disk ≤ 64 → end_of l disk ≤ limit → Within (home_of s l disk) logs work
unfolding home_of log_words ring_of work_words owner_at copy_at buffer_at end_of
home_fits_lem s t l logs work disk ring log_words_lem work_words_lem below fill end =
    record {
      some_ring = ring;
      ring_within = omega (arith, disk_within s disk below, log_words_lem);
      buffer_within = omega (arith, work_words_lem);
      fill_small = fill;
      end_small = omega (arith, end);
    }

pub home_within : (c : Core) (logs work : List ℕ) (disk : ℕ) → Serves c logs work → disk < c.sizes.disks
    → Within (home_of c.sizes c.logs disk) logs work
home_within c logs work disk serves below =
    let b = bounded c.sizes (sizes_sound c serves.state) in
    let d = disk_sound_lem c disk serves.state below in
    home_fits_lem c.sizes c.bases.total c.logs logs work disk (omega (arith, b.ring_min)) serves.log_words_lem serves.work_words_lem below d.fill
    (omega (arith, d.limit))

-- of a state of which a place was tested
pub home_placed : (c : Core) (w : World) (place : ℕ) → counts_fit c ≡ true → place_fits place c ≡ true
    → lengths_right c.sizes c.bases.total w ≡ true
    → Within (home_of c.sizes c.logs (disk_at_place c.table place)) w.logs w.work
unfolding end_of
home_placed c w place counts fits lengths =
    let b = counts_have c counts in
    let p = place_has c place fits in
    let long = lengths_right_lem c.sizes c.bases.total w lengths in
    home_fits_lem c.sizes c.bases.total c.logs w.logs w.work (disk_at_place c.table place) (omega (arith, b.ring_min)) long.logs long.work
    p.below p.fill_small (omega (arith, p.end_small))

-- what the first checks of a serving call leave
pub serves_passed : (c : Core) (w : World) → Passed when_serving c w → Serves c w.logs w.work
serves_passed c w passed =
    let lengths = lengths_right_lem c.sizes c.bases.total w passed.lengths in
    record { state = serving_sound_lem c passed.stage passed.state; log_words_lem = lengths.logs; work_words_lem = lengths.work }

pub serves_common : {c : Core} {w : World} {r : ℕ} → CommonRefusal when_serving c w r → r ≡ 0 → Serves c w.logs w.work
serves_common checks none = serves_passed _ _ (common_passed checks none)

-- The same of a home that a function answered.
module _ (s : Sizes) (l : Logs) (disk : ℕ) {h : Home} (e : h ≡ home_of s l disk) where
  pub lent_there : (w : World) {logs work : List ℕ} → w.logs ≡ logs → w.work ≡ work → Lent s l w h logs work
  lent_there w same_logs same_work = rw (e, ← same_logs, ← same_work) (home_lent s l w disk)

  pub disk_there : h.disk ≡ disk
  unfolding home_of
  disk_there = rw e refl

pub within_there : (c : Core) (disk : ℕ) {h : Home} → h ≡ home_of c.sizes c.logs disk → (logs work : List ℕ) → Serves c logs work
    → disk < c.sizes.disks → Within h logs work
within_there c disk e logs work serves below = rw e (home_within c logs work disk serves below)
