-- The image that a restart sees: the scans of its logs are the device's, and what may be stored and leave it as it is.
use mathlib.Core.Path.{◌≡◌, refl, sym, ap, ◌∙◌}
use mathlib.Core.List.{List, [], ◌∷◌}
use mathlib.Core.Bool.{true, and-eq-true_iff}
use Prim.Native.Nat.{ℕ, zero, suc, ◌+◌, ◌-◌, ◌*◌, ◌%◌, ◌≤◌, ◌<◌}
use native.Mathlib.Omega.{arith}
use native.Mathlib.Nat.{mul-le-mul_right, one-mul, add-zero}
use lib.Dec.{leb, eqb}
use lib.ListN.{length, get_or}
use borrow.Author.Tests.{leb-true}
use Rattle.model.specs.declared.Sizes.{Sizes}
use Rattle.model.specs.Below.{within, all_below}
use Rattle.model.specs.Word.{part}
use Rattle.model.specs.Sizes.{total, entry_in_bounds, counts_in_bounds, sizes_in_bounds}
use Rattle.model.specs.Anchor.{epoch_on, sizes_on, start_on, backup_at}
use Rattle.model.specs.Decode.{read_log, span}
use Rattle.model.specs.Scan.{scan}
use Rattle.model.specs.World.{World, pages, work, Action, store, write, cost, act, perform, stores}
use Rattle.model.specs.Memory.{lengths_right}
use Rattle.model.specs.Causes.{tail_in, retained_from}
use Rattle.model.specs.Image.{retained_words, image_of, log_of, words_from, image_from}
use Rattle.model.proofs.Below.{list_cong, get_or_list}
use Rattle.model.proofs.Lengths.{lengths_right_lem}
use Rattle.model.proofs.Scan.{scan_cong}
use Rattle.model.proofs.Restart.Gain.{length_span}
use Rattle.model.proofs.Parts.{length_part}

pub disks_le : (s : Sizes) → sizes_in_bounds s ≡ true → s.disks ≤ 8
unfolding sizes_in_bounds counts_in_bounds within
disks_le s e =
    let a = (and-eq-true_iff _ (all_below (entry_in_bounds s) 64)).0 e in
    let b = (and-eq-true_iff _ (eqb (length s.widths) 64)).0 a.0 in
    let c = (and-eq-true_iff _ (eqb (length s.slots) 64)).0 b.0 in
    let d = (and-eq-true_iff _ (within 128 65536 s.ring)).0 c.0 in
    let f = (and-eq-true_iff (within 1 64 s.pages) (within 1 8 s.disks)).0 d.0 in
    leb-true s.disks 8 ((and-eq-true_iff (leb 1 s.disks) (leb s.disks 8)).0 f.1).1

-- either backup lies within the backups
pub backup_within : (s : Sizes) (c : ℕ) → backup_at s c + total s ≤ 2 * total s
unfolding backup_at
backup_within s c =
    let e : c % 2 * total s ≤ 1 * total s = mul-le-mul_right (total s) (omega arith) in
    omega (arith, rw one-mul at e)

pub length_backup : (w : World) → lengths_right (sizes_on w.anchor) (total (sizes_on w.anchor)) w ≡ true
    → length (image_of w).backup ≡ total (sizes_on w.anchor)
unfolding image_of image_from
length_backup w e =
    let s : Sizes = sizes_on w.anchor in
    let long = (lengths_right_lem s (total s) w e).backups in
    length_part (backup_at s (epoch_on w.anchor)) (total s) w.backups (omega (arith, backup_within s (epoch_on w.anchor)))

-- The scan of a log of the image is the scan of the device's log from its start to the tail.
pub get_or_span : (read : ℕ → ℕ) (p n i : ℕ) → i < n → get_or (span read p n) i 0 ≡ read (p + i)
unfolding span
get_or_span read p zero i h = absurd (omega arith)
get_or_span read p (suc n) zero h = ap read (sym (add-zero p))
get_or_span read p (suc n) (suc i) h = get_or_span read (p + 1) n i (omega arith) ∙ ap read (omega arith)

span_scan : (s : Sizes) (read : ℕ → ℕ) (start tail first : ℕ) (log : List ℕ) → start ≤ tail → first ≡ start
    → log ≡ span read start (tail - start)
    → scan s (λ p. get_or log (p - first) 0) (first + length log) first ≡ scan s read tail start
span_scan s read start tail first log h e f =
    let long : start + (tail - start) ≡ tail = omega arith in
    rw (e, f, length_span read start (tail - start), long)
    (scan_cong s (λ p. get_or (span read start (tail - start)) (p - start) 0) read tail start
    (λ q l m. get_or_span read start (tail - start) (q - start) (omega arith) ∙ ap read (omega arith)))

pub image_log : (s : Sizes) (c : ℕ) (start : ℕ → ℕ) (backups logs : List ℕ) (d : ℕ) → d < s.disks → start d ≤ tail_in s logs d
    → log_of (image_from s c start backups logs) d ≡ retained_from s start logs d
unfolding log_of image_from retained_from words_from
image_log s c start disks words d h l =
    span_scan s (read_log s words d (tail_in s words d) []) (start d) (tail_in s words d) _ _ l (get_or_list start s.disks d 0 h)
    (get_or_list (words_from s start words) s.disks d [] h)

-- Worlds with the same sizes, epoch, current backup, starts and retained words have the same image.
pub image_same : (v w : World) → sizes_on v.anchor ≡ sizes_on w.anchor → epoch_on v.anchor ≡ epoch_on w.anchor
    → part (backup_at (sizes_on w.anchor) (epoch_on w.anchor)) (total (sizes_on w.anchor)) v.backups
    ≡ part (backup_at (sizes_on w.anchor) (epoch_on w.anchor)) (total (sizes_on w.anchor)) w.backups
    → ((d : ℕ) → d < (sizes_on w.anchor).disks → start_on v.anchor d ≡ start_on w.anchor d)
    → ((d : ℕ) → d < (sizes_on w.anchor).disks → retained_words (sizes_on w.anchor) v d ≡ retained_words (sizes_on w.anchor) w d)
    → image_of v ≡ image_of w
unfolding image_of image_from
image_same v w sizes epoch backup starts words =
    let s : Sizes = sizes_on w.anchor in
    rw (sizes, epoch, backup, list_cong (start_on v.anchor) (start_on w.anchor) s.disks starts, list_cong (retained_words s v) (retained_words s w) s.disks words)

-- The image is read from the devices alone.
pub record SameDevices (v w : World) : Type 0 where
  pub anchor : v.anchor ≡ w.anchor
  pub backups : v.backups ≡ w.backups
  pub logs : v.logs ≡ w.logs

pub devices_trans : {u v w : World} → SameDevices u v → SameDevices v w → SameDevices u w
devices_trans p q = record { anchor = p.anchor ∙ q.anchor; backups = p.backups ∙ q.backups; logs = p.logs ∙ q.logs }

bare : World → World
bare w = record { anchor = w.anchor; pages = []; backups = w.backups; logs = w.logs; work = [] }

image_bare : (w : World) → image_of w ≡ image_of (bare w)
unfolding image_of image_from words_from tail_in bare
image_bare w = refl

pub image_devices : {v w : World} → SameDevices v w → image_of v ≡ image_of w
unfolding bare
image_devices {v} {w} e =
    image_bare v
    ∙ rw (e.anchor, e.backups, e.logs) refl
    ∙ sym (image_bare w)

-- actions that store nothing leave the devices
act_memory : (a : Action) (w : World) → cost a ≡ 0 → SameDevices (act a w) w
unfolding cost act
act_memory (store device i x) w h = absurd (omega arith)
act_memory (write pages i x) w h = record { anchor = refl; backups = refl; logs = refl }
act_memory (write work i x) w h = record { anchor = refl; backups = refl; logs = refl }

pub memory_devices : (l : List Action) (w : World) → stores l ≡ 0 → SameDevices (perform l w) w
unfolding perform stores
memory_devices [] w h = record { anchor = refl; backups = refl; logs = refl }
memory_devices (a ∷ l) w h = devices_trans (memory_devices l (act a w) (omega arith)) (act_memory a w (omega arith))
