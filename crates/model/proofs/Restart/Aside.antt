-- What may be stored beside the image: the other backup, the other row of starts, and anything in memory.
use mathlib.Core.Path.{◌≡◌, refl, ap, ◌∙◌}
use mathlib.Core.List.{List, [], ◌∷◌, ◌++◌}
use mathlib.Core.Bool.{Bool, true, false, cond}
use Prim.Native.Nat.{ℕ, zero, suc, ◌+◌, ◌-◌, ◌*◌, ◌%◌, ◌≤◌, ◌<◌}
use native.Mathlib.Omega.{arith}
use native.Mathlib.Nat.{zero-mul, one-mul}
use native.Mathlib.Decide.{ℕ_discrete}
use lib.Dec.{leb}
use lib.ListN.{length, take, set}
use lib.Seq.{get_or-set_other, drop-set-lt}
use Rattle.model.specs.declared.Sizes.{Sizes}
use Rattle.model.specs.Below.{join_below, list_below}
use Rattle.model.specs.Word.{part}
use Rattle.model.specs.Sizes.{total}
use Rattle.model.specs.Anchor.{epoch_on, sizes_on, start_on, start_word, backup_at}
use Rattle.model.specs.World.{World, anchor, backups, logs, Memory, pages, work, Action, store, write, cost, act, perform, covered, run, each}
use Rattle.model.specs.Causes.{tail_in}
use Rattle.model.specs.Image.{image_of, words_from}
use Rattle.model.proofs.Ledger.Entry.{All}
use Rattle.model.proofs.Run.{SameLengths, act_lengths, same_lengths_trans}
use Rattle.model.proofs.Restart.Image.{image_same, SameDevices}
use Rattle.model.proofs.Parts.{part_set_behind}

-- Where c is the current checkpoint: an action that writes memory, or stores in the row or the backup of checkpoint c + 1.
abbrev pub Aside : Sizes → ℕ → Action → Type 0
Aside s c (store anchor i x) = (start_word (c + 1) 0 ≤ i) × (i < start_word (c + 1) 8)
Aside s c (store backups i x) = (backup_at s (c + 1) ≤ i) × (i < backup_at s (c + 1) + total s)
Aside s c (store logs i x) = ⊥
Aside s c (write memory i x) = Unit {0}

-- a part of a list keeps its words when one outside it is set
part_set_before : (at n i v : ℕ) (l : List ℕ) → i < at → part at n (set l i v) ≡ part at n l
unfolding part
part_set_before at n i v l h = ap (take n) (drop-set-lt at l i v h)

-- the two backups lie apart
other_backup : (s : Sizes) (c i v : ℕ) (l : List ℕ) → backup_at s (c + 1) ≤ i → i < backup_at s (c + 1) + total s
    → part (backup_at s c) (total s) (set l i v) ≡ part (backup_at s c) (total s) l
unfolding backup_at
other_backup s c i v l h k = go (ℕ_discrete (c % 2) 0)
  where
    go : Dec (c % 2 ≡ 0) → part (c % 2 * total s) (total s) (set l i v) ≡ part (c % 2 * total s) (total s) l
    go (yes e) =
        let f : (c + 1) % 2 ≡ 1 = omega arith in
        let low = zero-mul (total s) in
        let high = one-mul (total s) in
        let from = rw f at h in
        rw e (part_set_behind (0 * total s) (total s) l i v (omega arith))
    go (no e) =
        let f : (c + 1) % 2 ≡ 0 = omega arith in
        let g : c % 2 ≡ 1 = omega arith in
        let low = zero-mul (total s) in
        let high = one-mul (total s) in
        let until = rw f at k in
        rw g (part_set_before (1 * total s) (total s) i v l (omega arith))

-- a word of the rows of starts is none of the sizes nor c, and one of the other row none of the current one
module _ (a : List ℕ) (i v : ℕ) (h : 132 ≤ i) where
  sizes_kept : sizes_on (set a i v) ≡ sizes_on a
  unfolding sizes_on
  sizes_kept =
      rw (
        get_or-set_other a i 0 v 0 (omega arith),
        get_or-set_other a i 1 v 0 (omega arith),
        get_or-set_other a i 2 v 0 (omega arith),
        part_set_behind 4 64 a i v (omega arith),
        part_set_behind 68 64 a i v (omega arith),
      )

  epoch_kept : epoch_on (set a i v) ≡ epoch_on a
  unfolding epoch_on
  epoch_kept = get_or-set_other a i 3 v 0 (omega arith)

  start_kept : start_word (epoch_on a + 1) 0 ≤ i → i < start_word (epoch_on a + 1) 8 → (d : ℕ) → d < 8
      → start_on (set a i v) d ≡ start_on a d
  unfolding start_on start_word
  start_kept from until d l = rw epoch_kept (get_or-set_other a i _ v 0 (omega arith))

row_after : (c i : ℕ) → start_word (c + 1) 0 ≤ i → 132 ≤ i
unfolding start_word
row_after c i h = omega arith

-- Two worlds of which a restart sees the same.
pub record Steady (v w : World) : Type 0 where
  pub lengths : SameLengths v w
  pub sizes : sizes_on v.anchor ≡ sizes_on w.anchor
  pub epoch : epoch_on v.anchor ≡ epoch_on w.anchor
  pub starts : (d : ℕ) → d < 8 → start_on v.anchor d ≡ start_on w.anchor d
  pub backup : part (backup_at (sizes_on w.anchor) (epoch_on w.anchor)) (total (sizes_on w.anchor)) v.backups
      ≡ part (backup_at (sizes_on w.anchor) (epoch_on w.anchor)) (total (sizes_on w.anchor)) w.backups
  pub logs : v.logs ≡ w.logs

pub steady_trans : {u v w : World} → Steady u v → Steady v w → Steady u w
steady_trans p q =
    record {
      lengths = same_lengths_trans p.lengths q.lengths;
      sizes = p.sizes ∙ q.sizes;
      epoch = p.epoch ∙ q.epoch;
      starts = λ d h. p.starts d h ∙ q.starts d h;
      backup = (rw (q.sizes, q.epoch) at p.backup) ∙ q.backup;
      logs = p.logs ∙ q.logs;
    }

pub devices_steady : {v w : World} → SameDevices v w → SameLengths v w → Steady v w
devices_steady {v} {w} d k =
    record {
      lengths = k;
      sizes = ap sizes_on d.anchor;
      epoch = ap epoch_on d.anchor;
      starts = λ e h. ap (λ (a : List ℕ). start_on a e) d.anchor;
      backup = ap (λ (b : List ℕ). part (backup_at (sizes_on w.anchor) (epoch_on w.anchor)) (total (sizes_on w.anchor)) b) d.backups;
      logs = d.logs;
    }

-- the image is the same
pub steady_image : {v w : World} → Steady v w → (sizes_on w.anchor).disks ≤ 8 → image_of v ≡ image_of w
unfolding words_from tail_in
steady_image {v} {w} k eight =
    image_same v w k.sizes k.epoch k.backup (λ d h. k.starts d (omega arith)) (λ d h. rw (k.logs, k.starts d (omega arith)))

-- one such action leaves what a restart sees
pub act_aside : (a : Action) (w : World) → Aside (sizes_on w.anchor) (epoch_on w.anchor) a → Steady (act a w) w
unfolding act
act_aside (store anchor i x) w h =
    let k : 132 ≤ i = row_after (epoch_on w.anchor) i h.0 in
    record {
      lengths = act_lengths (store anchor i x) w;
      sizes = sizes_kept w.anchor i x k;
      epoch = epoch_kept w.anchor i x k;
      starts = start_kept w.anchor i x k h.0 h.1;
      backup = refl;
      logs = refl;
    }
act_aside (store backups i x) w h =
    record {
      lengths = act_lengths (store backups i x) w;
      sizes = refl;
      epoch = refl;
      starts = λ d l. refl;
      backup = other_backup (sizes_on w.anchor) (epoch_on w.anchor) i x w.backups h.0 h.1;
      logs = refl;
    }
act_aside (store logs i x) w h = absurd h
act_aside (write pages i x) w h = devices_steady (record { anchor = refl; backups = refl; logs = refl }) (act_lengths (write pages i x) w)
act_aside (write work i x) w h = devices_steady (record { anchor = refl; backups = refl; logs = refl }) (act_lengths (write work i x) w)

-- and so does a list of them, whole or cut short by a budget
pub steady_by : (l : List Action) (w : World) → All (Aside (sizes_on w.anchor) (epoch_on w.anchor)) l → Steady (perform l w) w
unfolding perform
steady_by [] w h = devices_steady (record { anchor = refl; backups = refl; logs = refl }) (record { anchor = refl; pages = refl; backups = refl; logs = refl; work = refl })
steady_by (a ∷ l) w h =
    let one = act_aside a w h.0 in
    steady_trans (steady_by l (act a w) (rw (one.sizes, one.epoch) h.1)) one

all_covered : (P : Action → Type 0) (budget : ℕ) (l : List Action) → All P l → All P (covered budget l)
unfolding covered
all_covered P budget [] h = tt
all_covered P budget (a ∷ l) h = go (leb (cost a) budget) (all_covered P (budget - cost a) l h.1)
  where
    go : (b : Bool) → All P (covered (budget - cost a) l) → All P (cond b (a ∷ covered (budget - cost a) l) [])
    go true rest = (h.0, rest)
    go false rest = tt

pub steady_run : (budget : ℕ) (l : List Action) (w : World) → All (Aside (sizes_on w.anchor) (epoch_on w.anchor)) l
    → Steady (run budget l w) w
unfolding run
steady_run budget l w h = steady_by (covered budget l) w (all_covered _ budget l h)

-- lists of such actions
module _ (s : Sizes) (c : ℕ) where
  pub aside_append : (l k : List Action) → All (Aside s c) l → All (Aside s c) k → All (Aside s c) (l ++ k)
  aside_append [] k h g = g
  aside_append (a ∷ l) k h g = (h.0, aside_append l k h.1 g)

  -- words stored in the other backup
  pub aside_backup : (i : ℕ) (xs : List ℕ) → backup_at s (c + 1) ≤ i → i + length xs ≤ backup_at s (c + 1) + total s
      → All (Aside s c) (each (store backups) i xs)
  unfolding each
  aside_backup i [] h l = tt
  aside_backup i (x ∷ xs) h l = ((h, omega arith), aside_backup (i + 1) xs (omega arith) (omega arith))

  -- starts stored in the other row
  pub aside_starts : (f : ℕ → ℕ) (n : ℕ) → n ≤ 8 → All (Aside s c) (list_below (λ d. store anchor (start_word (c + 1) d) (f d)) n)
  unfolding list_below join_below start_word
  aside_starts f zero h = tt
  aside_starts f (suc n) h =
      aside_append (list_below (λ d. store anchor (start_word (c + 1) d) (f d)) n) (store anchor (start_word (c + 1) n) (f n) ∷ [])
      (aside_starts f n (omega arith)) ((omega arith, omega arith), tt)

  -- words written in memory
  pub aside_memory : (memory : Memory) (i : ℕ) (xs : List ℕ) → All (Aside s c) (each (write memory) i xs)
  unfolding each
  aside_memory memory i [] = tt
  aside_memory memory i (x ∷ xs) = (tt, aside_memory memory (i + 1) xs)
