-- The log of one disk by its numbers.
use mathlib.Core.Path.{◌≡◌, refl, ◌∙◌}
use Prim.Native.Nat.{ℕ, ◌+◌, ◌≤◌, ◌<◌}
use native.Mathlib.Omega.{arith}
use native.Mathlib.Decide.{ℕ_discrete}
use lib.ListN.{replicate, length-set, get_or-replicate}
use lib.Seq.{set-set, get_or-set_same, get_or-set_other}
use Rattle.model.specs.declared.Sizes.{Sizes}
use Rattle.model.specs.declared.Logs.{Logs}
use Rattle.model.specs.State.{tail_of, fill_of, end_of}
use Rattle.model.proofs.Growth.{SizedLogs}
use Rattle.disk_log.specs.declared.write.Home.{Home}
use Rattle.frame.specs.Home.{home_of, with_disk}
use Rattle.disk_log.specs.declared.write.Tip.{Tip}
use Rattle.abort.specs.Undo.{only_log}

module _ (disk : ℕ) (t : Tip) where
  pub tip_sized : SizedLogs (only_log disk t)
  unfolding only_log
  tip_sized = record { starts = refl; tails = simp length-set refl; fills = simp length-set refl }

  -- another tip
  pub tip_moved : (next : Tip) → with_disk (only_log disk t) disk next.tail next.fill ≡ only_log disk next
  unfolding only_log
  tip_moved next = rw (set-set, set-set) refl

  module _ (low : disk < 8) where
    pub tip_tail : tail_of (only_log disk t) disk ≡ t.tail
    unfolding tail_of only_log
    tip_tail = get_or-set_same (replicate 8 0) disk t.tail 0 low

    pub tip_fill : fill_of (only_log disk t) disk ≡ t.fill
    unfolding fill_of only_log
    tip_fill = get_or-set_same (replicate 8 0) disk t.fill 0 low

    pub tip_end : end_of (only_log disk t) disk ≡ t.tail + t.fill
    unfolding end_of
    tip_end = rw (tip_tail, tip_fill) refl

    other_fill : (e : ℕ) → e < 8 → (e ≡ disk → ⊥) → fill_of (only_log disk t) e ≡ 0
    unfolding fill_of only_log
    other_fill e h ne = get_or-set_other (replicate 8 0) disk e t.fill 0 ne ∙ get_or-replicate 8 e 0 0 h

    -- the others have nothing in their buffers
    pub tip_small : t.fill ≤ 64 → (e : ℕ) → e < 8 → fill_of (only_log disk t) e ≤ 64
    tip_small small e h = go (ℕ_discrete e disk)
      where
        go : Dec (e ≡ disk) → fill_of (only_log disk t) e ≤ 64
        go (yes same) = rw same (omega (arith, tip_fill, small))
        go (no ne) = omega (arith, other_fill e h ne)

    pub tip_home : {ring : ℕ} {home : Home}
        → ((s : Sizes) (l : Logs) → s.ring ≡ ring → tail_of l disk ≡ t.tail → fill_of l disk ≡ t.fill → home ≡ home_of s l disk)
        → (s : Sizes) → s.ring ≡ ring → home ≡ home_of s (only_log disk t) disk
    tip_home there s same = there s (only_log disk t) same tip_tail tip_fill
