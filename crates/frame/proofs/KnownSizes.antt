-- The sizes in the head: within their bounds they are bytes.
use mathlib.Core.Path.{◌≡◌, refl, sym, ap}
use mathlib.Core.List.{List}
use mathlib.Core.Bool.{Bool, true, false}
use Prim.Native.Nat.{ℕ, ◌+◌, ◌-◌, ◌<◌}
use native.Mathlib.Omega.{arith}
use native.Mathlib.Decide.{dec_lt}
use native.Mathlib.Nat.{zero-add}
use lib.ListN.{get_or}
use Rattle.model.specs.declared.Core.{Core}
use Rattle.model.specs.declared.Carried.{Carried}
use Rattle.model.specs.Sizes.{sizes_in_bounds}
use Rattle.model.specs.View.{head_slots, head_widths, own_work, core_of}
use Rattle.model.proofs.Parts.{get_or_part}
use Rattle.model.proofs.View.Head.{own_view}
use Rattle.layout.proofs.Laws.{entry_bytes}
use Rattle.frame.specs.Sizes.{sizes_at}

-- the 128 words of slots and widths are bytes
pub head_bytes : (pages disks ring : ℕ) (work : List ℕ) → sizes_in_bounds (sizes_at pages disks ring work) ≡ true
    → (i : ℕ) → i < 128 → get_or work i 0 < 256
unfolding sizes_at
head_bytes pages disks ring work e i h = go (dec_lt i 64)
  where
    bytes : (j : ℕ) → j < 64 → (get_or (sizes_at pages disks ring work).slots j 0 < 256) × (get_or (sizes_at pages disks ring work).widths j 0 < 256)
    bytes j k = entry_bytes (sizes_at pages disks ring work) e j k

    go : Dec (i < 64) → get_or work i 0 < 256
    go (yes low) = rw (get_or_part head_slots 64 work i low, zero-add i) at (bytes i low).0
    go (no high) =
        let j : ℕ = i - 64 in
        let below : j < 64 = omega arith in
        let there : head_widths + j ≡ i = omega arith in
        rw (get_or_part head_widths 64 work j below, there) at (bytes j below).1

-- so sizes that are not are out of bounds
pub head_out : (pages disks ring : ℕ) (work : List ℕ) {above : ℕ} → (above ≡ 0 → ⊥) → (((i : ℕ) → i < 128 → get_or work i 0 < 256) → above ≡ 0)
    → sizes_in_bounds (sizes_at pages disks ring work) ≡ false
head_out pages disks ring work some none = go (sizes_in_bounds (sizes_at pages disks ring work)) refl
  where
    go : (b : Bool) → sizes_in_bounds (sizes_at pages disks ring work) ≡ b → b ≡ false
    go true e = absurd (some (none (head_bytes pages disks ring work e)))
    go false e = refl

-- the test of a state whose head this is
module _ (h : Carried) (work : List ℕ) (own : own_work h work ≡ true) where
  pub sizes_here : sizes_at h.pages h.disks h.ring work ≡ (core_of h work).sizes
  unfolding sizes_at
  sizes_here = sym (ap (λ (c : Core). c.sizes) (own_view h work own))

  pub total_here : (core_of h work).bases.total ≡ h.total
  total_here = ap (λ (c : Core). c.bases.total) (own_view h work own)
