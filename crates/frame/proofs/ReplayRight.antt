-- A replaying state by the words of the head: the tests of the code are those of `replay_sound`.
use mathlib.Core.Path.{◌≡◌, refl}
use mathlib.Core.List.{List}
use mathlib.Core.Bool.{Bool, true, false, ◌&&◌}
use Prim.Native.Nat.{ℕ, ◌≤◌, ◌<◌}
use native.Mathlib.Omega.{arith}
use lib.Dec.{leb, ltb}
use lib.ListN.{get_or}
use Rattle.model.specs.declared.Core.{Core}
use Rattle.model.specs.declared.Carried.{Carried}
use Rattle.model.specs.Below.{all_below}
use Rattle.model.specs.Sizes.{sizes_in_bounds}
use Rattle.model.specs.State.{limit, tail_of, bases_right, replay_sound}
use Rattle.model.specs.View.{head_page, own_work, core_of}
use Rattle.model.specs.Fields.{positions, page}
use Rattle.model.proofs.Below.{all_cong}
use Rattle.model.proofs.View.Fields.{field_read}
use Rattle.frame.specs.Pages.{position_right}

-- the whole test, in the order in which the code makes it
in_order : (sizes bases low paged each : Bool) → (low && (paged && (each && (sizes && bases)))) ≡ (sizes && bases && low && paged && each)
in_order false bases true true true = refl
in_order false bases true true false = refl
in_order false bases true false each = refl
in_order false bases false paged each = refl
in_order true false true true true = refl
in_order true false true true false = refl
in_order true false true false each = refl
in_order true false false paged each = refl
in_order true true true true true = refl
in_order true true true true false = refl
in_order true true true false each = refl
in_order true true false paged each = refl

module _ (h : Carried) (work : List ℕ) (own : own_work h work ≡ true) {pages disks epoch : ℕ} {tails : List ℕ}
    (same_pages : h.pages ≡ pages) (same_disks : h.disks ≡ disks) (same_epoch : h.epoch ≡ epoch) (same_tails : h.tails ≡ tails) (few : disks ≤ 8) where
  abbrev c : Core
  c = core_of h work

  page_here : c.replay.page ≡ get_or work head_page 0
  page_here = field_read h work own page 0 (omega arith)

  position_here : (d : ℕ) → d < disks
      → (leb (tail_of c.logs d) limit && leb (get_or c.replay.positions d 0) (tail_of c.logs d)) ≡ position_right work tails d
  unfolding tail_of core_of
  position_here d low = rw (field_read h work own positions d (omega (arith, low, few)), same_tails) refl

  -- the test, by its parts
  pub replay_parts : (ltb epoch limit && (leb (get_or work head_page 0) pages && (all_below (position_right work tails) disks && (sizes_in_bounds c.sizes && bases_right c))))
      ≡ replay_sound c
  unfolding replay_sound core_of
  replay_parts =
      rw (← same_epoch, ← same_pages, ← page_here, ← all_cong _ _ disks position_here, ← same_disks)
      (in_order (sizes_in_bounds c.sizes) (bases_right c) (ltb h.epoch limit) (leb c.replay.page h.pages) (all_below (λ d. leb (tail_of c.logs d) limit && leb (get_or c.replay.positions d 0) (tail_of c.logs d)) h.disks))
