-- `access::plan::make_plan` meets its contract: its fields. Assumes nothing.
use Prim.Native.Nat.{ℕ, ◌≤◌}
use mathlib.Core.Path.{◌≡◌, refl}
use native.Mathlib.Omega.{arith}
use Rattle.model.specs.Record.{words_of, update_kind}
use Rattle.model.proofs.RecordSizes.{words_most}
use Rattle.layout.specs.Raw.{counts_of}
use Rattle.access.proofs.SlotBounds.{owner_at_lem, copy_at_lem}
use Rattle.access.proofs.plan.make_plan.Goals as goal

-- the words of an update record are few
few : {width words : ℕ} → words ≡ words_of update_kind width → width ≤ 32 → words ≤ 35
few {width} is narrow = omega (arith, is, words_most update_kind width)

pub bounds-work-copy_place : goal.bounds-work-copy_place
bounds-work-copy_place c =
    let x = c.args in
    omega (arith, copy_at_lem (counts_of 0 x.disks 0) x.page (c.copy_place.ensures.0 (counts_of 0 x.disks 0) refl), c.requires.disks_bound)

pub overflow_add-result-2 : goal.overflow_add-result-2
overflow_add-result-2 c =
    omega (arith, few c.words_of-words.ensures c.requires.disks_bound.3, c.requires.place_bound)

pub overflow_add-result-3 : goal.overflow_add-result-3
overflow_add-result-3 c =
    omega (arith, few c.words_of-words.ensures c.requires.disks_bound.3, c.requires.place_bound)

pub returns : goal.returns
returns c =
    let x = c.args in
    rw (owner_at_lem (counts_of 0 x.disks 0) x.found.at (c.owner_place.ensures (counts_of 0 x.disks 0) refl), copy_at_lem (counts_of 0 x.disks 0) x.page (c.copy_place.ensures.0 (counts_of 0 x.disks 0) refl), c.first_position-first.ensures, c.words_of-words.ensures) refl
