-- The words reserved on a disk when one place of the table changes: at a begin, at an update and at a close.
use mathlib.Core.Path.{◌≡◌}
use mathlib.Core.Bool.{cond}
use Prim.Native.Nat.{ℕ, ◌+◌, ◌≤◌, ◌<◌}
use borrow.Author.Tests.{eq-eqb, ne_eqb}
use Rattle.model.specs.declared.Table.{Table}
use Rattle.model.specs.State.{places, number_at, disk_at_place, reserved_at, served_by, reserved_for}
use Rattle.model.proofs.Below.{term_le_sum, sum_changed}
use Rattle.model.proofs.SetPlace.{entered, other_same}
use Rattle.model.proofs.Places.{served_here}

-- what a place adds to the words reserved on a disk
unfoldable pub reserved_by : Table → ℕ → ℕ → ℕ
reserved_by t disk i = cond (served_by t disk i) (reserved_at t i) 0

-- a free place adds nothing, and a transaction its words on its own disk alone
module _ (t : Table) (disk i : ℕ) where
  pub free_by : number_at t i ≡ 0 → reserved_by t disk i ≡ 0
  unfolding reserved_by served_by
  free_by e = rw (eq-eqb _ _ e)

  module _ (some : number_at t i ≡ 0 → ⊥) where
    pub own_by : disk_at_place t i ≡ disk → reserved_by t disk i ≡ reserved_at t i
    unfolding reserved_by
    own_by e = rw (served_here t disk i some e)

    pub other_by : (disk_at_place t i ≡ disk → ⊥) → reserved_by t disk i ≡ 0
    unfolding reserved_by served_by
    other_by ne = rw (ne_eqb _ _ some, ne_eqb _ _ ne)

  pub by_le : i < places → reserved_by t disk i ≤ reserved_for t disk
  unfolding reserved_by reserved_for
  by_le h = term_le_sum (λ j. cond (served_by t disk j) (reserved_at t j) 0) places i h

-- What is reserved on a disk changes by what the place added before and adds now.
pub reserved_changed : (t : Table) (p n d f r e m : ℕ) → p < places → (disk : ℕ)
    → reserved_for (entered t p n d f r e m) disk + reserved_by t disk p
    ≡ reserved_for t disk + reserved_by (entered t p n d f r e m) disk p
unfolding reserved_for reserved_by served_by
reserved_changed t p n d f r e m h disk =
    sum_changed _ _ places p h
    (λ i ne.
    let same = other_same t p n d f r e m i ne in
    rw (same.number, same.disk, same.reserved))
