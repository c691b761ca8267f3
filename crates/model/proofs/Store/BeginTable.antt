-- The table after a begin: the new transaction on the lowest free place, and those that were open before.
use mathlib.Core.Path.{◌≡◌, sym, ap, ◌∙◌}
use mathlib.Core.List.{List}
use mathlib.Core.Bool.{true, false, ◌||◌}
use Prim.Native.Nat.{ℕ, ◌<◌, ◌+◌}
use native.Mathlib.Omega.{arith}
use lib.Dec.{eqb}
use Rattle.model.specs.declared.Table.{Table}
use Rattle.model.specs.declared.Core.{Core}
use Rattle.model.specs.World.{World}
use Rattle.model.specs.State.{places, number_at, disk_at_place, first_at, reserved_at, place_of, is_open, with_place, has_update, with_reserved, reserved_on}
use Rattle.model.specs.Room.{idlest}
use Rattle.model.specs.Refusal.{accepted, verdict}
use Rattle.model.specs.Transaction.{begin_rows}
use Rattle.model.specs.Reference.{Reference}
use Rattle.model.specs.History.{Told}
use Rattle.model.proofs.SetPlace.{put_disk, put_reserved, other_same, SameAt}
use Rattle.model.proofs.Places.{Tabled, place_holds, open_place, begin_place, begin_other, begin_open, begin_tabled}
use Rattle.model.proofs.Ledger.Entry.{Entry}
use Rattle.model.proofs.Ledger.Good.{newly as one_more_lem}
use Rattle.model.proofs.Store.View.{view, Serving}
use Rattle.model.proofs.Booleans.{true_false}
use Rattle.model.proofs.Store.Accepted.{begin_accepted}

module _ {home : ℕ → ℕ} {puts : Told} {c : Core} {w : World} {r : Reference} {F B : List Entry}
    (class : ℕ) (ok : verdict (begin_rows c w class) ≡ accepted) (v : Serving 0 home puts c w r F B) where
  abbrev pub place : ℕ
  place = place_of c.table 0

  pub at : place < places
  at = (begin_accepted c w class ok).free

  pub tabled : Tabled c.table
  tabled = v.accounts.tabled

  pub free : number_at c.table place ≡ 0
  free = place_holds c.table 0 at

  -- the number is not 0, and no transaction has it
  pub some : c.next ≡ 0 → ⊥
  unfolding view
  some e = omega (arith, v.safe.good.counting)

  pub new : is_open c.table c.next ≡ false
  unfolding view
  new = (v.safe.good.unused c.next (omega arith)).1

  abbrev sum : ℕ
  sum = reserved_on c.table (idlest c class 2) + 2

  abbrev pub T : Table
  T = with_reserved (with_place c.table place c.next (idlest c class 2) 0 2) (idlest c class 2) sum

  pub open_after : (t : ℕ) → is_open T t ≡ (is_open c.table t || eqb t c.next)
  open_after = begin_open c.table tabled place c.next (idlest c class 2) 0 2 (idlest c class 2) sum at free some new

  pub new_place : place_of T c.next ≡ place
  new_place = begin_place c.table tabled place c.next (idlest c class 2) 0 2 (idlest c class 2) sum at free some new

  -- an open one is the new one or was open
  pub newly : (t : ℕ) (X : Type 0) → is_open T t ≡ true → (t ≡ c.next → X) → (is_open c.table t ≡ true → X) → X
  newly t X o f k = one_more_lem (is_open c.table) c.next t X (sym (open_after t) ∙ o) f (λ ne h. k h)

  -- One that was open has its place, and what stands there, as before.
  module _ (t : ℕ) (o : is_open c.table t ≡ true) where
    pub old : t ≡ c.next → ⊥
    old e = true_false o (rw e new)

    apart : place_of c.table t ≡ place → ⊥
    apart e =
        (open_place c.table t o).0
        (sym (place_holds c.table t (open_place c.table t o).1) ∙ ap (number_at c.table) e ∙ free)

    same_place : place_of T t ≡ place_of c.table t
    same_place = begin_other c.table tabled place c.next (idlest c class 2) 0 2 (idlest c class 2) sum at free some new t old (open_place c.table t o).0

    there : SameAt c.table T (place_of c.table t)
    there = other_same c.table place c.next (idlest c class 2) 0 2 (idlest c class 2) sum (place_of c.table t) apart

    pub same_disk : disk_at_place T (place_of T t) ≡ disk_at_place c.table (place_of c.table t)
    same_disk = rw same_place there.disk

    pub same_first : first_at T (place_of T t) ≡ first_at c.table (place_of c.table t)
    same_first = rw same_place there.first

    pub same_reserved : reserved_at T (place_of T t) ≡ reserved_at c.table (place_of c.table t)
    same_reserved = rw same_place there.reserved

    pub same_update : has_update T (place_of T t) ≡ has_update c.table (place_of c.table t)
    unfolding has_update
    same_update = rw same_reserved

  -- the new one has its disk, the words of its closing record, and no update
  pub new_disk : disk_at_place T (place_of T c.next) ≡ idlest c class 2
  new_disk = rw new_place (put_disk c.table tabled.sized place c.next (idlest c class 2) 0 2 (idlest c class 2) sum at)

  pub new_reserved : reserved_at T (place_of T c.next) ≡ 2
  new_reserved = rw new_place (put_reserved c.table tabled.sized place c.next (idlest c class 2) 0 2 (idlest c class 2) sum at)

  pub no_update : has_update T (place_of T c.next) ≡ false
  unfolding has_update
  no_update = rw new_reserved

  pub new_tabled : Tabled T
  new_tabled = begin_tabled c.table tabled place c.next (idlest c class 2) 0 2 (idlest c class 2) sum at free some new
