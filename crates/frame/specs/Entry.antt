-- An open transaction by the words of the head: what a call has found of it.
use Rattle.std.specs.Prelude.{◌≡◌, true, cond, ℕ, ◌<◌, eqb, Result, Ok}
use Rattle.model.specs.Anchor.{anchor_words}
use Rattle.model.specs.declared.Core.{Core}
use Rattle.model.specs.State.{places, tail_of, fill_of, place_of, is_open, disk_at_place, reserved_at, reserved_on}
use Rattle.model.specs.Reads.{place_fits}
use Rattle.frame.specs.Fits.{place_within}
use Rattle.frame.specs.Refusal.{row_in}
use Rattle.frame.specs.declared.refusal.Refusal.{Refusal}
use Rattle.frame.specs.declared.entry.Entry.{Entry}

-- its numbers are those of the state, and pass the test
pub record EntryOf (c : Core) (number : ℕ) (r : Entry) : Type 0 where
  pub place : r.place ≡ place_of c.table number
  pub low : r.place < places
  pub reserved : r.reserved ≡ reserved_at c.table r.place
  pub disk : r.disk ≡ disk_at_place c.table r.place
  pub tail : r.tail ≡ tail_of c.logs r.disk
  pub fill : r.fill ≡ fill_of c.logs r.disk
  pub sum : r.sum ≡ reserved_on c.table r.disk
  pub fits : place_within c.sizes.disks r.disk r.tail r.fill r.reserved r.sum ≡ true

-- The number of the row that refuses a transaction, and where none does, its numbers.
pub record Entered (c : Core) (number : ℕ) (r : Result Entry Refusal) : Type 0 where
  pub refusal : row_in r ≡ cond (is_open c.table number) (cond (place_fits (place_of c.table number) c) 0 1) 9
  pub ready : (e : Entry) → r ≡ Ok e → EntryOf c number e

-- rows 1, 2 and 9, by the number that is found and the anchor's length
unfoldable pub after_anchor : (found anchor : ℕ) → ℕ
after_anchor found anchor = cond (eqb found 1) 1 (cond (eqb anchor anchor_words) found 2)

-- The number of the row that applies, and where none does, what was found.
pub record AfterAnchor {A : Type 0} (found : Result A Refusal) (anchor : ℕ) (r : Result A Refusal) : Type 0 where
  pub row : row_in r ≡ after_anchor (row_in found) anchor
  pub same : (x : A) → r ≡ Ok x → found ≡ Ok x
