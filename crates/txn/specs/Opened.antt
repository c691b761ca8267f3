-- What a commit finds of its transaction: rows 1, 2, 5 and 9, or its entry.
use Rattle.std.specs.Prelude.{ℕ, ◌≡◌, length, Result, Ok, Err}
use Rattle.model.specs.declared.Carried.{Carried}
use Rattle.model.specs.World.{World}
use Rattle.model.specs.Refusal.{verdict, accepted, rejected}
use Rattle.model.specs.Causes.{when_serving}
use Rattle.model.specs.Transaction.{commit_rows}
use Rattle.model.specs.View.{core_of, body_of}
use Rattle.frame.specs.declared.refusal.Refusal.{Refusal}
use Rattle.frame.specs.declared.entry.Entry.{Entry}
use Rattle.frame.specs.Entry.{EntryOf}
use Rattle.frame.specs.Lent.{lent_refusal}
use Rattle.frame.specs.Refusal.{number_of}

-- What is known where no row applies.
pub record Opened (h : Carried) (w : World) (number : ℕ) (e : Entry) : Type 0 where
  pub lent : 0
      ≡ lent_refusal (when_serving h.stage) h.pages h.disks h.ring h.total (length w.anchor) (length w.pages) (length w.backups) (length w.logs) (length w.work)
  pub found : EntryOf (core_of h w.work) number e
  pub accepts : verdict (commit_rows (core_of h w.work) (body_of w) number) ≡ accepted

-- The first row that applies, and where none does, the transaction's entry.
pub record Opens (h : Carried) (w : World) (number : ℕ) (r : Result Entry Refusal) : Type 0 where
  pub refused : (x : Refusal) → r ≡ Err x → verdict (commit_rows (core_of h w.work) (body_of w) number) ≡ rejected (number_of x) 0 0
  pub ready : (e : Entry) → r ≡ Ok e → Opened h w number e
