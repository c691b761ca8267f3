-- The entry of a closing record: two words, of no page.
use mathlib.Core.Path.{◌≡◌}
use mathlib.Core.List.{[]}
use mathlib.Core.Bool.{true}
use Prim.Native.Nat.{ℕ, ◌≤◌, ◌<◌}
use lib.Dec.{leb}
use borrow.Author.Tests.{leb-true}
use Rattle.model.specs.declared.Sizes.{Sizes}
use Rattle.model.specs.Record.{encode}
use Rattle.model.proofs.Booleans.{true_false}
use Rattle.model.proofs.Ledger.Entry.{Entry, is_close, record_of}
use Rattle.model.proofs.Ledger.Order.{size_of}
use Rattle.model.proofs.Link.Words.{Fit}

-- of transaction n, at position p of disk d
abbrev pub closing_entry : ℕ → ℕ → ℕ → ℕ → Entry
closing_entry kind d p n = record { disk = d; position = p; kind = kind; page = 0; slot = 0; number = n; copy = 0; at = 0; diff = [] }

module _ (kind d p n : ℕ) (h : leb 2 kind ≡ true) where
  pub closing_closes : is_close (closing_entry kind d p n) ≡ true
  unfolding is_close
  closing_closes = h

  pub closing_size : size_of (closing_entry kind d p n) ≡ 2
  unfolding size_of record_of is_close encode
  closing_size = rw h

  pub closing_fit : (s : Sizes) → kind < 4 → 1 ≤ n → Fit s (closing_entry kind d p n)
  unfolding record_of is_close
  closing_fit s top some =
      record { formed = rw h (record { kind_ge = leb-true 2 kind h; kind_lt = top; number_pos = some }); slotted = λ z. true_false h z }
