-- The ledger and the steps that it takes.
use mathlib.Core.Path.{◌≡◌}
use mathlib.Core.List.{List, [], ◌∷◌, ◌++◌}
use mathlib.Core.Bool.{Bool, true, false, not, ◌&&◌, ◌||◌, cond}
use Prim.Native.Nat.{ℕ, ◌+◌, ◌<◌}
use lib.Dec.{eqb}
use lib.ListN.{length}
use Rattle.model.specs.Word.{◌⊕◌}
use Rattle.model.proofs.Ledger.Entry.{Entry, adds, pick, on_disk, spanning, Patch, patched}

-- Words are functions from index to word. `current` is the backup of checkpoint `epoch`, `other` the one that is written next.
-- `copies` and `owners` are by word: the copy number of its page, the owner of its slot.
pub record Ledger : Type 0 where
  pub epoch : ℕ
  pub next : ℕ
  pub pages : ℕ → ℕ
  pub current : ℕ → ℕ
  pub other : ℕ → ℕ
  pub copies : ℕ → ℕ
  pub owners : ℕ → ℕ
  pub committed : ℕ → ℕ
  pub writes : ℕ → List Patch
  pub opened : ℕ → Bool
  pub flushed : List Entry
  pub buffered : List Entry

abbrev pub including : (ℕ → Bool) → ℕ → ℕ → Bool
including O t u = O u || eqb u t

abbrev pub except : (ℕ → Bool) → ℕ → ℕ → Bool
except O t u = O u && not (eqb u t)

-- a transaction opened
unfoldable pub begun : Ledger → Ledger
begun a =
    record {
      epoch = a.epoch;
      next = a.next + 1;
      pages = a.pages;
      current = a.current;
      other = a.other;
      copies = a.copies;
      owners = a.owners;
      committed = a.committed;
      writes = λ u. cond (eqb u a.next) [] (a.writes u);
      opened = including a.opened a.next;
      flushed = a.flushed;
      buffered = a.buffered;
    }

-- a record of an open transaction buffered, and the pages changed by it
unfoldable pub logged : Ledger → Entry → Ledger
logged a r =
    record {
      epoch = a.epoch;
      next = a.next;
      pages = λ w. a.pages w ⊕ adds w r;
      current = a.current;
      other = a.other;
      copies = a.copies;
      owners = a.owners;
      committed = a.committed;
      writes = a.writes;
      opened = a.opened;
      flushed = a.flushed;
      buffered = a.buffered ++ r ∷ [];
    }

-- an update: its record logged, its slot owned, its write noted
unfoldable pub updated : Ledger → Entry → List ℕ → Ledger
updated a r value =
    record {
      epoch = a.epoch;
      next = a.next;
      pages = λ w. a.pages w ⊕ adds w r;
      current = a.current;
      other = a.other;
      copies = a.copies;
      owners = λ w. cond (spanning r.at (length value) w) r.number (a.owners w);
      committed = a.committed;
      writes = λ u. cond (eqb u r.number) (a.writes u ++ record { at = r.at; value = value } ∷ []) (a.writes u);
      opened = a.opened;
      flushed = a.flushed;
      buffered = a.buffered ++ r ∷ [];
    }

-- a disk flushed
unfoldable pub flushed_disk : Ledger → ℕ → Ledger
flushed_disk a d =
    record {
      epoch = a.epoch;
      next = a.next;
      pages = a.pages;
      current = a.current;
      other = a.other;
      copies = a.copies;
      owners = a.owners;
      committed = a.committed;
      writes = a.writes;
      opened = a.opened;
      flushed = a.flushed ++ pick (on_disk d) a.buffered;
      buffered = pick (λ r. not (on_disk d r)) a.buffered;
    }

-- a transaction committed by the flush of its disk, its closing record r the last word of it
unfoldable pub committed_by : Ledger → Entry → Ledger
committed_by a r =
    record {
      epoch = a.epoch;
      next = a.next;
      pages = a.pages;
      current = a.current;
      other = a.other;
      copies = a.copies;
      owners = a.owners;
      committed = λ w. patched w (a.writes r.number) (a.committed w);
      writes = a.writes;
      opened = except a.opened r.number;
      flushed = a.flushed ++ (pick (on_disk r.disk) a.buffered ++ r ∷ []);
      buffered = pick (λ q. not (on_disk r.disk q)) a.buffered;
    }

-- a transaction aborted: its closing record r buffered, after its compensations
unfoldable pub aborted_by : Ledger → Entry → Ledger
aborted_by a r =
    record {
      epoch = a.epoch;
      next = a.next;
      pages = a.pages;
      current = a.current;
      other = a.other;
      copies = a.copies;
      owners = a.owners;
      committed = a.committed;
      writes = a.writes;
      opened = except a.opened r.number;
      flushed = a.flushed;
      buffered = a.buffered ++ r ∷ [];
    }

-- a page copied to the other backup, and given the next epoch
unfoldable pub copied : Ledger → (ℕ → Bool) → Ledger
copied a in_page =
    record {
      epoch = a.epoch;
      next = a.next;
      pages = a.pages;
      current = a.current;
      other = λ w. cond (in_page w) (a.pages w) (a.other w);
      copies = λ w. cond (in_page w) (a.epoch + 1) (a.copies w);
      owners = a.owners;
      committed = a.committed;
      writes = a.writes;
      opened = a.opened;
      flushed = a.flushed;
      buffered = a.buffered;
    }

-- the checkpoint's last store: the other backup counts, and the log is what `retains` says
unfoldable pub switched : Ledger → (Entry → Bool) → Ledger
switched a retains =
    record {
      epoch = a.epoch + 1;
      next = a.next;
      pages = a.pages;
      current = a.other;
      other = a.current;
      copies = a.copies;
      owners = a.owners;
      committed = a.committed;
      writes = a.writes;
      opened = a.opened;
      flushed = pick retains a.flushed;
      buffered = [];
    }

-- a format or a restart: nothing logged, no transaction, the pages in the current backup
unfoldable pub fresh : ℕ → (ℕ → ℕ) → (ℕ → ℕ) → (ℕ → ℕ) → Ledger
fresh c words other owners =
    record {
      epoch = c;
      next = 1;
      pages = words;
      current = words;
      other = other;
      copies = λ w. c;
      owners = owners;
      committed = words;
      writes = λ u. [];
      opened = λ u. false;
      flushed = [];
      buffered = [];
    }

-- Two ledgers that agree in every test and list, and in every word below `size`.
pub record Same (size : ℕ) (a b : Ledger) : Type 0 where
  pub epoch : a.epoch ≡ b.epoch
  pub next : a.next ≡ b.next
  pub pages : (w : ℕ) → w < size → a.pages w ≡ b.pages w
  pub current : (w : ℕ) → w < size → a.current w ≡ b.current w
  pub other : (w : ℕ) → w < size → a.other w ≡ b.other w
  pub copies : (w : ℕ) → w < size → a.copies w ≡ b.copies w
  pub owners : (w : ℕ) → w < size → a.owners w ≡ b.owners w
  pub committed : (w : ℕ) → w < size → a.committed w ≡ b.committed w
  pub writes : (u : ℕ) → a.opened u ≡ true → a.writes u ≡ b.writes u
  pub opened : (u : ℕ) → a.opened u ≡ b.opened u
  pub flushed : a.flushed ≡ b.flushed
  pub buffered : a.buffered ≡ b.buffered
