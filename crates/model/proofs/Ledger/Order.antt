-- Where the records of a ledger lie: one after the other on each disk, each transaction on one disk, its closing record last.
use mathlib.Core.Path.{◌≡◌}
use mathlib.Core.List.{List, [], ◌∷◌, ◌++◌, map}
use mathlib.Core.Bool.{Bool, true, ◌&&◌, ◌||◌}
use Prim.Native.Nat.{ℕ, ◌+◌, ◌≤◌, ◌<◌}
use lib.Dec.{eqb}
use lib.ListN.{length}
use Rattle.model.specs.Record.{encode, encode_all}
use Rattle.model.specs.Scan.{Scan, end, item}
use Rattle.model.proofs.Ledger.Entry.{Entry, record_of, is_close, All, pick, on_disk}

-- how many words an entry takes, and the words of those of a disk
unfoldable pub size_of : Entry → ℕ
size_of r = length (encode (record_of r))

unfoldable pub words_of : List Entry → List ℕ
words_of l = encode_all (map record_of l)

unfoldable pub on : ℕ → List Entry → List Entry
on d l = pick (on_disk d) l

-- entries one after the other from position p on
abbrev pub Laid : ℕ → List Entry → Type 0
Laid p [] = Unit {0}
Laid p (r ∷ l) = (r.position ≡ p) × Laid (p + size_of r) l

-- q is where one of the entries from p on begins, or where they end
unfoldable pub boundary : ℕ → ℕ → List Entry → Bool
boundary q p [] = eqb q p
boundary q p (r ∷ l) = eqb q p || boundary q (p + size_of r) l

-- the entries as a reader finds them
unfoldable pub entries_scan : List Entry → Scan
entries_scan [] = end
entries_scan (r ∷ l) = item r.position (record_of r) (entries_scan l)

-- The flushed and the buffered entries on their disks.
pub record Ordered (disks : ℕ) (start home : ℕ → ℕ) (F B : List Entry) : Type 0 where
  pub laid : (d : ℕ) → d < disks → Laid (start d) (on d F ++ on d B)
  pub inside : All (λ r. r.disk < disks) (F ++ B)
  pub homed : All (λ r. r.disk ≡ home r.number) (F ++ B)
  -- a closing record is its transaction's last
  pub last : All (λ r. All (λ q. is_close q && eqb q.number r.number ≡ true → r.position ≤ q.position) (F ++ B)) (F ++ B)
