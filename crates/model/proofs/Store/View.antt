-- What holds of an open store between two calls: the state, the devices and the reference as one ledger.
use mathlib.Core.Path.{◌≡◌, sym, ◌∙◌}
use mathlib.Core.List.{List, [], ◌∷◌, ◌++◌, map}
use mathlib.Core.Bool.{Bool, true, false, cond, ◌&&◌, ◌||◌}
use Prim.Native.Nat.{ℕ, ◌+◌, ◌≤◌, ◌<◌}
use lib.Dec.{ltb, eqb}
use lib.ListN.{length, get_or}
use native.Mathlib.Omega.{arith}
use native.Mathlib.Decide.{dec_lt}
use Rattle.model.specs.declared.Core.{Core}
use Rattle.model.specs.Sizes.{total, slots_in, ring_of, slot_base}
use Rattle.model.specs.Anchor.{anchor_words, epoch_on, sizes_on, start_on, backup_at}
use Rattle.model.specs.World.{World}
use Rattle.model.specs.Memory.{owner_of, copy_of, lengths_right}
use Rattle.model.specs.State.{limit, start_of, kept_of, end_of, is_open, place_of, first_at, reserved_at, has_update, bases_right}
use Rattle.model.specs.Causes.{when_open, when_serving}
use Rattle.model.specs.Transaction.{disk_of}
use Rattle.model.specs.Image.{image_of, restarted}
use Rattle.model.specs.Reference.{Reference, WriteSet, writes_of, writes_slot, words_in, has_set}
use Rattle.model.specs.Record.{Record, encode_all}
use Rattle.model.specs.Scan.{placed, updates_in}
use Rattle.model.specs.Machine.{Run}
use Rattle.model.specs.History.{Told, records_on}
use Rattle.model.specs.LogPromise.{Stored}
use Rattle.model.proofs.Bounds.{Bounded}
use Rattle.model.proofs.Growth.{kept_start}
use Rattle.model.proofs.Checked.{Restartable}
use Rattle.model.proofs.Geometry.{page_of, slot_start}
use Rattle.model.proofs.Slots.{patch_of, Fits, Shaped}
use Rattle.model.proofs.WriteSets.{Distinct}
use Rattle.model.proofs.Places.{Tabled, open_place}
use Rattle.model.proofs.Ledger.Entry.{Entry, record_of, is_close, some, All, closed_in}
use Rattle.model.proofs.Ledger.State.{Ledger}
use Rattle.model.proofs.Ledger.Order.{Ordered, on, size_of, boundary, Laid}
use Rattle.model.proofs.Ledger.Good.{Good}
use Rattle.model.proofs.Link.Words.{Fit, Arrays, Link}
use Rattle.model.proofs.Booleans.{true_false}
use Rattle.model.proofs.Ledger.Positions.{laid_append}

-- The devices keep what a restart needs: their image restarts to the committed contents, and its logs are of what the calls put.
pub record Kept (puts : Told) (w : World) (r : Reference) : Type 0 where
  pub sizes : sizes_on w.anchor ≡ r.sizes
  pub shaped : Shaped r.sizes r.committed
  pub image : restarted (image_of w) ≡ words_in r.committed
  pub logs : (d : ℕ) → d < (sizes_on w.anchor).disks → Stored puts w d
  pub restartable : Restartable w

-- the store and its reference as a ledger, with the flushed entries F and the buffered entries B
unfoldable pub view : Core → World → Reference → List Entry → List Entry → Ledger
view c w r F B =
    record {
      epoch = c.epoch;
      next = c.next;
      pages = λ i. get_or w.pages i 0;
      current = λ i. get_or w.backups (backup_at c.sizes c.epoch + i) 0;
      other = λ i. get_or w.backups (backup_at c.sizes (c.epoch + 1) + i) 0;
      copies = λ i. copy_of c.sizes w.work (page_of c.sizes i);
      owners = λ i. owner_of c.sizes w.work (slot_start c.sizes i);
      committed = λ i. get_or (words_in r.committed) i 0;
      writes = λ u. map (patch_of c.sizes) (writes_of u r.write_sets);
      opened = is_open c.table;
      flushed = F;
      buffered = B;
    }

-- The slices have the state's lengths, the anchor says what the state says, and what is kept of the sizes is right.
pub record Devices (c : Core) (w : World) : Type 0 where
  pub bounds : Bounded c.sizes
  pub bases : bases_right c ≡ true
  pub anchor : length w.anchor ≡ anchor_words
  pub lengths : lengths_right c.sizes (total c.sizes) w ≡ true
  pub sizes : sizes_on w.anchor ≡ c.sizes
  pub epoch : epoch_on w.anchor ≡ c.epoch
  pub formatted : 1 ≤ c.epoch
  pub starts : (d : ℕ) → d < c.sizes.disks → start_on w.anchor d ≡ start_of c.logs d
  pub arrays : Arrays c.sizes c.logs

-- a restart reads from where the ring is kept
pub anchor_kept : {c : Core} {w : World} → Devices c w → (d : ℕ) → d < c.sizes.disks → start_on w.anchor d ≡ kept_of c.logs d
anchor_kept {c} g d h = g.starts d h ∙ sym (kept_start c.logs d)

-- What a restart rests on; x is the transaction whose abort is under way, 0 for none.
pub record Safe (x : ℕ) (home : ℕ → ℕ) (c : Core) (w : World) (r : Reference) (F B : List Entry) : Type 0 where
  pub devices : Devices c w
  pub good : Good x (total c.sizes) (view c w r F B)
  pub link : Link c.sizes c.logs w F B
  pub ordered : Ordered c.sizes.disks (kept_of c.logs) home F B
  pub fit : All (Fit c.sizes) (F ++ B)
  -- a log's end lies within its ring and below the bound of positions
  pub ends : (d : ℕ) → d < c.sizes.disks
      → (end_of c.logs d ≤ kept_of c.logs d + ring_of c.sizes d) × (end_of c.logs d ≤ limit)
  pub sizes : r.sizes ≡ c.sizes
  pub shaped : Shaped c.sizes r.committed

-- An entry of an open transaction: the table knows where its first one lies.
pub record Own (x : ℕ) (c : Core) (t : ℕ) (e : Entry) : Type 0 where
  pub has : has_update c.table (place_of c.table t) ≡ true
  pub first : first_at c.table (place_of c.table t) ≤ e.position
  pub kind : (t ≡ x → ⊥) → e.kind ≡ 0

-- the words of a transaction's entries
unfoldable pub words_for : ℕ → List Entry → ℕ
words_for t [] = 0
words_for t (e ∷ l) = cond (eqb e.number t) (size_of e) 0 + words_for t l

-- The table of transactions against the log.
pub record Accounts (x : ℕ) (home : ℕ → ℕ) (c : Core) (F B : List Entry) : Type 0 where
  pub tabled : Tabled c.table
  pub homes : (t : ℕ) → is_open c.table t ≡ true → home t ≡ disk_of c t
  pub own : (t : ℕ) → is_open c.table t ≡ true → All (λ e. e.number ≡ t → Own x c t e) (F ++ B)
  pub firsts : (t : ℕ) → is_open c.table t ≡ true → has_update c.table (place_of c.table t) ≡ true
      → boundary (first_at c.table (place_of c.table t)) (kept_of c.logs (disk_of c t)) (on (disk_of c t) F ++ on (disk_of c t) B) ≡ true
  pub disks : (t : ℕ) → is_open c.table t ≡ true → disk_of c t < c.sizes.disks
  -- one of its entries is the first, and its updates are what is reserved beyond its closing record
  pub started : (t : ℕ) → is_open c.table t ≡ true → has_update c.table (place_of c.table t) ≡ true
      → some (λ e. eqb e.number t && eqb e.position (first_at c.table (place_of c.table t))) (F ++ B) ≡ true
  pub reserved : (t : ℕ) → is_open c.table t ≡ true → (t ≡ x → ⊥) → reserved_at c.table (place_of c.table t) ≡ 2 + words_for t (F ++ B)
  -- every other transaction of the log is closed in it
  pub closed_or_open : All (λ e. is_open c.table e.number ≡ false → closed_in (F ++ B) e.number ≡ true) (F ++ B)
  pub numbered : All (λ e. e.number < c.next) (F ++ B)

-- an entry that the checkpoint under way found when it began; in stage open, any
unfoldable pub before : Core → Entry → Bool
before c e = when_open c.stage || ltb e.position (get_or c.checkpoint.ends e.disk 0)

-- The checkpoint under way, and copy numbers.
pub record Copies (c : Core) (w : World) (F B : List Entry) : Type 0 where
  pub copied : when_open c.stage ≡ true → c.checkpoint.copied ≡ 0
  pub pages : (p : ℕ) → p < c.sizes.pages
      → copy_of c.sizes w.work p ≡ cond (ltb p c.checkpoint.copied) (c.epoch + 1) c.epoch
  pub capped : All (λ e. is_close e ≡ false → e.copy ≤ c.epoch + 1) (F ++ B)
  pub early : All (λ e. before c e ≡ true → is_close e ≡ false → e.copy ≤ c.epoch) (F ++ B)
  pub ends : when_open c.stage ≡ false → (d : ℕ) → d < c.sizes.disks
      → boundary (get_or c.checkpoint.ends d 0) (kept_of c.logs d) (on d F ++ on d B) ≡ true

-- The reference's write sets: one for each open transaction, of writes that lie in their slots.
pub record Sets (c : Core) (r : Reference) : Type 0 where
  pub distinct : Distinct r.write_sets
  pub has : (t : ℕ) → is_open c.table t ≡ has_set t r.write_sets
  pub fits : All (λ (s : WriteSet). All (Fits c.sizes) s.writes) r.write_sets

-- Slot owners: each was open once, and while it is open its write set has a write to the slot.
pub record Owners (c : Core) (w : World) (r : Reference) : Type 0 where
  pub below : (page slot : ℕ) → page < c.sizes.pages → slot < slots_in c.sizes page
      → owner_of c.sizes w.work (slot_base c.sizes page slot) < c.next
  pub written : (page slot : ℕ) → page < c.sizes.pages → slot < slots_in c.sizes page
      → is_open c.table (owner_of c.sizes w.work (slot_base c.sizes page slot)) ≡ true
      → writes_slot page slot (writes_of (owner_of c.sizes w.work (slot_base c.sizes page slot)) r.write_sets) ≡ true

-- The entries of a disk are the last of the records that the calls put there since its log began at `base`, and they begin where the
-- words of those before end, which is where the log is told to start. Of those before none is an update of a transaction that is open
-- or to come.
pub record Since (base start told next : ℕ) (opened : ℕ → Bool) (puts : List Record) (l : List Entry) : Type 0 where
  pub old : List Record
  pub all : puts ≡ old ++ map record_of l
  pub from : start ≡ base + length (encode_all old)
  pub since : start ≡ told
  pub past : (t : ℕ) → (t < next → opened t ≡ true) → updates_in t (placed base old) ≡ []

abbrev pub SinceOn : Told → Core → ℕ → List Entry → Type 0
SinceOn t c d l = Since (t.base d) (kept_of c.logs d) (t.starts d) c.next (is_open c.table) (records_on d t.puts) l

-- the store and its reference, as the calls find them
abbrev pub run_at : Core → World → Reference → Run
run_at c w r = record { machine = record { core = c; world = w }; reference = r }

-- An open store, or one inside an abort of transaction x; `puts` is what its calls put into the logs.
pub record Serving (x : ℕ) (home : ℕ → ℕ) (puts : Told) (c : Core) (w : World) (r : Reference) (F B : List Entry) : Type 0 where
  pub stage : when_serving c.stage ≡ true
  pub safe : Safe x home c w r F B
  pub accounts : Accounts x home c F B
  pub copies : Copies c w F B
  pub sets : Sets c r
  pub owners : Owners c w r
  pub told : (d : ℕ) → d < c.sizes.disks → SinceOn puts c d (on d F ++ on d B)
  -- the ends that the checkpoint under way remembers are those that were told when it began
  pub marks : when_open c.stage ≡ false → (d : ℕ) → d < c.sizes.disks → get_or c.checkpoint.ends d 0 ≡ puts.marks d

pub record Served (puts : Told) (c : Core) (w : World) (r : Reference) : Type 0 where
  pub home : ℕ → ℕ
  pub flushed : List Entry
  pub buffered : List Entry
  pub serving : Serving 0 home puts c w r flushed buffered

-- a transaction in the table has a number that was handed out
pub open_used : {x : ℕ} {home : ℕ → ℕ} {c : Core} {w : World} {r : Reference} {F B : List Entry} → Safe x home c w r F B
    → (t : ℕ) → is_open c.table t ≡ true → (1 ≤ t) × (t < c.next)
unfolding view
open_used {c = c} g t opened = (omega (arith, (open_place c.table t opened).0), go (dec_lt t c.next))
  where
    go : Dec (t < c.next) → t < c.next
    go (yes h) = h
    go (no h) = true_false opened (g.good.unused t (omega arith)).1

-- the flushed entries of a disk lie one after the other from its start on
pub flushed_laid : {x : ℕ} {home : ℕ → ℕ} {c : Core} {w : World} {r : Reference} {F B : List Entry} → Safe x home c w r F B
    → (d : ℕ) → d < c.sizes.disks → Laid (kept_of c.logs d) (on d F)
flushed_laid {c = c} {F = F} {B = B} g d h = (laid_append (kept_of c.logs d) (on d F) (on d B) (g.ordered.laid d h)).0
