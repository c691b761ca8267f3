-- A record by its first two words, and what a survey of a log finds of a transaction's updates.
use Rattle.std.specs.Prelude.{◌≡◌, List, Bool, ◌&&◌, ℕ, ◌+◌, ◌*◌, ◌%◌, ◌≤◌, ◌<◌, eqb, length, get_or, take, drop, None, Option}
use Rattle.model.specs.declared.Sizes.{Sizes}
use Rattle.model.specs.declared.Decoded.{Decoded}
use Rattle.model.specs.declared.Decoded.TheVariants.{Change, Close, Malformed}
use Rattle.model.specs.declared.BadRecord.{BadRecord}
use Rattle.model.specs.Record.{update_kind}
use Rattle.model.specs.Decode.{read_log, kind_field}
use Rattle.model.specs.Scan.{Scan, scan, fault_in, updates_in, update_words}
use Rattle.disk_log.specs.declared.read.Extent.{Extent}
use Rattle.disk_log.specs.declared.front.Turn.{Turn}
use Rattle.disk_log.specs.declared.front.Front.{Front}
use Rattle.disk_log.specs.declared.updates.Survey.{Survey}
use Rattle.disk_log.specs.declared.updates.Group.{Group}
use Rattle.disk_log.specs.Reading.{LiesAt, positions_in}

-- A turn of the ring that begins at or before p: its positions lie below the tail, from the ring's first word on.
pub record InTurn (ring tail p : ℕ) (t : Turn) : Type 0 where
  pub at_first : t.low % ring ≡ 0
  pub begun : t.low ≤ p
  pub before_tail : t.near ≤ tail
  pub one_turn : t.near ≤ t.low + ring

-- The first two words of what stands at p in a log that ends at `stop`.
pub record FrontAt (read : ℕ → ℕ) (stop p : ℕ) (f : Front) : Type 0 where
  pub first : f.first ≡ read p
  pub number : p + 1 < stop → f.number ≡ read (p + 1)

-- is it an update record of the transaction
abbrev pub is_update_of : ℕ → Front → Bool
is_update_of number f = eqb (kind_field f.first) update_kind && eqb f.number number

-- a record that ends at n
abbrev pub EndsAt : ℕ → Decoded → Type 0
EndsAt n (Change kind page slot number copy width next) = next ≡ n
EndsAt n (Close kind number next) = next ≡ n
EndsAt n Malformed = ⊥

-- What was decoded at p has so many words: none, or more than there are up to the stop, if it is malformed.
pub record Measured (d : Decoded) (stop p words : ℕ) : Type 0 where
  pub none : words ≡ 0 → d ≡ Malformed
  pub past : stop < p + words → d ≡ Malformed
  pub whole : 0 < words → p + words ≤ stop → EndsAt (p + words) d

-- A position noted, in a log read from a position on: from it all but the first 128 * k updates of a transaction are read.
pub record NotedAt (number : ℕ) (log : ℕ → Scan) (from k q : ℕ) : Type 0 where
  pub behind : from ≤ q
  pub left : positions_in number (log q) ≡ drop (128 * k) (positions_in number (log from))
  pub faults : (disk : ℕ) (f : Option BadRecord) → fault_in disk (log q) f ≡ fault_in disk (log from) f

-- What a survey of a disk's log finds from a position on: the first malformed record, and a transaction's updates: their words, how
-- many they are, and the position of every 128th.
pub record Surveyed (disk number : ℕ) (log : ℕ → Scan) (from : ℕ) (r : Survey) (notes : List ℕ) : Type 0 where
  pub fault : r.fault ≡ fault_in disk (log from) None
  pub words : r.words ≡ update_words (updates_in number (log from))
  pub all : r.count ≡ length (positions_in number (log from))
  pub each : (k : ℕ) → 128 * k < r.count → NotedAt number log from k (get_or notes k 0)

-- The positions of a transaction's first n updates.
pub record Gathered (number n : ℕ) (log : Scan) (r : Group) : Type 0 where
  pub many : r.count ≡ n
  pub first : take n r.at ≡ take n (positions_in number log)

-- A disk's log has n updates of a transaction from a position on.
pub record Has (number n : ℕ) (e : Extent) (logs buffer : List ℕ) (from : ℕ) : Type 0 where
  pub sizes : Sizes
  pub disk : ℕ
  pub lies : LiesAt sizes disk e.place e.ring
  pub many : n ≤ length (positions_in number (scan sizes (read_log sizes logs disk e.tail buffer) e.end from))
