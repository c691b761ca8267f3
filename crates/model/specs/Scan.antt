-- The records of a log in order, the search ahead for a closing record, and a transaction's updates.
use Rattle.std.specs.Prelude.{ℕ, zero, suc, ◌+◌, ◌-◌, max, List, [], ◌∷◌, ◌++◌, cond, ◌&&◌, length, ltb, eqb, Option}
use Rattle.model.specs.declared.Sizes.{Sizes}
use Rattle.model.specs.declared.Decoded.{Decoded}
use Rattle.model.specs.declared.Decoded.TheVariants.{Change, Close, Malformed}
use Rattle.model.specs.declared.Fate.{Fate}
use Rattle.model.specs.declared.Fate.TheVariants.{Closed, Unclosed, Unreadable}
use Rattle.model.specs.declared.BadRecord.{BadRecord}
use Rattle.model.specs.Below.{sum_over}
use Rattle.model.specs.Record.{Record, change, close, encode, words_of, update_kind, bad_record}
use Rattle.model.specs.Decode.{decode_at, span}

-- A log as it is read: each record with its position, up to the end or to the first malformed one.
pub data Scan : Type 0 where
  end : Scan
  bad : (position : ℕ) → Scan
  item : (position : ℕ) → Record → Scan → Scan

-- what was decoded at p, then the scan from the next position on
abbrev pub scanned : (ℕ → ℕ) → ℕ → Decoded → (ℕ → Scan) → Scan
scanned read p (Change kind page slot number copy width next) rest =
    item p (change kind page slot number copy (span read (p + 3) width)) (rest next)
scanned read p (Close kind number next) rest = item p (close kind number) (rest next)
scanned read p Malformed rest = bad p

-- at most n records from p on
unfoldable pub scan_at_most : Sizes → (ℕ → ℕ) → ℕ → ℕ → ℕ → Scan
scan_at_most s read stop zero p = end
scan_at_most s read stop (suc n) p =
    cond (ltb p stop) (scanned read p (decode_at s read stop p) (scan_at_most s read stop n)) end

-- the log from p up to `stop`: each record has a word or more, so there are at most stop - p (scan_end and scan_step in proofs/Scan.antt
-- say it without the count)
unfoldable pub scan : Sizes → (ℕ → ℕ) → ℕ → ℕ → Scan
scan s read stop p = scan_at_most s read stop (stop - p) p

-- a scan, and behind its end another; a malformed record ends both
unfoldable pub and_then : Scan → Scan → Scan
and_then end other = other
and_then (bad p) other = bad p
and_then (item p r rest) other = item p r (and_then rest other)

-- "to the tail, then the buffer": the log from p up to the tail, then from the tail, or from p if that is further, up to `stop`.
-- A record that begins before the tail and ends past it is malformed: "end past the tail".
unfoldable pub ring_then_buffer : Sizes → (ℕ → ℕ) → (tail stop p : ℕ) → Scan
ring_then_buffer s read tail stop p = and_then (scan s read tail p) (scan s read stop (max tail p))

-- the scan of given records that lie one after the other from p on
unfoldable pub placed : ℕ → List Record → Scan
placed p [] = end
placed p (r ∷ rs) = item p r (placed (p + length (encode r)) rs)

-- "a transaction with a closing record (commit or abort) further on in that retained log is closed, else it is loose" (fate_entries in
-- proofs/Restart/Entries.antt)
unfoldable pub fate_in : ℕ → Scan → Fate
fate_in number end = Unclosed
fate_in number (bad p) = Unreadable p
fate_in number (item p (change kind page slot n copy diff) rest) = fate_in number rest
fate_in number (item p (close kind n) rest) = cond (eqb n number) Closed (fate_in number rest)

-- the first malformed record of a disk's scan, and else what `rest` says
unfoldable pub fault_in : ℕ → Scan → Option BadRecord → Option BadRecord
fault_in disk end rest = rest
fault_in disk (bad p) rest = bad_record disk p
fault_in disk (item p r more) rest = fault_in disk more rest

-- An update as an abort reads it.
pub record Update : Type 0 where
  pub position : ℕ
  pub page : ℕ
  pub slot : ℕ
  pub diff : List ℕ

-- a transaction's updates, "newest first" (updates_from, updates_all and updates_fall in proofs/Updates.antt: those of the scan, all
-- of them, by falling position)
unfoldable pub updates_in : ℕ → Scan → List Update
updates_in number end = []
updates_in number (bad p) = []
updates_in number (item p (close kind n) rest) = updates_in number rest
updates_in number (item p (change kind page slot n copy diff) rest) =
    updates_in number rest
    ++ cond (eqb kind update_kind && eqb n number) (record { position = p; page = page; slot = slot; diff = diff } ∷ []) []

-- the words of their records
unfoldable pub update_words : List Update → ℕ
update_words us = sum_over (λ u. words_of update_kind (length u.diff)) us

-- the position of the oldest of them, 0 where there is none
unfoldable pub oldest : List Update → ℕ
oldest [] = 0
oldest (u ∷ []) = u.position
oldest (u ∷ v ∷ us) = oldest (v ∷ us)
