-- What is found in the log that an abort reads: a malformed record, more words of updates than are reserved, or neither.
use Rattle.std.specs.Prelude.{None, Option, Ok, Err}
use mathlib.Core.Path.{◌≡◌, refl, sym, subst, ◌∙◌}
use mathlib.Core.List.{List}
use mathlib.Core.Bool.{cond}
use Prim.Native.Nat.{ℕ, ◌≤◌, ◌<◌}
use lib.Dec.{ltb}
use borrow.Author.Tests.{lt-ltb, le-ltb}
use Rattle.model.specs.declared.Sizes.{Sizes}
use Rattle.model.specs.declared.Logs.{Logs}
use Rattle.model.specs.declared.BadRecord.{BadRecord}
use Rattle.model.specs.Record.{bad_record}
use Rattle.model.specs.Scan.{Scan, end, fault_in, updates_in, update_words}
use Rattle.model.specs.State.{tail_of, end_of}
use Rattle.model.proofs.Reading.{ending}
use Rattle.model.proofs.Faults.{fault_end, fault_own}
use Rattle.model.proofs.RingThenBuffer.{parts_as_one}
use Rattle.model.proofs.Growth.{tail_end}
use Rattle.abort.specs.declared.notes.Notes.{Notes}
use Rattle.abort.specs.declared.scope.Scope.{Scope}
use Rattle.abort.specs.declared.reading.Found.{Found}
use Rattle.frame.proofs.Refusals.{ok_same}
use Rattle.abort.specs.Undo.{reader, log_from, parts_from}
use Rattle.abort.specs.Groups.{Noted, FoundFrom}
use Rattle.abort.specs.Scope.{Examines}
use Rattle.abort.proofs.Malformed.{sound_end}

module _ (s : Sizes) (l : Logs) (at : Scope) (number : ℕ) (logs work : List ℕ) where
  abbrev parts : Scan
  parts = parts_from s l at.disk logs work at.from

  abbrev long : Option BadRecord
  long = cond (ltb at.words (update_words (updates_in number parts))) (bad_record at.disk at.first) None

  -- with no malformed record it is the whole as one log
  pub as_one_lem : ending parts ≡ end → parts ≡ log_from s l at.disk logs work at.from
  unfolding parts_from log_from
  as_one_lem sound =
      parts_as_one s (reader s l at.disk logs work) (tail_of l at.disk) (end_of l at.disk) (tail_end l at.disk) at.from sound

  pub examined_malformed : {bad : BadRecord} → FoundFrom s l at.disk number at.from logs work (Err bad) → Examines s l at number logs work (Err bad)
  examined_malformed found =
      record { fault = sym (fault_own at.disk parts long (sym found.fault)); noted = λ n is. cc }

  module _ {r : Found} (found : FoundFrom s l at.disk number at.from logs work (Ok r)) where
    clean : fault_in at.disk parts long ≡ cond (ltb at.words r.words) (bad_record at.disk at.first) None
    clean =
        let sound = sound_end at.disk parts (sym found.fault) in
        fault_end at.disk parts long sound ∙ rw (as_one_lem sound, ← found.words r refl) refl

    pub examined_long : at.words < r.words
        → Examines s l at number logs work (Err (record { disk = at.disk; position = at.first }))
    examined_long more = record { fault = sym (clean ∙ rw (lt-ltb at.words r.words more) refl); noted = λ n is. cc }

    pub examined_none : r.words ≤ at.words → Examines s l at number logs work (Ok r.notes)
    examined_none few =
        record {
          fault = sym (clean ∙ rw (le-ltb at.words r.words few) refl);
          noted = λ n is. rw (← ok_same is) (found.noted r refl);
        }

-- noted from where it says
pub noted_own : {number : ℕ} {log : ℕ → Scan} {from : ℕ} {r : Notes} → Noted number log from r → Noted number log r.from r
noted_own {number} {log} {from} {r} n = subst (λ (f : ℕ). Noted number log f r) (sym n.starts) n
