-- What is found in a log that is read up to its tail and then in the buffer: where no record is malformed it is one log.
use Rattle.std.specs.Prelude.{None, Some, Ok, Err}
use mathlib.Core.Path.{◌≡◌, refl, sym, ap, ◌∙◌}
use mathlib.Core.Logic.{◌⊎◌, inl, inr}
use mathlib.Core.List.{List}
use Prim.Native.Nat.{ℕ}
use native.Mathlib.Omega.{arith}
use Rattle.model.specs.declared.Sizes.{Sizes}
use Rattle.model.specs.declared.Logs.{Logs}
use Rattle.model.specs.declared.BadRecord.{BadRecord}
use Rattle.model.specs.Decode.{read_log}
use Rattle.model.specs.Scan.{Scan, end, bad, scan, ring_then_buffer, fault_in, updates_in, update_words}
use Rattle.model.specs.Memory.{buffer_of}
use Rattle.model.specs.State.{tail_of, fill_of, end_of}
use Rattle.model.proofs.Faults.{fault_bad}
use Rattle.model.proofs.Reading.{ending, either_ending}
use Rattle.model.proofs.RingThenBuffer.{parts_as_one}
use Rattle.model.proofs.Growth.{tail_end}
use Rattle.disk_log.specs.declared.read.Extent.{Extent}
use Rattle.disk_log.specs.declared.updates.Survey.{Survey}
use Rattle.disk_log.specs.Reading.{extent_of, positions_in}
use Rattle.disk_log.specs.Front.{Surveyed}
use Rattle.frame.proofs.Refusals.{ok_same}
use Rattle.abort.specs.Undo.{Serving, reader, log_from, parts_from}
use Rattle.abort.specs.Groups.{FoundFrom}
use Rattle.abort.proofs.Disks.{lent_tail, lent_to, lent_reader}

-- a log in which no fault is found is read to its end
pub sound_end : (disk : ℕ) (sc : Scan) → fault_in disk sc None ≡ None → ending sc ≡ end
sound_end disk sc e = go (either_ending sc)
  where
    go : (ending sc ≡ end) ⊎ ((p : ℕ) × (ending sc ≡ bad p)) → ending sc ≡ end
    go (inl x) = x
    go (inr x) =
        let f = sym (fault_bad disk sc None x.0 x.1) ∙ e in
        let z : ◌≡◌ {A = ℕ} 0 1 = cc in
        absurd (omega arith)

module _ (s : Sizes) (l : Logs) (disk number from : ℕ) (logs work : List ℕ) where
  abbrev parts : ℕ → Scan
  parts p = ring_then_buffer s (reader s l disk logs work) (tail_of l disk) (end_of l disk) p

  abbrev whole : ℕ → Scan
  whole p = scan s (reader s l disk logs work) (end_of l disk) p

  one_log : (p : ℕ) → fault_in disk (parts p) None ≡ None → parts p ≡ whole p
  one_log p none = parts_as_one s (reader s l disk logs work) (tail_of l disk) (end_of l disk) (tail_end l disk) p (sound_end disk (parts p) none)

  pub found_bad : {f : Survey} {notes : List ℕ} → Surveyed disk number parts from f notes → {bad : BadRecord} → f.fault ≡ Some bad
      → FoundFrom s l disk number from logs work (Err bad)
  unfolding parts_from
  found_bad found is = record { fault = sym is ∙ found.fault; words = λ x e. cc; noted = λ x e. cc }

  pub found_from : {f : Survey} {notes : List ℕ} → Surveyed disk number parts from f notes → f.fault ≡ None
      → FoundFrom s l disk number from logs work (Ok (record { words = f.words; notes = record { from = from; count = f.count; at = notes } }))
  unfolding parts_from log_from
  found_from found none =
      let here = one_log from (sym found.fault ∙ none) in
      record {
        fault = sym none ∙ found.fault;
        words = λ x e. rw (← ok_same e) (found.words ∙ ap (λ (x : Scan). update_words (updates_in number x)) here);
        noted = λ x e.
            rw (← ok_same e)
            (record {
              starts = refl;
              all = found.all ∙ rw here refl;
              behind = λ k h. (found.each k h).behind;
              each = λ k h.
                  let at = found.each k h in
                  ap (positions_in number) (sym (one_log _ (at.faults disk None ∙ sym found.fault ∙ none))) ∙ at.left ∙ rw here refl;
            });
      }

-- as it is lent
module _ {s : Sizes} {l : Logs} {disk : ℕ} {logs work : List ℕ} (at : Serving s l disk logs work) {buffer : List ℕ}
    (e : buffer ≡ buffer_of work disk (fill_of l disk)) (number from : ℕ) {x : Extent}
    (is : x ≡ extent_of s disk (tail_of l disk) (end_of l disk)) where
  pub lent_parts : {f : Survey} {notes : List ℕ}
      → Surveyed disk number (ring_then_buffer s (read_log s logs disk x.tail buffer) x.tail x.end) from f notes
      → Surveyed disk number (parts s l disk number from logs work) from f notes
  lent_parts found = rw (lent_reader at e _ is, lent_tail at e _ is, lent_to at e _ is) at found
