-- A slot's difference as the code builds it, and a slot set in the memories.
use Rattle.std.specs.Prelude.{None, Some}
use mathlib.Core.Path.{◌≡◌, refl, sym, ap, ◌∙◌}
use mathlib.Core.List.{List, [], ◌∷◌, ◌++◌, append_assoc}
use mathlib.Core.Bool.{true}
use Prim.Native.Nat.{ℕ, suc, ◌+◌, ◌*◌, ◌≤◌}
use native.Mathlib.Omega.{arith}
use lib.ListN.{length, set}
use lib.Seq.{sets, take_all}
use borrow.Author.Tests.{le-leb}
use Rattle.model.specs.declared.Sizes.{Sizes}
use Rattle.model.specs.declared.Logs.{Logs}
use Rattle.model.specs.Word.{xors, ones_over, part}
use Rattle.model.specs.Record.{header, encode}
use Rattle.model.specs.World.{World, Action, write, pages, work, cost, act, perform, stores, made, finishes, each}
use Rattle.model.specs.Memory.{owner_at}
use Rattle.model.specs.Append.{append}
use Rattle.model.proofs.Parts.{length_part}
use Rattle.model.proofs.Run.{perform_append, stores_append, stores_written, perform_pages, finished_run}
use Rattle.model.proofs.Xor.{length_xors}
use Rattle.device.specs.Ran.{Ran}
use Rattle.device.proofs.Ran.{ran_then, ran_cut}
use Rattle.disk_log.specs.declared.write.Head.{Head}
use Rattle.disk_log.specs.Write.{change_of, Appends}
use Rattle.disk_log.proofs.Words.{change_length}
use Rattle.access.specs.declared.change.Changed.{Changed}
use Rattle.access.specs.Tasks.{with_memory, replacing, Replaced}

-- the difference of a slot has as many words as its value
module _ (at : ℕ) (value before : List ℕ) (fits : at + length value ≤ length before) where
  pub difference_length : length (xors (part at (length value) before) value) ≡ length value
  difference_length = omega (arith, length_xors (part at (length value) before) value, length_part at (length value) before fits)

  pub record_length : (h : Head) → length (encode (change_of h (xors (part at (length value) before) value))) ≡ 3 + length value
  record_length h =
      change_length h.kind h.page h.slot h.number h.copy (xors (part at (length value) before) value)
      ∙ ap (λ (n : ℕ). 3 + n) difference_length

-- a change whose words are put one by one and whose difference follows them
pub change_put : (l : List ℕ) (to n : ℕ) (h : Head) (diff : List ℕ) → n ≡ length diff
    → sets (set (set (set l to (h.kind + 8 * h.page + 512 * h.slot + 65536 * n)) (to + 1) h.number) (to + 2) h.copy) (to + 3) diff
    ≡ sets l to (encode (change_of h diff))
unfolding encode header
change_put l to n h diff e =
    let one : to + 1 ≡ suc to = omega arith in
    let two : to + 2 ≡ suc (suc to) = omega arith in
    let three : to + 3 ≡ suc (suc (suc to)) = omega arith in
    rw (e, one, two, three) refl

-- a whole list copied is the list
pub part_all : (words : List ℕ) → part 0 (length words) words ≡ words
unfolding part
part_all words = take_all (length words) words (omega arith)

-- words written in the page memory and a word in the work memory cost nothing
pub memory_ran : (rest at owner : ℕ) (value : List ℕ) (number : ℕ) (v : World)
    → Ran rest rest (each (write pages) at value ++ write work owner number ∷ []) v
    (with_memory v (sets v.pages at value) v.logs (set v.work owner number)) true
unfolding made finishes stores cost perform act
memory_ran rest at owner value number v =
    let none : stores (each (write pages) at value ++ write work owner number ∷ []) ≡ 0 =
    stores_append (each (write pages) at value) (write work owner number ∷ []) ∙ omega (arith, stores_written pages at value) in
    let whole : finishes rest (each (write pages) at value ++ write work owner number ∷ []) ≡ true = rw none (le-leb 0 rest (omega arith)) in
    record {
      world =
          sym (finished_run rest (each (write pages) at value ++ write work owner number ∷ []) v whole
          ∙ perform_append (each (write pages) at value) (write work owner number ∷ []) v
          ∙ ap (perform (write work owner number ∷ [])) (perform_pages at value v));
      left = rw none (omega arith);
      finished = sym whole;
    }

-- the record appended, the slot set: cut, or whole
module _ (s : Sizes) (l : Logs) (w v : World) (disk : ℕ) (head : Head) (at : ℕ) (value : List ℕ) where
  abbrev diff : List ℕ
  diff = xors (part at (length value) w.pages) value

  -- the appended record's actions, then those on the memories
  abbrev first : List Action
  first = (append s l w.work disk (encode (change_of head diff))).actions

  abbrev then_memory : List Action
  then_memory = each (write pages) at value ++ write work (owner_at s at) head.number ∷ []

  in_two : (replacing s l w disk head at value).actions ≡ first ++ then_memory
  unfolding replacing
  in_two = append_assoc first (each (write pages) at value) (write work (owner_at s at) head.number ∷ [])

  module _ {budget rest : ℕ} where
    pub replaced_cut : Appends budget rest s l disk (encode (change_of head diff)) w v None → Replaced budget rest s l disk head at value w v None
    replaced_cut did = record { ran = rw in_two (ran_cut did.ran then_memory refl); state = tt; ones = tt }

    pub replaced_whole : {r : Changed} → Appends budget rest s l disk (encode (change_of head diff)) w v (Some r.tip) → r.ones ≡ ones_over diff
        → Replaced budget rest s l disk head at value w (with_memory v (sets v.pages at value) v.logs (set v.work (owner_at s at) head.number)) (Some r)
    unfolding replacing
    replaced_whole did count =
        record {
          ran = rw in_two (ran_then did.ran then_memory refl (memory_ran rest at (owner_at s at) value head.number v));
          state = did.state;
          ones = count;
        }
