-- What an update and an abort answer: the bits that are 1 over the differences that they put.
use mathlib.Core.Path.{◌≡◌, refl, sym, ap, subst, ◌∙◌}
use mathlib.Core.List.{List, [], ◌∷◌, ◌++◌, map}
use mathlib.Core.Bool.{true}
use Prim.Native.Nat.{ℕ, ◌+◌}
use native.Mathlib.Omega.{arith}
use lib.Count.{ones}
use lib.ListN.{get_or}
use Rattle.model.specs.declared.Core.{Core}
use Rattle.model.specs.declared.Answer.{Answer}
use Rattle.model.specs.declared.Answer.TheVariants.{Finished, Refused, Interrupted}
use Rattle.model.specs.Below.{sum_over}
use Rattle.model.specs.Word.{xors, ones_over, places_differing, OfBits}
use Rattle.model.specs.Record.{close, abort_kind}
use Rattle.model.specs.Scan.{Update}
use Rattle.model.specs.World.{World}
use Rattle.model.specs.State.{sound}
use Rattle.model.specs.Refusal.{verdict, accepted, first_of}
use Rattle.model.specs.Transaction.{slot_words, update_record, update_rows, update_task}
use Rattle.model.specs.Abort.{updates_left, ones_undone, abort_rows, abort_task}
use Rattle.model.specs.Call.{Call, format, begin, update, abort, task_of, result_of}
use Rattle.model.specs.Reference.{Reference, taken, outcome_of, answered, slot_index, plain_table}
use Rattle.model.specs.Machine.{result}
use Rattle.model.specs.History.{Told, compensation, ones_put, put_under, put_by}
use Rattle.model.specs.LogPromise.{OnesTold}
use Rattle.model.specs.Answers.{Returned}
use Rattle.model.proofs.Ones.{ones_differ}
use Rattle.model.proofs.Returned.{returned}
use Rattle.model.proofs.Restart.Taken.{taken_call}
use Rattle.model.proofs.Store.View.{Served, run_at}
use Rattle.model.proofs.Store.Accepted.{Updating, update_accepted, abort_accepted}
use Rattle.model.proofs.Store.PlainTable.{slot_value}
use Rattle.model.proofs.Store.UpdateRoom.{old_width}
use Rattle.model.proofs.Store.Update.{update_allowed}
use Rattle.model.proofs.Store.Left.{may_abort}
use Rattle.model.proofs.Store.Undo.{compensations}
use Rattle.model.proofs.Store.Told.{update_told, updates_told}
use Rattle.model.proofs.Store.Holding.{served}
use Rattle.model.proofs.Sound.Lists.{sound_after}
use Rattle.model.proofs.PowerLoss.{holds_after}
use Rattle.model.proofs.Everything.{everything}
use Rattle.model.proofs.Play.{does, shows, unformatted}
use Rattle.model.proofs.Positions.{plenty, small}

-- a compensation has the difference of its update, a closing record has none
ones_compensated : (c : Core) (w : World) (r : Reference) (number : ℕ) (us : List Update)
    → ones_put (compensations c w number us ++ put_under (run_at c w r) number (close abort_kind number) ∷ []) ≡ ones_undone us
unfolding ones_put ones_undone sum_over ones_over compensation
ones_compensated c w r number [] = refl
ones_compensated c w r number (u ∷ us) = ap (λ (n : ℕ). ones_over u.diff + n) (ones_compensated c w r number us)

module _ {puts : Told} {c : Core} {w : World} {r : Reference} (g : Served puts c w r) (s : sound c ≡ true) where
  -- an accepted update's difference is against the slot's value in the plain table
  module _ (number page slot : ℕ) (value : List ℕ) (ok : verdict (update_rows c w number page slot value) ≡ accepted) where
    abbrev may : Updating c w number page slot value
    may = update_accepted c w number page slot value ok

    abbrev before : List ℕ
    before = get_or (plain_table r) (slot_index r.sizes page slot) []

    update_sums : (budget : ℕ) → (update_task c w number page slot value).value ≡ ones_put (put_by (update number page slot value budget) (run_at c w r) puts)
    unfolding update_task update_record ones_put sum_over
    update_sums budget = rw (update_told g.serving number page slot value may.page_lt may.slot_lt) (omega arith)

    update_places : (bits : ℕ) → OfBits bits before → OfBits bits value → (update_task c w number page slot value).value ≡ places_differing bits before value
    unfolding update_task update_record
    update_places bits p q =
        let same = slot_value g.serving page slot may.page_lt may.slot_lt in
        let long = old_width g.serving number page slot value (update_allowed s may) in
        subst (λ (l : List ℕ). ones_over (xors (slot_words c w page slot) value) ≡ places_differing bits l value) same
        (ones_differ bits (slot_words c w page slot) value long (rw same p) q)

  -- the compensations of an accepted abort are of the updates put under its number
  abort_sums : (number budget : ℕ) → verdict (abort_rows c w number) ≡ accepted
      → (abort_task c w number).value ≡ ones_put (put_by (abort number budget) (run_at c w r) puts)
  unfolding abort_task
  abort_sums number budget ok =
      let may = may_abort c w number s ok in
      rw (updates_told g.serving number may.opened may.below) (sym (ones_compensated c w r number (updates_left c w number)))

-- a taken call answers its task's value
value_answered : (a : Answer) → outcome_of a ≡ taken → answered a ≡ first_of a
value_answered (Finished count value) took = refl
value_answered (Refused number first second) took = let z : ◌≡◌ {A = ℕ} 0 1 = cc in absurd (omega arith)
value_answered (Interrupted count) took = let z : ◌≡◌ {A = ℕ} 0 1 = cc in absurd (omega arith)

task_answered : (k : Call) (c : Core) (w : World) → outcome_of (result_of k c w).answer ≡ taken → answered (result_of k c w).answer ≡ (task_of k c w).value
unfolding Returned
task_answered k c w took = value_answered (result_of k c w).answer took ∙ ((returned k c w).finished took).1

-- See specs/LogPromise.antt.
pub ones_told : OnesTold
unfolding OnesTold result
ones_told m z budget formats es a k =
    let h = holds_after m z budget formats es a in
    let s = (sound_after m z budget formats es).1 in
    record {
      updates = λ number page slot value b is took.
          let ok = rw is at (taken_call k _ _ took).accepted in
          let g = served h (update_accepted _ _ number page slot value ok).serving in
          task_answered k _ _ took ∙ rw is (update_sums g s number page slot value ok b);
      aborts = λ number b is took.
          let ok = rw is at (taken_call k _ _ took).accepted in
          let g = served h (abort_accepted _ _ number s ok).serving in
          task_answered k _ _ took ∙ rw is (abort_sums g s number b ok);
      places = λ number page slot value b is took bits p q.
          let ok = rw is at (taken_call k _ _ took).accepted in
          let g = served h (update_accepted _ _ number page slot value ok).serving in
          task_answered k _ _ took ∙ rw is (update_places g s number page slot value ok bits p q);
    }

-- A slot of two words, 0 and 0, becomes 5 and 1: three bits, two of them in its first word. Then 6 and 1: two bits, where OR would give
-- four. Then the same again: none. The abort takes all three back: five bits, where its last compensation alone has three.
pub chatter : List Call
chatter =
    format (small 2) plenty ∷ begin 0 ∷ update 1 0 0 (5 ∷ 1 ∷ []) plenty ∷ update 1 0 0 (6 ∷ 1 ∷ []) plenty ∷ update 1 0 0 (6 ∷ 1 ∷ []) plenty
    ∷ abort 1 plenty ∷ []

pub chatter_computed : shows answered (map does chatter) (unformatted (small 2)) ≡ 0 ∷ 1 ∷ 3 ∷ 2 ∷ 0 ∷ 5 ∷ []
unfolding everything unformatted small chatter does shows ones
chatter_computed = refl
