-- One update taken back: its record appended, then its slot changed back.
use Rattle.std.specs.Prelude.{None, Some}
use mathlib.Core.Path.{◌≡◌, refl}
use mathlib.Core.List.{List, [], ◌∷◌}
use mathlib.Core.Bool.{true}
use Prim.Native.Nat.{ℕ}
use native.Mathlib.Omega.{arith}
use lib.ListN.{length}
use Rattle.model.specs.declared.Sizes.{Sizes}
use Rattle.model.specs.declared.Logs.{Logs}
use Rattle.model.specs.Below.{sum_over}
use Rattle.model.specs.Word.{xors, ones_over, part}
use Rattle.model.specs.Sizes.{slot_base}
use Rattle.model.specs.Record.{change, encode, compensation_kind}
use Rattle.model.specs.Scan.{Update}
use Rattle.model.specs.World.{World}
use Rattle.model.specs.Memory.{copy_of}
use Rattle.model.specs.Append.{append}
use Rattle.model.specs.Image.{xor_at}
use Rattle.model.specs.Abort.{xor_in, compensate, ones_undone}
use Rattle.model.proofs.Restart.Words.{with_pages}
use Rattle.device.specs.Ran.{Ran}
use Rattle.device.proofs.Memory.{pages_written}
use Rattle.device.proofs.Ran.{ran_then, ran_cut}
use Rattle.disk_log.specs.declared.write.Tip.{Tip}
use Rattle.abort.specs.Undo.{Did}

-- a difference XORed into the page memory: no store
ran_xor : (budget at : ℕ) (diff : List ℕ) (w : World) → Ran budget budget (xor_in at diff w.pages) w (with_pages w (xor_at at diff w.pages)) true
unfolding xor_in xor_at
ran_xor budget at diff w = pages_written budget at (xors (part at (length diff) w.pages) diff) w

module _ (s : Sizes) (l : Logs) (w : World) (number disk : ℕ) (u : Update) {budget rest : ℕ} {v : World} {diff : List ℕ}
    (same : diff ≡ u.diff) where
  -- the append was cut
  pub compensated_cut : Did disk budget rest (append s l w.work disk (encode (change compensation_kind u.page u.slot number (copy_of s w.work u.page) diff))) w v None
      → Did disk budget rest (compensate s l w number disk u) w v None
  unfolding compensate
  compensated_cut did = rw (← same) (record { ran = ran_cut did.ran _ refl; state = tt })

  -- it was not
  pub compensated_whole : {tip : Tip} → Did disk budget rest (append s l w.work disk (encode (change compensation_kind u.page u.slot number (copy_of s w.work u.page) diff))) w v (Some tip)
      → v.pages ≡ w.pages → {at : ℕ} → at ≡ slot_base s u.page u.slot
      → (after : List ℕ) → after ≡ xor_at at diff w.pages → Did disk budget rest (compensate s l w number disk u) w (with_pages v after) (Some tip)
  unfolding compensate
  compensated_whole did kept {at} place after is =
      let next : Ran rest rest (xor_in at diff w.pages) v (with_pages v after) true = rw (is, ← kept) (ran_xor rest at diff v) in
      rw (← same, ← place) (record { ran = ran_then did.ran _ refl next; state = did.state })

-- the bits of its difference that are 1
pub counts_one : (u : Update) {ones : ℕ} → ones ≡ ones_over u.diff → ones ≡ ones_undone (u ∷ [])
unfolding ones_undone sum_over
counts_one u is = omega (arith, is)
