-- A loop over a log, by what is decoded at its position: the answer from there is the answer from the next position.
use Rattle.std.specs.Prelude.{None, Option}
use Prim.Native.Nat.{ℕ, suc, ◌+◌, ◌-◌, ◌≤◌, ◌<◌}
use mathlib.Core.Path.{◌≡◌, sym, ap, ◌∙◌}
use mathlib.Core.List.{List, []}
use native.Mathlib.Omega.{arith}
use borrow.Author.Tests.{eq-eqb, ne_eqb}
use Rattle.model.specs.declared.Sizes.{Sizes}
use Rattle.model.specs.declared.Decoded.{Decoded}
use Rattle.model.specs.declared.Decoded.TheVariants.{Change, Close, Malformed}
use Rattle.model.specs.declared.Fate.TheVariants.{Closed, Unclosed, Unreadable}
use Rattle.model.specs.declared.BadRecord.{BadRecord}
use Rattle.model.specs.Record.{bad_record}
use Rattle.model.specs.Decode.{read_log, decode_at}
use Rattle.model.specs.Scan.{Scan, scan, fate_in, fault_in}
use Rattle.model.specs.Causes.{tail_in, retained_from, fault_from}
use Rattle.model.proofs.Decode.{ChangeAt, CloseAt, found_change, found_close}
use Rattle.model.proofs.Scan.{scan_end, scan_change, scan_close, scan_bad}

module _ (s : Sizes) (read : ℕ → ℕ) (stop : ℕ) where
  -- what is known of a record r that was decoded at p
  module _ {p : ℕ} {r : Decoded} (is : r ≡ decode_at s read stop p) where
    pub got_change : {kind page slot number copy width next : ℕ} → r ≡ Change kind page slot number copy width next
        → ChangeAt s stop p kind page slot number width next
    got_change e = found_change s read stop (sym is ∙ e)

    pub got_close : {kind number next : ℕ} → r ≡ Close kind number next → CloseAt stop p kind number next
    got_close e = found_close s read stop (sym is ∙ e)

  -- the search ahead
  pub fate_end : (t p : ℕ) → stop ≤ p → Unclosed ≡ fate_in t (scan s read stop p)
  unfolding fate_in
  fate_end t p h = sym (ap (fate_in t) (scan_end s read stop p h))

  module _ {p : ℕ} {r : Decoded} (is : r ≡ decode_at s read stop p) (h : p < stop) (t : ℕ) where
    pub fate_change : {kind page slot number copy width next : ℕ} → r ≡ Change kind page slot number copy width next
        → fate_in t (scan s read stop next) ≡ fate_in t (scan s read stop p)
    unfolding fate_in
    fate_change e = sym (ap (fate_in t) (scan_change s read stop h (sym is ∙ e)))

    pub fate_other : {kind number next : ℕ} → r ≡ Close kind number next → (number ≡ t → ⊥)
        → fate_in t (scan s read stop next) ≡ fate_in t (scan s read stop p)
    unfolding fate_in
    fate_other {number} e ne = sym (ap (fate_in t) (scan_close s read stop h (sym is ∙ e)) ∙ simp (ne_eqb number t ne))

    pub fate_close : {kind number next : ℕ} → r ≡ Close kind number next → number ≡ t
        → Closed ≡ fate_in t (scan s read stop p)
    unfolding fate_in
    fate_close {number} e eq = sym (ap (fate_in t) (scan_close s read stop h (sym is ∙ e)) ∙ simp (eq-eqb number t eq))

    pub fate_bad : r ≡ Malformed → Unreadable p ≡ fate_in t (scan s read stop p)
    unfolding fate_in
    fate_bad e = sym (ap (fate_in t) (scan_bad s read stop h (sym is ∙ e)))

  -- the check of a disk
  pub fault_end : (disk p : ℕ) (rest : Option BadRecord) → stop ≤ p → fault_in disk (scan s read stop p) rest ≡ rest
  unfolding fault_in
  fault_end disk p rest h = ap (λ (x : Scan). fault_in disk x rest) (scan_end s read stop p h)

  module _ {p : ℕ} {r : Decoded} (is : r ≡ decode_at s read stop p) (h : p < stop) (disk : ℕ) (rest : Option BadRecord) where
    pub fault_change : {kind page slot number copy width next : ℕ} → r ≡ Change kind page slot number copy width next
        → fault_in disk (scan s read stop next) rest ≡ fault_in disk (scan s read stop p) rest
    unfolding fault_in
    fault_change e = sym (ap (λ (x : Scan). fault_in disk x rest) (scan_change s read stop h (sym is ∙ e)))

    pub fault_close : {kind number next : ℕ} → r ≡ Close kind number next
        → fault_in disk (scan s read stop next) rest ≡ fault_in disk (scan s read stop p) rest
    unfolding fault_in
    fault_close e = sym (ap (λ (x : Scan). fault_in disk x rest) (scan_close s read stop h (sym is ∙ e)))

    pub fault_bad : r ≡ Malformed → bad_record disk p ≡ fault_in disk (scan s read stop p) rest
    unfolding fault_in
    fault_bad e = sym (ap (λ (x : Scan). fault_in disk x rest) (scan_bad s read stop h (sym is ∙ e)))

-- the check of all disks, a disk at a time
module _ (s : Sizes) (start : ℕ → ℕ) (logs : List ℕ) where
  pub faults_step : (disks d : ℕ) → d < disks
      → fault_from s start logs (disks - d) d
      ≡ fault_in d (scan s (read_log s logs d (tail_in s logs d) []) (tail_in s logs d) (start d)) (fault_from s start logs (disks - (d + 1)) (d + 1))
  unfolding fault_from retained_from
  faults_step disks d h =
      let e : disks - d ≡ suc (disks - (d + 1)) = omega arith in
      ap (λ (n : ℕ). fault_from s start logs n d) e

  pub faults_done : (disks d : ℕ) → disks ≤ d → fault_from s start logs (disks - d) d ≡ None
  unfolding fault_from
  faults_done disks d h =
      let e : disks - d ≡ 0 = omega arith in
      ap (λ (n : ℕ). fault_from s start logs n d) e
