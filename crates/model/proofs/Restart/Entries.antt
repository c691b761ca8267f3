-- The records of a ledger as a log: their gain is the sum that the ledger's invariant speaks of.
use mathlib.Core.Path.{◌≡◌, refl, sym, ap, ◌∙◌}
use mathlib.Core.List.{List, [], ◌∷◌}
use mathlib.Core.Bool.{Bool, true, false, cond, not, ◌&&◌, ◌||◌, not-not}
use Prim.Native.Nat.{ℕ, ◌<◌}
use lib.Dec.{leb, ltb, eqb}
use borrow.Author.Tests.{leb-true, leb-false, lt-ltb, le-ltb, ne_eqb, eqb-false, eq-eqb}
use Rattle.model.specs.declared.Sizes.{Sizes}
use Rattle.model.specs.declared.Fate.TheVariants.{Closed, Unclosed}
use Rattle.model.specs.Word.{◌⊕◌}
use Rattle.model.specs.Sizes.{slot_base}
use Rattle.model.specs.Record.{change, close, in_backup}
use Rattle.model.specs.Scan.{item, fate_in}
use Rattle.model.specs.Restart.{replays}
use Rattle.model.proofs.Ledger.Entry.{Entry, is_close, record_of, mask, sum, some, All, adds, closed_in, chosen, pick, on_disk}
use Rattle.model.proofs.Ledger.Order.{entries_scan}
use Rattle.model.proofs.Ledger.Sums.{mask_zero}
use Rattle.model.proofs.Xor.{⊕-zero-l}
use Rattle.model.proofs.Restart.Gain.{gain}
use Rattle.model.proofs.Ledger.Ordered.{ClosesLast}
use Rattle.model.proofs.Restart.Words.{xor_below, xor_below_none, xor_below_less}

-- a change has the place of its slot
abbrev pub Placed : Sizes → Entry → Type 0
Placed s r = is_close r ≡ false → r.at ≡ slot_base s r.page r.slot

-- the test `closed` says of the transactions of `l` whether `whole` has their closing record
abbrev pub Agrees : (ℕ → Bool) → List Entry → List Entry → Type 0
Agrees closed whole l = All (λ r. closed r.number ≡ closed_in whole r.number) l

record_close : (r : Entry) → is_close r ≡ true → record_of r ≡ close r.kind r.number
unfolding record_of
record_close r e = rw e

record_change : (r : Entry) → is_close r ≡ false
    → record_of r ≡ change r.kind r.page r.slot r.number r.copy r.diff
unfolding record_of
record_change r e = rw e

closed_cons : (r : Entry) (l : List Entry) (t : ℕ) → closed_in (r ∷ l) t ≡ (is_close r && eqb r.number t || closed_in l t)
unfolding closed_in some
closed_cons r l t = refl

closed_change : (r : Entry) (l : List Entry) (t : ℕ) → is_close r ≡ false → closed_in (r ∷ l) t ≡ closed_in l t
closed_change r l t e = rw (closed_cons r l t, e)

closed_other : (r : Entry) (l : List Entry) (t : ℕ) → (t ≡ r.number → ⊥) → closed_in (r ∷ l) t ≡ closed_in l t
closed_other r l t ne = rw (closed_cons r l t, ne_eqb r.number t (λ e. ne (sym e))) (go (is_close r))
  where
    go : (b : Bool) → (b && false || closed_in l t) ≡ closed_in l t
    go true = refl
    go false = refl

-- the fate of a transaction in the log: closed just when the entries have its closing record
pub fate_entries : (t : ℕ) (l : List Entry) → fate_in t (entries_scan l) ≡ cond (closed_in l t) Closed Unclosed
unfolding entries_scan fate_in closed_in some
fate_entries t [] = refl
fate_entries t (r ∷ l) = go (is_close r) refl (fate_entries t l)
  where
    here : (b : Bool) → fate_in t (entries_scan l) ≡ cond (closed_in l t) Closed Unclosed
        → cond b Closed (fate_in t (entries_scan l)) ≡ cond (b || closed_in l t) Closed Unclosed
    here true e = refl
    here false e = e

    go : (b : Bool) → is_close r ≡ b → fate_in t (entries_scan l) ≡ cond (closed_in l t) Closed Unclosed
        → fate_in t (item r.position (record_of r) (entries_scan l)) ≡ cond (closed_in (r ∷ l) t) Closed Unclosed
    go true e rest = rw (record_close r e, closed_cons r l t, e) (here (eqb r.number t) rest)
    go false e rest = rw (record_change r e, closed_cons r l t, e) rest

-- restart's choice by a record's fate is the ledger's choice
in_backup_not : (c copy : ℕ) → in_backup c copy ≡ not (leb c copy)
unfolding in_backup
in_backup_not c copy = go (leb c copy) refl
  where
    go : (b : Bool) → leb c copy ≡ b → ltb copy c ≡ not b
    go true e = le-ltb copy c (leb-true c copy e)
    go false e = lt-ltb copy c (leb-false c copy e)

replays_choice : (c copy : ℕ) (b : Bool) → replays c (cond b Closed Unclosed) copy ≡ cond b (leb c copy) (not (leb c copy))
replays_choice c copy true = rw (in_backup_not c copy) (not-not (leb c copy))
replays_choice c copy false = in_backup_not c copy

-- what the test says of the later records' transactions does not hang on the first record
later : (closed : ℕ → Bool) (r : Entry) (l k : List Entry) → (is_close r ≡ true → All (λ e. eqb e.number r.number ≡ false) k)
    → Agrees closed (r ∷ l) k → Agrees closed l k
later closed r l [] last h = tt
later closed r l (e ∷ k) last h = (h.0 ∙ go (is_close r) refl, later closed r l k (λ c. (last c).1) h.1)
  where
    go : (b : Bool) → is_close r ≡ b → closed_in (r ∷ l) e.number ≡ closed_in l e.number
    go true c = closed_other r l e.number (eqb-false _ _ (last c).0)
    go false c = closed_change r l e.number c

-- what a record adds, by its kind
module _ (s : Sizes) (c : ℕ) (closed : ℕ → Bool) (x : ℕ) where
  gain_close : (r : Entry) (l : List Entry) → is_close r ≡ true
      → gain s c (entries_scan (r ∷ l)) x ≡ mask (chosen closed c r) (adds x r) ⊕ gain s c (entries_scan l) x
  unfolding entries_scan gain adds
  gain_close r l e =
      rw (record_close r e, e, mask_zero (chosen closed c r)) (sym (⊕-zero-l (gain s c (entries_scan l) x)))

  gain_change : (r : Entry) (l : List Entry) → is_close r ≡ false → Placed s r → closed r.number ≡ closed_in l r.number
      → gain s c (entries_scan (r ∷ l)) x ≡ mask (chosen closed c r) (adds x r) ⊕ gain s c (entries_scan l) x
  unfolding entries_scan gain adds chosen
  gain_change r l e at same =
      rw (record_change r e, e, at e, same, fate_entries r.number l, replays_choice c r.copy (closed_in l r.number))

  -- The gain of the entries of a log is the sum of what restart chooses of them.
  pub gain_entries : (l : List Entry) → All (Placed s) l → ClosesLast l → Agrees closed l l
      → gain s c (entries_scan l) x ≡ sum (λ r. mask (chosen closed c r) (adds x r)) l
  unfolding sum gain entries_scan
  gain_entries [] at last same = refl
  gain_entries (r ∷ l) at last same =
      go (is_close r) refl
      ∙ ap (λ (g : ℕ). mask (chosen closed c r) (adds x r) ⊕ g)
      (gain_entries l at.1 last.1 (later closed r l l last.0 same.1))
    where
      go : (b : Bool) → is_close r ≡ b
          → gain s c (entries_scan (r ∷ l)) x ≡ mask (chosen closed c r) (adds x r) ⊕ gain s c (entries_scan l) x
      go true e = gain_close r l e
      go false e = gain_change r l e at.0 (same.0 ∙ closed_change r l r.number e)

-- a sum over all entries, disk by disk
pub sum_by_disk : (f : Entry → ℕ) (n : ℕ) (l : List Entry) → All (λ r. r.disk < n) l
    → xor_below (λ d. sum f (pick (on_disk d) l)) n ≡ sum f l
unfolding sum pick on_disk
sum_by_disk f n [] h = xor_below_none (λ d. 0) n (λ i l. refl)
sum_by_disk f n (r ∷ l) h =
    xor_below_less (λ d. sum f (pick (on_disk d) (r ∷ l))) (λ d. sum f (pick (on_disk d) l)) n r.disk (f r) h.0
    (rw (eq-eqb r.disk r.disk refl)) (λ i ne. rw (ne_eqb r.disk i (λ e. ne (sym e))))
    ∙ ap (λ (v : ℕ). f r ⊕ v) (sum_by_disk f n l h.1)
