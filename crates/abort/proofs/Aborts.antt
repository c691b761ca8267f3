-- The call: its checks against its rows, and what they leave its work to rely on.
use Rattle.std.specs.Prelude.{None, Option, Result, Ok, Err}
use mathlib.Core.Path.{◌≡◌, refl, sym, ap, ◌∙◌}
use mathlib.Core.List.{[], ◌∷◌}
use mathlib.Core.Bool.{Bool, true, false, cond, not, ◌&&◌, ◌||◌}
use Prim.Native.Nat.{ℕ, ◌<◌}
use native.Mathlib.Omega.{arith}
use lib.Dec.{eqb}
use lib.ListN.{length}
use borrow.Author.Tests.{ne_eqb}
use Rattle.model.specs.declared.Core.{Core}
use Rattle.model.specs.declared.Carried.{Carried}
use Rattle.model.specs.declared.BadRecord.{BadRecord}
use Rattle.model.specs.Anchor.{anchor_words}
use Rattle.model.specs.World.{World}
use Rattle.model.specs.State.{place_of, is_open, disk_at_place}
use Rattle.model.specs.Refusal.{row, verdict, rejected}
use Rattle.model.specs.Causes.{when_serving, anchor_wrong, not_open, fault_row}
use Rattle.model.specs.Reads.{place_fits, scope_fits, sizes_fit, abort_fits}
use Rattle.model.specs.Transaction.{disk_of}
use Rattle.model.specs.Abort.{abort_fault, abort_rows}
use Rattle.model.specs.View.{own_work, core_of, body_of}
use Rattle.model.proofs.Store.AbortRows.{nothing_bad}
use Rattle.frame.specs.Lent.{lent_refusal}
use Rattle.frame.specs.Entry.{after_anchor, AfterAnchor}
use Rattle.frame.specs.Refusal.{number_of}
use Rattle.frame.specs.declared.refusal.Refusal.{Refusal}
use Rattle.frame.proofs.Refusals.{numbered, ok_same, err_same}
use Rattle.frame.proofs.FirstChecks.{Ready, lent_refused, lent_passed, lent_ready, own_ready}
use Rattle.frame.proofs.Fitting.{Placed, placed}
use Rattle.abort.specs.declared.scope.Scope.{Scope}
use Rattle.abort.specs.declared.scope.Target.{Target}
use Rattle.abort.specs.Scope.{scope_of, ReadOf, Read, Reached, Targeted}

-- rows 1, 2 and 9 by what is found of the transaction; of one that is not open no fault is found
by_found : (opened fits anchor : Bool) (fault : Option BadRecord) → (opened ≡ false → fault ≡ None) → (found : ℕ) → found ≡ cond opened (cond fits 0 1) 9
    → verdict (row 1 (not (not opened || fits)) ∷ row 2 (not anchor) ∷ fault_row fault ∷ row 9 (not opened) ∷ [])
    ≡ cond (eqb (cond (eqb found 1) 1 (cond anchor found 2)) 0) (verdict (fault_row fault ∷ row 9 (not opened) ∷ []))
    (rejected (cond (eqb found 1) 1 (cond anchor found 2)) 0 0)
unfolding verdict
by_found true true true fault shut found e = rw e refl
by_found true true false fault shut found e = rw e refl
by_found true false anchor fault shut found e = rw e refl
by_found false fits true fault shut found e = rw (e, shut refl) refl
by_found false fits false fault shut found e = rw e refl

module _ (h : Carried) (w : World) (number : ℕ) {r : ℕ}
    (answer : r ≡ lent_refusal (when_serving h.stage) h.pages h.disks h.ring h.total (length w.anchor) (length w.pages) (length w.backups) (length w.logs) (length w.work))
  where
    abbrev c : Core
    c = core_of h w.work

    pub abort_refused : (r ≡ 0 → ⊥) → verdict (abort_rows c (body_of w) number) ≡ rejected r 0 0
    unfolding abort_rows
    abort_refused some = lent_refused h w answer some (abort_fits number c) (fault_row (abort_fault c (body_of w) number) ∷ row 9 (not_open c number) ∷ [])

    module _ (none : r ≡ 0) {found : ℕ}
        (is : found ≡ cond (is_open c.table number) (cond (place_fits (place_of c.table number) c && scope_fits (place_of c.table number) c && sizes_fit c) 0 1) 9)
        {q : ℕ} (later : q ≡ after_anchor found (length w.anchor)) where
      by_rows : verdict (abort_rows c (body_of w) number)
          ≡ cond (eqb q 0) (verdict (fault_row (abort_fault c (body_of w) number) ∷ row 9 (not_open c number) ∷ [])) (rejected q 0 0)
      unfolding abort_rows abort_fits not_open anchor_wrong after_anchor
      by_rows =
          lent_passed h w answer none (abort_fits number c) (fault_row (abort_fault c (body_of w) number) ∷ row 9 (not_open c number) ∷ [])
          ∙ by_found (is_open c.table number) (place_fits (place_of c.table number) c && scope_fits (place_of c.table number) c && sizes_fit c)
          (eqb (length w.anchor) anchor_words) (abort_fault c (body_of w) number) (λ shut. nothing_bad c (body_of w) number (rw shut refl)) found is
          ∙ rw (← later) refl

      pub abort_row : (q ≡ 0 → ⊥) → verdict (abort_rows c (body_of w) number) ≡ rejected q 0 0
      abort_row some = by_rows ∙ rw (ne_eqb q 0 some) refl

      found_none : q ≡ 0 → found ≡ 0
      unfolding after_anchor
      found_none last = go (eqb found 1) (eqb (length w.anchor) anchor_words) (sym later ∙ last)
        where
          go : (a b : Bool) → ◌≡◌ {A = ℕ} (cond a 1 (cond b found 2)) 0 → found ≡ 0
          go true b z = absurd (omega (arith, z))
          go false true z = z
          go false false z = absurd (omega (arith, z))

      found_open : q ≡ 0 → is_open c.table number ≡ true
      found_open last =
          go (is_open c.table number) (place_fits (place_of c.table number) c && scope_fits (place_of c.table number) c && sizes_fit c) (sym is ∙ found_none last)
        where
          go : (a b : Bool) → ◌≡◌ {A = ℕ} (cond a (cond b 0 1) 9) 0 → a ≡ true
          go true b z = refl
          go false b z = absurd (omega (arith, z))

-- the first checks refuse
pub unreached : (h : Carried) (w : World) (number : ℕ) {x : Refusal}
    → number_of x ≡ lent_refusal (when_serving h.stage) h.pages h.disks h.ring h.total (length w.anchor) (length w.pages) (length w.backups) (length w.logs) (length w.work)
    → Targeted h w number (Err x)
unreached h w number {x} answer =
    record { refused = λ y is. rw (← err_same is) (abort_refused h w number answer (numbered x)); ready = λ t is. cc }

-- they do not: by what is found, and the anchor
pub reached : (h : Carried) (w : World) (number : ℕ)
    → 0 ≡ lent_refusal (when_serving h.stage) h.pages h.disks h.ring h.total (length w.anchor) (length w.pages) (length w.backups) (length w.logs) (length w.work)
    → {found : Result Target Refusal} → Read (core_of h w.work) number found
    → (r : Result Target Refusal) → AfterAnchor found (length w.anchor) r → Targeted h w number r
reached h w number lent read (Err x) after =
    record {
      refused = λ y is. rw (← err_same is) (abort_row h w number lent refl read.refusal after.row (numbered x));
      ready = λ t is. cc;
    }
reached h w number lent read (Ok t) after =
    record {
      refused = λ y is. cc;
      ready = λ u is.
          rw (← ok_same is)
          (record {
            lent = lent;
            read = read.ready t (after.same t refl);
            opened = found_open h w number lent refl read.refusal after.row refl;
            rows = by_rows h w number lent refl read.refusal after.row;
          });
    }

-- What is known of the transaction where rows 1, 2, 5 and 9 do not apply.
pub record Standing (h : Carried) (w : World) (number : ℕ) (t : Target) : Type 0 where
  pub ready : Ready h w
  pub own : own_work h w.work ≡ true
  pub read : ReadOf (core_of h w.work) number t
  pub opened : is_open (core_of h w.work).table number ≡ true
  pub placed : Placed h.disks t.entry.disk t.entry.tail t.entry.fill t.entry.reserved t.entry.sum
  pub low : t.scope.disk < 8
  pub rows : verdict (abort_rows (core_of h w.work) (body_of w) number)
      ≡ verdict (fault_row (abort_fault (core_of h w.work) (body_of w) number) ∷ row 9 (not_open (core_of h w.work) number) ∷ [])

-- the disk of the log that is read is the transaction's
pub scope_disk : {c : Core} {number : ℕ} {t : Target} → ReadOf c number t → t.scope.disk ≡ t.entry.disk
unfolding scope_of disk_of
scope_disk {c} {number} read =
    ap (λ (x : Scope). x.disk) read.scope ∙ sym (read.entry.disk ∙ ap (disk_at_place c.table) read.entry.place)

pub standing : (h : Carried) (w : World) (number : ℕ) {t : Target} → Reached h w number t → Standing h w number t
unfolding core_of
standing h w number at =
    let ready = lent_ready h w at.lent refl in
    let fits = placed at.read.entry.fits in
    record {
      ready = ready;
      own = own_ready h w ready;
      read = at.read;
      opened = at.opened;
      placed = fits;
      low = omega (arith, scope_disk at.read, fits.below, ready.counts.disks_max);
      rows = at.rows;
    }
