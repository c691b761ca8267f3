-- The flush of a disk: its buffered records move to the log, and no word changes.
use mathlib.Core.Path.{◌≡◌, refl, sym, ap, ◌∙◌}
use mathlib.Core.List.{List, ◌++◌}
use mathlib.Core.Bool.{Bool, true, false, not, ◌&&◌}
use Prim.Native.Nat.{ℕ}
use lib.Dec.{eqb}
use borrow.Author.Tests.{not-true, eqb-true}
use Rattle.model.specs.Word.{◌⊕◌}
use Rattle.model.proofs.Xor.{⊕-assoc}
use Rattle.model.proofs.Ledger.Entry.{sum, All, pick, Entry, is_close, closed_in, on_disk}
use Rattle.model.proofs.Ledger.State.{Ledger, flushed_disk}
use Rattle.model.proofs.Ledger.Sums.{sum_append, all_zip, all_right}
use Rattle.model.proofs.Ledger.Picks.{sum_pick, all_pick, pick_all, closed_append, closed_pick, some_none}
use Rattle.model.proofs.Ledger.Word.{flush_keeps}
use Rattle.model.proofs.Ledger.WriteSets.{write_sets_same}
use Rattle.model.proofs.Ledger.Good.{Good}
use Rattle.model.proofs.Booleans.{true_false, or_none}

-- closed in neither part
pub neither : (l m : List Entry) (u : ℕ) → closed_in (l ++ m) u ≡ false → (closed_in l u ≡ false) × (closed_in m u ≡ false)
neither l m u h = or_none (closed_in l u) (closed_in m u) (sym (closed_append l m u) ∙ h)

-- where each transaction has its records on one disk
module _ (home : ℕ → ℕ) (B : List Entry) (homed : All (λ r. r.disk ≡ home r.number) B) (d : ℕ) where
  -- what is flushed closes no transaction of another disk
  pub elsewhere : (u : ℕ) → eqb (home u) d ≡ false → closed_in (pick (on_disk d) B) u ≡ false
  unfolding closed_in on_disk
  elsewhere u h = some_none (λ r. is_close r && eqb r.number u) (pick (on_disk d) B) (all_zip none (pick (on_disk d) B) (pick_all (on_disk d) B) (all_pick _ (on_disk d) B homed))
    where
      none : (r : Entry) → eqb r.disk d ≡ true → r.disk ≡ home r.number → is_close r && eqb r.number u ≡ false
      none r y z = go (is_close r) (eqb r.number u) refl
        where
          go : (p q : Bool) → eqb r.number u ≡ q → p && q ≡ false
          go true true e = true_false (rw (z, eqb-true r.number u e) at y) h
          go true false e = refl
          go false q e = refl

  -- what stays is of other disks' transactions
  pub stays : All (λ r. eqb (home r.number) d ≡ false) (pick (λ r. not (on_disk d r)) B)
  unfolding on_disk
  stays = all_zip other (pick (λ r. not (on_disk d r)) B) (pick_all (λ r. not (on_disk d r)) B) (all_pick _ (λ r. not (on_disk d r)) B homed)
    where
      other : (r : Entry) → not (eqb r.disk d) ≡ true → r.disk ≡ home r.number → eqb (home r.number) d ≡ false
      other r y z = rw z at (not-true (eqb r.disk d) y)

module _ {x size : ℕ} {a : Ledger} (home : ℕ → ℕ) (homed : All (λ r. r.disk ≡ home r.number) (a.flushed ++ a.buffered)) (g : Good x size a) (d : ℕ) where
  moved : List Entry
  moved = pick (on_disk d) a.buffered

  stay : List Entry
  stay = pick (λ r. not (on_disk d r)) a.buffered

  flush_sums : (f : Entry → ℕ) → sum f ((a.flushed ++ moved) ++ stay) ≡ sum f (a.flushed ++ a.buffered)
  unfolding moved stay
  flush_sums f =
      sum_append f (a.flushed ++ moved) stay ∙ ap (λ (y : ℕ). y ⊕ sum f stay) (sum_append f a.flushed moved)
      ∙ ⊕-assoc (sum f a.flushed) (sum f moved) (sum f stay)
      ∙ ap (λ (y : ℕ). sum f a.flushed ⊕ y) (sum_pick (on_disk d) f a.buffered) ∙ sym (sum_append f a.flushed a.buffered)

  apart : (r : Entry) → eqb (home r.number) d ≡ false → closed_in a.flushed r.number ≡ false → closed_in (a.flushed ++ moved) r.number ≡ false
  unfolding moved
  apart r y z =
      closed_append a.flushed moved r.number
      ∙ rw (z, elsewhere home a.buffered (all_right _ a.flushed a.buffered homed) d r.number y)

  -- what is closed in neither part is closed in neither afterwards
  both : (u : ℕ) → closed_in (a.flushed ++ a.buffered) u ≡ false → (closed_in (a.flushed ++ moved) u ≡ false) × (closed_in ((a.flushed ++ moved) ++ stay) u ≡ false)
  unfolding moved stay
  both u h =
      let n : (closed_in a.flushed u ≡ false) × (closed_in a.buffered u ≡ false) = neither a.flushed a.buffered u h in
      let m : closed_in (a.flushed ++ moved) u ≡ false = closed_append a.flushed moved u ∙ rw (n.0, closed_pick (on_disk d) a.buffered u n.1) in
      (m, closed_append (a.flushed ++ moved) stay u ∙ rw (m, closed_pick (λ r. not (on_disk d r)) a.buffered u n.1))

  pub flush_good : Good x size (flushed_disk a d)
  unfolding flushed_disk moved stay
  flush_good = record {
    words = λ w i.
        flush_keeps w a.epoch (a.current w) (a.pages w) (a.committed w) (a.committed w) a.flushed a.buffered (a.flushed ++ moved) stay a.opened a.opened
        (g.words w i) flush_sums
        (all_pick _ (λ r. not (on_disk d r)) a.buffered (g.words w i).late)
        (all_zip apart stay (stays home a.buffered (all_right _ a.flushed a.buffered homed) d) (all_pick _ (λ r. not (on_disk d r)) a.buffered (g.words w i).apart))
        (λ u o. (both u (g.unclosed u o)).0)
        (λ u h. (neither a.flushed moved u h).0)
        (λ u h o. o) (g.words w i).book;
    write_sets_lem = λ w i. write_sets_same x w (a.committed w) (a.flushed ++ a.buffered) ((a.flushed ++ moved) ++ stay) a.opened a.writes a.writes (a.owners w)
        (λ u n o. flush_sums _) (λ u o. refl) (g.write_sets_lem w i);
    copied = λ w i h. record { page = (g.copied w i h).page ∙ ap (λ (y : ℕ). a.other w ⊕ y) (sym (flush_sums _)) };
    numbers = g.numbers;
    unclosed = λ u o. (both u (g.unclosed u o)).1;
    unused = λ u h. ((both u (g.unused u h).0).1, (g.unused u h).1);
    unlogged = λ w u i h. flush_sums _ ∙ g.unlogged w u i h;
    older = λ w i h. flush_sums _ ∙ g.older w i h;
    bounded = λ w n i h. flush_sums _ ∙ g.bounded w n i h;
    nobody = g.nobody;
    counting = g.counting;
  }
