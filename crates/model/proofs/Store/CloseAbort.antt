-- The closing record of an abort: once the transaction's entries cancel, the transaction and its write set go.
use mathlib.Core.Path.{◌≡◌, refl, sym, ap, ◌∙◌}
use mathlib.Core.List.{List, [], ◌∷◌, ◌++◌, map, append_assoc, append-nil}
use mathlib.Core.Bool.{Bool, true, ◌||◌}
use Prim.Native.Nat.{ℕ, ◌+◌, ◌≤◌, ◌<◌}
use native.Mathlib.Omega.{arith}
use lib.Dec.{eqb}
use Rattle.model.specs.declared.Sizes.{Sizes}
use Rattle.model.specs.declared.Core.{Core}
use Rattle.model.specs.Sizes.{total, ring_of}
use Rattle.model.specs.Record.{close, encode, abort_kind}
use Rattle.model.specs.World.{World, perform, stores, run}
use Rattle.model.specs.State.{limit, kept_of, end_of, with_log, is_open, without}
use Rattle.model.specs.Append.{Appended, append}
use Rattle.model.specs.Transaction.{disk_of}
use Rattle.model.specs.Reference.{Reference, removed, with_sets}
use Rattle.model.specs.History.{Told, also}
use Rattle.model.proofs.Geometry.{slot_start, page_of}
use Rattle.model.proofs.Slots.{patch_of}
use Rattle.model.proofs.WriteSets.{writes_removed_other}
use Rattle.model.proofs.Places.{close_open}
use Rattle.model.proofs.Ledger.Entry.{Entry, record_of, is_close, closed_in}
use Rattle.model.proofs.Ledger.State.{aborted_by, Same}
use Rattle.model.proofs.Ledger.Order.{size_of}
use Rattle.model.proofs.Ledger.Picks.{closed_append}
use Rattle.model.proofs.Ledger.Word.{of_txn, except_open}
use Rattle.model.proofs.Ledger.Good.{Good, good_same}
use Rattle.model.proofs.Ledger.Close.{abort_good, closes_one}
use Rattle.model.proofs.Link.Buffered.{InBuffer, owners_same, copies_same}
use Rattle.model.proofs.Store.View.{Kept, view, Accounts, Serving, Served, open_used}
use Rattle.model.proofs.Store.Logged.{none_written}
use Rattle.model.proofs.Store.Closed.{sets_closed, owners_closed, accounts_closed, found_more, was_open}
use Rattle.model.proofs.Store.Put.{MayPut, put_longer, put_in_buffer, F1, B1, made_sums, made_good, made_accounts, put_safe, put_copies, put_told, put_cut}
use Rattle.model.proofs.Growth.{Small}
use Rattle.model.proofs.Booleans.{true_false}
use Rattle.model.proofs.Store.OneMore.{all_more, boundary_logged, since_still}
use Rattle.model.proofs.Store.ClosingEntry.{closing_entry, closing_size, closing_closes, closing_fit}
use Rattle.model.proofs.Store.WordsFor.{words_for_other}

module _ {t : ℕ} {home : ℕ → ℕ} {puts : Told} {c : Core} {w : World} {r : Reference} {F B : List Entry} (g : Serving t home puts c w r F B)
    (opened : is_open c.table t ≡ true) (below : disk_of c t < c.sizes.disks) (small : Small c.sizes c.logs)
    (room : end_of c.logs (disk_of c t) + 2 ≤ kept_of c.logs (disk_of c t) + ring_of c.sizes (disk_of c t))
    (in_limit : end_of c.logs (disk_of c t) + 2 ≤ limit)
    (cancels : (i : ℕ) → of_txn i t (F ++ B) ≡ 0) where
  abbrev s : Sizes
  s = c.sizes

  abbrev d : ℕ
  d = disk_of c t

  abbrev e : Entry
  e = closing_entry abort_kind d (end_of c.logs d) t

  closes : is_close e ≡ true
  closes = closing_closes abort_kind d (end_of c.logs d) t refl

  size : size_of e ≡ 2
  size = closing_size abort_kind d (end_of c.logs d) t refl

  may : MayPut c e
  may =
      record {
        opened = opened;
        there = refl;
        below = below;
        small = small;
        short = omega (arith, size);
        at_end = refl;
        in_ring = rw size room;
        in_limit = rw size in_limit;
        fit = closing_fit abort_kind d (end_of c.logs d) t refl s (omega arith) (open_used g.safe t opened).0;
      }

  abbrev pub closing : Appended
  closing = append c.sizes c.logs w.work (disk_of c t) (encode (close abort_kind t))

  abbrev w1 : World
  w1 = perform closing.actions w

  abbrev F' : List Entry
  F' = F1 g e may

  abbrev B' : List Entry
  B' = B1 g e may ++ e ∷ []

  -- the store after it
  abbrev core : Core
  core = with_log c closing.logs (without c.table t)

  abbrev reference : Reference
  reference = with_sets r (removed t r.write_sets)

  buffer : InBuffer s d w w1
  unfolding record_of is_close
  buffer = put_in_buffer g e may

  same : Same (total s) (aborted_by (view c w r F' (B1 g e may)) e) (view core w1 reference F' B')
  unfolding view aborted_by with_log
  same =
      record {
        epoch = refl;
        next = refl;
        pages = λ i h. rw buffer.pages_same;
        current = λ i h. rw buffer.backups_same;
        other = λ i h. rw buffer.backups_same;
        copies = λ i h. sym (copies_same buffer (page_of s i) below);
        owners = λ i h. sym (owners_same buffer (slot_start s i) below);
        committed = λ i h. refl;
        writes =
            λ u o. ap (map (patch_of s)) (sym (writes_removed_other t r.write_sets u (except_open (is_open c.table) t u o).1));
        opened = λ u. sym (close_open c.table g.accounts.tabled t opened u);
        flushed = refl;
        buffered = refl;
      }

  good : Good 0 (total s) (view core w1 reference F' B')
  unfolding view
  good = good_same same (abort_good e (made_good g e may) opened closes (λ i h. made_sums g e may _ ∙ cancels i))

  -- the log closes what it closed before, and the transaction
  closed_now : (u : ℕ) → closed_in (F' ++ B') u ≡ (closed_in (F' ++ B1 g e may) u || eqb t u)
  closed_now u =
      ap (λ (l : List Entry). closed_in l u) (sym (append_assoc F' (B1 g e may) (e ∷ []))) ∙ closed_append (F' ++ B1 g e may) (e ∷ []) u
      ∙ ap (λ (b : Bool). closed_in (F' ++ B1 g e may) u || b) (closes_one e closes u)

  accounts : Accounts 0 home core F' B'
  unfolding record_of is_close
  accounts =
      accounts_closed (made_accounts g e may) e F' B' opened closes (λ u ne o. ne) (λ P h p. all_more P F' (B1 g e may) e h p) closed_now
      (λ q p k h. boundary_logged q p k F' (B1 g e may) e h) closing.logs (put_longer g e may).kept_same
      (open_used g.safe t opened).1 (found_more F' (B1 g e may) e) (words_for_other F' (B1 g e may) e)

  pub closed : Served (also puts (record { disk = disk_of c t; content = close abort_kind t } ∷ [])) (with_log c closing.logs (without c.table t)) (perform closing.actions w) (with_sets r (removed t r.write_sets))
  unfolding with_log record_of is_close
  closed =
      record {
        home = home;
        flushed = F';
        buffered = B';
        serving =
            record {
              stage = g.stage;
              safe = put_safe g e may (none_written s w1) 0 (without c.table t) reference g.safe.sizes g.safe.shaped good;
              accounts = accounts;
              copies = put_copies g e may (none_written s w1) (λ p h. refl) (λ h. true_false closes h) (λ h k. true_false closes k) (without c.table t);
              sets = sets_closed g.accounts.tabled t opened g.sets closing.logs reference refl;
              owners =
                  owners_closed g.accounts.tabled t opened g.safe.devices.bounds g.owners (λ i h. owners_same buffer i below) closing.logs
                  reference refl;
              told = λ k h.
                  since_still refl (λ u y l. (was_open c.table g.accounts.tabled t opened u (y l)).0)
                  (put_told g e may (record { disk = d; content = close abort_kind t }) refl refl k h);
              marks = g.marks;
            };
      }

  -- cut, it is the flush before it cut
  pub closing_cut : (k : ℕ) → k < stores closing.actions → Kept puts (run k closing.actions w) r
  unfolding stores record_of is_close
  closing_cut k h = rw append-nil at (put_cut g e may [] refl k (rw append-nil h))
