-- An entry of an open transaction put at the end of its disk's log, after a flush if need be: what holds then, and of a cut.
use mathlib.Core.Path.{◌≡◌, refl, sym, ap, subst, ◌∙◌}
use mathlib.Core.List.{List, [], ◌∷◌, ◌++◌, append_assoc}
use mathlib.Core.Bool.{true, false}
use Prim.Native.Nat.{ℕ, ◌+◌, ◌≤◌, ◌<◌}
use native.Mathlib.Omega.{arith}
use Rattle.model.specs.declared.Sizes.{Sizes}
use Rattle.model.specs.declared.Table.{Table}
use Rattle.model.specs.declared.Logs.{Logs}
use Rattle.model.specs.declared.Core.{Core}
use Rattle.model.specs.Word.{◌⊕◌}
use Rattle.model.specs.Sizes.{total, ring_of}
use Rattle.model.specs.Record.{encode}
use Rattle.model.specs.World.{World, Action, perform, stores, run}
use Rattle.model.specs.Memory.{copy_of}
use Rattle.model.specs.State.{limit, kept_of, end_of, with_log, is_open, place_of, first_at, has_update}
use Rattle.model.specs.Append.{Appended, append}
use Rattle.model.specs.Transaction.{disk_of}
use Rattle.model.specs.Reference.{Reference}
use Rattle.model.specs.History.{Put, records_on, Told}
use Rattle.model.proofs.Run.{perform_append, stores_append, run_cut}
use Rattle.model.proofs.Slots.{Shaped}
use Rattle.model.proofs.Ledger.Entry.{Entry, record_of, is_close, sum}
use Rattle.model.proofs.Ledger.State.{Same}
use Rattle.model.proofs.Ledger.Order.{size_of, on, boundary}
use Rattle.model.proofs.Ledger.Sums.{all_map}
use Rattle.model.proofs.Ledger.Picks.{some_append}
use Rattle.model.proofs.Ledger.Word.{sum_snoc}
use Rattle.model.proofs.Ledger.Good.{Good, good_same}
use Rattle.model.proofs.Link.Words.{Fit, log_end}
use Rattle.model.proofs.Link.Buffered.{InBuffer}
use Rattle.model.proofs.Link.Append.{entry_longer, append_in_buffer}
use Rattle.model.proofs.Store.View.{Kept, view, Safe, Accounts, Copies, Since, Serving, before, open_used}
use Rattle.model.proofs.Store.Ready.{Ready, ready, ready_sums}
use Rattle.model.proofs.Store.LogEnd.{boundary_to}
use Rattle.model.proofs.Store.Logged.{Written, logged, logged_stores, safe_written, copies_written, MayLog}
use Rattle.model.proofs.Growth.{Small, Longer}
use Rattle.model.proofs.Store.OneMore.{told_more, boundary_logged, since_still}
use Rattle.model.proofs.Store.Entered.{accounts_logged}

-- The entry is of an open transaction, on its disk and at the end there, and the log has room for it.
pub record MayPut (c : Core) (e : Entry) : Type 0 where
  pub opened : is_open c.table e.number ≡ true
  pub there : e.disk ≡ disk_of c e.number
  pub below : e.disk < c.sizes.disks
  pub small : Small c.sizes c.logs
  pub short : size_of e ≤ 64
  pub at_end : e.position ≡ end_of c.logs e.disk
  pub in_ring : end_of c.logs e.disk + size_of e ≤ kept_of c.logs e.disk + ring_of c.sizes e.disk
  pub in_limit : end_of c.logs e.disk + size_of e ≤ limit
  pub fit : Fit c.sizes e

module _ {x : ℕ} {home : ℕ → ℕ} {puts : Told} {c : Core} {w : World} {r : Reference} {F B : List Entry} (g : Serving x home puts c w r F B)
    (e : Entry) (may : MayPut c e) where
  abbrev s : Sizes
  s = c.sizes

  abbrev pub put : Appended
  put = append c.sizes c.logs w.work e.disk (encode (record_of e))

  pub put_longer : Longer c.sizes e.disk (size_of e) c.logs put.logs
  put_longer = entry_longer w g.safe.devices.arrays may.small e.disk may.below e may.short

  pub put_in_buffer : InBuffer c.sizes e.disk w (perform put.actions w)
  put_in_buffer = append_in_buffer w g.safe.devices.arrays may.small e.disk may.below e may.short

  -- The store with room in the buffer: its entries are those of F and B.
  pub made : Ready x home puts c w r e.disk (size_of e)
  made = ready g e.disk (size_of e) may.below may.small may.short

  abbrev pub F1 : List Entry
  F1 = made.flushed

  abbrev pub B1 : List Entry
  B1 = made.buffered

  pub made_sums : (f : Entry → ℕ) → sum f (F1 ++ B1) ≡ sum f (F ++ B)
  unfolding made
  made_sums f = ready_sums g e.disk (size_of e) may.below may.small may.short f

  pub put_sums : (f : Entry → ℕ) → sum f (F1 ++ (B1 ++ e ∷ [])) ≡ sum f (F ++ B) ⊕ f e
  put_sums f = sum_snoc f F1 B1 e ∙ ap (λ (y : ℕ). y ⊕ f e) (made_sums f)

  abbrev c1 : Core
  c1 = with_log c made.logs c.table

  abbrev w1 : World
  w1 = perform made.flushing w

  serving1 : Serving x home puts c1 w1 r F1 B1
  serving1 = made.serving

  -- the ledger before the entry
  pub made_good : Good x (total c.sizes) (view c w r F1 B1)
  unfolding view with_log copy_of
  made_good = good_same same serving1.safe.good
    where
      same : Same (total s) (view c1 w1 r F1 B1) (view c w r F1 B1)
      same =
          record {
            epoch = refl;
            next = refl;
            pages = λ i h. rw made.only.pages_same;
            current = λ i h. rw made.only.backups_same;
            other = λ i h. rw made.only.backups_same;
            copies = λ i h. rw made.only.work_same;
            owners = λ i h. rw made.only.work_same;
            committed = λ i h. refl;
            writes = λ u h. refl;
            opened = λ u. refl;
            flushed = refl;
            buffered = refl;
          }

  -- and the table against its entries
  pub made_accounts : Accounts x home c F1 B1
  unfolding with_log disk_of
  made_accounts =
      let a = serving1.accounts in
      record {
        tabled = a.tabled;
        homes = a.homes;
        own = λ t o. all_map (λ q h n. record { has = (h n).has; first = (h n).first; kind = (h n).kind }) (F1 ++ B1) (a.own t o);
        firsts = λ t o h. rw made.kept at (a.firsts t o h);
        disks = a.disks;
        started = a.started;
        reserved = a.reserved;
        closed_or_open = a.closed_or_open;
        numbered = a.numbered;
      }

  -- Put there, the entry is logged with room.
  may1 : MayLog home c1 F1 B1 e
  unfolding with_log view
  may1 =
      record {
        below = may.below;
        here = may.there ∙ sym (g.accounts.homes e.number may.opened);
        small = made.small;
        room = made.room;
        at_end = may.at_end ∙ sym made.ends;
        unclosed = made_good.unclosed e.number may.opened;
        fit = may.fit;
        in_ring = rw (made.ends, made.kept) may.in_ring;
        in_limit = rw made.ends may.in_limit;
      }

  abbrev added : Appended
  added = logged serving1.safe e may1

  put_parts : put ≡ record { actions = made.flushing ++ added.actions; logs = added.logs }
  unfolding with_log size_of
  put_parts = made.split (encode (record_of e)) refl

  put_logs : put.logs ≡ added.logs
  put_logs = ap (λ (a : Appended). a.logs) put_parts

  put_world : perform put.actions w ≡ perform added.actions w1
  put_world = ap (λ (a : Appended). perform a.actions w) put_parts ∙ perform_append made.flushing added.actions w

  -- cut, it is the flush cut; what comes after it in the memories is not reached
  pub put_cut : (rest : List Action) → stores rest ≡ 0 → (k : ℕ) → k < stores (put.actions ++ rest) → Kept puts (run k (put.actions ++ rest) w) r
  put_cut rest none k h = rw put_parts (go (rw put_parts at h))
    where
      go : k < stores ((made.flushing ++ added.actions) ++ rest) → Kept puts (run k ((made.flushing ++ added.actions) ++ rest) w) r
      go l =
          let whole = stores_append made.flushing added.actions in
          let less : k < stores made.flushing =
          omega (
            arith,
            stores_append (made.flushing ++ added.actions) rest,
            logged_stores serving1.safe e may1,
          ) in
          rw (run_cut k (made.flushing ++ added.actions) rest w (omega arith), run_cut k made.flushing added.actions w less) (made.cut k less)

  -- what is told of the logs, with the entry's record
  pub put_told : (p : Put) → p.disk ≡ e.disk → p.content ≡ record_of e → (k : ℕ) → k < c.sizes.disks
      → Since (puts.base k) (kept_of put.logs k) (puts.starts k) c.next (is_open c.table) (records_on k (puts.puts ++ p ∷ [])) (on k F1 ++ on k (B1 ++ e ∷ []))
  unfolding with_log
  put_told p disk content k h =
      since_still (put_longer.kept_same k ∙ sym (made.kept k)) (λ t y. y) (told_more puts.puts F1 B1 e p disk content k (serving1.told k h))

  -- Memory words written after it.
  module _ {u : World} (k : Written c.sizes (perform put.actions w) u) where
    written1 : Written c1.sizes (perform added.actions w1) u
    unfolding with_log
    written1 = rw put_world at k

    pub put_safe : (y : ℕ) (t : Table) (q : Reference) → q.sizes ≡ c.sizes → Shaped c.sizes q.committed
        → Good y (total c.sizes) (view (with_log c put.logs t) u q F1 (B1 ++ e ∷ []))
        → Safe y home (with_log c put.logs t) u q F1 (B1 ++ e ∷ [])
    unfolding with_log view
    put_safe y t q sizes shaped good =
        subst (λ (l : Logs). Safe y home (with_log c l t) u q F1 (B1 ++ e ∷ [])) (sym put_logs)
        (safe_written serving1.safe e may1 written1 y t q sizes shaped
        (subst (λ (l : Logs). Good y (total c.sizes) (view (with_log c l t) u q F1 (B1 ++ e ∷ []))) put_logs good))

    pub put_copies : ((p : ℕ) → p < c.sizes.pages → copy_of c.sizes u.work p ≡ copy_of c.sizes (perform put.actions w).work p)
        → (is_close e ≡ false → e.copy ≤ c.epoch + 1) → (before c e ≡ true → is_close e ≡ false → e.copy ≤ c.epoch)
        → (t : Table) → Copies (with_log c put.logs t) u F1 (B1 ++ e ∷ [])
    unfolding with_log before
    put_copies same capped early t =
        rw put_logs
        (copies_written serving1.safe e may1 written1 serving1.copies (rw put_world at same) capped early t)

  -- An entry of transaction x more, where the table knows of an earlier one.
  pub put_own : has_update c.table (place_of c.table e.number) ≡ true → e.number ≡ x
      → Accounts x home (with_log c put.logs c.table) F1 (B1 ++ e ∷ [])
  unfolding with_log disk_of
  put_own has exempt =
      rw put_logs
      (accounts_logged serving1.safe e may1 serving1.accounts c.table
      (record {
        tabled = g.accounts.tabled;
        opened = λ v. refl;
        disks = λ v o. refl;
        others = λ v o ne. (refl, refl, refl);
        has = has;
        first =
            omega (
              arith,
              may1.at_end,
              log_end serving1.safe.link e.disk may1.below,
              boundary_to first (kept_of made.logs e.disk) (on e.disk F1 ++ on e.disk B1) edge,
            );
        firsts = all_map (λ q h n. (h n).first) (F1 ++ B1) (serving1.accounts.own e.number may.opened);
        at = boundary_logged first (kept_of made.logs e.disk) e.disk F1 B1 e edge;
        started =
            rw (← append_assoc F1 B1 (e ∷ []), some_append _ (F1 ++ B1) (e ∷ []), serving1.accounts.started e.number may.opened has);
        reserved = λ ne. absurd (ne exempt);
        kind = λ ne. absurd (ne exempt);
        open? = may.opened;
      })
      (open_used g.safe e.number may.opened).1)
    where
      first : ℕ
      first = first_at c.table (place_of c.table e.number)

      edge : boundary first (kept_of made.logs e.disk) (on e.disk F1 ++ on e.disk B1) ≡ true
      edge =
          subst (λ (d : ℕ). boundary first (kept_of made.logs d) (on d F1 ++ on d B1) ≡ true) (sym may.there)
          (serving1.accounts.firsts e.number may.opened has)
