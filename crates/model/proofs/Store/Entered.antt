-- The table of transactions against the log, with one entry more of an open transaction.
use mathlib.Core.Path.{◌≡◌, refl, sym, ◌∙◌}
use mathlib.Core.List.{List, [], ◌∷◌, ◌++◌, append_assoc}
use mathlib.Core.Bool.{true, ◌&&◌}
use Prim.Native.Nat.{ℕ, ◌+◌, ◌≤◌, ◌<◌}
use native.Mathlib.Nat.{add-zero}
use native.Mathlib.Decide.{ℕ_discrete}
use lib.Dec.{eqb}
use borrow.Author.Tests.{eq-eqb, ne_eqb}
use Rattle.model.specs.declared.Logs.{Logs}
use Rattle.model.specs.declared.Table.{Table}
use Rattle.model.specs.declared.Core.{Core}
use Rattle.model.specs.World.{World}
use Rattle.model.specs.State.{kept_of, with_log, place_of, is_open, first_at, reserved_at, has_update, disk_at_place}
use Rattle.model.specs.Transaction.{disk_of}
use Rattle.model.specs.Reference.{Reference}
use Rattle.model.proofs.Places.{Tabled}
use Rattle.model.proofs.Ledger.Entry.{Entry, some, All, closed_in}
use Rattle.model.proofs.Ledger.Order.{size_of, on, boundary}
use Rattle.model.proofs.Ledger.Sums.{all_map, all_zip}
use Rattle.model.proofs.Ledger.Picks.{some_append, closed_append}
use Rattle.model.proofs.Store.View.{Safe, Own, words_for, Accounts}
use Rattle.model.proofs.Booleans.{true_false}
use Rattle.model.proofs.Store.OneMore.{all_more, boundary_logged}
use Rattle.model.proofs.Store.Logged.{MayLog, logged, longer}
use Rattle.model.proofs.Store.WordsFor.{words_for_more}

module _ {x : ℕ} {home : ℕ → ℕ} {c : Core} {w : World} {r : Reference} {F B : List Entry} (g : Safe x home c w r F B) (e : Entry)
    (may : MayLog home c F B e) where
  abbrev logs : Logs
  logs = (logged g e may).logs

  kept_same : (d : ℕ) → kept_of logs d ≡ kept_of c.logs d
  kept_same = (longer g e may).kept_same

  -- The table with one entry more of an open transaction: others stand as they did, its own first record is no later.
  pub record Entered (t : Table) : Type 0 where
    pub tabled : Tabled t
    pub opened : (u : ℕ) → is_open t u ≡ is_open c.table u
    pub disks : (u : ℕ) → is_open c.table u ≡ true → disk_at_place t (place_of t u) ≡ disk_of c u
    pub others : (u : ℕ) → is_open c.table u ≡ true → (u ≡ e.number → ⊥)
        → (has_update t (place_of t u) ≡ has_update c.table (place_of c.table u))
        × (first_at t (place_of t u) ≡ first_at c.table (place_of c.table u))
        × (reserved_at t (place_of t u) ≡ reserved_at c.table (place_of c.table u))
    pub has : has_update t (place_of t e.number) ≡ true
    pub first : first_at t (place_of t e.number) ≤ e.position
    pub firsts : All (λ q. q.number ≡ e.number → first_at t (place_of t e.number) ≤ q.position) (F ++ B)
    pub at : boundary (first_at t (place_of t e.number)) (kept_of c.logs e.disk) (on e.disk F ++ on e.disk (B ++ e ∷ [])) ≡ true
    pub started : some (λ q. eqb q.number e.number && eqb q.position (first_at t (place_of t e.number))) (F ++ (B ++ e ∷ [])) ≡ true
    pub reserved : (e.number ≡ x → ⊥) → reserved_at t (place_of t e.number) ≡ 2 + (words_for e.number (F ++ B) + size_of e)
    pub kind : (e.number ≡ x → ⊥) → e.kind ≡ 0
    pub open? : is_open c.table e.number ≡ true

  pub accounts_logged : Accounts x home c F B → (t : Table) → Entered t → e.number < c.next
      → Accounts x home (with_log c (logs) t) F (B ++ e ∷ [])
  unfolding with_log disk_of
  accounts_logged a t k less =
      record {
        tabled = k.tabled;
        homes = λ u o. a.homes u (was u o) ∙ sym (k.disks u (was u o));
        own = λ u o. all_more _ F B e (old u (was u o) (ℕ_discrete u e.number)) (new u);
        firsts = λ u o h. at u (was u o) h (ℕ_discrete u e.number);
        disks = λ u o. rw (k.disks u (was u o)) (a.disks u (was u o));
        started = λ u o h. begun u (was u o) h (ℕ_discrete u e.number);
        reserved = λ u o n. kept u (was u o) n (ℕ_discrete u e.number);
        closed_or_open = all_more _ F B e (all_map (λ q h o. more q (h (sym (k.opened q.number) ∙ o))) (F ++ B) a.closed_or_open) (λ o. true_false k.open? (sym (k.opened e.number) ∙ o));
        numbered = all_more _ F B e a.numbered less;
      }
    where
      was : (u : ℕ) → is_open t u ≡ true → is_open c.table u ≡ true
      was u o = sym (k.opened u) ∙ o

      more : (q : Entry) → closed_in (F ++ B) q.number ≡ true → closed_in (F ++ (B ++ e ∷ [])) q.number ≡ true
      more q h = rw (← append_assoc F B (e ∷ []), closed_append (F ++ B) (e ∷ []) q.number, h)

      old : (u : ℕ) → is_open c.table u ≡ true → Dec (u ≡ e.number) → All (λ q. q.number ≡ u → Own x (with_log c (logs) t) u q) (F ++ B)
      old u o (yes same) =
          rw same
          (all_zip (λ q h f n. record { has = k.has; first = f n; kind = (h n).kind }) (F ++ B) (a.own e.number k.open?) k.firsts)
      old u o (no ne) =
          all_map (λ q h n. record { has = (k.others u o ne).0 ∙ (h n).has; first = rw (k.others u o ne).1 (h n).first; kind = (h n).kind })
          (F ++ B) (a.own u o)

      new : (u : ℕ) → e.number ≡ u → Own x (with_log c (logs) t) u e
      new u same = rw (← same) (record { has = k.has; first = k.first; kind = k.kind })

      there : disk_at_place t (place_of t e.number) ≡ e.disk
      there = k.disks e.number k.open? ∙ sym (a.homes e.number k.open?) ∙ sym may.here

      at : (u : ℕ) → is_open c.table u ≡ true → has_update t (place_of t u) ≡ true → Dec (u ≡ e.number)
          → boundary (first_at t (place_of t u)) (kept_of (logs) (disk_at_place t (place_of t u)))
          (on (disk_at_place t (place_of t u)) F ++ on (disk_at_place t (place_of t u)) (B ++ e ∷ [])) ≡ true
      at u o h (yes same) = rw (same, there, kept_same) k.at
      at u o h (no ne) =
          rw ((k.others u o ne).1, k.disks u o, kept_same)
          (boundary_logged _ _ (disk_of c u) F B e (a.firsts u o (sym (k.others u o ne).0 ∙ h)))

      begun : (u : ℕ) → is_open c.table u ≡ true → has_update t (place_of t u) ≡ true → Dec (u ≡ e.number)
          → some (λ q. eqb q.number u && eqb q.position (first_at t (place_of t u))) (F ++ (B ++ e ∷ [])) ≡ true
      begun u o h (yes same) = rw same k.started
      begun u o h (no ne) =
          rw ((k.others u o ne).1, ← append_assoc F B (e ∷ []), some_append _ (F ++ B) (e ∷ []), a.started u o (sym (k.others u o ne).0 ∙ h))

      kept : (u : ℕ) → is_open c.table u ≡ true → (u ≡ x → ⊥) → Dec (u ≡ e.number)
          → reserved_at t (place_of t u) ≡ 2 + words_for u (F ++ (B ++ e ∷ []))
      kept u o n (yes same) = rw (same, words_for_more F B e e.number, eq-eqb e.number e.number refl) (k.reserved (λ z. n (same ∙ z)))
      kept u o n (no ne) =
          rw ((k.others u o ne).2, words_for_more F B e u, ne_eqb e.number u (λ z. ne (sym z)), add-zero (words_for u (F ++ B))) (a.reserved u o n)
