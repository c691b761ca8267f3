-- A transaction's updates as an abort finds them: all of them, and the newest first.
use Rattle.std.specs.Prelude.{None}
use mathlib.Core.Path.{◌≡◌, refl, ap}
use mathlib.Core.Logic.{◌⊎◌, inl, inr}
use mathlib.Core.List.Memᴰ
use mathlib.Core.List.{List, [], ◌∷◌, ◌++◌, Memᴰ, append-nil}
use mathlib.Core.Bool.{Bool, true, false, and-eq-true_iff, cond, ◌&&◌}
use Prim.Native.Nat.{ℕ, suc, ◌+◌, ◌≤◌, ◌<◌, ◌-◌}
use native.Mathlib.Omega.{arith}
use lib.ListN.{length}
use lib.Dec.{eqb, ltb}
use borrow.Author.Tests.{eqb-true, eq-eqb, ltb-false}
use Rattle.model.specs.Causes.{fault_row}
use Rattle.model.specs.Record.{bad_record}
use Rattle.model.specs.declared.Core.{Core}
use Rattle.model.specs.Below.{sum_over}
use Rattle.model.specs.Record.{Record, change, close, words_of, update_kind}
use Rattle.model.specs.Scan.{Scan, end, bad, item, ring_then_buffer, Update, updates_in, update_words}
use Rattle.model.specs.World.{World}
use Rattle.model.specs.State.{place_of, is_open, first_at, has_update, reserved_at}
use Rattle.model.specs.Transaction.{disk_of}
use Rattle.model.specs.Abort.{abort_scan, updates_left, abort_fault}
use Rattle.model.proofs.Below.{sum_append}
use Rattle.model.proofs.RecordSizes.{words_change}
use Rattle.model.proofs.Members.{Every, every_nil, every_cons, every_append}
use Rattle.model.proofs.Reading.{Item, items, Rises}
use Rattle.model.proofs.RingThenBuffer.{parts_rise}
use Rattle.model.proofs.Booleans.{cond_all}
use Rattle.model.proofs.Faults.{no_fault, fault_rest}

-- the item of a scan that an update was read from
abbrev pub item_of : ℕ → Update → ℕ → Item
item_of number u copy = record { position = u.position; content = change update_kind u.page u.slot number copy u.diff }

module _ (number : ℕ) where
  -- an update found is an update record of that number in the scan
  pub record From (sc : Scan) (u : Update) : Type 0 where
    pub copy : ℕ
    pub listed : Memᴰ (item_of number u copy) (items sc)

  further : (p : ℕ) (r : Record) (rest : Scan) (u : Update) → From rest u → From (item p r rest) u
  unfolding items
  further p r rest u f = record { copy = f.copy; listed = Memᴰ.tail f.listed }

  pub updates_from : (sc : Scan) → Every (From sc) (updates_in number sc)
  unfolding updates_in items
  updates_from end = every_nil (From end)
  updates_from (bad p) = every_nil (From (bad p))
  updates_from (item p (close kind n) rest) = λ u m. further p (close kind n) rest u (updates_from rest u m)
  updates_from (item p (change kind page slot n copy diff) rest) =
      every_append (From sc) (updates_in number rest) _ (λ u m. further p r rest u (updates_from rest u m))
      (go (eqb kind update_kind && eqb n number) refl)
    where
      r : Record
      r = change kind page slot n copy diff

      sc : Scan
      sc = item p r rest

      u : Update
      u = record { position = p; page = page; slot = slot; diff = diff }

      go : (b : Bool) → eqb kind update_kind && eqb n number ≡ b → Every (From sc) (cond b (u ∷ []) [])
      go true e =
          let both = (and-eq-true_iff (eqb kind update_kind) (eqb n number)).0 e in
          let k = eqb-true kind update_kind both.0 in
          let m = eqb-true n number both.1 in
          let same : item_of number u copy ≡ record { position = p; content = r } = rw (k, m) in
          every_cons (From sc) u [] (record { copy = copy; listed = Memᴰ.head same }) (every_nil (From sc))
      go false e = every_nil (From sc)

  -- and every such record is found
  pub updates_all : (sc : Scan) (u : Update) (copy : ℕ) → Memᴰ (item_of number u copy) (items sc)
      → Memᴰ u (updates_in number sc)
  unfolding updates_in items
  updates_all end u copy m = absurd (Memᴰ.not-nil m)
  updates_all (bad p) u copy m = absurd (Memᴰ.not-nil m)
  updates_all (item p (close kind n) rest) u copy m = go (Memᴰ.cases_cons m) (updates_all rest u copy)
    where
      go : (item_of number u copy ≡ record { position = p; content = close kind n }) ⊎ Memᴰ (item_of number u copy) (items rest)
          → (Memᴰ (item_of number u copy) (items rest) → Memᴰ u (updates_in number rest))
          → Memᴰ u (updates_in number rest)
      go (inl e) later =
          let c = ap (λ (i : Item). i.content) e in
          let z : ◌≡◌ {A = ℕ} 0 1 = cc in
          absurd (omega arith)
      go (inr x) later = later x
  updates_all (item p (change kind page slot n e diff) rest) u copy m = go (Memᴰ.cases_cons m) (updates_all rest u copy)
    where
      here : Update
      here = record { position = p; page = page; slot = slot; diff = diff }

      found : Bool → List Update
      found b = cond b (here ∷ []) []

      go : (item_of number u copy ≡ record { position = p; content = change kind page slot n e diff })
          ⊎ Memᴰ (item_of number u copy) (items rest)
          → (Memᴰ (item_of number u copy) (items rest) → Memᴰ u (updates_in number rest))
          → Memᴰ u (updates_in number rest ++ found (eqb kind update_kind && eqb n number))
      go (inl x) later =
          let at : u.position ≡ p = ap (λ (i : Item). i.position) x in
          let c : change update_kind u.page u.slot number copy u.diff ≡ change kind page slot n e diff = ap (λ (i : Item). i.content) x in
          let k : kind ≡ update_kind = cc in
          let m : n ≡ number = cc in
          let pages : u.page ≡ page = cc in
          let slots : u.slot ≡ slot = cc in
          let diffs : u.diff ≡ diff = cc in
          let same : u ≡ here = λ i. record { position = at i; page = pages i; slot = slots i; diff = diffs i } in
          Memᴰ.append_right (updates_in number rest) (rw (eq-eqb kind update_kind k, eq-eqb n number m) (Memᴰ.head same))
      go (inr x) later = Memᴰ.append_left (found (eqb kind update_kind && eqb n number)) (later x)

-- "newest first": the positions fall
abbrev pub Falls : List Update → Type 0
Falls [] = Unit {0}
Falls (u ∷ us) = Every (λ v. v.position < u.position) us × Falls us

falls_last : (l : List Update) (x : Update) → Falls l → Every (λ u. x.position < u.position) l → Falls (l ++ x ∷ [])
falls_last [] x f h = (every_nil _, tt)
falls_last (u ∷ us) x f h = (
  every_append P us (x ∷ []) f.0 (every_cons P x [] (h u (Memᴰ.head refl)) (every_nil P)),
  falls_last us x f.1 (λ v m. h v (Memᴰ.tail m)),
)
  where
    P : Update → Type 0
    P v = v.position < u.position

module _ (number : ℕ) where
  updates_above : (m : ℕ) (sc : Scan) → Rises m sc → Every (λ u. m ≤ u.position) (updates_in number sc)
  unfolding updates_in
  updates_above m end h = every_nil _
  updates_above m (bad p) h = every_nil _
  updates_above m (item p (close kind n) rest) h = λ u x. omega (arith, h.0, updates_above (suc p) rest h.1 u x)
  updates_above m (item p (change kind page slot n copy diff) rest) h =
      every_append P (updates_in number rest) _ (λ u x. omega (arith, h.0, updates_above (suc p) rest h.1 u x))
      (go (eqb kind update_kind && eqb n number))
    where
      P : Update → Type 0
      P u = m ≤ u.position

      go : (b : Bool) → Every P (cond b (record { position = p; page = page; slot = slot; diff = diff } ∷ []) [])
      go true = every_cons P _ [] h.0 (every_nil P)
      go false = every_nil P

  pub updates_fall : (m : ℕ) (sc : Scan) → Rises m sc → Falls (updates_in number sc)
  unfolding updates_in
  updates_fall m end h = tt
  updates_fall m (bad p) h = tt
  updates_fall m (item p (close kind n) rest) h = updates_fall (suc p) rest h.1
  updates_fall m (item p (change kind page slot n copy diff) rest) h =
      go (eqb kind update_kind && eqb n number) (updates_fall (suc p) rest h.1)
    where
      u : Update
      u = record { position = p; page = page; slot = slot; diff = diff }

      go : (b : Bool) → Falls (updates_in number rest) → Falls (updates_in number rest ++ cond b (u ∷ []) [])
      go true f = falls_last (updates_in number rest) u f (updates_above (suc p) rest h.1)
      go false f = rw append-nil f

-- the words of no update, of one more, and of two lists
pub update_words_none : update_words [] ≡ 0
unfolding update_words sum_over
update_words_none = refl

pub update_words_first : (u : Update) (us : List Update) → update_words (u ∷ us) ≡ 3 + length u.diff + update_words us
unfolding update_words sum_over
update_words_first u us = ap (λ (n : ℕ). n + update_words us) (words_change update_kind (length u.diff) (omega arith))

pub update_words_append : (us vs : List Update) → update_words (us ++ vs) ≡ update_words us + update_words vs
unfolding update_words
update_words_append us vs = sum_append (λ u. words_of update_kind (length u.diff)) us vs

-- What an abort reads is a log from its transaction's first record on, up to the tail and then on, or nothing.
pub abort_reads : (P : Scan → Type 0) (c : Core) (w : World) (number : ℕ) → P end
    → ((read : ℕ → ℕ) (tail stop first : ℕ) → P (ring_then_buffer c.sizes read tail stop first))
    → P (abort_scan c w number)
unfolding abort_scan
abort_reads P c w number none some = cond_all P (is_open c.table number && has_update c.table (place_of c.table number)) (λ e. some _ _ _ _) (λ e. none)

-- so an abort takes back the newest update first
pub abort_falls : (c : Core) (w : World) (number : ℕ) → Falls (updates_left c w number)
unfolding updates_left updates_in
abort_falls c w number =
    abort_reads (λ (sc : Scan). Falls (updates_in number sc)) c w number tt
    (λ read tail stop first. updates_fall number first (ring_then_buffer c.sizes read tail stop first) (parts_rise c.sizes read tail stop first))

-- row 7: the words of the updates are no more than are reserved for them
pub abort_words : (c : Core) (w : World) (t : ℕ) → (fault_row (abort_fault c w t)).applies ≡ false
    → update_words (updates_left c w t) ≤ reserved_at c.table (place_of c.table t) - 2
unfolding abort_fault
abort_words c w t h = go _ refl (fault_rest _ _ _ (no_fault (abort_fault c w t) h))
  where
    go : (b : Bool) → ltb (reserved_at c.table (place_of c.table t) - 2) (update_words (updates_left c w t)) ≡ b
        → cond b (bad_record (disk_of c t) (first_at c.table (place_of c.table t))) None ≡ None
        → update_words (updates_left c w t) ≤ reserved_at c.table (place_of c.table t) - 2
    go true e k = let z : ◌≡◌ {A = ℕ} 0 1 = cc in absurd (omega arith)
    go false e k = ltb-false _ _ e
