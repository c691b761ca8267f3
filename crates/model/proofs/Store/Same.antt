-- What a call keeps that leaves a part of the state as it is.
use mathlib.Core.Path.{◌≡◌}
use mathlib.Core.List.{List, ◌++◌}
use mathlib.Core.Bool.{true}
use Prim.Native.Nat.{ℕ, ◌<◌}
use native.Mathlib.Omega.{arith}
use Rattle.model.specs.declared.Sizes.{Sizes}
use Rattle.model.specs.declared.Core.{Core}
use Rattle.model.specs.Sizes.{total, slots_in, slot_base}
use Rattle.model.specs.World.{World}
use Rattle.model.specs.Memory.{owner_of, lengths_right}
use Rattle.model.specs.Reference.{Reference}
use Rattle.model.specs.Transaction.{disk_of}
use Rattle.model.proofs.KeptBases.{bases_carried}
use Rattle.model.proofs.Bounds.{Bounded}
use Rattle.model.proofs.Geometry.{slot_end_total}
use Rattle.model.proofs.Ledger.Entry.{Entry}
use Rattle.model.proofs.Ledger.Sums.{all_map}
use Rattle.model.proofs.Store.View.{Devices, Own, Accounts, Sets, Owners}

-- the sizes, the epoch and the logs, with the anchor: what the slices say of them
pub devices_same : {c e : Core} {w u : World} → e.sizes ≡ c.sizes → e.bases ≡ c.bases → e.epoch ≡ c.epoch → e.logs ≡ c.logs → u.anchor ≡ w.anchor
    → lengths_right c.sizes (total c.sizes) u ≡ true → Devices c w → Devices e u
devices_same {c} {e} {w} {u} sizes bases epoch logs anchor lengths v =
    record {
      bounds = rw sizes v.bounds;
      bases = bases_carried c e bases sizes v.bases;
      anchor = rw anchor v.anchor;
      lengths = rw sizes lengths;
      sizes = rw (anchor, sizes) v.sizes;
      epoch = rw (anchor, epoch) v.epoch;
      formatted = rw epoch v.formatted;
      starts = rw (anchor, sizes, logs) v.starts;
      arrays = rw (sizes, logs) v.arrays;
    }

-- the table, the logs and the next number: the table against the log
pub accounts_same : {x : ℕ} {home : ℕ → ℕ} {c e : Core} {F B : List Entry} → e.table ≡ c.table → e.logs ≡ c.logs → e.next ≡ c.next
    → e.sizes ≡ c.sizes
    → Accounts x home c F B → Accounts x home e F B
unfolding disk_of
accounts_same {x} {home} {c} {e} {F} {B} table logs next sizes v =
    record {
      tabled = rw table v.tabled;
      homes = λ t. rw table (v.homes t);
      own = λ t o. all_map (λ r h n. still t r (h n)) (F ++ B) (v.own t (rw table at o));
      firsts = λ t. rw (table, logs) (v.firsts t);
      disks = λ t. rw (table, sizes) (v.disks t);
      started = λ t. rw table (v.started t);
      reserved = λ t. rw table (v.reserved t);
      closed_or_open = all_map (λ r h. rw table h) (F ++ B) v.closed_or_open;
      numbered = all_map (λ r h. rw next h) (F ++ B) v.numbered;
    }
  where
    still : (t : ℕ) (r : Entry) → Own x c t r → Own x e t r
    still t r o = record { has = rw table o.has; first = rw table o.first; kind = o.kind }

-- the table and the sizes: the reference's write sets
pub sets_same : {c e : Core} {r : Reference} → e.table ≡ c.table → e.sizes ≡ c.sizes → Sets c r → Sets e r
sets_same table sizes v = record { distinct = v.distinct; has = λ t. rw table (v.has t); fits = rw sizes v.fits }

-- a slot begins within the pages
pub slot_lt : (s : Sizes) → Bounded s → (page slot : ℕ) → page < s.pages → slot < slots_in s page → slot_base s page slot < total s
slot_lt s b page slot p q = omega (arith, slot_end_total s page slot p q, (b.used page p).width_min)

-- the table, the next number and the owners
pub owners_same : {c e : Core} {w u : World} {r : Reference} → Bounded c.sizes → e.sizes ≡ c.sizes → e.table ≡ c.table → e.next ≡ c.next
    → ((i : ℕ) → i < total c.sizes → owner_of c.sizes u.work i ≡ owner_of c.sizes w.work i) → Owners c w r → Owners e u r
owners_same {c} {e} {w} {u} bounds sizes table next same v =
    record {
      below = rw (sizes, next) (λ page slot p q. rw (word page slot p q) (v.below page slot p q));
      written = rw (sizes, table) (λ page slot p q. rw (word page slot p q) (v.written page slot p q));
    }
  where
    word : (page slot : ℕ) → page < c.sizes.pages → slot < slots_in c.sizes page
        → owner_of c.sizes u.work (slot_base c.sizes page slot) ≡ owner_of c.sizes w.work (slot_base c.sizes page slot)
    word page slot p q = same _ (slot_lt c.sizes bounds page slot p q)
