-- An update whose record fits the free words of its disk's buffer: what it relies on, and what it does to the ledger.
use mathlib.Core.Path.{◌≡◌, refl, sym, ap, ◌∙◌}
use mathlib.Core.List.{List, [], ◌∷◌, ◌++◌, map, map-append}
use mathlib.Core.Bool.{Bool, true, false, cond}
use Prim.Native.Nat.{ℕ, ◌+◌, ◌-◌, ◌≤◌, ◌<◌}
use native.Mathlib.Omega.{arith}
use lib.Dec.{eqb}
use lib.ListN.{length, get_or, set}
use lib.Seq.{sets, get_or-set_same, get_or-set_other}
use Rattle.model.specs.declared.Sizes.{Sizes}
use Rattle.model.specs.declared.Logs.{Logs}
use Rattle.model.specs.declared.Table.{Table}
use Rattle.model.specs.declared.Core.{Core}
use Rattle.model.specs.Word.{◌⊕◌, xors, part}
use Rattle.model.specs.Sizes.{slots_in, width_in, slot_base, total}
use Rattle.model.specs.Record.{encode}
use Rattle.model.specs.World.{World}
use Rattle.model.specs.Memory.{copy_at, work_words, owner_at, owner_of, copy_of}
use Rattle.model.specs.State.{end_of, with_log, is_open, place_of, reserved_at}
use Rattle.model.specs.Transaction.{disk_of, slot_words}
use Rattle.model.specs.Reference.{Reference, Write, writes_of, added, with_sets}
use Rattle.model.specs.History.{Told}
use Rattle.model.proofs.KeptBases.{slot_words_lem}
use Rattle.model.proofs.Xor.{⊕-self-left, ⊕-zero-r, length_xors_same, get_or_xors_same}
use Rattle.model.proofs.Lengths.{Lengths, lengths_right_lem}
use Rattle.model.proofs.Geometry.{page_of, slot_start, slot_start_lem, slot_apart, slot_end_total, page_in}
use Rattle.model.proofs.Slots.{patch_of}
use Rattle.model.proofs.WriteSets.{added_writes}
use Rattle.model.proofs.Places.{open_place}
use Rattle.model.proofs.Ledger.Entry.{Entry, is_close, record_of, spanning, adds, closed_in}
use Rattle.model.proofs.Ledger.State.{updated, Same}
use Rattle.model.proofs.Ledger.Order.{size_of}
use Rattle.model.proofs.Ledger.Good.{Good, good_same}
use Rattle.model.proofs.Ledger.Update.{MayUpdate, adds_in, adds_out, update_good}
use Rattle.model.proofs.Link.Words.{Fit}
use Rattle.model.proofs.Link.Buffered.{InBuffer, owners_same, copies_same}
use Rattle.model.proofs.Store.View.{view, Serving}
use Rattle.model.proofs.Parts.{length_part, get_or_part, get_or_sets_in, spanning_true, get_or_sets_outside}

-- What an accepted update may rely on: its transaction is open, its slot is there and not another's, its value as wide.
pub record Allowed (c : Core) (w : World) (number page slot : ℕ) (value : List ℕ) : Type 0 where
  pub opened : is_open c.table number ≡ true
  pub disk : disk_of c number < c.sizes.disks
  pub reserved : 2 ≤ reserved_at c.table (place_of c.table number)
  pub page_lt : page < c.sizes.pages
  pub slot_lt : slot < slots_in c.sizes page
  pub width : length value ≡ width_in c.sizes page
  pub free : (u : ℕ) → is_open c.table u ≡ true → (u ≡ number → ⊥) → u ≡ owner_of c.sizes w.work (slot_base c.sizes page slot) → ⊥

-- the entry of its record, at the end of its transaction's disk
abbrev pub update_entry : Core → World → ℕ → ℕ → ℕ → List ℕ → Entry
update_entry c w number page slot value =
    record {
      disk = disk_of c number;
      position = end_of c.logs (disk_of c number);
      kind = 0;
      page = page;
      slot = slot;
      number = number;
      copy = copy_of c.sizes w.work page;
      at = slot_base c.sizes page slot;
      diff = xors (slot_words c w page slot) value;
    }

-- the memories after it: the value in its slot, and the slot's owner
abbrev pub slot_changed : Sizes → World → ℕ → List ℕ → ℕ → World
slot_changed s v at value number =
    record { anchor = v.anchor; pages = sets v.pages at value; backups = v.backups; logs = v.logs; work = set v.work (owner_at s at) number }

-- the reference after it
abbrev pub noted : Reference → ℕ → ℕ → ℕ → List ℕ → Reference
noted r number page slot value = with_sets r (added number (record { page = page; slot = slot; value = value }) r.write_sets)

module _ {home : ℕ → ℕ} {puts : Told} {c : Core} {w : World} {r : Reference} {F B : List Entry} (g : Serving 0 home puts c w r F B)
    (number page slot : ℕ) (value : List ℕ) (may : Allowed c w number page slot value) where
  abbrev s : Sizes
  s = c.sizes

  abbrev at : ℕ
  at = slot_base s page slot

  abbrev e : Entry
  e = update_entry c w number page slot value

  right : Lengths s (total s) w
  right = lengths_right_lem s (total s) w g.safe.devices.lengths

  -- the slot lies within the page memory
  inside : at + width_in s page ≤ total s
  inside = slot_end_total s page slot may.page_lt may.slot_lt

  at_lt : at < total s
  at_lt = omega (arith, inside, (g.safe.devices.bounds.used page may.page_lt).width_min)

  old_words : slot_words c w page slot ≡ part at (width_in s page) w.pages
  old_words = slot_words_lem c g.safe.devices.bases w page slot (omega (arith, may.page_lt, g.safe.devices.bounds.pages_max))

  pub old_width : length (slot_words c w page slot) ≡ length value
  old_width = ap length old_words ∙ length_part at (width_in s page) w.pages (omega (arith, inside, right.pages)) ∙ sym may.width

  diff_width : length e.diff ≡ length value
  diff_width = length_xors_same (slot_words c w page slot) value old_width ∙ old_width

  -- its words
  pub update_size : size_of e ≡ 3 + width_in s page
  unfolding size_of record_of is_close encode
  update_size = omega (arith, diff_width, may.width)

  is_change : is_close e ≡ false
  unfolding is_close
  is_change = refl

  pub update_fit : Fit s e
  unfolding record_of is_close
  update_fit =
      let b = g.safe.devices.bounds in
      record {
        formed = record {
          kind_lt = omega arith;
          page_in = may.page_lt;
          page_lt = omega (arith, may.page_lt, b.pages_max);
          slot_in = may.slot_lt;
          slot_lt = omega (arith, may.slot_lt, (b.used page may.page_lt).slots_max);
          number_pos = omega (arith, (open_place c.table number may.opened).0);
          width_eq = diff_width ∙ may.width;
        };
        slotted = λ h. refl;
      }

  pub update_unclosed : closed_in (F ++ B) number ≡ false
  unfolding view
  update_unclosed = g.safe.good.unclosed number may.opened

  -- every word of the slot has its start and its page
  module _ (i : ℕ) (h : spanning at (length value) i ≡ true) where
    near : (at ≤ i) × (i < at + width_in s page)
    near = rw may.width at (spanning_true at (length value) i h)

    here : (slot_start s i ≡ at) × (page_of s i ≡ page)
    here = slot_start_lem s page slot i may.page_lt may.slot_lt near.0 near.1

    differs : get_or e.diff (i - at) 0 ≡ get_or w.pages i 0 ⊕ get_or value (i - at) 0
    differs =
        let back : at + (i - at) ≡ i = omega (arith, near) in
        get_or_xors_same (slot_words c w page slot) value old_width (i - at)
        ∙ ap (λ (x : ℕ). x ⊕ get_or value (i - at) 0)
        (ap (λ (l : List ℕ). get_or l (i - at) 0) old_words ∙ get_or_part at (width_in s page) w.pages (i - at) (omega (arith, near)) ∙ ap (λ (k : ℕ). get_or w.pages k 0) back)

  may_update : MayUpdate (total s) (view c w r F B) e value
  unfolding view
  may_update =
      record {
        opened = may.opened;
        change = is_change;
        lengths = diff_width;
        differs = λ i l h. differs i h;
        free = λ i l h u o ne owns. may.free u o ne (owns ∙ ap (owner_of s w.work) (here i h).0);
        copy = λ i l h. ap (copy_of s w.work) (here i h).1;
      }

  -- The world v after the record is buffered, and a table with the same transactions.
  module _ (v : World) (k : InBuffer s (disk_of c number) w v) (long : length v.work ≡ work_words s (total s)) (t : Table)
      (same_open : (u : ℕ) → is_open t u ≡ is_open c.table u) where
    abbrev u : World
    u = slot_changed s v at value number

    pages_after : (i : ℕ) → get_or w.pages i 0 ⊕ adds i e ≡ get_or (sets v.pages at value) i 0
    pages_after i = rw k.pages_same (go (spanning at (length value) i) refl)
      where
        go : (b : Bool) → spanning at (length value) i ≡ b → get_or w.pages i 0 ⊕ adds i e ≡ get_or (sets w.pages at value) i 0
        go true h =
            ap (λ (x : ℕ). get_or w.pages i 0 ⊕ x) (adds_in i e is_change (rw diff_width h) ∙ differs i h)
            ∙ ⊕-self-left (get_or w.pages i 0) (get_or value (i - at) 0)
            ∙ sym (get_or_sets_in w.pages at value i (omega (arith, inside, right.pages, may.width)) (near i h).0 (rw may.width (near i h).1))
        go false h =
            ap (λ (x : ℕ). get_or w.pages i 0 ⊕ x) (adds_out i e (rw diff_width h)) ∙ ⊕-zero-r (get_or w.pages i 0)
            ∙ sym (get_or_sets_outside w.pages at value i h)

    -- the memory with the slot's owner: an owner or a copy number other than that
    abbrev owned : List ℕ
    owned = set v.work (owner_at s at) number

    work_other : (j : ℕ) → (j ≡ owner_at s at → ⊥) → get_or owned j 0 ≡ get_or v.work j 0
    work_other j ne = get_or-set_other v.work (owner_at s at) j number 0 ne

    copies_after : (p : ℕ) → p < 64 → copy_of s w.work p ≡ copy_of s owned p
    unfolding copy_of copy_at owner_at
    copies_after p h = sym (work_other (copy_at s p) (λ x. omega arith) ∙ copies_same k p may.disk)

    owners_after : (i : ℕ) → i < total s
        → cond (spanning at (length value) i) number (owner_of s w.work (slot_start s i)) ≡ owner_of s owned (slot_start s i)
    unfolding owner_of owner_at work_words
    owners_after i l = go (spanning at (length value) i) refl
      where
        go : (b : Bool) → spanning at (length value) i ≡ b
            → cond b number (owner_of s w.work (slot_start s i)) ≡ owner_of s owned (slot_start s i)
        go true h = rw (here i h).0 (sym (get_or-set_same v.work (owner_at s at) number 0 (omega (arith, at_lt, long))))
        go false h =
            sym (work_other (owner_at s (slot_start s i))
            (λ x. slot_apart s page slot i g.safe.devices.bounds may.page_lt may.slot_lt l (rw may.width at h) (omega arith))
            ∙ owners_same k (slot_start s i) may.disk)

    writes_after : (n : ℕ)
        → cond (eqb n number) (map (patch_of s) (writes_of n r.write_sets) ++ record { at = at; value = value } ∷ []) (map (patch_of s) (writes_of n r.write_sets))
        ≡ map (patch_of s) (writes_of n (noted r number page slot value).write_sets)
    unfolding patch_of
    writes_after n =
        rw (added_writes number (record { page = page; slot = slot; value = value }) r.write_sets (sym (g.sets.has number) ∙ may.opened) n)
        (go (eqb n number))
      where
        write : Write
        write = record { page = page; slot = slot; value = value }

        own : List Write
        own = writes_of n r.write_sets

        go : (b : Bool) → cond b (map (patch_of s) own ++ patch_of s write ∷ []) (map (patch_of s) own) ≡ map (patch_of s) (cond b (own ++ write ∷ []) own)
        go true = sym (map-append (patch_of s) own (write ∷ []))
        go false = refl

    same : Same (total s) (updated (view c w r F B) e value)
        (view (with_log c c.logs t) u (noted r number page slot value) F (B ++ e ∷ []))
    unfolding view updated with_log
    same =
        record {
          epoch = refl;
          next = refl;
          pages = λ i l. pages_after i;
          current = λ i l. rw k.backups_same;
          other = λ i l. rw k.backups_same;
          copies = λ i l. copies_after (page_of s i) (omega (arith, (page_in s i l).0, g.safe.devices.bounds.pages_max));
          owners = owners_after;
          committed = λ i l. refl;
          writes = λ n o. writes_after n;
          opened = λ n. sym (same_open n);
          flushed = refl;
          buffered = refl;
        }

    pub good_updated : (l : Logs) → Good 0 (total s) (view (with_log c l t) u (noted r number page slot value) F (B ++ e ∷ []))
    unfolding view with_log
    good_updated l = good_same same (update_good g.safe.good may_update)
