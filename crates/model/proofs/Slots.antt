-- The reference's table of slots against the words of the page memory: a slot's value lies at its base,
-- and a write of a value to a slot is a patch of the words there.
use mathlib.Core.Path.{◌≡◌, refl, sym, ap, ◌∙◌}
use mathlib.Core.List.{List, [], ◌∷◌, ◌++◌, map, append_assoc}
use mathlib.Core.Bool.{Bool, true, false, cond, ◌&&◌}
use Prim.Native.Nat.{ℕ, zero, suc, ◌+◌, ◌*◌, ◌-◌, ◌≤◌, ◌<◌}
use native.Mathlib.Omega.{arith}
use native.Mathlib.Nat.{add-suc, add-zero, add_comm, zero-mul, suc-mul, not-suc-le-zero}
use lib.Dec.{leb, ltb, eqb}
use lib.ListN.{length, get_or, set, take, drop, replicate, length-append, length-set, length-replicate, get_or-replicate, replicate-append-replicate, get_or-append}
use lib.Seq.{take-suc, take_all, take_at, drop_at, split_at, set_split, get_or-set_same, get_or-set_other, get_or-append-add}
use borrow.Author.Tests.{leb-true, leb-false, ltb-true, ltb-false, eqb-true, eqb-false}
use Rattle.model.specs.declared.Sizes.{Sizes}
use Rattle.model.specs.Below.{sum_below, join_below}
use Rattle.model.specs.Word.{part}
use Rattle.model.specs.Sizes.{slots_in, width_in, page_words, page_base, slot_base, total}
use Rattle.model.specs.Reference.{Write, blank, slot_index, applied, words_in}
use Rattle.model.proofs.Below.{below_suc, sum_term, sum_cong, length_join}
use Rattle.model.proofs.Ledger.Entry.{All, Patch, spanning, patch, patched}

-- a write by slot as a write by word
unfoldable pub patch_of : Sizes → Write → Patch
patch_of s e = record { at = slot_base s e.page e.slot; value = e.value }

-- The write names a slot and has its width.
pub record Fits (s : Sizes) (e : Write) : Type 0 where
  pub page_lt : e.page < s.pages
  pub slot_lt : e.slot < slots_in s e.page
  pub width : length e.value ≡ width_in s e.page

-- The table has a value for each slot, as wide as the slot.
pub record Shaped (s : Sizes) (table : List (List ℕ)) : Type 0 where
  pub count : length table ≡ sum_below (slots_in s) s.pages
  pub widths : (page slot : ℕ) → page < s.pages → slot < slots_in s page → length (get_or table (slot_index s page slot) []) ≡ width_in s page

-- The words of a table, cut around one of its values.
words_append : (a b : List (List ℕ)) → words_in (a ++ b) ≡ words_in a ++ words_in b
unfolding words_in
words_append [] b = refl
words_append (v ∷ a) b = rw (words_append a b, append_assoc)

words_split : (table : List (List ℕ)) (j : ℕ) → j < length table
    → words_in table ≡ words_in (take j table) ++ (get_or table j [] ++ words_in (drop (suc j) table))
unfolding words_in
words_split table j h =
    ap words_in (split_at table j [] h) ∙ words_append (take j table) (get_or table j [] ∷ drop (suc j) table)

words_set : (table : List (List ℕ)) (j : ℕ) (v : List ℕ) → j < length table
    → words_in (set table j v) ≡ words_in (take j table) ++ (v ++ words_in (drop (suc j) table))
unfolding words_in
words_set table j v h = ap words_in (set_split table j v h) ∙ words_append (take j table) (v ∷ drop (suc j) table)

-- where a value begins among the words
offset : List (List ℕ) → ℕ → ℕ
offset table j = length (words_in (take j table))

offset_step : (table : List (List ℕ)) (j : ℕ) → j < length table → offset table (suc j) ≡ offset table j + length (get_or table j [])
unfolding offset words_in
offset_step table j h =
    rw (take-suc table j [] h, words_append, length-append, length-append) (omega arith)

module _ (s : Sizes) (table : List (List ℕ)) (shaped : Shaped s table) where
  -- a slot has its place in the table
  pub index_lt : (page slot : ℕ) → page < s.pages → slot < slots_in s page → slot_index s page slot < length table
  unfolding slot_index
  index_lt page slot h k = omega (arith, sum_term (slots_in s) s.pages page h)

  -- if the words of a page begin at its base, so do those of its slots
  offset_slot : (page : ℕ) → page < s.pages → offset table (sum_below (slots_in s) page) ≡ page_base s page
      → (slot : ℕ) → slot ≤ slots_in s page → offset table (slot_index s page slot) ≡ slot_base s page slot
  unfolding slot_index slot_base
  offset_slot page h from zero k = rw (add-zero, zero-mul, from) (omega arith)
  offset_slot page h from (suc slot) k =
      rw (add-suc, suc-mul, offset_step table (slot_index s page slot) (index_lt page slot h (omega arith)), shaped.widths page slot h k)
      (omega (arith, offset_slot page h from slot (omega arith)))

  offset_page : (page : ℕ) → page ≤ s.pages → offset table (sum_below (slots_in s) page) ≡ page_base s page
  unfolding sum_below page_base page_words slot_index slot_base offset words_in
  offset_page zero h = refl
  offset_page (suc page) h = offset_slot page h (offset_page page (omega arith)) (slots_in s page) (omega arith)

  -- a slot's value begins at the slot's base
  value_offset : (page slot : ℕ) → page < s.pages → slot < slots_in s page → offset table (slot_index s page slot) ≡ slot_base s page slot
  value_offset page slot h k = offset_slot page h (offset_page page (omega arith)) slot (omega arith)

  -- the words of the table are as many as those of the page memory
  pub words_length : length (words_in table) ≡ total s
  unfolding offset total
  words_length =
      ap (λ (t : List (List ℕ)). length (words_in t)) (sym (take_all (sum_below (slots_in s) s.pages) table (omega arith)))
      ∙ offset_page s.pages (omega arith)

  -- the words at a slot are its value
  pub words_at_lem : (page slot : ℕ) → page < s.pages → slot < slots_in s page
      → part (slot_base s page slot) (width_in s page) (words_in table) ≡ get_or table (slot_index s page slot) []
  unfolding part offset
  words_at_lem page slot h k =
      let j : ℕ = slot_index s page slot in
      rw (words_split table j (index_lt page slot h k), drop_at (words_in (take j table)) (get_or table j [] ++ words_in (drop (suc j) table)) (slot_base s page slot) (value_offset page slot h k))
      (take_at (get_or table j []) (words_in (drop (suc j) table)) (width_in s page) (shaped.widths page slot h k))

-- A value put in the place of one as long, seen word by word.
get_or_past : (a b : List ℕ) (w : ℕ) → length a ≤ w → get_or (a ++ b) w 0 ≡ get_or b (w - length a) 0
get_or_past a b w h =
    let same : w ≡ length a + (w - length a) = omega arith in
    ap (λ (k : ℕ). get_or (a ++ b) k 0) same ∙ get_or-append-add a b (w - length a) 0

put_word : (a old new rest : List ℕ) (w : ℕ) → length new ≡ length old
    → get_or (a ++ (new ++ rest)) w 0 ≡ patch w (record { at = length a; value = new }) (get_or (a ++ (old ++ rest)) w 0)
unfolding patch spanning
put_word a old new rest w wide = go (leb (length a) w) refl (ltb w (length a + length new)) refl
  where
    go : (from : Bool) → leb (length a) w ≡ from → (end : Bool) → ltb w (length a + length new) ≡ end
        → get_or (a ++ (new ++ rest)) w 0 ≡ cond (from && end) (get_or new (w - length a) 0) (get_or (a ++ (old ++ rest)) w 0)
    go false e end f =
        let h : w < length a = leb-false (length a) w e in
        get_or-append a (new ++ rest) 0 w h ∙ sym (get_or-append a (old ++ rest) 0 w h)
    go true e true f =
        let h : length a ≤ w = leb-true (length a) w e in
        get_or_past a (new ++ rest) w h ∙ get_or-append new rest 0 (w - length a) (omega (arith, ltb-true w (length a + length new) f))
    go true e false f =
        let h : length a ≤ w = leb-true (length a) w e in
        let k : length a + length new ≤ w = ltb-false w (length a + length new) f in
        get_or_past a (new ++ rest) w h ∙ get_or_past new rest (w - length a) (omega arith)
        ∙ ap (λ (n : ℕ). get_or rest (w - length a - n) 0) wide
        ∙ sym (get_or_past a (old ++ rest) w h ∙ get_or_past old rest (w - length a) (omega arith))

-- a value as wide as the one it replaces leaves every width
set_widths : (table : List (List ℕ)) (j : ℕ) (v : List ℕ) (k : ℕ) → j < length table → length v ≡ length (get_or table j [])
    → length (get_or (set table j v) k []) ≡ length (get_or table k [])
set_widths table j v k h wide = go (eqb k j) refl
  where
    go : (b : Bool) → eqb k j ≡ b → length (get_or (set table j v) k []) ≡ length (get_or table k [])
    go true e = rw (eqb-true k j e, get_or-set_same table j v [] h) wide
    go false e = rw (get_or-set_other table j k v [] (eqb-false k j e))

-- One write.
module _ (s : Sizes) (table : List (List ℕ)) (e : Write) (shaped : Shaped s table) (fits : Fits s e) where
  same_width : length e.value ≡ length (get_or table (slot_index s e.page e.slot) [])
  same_width = fits.width ∙ sym (shaped.widths e.page e.slot fits.page_lt fits.slot_lt)

  -- it keeps the table's shape
  pub set_shaped : Shaped s (set table (slot_index s e.page e.slot) e.value)
  set_shaped =
      let j : ℕ = slot_index s e.page e.slot in
      record {
        count = length-set table j e.value ∙ shaped.count;
        widths =
            λ page slot h k.
            set_widths table j e.value (slot_index s page slot) (index_lt s table shaped e.page e.slot fits.page_lt fits.slot_lt) same_width
            ∙ shaped.widths page slot h k;
      }

  -- and is a patch of the words
  pub word_set : (w : ℕ)
      → get_or (words_in (set table (slot_index s e.page e.slot) e.value)) w 0 ≡ patch w (patch_of s e) (get_or (words_in table) w 0)
  unfolding patch_of offset
  word_set w =
      let j : ℕ = slot_index s e.page e.slot in
      let lt : j < length table = index_lt s table shaped e.page e.slot fits.page_lt fits.slot_lt in
      rw (words_set table j e.value lt, words_split table j lt, ← value_offset s table shaped e.page e.slot fits.page_lt fits.slot_lt)
      (put_word (words_in (take j table)) (get_or table j []) e.value (words_in (drop (suc j) table)) w same_width)

-- Writes, first to last.
pub applied_shaped : (s : Sizes) (ws : List Write) (table : List (List ℕ)) → Shaped s table → All (Fits s) ws → Shaped s (applied s ws table)
unfolding applied
applied_shaped s [] table shaped fits = shaped
applied_shaped s (e ∷ es) table shaped fits =
    applied_shaped s es (set table (slot_index s e.page e.slot) e.value) (set_shaped s table e shaped fits.0) fits.1

pub words_applied : (s : Sizes) (ws : List Write) (table : List (List ℕ)) → Shaped s table → All (Fits s) ws → (w : ℕ)
    → get_or (words_in (applied s ws table)) w 0 ≡ patched w (map (patch_of s) ws) (get_or (words_in table) w 0)
unfolding applied patched
words_applied s [] table shaped fits w = refl
words_applied s (e ∷ es) table shaped fits w =
    words_applied s es (set table (slot_index s e.page e.slot) e.value) (set_shaped s table e shaped fits.0) fits.1 w
    ∙ ap (patched w (map (patch_of s) es)) (word_set s table e shaped fits.0 w)

-- The table after format: the value that stands at a place of joined lists, and zeros throughout.
get_or_join : {A : Type 0} (f : ℕ → List A) (d : A) (n i : ℕ) → i < n → (k : ℕ) → k < length (f i)
    → get_or (join_below f n) (sum_below (λ i. length (f i)) i + k) d ≡ get_or (f i) k d
unfolding join_below
get_or_join f d zero i h = absurd (not-suc-le-zero h)
get_or_join f d (suc n) i h =
    below_suc (λ (i : ℕ). (k : ℕ) → k < length (f i) → get_or (join_below f n ++ f n) (sum_below (λ i. length (f i)) i + k) d ≡ get_or (f i) k d) n
    (λ i h k l.
    get_or-append (join_below f n) (f n) d (sum_below (λ i. length (f i)) i + k)
    (rw (length_join f n) (omega (arith, sum_term (λ i. length (f i)) n i h)))
    ∙ get_or_join f d n i h k l)
    (λ k l. rw (← length_join f n) (get_or-append-add (join_below f n) (f n) k d)) i h

blank_value : Sizes → ℕ → List (List ℕ)
blank_value s page = replicate (slots_in s page) (replicate (width_in s page) 0)

blank_sum : (s : Sizes) (n : ℕ) → sum_below (λ i. length (blank_value s i)) n ≡ sum_below (slots_in s) n
unfolding blank_value
blank_sum s n = sum_cong (λ i. length (blank_value s i)) (slots_in s) n (λ i h. length-replicate (slots_in s i) (replicate (width_in s i) 0))

pub blank_shaped : (s : Sizes) → Shaped s (blank s).committed
unfolding blank slot_index blank_value
blank_shaped s =
    record {
      count = length_join (blank_value s) s.pages ∙ blank_sum s s.pages;
      widths =
          λ page slot h k.
          ap (λ (i : ℕ). length (get_or (join_below (blank_value s) s.pages) (i + slot) [])) (sym (blank_sum s page))
          ∙ ap length
          (get_or_join (blank_value s) [] s.pages page h slot (rw length-replicate k)
          ∙ get_or-replicate (slots_in s page) slot (replicate (width_in s page) 0) [] k)
          ∙ length-replicate (width_in s page) 0;
    }

words_replicate : (a b : ℕ) → words_in (replicate a (replicate b 0)) ≡ replicate (a * b) 0
unfolding words_in
words_replicate zero b = rw zero-mul
words_replicate (suc a) b = rw (words_replicate a b, replicate-append-replicate, suc-mul, add_comm b (a * b))

words_blank : (s : Sizes) (n : ℕ) → words_in (join_below (blank_value s) n) ≡ replicate (page_base s n) 0
unfolding words_in join_below blank_value page_base sum_below page_words
words_blank s zero = refl
words_blank s (suc n) =
    rw (words_append, words_blank s n, words_replicate (slots_in s n) (width_in s n), replicate-append-replicate)

pub blank_words : (s : Sizes) → words_in (blank s).committed ≡ replicate (total s) 0
unfolding blank total blank_value
blank_words s = words_blank s s.pages
