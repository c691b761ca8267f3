-- Records that were encoded and stored are what a scan finds, and all that it finds.
use Prim.Native.Nat.{ℕ, suc, ◌+◌, ◌*◌, ◌/◌, ◌%◌, ◌≤◌, ◌<◌}
use mathlib.Core.Path.{◌≡◌, refl, sym, ap, ◌∙◌}
use mathlib.Core.List.{List, [], ◌∷◌, ◌++◌, append_assoc, append-nil}
use native.Mathlib.Omega.{arith}
use native.Mathlib.Nat.{add-zero}
use lib.ListN.{length, get_or, length-append}
use borrow.Author.Tests.{lt-ltb, le-ltb, lt-leb, eq-eqb, ne_eqb}
use Rattle.model.specs.declared.Sizes.{Sizes}
use Rattle.model.specs.declared.Decoded.TheVariants.{Change, Close}
use Rattle.model.specs.Sizes.{slots_in, width_in, ring_of, disk_at, ring_word}
use Rattle.model.specs.Record.{Record, change, close, header, encode, encode_all}
use Rattle.model.specs.Decode.{read_log, span, kind_field, page_field, slot_field, width_field, misplaced, decode_words, decode_at, decoded}
use Rattle.model.specs.Scan.{Update, end, item, scan, placed, updates_in}
use Rattle.model.specs.World.{World, perform, each}
use Rattle.model.specs.Append.{store_log}
use Rattle.model.proofs.RecordSizes.{size_change, size_close}
use Rattle.model.proofs.Reader.{Holds, holds_append, holds_agree, span_holds, read_ring_lem, read_holds}
use Rattle.model.proofs.Scan.{scan_end, scan_change, scan_close}
use Rattle.model.proofs.Ring.{lay_holds}

-- A record that a writer may put: its page's slot and width, and a number of 1 or more.
pub record ChangeFits (s : Sizes) (kind page slot number : ℕ) (diff : List ℕ) : Type 0 where
  pub kind_lt : kind < 2
  pub page_in : page < s.pages
  pub page_lt : page < 64
  pub slot_in : slot < slots_in s page
  pub slot_lt : slot < 128
  pub number_pos : 1 ≤ number
  pub width_eq : length diff ≡ width_in s page

pub record CloseFits (kind number : ℕ) : Type 0 where
  pub kind_ge : 2 ≤ kind
  pub kind_lt : kind < 4
  pub number_pos : 1 ≤ number

abbrev pub WellFormed : Sizes → Record → Type 0
WellFormed s (change kind page slot number copy diff) = ChangeFits s kind page slot number diff
WellFormed s (close kind number) = CloseFits kind number

abbrev pub AllWellFormed : Sizes → List Record → Type 0
AllWellFormed s [] = Unit {0}
AllWellFormed s (r ∷ rs) = WellFormed s r × AllWellFormed s rs

-- The fields of a packed first word are those that were packed.
pub record FieldsOf (w kind page slot width : ℕ) : Type 0 where
  pub kind_is : kind_field w ≡ kind
  pub page_is : page_field w ≡ page
  pub slot_is : slot_field w ≡ slot
  pub width_is : width_field w ≡ width

pub fields_of : (kind page slot width : ℕ) → kind < 8 → page < 64 → slot < 128
    → FieldsOf (header kind page slot width) kind page slot width
unfolding header
fields_of kind page slot width hk hp hs = omega arith

module _ (s : Sizes) (stop p : ℕ) where
  decode_change_words : (kind page slot number copy : ℕ) (diff : List ℕ) → ChangeFits s kind page slot number diff
      → p + (3 + length diff) ≤ stop
      → decode_words s stop p (header kind page slot (length diff)) number copy
      ≡ Change kind page slot number copy (length diff) (p + (3 + length diff))
  unfolding decode_words misplaced
  decode_change_words kind page slot number copy diff f l =
      let nz : ¬ (number ≡ 0) = omega arith in
      let h = fields_of kind page slot (length diff) (omega arith) f.page_lt f.slot_lt in
      simp (
        h.kind_is,
        h.page_is,
        h.slot_is,
        h.width_is,
        size_change kind (length diff) f.kind_lt,
        lt-ltb kind 2 f.kind_lt,
        le-ltb stop (p + (3 + length diff)) l,
        ne_eqb number 0 nz,
        lt-leb s.pages page f.page_in,
        lt-leb (slots_in s page) slot f.slot_in,
        eq-eqb (length diff) (width_in s page) f.width_eq,
      )

  decode_close_words : (kind number copy : ℕ) → CloseFits kind number → p + 2 ≤ stop
      → decode_words s stop p (header kind 0 0 0) number copy ≡ Close kind number (p + 2)
  unfolding decode_words header
  decode_close_words kind number copy f l =
      let w : kind + 8 * 0 + 512 * 0 + 65536 * 0 ≡ kind = omega arith in
      let e : kind % 8 ≡ kind = omega arith in
      let z : kind / 8 ≡ 0 = omega arith in
      let nz : ¬ (number ≡ 0) = omega arith in
      simp (
        w,
        e,
        z,
        size_close kind (kind / 65536) f.kind_ge f.kind_lt,
        le-ltb kind 2 f.kind_ge,
        le-ltb stop (p + 2) l,
        ne_eqb number 0 nz,
      )

-- the scan of a reader that holds the records' words
module _ (s : Sizes) (read : ℕ → ℕ) (stop : ℕ) where
  -- a record that stands at p is what is decoded there
  pub decode_encode : (p : ℕ) (r : Record) → WellFormed s r → Holds read p (encode r) → p + length (encode r) ≤ stop
      → decode_at s read stop p ≡ decoded p r
  unfolding decode_at encode
  decode_encode p (change kind page slot number copy diff) f h l =
      let two : p + 1 + 1 ≡ p + 2 = omega arith in
      let third : read (p + 2) ≡ copy = rw two at h.1.1.0 in
      let long : p + (3 + length diff) ≡ p + suc (suc (suc (length diff))) = omega arith in
      rw (h.0, h.1.0, third) (rw long at (decode_change_words s stop p kind page slot number copy diff f (omega arith)))
  decode_encode p (close kind number) f h l =
      rw (h.0, h.1.0) (decode_close_words s stop p kind number (read (p + 2)) f l)

  pub scan_one : (p : ℕ) (r : Record) → WellFormed s r → Holds read p (encode r) → p + length (encode r) ≤ stop
      → scan s read stop p ≡ item p r (scan s read stop (p + length (encode r)))
  unfolding encode
  scan_one p (change kind page slot number copy diff) f h l =
      let three : p + 1 + 1 + 1 ≡ p + 3 = omega arith in
      let words : span read (p + 3) (length diff) ≡ diff = span_holds read (p + 3) diff (rw three at h.1.1.1) in
      let whole = scan_change s read stop (omega arith) (decode_encode p (change kind page slot number copy diff) f h l) in
      rw words at whole
  scan_one p (close kind number) f h l =
      scan_close s read stop (omega arith) (decode_encode p (close kind number) f h l)

  -- records that stand one after the other up to the stop are the scan, each at its position
  pub scan_placed : (p : ℕ) (rs : List Record) → AllWellFormed s rs → Holds read p (encode_all rs)
      → stop ≡ p + length (encode_all rs) → scan s read stop p ≡ placed p rs
  unfolding encode_all placed
  scan_placed p [] ok h e = scan_end s read stop p (omega arith)
  scan_placed p (r ∷ rs) ok h e =
      let parts = holds_append read p (encode r) (encode_all rs) h in
      let sum = length-append (encode r) (encode_all rs) in
      scan_one p r ok.0 parts.0 (omega arith)
      ∙ ap (item p r) (scan_placed (p + length (encode r)) rs ok.1 parts.1 (omega arith))

-- records of one list, then of another
pub encode_append : (rs more : List Record) → encode_all (rs ++ more) ≡ encode_all rs ++ encode_all more
unfolding encode_all
encode_append [] more = refl
encode_append (r ∷ rs) more = rw (encode_append rs more, append_assoc)

-- the updates of a transaction among them: the later ones, then the earlier ones
pub updates_append : (t p : ℕ) (rs more : List Record)
    → updates_in t (placed p (rs ++ more)) ≡ updates_in t (placed (p + length (encode_all rs)) more) ++ updates_in t (placed p rs)
unfolding updates_in placed encode_all
updates_append t p [] more =
    ap (λ (q : ℕ). updates_in t (placed q more)) (sym (add-zero p)) ∙ sym (append-nil (updates_in t (placed (p + 0) more)))
updates_append t p (r ∷ rs) more = go r (updates_append t (p + length (encode r)) rs more)
  where
    later : ℕ → List Update
    later q = updates_in t (placed q more)

    earlier : Record → List Update
    earlier q = updates_in t (placed (p + length (encode q)) rs)

    far : (q : Record) → p + length (encode q) + length (encode_all rs) ≡ p + length (encode q ++ encode_all rs)
    far q = omega (arith, length-append (encode q) (encode_all rs))

    go : (q : Record) → updates_in t (placed (p + length (encode q)) (rs ++ more)) ≡ later (p + length (encode q) + length (encode_all rs)) ++ earlier q
        → updates_in t (placed p (q ∷ rs ++ more)) ≡ later (p + length (encode q ++ encode_all rs)) ++ updates_in t (placed p (q ∷ rs))
    go (change kind page slot number copy diff) ih =
        let q : Record = change kind page slot number copy diff in
        let own : List Update = updates_in t (item p q end) in
        ap (λ (l : List Update). l ++ own) (ih ∙ ap (λ (n : ℕ). later n ++ earlier q) (far q))
        ∙ append_assoc (later (p + length (encode q ++ encode_all rs))) (earlier q) own
    go (close kind number) ih = ih ∙ ap (λ (n : ℕ). later n ++ earlier (close kind number)) (far (close kind number))

pub well_formed_append : (s : Sizes) (rs more : List Record) → AllWellFormed s rs → AllWellFormed s more → AllWellFormed s (rs ++ more)
well_formed_append s [] more h l = l
well_formed_append s (r ∷ rs) more h l = (h.0, well_formed_append s rs more h.1 l)

-- the log of a disk whose ring holds records from p up to the tail, and whose buffer has more of them
pub scan_log : (s : Sizes) (logs : List ℕ) (d p tail stop : ℕ) (rs more : List Record)
    → AllWellFormed s rs → AllWellFormed s more → Holds (λ q. get_or logs (ring_word s d q) 0) p (encode_all rs)
    → tail ≡ p + length (encode_all rs) → stop ≡ tail + length (encode_all more)
    → scan s (read_log s logs d tail (encode_all more)) stop p ≡ placed p (rs ++ more)
scan_log s logs d p tail stop rs more ok also h e f =
    scan_placed s (read_log s logs d tail (encode_all more)) stop p (rs ++ more) (well_formed_append s rs more ok also)
    (rw encode_append (read_holds s logs d tail (encode_all more) p (encode_all rs) e h))
    (rw encode_append (omega (arith, length-append (encode_all rs) (encode_all more))))

-- records stored in the ring of a disk that has room for them, at any position, are what the scan finds, and all that it finds
pub round_trip : (s : Sizes) (d p : ℕ) (rs : List Record) (w : World) → AllWellFormed s rs
    → disk_at s d + ring_of s d + 1 ≤ length w.logs → length (encode_all rs) ≤ ring_of s d
    → scan s (read_log s (perform (each (store_log s d) p (encode_all rs)) w).logs d (p + length (encode_all rs)) [])
    (p + length (encode_all rs)) p
    ≡ placed p rs
round_trip s d p rs w ok fits room =
    scan_placed s _ (p + length (encode_all rs)) p rs ok
    (holds_agree _ _ p (encode_all rs) (λ q l m. read_ring_lem s _ d _ [] q m) (lay_holds s d p (encode_all rs) w fits room)) refl
