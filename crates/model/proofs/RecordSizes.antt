-- 01's record table as cases (02, S-6): the size of each kind, and what a size tells.
use Rattle.std.specs.Prelude.{Some, None, Option}
use Prim.Native.Nat.{ℕ, ◌+◌, ◌/◌, ◌≤◌, ◌<◌}
use mathlib.Core.Path.{◌≡◌, refl, sym, ap, ◌∙◌}
use mathlib.Core.Bool.{cond}
use native.Mathlib.Omega.{arith}
use native.Mathlib.Decide.{ℕ_discrete, dec_lt}
use lib.ListN.{length}
use lib.Dec.{ltb, eqb}
use borrow.Author.Tests.{lt-ltb, le-ltb, ne_eqb}
use Rattle.model.specs.declared.Sizes.{Sizes}
use Rattle.model.specs.declared.Decoded.{Decoded}
use Rattle.model.specs.declared.Decoded.TheVariants.{Change, Close, Malformed}
use Rattle.model.specs.Record.{Record, change, close, encode, update_kind, compensation_kind, commit_kind, abort_kind, record_size, size_words, words_of}
use Rattle.model.specs.Decode.{kind_field, page_field, slot_field, width_field, misplaced, decode_words, decode_at}

pub size_change : (kind width : ℕ) → kind < 2 → record_size kind width ≡ Some (3 + width)
unfolding record_size
size_change kind width h = go (ℕ_discrete kind 0)
  where
    go : Dec (kind ≡ 0) → record_size kind width ≡ Some (3 + width)
    go (yes e) = rw e refl
    go (no e) = let one : kind ≡ 1 = omega arith in rw one refl

pub size_close : (kind width : ℕ) → 2 ≤ kind → kind < 4 → record_size kind width ≡ Some 2
unfolding record_size
size_close kind width h l = go (ℕ_discrete kind 2)
  where
    go : Dec (kind ≡ 2) → record_size kind width ≡ Some 2
    go (yes e) = rw e refl
    go (no e) = let three : kind ≡ 3 = omega arith in rw three refl

size_none : (kind width : ℕ) → 3 < kind → record_size kind width ≡ None
unfolding record_size
size_none kind width h =
    rw (ne_eqb kind 0 (omega arith), ne_eqb kind 1 (omega arith), ne_eqb kind 2 (omega arith), ne_eqb kind 3 (omega arith)) refl

-- What a size tells: the kind is one of the four, and which of the two sizes it is.
pub record HasSize (kind width n : ℕ) : Type 0 where
  pub kind_lt : kind < 4
  pub if_change : kind < 2 → n ≡ 3 + width
  pub if_close : 2 ≤ kind → n ≡ 2
  pub least : 2 ≤ n
  pub most : n ≤ 3 + width

same_words : {m n : ℕ} → Some m ≡ Some n → n ≡ m
same_words e = sym (ap size_words e)

pub has_size : (kind width n : ℕ) → record_size kind width ≡ Some n → HasSize kind width n
has_size kind width n e = go (dec_lt kind 2) (dec_lt kind 4)
  where
    go : Dec (kind < 2) → Dec (kind < 4) → HasSize kind width n
    go (yes k) l =
        let is : n ≡ 3 + width = same_words (sym (size_change kind width k) ∙ e) in
        record { kind_lt = omega arith; if_change = λ _. is; if_close = λ h. absurd (omega arith); least = omega arith; most = omega arith }
    go (no k) (yes l) =
        let is : n ≡ 2 = same_words (sym (size_close kind width (omega arith) l) ∙ e) in
        record { kind_lt = l; if_change = λ h. absurd (omega arith); if_close = λ _. is; least = omega arith; most = omega arith }
    go (no k) (no l) =
        let none : None ≡ Some n = sym (size_none kind width (omega arith)) ∙ e in
        let z : ◌≡◌ {A = ℕ} 0 1 = cc in
        absurd (omega arith)

-- the words of a change, and of a closing record
pub words_change : (kind width : ℕ) → kind < 2 → words_of kind width ≡ 3 + width
unfolding words_of
words_change kind width h = ap size_words (size_change kind width h)

pub words_close : (kind width : ℕ) → 2 ≤ kind → kind < 4 → words_of kind width ≡ 2
unfolding words_of
words_close kind width h l = ap size_words (size_close kind width h l)

pub words_most : (kind width : ℕ) → words_of kind width ≤ 3 + width
unfolding words_of
words_most kind width = go (record_size kind width) refl
  where
    go : (z : Option ℕ) → record_size kind width ≡ z → size_words z ≤ 3 + width
    go None e = omega arith
    go (Some n) e = (has_size kind width n e).most

-- The size of a record is the number of words that it is written with, a change being of kind 0 or 1 and a closing record of 2 or 3.
abbrev pub SizeWritten : Record → Type 0
SizeWritten (change kind page slot number copy diff) =
    kind < 2 → record_size kind (length diff) ≡ Some (length (encode (change kind page slot number copy diff)))
SizeWritten (close kind number) = (2 ≤ kind) × (kind < 4) → record_size kind 0 ≡ Some (length (encode (close kind number)))

pub size_written : (r : Record) → SizeWritten r
unfolding encode
size_written (change kind page slot number copy diff) = λ k. size_change kind (length diff) k ∙ ap (λ (n : ℕ). Some n) (omega arith)
size_written (close kind number) = λ k. size_close kind 0 k.0 k.1

-- 01's table, kind by kind, and no size above 3.
pub record SizeTable : Type 0 where
  pub update : (width : ℕ) → record_size update_kind width ≡ Some (3 + width)
  pub compensation : (width : ℕ) → record_size compensation_kind width ≡ Some (3 + width)
  pub commit : (width : ℕ) → record_size commit_kind width ≡ Some 2
  pub abort : (width : ℕ) → record_size abort_kind width ≡ Some 2
  pub above : (kind width : ℕ) → 3 < kind → record_size kind width ≡ None

pub record_sizes : SizeTable
record_sizes =
    record {
      update = λ width. size_change update_kind width (omega arith);
      compensation = λ width. size_change compensation_kind width (omega arith);
      commit = λ width. size_close commit_kind width (omega arith) (omega arith);
      abort = λ width. size_close abort_kind width (omega arith) (omega arith);
      above = size_none;
    }

-- Decoding as it stood before S-6: a test for a kind above 3, and the words by one test of the kind.
unfoldable pub words_before : ℕ → ℕ → ℕ
words_before kind width = cond (ltb kind 2) (3 + width) 2

unfoldable pub decoded_before : Sizes → ℕ → ℕ → ℕ → ℕ → ℕ → Decoded
decoded_before s end p w number copy =
    cond (ltb 3 (kind_field w)) Malformed
    (cond (ltb end (p + words_before (kind_field w) (width_field w))) Malformed
    (cond (eqb number 0) Malformed
    (cond (ltb (kind_field w) 2)
    (cond (misplaced s w) Malformed
    (Change (kind_field w) (page_field w) (slot_field w) number copy (width_field w) (p + words_before (kind_field w) (width_field w))))
    (cond (eqb (w / 8) 0) (Close (kind_field w) number (p + words_before (kind_field w) (width_field w))) Malformed))))

-- the four kinds have the words that they had
pub sizes_kept : (kind width : ℕ) → kind < 4 → record_size kind width ≡ Some (words_before kind width)
unfolding words_before
sizes_kept kind width l = go (dec_lt kind 2)
  where
    go : Dec (kind < 2) → record_size kind width ≡ Some (words_before kind width)
    go (yes k) = rw (lt-ltb kind 2 k) (size_change kind width k)
    go (no k) = rw (le-ltb kind 2 (omega arith)) (size_close kind width (omega arith) l)

-- "Results and contract do not change": for every three words, every position and every end, what is decoded is what it was.
words_kept : (s : Sizes) (end p w number copy : ℕ) → decode_words s end p w number copy ≡ decoded_before s end p w number copy
unfolding decode_words decoded_before
words_kept s end p w number copy = go (dec_lt 3 (kind_field w))
  where
    go : Dec (3 < kind_field w) → decode_words s end p w number copy ≡ decoded_before s end p w number copy
    go (yes k) = rw (size_none (kind_field w) (width_field w) k, lt-ltb 3 (kind_field w) k) refl
    go (no k) = rw (sizes_kept (kind_field w) (width_field w) (omega arith), le-ltb 3 (kind_field w) (omega arith)) refl

pub decoding_kept : (s : Sizes) (read : ℕ → ℕ) (end p : ℕ)
    → decode_at s read end p ≡ decoded_before s end p (read p) (read (p + 1)) (read (p + 2))
unfolding decode_at
decoding_kept s read end p = words_kept s end p (read p) (read (p + 1)) (read (p + 2))
