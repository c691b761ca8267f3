-- What stands at a position of a log, with every malformed cause of No. 7.
use Rattle.std.specs.Prelude.{ℕ, zero, suc, ◌+◌, ◌-◌, ◌/◌, ◌%◌, List, [], ◌∷◌, Bool, cond, not, ◌||◌, length, get_or, leb, ltb, eqb, Some, None, Option}
use Rattle.model.specs.declared.Sizes.{Sizes}
use Rattle.model.specs.declared.Decoded.{Decoded}
use Rattle.model.specs.declared.Decoded.TheVariants.{Change, Close, Malformed}
use Rattle.model.specs.Sizes.{slots_in, width_in, ring_word}
use Rattle.model.specs.Record.{Record, change, close, encode, record_size}

-- A log is read through a function from position to word: below the tail the ring's word, from the tail on the buffer's.
unfoldable pub read_log : Sizes → List ℕ → ℕ → ℕ → List ℕ → ℕ → ℕ
read_log s logs disk tail buffer p = cond (ltb p tail) (get_or logs (ring_word s disk p) 0) (get_or buffer (p - tail) 0)

-- the n words from position p on
unfoldable pub span : (ℕ → ℕ) → ℕ → ℕ → List ℕ
span read p zero = []
span read p (suc n) = read p ∷ span read (p + 1) n

-- the fields of word 0
abbrev pub kind_field : ℕ → ℕ
kind_field w = w % 8

abbrev pub page_field : ℕ → ℕ
page_field w = w / 8 % 64

abbrev pub slot_field : ℕ → ℕ
slot_field w = w / 512 % 128

abbrev pub width_field : ℕ → ℕ
width_field w = w / 65536

-- "page, slot or length not the page's"
unfoldable pub misplaced : Sizes → ℕ → Bool
misplaced s w =
    leb s.pages (page_field w) || leb (slots_in s (page_field w)) (slot_field w)
    || not (eqb (width_field w) (width_in s (page_field w)))

-- a change by its first three words, with "page, slot or length not the page's"
abbrev pub decoded_change : Sizes → ℕ → ℕ → ℕ → ℕ → Decoded
decoded_change s w number copy next =
    cond (misplaced s w) Malformed
    (Change (kind_field w) (page_field w) (slot_field w) number copy (width_field w) next)

-- a closing record by its two words, with "set fields in a close"
abbrev pub decoded_close : ℕ → ℕ → ℕ → Decoded
decoded_close w number next = cond (eqb (w / 8) 0) (Close (kind_field w) number next) Malformed

-- a record of this size, whose first three words are w, number and copy, at position p of a log that ends at `end`
abbrev pub decode_sized : Sizes → ℕ → ℕ → ℕ → ℕ → ℕ → Option ℕ → Decoded
-- "kind above 3"
decode_sized s end p w number copy None = Malformed
decode_sized s end p w number copy (Some n) =
    -- "end past the tail"
    cond (ltb end (p + n)) Malformed
    -- "number 0"
    (cond (eqb number 0) Malformed
    (cond (ltb (kind_field w) 2) (decoded_change s w number copy (p + n)) (decoded_close w number (p + n))))

-- a record by its first three words (round_trip in proofs/RoundTrip.antt: what was encoded is decoded; decoding_kept in
-- proofs/RecordSizes.antt: as it was before S-6)
unfoldable pub decode_words : Sizes → ℕ → ℕ → ℕ → ℕ → ℕ → Decoded
decode_words s end p w number copy = decode_sized s end p w number copy (record_size (kind_field w) (width_field w))

unfoldable pub decode_at : Sizes → (ℕ → ℕ) → ℕ → ℕ → Decoded
decode_at s read end p = decode_words s end p (read p) (read (p + 1)) (read (p + 2))

-- what it says of a record that stands whole at p
abbrev pub decoded : ℕ → Record → Decoded
decoded p (change kind page slot number copy diff) =
    Change kind page slot number copy (length diff) (p + length (encode (change kind page slot number copy diff)))
decoded p (close kind number) = Close kind number (p + length (encode (close kind number)))
