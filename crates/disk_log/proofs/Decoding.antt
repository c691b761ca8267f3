-- What is decoded, by the decoder's tests in their order.
use Rattle.std.specs.Prelude.{Some, None}
use Prim.Native.Nat.{ℕ, ◌+◌, ◌/◌, ◌%◌, ◌≤◌, ◌<◌}
use mathlib.Core.Path.{◌≡◌, refl}
use mathlib.Core.Bool.{true, false}
use borrow.Author.Tests.{lt-ltb, le-ltb, eq-eqb, ne_eqb}
use Rattle.model.specs.declared.Sizes.{Sizes}
use Rattle.model.specs.declared.Decoded.TheVariants.{Change, Malformed}
use Rattle.model.specs.Record.{record_size}
use Rattle.model.specs.Decode.{kind_field, page_field, slot_field, width_field, misplaced, decoded_change, decoded_close, decode_words}

module _ (s : Sizes) (stop p w number copy : ℕ) where
  pub decode_none : record_size (w % 8) (w / 65536) ≡ None → Malformed ≡ decode_words s stop p w number copy
  unfolding decode_words
  decode_none none = rw none refl

  module _ (size : ℕ) (is : record_size (w % 8) (w / 65536) ≡ Some size) where
    pub decode_past : stop < p + size → Malformed ≡ decode_words s stop p w number copy
    unfolding decode_words
    decode_past l = simp (is, lt-ltb stop (p + size) l)

    module _ (fits : p + size ≤ stop) where
      pub decode_zero : number ≡ 0 → Malformed ≡ decode_words s stop p w number copy
      unfolding decode_words
      decode_zero z = simp (is, le-ltb stop (p + size) fits, eq-eqb number 0 z)

      module _ (pos : number ≡ 0 → ⊥) where
        pub decode_is_change : w % 8 < 2 → decoded_change s w number copy (p + size) ≡ decode_words s stop p w number copy
        unfolding decode_words
        decode_is_change k = simp (is, le-ltb stop (p + size) fits, ne_eqb number 0 pos, lt-ltb (w % 8) 2 k)

        pub decode_misplaced : w % 8 < 2 → misplaced s w ≡ true → Malformed ≡ decode_words s stop p w number copy
        decode_misplaced k m = rw m at (decode_is_change k)

        pub decode_placed : w % 8 < 2 → misplaced s w ≡ false
            → Change (kind_field w) (page_field w) (slot_field w) number copy (width_field w) (p + size) ≡ decode_words s stop p w number copy
        decode_placed k m = rw m at (decode_is_change k)

        pub decode_is_close : 2 ≤ w % 8 → decoded_close w number (p + size) ≡ decode_words s stop p w number copy
        unfolding decode_words
        decode_is_close k = simp (is, le-ltb stop (p + size) fits, ne_eqb number 0 pos, le-ltb (w % 8) 2 k)
