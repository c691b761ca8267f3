-- A record by its first two words: a position within a turn of the ring, and what is decoded by the two words.
use Rattle.std.specs.Prelude.{Some, None}
use Prim.Native.Nat.{ℕ, ◌+◌, ◌-◌, ◌*◌, ◌/◌, ◌%◌, ◌≤◌, ◌<◌}
use mathlib.Core.Path.{◌≡◌, refl, sym, ap, subst, ◌∙◌}
use mathlib.Core.List.{List}
use mathlib.Core.Bool.{true, false}
use native.Mathlib.Omega.{arith}
use native.Mathlib.Nat.{mod-eq_of_lt, mod-add-mod, zero-mod, div-add-mod, mul-mod_right}
use native.Mathlib.Decide.{dec_lt}
use lib.ListN.{get_or}
use borrow.Author.Tests.{lt-ltb, eq-eqb}
use Rattle.model.specs.declared.Sizes.{Sizes}
use Rattle.model.specs.declared.Decoded.{Decoded}
use Rattle.model.specs.declared.Decoded.TheVariants.{Change, Close, Malformed}
use Rattle.model.specs.Sizes.{ring_word}
use Rattle.model.specs.Record.{record_size}
use Rattle.model.specs.Decode.{read_log, kind_field, width_field, misplaced, decode_words, decode_at}
use Rattle.model.proofs.Booleans.{true_false}
use Rattle.model.proofs.RecordSizes.{has_size}
use Rattle.model.proofs.Decode.{Formed, decoded_all}
use Rattle.disk_log.specs.declared.front.Turn.{Turn}
use Rattle.disk_log.specs.declared.front.Front.{Front}
use Rattle.disk_log.specs.Reading.{LiesAt}
use Rattle.disk_log.specs.Front.{InTurn, FrontAt, EndsAt, Measured}
use Rattle.disk_log.proofs.Decoding.{decode_none, decode_past, decode_is_change, decode_is_close}

-- the turn that a position lies in, up to a position; none; and a turn for a later position
pub turn_here : (ring tail p near : ℕ) → near ≤ tail → near ≤ p - p % ring + ring → InTurn ring tail p (record { low = p - p % ring; near = near })
turn_here ring tail p near before one =
    let start : p - p % ring ≡ ring * (p / ring) = omega (arith, div-add-mod p ring) in
    record { at_first = rw start (mul-mod_right ring (p / ring)); begun = omega arith; before_tail = before; one_turn = one }

pub turn_none : (ring tail p : ℕ) → InTurn ring tail p (record { low = 0; near = 0 })
turn_none ring tail p = record { at_first = zero-mod ring; begun = omega arith; before_tail = omega arith; one_turn = omega arith }

pub turn_later : {ring tail p : ℕ} {t : Turn} → InTurn ring tail p t → (q : ℕ) → p ≤ q → InTurn ring tail q t
turn_later turn q h = record { at_first = turn.at_first; begun = omega (arith, turn.begun); before_tail = turn.before_tail; one_turn = turn.one_turn }

-- the ring word of a position within a turn
pub turn_word : {ring tail p : ℕ} {t : Turn} → InTurn ring tail p t → (q : ℕ) → t.low ≤ q → q < t.near → q - t.low ≡ q % ring
turn_word {ring} {t = t} turn q h k =
    let low : q - t.low < ring = omega (arith, turn.one_turn) in
    let sum : t.low + (q - t.low) ≡ q = omega arith in
    let zero : q - t.low ≡ 0 + (q - t.low) = omega arith in
    sym (mod-eq_of_lt low) ∙ ap (λ (x : ℕ). x % ring) zero ∙ ap (λ (x : ℕ). (x + (q - t.low)) % ring) (sym turn.at_first) ∙ mod-add-mod t.low ring (q - t.low)
    ∙ ap (λ (x : ℕ). x % ring) sum

-- what is read there
module _ (s : Sizes) (logs : List ℕ) (disk tail : ℕ) (buffer : List ℕ) {place ring : ℕ} (lies : LiesAt s disk place ring) where
  pub turn_read : {p : ℕ} {t : Turn} → InTurn ring tail p t → (q at : ℕ) → t.low ≤ q → q < t.near → at ≡ place + 1 + (q - t.low)
      → get_or logs at 0 ≡ read_log s logs disk tail buffer q
  unfolding read_log ring_word
  turn_read turn q at h k is =
      let there : at ≡ place + 1 + q % ring = omega (arith, turn_word turn q h k) in
      rw (lies.same_place, lies.same_ring, there) (simp (lt-ltb q tail (omega (arith, turn.before_tail))))

module _ (s : Sizes) (stop p w n copy : ℕ) where
  abbrev here : Decoded
  here = decode_words s stop p w n copy

  -- malformed, if neither a change nor a closing record can stand here
  malformed : (kind_field w < 2 → Formed stop p n (3 + width_field w) → misplaced s w ≡ false → ⊥)
      → (2 ≤ kind_field w → kind_field w < 4 → Formed stop p n 2 → w / 8 ≡ 0 → ⊥) → here ≡ Malformed
  malformed no_change no_close =
      decoded_all (λ (d : Decoded). d ≡ Malformed) s stop p w n copy refl (λ k f m. absurd (no_change k f m)) (λ k l f z. absurd (no_close k l f z))

  no_words : here ≡ Malformed → Measured here stop p 0
  no_words e = record { none = λ _. e; past = λ _. e; whole = λ h. absurd (omega arith) }

  pub measured_zero : n ≡ 0 → Measured here stop p 0
  measured_zero z = no_words (malformed (λ k f m. f.numbered z) (λ k l f y. f.numbered z))

  pub measured_none : record_size (w % 8) (w / 65536) ≡ None → Measured here stop p 0
  measured_none e = no_words (sym (decode_none s stop p w n copy e))

  pub measured_outside : w % 8 < 2 → misplaced s w ≡ true → Measured here stop p 0
  measured_outside k outside = no_words (malformed (λ _ f m. true_false outside m) (λ h l f z. absurd (omega arith)))

  pub measured_set : 2 ≤ w % 8 → (w / 8 ≡ 0 → ⊥) → Measured here stop p 0
  measured_set k set = no_words (malformed (λ h f m. absurd (omega arith)) (λ h l f z. set z))

  module _ (pos : n ≡ 0 → ⊥) (size : ℕ) (is : record_size (w % 8) (w / 65536) ≡ Some size) where
    measured_whole : (p + size ≤ stop → EndsAt (p + size) here) → Measured here stop p size
    measured_whole ends =
        record {
          none = λ z. absurd (omega (arith, (has_size (w % 8) (w / 65536) size is).least));
          past = λ l. sym (decode_past s stop p w n copy size is l);
          whole = λ _ fits. ends fits;
        }

    pub measured_change : w % 8 < 2 → misplaced s w ≡ false → Measured here stop p size
    measured_change k m =
        measured_whole
        (λ fits. subst (λ (d : Decoded). EndsAt (p + size) d) (decode_is_change s stop p w n copy size is fits pos k) (rw m refl))

    pub measured_close : 2 ≤ w % 8 → w / 8 ≡ 0 → Measured here stop p size
    measured_close k unset =
        measured_whole
        (λ fits.
        subst (λ (d : Decoded). EndsAt (p + size) d) (decode_is_close s stop p w n copy size is fits pos k)
        (rw (eq-eqb (w / 8) 0 unset) refl))

  -- a record has two words or more
  pub short_malformed : stop < p + 2 → here ≡ Malformed
  short_malformed l = malformed (λ k f m. absurd (omega (arith, f.fits))) (λ k h f z. absurd (omega (arith, f.fits)))

-- the second word counts only where it lies before the stop
module _ (s : Sizes) (read : ℕ → ℕ) (end stop p : ℕ) (within : stop ≤ end) {f : Front} (front : FrontAt read end p f) (words : ℕ) where
  pub front_measures : Measured (decode_words s stop p f.first f.number (read (p + 2))) stop p words → Measured (decode_at s read stop p) stop p words
  unfolding decode_at
  front_measures m = go (dec_lt (p + 1) stop)
    where
      go : Dec (p + 1 < stop) → Measured (decode_words s stop p (read p) (read (p + 1)) (read (p + 2))) stop p words
      go (yes l) = rw (front.first, front.number (omega arith)) at m
      go (no l) =
          let bad : decode_words s stop p (read p) (read (p + 1)) (read (p + 2)) ≡ Malformed = short_malformed s stop p _ _ _ (omega arith) in
          record {
            none = λ _. bad;
            past = λ _. bad;
            whole = λ h fits.
                absurd (subst (λ (d : Decoded). EndsAt (p + words) d) (short_malformed s stop p _ _ _ (omega arith)) (m.whole h fits));
          }

-- the kind and the number of what is decoded are those of the two words
abbrev pub Told : ℕ → ℕ → Decoded → Type 0
Told w n (Change kind page slot number copy width next) = (kind ≡ kind_field w) × (number ≡ n) × (width ≡ width_field w)
Told w n (Close kind number next) = kind ≡ kind_field w
Told w n Malformed = Unit {0}

pub told : (s : Sizes) (read : ℕ → ℕ) (stop p : ℕ) → Told (read p) (read (p + 1)) (decode_at s read stop p)
unfolding decode_at
told s read stop p =
    decoded_all (λ (d : Decoded). Told (read p) (read (p + 1)) d) s stop p (read p) (read (p + 1)) (read (p + 2)) tt
    (λ k f m. (refl, refl, refl)) (λ k l f z. refl)
