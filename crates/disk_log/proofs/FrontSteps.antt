-- A record of a log by its first two words: what is found from its position on, and what is from the next.
use Rattle.std.specs.Prelude.{Option}
use Prim.Native.Nat.{ℕ, ◌+◌, ◌/◌, ◌%◌, ◌≤◌, ◌<◌, max}
use mathlib.Core.Path.{◌≡◌, refl, ap, subst, ◌∙◌}
use mathlib.Core.List.{[], ◌∷◌}
use mathlib.Core.Bool.{Bool, true, false, cond, ◌&&◌}
use native.Mathlib.Omega.{arith}
use native.Mathlib.Decide.{dec_lt}
use lib.Dec.{ltb, eqb}
use lib.ListN.{length}
use borrow.Author.Tests.{lt-ltb, le-ltb, ne_eqb}
use Rattle.model.specs.declared.Sizes.{Sizes}
use Rattle.model.specs.declared.Decoded.{Decoded}
use Rattle.model.specs.declared.Decoded.TheVariants.{Change, Close, Malformed}
use Rattle.model.specs.declared.BadRecord.{BadRecord}
use Rattle.model.specs.Sizes.{sizes_in_bounds}
use Rattle.model.specs.Record.{Record, change, close, update_kind, words_of}
use Rattle.model.specs.Decode.{span, kind_field, width_field, decode_words, decode_at}
use Rattle.model.specs.Scan.{Scan, bad, item, scan, and_then, ring_then_buffer, fault_in, Update, updates_in, update_words}
use Rattle.model.proofs.Booleans.{true_false}
use Rattle.model.proofs.Bounds.{bounded}
use Rattle.model.proofs.Decode.{found_change, found_close}
use Rattle.model.proofs.RecordSizes.{words_change, words_close}
use Rattle.model.proofs.Scan.{scan_end, scan_change, scan_close, scan_bad}
use Rattle.model.proofs.Restart.Gain.{length_span}
use Rattle.model.proofs.Updates.{update_words_none, update_words_first, update_words_append}
use Rattle.disk_log.specs.declared.front.Front.{Front}
use Rattle.disk_log.specs.Reading.{positions_in}
use Rattle.disk_log.specs.Front.{FrontAt, is_update_of, EndsAt, Measured}
use Rattle.disk_log.proofs.Fronts.{front_measures, Told, told}

-- What is found from p on, by what is found from a later position on, where b tells whether at p stands an update of the transaction.
pub record Step (s : Sizes) (t : ℕ) (here : Scan) (p size : ℕ) (b : Bool) (rest : Scan) : Type 0 where
  pub positions : positions_in t here ≡ cond b (p ∷ positions_in t rest) (positions_in t rest)
  pub words : update_words (updates_in t here) ≡ update_words (updates_in t rest) + cond b size 0
  pub faults : (disk : ℕ) (f : Option BadRecord) → fault_in disk here f ≡ fault_in disk rest f
  pub four : sizes_in_bounds s ≡ true → b ≡ true → 4 ≤ size

-- a change, and a closing record
module _ (s : Sizes) (t : ℕ) (read : ℕ → ℕ) (p : ℕ) where
  step_change : (kind page slot n copy width : ℕ) → (sizes_in_bounds s ≡ true → 1 ≤ width) → (rest : Scan)
      → Step s t (item p (change kind page slot n copy (span read (p + 3) width)) rest) p (3 + width) (eqb kind update_kind && eqb n t) rest
  unfolding positions_in updates_in fault_in
  step_change kind page slot n copy width some rest =
      record {
        positions = refl;
        words = update_words_append (updates_in t rest) _ ∙ ap (λ (x : ℕ). update_words (updates_in t rest) + x) (go (eqb kind update_kind && eqb n t));
        faults = λ disk f. refl;
        four = λ sound e. omega (arith, some sound);
      }
    where
      u : Update
      u = record { position = p; page = page; slot = slot; diff = span read (p + 3) width }

      go : (b : Bool) → update_words (cond b (u ∷ []) []) ≡ cond b (3 + width) 0
      go true = omega (arith, update_words_first u [], update_words_none, length_span read (p + 3) width)
      go false = update_words_none

  step_close : (kind n : ℕ) {b : Bool} → b ≡ false → (rest : Scan) → Step s t (item p (close kind n) rest) p 2 b rest
  unfolding positions_in updates_in fault_in
  step_close kind n e rest = rw e (record { positions = refl; words = omega arith; faults = λ disk f. refl; four = λ sound x. true_false x refl })

-- At p stands a record, and behind it the rest.
pub record Stands (s : Sizes) (t : ℕ) (here : Scan) (p size : ℕ) (b : Bool) (rest : Scan) : Type 0 where
  pub content : Record
  pub is : here ≡ item p content rest
  pub step : (more : Scan) → Step s t (item p content more) p size b more

pub stands_step : {s : Sizes} {t : ℕ} {here : Scan} {p size : ℕ} {b : Bool} {rest : Scan} → Stands s t here p size b rest → Step s t here p size b rest
stands_step {rest = rest} at = rw at.is (at.step rest)

-- one record of a scan
module _ (s : Sizes) (read : ℕ → ℕ) (stop t : ℕ) {p : ℕ} (h : p < stop) {f : Front} (first : f.first ≡ read p)
    (number : p + 1 < stop → f.number ≡ read (p + 1)) (words : ℕ) (fits : p + words ≤ stop) where
  stands_by : EndsAt (p + words) (decode_at s read stop p) → (d : Decoded) → decode_at s read stop p ≡ d
      → Stands s t (scan s read stop p) p words (is_update_of t f) (scan s read stop (p + words))
  stands_by ends (Change kind page slot n copy width next) e =
      let c = found_change s read stop e in
      let to : next ≡ p + words = subst (λ (d : Decoded). EndsAt (p + words) d) e ends in
      let said = subst (λ (d : Decoded). Told (read p) (read (p + 1)) d) e (told s read stop p) in
      let size : 3 + width ≡ words = omega (arith, c.next_eq) in
      let is : eqb kind update_kind && eqb n t ≡ is_update_of t f = rw (said.0, said.1, first, number (omega arith)) refl in
      record {
        content = change kind page slot n copy (span read (p + 3) width);
        is = scan_change s read stop h e ∙ rw to refl;
        step = rw (← is, ← size)
            (step_change s t read p kind page slot n copy width
            (λ sound. omega (arith, c.width_eq, ((bounded s sound).used page c.page_in).width_min)));
      }
  stands_by ends (Close kind n next) e =
      let c = found_close s read stop e in
      let to : next ≡ p + words = subst (λ (d : Decoded). EndsAt (p + words) d) e ends in
      let said = subst (λ (d : Decoded). Told (read p) (read (p + 1)) d) e (told s read stop p) in
      let size : 2 ≡ words = omega (arith, c.next_eq) in
      let other : kind_field f.first ≡ update_kind → ⊥ = λ x. omega (arith, c.kind_ge, said, first) in
      record {
        content = close kind n;
        is = scan_close s read stop h e ∙ rw to refl;
        step = rw (← size) (step_close s t read p kind n (rw (ne_eqb (kind_field f.first) update_kind other) refl));
      }
  stands_by ends Malformed e = absurd (subst (λ (d : Decoded). EndsAt (p + words) d) e ends)

  pub stands : EndsAt (p + words) (decode_at s read stop p) → Stands s t (scan s read stop p) p words (is_update_of t f) (scan s read stop (p + words))
  stands ends = stands_by ends (decode_at s read stop p) refl

-- where an update is still to be found, a record stands, and its first word tells its words
module _ (s : Sizes) (read : ℕ → ℕ) (stop t p : ℕ) where
  abbrev size : ℕ
  size = words_of (kind_field (read p)) (width_field (read p))

  pub record More : Type 0 where
    pub inside : p < stop
    pub fits : p + size ≤ stop
    pub two : 2 ≤ size
    pub ends : EndsAt (p + size) (decode_at s read stop p)

  more_by : p < stop → 0 < length (positions_in t (scan s read stop p)) → (d : Decoded) → decode_at s read stop p ≡ d → More
  unfolding positions_in
  more_by h some (Change kind page slot n copy width next) e =
      let c = found_change s read stop e in
      let said = subst (λ (d : Decoded). Told (read p) (read (p + 1)) d) e (told s read stop p) in
      let long : size ≡ 3 + width = rw (← said.0, ← said.2) (words_change kind width c.kind_lt) in
      record {
        inside = h;
        fits = omega (arith, long, c.next_eq, c.next_le);
        two = omega (arith, long);
        ends = rw e (omega (arith, long, c.next_eq));
      }
  more_by h some (Close kind n next) e =
      let c = found_close s read stop e in
      let said = subst (λ (d : Decoded). Told (read p) (read (p + 1)) d) e (told s read stop p) in
      let long : size ≡ 2 = rw (← said) (words_close kind (width_field (read p)) c.kind_ge c.kind_lt) in
      record { inside = h; fits = omega (arith, long, c.next_eq, c.next_le); two = omega (arith, long); ends = rw e (omega (arith, long, c.next_eq)) }
  more_by h some Malformed e = absurd (omega (arith, some, ap (λ (x : Scan). length (positions_in t x)) (scan_bad s read stop h e)))

  pub more_at : 0 < length (positions_in t (scan s read stop p)) → More
  unfolding positions_in
  more_at some = go (dec_lt p stop)
    where
      go : Dec (p < stop) → More
      go (yes h) = more_by h some (decode_at s read stop p) refl
      go (no h) = absurd (omega (arith, some, ap (λ (x : Scan). length (positions_in t x)) (scan_end s read stop p (omega arith))))

-- and it is passed, or is an update
module _ (s : Sizes) (read : ℕ → ℕ) (stop t : ℕ) {p : ℕ} {f : Front} (front : FrontAt read stop p f) {words : ℕ}
    (is : words ≡ words_of (f.first % 8) (f.first / 65536)) (some : 0 < length (positions_in t (scan s read stop p))) where
  words_there : words ≡ words_of (kind_field (read p)) (width_field (read p))
  words_there = is ∙ ap (λ (w : ℕ). words_of (w % 8) (w / 65536)) front.first

  pub more_fits : (p + words ≤ stop) × (2 ≤ words)
  more_fits = let m = more_at s read stop t p some in (omega (arith, m.fits, words_there), omega (arith, m.two, words_there))

  pub more_step : Step s t (scan s read stop p) p words (is_update_of t f) (scan s read stop (p + words))
  more_step =
      let m = more_at s read stop t p some in
      rw words_there (stands_step (stands s read stop t m.inside front.first front.number _ m.fits m.ends))

-- one record of a log that is read up to the tail and then on
module _ (s : Sizes) (read : ℕ → ℕ) (tail stop t : ℕ) (within : tail ≤ stop) where
  abbrev parts : ℕ → Scan
  parts p = ring_then_buffer s read tail stop p

  parts_before : (p : ℕ) → p ≤ tail → parts p ≡ and_then (scan s read tail p) (scan s read stop tail)
  unfolding ring_then_buffer
  parts_before p h = let from : max tail p ≡ tail = omega arith in rw from refl

  parts_behind : (p : ℕ) → tail ≤ p → parts p ≡ scan s read stop p
  unfolding ring_then_buffer and_then
  parts_behind p h = let from : max tail p ≡ p = omega arith in rw (scan_end s read tail p h, from) refl

  module _ {p : ℕ} (h : p < stop) {to : ℕ} (is : to ≡ cond (ltb p tail) tail stop) {f : Front} (front : FrontAt read stop p f) {size : ℕ}
      (by : (copy : ℕ) → Measured (decode_words s to p f.first f.number copy) to p size) where
    to_tail : p < tail → to ≡ tail
    to_tail k = is ∙ rw (lt-ltb p tail k) refl

    to_stop : tail ≤ p → to ≡ stop
    to_stop k = is ∙ rw (le-ltb p tail k) refl

    measures : Measured (decode_at s read to p) to p size
    measures = go (dec_lt p tail)
      where
        go : Dec (p < tail) → Measured (decode_at s read to p) to p size
        go (yes k) = front_measures s read stop to p (omega (arith, to_tail k)) front size (by (read (p + 2)))
        go (no k) = front_measures s read stop to p (omega (arith, to_stop (omega arith))) front size (by (read (p + 2)))

    part_malformed : decode_at s read to p ≡ Malformed → parts p ≡ bad p
    unfolding and_then
    part_malformed e = go (dec_lt p tail)
      where
        go : Dec (p < tail) → parts p ≡ bad p
        go (yes k) = rw (parts_before p (omega arith), scan_bad s read tail k (rw (to_tail k) at e)) refl
        go (no k) = parts_behind p (omega arith) ∙ scan_bad s read stop h (rw (to_stop (omega arith)) at e)

    pub part_none : size ≡ 0 → parts p ≡ bad p
    part_none z = part_malformed (measures.none z)

    pub part_past : to < p + size → parts p ≡ bad p
    part_past l = part_malformed (measures.past l)

    pub part_step : (size ≡ 0 → ⊥) → p + size ≤ to → Step s t (parts p) p size (is_update_of t f) (parts (p + size))
    unfolding and_then
    part_step some fits = go (dec_lt p tail) (measures.whole (omega arith) fits)
      where
        go : Dec (p < tail) → EndsAt (p + size) (decode_at s read to p) → Step s t (parts p) p size (is_update_of t f) (parts (p + size))
        go (yes k) ends =
            let low : p + size ≤ tail = omega (arith, to_tail k) in
            let at = stands s read tail t k front.first (λ l. front.number (omega arith)) size low (rw (to_tail k) at ends) in
            rw (parts_before p (omega arith), parts_before (p + size) low, at.is) (at.step (and_then (scan s read tail (p + size)) (scan s read stop tail)))
        go (no k) ends =
            let high : p + size ≤ stop = omega (arith, to_stop (omega arith)) in
            rw (parts_behind p (omega arith), parts_behind (p + size) (omega arith))
            (stands_step (stands s read stop t h front.first front.number size high (rw (to_stop (omega arith)) at ends)))
