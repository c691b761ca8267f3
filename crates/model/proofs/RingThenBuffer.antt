-- A log read up to the tail and then on: what is found, and when it is the log read as one.
use Rattle.std.specs.Prelude.{Some, None, Option}
use Prim.Native.Nat.{ℕ, zero, suc, ◌+◌, ◌-◌, ◌≤◌, ◌<◌, max}
use mathlib.Core.Path.{◌≡◌, refl, sym, ap, ◌∙◌}
use mathlib.Core.List.Memᴰ
use mathlib.Core.Bool.{Bool, true, false, cond}
use native.Mathlib.Omega.{arith}
use native.Mathlib.Decide.{dec_lt}
use lib.Dec.{ltb}
use borrow.Author.Tests.{le-ltb, ltb-false}
use Rattle.model.specs.declared.Sizes.{Sizes}
use Rattle.model.specs.declared.Decoded.{Decoded}
use Rattle.model.specs.declared.Decoded.TheVariants.{Change, Close, Malformed}
use Rattle.model.specs.declared.BadRecord.{BadRecord}
use Rattle.model.specs.Record.{change, close, record_size}
use Rattle.model.specs.Decode.{span, kind_field, width_field, decode_sized, decode_words, decode_at}
use Rattle.model.specs.Scan.{Scan, end, bad, item, scan, and_then, ring_then_buffer, fault_in}
use Rattle.model.proofs.Members.{Every, every_cons}
use Rattle.model.proofs.Decode.{found_change, found_close}
use Rattle.model.proofs.Scan.{scan_end, scan_change, scan_close, scan_bad}
use Rattle.model.proofs.Reading.{Item, items, ending, Rises, rises_sooner, scan_rises, scan_before}

-- A scan behind another: its faults, how the first ends, its records and their positions.
pub then_fault : (disk : ℕ) (a b : Scan) (rest : Option BadRecord) → fault_in disk (and_then a b) rest ≡ fault_in disk a (fault_in disk b rest)
unfolding and_then fault_in
then_fault disk end b rest = refl
then_fault disk (bad p) b rest = refl
then_fault disk (item p r more) b rest = then_fault disk more b rest

then_ending : (a b : Scan) → ending (and_then a b) ≡ end → ending a ≡ end
unfolding and_then ending
then_ending end b h = refl
then_ending (bad p) b h = h
then_ending (item p r more) b h = then_ending more b h

pub then_items : (P : Item → Type 0) (a b : Scan) → Every P (items a) → Every P (items b) → Every P (items (and_then a b))
unfolding and_then items
then_items P end b h k = k
then_items P (bad p) b h k = h
then_items P (item p r more) b h k =
    every_cons P (record { position = p; content = r }) (items (and_then more b)) (h _ (Memᴰ.head refl))
    (then_items P more b (λ i m. h i (Memᴰ.tail m)) k)

then_rises : (m k : ℕ) (a b : Scan) → m ≤ k → Rises m a → Every (λ i. i.position < k) (items a) → Rises k b → Rises m (and_then a b)
unfolding and_then items
then_rises m k end b l h low g = rises_sooner m k b l g
then_rises m k (bad p) b l h low g = h
then_rises m k (item p r more) b l h low g =
    (h.0, then_rises (suc p) k more b (low _ (Memᴰ.head refl)) h.1 (λ i x. low i (Memᴰ.tail x)) g)

-- A record that ends before the tail is the same where the log goes on behind it.
further : (b c : Bool) (x : Decoded) → (cond b Malformed x ≡ Malformed → ⊥) → (b ≡ false → c ≡ false) → cond c Malformed x ≡ cond b Malformed x
further true c x formed later = absurd (formed refl)
further false c x formed later = rw (later refl) refl

module _ (s : Sizes) (read : ℕ → ℕ) (tail stop : ℕ) (within : tail ≤ stop) where
  decode_further : (p : ℕ) → (decode_at s read tail p ≡ Malformed → ⊥) → decode_at s read stop p ≡ decode_at s read tail p
  unfolding decode_at decode_words
  decode_further p formed = go (record_size (kind_field (read p)) (width_field (read p))) formed
    where
      at : ℕ → Option ℕ → Decoded
      at to z = decode_sized s to p (read p) (read (p + 1)) (read (p + 2)) z

      go : (z : Option ℕ) → (at tail z ≡ Malformed → ⊥) → at stop z ≡ at tail z
      go None h = refl
      go (Some n) h = further (ltb tail (p + n)) (ltb stop (p + n)) _ h (λ e. le-ltb stop (p + n) (omega (arith, ltb-false tail (p + n) e)))

  -- Where no record that begins before the tail is malformed, or none at all, the log is read as one.
  through : (n p : ℕ) → tail - p ≤ n → p ≤ tail → ending (scan s read tail p) ≡ end
      → and_then (scan s read tail p) (scan s read stop tail) ≡ scan s read stop p
  unfolding and_then ending
  through zero p few low well =
      let here : p ≡ tail = omega arith in
      rw (scan_end s read tail p (omega arith), here) refl
  through (suc n) p few low well =
      go (dec_lt p tail) (decode_at s read tail p) refl (λ q more l. through n q (omega arith) l)
    where
      whole : Scan
      whole = scan s read stop tail

      go : Dec (p < tail) → (d : Decoded) → decode_at s read tail p ≡ d
          → ((q : ℕ) → p < q → q ≤ tail → ending (scan s read tail q) ≡ end → and_then (scan s read tail q) whole ≡ scan s read stop q)
          → and_then (scan s read tail p) whole ≡ scan s read stop p
      go (no k) d e later =
          let here : p ≡ tail = omega arith in
          rw (scan_end s read tail p (omega arith), here) refl
      go (yes k) (Change kind page slot number copy width next) e later =
          let f = found_change s read tail e in
          let first = scan_change s read tail k e in
          let same = decode_further p (λ x. let z : ◌≡◌ {A = ℕ} 0 1 = cc in omega arith) ∙ e in
          rw (first, scan_change s read stop (omega arith) same)
          (ap (item p (change kind page slot number copy (span read (p + 3) width)))
          (later next (omega (arith, f.next_eq)) f.next_le (rw first at well)))
      go (yes k) (Close kind number next) e later =
          let f = found_close s read tail e in
          let first = scan_close s read tail k e in
          let same = decode_further p (λ x. let z : ◌≡◌ {A = ℕ} 0 1 = cc in omega arith) ∙ e in
          rw (first, scan_close s read stop (omega arith) same)
          (ap (item p (close kind number)) (later next (omega (arith, f.next_eq)) f.next_le (rw first at well)))
      go (yes k) Malformed e later =
          let broken = sym well ∙ ap ending (scan_bad s read tail k e) in
          let z : ◌≡◌ {A = ℕ} 0 1 = cc in
          absurd (omega arith)

  pub read_as_one : (p : ℕ) → ending (scan s read tail p) ≡ end → ring_then_buffer s read tail stop p ≡ scan s read stop p
  unfolding ring_then_buffer and_then
  read_as_one p well = go (dec_lt p tail)
    where
      go : Dec (p < tail) → and_then (scan s read tail p) (scan s read stop (max tail p)) ≡ scan s read stop p
      go (yes k) =
          let from : max tail p ≡ tail = omega arith in
          rw from (through (tail - p) p (omega arith) (omega arith) well)
      go (no k) =
          let from : max tail p ≡ p = omega arith in
          rw (scan_end s read tail p (omega arith), from) refl

  pub parts_as_one : (p : ℕ) → ending (ring_then_buffer s read tail stop p) ≡ end → ring_then_buffer s read tail stop p ≡ scan s read stop p
  unfolding ring_then_buffer
  parts_as_one p well = read_as_one p (then_ending (scan s read tail p) (scan s read stop (max tail p)) well)

  pub parts_end : (p : ℕ) → stop ≤ p → ring_then_buffer s read tail stop p ≡ end
  unfolding ending
  parts_end p past = read_as_one p (ap ending (scan_end s read tail p (omega arith))) ∙ scan_end s read stop p past

-- The positions rise, and what holds of every record that may be read holds of these.
module _ (s : Sizes) (read : ℕ → ℕ) (tail stop p : ℕ) where
  pub parts_rise : Rises p (ring_then_buffer s read tail stop p)
  unfolding ring_then_buffer
  parts_rise =
      then_rises p (max tail p) (scan s read tail p) (scan s read stop (max tail p)) (omega arith) (scan_rises s read tail p)
      (λ i m. omega (arith, scan_before s read tail p i m)) (scan_rises s read stop (max tail p))

  pub parts_items : (P : Item → Type 0) → ((end from : ℕ) → Every P (items (scan s read end from)))
      → Every P (items (ring_then_buffer s read tail stop p))
  unfolding ring_then_buffer
  parts_items P h = then_items P (scan s read tail p) (scan s read stop (max tail p)) (h tail p) (h stop (max tail p))

  pub parts_fault : (disk : ℕ) (rest : Option BadRecord)
      → fault_in disk (ring_then_buffer s read tail stop p) rest
      ≡ fault_in disk (scan s read tail p) (fault_in disk (scan s read stop (max tail p)) rest)
  unfolding ring_then_buffer
  parts_fault disk rest = then_fault disk (scan s read tail p) (scan s read stop (max tail p)) rest
