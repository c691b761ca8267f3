-- What is listed of an accepted image is clear: check 7 leaves no record that a line could not show.
use mathlib.Core.Path.{◌≡◌, refl}
use mathlib.Core.List.{List, []}
use Prim.Native.Nat.{ℕ, ◌+◌, ◌^◌, ◌≤◌, ◌<◌}
use native.Mathlib.Omega.{arith}
use lib.Dec.{ltb}
use Rattle.model.specs.declared.Sizes.{Sizes}
use Rattle.model.specs.declared.Decoded.{Decoded}
use Rattle.model.specs.declared.Decoded.TheVariants.{Change, Close, Malformed}
use Rattle.model.specs.Word.{OfBits}
use Rattle.model.specs.Sizes.{ring_word}
use Rattle.model.specs.Anchor.{sizes_on, start_on}
use Rattle.model.specs.Record.{Record}
use Rattle.model.specs.Decode.{read_log, decode_at}
use Rattle.model.specs.Scan.{Scan, end, bad, item}
use Rattle.model.specs.State.{limit}
use Rattle.model.specs.Causes.{tail_in, retained_from}
use Rattle.model.specs.Listing.{shown, Listed, listed_in, listed_on}
use Rattle.model.specs.ListingLaws.{ClearShown, Clear, Listable, ListedClear, number_shown, ListedNumbers}
use Rattle.model.proofs.Booleans.{cond_all}
use Rattle.model.proofs.Members.{Every, every_nil, every_cons, every_join}
use Rattle.model.proofs.Bounds.{Bounded, bounded}
use Rattle.model.proofs.Decode.{Found, found, decoded_all}
use Rattle.model.proofs.Reading.{Decodes, Reads, scan_reads}
use Rattle.model.proofs.Checked.{rows_checked}
use Rattle.model.proofs.Restart.Gain.{length_span}

-- A log that is read with sizes in bounds up to a stop gives clear records before that stop.
module _ (s : Sizes) (b : Bounded s) (read : ℕ → ℕ) (stop : ℕ) where
  clear_record : (p : ℕ) (d : Decoded) (r : Record) (next : ℕ) → Found s stop p d → Decodes read p d r next → ClearShown (shown r)
  clear_record p (Change kind page slot number copy width to) r next f h =
      rw h.0 (record {
        kind_lt = f.kind_lt;
        page_lt = f.page_lt;
        slot_lt = f.slot_lt;
        width_le = omega (arith, length_span read (p + 3) width, (b.used page f.page_in).width_max);
      })
  clear_record p (Close kind number to) r next f h = rw h.0 (record { kind_ge = f.kind_ge; kind_lt = f.kind_lt })
  clear_record p Malformed r next f h = absurd h

  clear_reads : (disk p : ℕ) (sc : Scan) → disk < s.disks → stop ≤ limit → Reads s read stop p sc
      → Every (λ (e : Listed). Clear e × (e.disk < s.disks)) (listed_in disk sc)
  unfolding listed_in
  clear_reads disk p end l low h = every_nil _
  clear_reads disk p (bad q) l low h = every_nil _
  clear_reads disk p (item q r rest) l low h =
      every_cons (λ (e : Listed). Clear e × (e.disk < s.disks)) _ (listed_in disk rest) (
        record {
          disk_lt = omega (arith, b.disks_max);
          position_lt = omega (arith, h.0, h.1);
          content_clear = clear_record p (decode_at s read stop p) r h.2.0 (found s read stop p) h.2.2;
        },
        l,
      )
      (clear_reads disk h.2.0 rest l low h.2.3)

-- The number of a decoded record is the word behind its first.
abbrev Numbered : ℕ → Decoded → Type 0
Numbered n (Change kind page slot number copy width next) = number ≡ n
Numbered n (Close kind number next) = number ≡ n
Numbered n Malformed = Unit {0}

numbered : (s : Sizes) (read : ℕ → ℕ) (stop p : ℕ) → Numbered (read (p + 1)) (decode_at s read stop p)
unfolding decode_at
numbered s read stop p =
    decoded_all (λ (d : Decoded). Numbered (read (p + 1)) d) s stop p (read p) (read (p + 1)) (read (p + 2)) tt (λ k f m. refl) (λ k l f z. refl)

abbrev Small : Listed → Type 0
Small e = number_shown e.content < 2 ^ 64

-- So the numbers of a log of words are words.
module _ (s : Sizes) (read : ℕ → ℕ) (words : (p : ℕ) → read p < 2 ^ 64) (stop : ℕ) where
  small_record : (p : ℕ) (d : Decoded) (r : Record) (next : ℕ) → Numbered (read (p + 1)) d → Decodes read p d r next → number_shown (shown r) < 2 ^ 64
  small_record p (Change kind page slot number copy width to) r next e h = rw h.0 (omega (arith, e, words (p + 1)))
  small_record p (Close kind number to) r next e h = rw h.0 (omega (arith, e, words (p + 1)))
  small_record p Malformed r next e h = absurd h

  small_reads : (disk p : ℕ) (sc : Scan) → Reads s read stop p sc → Every Small (listed_in disk sc)
  unfolding listed_in
  small_reads disk p end h = every_nil Small
  small_reads disk p (bad q) h = every_nil Small
  small_reads disk p (item q r rest) h =
      every_cons Small _ (listed_in disk rest) (small_record p (decode_at s read stop p) r h.2.0 (numbered s read stop p) h.2.2)
      (small_reads disk h.2.0 rest h.2.3)

read_words_lem : (s : Sizes) (logs : List ℕ) (disk tail : ℕ) → OfBits 64 logs → (p : ℕ) → read_log s logs disk tail [] p < 2 ^ 64
unfolding OfBits read_log
read_words_lem s logs disk tail words p = cond_all (λ (w : ℕ). w < 2 ^ 64) (ltb p tail) (λ _. words (ring_word s disk p)) (λ _. omega arith)

pub listed_clear : ListedClear
unfolding ListedClear listed_on retained_from
listed_clear anchor logs h =
    let s : Sizes = sizes_on anchor in
    let c = (rows_checked h.others anchor logs h.passed).0 in
    every_join (λ (e : Listed). Clear e × (e.disk < s.disks)) (λ disk. listed_in disk (retained_from s (start_on anchor) logs disk)) s.disks
    (λ disk l.
    let tail : ℕ = tail_in s logs disk in
    clear_reads s (bounded s c.bounds) (read_log s logs disk tail []) tail disk (start_on anchor disk) _ l
    (c.whole.tails disk l).2 (scan_reads s (read_log s logs disk tail []) tail (start_on anchor disk)))

pub clear_on : (anchor logs : List ℕ) → Listable anchor logs → Every Clear (listed_on anchor logs)
unfolding ListedClear
clear_on anchor logs h e m = (listed_clear anchor logs h e m).0

pub listed_numbers : ListedNumbers
unfolding ListedNumbers listed_on retained_from
listed_numbers anchor logs words =
    let s : Sizes = sizes_on anchor in
    every_join Small (λ disk. listed_in disk (retained_from s (start_on anchor) logs disk)) s.disks
    (λ disk l.
    let tail : ℕ = tail_in s logs disk in
    small_reads s (read_log s logs disk tail []) (read_words_lem s logs disk tail words) tail disk (start_on anchor disk) _
    (scan_reads s (read_log s logs disk tail []) tail (start_on anchor disk)))
