-- What the replay of a log adds to each word of the pages, and so what a restart makes of an image, word by word.
use mathlib.Core.Path.{◌≡◌, refl, sym, ap, ◌∙◌}
use mathlib.Core.List.{List}
use mathlib.Core.Bool.{Bool, true, false, cond}
use Prim.Native.Nat.{ℕ, zero, suc, ◌+◌, ◌-◌, ◌≤◌, ◌<◌}
use native.Mathlib.Omega.{arith}
use native.Mathlib.Decide.{dec_lt}
use lib.ListN.{length, get_or}
use Rattle.model.specs.declared.Sizes.{Sizes}
use Rattle.model.specs.declared.Decoded.{Decoded}
use Rattle.model.specs.declared.Decoded.TheVariants.{Change, Close, Malformed}
use Rattle.model.specs.Word.{◌⊕◌}
use Rattle.model.specs.Sizes.{slot_base, total}
use Rattle.model.specs.Record.{change, close}
use Rattle.model.specs.Decode.{span, decode_at}
use Rattle.model.specs.Scan.{Scan, end, bad, item, scanned, scan, fate_in}
use Rattle.model.specs.Restart.{replays}
use Rattle.model.specs.Image.{Image, xor_at, replayed, log_of, replayed_below, restarted}
use Rattle.model.proofs.Ledger.Entry.{mask, share}
use Rattle.model.proofs.Xor.{⊕-assoc, ⊕-comm, ⊕-zero-r}
use Rattle.model.proofs.Decode.{Found, found}
use Rattle.model.proofs.Scan.{scan_end, scan_step}
use Rattle.model.proofs.Restart.Words.{xor_below, length_xor_at, xor_at_word}
use Rattle.model.proofs.Geometry.{slot_end_total}

-- what the replayed records of a log add to word x
unfoldable pub gain : Sizes → ℕ → Scan → ℕ → ℕ
gain s c end x = 0
gain s c (bad p) x = 0
gain s c (item p (close kind number) rest) x = gain s c rest x
gain s c (item p (change kind page slot number copy diff) rest) x =
    mask (replays c (fate_in number rest) copy) (share (slot_base s page slot) diff x) ⊕ gain s c rest x

-- what the logs of the disks below n of an image add to word x
unfoldable pub gains : Image → ℕ → ℕ → ℕ
gains i n x = xor_below (λ d. gain i.sizes i.epoch (log_of i d) x) n

-- every change of the log lies within the pages
abbrev pub Fitting : Sizes → Scan → Type 0
Fitting s end = Unit {0}
Fitting s (bad p) = Unit {0}
Fitting s (item p (close kind number) rest) = Fitting s rest
Fitting s (item p (change kind page slot number copy diff) rest) = (slot_base s page slot + length diff ≤ total s) × Fitting s rest

pub length_span : (read : ℕ → ℕ) (p n : ℕ) → length (span read p n) ≡ n
unfolding span
length_span read p zero = refl
length_span read p (suc n) = ap suc (length_span read (p + 1) n)

-- decode admits only a page, slot and width of the sizes, so every log that is read fits
module _ (s : Sizes) (read : ℕ → ℕ) (stop : ℕ) where
  decoded_fitting : (p : ℕ) (d : Decoded) → Found s stop p d → (rest : ℕ → Scan) → ((q : ℕ) → p < q → Fitting s (rest q))
      → Fitting s (scanned read p d rest)
  decoded_fitting p (Change kind page slot number copy width next) f rest fits =
      (fit, fits next (omega arith))
    where
      fit : slot_base s page slot + length (span read (p + 3) width) ≤ total s
      fit = omega (arith, length_span read (p + 3) width, slot_end_total s page slot f.page_in f.slot_in)
  decoded_fitting p (Close kind number next) f rest fits = fits next (omega arith)
  decoded_fitting p Malformed f rest fits = tt

  fitting_within : (n p : ℕ) → stop - p ≤ n → Fitting s (scan s read stop p)
  fitting_within zero p h = rw (scan_end s read stop p (omega arith)) tt
  fitting_within (suc n) p h = go (dec_lt p stop) (λ q l k. fitting_within n q (omega arith))
    where
      go : Dec (p < stop) → ((q : ℕ) → p < q → p < stop → Fitting s (scan s read stop q)) → Fitting s (scan s read stop p)
      go (yes k) rest =
          rw (scan_step s read stop p k)
          (decoded_fitting p (decode_at s read stop p) (found s read stop p) (scan s read stop) (λ q l. rest q l k))
      go (no k) rest = rw (scan_end s read stop p (omega arith)) tt

  pub scan_fitting : (p : ℕ) → Fitting s (scan s read stop p)
  scan_fitting p = fitting_within (stop - p) p (omega arith)

-- one record: XORed in or not
module _ (at : ℕ) (diff words : List ℕ) where
  pub choice_length : (b : Bool) → length (cond b (xor_at at diff words) words) ≡ length words
  choice_length true = length_xor_at at diff words
  choice_length false = refl

  pub choice_word : (b : Bool) (x : ℕ) → at + length diff ≤ length words
      → get_or (cond b (xor_at at diff words) words) x 0 ≡ get_or words x 0 ⊕ mask b (share at diff x)
  choice_word true x h = xor_at_word at diff words x h
  choice_word false x h = sym (⊕-zero-r (get_or words x 0))

-- a log replayed adds its gain to every word
module _ (s : Sizes) (c : ℕ) where
  pub length_replayed : (log : Scan) (words : List ℕ) → length (replayed s c log words) ≡ length words
  unfolding replayed
  length_replayed end words = refl
  length_replayed (bad p) words = refl
  length_replayed (item p (close kind number) rest) words = length_replayed rest words
  length_replayed (item p (change kind page slot number copy diff) rest) words =
      length_replayed rest _ ∙ choice_length (slot_base s page slot) diff words (replays c (fate_in number rest) copy)

  pub replayed_word : (log : Scan) (words : List ℕ) (x : ℕ) → Fitting s log → length words ≡ total s
      → get_or (replayed s c log words) x 0 ≡ get_or words x 0 ⊕ gain s c log x
  unfolding replayed gain
  replayed_word end words x f e = sym (⊕-zero-r (get_or words x 0))
  replayed_word (bad p) words x f e = sym (⊕-zero-r (get_or words x 0))
  replayed_word (item p (close kind number) rest) words x f e = replayed_word rest words x f e
  replayed_word (item p (change kind page slot number copy diff) rest) words x f e =
      replayed_word rest _ x f.1 (choice_length (slot_base s page slot) diff words (replays c (fate_in number rest) copy) ∙ e)
      ∙ ap (λ (v : ℕ). v ⊕ gain s c rest x)
      (choice_word (slot_base s page slot) diff words (replays c (fate_in number rest) copy) x (omega (arith, f.0)))
      ∙ ⊕-assoc (get_or words x 0) _ (gain s c rest x)

-- the pages that a restart makes of an image: the backup's word, and the gains of all logs
module _ (i : Image) where
  log_fitting : (d : ℕ) → Fitting i.sizes (log_of i d)
  unfolding log_of
  log_fitting d = scan_fitting i.sizes _ _ _

  length_below : (n : ℕ) (words : List ℕ) → length (replayed_below i n words) ≡ length words
  unfolding replayed_below
  length_below zero words = refl
  length_below (suc n) words = length_replayed i.sizes i.epoch (log_of i n) _ ∙ length_below n words

  below_word : (n : ℕ) (words : List ℕ) (x : ℕ) → length words ≡ total i.sizes
      → get_or (replayed_below i n words) x 0 ≡ get_or words x 0 ⊕ gains i n x
  unfolding replayed_below gains xor_below
  below_word zero words x e = sym (⊕-zero-r (get_or words x 0))
  below_word (suc n) words x e =
      replayed_word i.sizes i.epoch (log_of i n) _ x (log_fitting n) (length_below n words ∙ e)
      ∙ ap (λ (v : ℕ). v ⊕ gain i.sizes i.epoch (log_of i n) x) (below_word n words x e)
      ∙ ⊕-assoc (get_or words x 0) (gains i n x) _
      ∙ ap (λ (v : ℕ). get_or words x 0 ⊕ v) (⊕-comm (gains i n x) _)

  pub length_restarted : length i.backup ≡ total i.sizes → length (restarted i) ≡ total i.sizes
  unfolding restarted
  length_restarted e = length_below i.sizes.disks i.backup ∙ e

  pub restarted_word : (x : ℕ) → length i.backup ≡ total i.sizes
      → get_or (restarted i) x 0 ≡ get_or i.backup x 0 ⊕ gains i i.sizes.disks x
  unfolding restarted
  restarted_word x e = below_word i.sizes.disks i.backup x e
