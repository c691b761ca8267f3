-- Records laid one after the other: what comes of those that are left is what comes of all of them.
use Prim.Native.Nat.{ℕ, zero, suc, ◌+◌, ◌-◌, ◌≤◌, ◌<◌}
use mathlib.Core.Path.{◌≡◌, refl, sym, ap, ◌∙◌}
use mathlib.Core.List.{List, ◌∷◌, ◌++◌}
use native.Mathlib.Omega.{arith}
use lib.ListN.{length}
use mathlib.Core.Bool.{true}
use Rattle.model.specs.declared.Sizes.{Sizes}
use Rattle.model.specs.declared.Decoded.{Decoded}
use Rattle.model.specs.declared.Decoded.TheVariants.{Change, Close, Malformed}
use Rattle.model.specs.Sizes.{sizes_in_bounds}
use Rattle.model.specs.Decode.{span, decode_at}
use Rattle.model.specs.Scan.{scan}
use Rattle.model.specs.Listing.{Listed, shown_line, heading, line_of, listed_in, on_pages}
use Rattle.model.proofs.Bounds.{bounded}
use Rattle.model.proofs.Decode.{found_change, found_close}
use Rattle.model.proofs.Scan.{scan_end, scan_change, scan_close, scan_bad}
use Rattle.listing.specs.Laid.{laid_line, laid}
use Rattle.listing.specs.Sheets.{shown_of, Fits, listed_as, Listing, finished}

same_listing : {a b : List ℕ} {m n : ℕ} → a ≡ b → m ≡ n
    → ◌≡◌ {A = Listing} (record { bytes = a; lines = m }) (record { bytes = b; lines = n })
same_listing p q = rw (p, q)

-- the next record: at the top of a page behind a heading, else on this page
module _ (first line left disk position : ℕ) (here : Decoded) (more : List Listed) (out : List ℕ) where
  abbrev text : List ℕ
  text = shown_line disk position (shown_of here)

  pub next_page : left ≡ 0 → {headed after : List ℕ} → headed ≡ laid_line first line heading out → after ≡ laid_line first (line + 1) text headed
      → finished first (record { line = line + 2; left = 59 }) more after
      ≡ finished first (record { line = line; left = left }) (listed_as disk position here ∷ more) out
  unfolding finished on_pages laid line_of
  next_page top one two =
      let on : line + 2 ≡ line + 1 + 1 = omega arith in
      rw (top, two, one) (same_listing (ap (λ (l : ℕ). laid first l (on_pages 59 more) (laid_line first (line + 1) text (laid_line first line heading out))) on) (omega arith))

  pub next_line : (left ≡ 0 → ⊥) → {after : List ℕ} → after ≡ laid_line first line text out
      → finished first (record { line = line + 1; left = left - 1 }) more after
      ≡ finished first (record { line = line; left = left }) (listed_as disk position here ∷ more) out
  unfolding finished on_pages laid line_of
  next_line ne one =
      let some : left ≡ suc (left - 1) = omega arith in
      let pages : on_pages left (listed_as disk position here ∷ more) ≡ text ∷ on_pages (left - 1) more =
      ap (λ (n : ℕ). on_pages n (listed_as disk position here ∷ more)) some in
      rw (pages, one) (same_listing refl (omega arith))

pub length_span : (read : ℕ → ℕ) (p n : ℕ) → length (span read p n) ≡ n
unfolding span
length_span read p zero = refl
length_span read p (suc n) = ap suc (length_span read (p + 1) n)

-- a record, and where the next one begins
abbrev pub Next : Decoded → ℕ → Type 0
Next (Change kind page slot number copy width to) next = next ≡ to
Next (Close kind number to) next = next ≡ to
Next Malformed next = ⊥

module _ (s : Sizes) (read : ℕ → ℕ) (stop p disk : ℕ) (more : List Listed) where
  pub listed_end : stop ≤ p → listed_in disk (scan s read stop p) ++ more ≡ more
  unfolding listed_in
  listed_end h = rw (scan_end s read stop p h)

  module _ {r : Decoded} (is : r ≡ decode_at s read stop p) (h : p < stop) where
    pub listed_bad : r ≡ Malformed → listed_in disk (scan s read stop p) ++ more ≡ more
    unfolding listed_in
    listed_bad e = rw (scan_bad s read stop h (sym is ∙ e))

    pub listed_next : (next : ℕ) → Next r next
        → listed_as disk p r ∷ (listed_in disk (scan s read stop next) ++ more) ≡ listed_in disk (scan s read stop p) ++ more
    unfolding listed_in
    listed_next next n = go r is n
      where
        go : (d : Decoded) → d ≡ decode_at s read stop p → Next d next
            → listed_as disk p d ∷ (listed_in disk (scan s read stop next) ++ more) ≡ listed_in disk (scan s read stop p) ++ more
        go (Change kind page slot number copy width to) e n = rw (n, scan_change s read stop h (sym e), length_span read (p + 3) width)
        go (Close kind number to) e n = rw (n, scan_close s read stop h (sym e))
        go Malformed e n = absurd n

-- what is decoded fits its columns, and has two words or more
pub record Far (stop p : ℕ) (r : Decoded) (next : ℕ) : Type 0 where
  pub fits : Fits r
  pub far : p + 2 ≤ next
  pub within : next ≤ stop

pub next_far : (s : Sizes) → sizes_in_bounds s ≡ true → (read : ℕ → ℕ) (stop p : ℕ) {r : Decoded} (next : ℕ) → r ≡ decode_at s read stop p → Next r next
    → Far stop p r next
next_far s ok read stop p {r} next is n = go r is n
  where
    go : (d : Decoded) → d ≡ decode_at s read stop p → Next d next → Far stop p d next
    go (Change kind page slot number copy width to) e n =
        let f = found_change s read stop (sym e) in
        let w = bounded s ok in
        record { fits = (omega (arith, f.page_lt), omega (arith, f.slot_lt), omega (arith, f.width_eq, (w.used page f.page_in).width_max)); far = omega (arith, f.next_eq); within = omega (arith, f.next_le) }
    go (Close kind number to) e n =
        let f = found_close s read stop (sym e) in
        record { fits = tt; far = omega (arith, f.next_eq); within = omega (arith, f.next_le) }
    go Malformed e n = absurd n
